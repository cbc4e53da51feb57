use Rattle.std.proofs.Common.{sym, subst, vec_items}
use Rattle.bank.specs.Past.{New}
use Rattle.patrol.specs.Radios.{links_books}
use Rattle.patrol.specs.declared.radio.Links.{Links}
use Rattle.patrol.proofs.radio.Radio.over.Goals as goal
use Rattle.patrol.proofs.radio.Radio.over.Goals.{in-Narrow, in-Wide}

pub returns-clause-links : goal.returns-clause-links
returns-clause-links c =
    let m = vec_items c.new.result in
    let P : Links → Type 0 = λ l. New 0 (links_books l m) in
    elim c.match-cipher.branch [
      | in-Narrow w ↦ subst P (sym w.result-is) (w.over.ensures.books m)
      | in-Wide w ↦ subst P (sym w.result-is) (w.over-in-Wide.ensures.books m)
    ]
