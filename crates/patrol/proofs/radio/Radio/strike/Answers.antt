use Rattle.std.proofs.Common.{sym, subst}
use Rattle.bank.specs.Calls.{Strikes}
use Rattle.bank_calls.specs.Seen.{books}
use Rattle.patrol.specs.Radios.{key_memory, links_books}
use Rattle.patrol.specs.declared.radio.Links.{Links}
use Rattle.patrol.proofs.radio.Radio.strike.Goals as goal

pub returns-in-Narrow-clause-outcome : goal.returns-in-Narrow-clause-outcome
returns-in-Narrow-clause-outcome c =
    let m = key_memory c.args.self.now in
    let P : Links → Type 0 = λ l. Strikes (links_books l m) c.args.ticket.link (books c.strike.new.self m) in
    subst P (sym c.in-Narrow.is) (c.strike.ensures.outcome m)

pub returns-in-Wide-clause-outcome : goal.returns-in-Wide-clause-outcome
returns-in-Wide-clause-outcome c =
    let m = key_memory c.args.self.now in
    let P : Links → Type 0 = λ l. Strikes (links_books l m) c.args.ticket.link (books c.strike-in-Wide.new.self m) in
    subst P (sym c.in-Wide.is) (c.strike-in-Wide.ensures.outcome m)
