use Rattle.std.proofs.Common.{ℕ, sym, ap, ◌∙◌}
use Rattle.bank.specs.Books.{links}
use Rattle.patrol.specs.Radios.{key_memory, links_books}
use Rattle.patrol.specs.declared.radio.Links.{Links}
use Rattle.patrol.proofs.radio.Radio.count.Goals as goal

pub returns-in-Narrow-clause-free : goal.returns-in-Narrow-clause-free
returns-in-Narrow-clause-free c =
    let m = key_memory c.args.self.now in
    let room : Links → ℕ = λ l. (links_books l m).room in
    c.count.ensures.free m ∙ ap room (sym c.in-Narrow.is)

pub returns-in-Narrow-clause-links : goal.returns-in-Narrow-clause-links
returns-in-Narrow-clause-links c =
    let m = key_memory c.args.self.now in
    let many : Links → ℕ = λ l. links (links_books l m) in
    c.count.ensures.open m ∙ ap many (sym c.in-Narrow.is)

pub returns-in-Wide-clause-free : goal.returns-in-Wide-clause-free
returns-in-Wide-clause-free c =
    let m = key_memory c.args.self.now in
    let room : Links → ℕ = λ l. (links_books l m).room in
    c.count-in-Wide.ensures.free m ∙ ap room (sym c.in-Wide.is)

pub returns-in-Wide-clause-links : goal.returns-in-Wide-clause-links
returns-in-Wide-clause-links c =
    let m = key_memory c.args.self.now in
    let many : Links → ℕ = λ l. links (links_books l m) in
    c.count-in-Wide.ensures.open m ∙ ap many (sym c.in-Wide.is)
