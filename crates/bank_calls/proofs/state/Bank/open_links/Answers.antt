use Rattle.std.proofs.Common.{◌≡◌, sym, ap, ◌∙◌, arith, rules}
use Rattle.std.specs.List.{count_by}
use Rattle.std.proofs.lemmas.List.{take_all}
use Rattle.shelf.specs.Standing.{standing}
use Rattle.link.specs.declared.Link.{Link}
use Rattle.bank_calls.proofs.Seen.{counted, eight_seen}
use Rattle.bank_calls.proofs.state.Bank.open_links.Goals as goal

pub returns : goal.returns
returns g c memory =
    let b = c.args.self.now in
    let n : c.count.result ≡ count_by (λ (l : Link). l.open) b.links = search rules in
    n ∙ ap (count_by (λ (l : Link). l.open)) (sym (take_all 8 b.links (omega (arith, b.eight)))) ∙ counted b.links 8 (omega (arith, b.eight)) ∙ eight_seen (standing b.shelf.book) b.links memory
