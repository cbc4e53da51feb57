use Rattle.std.proofs.Common.{◌≡◌, sym, ◌∙◌, rules}
use Rattle.modes.specs.Padding.{text_end}
use Rattle.modes.proofs.Paddings.{end_none, end_last, answered}
use Rattle.modes.proofs.padding.text_end.Goals as goal

pub returns-in_err-i : goal.returns-in_err-i
returns-in_err-i c =
    let b = c.args.block.now in
    let is : c.from_residual.result ≡ text_end b = (search rules) ∙ sym (end_none b (search rules)) in
    record { found = is; law = answered b c.from_residual.result is }

pub returns : goal.returns
returns c =
    let b = c.args.block.now in
    let i = c.in_ok-i.i in
    let is : c.then_some.result ≡ text_end b = (search rules) ∙ sym (end_last b i (search rules) (search rules) (search rules)) in
    record { found = is; law = answered b c.then_some.result is }
