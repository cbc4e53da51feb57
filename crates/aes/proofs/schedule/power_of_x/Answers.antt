use Rattle.std.proofs.Common.{◌≡◌, ◌+◌, length, refl, ap, ◌∙◌, arith, rules}
use Rattle.std.specs.List.{range_with_len}
use Rattle.std.proofs.lemmas.List.FromFn.{length-range_with_len}
use Rattle.std.proofs.lemmas.Iterator.{YieldsList-from_range}
use Rattle.std.proofs.lemmas.Iterator.Consumers.{fold_from_yields_List}
use Rattle.field.specs.Byte.{times_x}
use Rattle.field.specs.Known.{aes_poly}
use Rattle.aes.specs.Keys.{x_power}
use Rattle.aes.specs.KeysLemmas.{times_each}
use Rattle.aes.proofs.schedule.power_of_x.Goals as goal

pub returns : goal.returns
unfolding x_power
returns c =
    let n = c.args.n in
    let long : length (range_with_len 0 n) + 0 ≡ n = omega (arith, length-range_with_len 0 n) in
    fold_from_yields_List _ (λ p _. times_x aes_poly p) 1 c.fold.result c.fold.ensures.ran (YieldsList-from_range 0 n n refl (omega arith)) (λ a x b q h. search rules)
    ∙ times_each 0 (range_with_len 0 n) ∙ ap x_power long
