use Rattle.std.proofs.Common.{◌≡◌, slice_index, refl, rules}
use Rattle.aes.specs.Steps.{moved, from_past}
use Rattle.aes.proofs.Filled.{filled}
use Rattle.aes.proofs.round.turn_rows.Goals as goal

pub returns : goal.returns
unfolding moved
returns c =
    let b = c.args.block.now in
    let by = c.args.by in
    filled _ (λ f. (f.0.now ≡ b) × (f.1.now ≡ by)) (λ i. slice_index b (from_past by i)) (λ f i y q p called. search rules) 16 _ c.from_fn.result (refl, refl) c.from_fn.ensures.items
