use Rattle.std.proofs.Common.{◌≡◌, ℕ, ◌+◌, ◌-◌, ◌*◌, ◌≤◌, List, length, take, drop, ◌∙◌, arith}
use Rattle.block.proofs.Loops.{fitted_whole}
use Rattle.block.proofs.Words.{word_end, word_more, each_word_none}
use Rattle.field.specs.Matrix.{apply}
use Rattle.field.proofs.Matrices.{length_apply}
use Rattle.field.proofs.apply_each.Goals as goal

pub loop-i-init : goal.loop-i-init
loop-i-init g c = each_word_none g.row.T (apply c.args.poly c.args.m.now) c.args.block.now

pub loop-i-preserved : goal.loop-i-preserved
loop-i-preserved g c =
    let p = c.args.poly in
    let m = c.args.m.now in
    let i = c.loop-i.i in
    let t = g.row.T in
    let h : i * t + t ≤ 4 * t = word_end i t c.loop-i-test.true in
    let w = take (i * t + t - i * t) (drop (i * t) c.loop-i.block) in
    let long : (v : List ℕ) → length (apply p m v) ≡ t = λ v. length_apply p m v ∙ c.told-m in
    word_more t (apply p m) (λ v l. long v) i (i * t + t - i * t) c.args.block.now c.loop-i.block c.copy_from_slice.new.self
    (omega arith) (omega arith) c.loop-i.invariant (c.copy_from_slice.ensures.after ∙ c.apply-product.ensures ∙ fitted_whole t (apply p m w) (long w))
