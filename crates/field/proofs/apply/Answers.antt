use Rattle.std.proofs.Common.{◌≡◌, zero, ◌≤◌, length, replicate, sym, ap, ◌∙◌, arith}
use lib.ListN.{length-replicate}
use Rattle.std.proofs.lemmas.List.{get_or-replicate, get_or-take, get_or_past, length-take}
use Rattle.block.specs.Bytes.{fitted}
use Rattle.block.proofs.Loops.{over_more, over_all, length_fitted, get_or_fitted}
use Rattle.field.specs.Matrix.{dot, apply}
use Rattle.field.proofs.Matrices.{length_apply, get_or_apply}
use Rattle.field.proofs.apply.Goals as goal

pub loop-i-preserved : goal.loop-i-preserved
loop-i-preserved g c =
    let p = c.args.poly in
    let m = c.args.m.now in
    let v = c.args.v.now in
    let t = g.row.T in
    let i = c.loop-i.i in
    let row = c.row-item.result in
    let rows = length-take c.min-rows.result m in
    let n : length (replicate t zero) ≡ t = length-replicate t zero in
    over_more (fitted t (apply p m v)) (replicate t zero) c.loop-i.out i c.dot.result c.loop-i.invariant (omega arith) (length_fitted t (apply p m v) ∙ sym n)
    (c.dot.ensures ∙ ap (λ r. dot p r v) (c.row-item.is ∙ get_or-take c.min-rows.result m i row (omega arith)) ∙ sym (get_or_fitted t (apply p m v) i (omega arith) ∙ get_or_apply p m v i row (omega arith)))

pub returns : goal.returns
returns g c =
    let p = c.args.poly in
    let m = c.args.m.now in
    let v = c.args.v.now in
    let t = g.row.T in
    let n : length (replicate t zero) ≡ t = length-replicate t zero in
    let rows = length_apply p m v in
    let reached = length-take c.min-rows.result m in
    c.loop-i.invariant
    ∙ over_all (fitted t (apply p m v)) (replicate t zero) c.loop-i.i (length_fitted t (apply p m v) ∙ sym n) (λ k h l.
    let past : length (apply p m v) ≤ k = omega arith in
    get_or-replicate t k zero 0 (omega arith) ∙ sym (get_or_fitted t (apply p m v) k (omega arith) ∙ get_or_past (apply p m v) k 0 past))
