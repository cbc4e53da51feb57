use Rattle.std.proofs.Common.{ℕ, ◌++◌, map, get_or, set, ◌∙◌, ap, ap₂, arith}
use Rattle.std.proofs.lemmas.List.{take_all, drop_all, append-nil, get_or_default}
use Rattle.std.proofs.lemmas.List.Edits.{map_over_more}
use Rattle.block.specs.Table.{sub}
use Rattle.block.proofs.substitute.Goals as goal

pub loop-x-preserved : goal.loop-x-preserved
loop-x-preserved c =
    let l = c.loop-x in
    let x = get_or l.block l.x-index 0 in
    ap (λ v. set l.block l.x-index (get_or c.args.table.now v 0)) c.from.ensures ∙
    map_over_more (λ x. get_or c.args.table.now x 0) c.args.block.now l.block l.x-index x c.loop-x-test.true l.invariant
    (get_or_default l.block l.x-index 0 x (omega arith))

pub returns : goal.returns
unfolding sub
returns c =
    let f : ℕ → ℕ = λ x. get_or c.args.table.now x 0 in
    let b = c.args.block.now in
    c.loop-x.invariant ∙ ap₂ (λ u w. map f u ++ w) (take_all c.loop-x.x-index b c.loop-x-test.false) (drop_all c.loop-x.x-index b c.loop-x-test.false)
    ∙ append-nil (map f b)
