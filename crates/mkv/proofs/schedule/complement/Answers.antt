use Rattle.std.proofs.Common.{◌-◌, get_or, arith}
use Rattle.std.proofs.lemmas.List.{get_or_default}
use Rattle.std.proofs.lemmas.List.Edits.{map_over_more}
use Rattle.mkv.proofs.schedule.complement.Goals as goal

pub loop-x-preserved : goal.loop-x-preserved
loop-x-preserved c =
    let l = c.loop-x in
    let x = get_or l.block l.x-index 0 in
    map_over_more (λ x. 255 - x) c.args.block.now l.block l.x-index x c.loop-x-test.true l.invariant
    (get_or_default l.block l.x-index 0 x (omega arith))
