use Rattle.std.proofs.Common.{◌≡◌, ◌-◌, ◌++◌, map, take, drop}
use Rattle.mkv.proofs.schedule.complement.Given as goal

abbrev pub invariant-loop-x : goal.invariant-loop-x
invariant-loop-x l = l.block ≡ map (λ x. 255 - x) (take l.x-index l.initial.block) ++ drop l.x-index l.initial.block
