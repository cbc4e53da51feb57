use Rattle.std.proofs.Common.{◌≡◌, ◌++◌, map, get_or, take, drop}
use Rattle.block.proofs.substitute.Given as goal

abbrev pub invariant-loop-x : goal.invariant-loop-x
invariant-loop-x l = l.block ≡ map (λ x. get_or l.table x 0) (take l.x-index l.initial.block) ++ drop l.x-index l.initial.block
