use Rattle.std.proofs.Common.{◌≡◌, length, take}
use Rattle.block.specs.Bytes.{xor}
use Rattle.block.proofs.Loops.{over}
use Rattle.block.proofs.xor_into.Given as goal

abbrev pub invariant-loop-i : goal.invariant-loop-i
invariant-loop-i l = l.block ≡ over (take (length l.initial.block) (xor l.initial.block l.by)) l.initial.block l.i
