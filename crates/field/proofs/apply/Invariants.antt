use Rattle.std.proofs.Common.{◌≡◌, replicate}
use Rattle.block.specs.Bytes.{fitted}
use Rattle.block.proofs.Loops.{over}
use Rattle.field.specs.Matrix.{apply}
use Rattle.field.proofs.apply.Given as goal

abbrev pub invariant-loop-i : goal.invariant-loop-i
invariant-loop-i g l = l.out ≡ over (fitted g.row.T (apply l.poly l.m l.v)) (replicate g.row.T 0) l.i
