use Rattle.std.proofs.Common.{◌≡◌}
use Rattle.block.specs.Words.{each_word}
use Rattle.field.specs.Matrix.{apply}
use Rattle.field.proofs.apply_each.Given as goal

abbrev pub invariant-loop-i : goal.invariant-loop-i
invariant-loop-i g l = l.block ≡ each_word l.i g.row.T (apply l.poly l.m) l.initial.block
