use Rattle.std.proofs.Common.{length}
use Rattle.shelf.specs.Standing.{places}
use Rattle.shelf.proofs.Gathers.{GatheredBytes}
use Rattle.shelf.proofs.keys.Shelf+KeyCell.gather_bytes.Given as goal

abbrev pub invariant-loop-i : goal.invariant-loop-i
invariant-loop-i l = GatheredBytes l.cells (places l.self.book l.chain) l.initial.out l.out (length l.yielded)
