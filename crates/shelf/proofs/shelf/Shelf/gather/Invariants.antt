use Rattle.std.proofs.Common.{length}
use Rattle.shelf.specs.Standing.{places}
use Rattle.shelf.proofs.Gathers.{Gathered}
use Rattle.shelf.proofs.shelf.Shelf.gather.Given as goal

abbrev pub invariant-loop-i : goal.invariant-loop-i
invariant-loop-i g l = Gathered l.cells (places l.self.book l.chain) l.initial.out l.out (length l.yielded)
