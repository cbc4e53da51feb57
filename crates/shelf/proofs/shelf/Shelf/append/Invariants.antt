use Rattle.std.proofs.Common.{◌≡◌, ◌+◌, take}
use Rattle.shelf.specs.Standing.{standing, free}
use Rattle.shelf.specs.Calls.{Grown}
use Rattle.shelf.proofs.shelf.Shelf.append.Given as goal

-- the items so far are appended, and as many fewer cells are free
abbrev pub invariant-loop-item : goal.invariant-loop-item
invariant-loop-item g l =
    Grown (standing l.initial.self.book) l.initial.cells l.chain (take l.item-index l.items) (standing l.self.book) l.cells
    × (free (standing l.self.book) + l.item-index ≡ free (standing l.initial.self.book))
