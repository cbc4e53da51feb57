use Rattle.std.proofs.Common.{◌≡◌, ◌+◌, ◌∷◌, length, get_or, sym, ap, ◌∙◌, arith}
use Rattle.shelf.specs.Links.{run}
use Rattle.shelf.proofs.Moves.{run_more}
use Rattle.shelf.proofs.cells.CellsIterator.next.Goals as goal

pub returns-clause-steps : goal.returns-clause-steps
returns-clause-steps c =
    let it = c.self.inside in
    let rest = c.in_ok-self-inside.field-0 in
    let left : it.left ≡ rest + 1 = omega (arith, c.in_ok-self-inside.ensures) in
    sym c.self.view_is ∙ ap (run it.next.now it.cell) left ∙ run_more it.next.now it.cell rest
    ∙ ap (λ k. k ∷ run it.next.now (get_or it.next.now k 0) rest) (sym c.from-cell.ensures)

pub returns-clause-goes : goal.returns-clause-goes
returns-clause-goes c = record { on = λ _. (tt, tt, omega (arith, ap length (returns-clause-steps c))); keeps = tt; rests = λ _. tt }
