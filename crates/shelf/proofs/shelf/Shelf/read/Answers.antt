use Rattle.std.proofs.Common.{[], length, get_or, ap, ◌∙◌, arith, rules}
use Rattle.std.proofs.lemmas.Bool.{lt-leb, le-leb}
use Rattle.std.proofs.lemmas.Result.{err_from_is_err_and}
use Rattle.refusal.proofs.Checks.{answers_early}
use Rattle.shelf.specs.Calls.{read_checks}
use Rattle.shelf.specs.Standing.{places}
use Rattle.shelf.proofs.Access.{admitted, third_due, third_clear}
use Rattle.shelf.proofs.Grow.{below_memory, in_memory}
use Rattle.shelf.proofs.Law.{adds_read}
use Rattle.shelf.proofs.Pick.{nth_items}
use Rattle.shelf.proofs.Walks.{found, missed}
use Rattle.shelf.proofs.shelf.Shelf.read.Goals as goal

pub returns-in_err-admit-clause-past : goal.returns-in_err-admit-clause-past
returns-in_err-admit-clause-past g c = adds_read _ _ _ _ _ (search rules)

pub returns-then-position-count-clause-past : goal.returns-then-position-count-clause-past
returns-then-position-count-clause-past g c = adds_read _ _ _ _ _ (search rules)

pub returns-in_err-cell-clause-past : goal.returns-in_err-cell-clause-past
returns-in_err-cell-clause-past g c =
    let b = c.args.self.now.book in
    let ok = admitted b.size (length c.args.cells.now) c.args.chain c.in_ok-admit.ensures in
    let past = missed (places b c.args.chain) c.args.position c.chain.ensures _ _ c.nth.ensures.ran _ c.ok_or.ensures.value c.in_err-cell.was in
    let p = err_from_is_err_and c.from_residual-in_err-cell.result c.from_residual-in_err-cell.ensures.1 in
    adds_read _ _ _ _ _
    (answers_early (read_checks b.size (length (places b c.args.chain)) (length c.args.cells.now) c.args.chain c.args.position) [] _ _ _ _ _ p.1 (p.2 ∙ past.0) (third_due ok.0 ok.1 _ _ (le-leb _ c.args.position past.1)) tt)

pub bounds-cells-cell : goal.bounds-cells-cell
bounds-cells-cell g c =
    let b = c.args.self.now.book in
    let ok = admitted b.size (length c.args.cells.now) c.args.chain c.in_ok-admit.ensures in
    let at = found (places b c.args.chain) c.args.position c.chain.ensures _ _ c.nth.ensures.ran _ c.ok_or.ensures.value c.in_ok-cell.was in
    omega (arith, at.1, in_memory b c.args.chain (length c.args.cells.now) c.args.position ok.0 ok.1 at.0)

pub offset_bounds-cells-cell : goal.offset_bounds-cells-cell
offset_bounds-cells-cell g c = omega (arith, bounds-cells-cell g c)

pub returns-clause-outcome : goal.returns-clause-outcome
returns-clause-outcome g c =
    let b = c.args.self.now.book in
    let cells = c.args.cells.now in
    let ok = admitted b.size (length cells) c.args.chain c.in_ok-admit.ensures in
    let ks = places b c.args.chain in
    let at = found ks c.args.position c.chain.ensures _ _ c.nth.ensures.ran _ c.ok_or.ensures.value c.in_ok-cell.was in
    record {
      told = third_clear ok.0 ok.1 _ _ (lt-leb (length ks) c.args.position at.0);
      holds = nth_items cells ks c.args.position _ (below_memory b c.args.chain _ ok.0 ok.1) at.0 (c.index-cells-cell.is ∙ ap (λ k. get_or cells k c.index-cells-cell.result) at.1);
    }

pub returns-clause-past : goal.returns-clause-past
returns-clause-past g c = adds_read _ _ _ _ _ (returns-clause-outcome g c)
