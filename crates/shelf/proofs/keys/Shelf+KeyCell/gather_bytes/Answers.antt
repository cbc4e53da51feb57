use Rattle.std.proofs.Common.{◌≡◌, ◌+◌, ◌*◌, ◌<◌, ◌≤◌, [], length, get_or, sym, refl, ap, ◌∙◌, arith}
use Rattle.std.proofs.lemmas.Bool.{le-ltb}
use Rattle.std.proofs.lemmas.List.{length_push, get_or_default}
use Rattle.std.proofs.lemmas.List.Edits.{length-between}
use Rattle.shelf.specs.Standing.{places}
use Rattle.shelf.proofs.Access.{admitted, third_clear}
use Rattle.shelf.proofs.Gathers.{bytes_more, bytes_all}
use Rattle.shelf.proofs.Grow.{below_memory, in_memory}
use Rattle.shelf.proofs.KeyCells.{joined_none}
use Rattle.shelf.proofs.Totals.{places_few}
use Rattle.shelf.proofs.Walks.{turn, ended}
use Rattle.shelf.proofs.keys.Shelf+KeyCell.gather_bytes.Goals as goal

pub overflow_mul-due : goal.overflow_mul-due
overflow_mul-due c = omega (arith, c.count-count.ensures, places_few c.args.self.now.book c.args.chain)

pub loop-i-init : goal.loop-i-init
loop-i-init c = (sym joined_none, refl)

pub bounds-cells-cell : goal.bounds-cells-cell
bounds-cells-cell c =
    let b = c.args.self.now.book in
    let ok = admitted b.size (length c.args.cells.now) c.args.chain c.in_ok-admit.ensures in
    let t = turn (places b c.args.chain) (cc) (cc) c.loop-i.yielded _ c.loop-i.yielded_by _ c.in-Some.is c.next.ensures.steps in
    omega (arith, t.2, in_memory b c.args.chain (length c.args.cells.now) _ ok.0 ok.1 t.0)

pub offset_bounds-cells-cell : goal.offset_bounds-cells-cell
offset_bounds-cells-cell c = omega (arith, bounds-cells-cell c)

pub loop-i-preserved : goal.loop-i-preserved
loop-i-preserved c =
    let b = c.args.self.now.book in
    let cells = c.args.cells.now in
    let ok = admitted b.size (length cells) c.args.chain c.in_ok-admit.ensures in
    let ks = places b c.args.chain in
    let out = c.loop-i.out in
    let n = length c.loop-i.yielded in
    let t = turn ks (cc) (cc) c.loop-i.yielded _ c.loop-i.yielded_by _ c.in-Some.is c.next.ensures.steps in
    let x = c.copy_from_slice.new.self in
    let room : 16 * n + 16 ≤ length out = omega (arith, t.0, c.count-count.ensures) in
    let wide : length x ≡ 16 = omega (arith, c.copy_from_slice.ensures.len, length-between out (16 * c.in-Some.i) (16 * c.in-Some.i + 16) (omega (arith, room, t.1))) in
    let within : c.in-Some.cell < length cells = omega (arith, t.2, in_memory b c.args.chain (length cells) _ ok.0 ok.1 t.0) in
    let read : x ≡ get_or cells (get_or ks n 0) x = c.copy_from_slice.ensures.after ∙ get_or_default cells c.in-Some.cell [] x within ∙ ap (λ k. get_or cells k x) t.2 in
    rw (length_push c.loop-i.yielded (c.in-Some.i, c.in-Some.cell), t.1)
    (bytes_more cells ks c.args.out.now out n x (below_memory b c.args.chain _ ok.0 ok.1) t.0 room wide read c.loop-i.invariant)

pub returns : goal.returns
returns c =
    let b = c.args.self.now.book in
    let cells = c.args.cells.now in
    let ok = admitted b.size (length cells) c.args.chain c.in_ok-admit.ensures in
    let ks = places b c.args.chain in
    let n = length c.loop-i.yielded in
    let all : n ≡ length ks = ended ks (cc) (cc) c.loop-i.yielded _ c.loop-i.yielded_by _ c.in-None.is c.next.ensures.steps in
    let due : n ≡ c.count-count.result = omega (arith, all, c.count-count.ensures) in
    record {
      told = third_clear ok.0 ok.1 _ _ (le-ltb (length c.args.out.now) (16 * length ks) (omega (arith, c.count-count.ensures)));
      holds = (ap (λ m. 16 * m) c.count-count.ensures, rw due at (bytes_all cells ks c.args.out.now c.loop-i.out n all c.loop-i.invariant));
    }
