use Rattle.std.proofs.Common.{◌≡◌, ◌<◌, length, get_or, sym, ap, ◌∙◌, arith, rules}
use Rattle.std.proofs.lemmas.Bool.{le-ltb}
use Rattle.std.proofs.lemmas.List.{length_push}
use Rattle.shelf.specs.Standing.{places}
use Rattle.shelf.proofs.Access.{admitted, third_clear}
use Rattle.shelf.proofs.Gathers.{gathered_more, gathered_all}
use Rattle.shelf.proofs.Grow.{below_memory, in_memory}
use Rattle.shelf.proofs.Pick.{length_items}
use Rattle.shelf.proofs.Walks.{turn, ended}
use Rattle.shelf.proofs.shelf.Shelf.gather.Goals as goal

pub bounds-cells-cell : goal.bounds-cells-cell
bounds-cells-cell g c =
    let b = c.args.self.now.book in
    let ok = admitted b.size (length c.args.cells.now) c.args.chain c.in_ok-admit.ensures in
    let t = turn (places b c.args.chain) (cc) (cc) c.loop-i.yielded _ c.loop-i.yielded_by _ c.in-Some.is c.next.ensures.steps in
    omega (arith, t.2, in_memory b c.args.chain (length c.args.cells.now) _ ok.0 ok.1 t.0)

pub offset_bounds-cells-cell : goal.offset_bounds-cells-cell
offset_bounds-cells-cell g c = omega (arith, bounds-cells-cell g c)

pub offset_bounds-out-i : goal.offset_bounds-out-i
offset_bounds-out-i g c =
    let t = turn (places c.args.self.now.book c.args.chain) (cc) (cc) c.loop-i.yielded _ c.loop-i.yielded_by _ c.in-Some.is c.next.ensures.steps in
    let room : c.in-Some.i < length c.loop-i.out = omega (arith, t.0, t.1, c.count-count.ensures) in
    search rules

pub loop-i-preserved : goal.loop-i-preserved
loop-i-preserved g c =
    let b = c.args.self.now.book in
    let cells = c.args.cells.now in
    let ok = admitted b.size (length cells) c.args.chain c.in_ok-admit.ensures in
    let ks = places b c.args.chain in
    let n = length c.loop-i.yielded in
    let t = turn ks (cc) (cc) c.loop-i.yielded _ c.loop-i.yielded_by _ c.in-Some.is c.next.ensures.steps in
    let x = c.index-cells-cell.result in
    let read : x ≡ get_or cells (get_or ks n 0) x = c.index-cells-cell.is ∙ ap (λ k. get_or cells k x) t.2 in
    rw (length_push c.loop-i.yielded (c.in-Some.i, c.in-Some.cell))
    (gathered_more cells ks c.args.out.now c.loop-i.out n c.in-Some.i x (below_memory b c.args.chain _ ok.0 ok.1) t.0 (omega (arith, t.0, c.count-count.ensures)) t.1 read c.loop-i.invariant)

pub returns : goal.returns
returns g c =
    let b = c.args.self.now.book in
    let cells = c.args.cells.now in
    let ok = admitted b.size (length cells) c.args.chain c.in_ok-admit.ensures in
    let ks = places b c.args.chain in
    let n = length c.loop-i.yielded in
    let all : n ≡ length ks = ended ks (cc) (cc) c.loop-i.yielded _ c.loop-i.yielded_by _ c.in-None.is c.next.ensures.steps in
    let due : n ≡ c.count-count.result = omega (arith, all, c.count-count.ensures) in
    record {
      told = third_clear ok.0 ok.1 _ _ (le-ltb (length c.args.out.now) (length ks) (omega (arith, c.count-count.ensures)));
      holds = (
        c.count-count.ensures ∙ sym (length_items cells ks (below_memory b c.args.chain _ ok.0 ok.1)),
        rw due at (gathered_all cells ks c.args.out.now c.loop-i.out n all c.loop-i.invariant),
      );
    }
