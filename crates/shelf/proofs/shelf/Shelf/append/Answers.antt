use Rattle.std.proofs.Common.{◌≡◌, ◌+◌, [], ◌∷◌, ◌++◌, length, take, sym, ap, ◌∙◌, arith, rules}
use Rattle.std.proofs.lemmas.List.{take_more, take_all}
use Rattle.std.proofs.lemmas.Bool.{le-ltb}
use Rattle.shelf.specs.Standing.{standing, free}
use Rattle.shelf.proofs.Grow.{grown_none, grown_more}
use Rattle.shelf.proofs.Access.{admitted, third_clear}
use Rattle.shelf.proofs.Law.{adds_append}
use Rattle.shelf.proofs.shelf.Shelf.append.Goals as goal

pub returns-in_err-admit-clause-past : goal.returns-in_err-admit-clause-past
returns-in_err-admit-clause-past g c = adds_append _ _ _ _ _ _ _ (search rules)

pub returns-then-free-items-clause-past : goal.returns-then-free-items-clause-past
returns-then-free-items-clause-past g c = adds_append _ _ _ _ _ _ _ (search rules)

pub loop-item-init : goal.loop-item-init
loop-item-init g c = (grown_none (standing c.args.self.now.book) c.args.cells.now c.args.chain, omega arith)

pub loop-item-preserved : goal.loop-item-preserved
loop-item-preserved g c =
    let b = c.args.self.now.book in
    let ok = admitted b.size (length c.args.cells.now) c.args.chain c.in_ok-admit.ensures in
    let items = c.args.items.now in
    let i = c.loop-item.item-index in
    let x = c.item-item.result in
    let e = c.link-cell.ensures in
    let more : take (i + 1) items ≡ take i items ++ (x ∷ []) = take_more items i x c.loop-item-test.true ∙ ap (λ y. take i items ++ (y ∷ [])) (sym c.item-item.is) in (
      rw more (grown_more (standing b) c.args.cells.now c.args.chain (take i items) x (standing c.loop-item.self.book) (standing c.link-cell.new.self) c.loop-item.cells c.link-cell.result ok.0 ok.1 c.loop-item.invariant.0
          (record { sized = e.sized; within = e.within; added = e.added; others = e.others; fresh = e.fresh })),
      omega (arith, c.loop-item.invariant.1, e.free),
    )

pub returns-clause-outcome : goal.returns-clause-outcome
returns-clause-outcome g c =
    let b = c.args.self.now.book in
    let ok = admitted b.size (length c.args.cells.now) c.args.chain c.in_ok-admit.ensures in
    let items = c.args.items.now in
    record {
      told = third_clear ok.0 ok.1 _ _ (le-ltb (free (standing b)) (length items) (omega (arith, c.free.ensures)));
      holds = rw (take_all c.loop-item.item-index items (omega arith)) at c.loop-item.invariant.0;
    }

pub returns-clause-past : goal.returns-clause-past
returns-clause-past g c = adds_append _ _ _ _ _ _ _ (returns-clause-outcome g c)
