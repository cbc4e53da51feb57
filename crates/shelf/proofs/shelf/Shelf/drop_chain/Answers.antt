use Rattle.std.proofs.Common.{refl, arith, rules}
use Rattle.std.proofs.lemmas.List.{nil_from_length}
use Rattle.shelf.specs.Standing.{places}
use Rattle.shelf.proofs.Law.{adds_drop}
use Rattle.shelf.proofs.shelf.Shelf.drop_chain.Goals as goal

pub returns-in_err-count-clause-past : goal.returns-in_err-count-clause-past
returns-in_err-count-clause-past g c = adds_drop _ _ _ _ (search rules)

pub returns-then-branch-gt0-clause-past : goal.returns-then-branch-gt0-clause-past
returns-then-branch-gt0-clause-past g c = adds_drop _ _ _ _ (search rules)

pub returns-else-branch-gt0-clause-past : goal.returns-else-branch-gt0-clause-past
returns-else-branch-gt0-clause-past g c =
    adds_drop _ _ _ _ (record { told = search rules; holds = record { none = nil_from_length (places c.args.self.now.book c.args.chain) (omega (arith, c.in_ok-count.ensures.holds)); others = λ d h n. refl; sized = refl } })
