use Rattle.std.proofs.Common.{◌≡◌, ℕ, ◌<◌, true, false, not, [], Some, MatchOption, refl, ap, ◌∙◌, subst, arith, rules}
use Rattle.bank_calls.specs.Table.{at}
use Rattle.std.proofs.lemmas.Bool.{eq-eqb, lt-ltb, le-ltb}
use Rattle.refusal.proofs.Checks.{told_here, told_later}
use Rattle.shelf.specs.Standing.{standing, free}
use Rattle.bank_calls.proofs.Seen.{vacant_few}
use Rattle.bank_calls.proofs.state.Bank.room.Goals as goal

pub returns-then-free-need : goal.returns-then-free-need
returns-then-free-need g c =
    let b = c.args.self.now in
    let is : c.vacant.result ≡ Some c.in_ok-link.link = search rules in
    let v = subst (λ o. MatchOption o ((i : ℕ) → i < 8 → (at b.links i).open ≡ true) (λ i. (i < 8) × ((at b.links i).open ≡ false))) is c.vacant.ensures in
    record {
      told = told_later _ _ _ _ (ap not (eq-eqb _ _ (c.if-shown-cells.false ∙ c.cells.ensures)))
          (told_later _ _ _ _ (le-ltb 7 _ (vacant_few (standing b.shelf.book) b.links [] c.in_ok-link.link v.0 v.1)) (told_here _ _ _ (lt-ltb (free (standing b.shelf.book)) c.args.need (omega (arith, c.free.ensures, c.if-free-need.true)))));
      holds = tt;
    }

pub returns : goal.returns
returns g c =
    let b = c.args.self.now in
    let is : c.vacant.result ≡ Some c.in_ok-link.link = search rules in
    let v = subst (λ o. MatchOption o ((i : ℕ) → i < 8 → (at b.links i).open ≡ true) (λ i. (i < 8) × ((at b.links i).open ≡ false))) is c.vacant.ensures in
    record {
      told = told_later _ _ _ _ (ap not (eq-eqb _ _ (c.if-shown-cells.false ∙ c.cells.ensures)))
          (told_later _ _ _ _ (le-ltb 7 _ (vacant_few (standing b.shelf.book) b.links [] c.in_ok-link.link v.0 v.1)) (told_later _ _ _ _ (le-ltb (free (standing b.shelf.book)) c.args.need (omega (arith, c.free.ensures, c.if-free-need.false))) refl));
      holds = v;
    }
