-- Going through the checks of the calls on a chain in cell memory: the chain, the memory, and one more. Assumes nothing.
use Rattle.std.proofs.Common.{◌≡◌, ◌↔◌, ℕ, ◌<◌, Bool, true, false, not, eqb, ltb, List, [], ◌∷◌, ◌++◌, Some, None, Err, Result, sym, refl, ap, ◌∙◌, inl, inr, arith}
use Rattle.std.proofs.lemmas.Bool.{eq-eqb, eqb-true, ltb-false, le-ltb, not-false, cases_Bool}
use Rattle.refusal.specs.Checks.{first, refusal}
use Rattle.refusal.specs.declared.Refusal.{Refusal}
use Rattle.refusal.proofs.Checks.{told_here, told_later, none_due, refusal_err}
use Rattle.shelf.specs.Calls.{access_checks}

-- a call whose chain and memory are right meets the third check alone
module _ {size shown c : ℕ} (low : c < 16) (whole : shown ≡ size) where
  chain_clear : ltb 15 c ≡ false
  chain_clear = le-ltb 15 c (omega arith)

  memory_clear : not (eqb shown size) ≡ false
  memory_clear = ap not (eq-eqb shown size whole)

  abbrev checks : Bool → Refusal → List (Bool × Refusal)
  checks b e = access_checks size shown c ++ ((b, e) ∷ [])

  pub third_due : (b : Bool) (e : Refusal) → b ≡ true → Some e ≡ first (checks b e)
  third_due b e due = told_later _ _ _ _ chain_clear (told_later _ _ _ _ memory_clear (told_here _ _ _ due))

  pub third_clear : (b : Bool) (e : Refusal) → b ≡ false → None ≡ first (checks b e)
  third_clear b e clear = told_later _ _ _ _ chain_clear (told_later _ _ _ _ memory_clear (told_later _ _ _ _ clear refl))

  -- it tells that exactly where it is due
  pub third_exactly : {A : Type 0} (r : Result A Refusal) (b : Bool) (e : Refusal) → refusal r ≡ first (checks b e) → (r ≡ Err e) ↔ (b ≡ true)
  third_exactly r b e told = (
    λ is. elim (cases_Bool b) [ inl t ↦ t | inr f ↦ (let one = ap refusal is in let two = third_clear b e f in let z : ◌≡◌ {A = ℕ} 0 1 = cc in absurd (omega arith)) ],
    λ due. refusal_err r e (told ∙ sym (third_due b e due)),
  )

-- where nothing is told, chain and memory are right
pub admitted : (size shown c : ℕ) → None ≡ first (access_checks size shown c) → (c < 16) × (shown ≡ size)
admitted size shown c none =
    let one = none_due _ _ _ none in
    let two = none_due _ _ _ one.1 in
    (omega (arith, ltb-false 15 c one.0), eqb-true shown size (not-false (eqb shown size) two.0))

-- and where the third check is not due either, so is that
pub passed : (size shown c : ℕ) (b : Bool) (e : Refusal) → None ≡ first (access_checks size shown c ++ ((b, e) ∷ [])) → (c < 16) × (shown ≡ size) × (b ≡ false)
passed size shown c b e none =
    let one = none_due _ _ _ none in
    let two = none_due _ _ _ one.1 in
    let three = none_due _ _ _ two.1 in
    (omega (arith, ltb-false 15 c one.0), eqb-true shown size (not-false (eqb shown size) two.0), three.0)
