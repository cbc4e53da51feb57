-- Going through the checks of a call: which one is told, and what is known where none is. Assumes nothing.
use Rattle.std.proofs.Common.{◌≡◌, ℕ, Bool, true, false, cond, List, [], ◌∷◌, ◌++◌, Some, None, Ok, Err, Option, Result, sym, refl, ap, ◌∙◌, subst, arith}
use Rattle.std.proofs.lemmas.Bool.{cond-true, cond-false}
use Rattle.refusal.specs.Checks.{first, refusal, Answers}
use Rattle.refusal.specs.declared.Refusal.{Refusal}

-- a check that is due tells its refusal
pub told_here : (b : Bool) (e : Refusal) (rest : Option Refusal) → b ≡ true → Some e ≡ cond b (Some e) rest
told_here b e rest due = sym (cond-true b (Some e) rest due)

-- one that is not leaves the answer to the rest
pub told_later : (b : Bool) (e : Refusal) (rest o : Option Refusal) → b ≡ false → o ≡ rest → o ≡ cond b (Some e) rest
told_later b e rest o clear told = told ∙ sym (cond-false b (Some e) rest clear)

-- where none is told, none is due
pub none_due : (b : Bool) (e : Refusal) (rest : Option Refusal) → None ≡ cond b (Some e) rest → (b ≡ false) × (None ≡ rest)
none_due true e rest none = let z : ◌≡◌ {A = ℕ} 0 1 = cc in absurd (omega arith)
none_due false e rest none = (refl, none)

-- what is told by the checks that come first is told by all
pub told_early : (e : Refusal) (checks more : List (Bool × Refusal)) → Some e ≡ first checks → Some e ≡ first (checks ++ more)
told_early e [] more told = let z : ◌≡◌ {A = ℕ} 0 1 = cc in absurd (omega arith)
told_early e (check ∷ checks) more told = go check.0 (told_early e checks more) told
  where
    go : (b : Bool) → (Some e ≡ first checks → Some e ≡ first (checks ++ more)) → Some e ≡ cond b (Some check.1) (first checks) → Some e ≡ cond b (Some check.1) (first (checks ++ more))
    go true later told = told
    go false later told = later told

-- where the checks that come first are not due, the others tell
pub told_after : (checks more : List (Bool × Refusal)) → first checks ≡ None → first (checks ++ more) ≡ first more
told_after [] more none = refl
told_after (check ∷ checks) more none = go check.0 (told_after checks more) none
  where
    go : (b : Bool) → (first checks ≡ None → first (checks ++ more) ≡ first more) → cond b (Some check.1) (first checks) ≡ None → cond b (Some check.1) (first (checks ++ more)) ≡ first more
    go true later none = let z : ◌≡◌ {A = ℕ} 0 1 = cc in absurd (omega arith)
    go false later none = later none

-- the refusal of an answer is the answer, where there is one
pub refusal_err : {A : Type 0} (r : Result A Refusal) (e : Refusal) → refusal r ≡ Some e → r ≡ Err e
refusal_err (Ok x) e told = let z : ◌≡◌ {A = ℕ} 0 1 = cc in absurd (omega arith)
refusal_err (Err f) e told = cc

-- a call that passes on what its first checks refuse has answered
pub answers_early : {A : Type 0} (checks more : List (Bool × Refusal)) (r : Result A Refusal) (e f : Refusal) (accepted : A → Type 0) (refused : Type 0) →
    r ≡ Err f → f ≡ e → Some e ≡ first checks → refused → Answers (checks ++ more) r accepted refused
answers_early checks more r e f accepted refused is same told kept =
    let P : Result _ Refusal → Type 0 = λ r. Answers (checks ++ more) r accepted refused in
    subst P (sym (is ∙ ap Err same)) (record { told = told_early e checks more told; holds = kept })
