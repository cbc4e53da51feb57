-- The checks of a call, in order, and the answer that comes of them. Assumes nothing.
-- A check is a pair: whether it is due, and the refusal that it then tells.
use Rattle.std.specs.Prelude.{◌≡◌, Bool, cond, List, [], ◌∷◌, Some, None, Ok, Err, Option, Result, MatchResult}
use Rattle.refusal.specs.declared.Refusal.{Refusal}

-- the first check that is due, if any is
abbrev pub first : List (Bool × Refusal) → Option Refusal
first [] = None
first (check ∷ checks) = cond check.0 (Some check.1) (first checks)

-- what an answer refuses with, if it refuses
abbrev pub refusal : {A : Type 0} → Result A Refusal → Option Refusal
refusal (Ok x) = None
refusal (Err e) = Some e

-- The answer r of a call with these checks: refused by the first that is due, and accepted where none is;
-- what holds of the value when it is accepted, and what holds when it is refused.
pub record Answers {A : Type 0} (checks : List (Bool × Refusal)) (r : Result A Refusal) (accepted : A → Type 0) (refused : Type 0) : Type 0 where
  pub told : refusal r ≡ first checks
  pub holds : MatchResult r accepted (λ _. refused)
