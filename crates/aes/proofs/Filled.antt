-- An array that a closure fills place by place. Assumes nothing.
use Rattle.std.proofs.Common.{◌≡◌, ℕ, zero, suc, ◌+◌, ◌<◌, ◌≤◌, ◌⊎◌, List, map, get_or, ◌∙◌, subst, inl, inr, arith}
use Rattle.std.specs.List.{range_with_len}
use Rattle.std.specs.Array.{IsFromFnResult, IsFromFnResultFrom}
use Rattle.std.proofs.lemmas.List.FromFn.{fill_by_all}
use denote.Param.Members.{Mut, Called}

first_or : (i k : ℕ) → i ≤ k → (k ≡ i) ⊎ (i + 1 ≤ k)
first_or i k h = grind arith

-- the closure's calls keep what I says of it, and at i give h i
module _ {F : Type 0} (g : Mut F (ℕ × Unit {0}) ℕ) (I : F → Type 0) (h : ℕ → ℕ)
    (step : (f : F) (i y : ℕ) (q : F) → I f → Called g f (i, tt) y q → (y ≡ h i) × I q) where
  filled_from : (n : ℕ) (f : F) (ys : List ℕ) (i : ℕ) → I f → IsFromFnResultFrom g f ys i n → (k : ℕ) → i ≤ k → k < i + n → get_or ys k 0 ≡ h k
  filled_from zero f ys i p r k l u = absurd (omega arith)
  filled_from (suc n) f ys i p (q, y, at, called, rest) k l u =
      let s = step f i y q p called in
      elim (first_or i k l) [
        | inl e ↦ subst (λ (j : ℕ). get_or ys j 0 ≡ h j) (let d : i ≡ k = omega arith in d) (at.1 0 ∙ s.0)
        | inr m ↦ filled_from n q ys (i + 1) s.1 rest k m (omega arith)
      ]

  pub filled : (n : ℕ) (f : F) (ys : List ℕ) → I f → IsFromFnResult g f ys n → ys ≡ map h (range_with_len 0 n)
  filled n f ys p r = fill_by_all h ys n 0 r.long (λ k u. filled_from n f ys 0 p r.each k (omega arith) (omega arith))
