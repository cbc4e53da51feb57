-- Walks over the cells of a chain: the cell at a position, and each cell with its position. Assumes nothing.
use Rattle.std.proofs.Common.{◌≡◌, ℕ, ◌<◌, ◌≤◌, List, length, get_or, Some, None, Ok, Err, Option, Result, sym, ap, ◌∙◌, inl, inr, arith}
use Rattle.std.specs.List.{slice_get, enumerate_from}
use Rattle.std.specs.Option.{option_map, ok_or}
use Rattle.std.specs.Iterator.{Yields, YieldsFirst, SkipsThenYields}
use Rattle.std.specs.Iterator.Adapters.{enumerate_source, enumerate_count, enumerate_steps}
use Rattle.std.specs.declared.iter.Enumerate.{Enumerate}
use Rattle.std.proofs.lemmas.Iterator.{YieldsList}
use Rattle.std.proofs.lemmas.Iterator.Consumers.{YieldsList-from_first, YieldsList-from_enumerate, YieldsList-turn, YieldsList-end, nth_from_yields_List}
use Rattle.std.proofs.lemmas.List.FromFn.{length-enumerate_from, get_or-enumerate_from}
use Rattle.std.proofs.lemmas.Grind.{get_or_default_zero}
use Rattle.std.proofs.lemmas.Option.{slice_get_cases, slice_get_within, get_or_from_slice_get}

abbrev Yield : List ℕ → Option ℕ → List ℕ → Type 0
Yield = YieldsFirst (λ left. left)

-- what is found at a position, or that the chain ends before it
module _ {E : Type 0} (ks : List ℕ) (p : ℕ) {s : List ℕ} (all : s ≡ ks) (r : Option ℕ) (u : List ℕ) (ran : SkipsThenYields Yield s p r u) (e : E) {a : Result ℕ E} (is : a ≡ ok_or r e) where
  met : option_map (λ k. k) r ≡ slice_get ks p
  met = nth_from_yields_List r u p ran (YieldsList-from_first (λ k. k) (λ left. left) ks all)

  pub found : {k : ℕ} → a ≡ Ok k → (p < length ks) × (k ≡ get_or ks p 0)
  found {k} ok = go r (sym is ∙ ok) met
    where
      go : (r : Option ℕ) → ok_or r e ≡ Ok k → option_map (λ k. k) r ≡ slice_get ks p → (p < length ks) × (k ≡ get_or ks p 0)
      go None ok at = let z : ◌≡◌ {A = ℕ} 0 1 = cc in absurd (omega arith)
      go (Some j) ok at =
          let same : j ≡ k = cc in
          (slice_get_within ks p j (sym at), sym (get_or_from_slice_get ks p k 0 (sym at ∙ ap Some same)))

  pub missed : {f : E} → a ≡ Err f → (f ≡ e) × (length ks ≤ p)
  missed {f} err = go r (sym is ∙ err) met
    where
      go : (r : Option ℕ) → ok_or r e ≡ Err f → option_map (λ k. k) r ≡ slice_get ks p → (f ≡ e) × (length ks ≤ p)
      go (Some j) err at = let z : ◌≡◌ {A = ℕ} 0 1 = cc in absurd (omega arith)
      go None err at =
          let same : f ≡ e = cc in
          (same, elim (slice_get_cases ks p).1 [ inl h ↦ (let z : ◌≡◌ {A = ℕ} 0 1 = cc in absurd (omega arith)) | inr h ↦ h.0 ])

-- a walk that counts has met as many cells as it has counted
abbrev Steps : Enumerate (List ℕ) → Option (ℕ × ℕ) → Enumerate (List ℕ) → Type 0
Steps = enumerate_steps Yield

module _ (ks : List ℕ) {s : Enumerate (List ℕ)} (all : enumerate_source s ≡ ks) (from : enumerate_count s ≡ 0) where
  each : YieldsList Steps (λ p. (p.0, p.1)) s (enumerate_from 0 ks)
  each = YieldsList-from_enumerate (YieldsList-from_first (λ k. k) (λ left. left) ks all) from

  module _ (xs : List (ℕ × ℕ)) (t : Enumerate (List ℕ)) (y : Yields Steps s xs t) {r : Option (ℕ × ℕ)} (u : Enumerate (List ℕ)) where
    pub turn : {i k : ℕ} → r ≡ Some (i, k) → Steps t r u → (length xs < length ks) × (i ≡ length xs) × (k ≡ get_or ks (length xs) 0)
    turn {i} {k} is st =
        let at = YieldsList-turn each xs t y r u (i, k) is st in
        let low : length xs < length ks = omega (arith, at.0, length-enumerate_from 0 ks) in
        let pair = at.1 ∙ get_or-enumerate_from 0 ks (length xs) (i, k) low in
        (low, omega (arith, ap (λ p. p.0) pair), ap (λ p. p.1) pair ∙ get_or_default_zero ks (length xs) k low)

    pub ended : r ≡ None → Steps t r u → length xs ≡ length ks
    ended is st = (YieldsList-end each xs t y r u is st).1 ∙ length-enumerate_from 0 ks
