-- All cells free, linked in a line. Assumes nothing.
use Rattle.std.proofs.Common.{◌≡◌, ℕ, zero, suc, ◌+◌, ◌<◌, ◌≤◌, List, length, get_or, set, replicate, sum, refl, ap, ◌∙◌, inl, inr, add-one, arith, get_or-set_other, get_or-set_same}
use Rattle.std.proofs.lemmas.List.{get_or-replicate}
use Rattle.std.proofs.lemmas.List.Sums.{sum_by-set, get_or-le-sum_by}
use Rattle.std.proofs.lemmas.Bool.{cases_eq}
use Rattle.shelf.specs.Links.{step, cell_at, Within, Apart, Ends}

pub zeros : (c : ℕ) → c < 17 → get_or {A = ℕ} (replicate 17 0) c 0 ≡ 0
zeros c h = get_or-replicate 17 c 0 0 h

module _ (next first last len : List ℕ) (n : ℕ) (most : n ≤ 256) (line : (k : ℕ) → k < 255 → get_or next k 0 ≡ k + 1)
    (f17 : length first ≡ 17) (n17 : length len ≡ 17) (none : sum len ≡ 0) where
  step_line : (p : ℕ) → p < 256 → step next 0 p ≡ p
  step_line zero h = refl
  step_line (suc p) h = ap (λ k. get_or next k 0) (step_line p (omega arith)) ∙ line p (omega arith) ∙ add-one p

  was_empty : (c : ℕ) → c < 17 → get_or len c 0 ≡ 0
  was_empty c h = omega (arith, get_or-le-sum_by (λ x. x) len c 0 (omega arith))

  pub fresh_empty : (c : ℕ) → c < 16 → get_or (set len 16 n) c 0 ≡ 0
  fresh_empty c h = get_or-set_other len 16 c n 0 (λ e. omega arith) ∙ was_empty c (omega arith)

  all_free : get_or (set len 16 n) 16 0 ≡ n
  all_free = get_or-set_same len 16 n 0 (omega arith)

  pub fresh_sum : sum (set len 16 n) ≡ n
  fresh_sum = omega (arith, sum_by-set (λ x. x) len 16 n 0 (omega arith), was_empty 16 (omega arith))

  -- only row 16 has cells, each at the position of its own number
  own : (c p : ℕ) → (c < 17) × (p < get_or (set len 16 n) c 0) → (c ≡ 16) × (p < n) × (cell_at next (set first 16 0) c p ≡ p)
  own c p h =
      elim (cases_eq c 16) [
        | inl e ↦
            (let k : get_or (set len 16 n) c 0 ≡ n = ap (λ d. get_or (set len 16 n) d 0) e ∙ all_free in
            let g : get_or (set first 16 0) c 0 ≡ 0 = ap (λ d. get_or (set first 16 0) d 0) e ∙ get_or-set_same first 16 0 0 (omega arith) in
            (e, omega arith, ap (λ a. step next a p) g ∙ step_line p (omega arith)))
        | inr ne ↦ (let k = fresh_empty c (omega arith) in absurd (omega arith))
      ]

  pub fresh_within : Within next (set first 16 0) (set len 16 n) n
  fresh_within c p h = omega (arith, own c p h)

  pub fresh_apart : Apart next (set first 16 0) (set len 16 n)
  fresh_apart w h = omega (arith, own w.0 w.1 h.0, own w.2 w.3 h.1, h.2)

  pub fresh_ends : Ends next (set first 16 0) last (set len 16 n)
  fresh_ends c p h = absurd (omega (arith, fresh_empty c h.0, h.1))
