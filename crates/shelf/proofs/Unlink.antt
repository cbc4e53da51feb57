-- A chain goes to the front of the free cells: what the tables then say. Assumes nothing.
use Rattle.std.proofs.Common.{◌≡◌, ℕ, ◌+◌, ◌-◌, ◌<◌, List, [], map, length, get_or, set, sum, sym, ap, ◌∙◌, inl, inr, arith, get_or-set_other, get_or-set_same}
use Rattle.std.specs.List.{range_with_len}
use Rattle.std.proofs.lemmas.List.{length-set}
use Rattle.std.proofs.lemmas.List.Sums.{sum_by-set}
use Rattle.std.proofs.lemmas.Bool.{cases_eq, cases_lt}
use Rattle.shelf.specs.Links.{step, cell_at, Within, Apart, Ends}
use Rattle.shelf.proofs.Rows.{FreedFrom, front, behind, still, freed_inside, freed_apart}
use Rattle.shelf.proofs.Moves.{step_add, same_counted}
use Rattle.shelf.proofs.Link.{Ready, sep, ins, stays, leads}

abbrev pub freed_len : List ℕ → ℕ → List ℕ
freed_len len chain = set (set len 16 (get_or len 16 0 + get_or len chain 0)) chain 0

module _ {next first last len : List ℕ} {size chain : ℕ} (r : Ready next first last len size chain) (any : 0 < get_or len chain 0) where
  open r use {low, ends}

  abbrev at : ℕ → ℕ → ℕ
  at = cell_at next first

  abbrev next' : List ℕ
  next' = set next (get_or last chain 0) (get_or first 16 0)

  abbrev first' : List ℕ
  first' = set first 16 (get_or first chain 0)

  abbrev len' : List ℕ
  len' = freed_len len chain

  len_free : get_or len' 16 0 ≡ get_or len 16 0 + get_or len chain 0
  len_free = get_or-set_other (set len 16 (get_or len 16 0 + get_or len chain 0)) chain 16 0 0 (λ e. omega arith) ∙ get_or-set_same len 16 (get_or len 16 0 + get_or len chain 0) 0 (omega arith)

  pub len_chain : get_or len' chain 0 ≡ 0
  len_chain =
      let l : chain < length (set len 16 (get_or len 16 0 + get_or len chain 0)) = simp length-set (omega arith) in
      get_or-set_same (set len 16 (get_or len 16 0 + get_or len chain 0)) chain 0 0 l

  len_other : (d : ℕ) → (d ≡ 16 → ⊥) → (d ≡ chain → ⊥) → get_or len' d 0 ≡ get_or len d 0
  len_other d a b = get_or-set_other (set len 16 (get_or len 16 0 + get_or len chain 0)) chain d 0 0 b ∙ get_or-set_other len 16 d (get_or len 16 0 + get_or len chain 0) 0 a

  pub freed_sum : sum len' ≡ sum len
  freed_sum =
      let one = sum_by-set (λ x. x) len 16 (get_or len 16 0 + get_or len chain 0) 0 (omega arith) in
      let l : chain < length (set len 16 (get_or len 16 0 + get_or len chain 0)) = simp length-set (omega arith) in
      let two = sum_by-set (λ x. x) (set len 16 (get_or len 16 0 + get_or len chain 0)) chain 0 0 l in
      let same : get_or (set len 16 (get_or len 16 0 + get_or len chain 0)) chain 0 ≡ get_or len chain 0 = get_or-set_other len 16 chain (get_or len 16 0 + get_or len chain 0) 0 (λ e. omega arith) in
      omega arith

  came : (c p : ℕ) → c < 17 → p < get_or len' c 0 → FreedFrom at (cell_at next' first') (λ d. get_or len d 0) chain c p
  came c p hc hp =
      elim (cases_eq c 16) [
        | inl e ↦
            (let g : get_or first' c 0 ≡ get_or first chain 0 = ap (λ d. get_or first' d 0) e ∙ get_or-set_same first 16 (get_or first chain 0) 0 (omega arith) in
            let k : get_or len' c 0 ≡ get_or len 16 0 + get_or len chain 0 = ap (λ d. get_or len' d 0) e ∙ len_free in
            elim (cases_lt p (get_or len chain 0)) [
              | inl h ↦ front e h (ap (λ a. step next' a p) g ∙ stays r any (get_or first 16 0) chain p (omega arith) h)
              | inr h ↦
                  (let m : p ≡ get_or len chain 0 + (p - get_or len chain 0) = omega arith in
                  behind e h (omega arith)
                  (ap (λ a. step next' a p) g ∙ ap (step next' (get_or first chain 0)) m ∙ step_add next' (get_or first chain 0) (get_or len chain 0) (p - get_or len chain 0)
                  ∙ ap (λ a. step next' a (p - get_or len chain 0)) (leads r any (get_or first 16 0)) ∙ stays r any (get_or first 16 0) 16 (p - get_or len chain 0) (omega arith) (omega arith)))
            ])
        | inr n16 ↦
            elim (cases_eq c chain) [
              | inl e ↦ (let k : get_or len' c 0 ≡ 0 = ap (λ d. get_or len' d 0) e ∙ len_chain in absurd (omega arith))
              | inr nch ↦
                  (let k = len_other c n16 nch in
                  let h : p < get_or len c 0 = omega arith in
                  still (omega arith) nch h (ap (λ a. step next' a p) (get_or-set_other first 16 c (get_or first chain 0) 0 n16) ∙ stays r any (get_or first 16 0) c p hc h))
            ]
      ]

  pub freed_within : Within next' first' len' size
  freed_within c p h = freed_inside at (cell_at next' first') (λ d. get_or len d 0) chain low size (ins r) c p (came c p h.0 h.1)

  pub freed_separate : Apart next' first' len'
  freed_separate w h =
      freed_apart at (cell_at next' first') (λ d. get_or len d 0) chain low (sep r) w.0 w.1 w.2 w.3
      (came w.0 w.1 h.0.0 h.0.1) (came w.2 w.3 h.1.0 h.1.1) h.2

  stands : (c p : ℕ) → c < 16 → (c ≡ chain → ⊥) → p < get_or len c 0 → cell_at next' first' c p ≡ at c p
  stands c p hc nch hp =
      ap (λ a. step next' a p) (get_or-set_other first 16 c (get_or first chain 0) 0 (λ e. omega arith)) ∙ stays r any (get_or first 16 0) c p (omega arith) hp

  pub freed_ends : Ends next' first' last len'
  freed_ends c p h =
      elim (cases_eq c chain) [
        | inl e ↦ (let k : get_or len' c 0 ≡ 0 = ap (λ d. get_or len' d 0) e ∙ len_chain in absurd (omega arith))
        | inr nch ↦ (let k = len_other c (λ e. omega arith) nch in ends c p (h.0, omega arith) ∙ sym (stands c p h.0 nch (omega arith)))
      ]

  pub freed_others : (d : ℕ) → d < 16 → (d ≡ chain → ⊥) → map (cell_at next' first' d) (range_with_len 0 (get_or len' d 0)) ≡ map (at d) (range_with_len 0 (get_or len d 0))
  freed_others d h z =
      ap (λ n. map (cell_at next' first' d) (range_with_len 0 n)) (len_other d (λ y. omega arith) z) ∙ same_counted (cell_at next' first' d) (at d) (get_or len d 0) (λ p k. stands d p h z k)

  pub freed_empty : map (cell_at next' first' chain) (range_with_len 0 (get_or len' chain 0)) ≡ []
  freed_empty = ap (λ n. map (cell_at next' first' chain) (range_with_len 0 n)) len_chain
