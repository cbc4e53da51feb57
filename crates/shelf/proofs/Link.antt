-- The first free cell goes to the end of a chain: what the tables then say. Assumes nothing.
use Rattle.std.proofs.Common.{◌≡◌, ℕ, suc, ◌+◌, ◌-◌, ◌<◌, ◌≤◌, List, [], ◌∷◌, ◌++◌, map, length, get_or, set, sum, sym, ap, ◌∙◌, inl, inr, arith, get_or-set_other, get_or-set_same}
use Rattle.std.specs.List.{range_with_len}
use Rattle.std.proofs.lemmas.List.{length-set, length-map}
use Rattle.std.proofs.lemmas.List.Sums.{sum_by-set}
use Rattle.std.proofs.lemmas.Bool.{cases_eq, cases_lt}
use Rattle.std.proofs.lemmas.List.FromFn.{map-range_with_len_more}
use Rattle.shelf.specs.Links.{firsts, lasts, lens, step, cell_at, Within, Apart, Ends}
use Rattle.shelf.specs.Items.{Without}
use Rattle.shelf.specs.declared.book.ChainBook.{ChainBook}
use Rattle.shelf.proofs.Rows.{Separate, Inside, LinkedFrom, moved, shifted, kept, linked_inside, linked_apart}
use Rattle.shelf.proofs.Moves.{step_shift, step_set, same_counted, without_counted}

-- the lengths once a cell has gone from row 16 to a chain
abbrev pub linked_len : List ℕ → ℕ → List ℕ
linked_len len chain = set (set len 16 (get_or len 16 0 - 1)) chain (get_or len chain 0 + 1)

abbrev pub Came : List ℕ → List ℕ → List ℕ → List ℕ → List ℕ → ℕ → Type 0
Came next first len next' first' chain =
    (c p : ℕ) → c < 17 → p < get_or (linked_len len chain) c 0 → LinkedFrom (cell_at next first) (cell_at next' first') (λ d. get_or len d 0) chain c p

-- the tables before, with room for one more cell
pub record Ready (next first last len : List ℕ) (size chain : ℕ) : Type 0 where
  pub low : chain < 16
  pub wide : length next ≡ 256
  pub f17 : length first ≡ 17
  pub l17 : length last ≡ 17
  pub n17 : length len ≡ 17
  pub few : size ≤ 256
  pub within : Within next first len size
  pub apart : Apart next first len
  pub ends : Ends next first last len

pub ready_of : (b : ChainBook) (chain : ℕ) → chain < 16 → (length b.next ≡ 256) × (length b.rows ≡ 17) → Ready b.next (firsts b.rows) (lasts b.rows) (lens b.rows) b.size chain
ready_of b chain low long =
    record {
      low = low;
      wide = long.0;
      f17 = length-map b.rows (λ r. r.first) ∙ long.1;
      l17 = length-map b.rows (λ r. r.last) ∙ long.1;
      n17 = length-map b.rows (λ r. r.len) ∙ long.1;
      few = b.few;
      within = b.within;
      apart = b.apart;
      ends = b.ends;
    }

module _ {next first last len : List ℕ} {size chain : ℕ} (r : Ready next first last len size chain) where
  pub sep : Separate (cell_at next first) (λ c. get_or len c 0)
  sep c p d q hc hp hd hq e = r.apart (c, p, d, q) ((hc, hp), (hd, hq), e)

  pub ins : Inside (cell_at next first) (λ c. get_or len c 0) size
  ins c p hc hp = r.within c p (hc, hp)

  module _ (any : 0 < get_or len chain 0) where
    pub end_is : get_or last chain 0 ≡ cell_at next first chain (get_or len chain 0 - 1)
    end_is = r.ends chain (get_or len chain 0 - 1) (omega arith, omega arith)

    -- with the chain's last cell linked elsewhere, what stood at a place still does
    pub stays : (v c p : ℕ) → c < 17 → p < get_or len c 0 → step (set next (get_or last chain 0) v) (get_or first c 0) p ≡ cell_at next first c p
    stays v c p hc hp =
        step_set next (get_or last chain 0) v (get_or first c 0) p
        (λ q h e. (let s = sep c q chain (get_or len chain 0 - 1) hc (omega arith) (omega arith) (omega arith) (e ∙ end_is) in
        let k : get_or len c 0 ≡ get_or len chain 0 = ap (λ d. get_or len d 0) s.0 in omega arith))

    -- and the link after the last cell leads there
    pub leads : (v : ℕ) → step (set next (get_or last chain 0) v) (get_or first chain 0) (get_or len chain 0) ≡ v
    leads v =
        let z : get_or len chain 0 ≡ suc (get_or len chain 0 - 1) = omega arith in
        let room : get_or last chain 0 < length next = omega (arith, ins chain (get_or len chain 0 - 1) (omega arith) (omega arith), end_is) in
        ap (step (set next (get_or last chain 0) v) (get_or first chain 0)) z
        ∙ ap (λ k. get_or (set next (get_or last chain 0) v) k 0) (stays v chain (get_or len chain 0 - 1) (omega arith) (omega arith) ∙ sym end_is)
        ∙ get_or-set_same next (get_or last chain 0) v 0 room

module _ {next first last len : List ℕ} {size chain : ℕ} (r : Ready next first last len size chain) (some : 0 < get_or len 16 0) where
  open r use {low, ends}

  abbrev at : ℕ → ℕ → ℕ
  at = cell_at next first

  len_free : get_or (linked_len len chain) 16 0 ≡ get_or len 16 0 - 1
  len_free =
      let ne : 16 ≡ chain → ⊥ = λ e. omega arith in
      let l : 16 < length len = omega arith in
      get_or-set_other (set len 16 (get_or len 16 0 - 1)) chain 16 (get_or len chain 0 + 1) 0 ne ∙ get_or-set_same len 16 (get_or len 16 0 - 1) 0 l

  len_chain : get_or (linked_len len chain) chain 0 ≡ get_or len chain 0 + 1
  len_chain =
      let l : chain < length (set len 16 (get_or len 16 0 - 1)) = simp length-set (omega arith) in
      get_or-set_same (set len 16 (get_or len 16 0 - 1)) chain (get_or len chain 0 + 1) 0 l

  len_other : (d : ℕ) → (d ≡ 16 → ⊥) → (d ≡ chain → ⊥) → get_or (linked_len len chain) d 0 ≡ get_or len d 0
  len_other d a b = get_or-set_other (set len 16 (get_or len 16 0 - 1)) chain d (get_or len chain 0 + 1) 0 b ∙ get_or-set_other len 16 d (get_or len 16 0 - 1) 0 a

  pub linked_free : get_or (linked_len len chain) 16 0 + 1 ≡ get_or len 16 0
  linked_free = omega (arith, len_free)

  pub linked_sum : sum (linked_len len chain) ≡ sum len
  linked_sum =
      let one = sum_by-set (λ x. x) len 16 (get_or len 16 0 - 1) 0 (omega arith) in
      let l : chain < length (set len 16 (get_or len 16 0 - 1)) = simp length-set (omega arith) in
      let two = sum_by-set (λ x. x) (set len 16 (get_or len 16 0 - 1)) chain (get_or len chain 0 + 1) 0 l in
      let same : get_or (set len 16 (get_or len 16 0 - 1)) chain 0 ≡ get_or len chain 0 = get_or-set_other len 16 chain (get_or len 16 0 - 1) 0 (λ e. omega arith) in
      omega arith

  -- the chain was empty
  module _ (none : get_or len chain 0 ≡ 0) where
    abbrev first_e : List ℕ
    first_e = set (set first 16 (get_or next (get_or first 16 0) 0)) chain (get_or first 16 0)

    pub came_empty : Came next first len next first_e chain
    came_empty c p hc hp =
        elim (cases_eq c 16) [
          | inl e ↦
              (let g : get_or first_e c 0 ≡ get_or next (get_or first 16 0) 0 =
              rw e (get_or-set_other (set first 16 (get_or next (get_or first 16 0) 0)) chain 16 (get_or first 16 0) 0 (λ e. omega arith) ∙ get_or-set_same first 16 (get_or next (get_or first 16 0) 0) 0 (omega arith)) in
              let h : p < get_or len 16 0 - 1 = rw (e, len_free) at hp in
              shifted e (omega arith) (ap (λ a. step next a p) g ∙ step_shift next (get_or first 16 0) p))
          | inr n16 ↦
              elim (cases_eq c chain) [
                | inl e ↦
                    (let l : chain < length (set first 16 (get_or next (get_or first 16 0) 0)) = simp length-set (omega arith) in
                    let g : get_or first_e c 0 ≡ get_or first 16 0 = rw e (get_or-set_same (set first 16 (get_or next (get_or first 16 0) 0)) chain (get_or first 16 0) 0 l) in
                    let h : p < get_or len chain 0 + 1 = rw (e, len_chain) at hp in
                    let z : p ≡ 0 = omega arith in
                    moved e (omega arith) (rw z g))
                | inr nch ↦
                    (let g : get_or first_e c 0 ≡ get_or first c 0 = get_or-set_other (set first 16 (get_or next (get_or first 16 0) 0)) chain c (get_or first 16 0) 0 nch ∙ get_or-set_other first 16 c (get_or next (get_or first 16 0) 0) 0 n16 in
                    let h : p < get_or len c 0 = rw (len_other c n16 nch) at hp in
                    kept (omega arith) h (ap (λ a. step next a p) g))
              ]
        ]

  -- the chain had cells
  module _ (any : 0 < get_or len chain 0) where
    abbrev next_m : List ℕ
    next_m = set next (get_or last chain 0) (get_or first 16 0)

    abbrev first_m : List ℕ
    first_m = set first 16 (get_or next (get_or first 16 0) 0)

    pub came_more : Came next first len next_m first_m chain
    came_more c p hc hp =
        elim (cases_eq c 16) [
          | inl e ↦
              (let off : get_or first 16 0 ≡ get_or last chain 0 → ⊥ = λ z. (let s = sep r 16 0 chain (get_or len chain 0 - 1) (omega arith) some (omega arith) (omega arith) (z ∙ end_is r any) in omega arith) in
              let g : get_or first_m c 0 ≡ get_or next_m (get_or first 16 0) 0 =
              rw e (get_or-set_same first 16 (get_or next (get_or first 16 0) 0) 0 (omega arith)) ∙ sym (get_or-set_other next (get_or last chain 0) (get_or first 16 0) (get_or first 16 0) 0 off) in
              let h : p < get_or len 16 0 - 1 = rw (e, len_free) at hp in
              shifted e (omega arith) (ap (λ a. step next_m a p) g ∙ step_shift next_m (get_or first 16 0) p ∙ stays r any (get_or first 16 0) 16 (p + 1) (omega arith) (omega arith)))
          | inr n16 ↦
              (let g : get_or first_m c 0 ≡ get_or first c 0 = get_or-set_other first 16 c (get_or next (get_or first 16 0) 0) 0 n16 in
              elim (cases_lt p (get_or len c 0)) [
                | inl h ↦ kept (omega arith) h (ap (λ a. step next_m a p) g ∙ stays r any (get_or first 16 0) c p hc h)
                | inr h ↦
                    elim (cases_eq c chain) [
                      | inr nch ↦ (let k : p < get_or len c 0 = rw (len_other c n16 nch) at hp in absurd (omega arith))
                      | inl e ↦
                          (let k : p < get_or len chain 0 + 1 = rw (e, len_chain) at hp in
                          let same : get_or len c 0 ≡ get_or len chain 0 = ap (λ d. get_or len d 0) e in
                          let z : p ≡ get_or len chain 0 = omega arith in
                          moved e z (ap (λ a. step next_m a p) (g ∙ ap (λ d. get_or first d 0) e) ∙ ap (step next_m (get_or first chain 0)) z ∙ leads r any (get_or first 16 0)))
                    ]
              ])
        ]

  -- what follows, either way
  module _ (next' first' : List ℕ) (came : Came next first len next' first' chain) where
    abbrev len' : List ℕ
    len' = linked_len len chain

    pub linked_within : Within next' first' len' size
    linked_within c p h = linked_inside at (cell_at next' first') (λ d. get_or len d 0) chain some size (ins r) c p (came c p h.0 h.1)

    pub linked_separate : Apart next' first' len'
    linked_separate w h =
        linked_apart at (cell_at next' first') (λ d. get_or len d 0) chain some (sep r) w.0 w.1 w.2 w.3
        (came w.0 w.1 h.0.0 h.0.1) (came w.2 w.3 h.1.0 h.1.1) h.2

    pub linked_ends : Ends next' first' (set last chain (get_or first 16 0)) len'
    linked_ends c p h = go (came c p (omega arith) (omega arith))
      where
        go : LinkedFrom at (cell_at next' first') (λ d. get_or len d 0) chain c p → get_or (set last chain (get_or first 16 0)) c 0 ≡ cell_at next' first' c p
        go (moved e f s) = rw e (get_or-set_same last chain (get_or first 16 0) 0 (omega arith)) ∙ sym s
        go (shifted e f s) = absurd (omega arith)
        go (kept e f s) =
            elim (cases_eq c chain) [
              | inl z ↦ (let k : p + 1 ≡ get_or len chain 0 + 1 = h.1 ∙ ap (λ d. get_or len' d 0) z ∙ len_chain in
                  let m : get_or len c 0 ≡ get_or len chain 0 = ap (λ d. get_or len d 0) z in absurd (omega arith))
              | inr z ↦ (let k : p + 1 ≡ get_or len c 0 = h.1 ∙ len_other c (λ y. omega arith) z in
                  get_or-set_other last chain c (get_or first 16 0) 0 z ∙ ends c p (omega arith, k) ∙ sym s)
            ]

    stands : (c p : ℕ) → c < 16 → p < get_or len c 0 → cell_at next' first' c p ≡ at c p
    stands c p hc hp =
        elim (cases_eq c chain) [
          | inl z ↦ (let m : get_or len c 0 ≡ get_or len chain 0 = ap (λ d. get_or len d 0) z in
              let k : get_or len' c 0 ≡ get_or len chain 0 + 1 = ap (λ d. get_or len' d 0) z ∙ len_chain in go (came c p (omega arith) (omega arith)))
          | inr z ↦ (let k = len_other c (λ y. omega arith) z in go (came c p (omega arith) (omega arith)))
        ]
      where
        go : LinkedFrom at (cell_at next' first') (λ d. get_or len d 0) chain c p → cell_at next' first' c p ≡ at c p
        go (moved e f s) = let m : get_or len c 0 ≡ get_or len chain 0 = ap (λ d. get_or len d 0) e in absurd (omega arith)
        go (shifted e f s) = absurd (omega arith)
        go (kept e f s) = s

    pub linked_others : (d : ℕ) → d < 16 → (d ≡ chain → ⊥) → map (cell_at next' first' d) (range_with_len 0 (get_or len' d 0)) ≡ map (at d) (range_with_len 0 (get_or len d 0))
    linked_others d h z =
        ap (λ n. map (cell_at next' first' d) (range_with_len 0 n)) (len_other d (λ y. omega arith) z) ∙ same_counted (cell_at next' first' d) (at d) (get_or len d 0) (λ p k. stands d p h k)

    pub linked_added : map (cell_at next' first' chain) (range_with_len 0 (get_or len' chain 0)) ≡ map (at chain) (range_with_len 0 (get_or len chain 0)) ++ (get_or first 16 0 ∷ [])
    linked_added =
        let n = get_or len chain 0 in
        let f = cell_at next' first' chain in
        ap (λ n. map f (range_with_len 0 n)) len_chain ∙ map-range_with_len_more f 0 n n (omega arith)
        ∙ ap (λ xs. xs ++ (f n ∷ [])) (same_counted f (at chain) n (λ p k. stands chain p low k)) ∙ ap (λ x. map (at chain) (range_with_len 0 n) ++ (x ∷ [])) put
      where
        go : LinkedFrom at (cell_at next' first') (λ d. get_or len d 0) chain chain (get_or len chain 0) → cell_at next' first' chain (get_or len chain 0) ≡ get_or first 16 0
        go (moved e f s) = s
        go (shifted e f s) = absurd (omega arith)
        go (kept e f s) = absurd (omega arith)

        put : cell_at next' first' chain (get_or len chain 0) ≡ get_or first 16 0
        put = go (came chain (get_or len chain 0) (omega arith) (omega (arith, len_chain)))

  pub linked_fresh : (d : ℕ) → d < 16 → Without (get_or first 16 0) (map (at d) (range_with_len 0 (get_or len d 0)))
  linked_fresh d h = without_counted (at d) (get_or first 16 0) (get_or len d 0) (λ p k e. (let s = sep r d p 16 0 (omega arith) k (omega arith) some e in omega arith))
