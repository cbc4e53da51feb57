-- The rows of a book as lists of numbers, before and after a change. Assumes nothing.
use Rattle.std.proofs.Common.{◌≡◌, ◌⊎◌, ℕ, ◌+◌, ◌-◌, ◌<◌, ◌≤◌, List, [], ◌∷◌, ◌++◌, length, get_or, set, map, sum, sym, refl, ap, ◌∙◌, ap₂, subst, subst₂, inl, inr, arith, get_or-set_other}
use Rattle.std.specs.List.{range_with_len}
use Rattle.std.proofs.Math.ListN.{get_or-map}
use Rattle.std.proofs.lemmas.List.{map-set, set-get_or, length-set, length-map}
use Rattle.shelf.specs.Links.{firsts, lasts, lens, cell_at, Within, Apart, Ends}
use Rattle.shelf.specs.Items.{Without}
use Rattle.shelf.specs.Standing.{standing, places, total, free}
use Rattle.shelf.specs.declared.book.ChainBook.{ChainBook}
use Rattle.shelf.specs.declared.book.Row.{Row}
use Rattle.shelf.proofs.Totals.{row, free_of, free_is}
use Rattle.shelf.proofs.Link.{Ready, ready_of, ins, end_is, Came, linked_len, came_empty, came_more, linked_sum, linked_free, linked_within, linked_separate, linked_ends, linked_others, linked_added, linked_fresh}
use Rattle.shelf.proofs.Unlink.{freed_len, freed_sum, freed_within, freed_separate, freed_ends, freed_others, freed_empty}
use Rattle.shelf.proofs.Fresh.{fresh_sum, fresh_within, fresh_apart, fresh_ends, fresh_empty}

abbrev pub none : Row
none = record { first = 0; last = 0; len = 0 }

module _ (rows : List Row) (i : ℕ) where
  first_at : (get_or rows i none).first ≡ get_or (firsts rows) i 0
  first_at = sym (get_or-map (λ r. r.first) rows i none)

  last_at : (get_or rows i none).last ≡ get_or (lasts rows) i 0
  last_at = sym (get_or-map (λ r. r.last) rows i none)

  pub len_at : (get_or rows i none).len ≡ get_or (lens rows) i 0
  len_at = sym (get_or-map (λ r. r.len) rows i none)

two_set : (f : Row → ℕ) (rows : List Row) (i j : ℕ) (a b : Row) → map f (set (set rows i a) j b) ≡ set (set (map f rows) i (f a)) j (f b)
two_set f rows i j a b = map-set f (set rows i a) j b ∙ ap (λ xs. set xs j (f b)) (map-set f rows i a)

-- a number written where it stood leaves a list as it was
stays_set : (xs : List ℕ) (c v : ℕ) → (c ≡ 16 → ⊥) → set (set xs 16 v) c (get_or xs c 0) ≡ set xs 16 v
stays_set xs c v ne = ap (set (set xs 16 v) c) (sym (get_or-set_other xs 16 c v 0 ne)) ∙ set-get_or (set xs 16 v) c 0

-- what a book keeps of its tables
pub record Kept (next first last len : List ℕ) (size : ℕ) : Type 0 where
  pub whole : sum len ≡ size
  pub within : Within next first len size
  pub apart : Apart next first len
  pub ends : Ends next first last len

kept_as : (next first first' last last' len len' : List ℕ) (size : ℕ) → first ≡ first' → last ≡ last' → len ≡ len' → Kept next first' last' len' size → Kept next first last len size
kept_as next first first' last last' len len' size f l n k =
    let P : List ℕ → Type 0 = λ x. Kept next x last len size in
    let Q : List ℕ → Type 0 = λ x. Kept next first' x len size in
    let R : List ℕ → Type 0 = λ x. Kept next first' last' x size in
    subst P (sym f) (subst Q (sym l) (subst R (sym n) k))

-- ---- all cells are free

module _ (b : ChainBook) (n : ℕ) (most : n ≤ 256) (next : List ℕ) (line : (k : ℕ) → k < 255 → get_or next k 0 ≡ k + 1) (long : length b.rows ≡ 17) (unset : b.size ≡ 0) where
  abbrev rows₀ : List Row
  rows₀ = set b.rows 16 (record { first = 0; last = 0; len = n })

  f17 : length (firsts b.rows) ≡ 17
  f17 = length-map b.rows (λ r. r.first) ∙ long

  n17 : length (lens b.rows) ≡ 17
  n17 = length-map b.rows (λ r. r.len) ∙ long

  pub sized_kept : Kept next (firsts rows₀) (lasts rows₀) (lens rows₀) n
  sized_kept =
      let F = firsts b.rows in
      let N = lens b.rows in
      kept_as next (firsts rows₀) (set F 16 0) (lasts rows₀) (lasts rows₀) (lens rows₀) (set N 16 n) n (map-set (λ r. r.first) b.rows 16 _) refl (map-set (λ r. r.len) b.rows 16 _)
      (record {
        whole = fresh_sum next F (lasts rows₀) N n most line f17 n17 (b.whole ∙ unset);
        within = fresh_within next F (lasts rows₀) N n most line f17 n17 (b.whole ∙ unset);
        apart = fresh_apart next F (lasts rows₀) N n most line f17 n17 (b.whole ∙ unset);
        ends = fresh_ends next F (lasts rows₀) N n most line f17 n17 (b.whole ∙ unset);
      })

  pub sized_none : (c : ℕ) → c < 16 → row next (firsts rows₀) (lens rows₀) c ≡ []
  sized_none c h =
      ap (λ m. map (cell_at next (firsts rows₀) c) (range_with_len 0 m))
      (ap (λ xs. get_or xs c 0) (map-set (λ r. r.len) b.rows 16 _) ∙ fresh_empty next (firsts b.rows) (lasts b.rows) (lens b.rows) n most line f17 n17 (b.whole ∙ unset) c h)

-- ---- the first free cell has gone to the end of a chain

-- the chain was empty and begins with that cell, or its last cell now leads on to it
abbrev pub Ways : ChainBook → ℕ → List ℕ → ℕ → Type 0
Ways b chain next' first =
    (((get_or b.rows chain none).len ≡ 0) × (next' ≡ b.next) × (first ≡ (get_or b.rows 16 none).first))
    ⊎ ((0 < (get_or b.rows chain none).len) × (next' ≡ set b.next (get_or b.rows chain none).last (get_or b.rows 16 none).first) × (first ≡ (get_or b.rows chain none).first))

module _ (b : ChainBook) (chain : ℕ) (low : chain < 16) (long : (length b.next ≡ 256) × (length b.rows ≡ 17)) where
  abbrev F : List ℕ
  F = firsts b.rows

  abbrev L : List ℕ
  L = lasts b.rows

  abbrev N : List ℕ
  N = lens b.rows

  -- the free row, and the chain's
  abbrev f : Row
  f = get_or b.rows 16 none

  abbrev r : Row
  r = get_or b.rows chain none

  ready : Ready b.next F L N b.size chain
  ready = ready_of b chain low long

  off : chain ≡ 16 → ⊥
  off e = omega arith

  module _ (some : 0 < get_or N 16 0) where
    pub link_within : f.first < b.size
    link_within = omega (arith, first_at b.rows 16, b.within 16 0 (omega arith, some))

    pub link_fresh : (cell : ℕ) → cell ≡ f.first → (d : ℕ) → d < 16 → Without cell (places b d)
    link_fresh cell named d h = let P : ℕ → Type 0 = λ x. Without x (places b d) in subst P (sym (named ∙ first_at b.rows 16)) (linked_fresh ready some d h)

  module _ (some : 0 < get_or N 16 0) (next' : List ℕ) (first cell : ℕ) (named : cell ≡ f.first) where
    abbrev rows₁ : List Row
    rows₁ = set (set b.rows 16 (record { first = get_or b.next cell 0; last = f.last; len = f.len - 1 })) chain (record { first = first; last = f.first; len = r.len + 1 })

    lens₁ : lens rows₁ ≡ linked_len N chain
    lens₁ = two_set (λ r. r.len) b.rows 16 chain _ _ ∙ ap₂ (λ x y. set (set N 16 (x - 1)) chain (y + 1)) (len_at b.rows 16) (len_at b.rows chain)

    lasts₁ : lasts rows₁ ≡ set L chain (get_or F 16 0)
    lasts₁ =
        two_set (λ r. r.last) b.rows 16 chain _ _ ∙ ap₂ (λ x y. set (set L 16 x) chain y) (last_at b.rows 16) (first_at b.rows 16)
        ∙ ap (λ xs. set xs chain (get_or F 16 0)) (set-get_or L 16 0)

    firsts₁ : firsts rows₁ ≡ set (set F 16 (get_or b.next (get_or F 16 0) 0)) chain first
    firsts₁ = two_set (λ r. r.first) b.rows 16 chain _ _ ∙ ap (λ x. set (set F 16 (get_or b.next x 0)) chain first) (named ∙ first_at b.rows 16)

    came : Ways b chain next' first → Came b.next F N next' (firsts rows₁) chain
    came (inl w) =
        let P : List ℕ → List ℕ → Type 0 = λ n f. Came b.next F N n f chain in
        subst₂ P (sym w.1) (sym (firsts₁ ∙ ap (set (set F 16 (get_or b.next (get_or F 16 0) 0)) chain) (w.2 ∙ first_at b.rows 16)))
        (came_empty ready some (sym (len_at b.rows chain) ∙ w.0))
    came (inr w) =
        let P : List ℕ → List ℕ → Type 0 = λ n f. Came b.next F N n f chain in
        subst₂ P (sym (w.1 ∙ ap₂ (set b.next) (last_at b.rows chain) (first_at b.rows 16)))
        (sym (firsts₁ ∙ ap (set (set F 16 (get_or b.next (get_or F 16 0) 0)) chain) (w.2 ∙ first_at b.rows chain) ∙ stays_set F chain (get_or b.next (get_or F 16 0) 0) off))
        (came_more ready some (omega (arith, w.0, len_at b.rows chain)))

    pub link_kept : Ways b chain next' first → Kept next' (firsts rows₁) (lasts rows₁) (lens rows₁) b.size
    link_kept w =
        kept_as next' (firsts rows₁) (firsts rows₁) (lasts rows₁) (set L chain (get_or F 16 0)) (lens rows₁) (linked_len N chain) b.size refl lasts₁ lens₁
        (record {
          whole = linked_sum ready some ∙ b.whole;
          within = linked_within ready some next' (firsts rows₁) (came w);
          apart = linked_separate ready some next' (firsts rows₁) (came w);
          ends = linked_ends ready some next' (firsts rows₁) (came w);
        })

    pub link_added : Ways b chain next' first → row next' (firsts rows₁) (lens rows₁) chain ≡ places b chain ++ (cell ∷ [])
    link_added w =
        ap (λ n. row next' (firsts rows₁) n chain) lens₁ ∙ linked_added ready some next' (firsts rows₁) (came w) ∙ ap (λ x. places b chain ++ (x ∷ [])) (sym (named ∙ first_at b.rows 16))

    pub link_others : Ways b chain next' first → (d : ℕ) → d < 16 → (d ≡ chain → ⊥) → row next' (firsts rows₁) (lens rows₁) d ≡ places b d
    link_others w d h z = ap (λ n. row next' (firsts rows₁) n d) lens₁ ∙ linked_others ready some next' (firsts rows₁) (came w) d h z

    pub link_free : Ways b chain next' first → (b.size - total (λ c. length (row next' (firsts rows₁) (lens rows₁) c))) + 1 ≡ free (standing b)
    link_free w =
        let n17 : length (lens rows₁) ≡ 17 = ap length lens₁ ∙ length-set (set N 16 (get_or N 16 0 - 1)) chain _ ∙ length-set N 16 _ ∙ ready.n17 in
        ap (λ n. n + 1) (sym (free_of next' (firsts rows₁) (lens rows₁) b.size n17 (link_kept w).whole) ∙ ap (λ xs. get_or xs 16 0) lens₁) ∙ linked_free ready some ∙ free_is b long.1

  -- ---- a chain has gone to the front of the free cells

  pub unlink_within : 0 < get_or N chain 0 → r.last < b.size
  unlink_within any = omega (arith, last_at b.rows chain, end_is ready any, ins ready chain (get_or N chain 0 - 1) (omega arith) (omega arith))

  module _ (any : 0 < get_or N chain 0) (last : ℕ) (named : last ≡ r.last) where
    abbrev next₂ : List ℕ
    next₂ = set b.next last f.first

    abbrev rows₂ : List Row
    rows₂ = set (set b.rows 16 (record { first = r.first; last = f.last; len = f.len + r.len })) chain (record { first = r.first; last = r.last; len = 0 })

    next_is : next₂ ≡ set b.next (get_or L chain 0) (get_or F 16 0)
    next_is = ap₂ (set b.next) (named ∙ last_at b.rows chain) (first_at b.rows 16)

    lens₂ : lens rows₂ ≡ freed_len N chain
    lens₂ = two_set (λ r. r.len) b.rows 16 chain _ _ ∙ ap₂ (λ x y. set (set N 16 (x + y)) chain 0) (len_at b.rows 16) (len_at b.rows chain)

    lasts₂ : lasts rows₂ ≡ L
    lasts₂ =
        two_set (λ r. r.last) b.rows 16 chain _ _ ∙ ap₂ (λ x y. set (set L 16 x) chain y) (last_at b.rows 16) (last_at b.rows chain)
        ∙ stays_set L chain (get_or L 16 0) off ∙ set-get_or L 16 0

    firsts₂ : firsts rows₂ ≡ set F 16 (get_or F chain 0)
    firsts₂ = two_set (λ r. r.first) b.rows 16 chain _ _ ∙ ap (λ x. set (set F 16 x) chain x) (first_at b.rows chain) ∙ stays_set F chain (get_or F chain 0) off

    pub unlink_kept : Kept next₂ (firsts rows₂) (lasts rows₂) (lens rows₂) b.size
    unlink_kept =
        let P : List ℕ → Type 0 = λ n. Kept n (firsts rows₂) (lasts rows₂) (lens rows₂) b.size in
        subst P (sym next_is)
        (kept_as _ (firsts rows₂) (set F 16 (get_or F chain 0)) (lasts rows₂) L (lens rows₂) (freed_len N chain) b.size firsts₂ lasts₂ lens₂
        (record {
          whole = freed_sum ready any ∙ b.whole;
          within = freed_within ready any;
          apart = freed_separate ready any;
          ends = freed_ends ready any;
        }))

    row_is : (d : ℕ) → row next₂ (firsts rows₂) (lens rows₂) d ≡ row (set b.next (get_or L chain 0) (get_or F 16 0)) (set F 16 (get_or F chain 0)) (freed_len N chain) d
    row_is d = ap (λ n. row n (firsts rows₂) (lens rows₂) d) next_is ∙ ap₂ (λ x n. row (set b.next (get_or L chain 0) (get_or F 16 0)) x n d) firsts₂ lens₂

    pub unlink_others : (d : ℕ) → d < 16 → (d ≡ chain → ⊥) → row next₂ (firsts rows₂) (lens rows₂) d ≡ places b d
    unlink_others d h z = row_is d ∙ freed_others ready any d h z

    pub unlink_none : row next₂ (firsts rows₂) (lens rows₂) chain ≡ []
    unlink_none = row_is chain ∙ freed_empty ready any
