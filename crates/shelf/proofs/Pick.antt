-- The items of cells, before and after one cell is written. Assumes nothing.
use Rattle.std.proofs.Common.{◌≡◌, ℕ, zero, suc, ◌+◌, ◌<◌, List, [], ◌∷◌, ◌++◌, length, get_or, take, set, Some, sym, refl, ap, ◌∙◌, ap₂, append_assoc, arith}
use Rattle.std.specs.List.{slice_get}
use Rattle.std.proofs.lemmas.List.{take_more}
use Rattle.shelf.specs.Items.{pick, items_at, Without, Disjoint, Distinct, Below}

pub without_left : (k : ℕ) (xs ys : List ℕ) → Without k (xs ++ ys) → Without k xs
without_left k [] ys w = tt
without_left k (x ∷ xs) ys w = (w.0, without_left k xs ys w.1)

pub without_right : (k : ℕ) (xs ys : List ℕ) → Without k (xs ++ ys) → Without k ys
without_right k [] ys w = w
without_right k (x ∷ xs) ys w = without_right k xs ys w.1

pub disjoint_push : (js ks : List ℕ) (r : ℕ) → Disjoint js ks → Without r ks → Disjoint (js ++ (r ∷ [])) ks
disjoint_push [] ks r d w = (w, tt)
disjoint_push (j ∷ js) ks r d w = (d.0, disjoint_push js ks r d.1 w)

without_push : (k r : ℕ) (ks : List ℕ) → Without k ks → (r ≡ k → ⊥) → Without k (ks ++ (r ∷ []))
without_push k r [] w ne = (ne, tt)
without_push k r (j ∷ js) w ne = (w.0, without_push k r js w.1 ne)

pub distinct_push : (ks : List ℕ) (r : ℕ) → Distinct ks → Without r ks → Distinct (ks ++ (r ∷ []))
distinct_push [] r d w = (tt, tt)
distinct_push (k ∷ ks) r d w = (without_push k r ks d.0 (λ e. w.0 (sym e)), distinct_push ks r d.1 w.1)

pub below_append : (n : ℕ) (ks js : List ℕ) → Below n ks → Below n js → Below n (ks ++ js)
below_append n [] js b h = h
below_append n (k ∷ ks) js b h = (b.0, below_append n ks js b.1 h)

pub below_at : (n : ℕ) (ks : List ℕ) (p : ℕ) → Below n ks → p < length ks → get_or ks p 0 < n
below_at n [] p b h = absurd (omega arith)
below_at n (k ∷ ks) zero b h = b.0
below_at n (k ∷ ks) (suc p) b h = below_at n ks p b.1 (omega arith)

module _ {T : Type 0} where
  pub pick_other : (cells : List T) (k r : ℕ) (x : T) → (r ≡ k → ⊥) → pick (set cells r x) k ≡ pick cells k
  pick_other [] k r x ne = refl
  pick_other (y ∷ ys) zero zero x ne = absurd (ne refl)
  pick_other (y ∷ ys) zero (suc r) x ne = refl
  pick_other (y ∷ ys) (suc k) zero x ne = refl
  pick_other (y ∷ ys) (suc k) (suc r) x ne = pick_other ys k r x (λ e. ne (ap suc e))

  pub pick_same : (cells : List T) (r : ℕ) (x : T) → r < length cells → pick (set cells r x) r ≡ x ∷ []
  pick_same [] r x h = absurd (omega arith)
  pick_same (y ∷ ys) zero x h = refl
  pick_same (y ∷ ys) (suc r) x h = pick_same ys r x (omega arith)

  pub pick_read : (cells : List T) (k : ℕ) (x : T) → k < length cells → x ≡ get_or cells k x → pick cells k ≡ x ∷ []
  pick_read [] k x h e = absurd (omega arith)
  pick_read (y ∷ ys) zero x h e = ap (λ z. z ∷ []) (sym e)
  pick_read (y ∷ ys) (suc k) x h e = pick_read ys k x (omega arith) e

  pick_one : (cells : List T) (k : ℕ) → k < length cells → (x : T) × (pick cells k ≡ x ∷ [])
  pick_one [] k h = absurd (omega arith)
  pick_one (y ∷ ys) zero h = (y, refl)
  pick_one (y ∷ ys) (suc k) h = pick_one ys k (omega arith)

  pub items_append : (cells : List T) (ks js : List ℕ) → items_at cells (ks ++ js) ≡ items_at cells ks ++ items_at cells js
  items_append cells [] js = refl
  items_append cells (k ∷ ks) js = ap (λ xs. pick cells k ++ xs) (items_append cells ks js) ∙ sym (append_assoc (pick cells k) (items_at cells ks) (items_at cells js))

  pub items_other : (cells : List T) (ks : List ℕ) (r : ℕ) (x : T) → Without r ks → items_at (set cells r x) ks ≡ items_at cells ks
  items_other cells [] r x w = refl
  items_other cells (k ∷ ks) r x w = ap₂ (λ xs ys. xs ++ ys) (pick_other cells k r x (λ e. w.0 (sym e))) (items_other cells ks r x w.1)

  pub length_items : (cells : List T) (ks : List ℕ) → Below (length cells) ks → length (items_at cells ks) ≡ length ks
  length_items cells [] h = refl
  length_items cells (k ∷ ks) h =
      let one = pick_one cells k h.0 in
      ap (λ xs. length (xs ++ items_at cells ks)) one.1 ∙ ap suc (length_items cells ks h.1)

  pub nth_items : (cells : List T) (ks : List ℕ) (p : ℕ) (x : T) → Below (length cells) ks → p < length ks → x ≡ get_or cells (get_or ks p 0) x → slice_get (items_at cells ks) p ≡ Some x
  nth_items cells [] p x h l e = absurd (omega arith)
  nth_items cells (k ∷ ks) zero x h l e = ap (λ xs. slice_get (xs ++ items_at cells ks) 0) (pick_read cells k x h.0 e)
  nth_items cells (k ∷ ks) (suc p) x h l e =
      let one = pick_one cells k h.0 in
      ap (λ xs. slice_get (xs ++ items_at cells ks) (suc p)) one.1 ∙ nth_items cells ks p x h.1 (omega arith) e

  -- the items of one cell more
  pub items_more : (cells : List T) (ks : List ℕ) (p : ℕ) (x : T) → Below (length cells) ks → p < length ks → x ≡ get_or cells (get_or ks p 0) x →
      items_at cells (take (p + 1) ks) ≡ items_at cells (take p ks) ++ (x ∷ [])
  items_more cells ks p x below h e =
      ap (items_at cells) (take_more ks p 0 h) ∙ items_append cells (take p ks) (get_or ks p 0 ∷ [])
      ∙ ap (λ xs. items_at cells (take p ks) ++ (xs ++ [])) (pick_read cells (get_or ks p 0) x (below_at (length cells) ks p below h) e)
