-- One more item appended. Assumes nothing.
use Rattle.std.proofs.Common.{◌≡◌, ℕ, zero, suc, ◌+◌, ◌<◌, List, [], ◌∷◌, ◌++◌, map, length, get_or, set, sym, refl, ap, ◌∙◌, subst, inl, inr, append_assoc, add-zero, arith}
use Rattle.std.specs.List.{range_with_len}
use Rattle.std.proofs.lemmas.List.{append-nil, length_push, length-set}
use Rattle.std.proofs.lemmas.Bool.{cases_eq}
use Rattle.shelf.specs.Links.{firsts, lens, cell_at}
use Rattle.shelf.specs.Standing.{Standing, places}
use Rattle.shelf.specs.Items.{pick, items_at, list, Without, Below}
use Rattle.shelf.specs.Calls.{Grown}
use Rattle.shelf.specs.declared.book.ChainBook.{ChainBook}
use Rattle.shelf.proofs.Pick.{without_left, without_right, disjoint_push, distinct_push, below_append, below_at, pick_other, pick_same, items_append, items_other}

below_counted : (f : ℕ → ℕ) (m n a : ℕ) → ((p : ℕ) → p < n → f (a + p) < m) → Below m (map f (range_with_len a n))
below_counted f m zero a low = tt
below_counted f m (suc n) a low =
    let rest : (p : ℕ) → p < n → f ((a + 1) + p) < m = λ p h. (let e : (a + 1) + p ≡ a + suc p = omega arith in rw e (low (suc p) (omega arith))) in
    (simp add-zero at (low 0 (omega arith)), below_counted f m n (a + 1) rest)

-- a book's cells lie within its number of cells
pub below_places : (b : ChainBook) (c : ℕ) → c < 17 → Below b.size (places b c)
below_places b c h = below_counted (cell_at b.next (firsts b.rows) c) b.size (get_or (lens b.rows) c 0) 0 (λ p k. b.within c (0 + p) (h, omega arith))

-- and so within the memory that has as many items
pub below_memory : (b : ChainBook) (c n : ℕ) → c < 16 → n ≡ b.size → Below n (places b c)
below_memory b c n low whole = rw whole (below_places b c (omega arith))

pub in_memory : (b : ChainBook) (c n p : ℕ) → c < 16 → n ≡ b.size → p < length (places b c) → get_or (places b c) p 0 < n
in_memory b c n p low whole here = below_at n (places b c) p (below_memory b c n low whole) here

-- what linking one cell r to chain c does
pub record Linking (s s' : Standing) (c r : ℕ) : Type 0 where
  pub sized : s'.size ≡ s.size
  pub within : r < s.size
  pub added : s'.chain c ≡ s.chain c ++ (r ∷ [])
  pub others : (d : ℕ) → d < 16 → (d ≡ c → ⊥) → s'.chain d ≡ s.chain d
  pub fresh : (d : ℕ) → d < 16 → Without r (s.chain d)

module _ {T : Type 0} (s : Standing) (cells : List T) (c : ℕ) where
  pub grown_none : Grown s cells c [] s cells
  grown_none =
      record {
        taken = [];
        many = refl;
        inside = tt;
        distinct = tt;
        were_free = λ d h. tt;
        added = sym (append-nil (s.chain c));
        others = λ d h n. refl;
        sized = refl;
        holds = sym (append-nil (list s cells c));
        kept = λ d h n. refl;
        untouched = λ k w. refl;
        long = refl;
      }

  pub grown_more : (xs : List T) (x : T) (s₁ s₂ : Standing) (cells₁ : List T) (r : ℕ) → c < 16 → length cells ≡ s.size →
      Grown s cells c xs s₁ cells₁ → Linking s₁ s₂ c r → Grown s cells c (xs ++ (x ∷ [])) s₂ (set cells₁ r x)
  grown_more xs x s₁ s₂ cells₁ r low whole g k =
      record {
        taken = g.taken ++ (r ∷ []);
        many = length_push g.taken r ∙ ap (λ n. n + 1) g.many ∙ sym (length_push xs x);
        inside = below_append s.size g.taken (r ∷ []) g.inside (omega (arith, k.within, g.sized), tt);
        distinct = distinct_push g.taken r g.distinct off_taken;
        were_free = λ d h. disjoint_push g.taken (s.chain d) r (g.were_free d h) (off d h);
        added = k.added ∙ ap (λ ks. ks ++ (r ∷ [])) g.added ∙ append_assoc (s.chain c) g.taken (r ∷ []);
        others = λ d h n. k.others d h n ∙ g.others d h n;
        sized = k.sized ∙ g.sized;
        holds =
            ap (items_at (set cells₁ r x)) k.added ∙ items_append (set cells₁ r x) (s₁.chain c) (r ∷ [])
            ∙ ap (λ ys. ys ++ (pick (set cells₁ r x) r ++ [])) (items_other cells₁ (s₁.chain c) r x (k.fresh c low) ∙ g.holds)
            ∙ ap (λ ys. (list s cells c ++ xs) ++ (ys ++ [])) (pick_same cells₁ r x inside) ∙ append_assoc (list s cells c) xs (x ∷ []);
        kept = λ d h n. ap (items_at (set cells₁ r x)) (k.others d h n) ∙ items_other cells₁ (s₁.chain d) r x (k.fresh d h) ∙ g.kept d h n;
        untouched = λ j w. pick_other cells₁ j r x (without_right j g.taken (r ∷ []) w).0 ∙ g.untouched j (without_left j g.taken (r ∷ []) w);
        long = length-set cells₁ r x ∙ g.long;
      }
    where
      inside : r < length cells₁
      inside = omega (arith, k.within, g.sized, g.long, whole)

      at_end : Without r (s.chain c ++ g.taken)
      at_end = let P : List ℕ → Type 0 = λ ks. Without r ks in subst P g.added (k.fresh c low)

      off_taken : Without r g.taken
      off_taken = without_right r (s.chain c) g.taken at_end

      off : (d : ℕ) → d < 16 → Without r (s.chain d)
      off d h =
          let P : List ℕ → Type 0 = λ ks. Without r ks in
          elim (cases_eq d c) [
            | inl e ↦ subst P (ap s.chain (sym e)) (without_left r (s.chain c) g.taken at_end)
            | inr n ↦ subst P (g.others d h n) (k.fresh d h)
          ]
