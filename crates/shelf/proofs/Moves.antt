-- Steps along changed links. Assumes nothing.
use Rattle.std.proofs.Common.{◌≡◌, ℕ, zero, suc, ◌+◌, ◌<◌, List, ◌∷◌, map, get_or, set, sym, refl, ap, ◌∙◌, ap₂, add-zero, add-suc, add-one, arith, get_or-set_other}
use Rattle.std.specs.List.{range_with_len}
use Rattle.shelf.specs.Items.{Without}
use Rattle.shelf.specs.Links.{step, run}

-- one link on from the start is one link on at the end
pub step_shift : (next : List ℕ) (a p : ℕ) → step next (get_or next a 0) p ≡ step next a (p + 1)
step_shift next a zero = refl
step_shift next a (suc p) = ap (λ k. get_or next k 0) (step_shift next a p) ∙ simp add-one

-- a run begins with its first cell, and goes on one link later
pub run_more : (next : List ℕ) (a n : ℕ) → run next a (n + 1) ≡ a ∷ run next (get_or next a 0) n
run_more next a n = ap (run next a) (add-one n) ∙ ap (λ ks. a ∷ ks) (later n 0)
  where
    later : (n p : ℕ) → map (step next a) (range_with_len (p + 1) n) ≡ map (step next (get_or next a 0)) (range_with_len p n)
    later zero p = refl
    later (suc n) p = ap₂ (λ k ks. k ∷ ks) (sym (step_shift next a p)) (later n (p + 1))

-- steps add up
pub step_add : (next : List ℕ) (a n m : ℕ) → step next a (n + m) ≡ step next (step next a n) m
step_add next a n zero = simp add-zero
step_add next a n (suc m) = ap (step next a) (add-suc n m) ∙ ap (λ k. get_or next k 0) (step_add next a n m)

-- a link that is not followed may change
pub step_set : (next : List ℕ) (x v a p : ℕ) → ((q : ℕ) → q < p → step next a q ≡ x → ⊥) → step (set next x v) a p ≡ step next a p
step_set next x v a zero off = refl
step_set next x v a (suc p) off =
    ap (λ k. get_or (set next x v) k 0) (step_set next x v a p (λ q h. off q (omega arith))) ∙ get_or-set_other next x (step next a p) v 0 (off p (omega arith))

-- a row of cells that a function of the position gives
pub same_counted : (f g : ℕ → ℕ) (n : ℕ) → ((p : ℕ) → p < n → f p ≡ g p) → map f (range_with_len 0 n) ≡ map g (range_with_len 0 n)
same_counted f g n same = same_from f g n 0 (λ p h. same (0 + p) (omega arith))
  where
    same_from : (f g : ℕ → ℕ) (n a : ℕ) → ((p : ℕ) → p < n → f (a + p) ≡ g (a + p)) → map f (range_with_len a n) ≡ map g (range_with_len a n)
    same_from f g zero a same = refl
    same_from f g (suc n) a same =
        let here : f a ≡ g a = simp add-zero at (same 0 (omega arith)) in
        let rest : (p : ℕ) → p < n → f ((a + 1) + p) ≡ g ((a + 1) + p) = λ p h. (let e : (a + 1) + p ≡ a + suc p = omega arith in rw e (same (suc p) (omega arith))) in
        ap₂ (λ x xs. x ∷ xs) here (same_from f g n (a + 1) rest)

pub without_counted : (f : ℕ → ℕ) (k n : ℕ) → ((p : ℕ) → p < n → f p ≡ k → ⊥) → Without k (map f (range_with_len 0 n))
without_counted f k n off = without_from n 0 (λ p h. off (0 + p) (omega arith))
  where
    without_from : (n a : ℕ) → ((p : ℕ) → p < n → f (a + p) ≡ k → ⊥) → Without k (map f (range_with_len a n))
    without_from zero a off = tt
    without_from (suc n) a off =
        let rest : (p : ℕ) → p < n → f ((a + 1) + p) ≡ k → ⊥ = λ p h. (let e : (a + 1) + p ≡ a + suc p = omega arith in rw e (off (suc p) (omega arith))) in
        (simp add-zero at (off 0 (omega arith)), without_from n (a + 1) rest)
