-- The cells and the links of a bank, by its books and by its past. Assumes nothing.
use Rattle.std.proofs.Common.{◌≡◌, ◌↔◌, ℕ, zero, suc, ◌+◌, ◌-◌, ◌<◌, ◌≤◌, true, false, cond, eqb, ltb, List, [], ◌∷◌, Some, None, Ok, Err, Option, Result, sym, refl, ap, ◌∙◌, inl, inr, arith}
use Rattle.std.proofs.lemmas.Bool.{eq-eqb, ne_eqb, cases_eq, cases_lt, lt-ltb, le-ltb}
use Rattle.refusal.specs.Checks.{first, refusal}
use Rattle.refusal.specs.declared.Refusal.{Refusal}
use Rattle.refusal.specs.declared.Refusal.TheVariants.{Cells}
use Rattle.refusal.proofs.Checks.{told_here, told_later, told_after, refusal_err}
use Rattle.kit.specs.Meaning.{Meaning}
use Rattle.bank.specs.Books.{Books, Running, eight, one_if_open, cells_if_open, links, Only}
use Rattle.bank.specs.Calls.{Ask, need, fresh, fed_link, early_checks, open_checks, Struck, Opens}
use Rattle.bank.specs.Past.{Event, opens, puts, ends, strikes, Step, Ran, starts, calls, open_now, need_if_open, cells_now, links_now}
use Rattle.bank.specs.Law.{ShortOfCells, Told}
use Rattle.bank.proofs.Runs.{Change, nothing, one, change, last, earlier, size_ran, high_ran}

-- ---- sums over the eight links

eight_same : (f g : ℕ → ℕ) → ((i : ℕ) → f i ≡ g i) → eight f ≡ eight g
eight_same f g h = omega (arith, h 0, h 1, h 2, h 3, h 4, h 5, h 6, h 7)

-- two that differ at one place
eight_one : (f g : ℕ → ℕ) (i : ℕ) → i < 8 → ((j : ℕ) → (j ≡ i → ⊥) → g j ≡ f j) → eight g + f i ≡ eight f + g i
eight_one f g zero low h = omega (arith, h 1 (λ e. omega arith), h 2 (λ e. omega arith), h 3 (λ e. omega arith), h 4 (λ e. omega arith), h 5 (λ e. omega arith), h 6 (λ e. omega arith), h 7 (λ e. omega arith))
eight_one f g (suc zero) low h = omega (arith, h 0 (λ e. omega arith), h 2 (λ e. omega arith), h 3 (λ e. omega arith), h 4 (λ e. omega arith), h 5 (λ e. omega arith), h 6 (λ e. omega arith), h 7 (λ e. omega arith))
eight_one f g (suc (suc zero)) low h = omega (arith, h 0 (λ e. omega arith), h 1 (λ e. omega arith), h 3 (λ e. omega arith), h 4 (λ e. omega arith), h 5 (λ e. omega arith), h 6 (λ e. omega arith), h 7 (λ e. omega arith))
eight_one f g (suc (suc (suc zero))) low h = omega (arith, h 0 (λ e. omega arith), h 1 (λ e. omega arith), h 2 (λ e. omega arith), h 4 (λ e. omega arith), h 5 (λ e. omega arith), h 6 (λ e. omega arith), h 7 (λ e. omega arith))
eight_one f g (suc (suc (suc (suc zero)))) low h = omega (arith, h 0 (λ e. omega arith), h 1 (λ e. omega arith), h 2 (λ e. omega arith), h 3 (λ e. omega arith), h 5 (λ e. omega arith), h 6 (λ e. omega arith), h 7 (λ e. omega arith))
eight_one f g (suc (suc (suc (suc (suc zero))))) low h = omega (arith, h 0 (λ e. omega arith), h 1 (λ e. omega arith), h 2 (λ e. omega arith), h 3 (λ e. omega arith), h 4 (λ e. omega arith), h 6 (λ e. omega arith), h 7 (λ e. omega arith))
eight_one f g (suc (suc (suc (suc (suc (suc zero)))))) low h = omega (arith, h 0 (λ e. omega arith), h 1 (λ e. omega arith), h 2 (λ e. omega arith), h 3 (λ e. omega arith), h 4 (λ e. omega arith), h 5 (λ e. omega arith), h 7 (λ e. omega arith))
eight_one f g (suc (suc (suc (suc (suc (suc (suc zero))))))) low h = omega (arith, h 0 (λ e. omega arith), h 1 (λ e. omega arith), h 2 (λ e. omega arith), h 3 (λ e. omega arith), h 4 (λ e. omega arith), h 5 (λ e. omega arith), h 6 (λ e. omega arith))
eight_one f g (suc (suc (suc (suc (suc (suc (suc (suc i)))))))) low h = absurd (omega arith)

-- ---- what is open, by the books and by the past

record Match (m : Meaning) (l : Option Running) (o : Option Ask) : Type 0 where
  pub cells : cells_if_open l ≡ need_if_open m o
  pub opened : one_if_open l ≡ one_if_open o

module _ (m : Meaning) where
  -- number j after a call that leaves o' under number i
  only_match : (b : Books) (i : ℕ) (l : Option Running) (b' : Books) (j : ℕ) (o o' : Option Ask) → Only b i l b' → Match m l o → Match m (b.link j) o' → Match m (b'.link j) (cond (eqb j i) o o')
  only_match b i l b' j o o' only now was =
      elim (cases_eq j i) [
        | inl e ↦ (let q : eqb j i ≡ true = eq-eqb j i e in let s : b'.link j ≡ l = ap b'.link e ∙ only.this in rw (q, s) now)
        | inr e ↦ (let q : eqb j i ≡ false = ne_eqb j i e in rw (q, only.others j e) was)
      ]

  struck_match : (b : Books) (i : ℕ) (l : Option Running) (b' : Books) (past : List Event) (j : ℕ) → b.link i ≡ l → Struck b i l b' → ((j : ℕ) → Match m (b.link j) (open_now past j)) → Match m (b'.link j) (cond (eqb j i) None (open_now past j))
  struck_match b i None b' past j e s h =
      elim (cases_eq j i) [
        | inl q ↦ (let t : eqb j i ≡ true = eq-eqb j i q in let u : b'.link j ≡ None = s.link j ∙ ap b.link q ∙ e in rw (t, u) (record { cells = refl; opened = refl }))
        | inr q ↦ (let t : eqb j i ≡ false = ne_eqb j i q in rw (t, s.link j) (h j))
      ]
  struck_match b i (Some l) b' past j e s h = only_match b i None b' j None (open_now past j) s.only (record { cells = refl; opened = refl }) (h j)

  match_step : (b : Books) (e : Event) (b' : Books) (past : List Event) (j : ℕ) → Step m b e b' → ((j : ℕ) → Match m (b.link j) (open_now past j)) → Match m (b'.link j) (open_now (e ∷ past) j)
  match_step b (opens a (Ok i)) b' past j s h = only_match b i (Some (fresh m a)) b' j (Some a) (open_now past j) s.2.holds.only (record { cells = refl; opened = refl }) (h j)
  match_step b (opens a (Err r)) b' past j s h = rw (s.2.holds.link j) (h j)
  match_step b (puts i x (Ok g)) b' past j s h =
      let t = s.1.1.holds in
      elim (cases_eq j i) [
        | inl e ↦
            (let now : b'.link j ≡ Some (fed_link m t.link x) = ap b'.link e ∙ t.only.this in
            let old : b.link j ≡ Some t.link = ap b.link e ∙ t.was in
            let q : Match m (Some t.link) (open_now past j) = rw old at (h j) in
            rw now (record { cells = q.cells; opened = q.opened }))
        | inr e ↦ rw (t.only.others j e) (h j)
      ]
  match_step b (puts i x (Err r)) b' past j s h = rw (s.1.1.holds.link j) (h j)
  match_step b (ends i (Ok g)) b' past j s h = only_match b i None b' j None (open_now past j) s.1.holds.closes.only (record { cells = refl; opened = refl }) (h j)
  match_step b (ends i (Err r)) b' past j s h = rw (s.1.holds.link j) (h j)
  match_step b (strikes i) b' past j s h = struck_match b i (b.link i) b' past j refl s h

  match_ran : (n : ℕ) (past : List Event) (b : Books) → Ran m n past b → (j : ℕ) → Match m (b.link j) (open_now past j)
  match_ran n [] b (starts new) j = rw (new.link j) (record { cells = refl; opened = refl })
  match_ran n (e ∷ past) b (calls {b = b₀} e₁ r s) j = match_step b₀ e b past j s (match_ran n past b₀ r)

  -- the free cells and the cells of the open links make n
  room_ran : (n : ℕ) (past : List Event) (b : Books) → Ran m n past b → b.room + eight (λ j. cells_if_open (b.link j)) ≡ n
  room_ran n [] b (starts new) = omega (arith, new.room, eight_same (λ j. cells_if_open (b.link j)) (λ j. 0) (λ j. ap cells_if_open (new.link j)))
  room_ran n (e ∷ past) b (calls {b = b₀} e₁ r s) = go (change m b₀ e b s) (room_ran n past b₀ r) (high_ran m n past b₀ r)
    where
      go : Change b₀ b → b₀.room + eight (λ j. cells_if_open (b₀.link j)) ≡ n → ((j : ℕ) → 8 ≤ j → b₀.link j ≡ None) → b.room + eight (λ j. cells_if_open (b.link j)) ≡ n
      go (nothing same) was none = omega (arith, was, same.room, eight_same (λ j. cells_if_open (b.link j)) (λ j. cells_if_open (b₀.link j)) (λ j. ap cells_if_open (same.link j)))
      go (one i o only room low) was none =
          elim (cases_lt i 8) [
            | inl l ↦ omega (arith, was, room, ap cells_if_open only.this, eight_one (λ j. cells_if_open (b₀.link j)) (λ j. cells_if_open (b.link j)) i l (λ j ne. ap cells_if_open (only.others j ne)))
            | inr h ↦ absurd (omega (arith, low (none i h)))
          ]

  pub told_ran : (n : ℕ) (past : List Event) (b : Books) → Ran m n past b → Told m n past b
  told_ran n past b r =
      let match = match_ran n past b r in
      let cells = eight_same (λ j. cells_if_open (b.link j)) (λ j. need_if_open m (open_now past j)) (λ j. (match j).cells) in
      record {
        fits = omega (arith, room_ran n past b r, cells);
        free = omega (arith, room_ran n past b r, cells);
        «open» = eight_same (λ j. one_if_open (b.link j)) (λ j. one_if_open (open_now past j)) (λ j. (match j).opened);
      }

  -- ---- short of cells

  short_step : (n : ℕ) (past : List Event) (b b' : Books) (a : Ask) (answer : Result ℕ Refusal) → Ran m n past b → Opens m b a answer b' → first (early_checks m n (links_now past) a) ≡ None
      → (answer ≡ Err Cells) ↔ (n - cells_now m past < need m a.key)
  short_step n past b b' a answer r did early =
      let t = told_ran n past b r in
      let checks : refusal answer ≡ first (open_checks m n (links_now past) (n - cells_now m past) a) =
      did.told ∙ ap (λ z. first (open_checks m z (links b) b.room a)) (size_ran m n past b r) ∙ ap (λ z. first (open_checks m n z b.room a)) t.«open» ∙ ap (λ z. first (open_checks m n (links_now past) z a)) t.free in
      let only = checks ∙ told_after (early_checks m n (links_now past) a) ((ltb (n - cells_now m past) (need m a.key), Cells) ∷ []) early in
      (λ e. exact answer (n - cells_now m past) (need m a.key) only e, λ h. refusal_err answer Cells (only ∙ sym (told_here _ _ _ (lt-ltb (n - cells_now m past) (need m a.key) h))))
    where
      exact : (answer : Result ℕ Refusal) (x y : ℕ) → refusal answer ≡ cond (ltb x y) (Some Cells) None → answer ≡ Err Cells → x < y
      exact answer x y only e =
          elim (cases_lt x y) [
            | inl h ↦ h
            | inr h ↦ (let one = ap refusal e in let two = told_later (ltb x y) Cells None None (le-ltb x y h) refl in let z : ◌≡◌ {A = ℕ} 0 1 = cc in absurd (omega arith))
          ]

pub short_of_cells : (m : Meaning) (n : ℕ) (past : List Event) (b : Books) → Ran m n past b → ShortOfCells m n past
short_of_cells m n past b r later before a answer is early =
    let s = earlier m n later (opens a answer ∷ before) b (rw is at r) in
    let o = last m n (opens a answer) before s.0 s.1 in
    short_step m n before o.books s.0 a answer o.ran o.step.2 early
