-- The free cells by the lengths of all chains. Assumes nothing.
use Rattle.std.proofs.Common.{◌≡◌, ℕ, zero, suc, ◌+◌, ◌-◌, ◌<◌, ◌≤◌, List, map, length, get_or, drop, sum, refl, ap, ◌∙◌, inl, inr, arith}
use Rattle.std.proofs.lemmas.List.{drop_more, drop_all, get_or_past, length-map}
use Rattle.std.proofs.lemmas.List.Sums.{sum_by-cons, get_or-le-sum_by}
use Rattle.std.proofs.lemmas.Bool.{cases_eq, cases_lt}
use Rattle.std.specs.List.{range_with_len}
use Rattle.std.proofs.lemmas.List.FromFn.{fill_by_all, length-map-range_with_len, sum_by-map-range_with_len_more}
use Rattle.shelf.specs.Links.{firsts, lens, cell_at}
use Rattle.shelf.specs.Standing.{standing, places, total, free}
use Rattle.shelf.specs.declared.book.ChainBook.{ChainBook}
use Rattle.shelf.proofs.Moves.{same_counted}

pub total_same : (f g : ℕ → ℕ) → ((c : ℕ) → c < 16 → f c ≡ g c) → total f ≡ total g
unfolding total
total_same f g same = ap sum (same_counted f g 16 same)

pub length_places : (b : ChainBook) (c : ℕ) → length (places b c) ≡ get_or (lens b.rows) c 0
length_places b c = length-map-range_with_len (cell_at b.next (firsts b.rows) c) 0 (get_or (lens b.rows) c 0)

sum_total : (xs : List ℕ) → length xs ≡ 17 → sum xs ≡ total (λ c. get_or xs c 0) + get_or xs 16 0
unfolding total
sum_total xs long =
    ap sum (fill_by_all (λ c. get_or xs c 0) xs 17 0 long (λ k h. refl)) ∙ sum_by-map-range_with_len_more (λ x. x) (λ c. get_or xs c 0) 0 16 16 (omega arith)

-- the cells of row c, in tables that no book need hold
abbrev pub row : (next first len : List ℕ) → ℕ → List ℕ
row next first len c = map (cell_at next first c) (range_with_len 0 (get_or len c 0))

pub free_of : (next first len : List ℕ) (size : ℕ) → length len ≡ 17 → sum len ≡ size → get_or len 16 0 ≡ size - total (λ c. length (row next first len c))
free_of next first len size long whole =
    let one = sum_total len long in
    let two = total_same (λ c. length (row next first len c)) (λ c. get_or len c 0) (λ c h. length-map-range_with_len (cell_at next first c) 0 (get_or len c 0)) in
    omega arith

pub free_is : (b : ChainBook) → length b.rows ≡ 17 → get_or (lens b.rows) 16 0 ≡ free (standing b)
free_is b long = free_of b.next (firsts b.rows) (lens b.rows) b.size (length-map b.rows (λ r. r.len) ∙ long) b.whole

-- sums over a run of chains: one chain more, and where each number has not risen, or one of them has risen by k
sum_first : (f : ℕ → ℕ) (n a : ℕ) → sum (map f (range_with_len a (suc n))) ≡ f a + sum (map f (range_with_len (a + 1) n))
sum_first f n a = sum_by-cons (λ x. x) (f a) (map f (range_with_len (a + 1) n))

sum_fallen : (f g : ℕ → ℕ) (n a : ℕ) → ((d : ℕ) → a ≤ d → g d ≤ f d) → sum (map g (range_with_len a n)) ≤ sum (map f (range_with_len a n))
sum_fallen f g zero a low = omega arith
sum_fallen f g (suc n) a low = omega (arith, sum_first f n a, sum_first g n a, low a (omega arith), sum_fallen f g n (a + 1) (λ d h. low d (omega arith)))

sum_raised : (f g : ℕ → ℕ) (c k n a : ℕ) → ((d : ℕ) → (d ≡ c → ⊥) → g d ≤ f d) → g c ≤ f c + k → sum (map g (range_with_len a n)) ≤ sum (map f (range_with_len a n)) + k
sum_raised f g c k zero a low up = omega arith
sum_raised f g c k (suc n) a low up =
    elim (cases_eq a c) [
      | inl e ↦ omega (arith, ap f e, ap g e, sum_first f n a, sum_first g n a, sum_fallen f g n (a + 1) (λ d h. low d (λ z. omega arith)))
      | inr ne ↦ omega (arith, sum_first f n a, sum_first g n a, low a ne, sum_raised f g c k n (a + 1) low up)
    ]

pub total_none : (n : ℕ) → total (λ c. 0) ≤ n
unfolding total
total_none n = omega arith

pub total_fallen : (f g : ℕ → ℕ) → ((d : ℕ) → g d ≤ f d) → total g ≤ total f
unfolding total
total_fallen f g low = sum_fallen f g 16 0 (λ d h. low d)

pub total_raised : (f g : ℕ → ℕ) (c k : ℕ) → ((d : ℕ) → (d ≡ c → ⊥) → g d ≤ f d) → g c ≤ f c + k → total g ≤ total f + k
unfolding total
total_raised f g c k low up = sum_raised f g c k 16 0 low up

-- and exactly: where no number has changed, or one of them has risen by k
sum_same : (f g : ℕ → ℕ) (n a : ℕ) → ((d : ℕ) → a ≤ d → d < a + n → g d ≡ f d) → sum (map g (range_with_len a n)) ≡ sum (map f (range_with_len a n))
sum_same f g zero a same = refl
sum_same f g (suc n) a same = omega (arith, sum_first f n a, sum_first g n a, same a (omega arith) (omega arith), sum_same f g n (a + 1) (λ d h l. same d (omega arith) (omega arith)))

sum_more : (f g : ℕ → ℕ) (c k n a : ℕ) → a ≤ c → c < a + n → ((d : ℕ) → a ≤ d → d < a + n → (d ≡ c → ⊥) → g d ≡ f d) → g c ≡ f c + k → sum (map g (range_with_len a n)) ≡ sum (map f (range_with_len a n)) + k
sum_more f g c k zero a from to same up = absurd (omega arith)
sum_more f g c k (suc n) a from to same up =
    elim (cases_eq a c) [
      | inl e ↦ omega (arith, ap f e, ap g e, sum_first f n a, sum_first g n a, sum_same f g n (a + 1) (λ d h l. same d (omega arith) (omega arith) (λ z. omega arith)))
      | inr ne ↦ omega (arith, sum_first f n a, sum_first g n a, same a (omega arith) (omega arith) ne, sum_more f g c k n (a + 1) (omega arith) (omega arith) (λ d h l. same d (omega arith) (omega arith)) up)
    ]

pub total_more : (f g : ℕ → ℕ) (c k : ℕ) → c < 16 → ((d : ℕ) → d < 16 → (d ≡ c → ⊥) → g d ≡ f d) → g c ≡ f c + k → total g ≡ total f + k
unfolding total
total_more f g c k low same up = sum_more f g c k 16 0 (omega arith) (omega arith) (λ d h l. same d (omega arith)) up

-- the front of a list of numbers sums to no more than the whole
sum_front : (xs : List ℕ) (n a : ℕ) → sum (map (λ c. get_or xs c 0) (range_with_len a n)) ≤ sum (drop a xs)
sum_front xs zero a = omega arith
sum_front xs (suc n) a =
    let first = sum_first (λ c. get_or xs c 0) n a in
    let rest = sum_front xs n (a + 1) in
    elim (cases_lt a (length xs)) [
      | inl h ↦ omega (arith, ap sum (drop_more xs a 0 h), sum_by-cons (λ x. x) (get_or xs a 0) (drop (a + 1) xs))
      | inr h ↦ omega (arith, get_or_past xs a 0 h, ap sum (drop_all (a + 1) xs (omega arith)))
    ]

pub total_places : (b : ChainBook) → total (λ c. length (places b c)) ≤ sum (lens b.rows)
unfolding total
total_places b = omega (arith, total_same (λ c. length (places b c)) (λ c. get_or (lens b.rows) c 0) (λ c h. length_places b c), sum_front (lens b.rows) 16 0)

-- no row has more than 256
pub places_few : (b : ChainBook) (c : ℕ) → length (places b c) ≤ 256
places_few b c =
    elim (cases_lt c (length (lens b.rows))) [
      | inl h ↦ omega (arith, length_places b c, get_or-le-sum_by (λ x. x) (lens b.rows) c 0 h, b.whole, b.few)
      | inr h ↦ omega (arith, length_places b c, get_or_past (lens b.rows) c 0 h)
    ]
