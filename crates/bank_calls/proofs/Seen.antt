-- The books of a bank, link by link. Assumes nothing.
use Rattle.std.proofs.Common.{◌≡◌, ℕ, zero, suc, ◌+◌, ◌<◌, ◌≤◌, Bool, true, false, cond, List, length, take, Some, None, sym, refl, ap, ◌∙◌, subst, ap₂, inl, inr, add-one, arith}
use Rattle.std.proofs.lemmas.Bool.{cond-true, cond-false, cases_eq, cases_Bool}
use Rattle.std.specs.List.{count_by}
use Rattle.std.proofs.lemmas.List.Sums.{count_by_more_yes, count_by_more_no}
use Rattle.shelf.specs.Standing.{Standing, standing}
use Rattle.shelf.specs.Items.{list}
use Rattle.shelf.specs.Keys.{joined}
use Rattle.shelf.specs.declared.shelf.Shelf.{Shelf}
use Rattle.link.specs.declared.Link.{Link}
use Rattle.link.specs.Record.{view}
use Rattle.bank.specs.Books.{Books, eight, one_if_open, links, Same}
use Rattle.bank_calls.specs.Table.{absent, at}
use Rattle.bank_calls.specs.Seen.{running, seen, books_of, books}
use Rattle.bank_calls.specs.Calls.{Kept}
use Rattle.bank_calls.specs.declared.state.Bank.{Bank}

pub seen_open : (s : Standing) (memory : List (List ℕ)) (i : ℕ) (l : Link) → l.open ≡ true → seen s memory i l ≡ Some (running s memory i l)
seen_open s memory i l e = cond-true l.open (Some (running s memory i l)) None e

pub seen_shut : (s : Standing) (memory : List (List ℕ)) (i : ℕ) (l : Link) → l.open ≡ false → seen s memory i l ≡ None
seen_shut s memory i l e = cond-false l.open (Some (running s memory i l)) None e

-- ---- how many are open

abbrev pub one : Link → ℕ
one l = cond l.open 1 0

-- of the first i links
abbrev pub open_count : List Link → ℕ → ℕ
open_count links zero = 0
open_count links (suc i) = open_count links i + one (at links i)

one_cond : {A : Type 0} (o : Bool) (x : A) → one_if_open (cond o (Some x) None) ≡ cond o 1 0
one_cond true x = refl
one_cond false x = refl

pub one_seen : (s : Standing) (memory : List (List ℕ)) (i : ℕ) (l : Link) → one_if_open (seen s memory i l) ≡ one l
one_seen s memory i l = one_cond l.open (running s memory i l)

pub eight_seen : (s : Standing) (links : List Link) (memory : List (List ℕ)) → open_count links 8 ≡ eight (λ i. one_if_open ((books_of s links memory).link i))
eight_seen s links memory =
    omega (arith, one_seen s memory 0 (at links 0), one_seen s memory 1 (at links 1), one_seen s memory 2 (at links 2), one_seen s memory 3 (at links 3), one_seen s memory 4 (at links 4), one_seen s memory 5 (at links 5), one_seen s memory 6 (at links 6), one_seen s memory 7 (at links 7))

-- the count of a front of the table
pub counted : (links : List Link) (i : ℕ) → i ≤ length links → count_by (λ l. l.open) (take i links) ≡ open_count links i
counted links zero h = refl
counted links (suc i) h =
    elim (cases_Bool (at links i).open) [
      | inl o ↦ (let e = rw (add-one i) at (count_by_more_yes (λ l. l.open) links i absent (omega arith) o) in omega (arith, e, counted links i (omega arith), ap {A = Bool} {B = ℕ} (λ z. cond z 1 0) o))
      | inr o ↦ (let e = rw (add-one i) at (count_by_more_no (λ l. l.open) links i absent (omega arith) o) in omega (arith, e, counted links i (omega arith), ap {A = Bool} {B = ℕ} (λ z. cond z 1 0) o))
    ]

-- ---- a link whose cells and what they hold are the same is seen the same

some_alike : {A : Type 0} (o : Bool) (x y : A) → (o ≡ true → x ≡ y) → cond o (Some x) None ≡ cond o (Some y) None
some_alike true x y e = ap Some (e refl)
some_alike false x y e = refl

pub seen_alike : (s s' : Standing) (memory memory' : List (List ℕ)) (j : ℕ) (l : Link) → (l.open ≡ true → (length (s'.chain j) ≡ length (s.chain j)) × (list s' memory' j ≡ list s memory j)) →
    seen s' memory' j l ≡ seen s memory j l
seen_alike s s' memory memory' j l same =
    some_alike l.open (running s' memory' j l) (running s memory j l)
    (λ o. ap₂ (λ n items. record { mode = l.mode; direction = l.direction; key = l.key; cells = n; schedule = joined items; width = l.width; state = view l }) (same o).0 (same o).1)

-- ---- banks that hold the same have the same books

module _ {K : Type 0} (b b' : Bank K) where
  pub books_alike : b'.shelf ≡ b.shelf → b'.links ≡ b.links → (memory : List (List ℕ)) → books b' memory ≡ books b memory
  books_alike shelf links memory = ap₂ (λ (x : Shelf (List ℕ)) y. books_of (standing x.book) y memory) shelf links

  pub kept_same : Kept b b' → (memory : List (List ℕ)) → Same (books b memory) (books b' memory)
  kept_same k memory =
      let e = books_alike k.shelf k.links memory in
      let P : Books → Type 0 = Same (books b memory) in
      subst P (sym e) (record { size = refl; room = refl; link = λ j. refl })

-- ---- a link that is not open leaves fewer than eight

one_most : (l : Link) → one l ≤ 1
one_most l = go l.open
  where
    go : (o : Bool) → cond o 1 0 ≤ 1
    go true = omega arith
    go false = omega arith

count_most : (links : List Link) (n : ℕ) → open_count links n ≤ n
count_most links zero = omega arith
count_most links (suc n) = omega (arith, count_most links n, one_most (at links n))

count_vacant : (links : List Link) (i n : ℕ) → i < n → (at links i).open ≡ false → open_count links n < n
count_vacant links i zero low shut = absurd (omega arith)
count_vacant links i (suc n) low shut =
    elim (cases_eq i n) [
      | inl e ↦ (let none : one (at links n) ≡ 0 = ap {A = ℕ} {B = ℕ} (λ k. one (at links k)) (sym e) ∙ ap {A = Bool} {B = ℕ} (λ z. cond z 1 0) shut in omega (arith, count_most links n))
      | inr d ↦ omega (arith, count_vacant links i n (omega arith) shut, one_most (at links n))
    ]

pub vacant_few : (s : Standing) (table : List Link) (memory : List (List ℕ)) (i : ℕ) → i < 8 → (at table i).open ≡ false → links (books_of s table memory) ≤ 7
vacant_few s table memory i low shut = omega (arith, count_vacant table i 8 low shut, eight_seen s table memory)
