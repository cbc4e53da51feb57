-- How many cells a call leaves to a chain, and how many free. Assumes nothing.
use Rattle.std.proofs.Common.{◌≡◌, ℕ, ◌+◌, ◌<◌, ◌≤◌, List, [], ◌++◌, length, sym, ap, ◌∙◌, arith, length-append}
use Rattle.shelf.specs.Standing.{Standing, standing, total, free}
use Rattle.shelf.specs.Items.{list, items_at}
use Rattle.shelf.specs.Calls.{Grown, Emptied}
use Rattle.shelf.specs.declared.book.ChainBook.{ChainBook}
use Rattle.shelf.proofs.Totals.{total_more, total_places}

-- ---- a chain that has grown

module _ {T : Type 0} {s s' : Standing} {cells cells' : List T} {c : ℕ} {items : List T} (g : Grown s cells c items s' cells') where
  -- one that was empty lists the new items alone
  pub grown_listed : s.chain c ≡ [] → list s' cells' c ≡ items
  grown_listed none = g.holds ∙ ap (λ ks. items_at cells ks ++ items) none

  pub grown_many : length (s'.chain c) ≡ length (s.chain c) + length items
  grown_many = ap length g.added ∙ length-append (s.chain c) g.taken ∙ ap (λ n. length (s.chain c) + n) g.many

  pub grown_free : c < 16 → length items ≤ free s → free s' + length items ≡ free s
  grown_free low room =
      let risen = total_more (λ d. length (s.chain d)) (λ d. length (s'.chain d)) c (length items) low (λ d h ne. ap length (g.others d h ne)) grown_many in
      omega (arith, g.sized)

-- ---- a chain that was emptied

pub emptied_free : {s s' : Standing} {c : ℕ} → Emptied s c s' → c < 16 → total (λ d. length (s.chain d)) ≤ s.size → free s' ≡ free s + length (s.chain c)
emptied_free {s} {s'} {c} e low fits =
    let none : length (s.chain c) ≡ length (s'.chain c) + length (s.chain c) = omega (arith, ap length e.none) in
    let fallen = total_more (λ d. length (s'.chain d)) (λ d. length (s.chain d)) c (length (s.chain c)) low (λ d h ne. sym (ap length (e.others d h ne))) none in
    omega (arith, e.sized)

-- the chains of a book never have more cells than there are
pub book_fits : (b : ChainBook) → total (λ c. length ((standing b).chain c)) ≤ (standing b).size
book_fits b = omega (arith, total_places b, b.whole)

pub book_emptied_free : (b : ChainBook) (c : ℕ) (s' : Standing) → Emptied (standing b) c s' → c < 16 → free s' ≡ free (standing b) + length ((standing b).chain c)
book_emptied_free b c s' e low = emptied_free e low (book_fits b)
