-- A bank that is given its cells. Assumes nothing.
use Rattle.std.proofs.Common.{◌≡◌, ℕ, true, false, not, eqb, ltb, List, [], ◌∷◌, length, is_err, None, Ok, Err, Result, sym, refl, ap, ◌∙◌, subst, inl, inr, arith}
use Rattle.std.proofs.lemmas.Bool.{eqb-true, not-false, cases_Bool}
use Rattle.refusal.specs.Checks.{first}
use Rattle.refusal.specs.declared.Refusal.{Refusal}
use Rattle.refusal.specs.declared.Refusal.TheVariants.{Size}
use Rattle.refusal.proofs.Checks.{none_due}
use Rattle.shelf.specs.Standing.{Standing, standing, free}
use Rattle.shelf.specs.Calls.{size_checks, Empty, Sizing}
use Rattle.shelf.proofs.Totals.{total_same, total_none}
use Rattle.kit.specs.Meaning.{Meaning}
use Rattle.bank.specs.Past.{New, Ran, starts}
use Rattle.bank_calls.specs.Table.{at}
use Rattle.bank_calls.specs.Seen.{books}
use Rattle.bank_calls.specs.Calls.{Sizes}
use Rattle.bank_calls.specs.declared.state.Bank.{Bank}
use Rattle.bank_calls.proofs.Seen.{seen_shut}
use Rattle.bank_calls.proofs.Invariants.{All, every, sits}

-- only a bank without cells takes some
unsized : (size n : ℕ) → None ≡ first (size_checks size n) → size ≡ 0
unsized size n told =
    let two = none_due (ltb 256 n) Size (first ((not (eqb size 0), Size) ∷ [])) (none_due (ltb n 1) Size (first ((ltb 256 n, Size) ∷ (not (eqb size 0), Size) ∷ [])) told).1 in
    eqb-true size 0 (not-false (eqb size 0) (none_due (not (eqb size 0)) Size None two.1).0)

all_free : (n : ℕ) (s : Standing) → Empty n s → free s ≡ n
all_free n s e =
    let none = total_same (λ c. length (s.chain c)) (λ c. 0) (λ c h. ap length (e.none c h)) in
    omega (arith, none, total_none 0, e.sized)

module _ {K : Type 0} (b b' : Bank K) (kit : b'.kit ≡ b.kit) (links : b'.links ≡ b.links) where
  new : (n : ℕ) → b.shelf.book.size ≡ 0 → Empty n (standing b'.shelf.book) → (memory : List (List ℕ)) → New n (books b' memory)
  new n zero e memory =
      record { size = e.sized; room = all_free n (standing b'.shelf.book) e; link = λ j. seen_shut (standing b'.shelf.book) memory j (at b'.links j) (ap (λ z. (at z j).open) links ∙ shut j) }
    where
      shut : (j : ℕ) → (at b.links j).open ≡ false
      shut j = elim (cases_Bool (at b.links j).open) [ inl e ↦ absurd (omega (arith, b.sized j e)) | inr e ↦ e ]

  pub sizes : (n : ℕ) (r : Result (Unit {0}) Refusal) → Sizing (standing b.shelf.book) n r (standing b'.shelf.book) → (is_err r ≡ true → b'.shelf ≡ b.shelf) → Sizes b n r b'
  sizes n (Ok done) s kept = record { told = s.told; holds = new n (unsized b.shelf.book.size n s.told) s.holds }
  sizes n (Err e) s kept = record { told = s.told; holds = record { kit = kit; shelf = kept refl; links = links } }

pub begun : {K : Type 0} (m : Meaning) (b : Bank K) (n : ℕ) (r : Result (Unit {0}) Refusal) (b' : Bank K) → Sizes b n r b' → r ≡ Ok tt → (own : List (List ℕ)) → Ran m n [] (books b' own)
begun m b n (Ok tt) b' did e own = starts (did.holds own)
begun m b n (Err f) b' did e own = let z : ◌≡◌ {A = ℕ} 0 1 = cc in absurd (omega arith)

-- what a bank keeps holds after it: no link of a bank that takes cells is open
pub sized_keeps : {K : Type 0} (b : Bank K) (n : ℕ) (r : Result (Unit {0}) Refusal) (s' : Standing) → Sizing (standing b.shelf.book) n r s' → All b.links s'
sized_keeps b n (Ok done) s' did =
    let zero = unsized b.shelf.book.size n did.told in
    every b.links s' b.eight (λ i. record {
      fits = b.fits i;
      clear = b.clear i;
      sized = λ o. absurd (omega (arith, b.sized i o, zero));
      few = λ o. absurd (omega (arith, b.sized i o, zero));
      shut = λ h. did.holds.none i (omega (arith, h.0));
    })
sized_keeps b n (Err e) s' did = let P : Standing → Type 0 = All b.links in subst P (sym did.holds) (every b.links (standing b.shelf.book) b.eight (sits b))
