-- What a bank keeps of its records and chains, after one record and one chain have changed. Assumes nothing.
use Rattle.std.proofs.Common.{◌≡◌, ℕ, ◌<◌, ◌≤◌, true, false, List, [], length, set, ap, ◌∙◌, arith, length-set}
use Rattle.shelf.specs.Standing.{Standing, standing}
use Rattle.link.specs.declared.Link.{Link}
use Rattle.link.specs.Record.{Fits, Clear}
use Rattle.bank_calls.specs.Table.{at}
use Rattle.bank_calls.specs.declared.state.Bank.{Bank}
use Rattle.bank_calls.proofs.Tables.{at_set, open_below}

-- what is owed of the record under number i, over how the shelf stands
pub record Sits (s : Standing) (i : ℕ) (l : Link) : Type 0 where
  pub fits : l.open ≡ true → Fits l
  pub clear : l.open ≡ true → Clear l
  pub sized : l.open ≡ true → 1 ≤ s.size
  pub few : l.open ≡ true → length (s.chain i) ≤ 96
  pub shut : (i < 8) × (l.open ≡ false) → s.chain i ≡ []

-- as a bank keeps it
abbrev pub All : List Link → Standing → Type 0
All links s = record {
  eight : length links ≡ 8;
  fits : (i : ℕ) → (at links i).open ≡ true → Fits (at links i);
  clear : (i : ℕ) → (at links i).open ≡ true → Clear (at links i);
  sized : (i : ℕ) → (at links i).open ≡ true → 1 ≤ s.size;
  few : (i : ℕ) → (at links i).open ≡ true → length (s.chain i) ≤ 96;
  shut : (i : ℕ) → (i < 8) × ((at links i).open ≡ false) → s.chain i ≡ [];
}

pub every : (links : List Link) (s : Standing) → length links ≡ 8 → ((i : ℕ) → Sits s i (at links i)) → All links s
every links s eight sits =
    record {
      eight = eight;
      fits = λ i. (sits i).fits;
      clear = λ i. (sits i).clear;
      sized = λ i. (sits i).sized;
      few = λ i. (sits i).few;
      shut = λ i. (sits i).shut;
    }

module _ {K : Type 0} (b : Bank K) where
  pub sits : (i : ℕ) → Sits (standing b.shelf.book) i (at b.links i)
  sits i = record { fits = b.fits i; clear = b.clear i; sized = b.sized i; few = b.few i; shut = b.shut i }

  -- one record written; no other chain has changed, nor the number of cells
  pub written : (i : ℕ) (l : Link) (s' : Standing) → i < 8 → Sits s' i l → s'.size ≡ b.shelf.book.size → ((d : ℕ) → d < 16 → (d ≡ i → ⊥) → s'.chain d ≡ (standing b.shelf.book).chain d) →
      All (set b.links i l) s'
  written i l s' low here size others =
      every (set b.links i l) s' (length-set b.links i l ∙ b.eight)
      (at_set (Sits s') b.links i l (omega (arith, b.eight)) here (λ j d. record {
        fits = b.fits j;
        clear = b.clear j;
        sized = λ o. omega (arith, b.sized j o);
        few = λ o. let e = ap length (others j (omega (arith, open_below b.links j o, b.eight)) d) in omega (arith, b.few j o);
        shut = λ h. others j (omega (arith, h.0)) d ∙ b.shut j h;
      }))
