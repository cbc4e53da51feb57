-- One record of the table written. Assumes nothing.
use Rattle.std.proofs.Common.{◌≡◌, ℕ, zero, suc, ◌<◌, true, List, [], ◌∷◌, length, set, sym, refl, ap, subst, inl, inr, get_or-set_other, get_or-set_same}
use lib.ListN.{get_or-eq_default}
use Rattle.std.proofs.lemmas.Bool.{cases_eq, cases_lt, both_ways}
use Rattle.link.specs.declared.Link.{Link}
use Rattle.bank_calls.specs.Table.{absent, at}

pub at_same : (links : List Link) (i : ℕ) (l : Link) → i < length links → at (set links i l) i ≡ l
at_same links i l below = get_or-set_same links i l absent below

pub at_other : (links : List Link) (i j : ℕ) (l : Link) → (j ≡ i → ⊥) → at (set links i l) j ≡ at links j
at_other links i j l d = get_or-set_other links i j l absent d

-- what holds of the record that is written, and of every other one before, holds of every record after
pub at_set : (P : ℕ → Link → Type 0) (links : List Link) (i : ℕ) (l : Link) → i < length links → P i l → ((j : ℕ) → (j ≡ i → ⊥) → P j (at links j)) → (j : ℕ) → P j (at (set links i l) j)
at_set P links i l below here others j =
    elim (cases_eq j i) [
      | inl e ↦ (let Q : ℕ → Type 0 = λ k. P k (at (set links i l) k) in let R : Link → Type 0 = P i in subst Q (sym e) (subst R (sym (at_same links i l below)) here))
      | inr d ↦ (let R : Link → Type 0 = P j in subst R (sym (at_other links i j l d)) (others j d))
    ]

-- an open record is one of the table's
pub open_below : (links : List Link) (i : ℕ) → (at links i).open ≡ true → i < length links
open_below links i o =
    elim (cases_lt i (length links)) [
      | inl h ↦ h
      | inr h ↦ absurd (both_ways (at links i).open (ap {A = Link} (λ l. l.open) (get_or-eq_default links absent h)) o)
    ]

-- a record written back as it was
pub set_again : (links : List Link) (i : ℕ) → set links i (at links i) ≡ links
set_again [] i = refl
set_again (l ∷ links) zero = refl
set_again (l ∷ links) (suc i) = ap (λ z. l ∷ z) (set_again links i)
