-- The checks of a bank's calls, as the code goes through them. Assumes nothing.
use Rattle.std.proofs.Common.{◌≡◌, ℕ, Bool, true, false, cond, not, eqb, ltb, List, [], ◌∷◌, ◌++◌, length, Some, None, Option, refl, arith}
use Rattle.std.proofs.lemmas.Bool.{eqb-true, ne_eqb, not-false}
use Rattle.refusal.specs.Checks.{first}
use Rattle.refusal.specs.declared.Refusal.{Refusal}
use Rattle.refusal.specs.declared.Refusal.TheVariants.{Scratch, Closed, Memory, Cells, Mode, Start, Links}
use Rattle.refusal.proofs.Checks.{none_due}
use Rattle.bank.specs.Books.{Books, Running}
use Rattle.kit.specs.Meaning.{Meaning}
use Rattle.bank.specs.Calls.{Ask, Buffers, unknown, key_checks, need, start_checks, open_checks, link_checks}
use Rattle.bank.proofs.Law.{two_passed, one_passed, key_passed}

-- ---- put and end: a link that may be open, and then the tail of checks

abbrev pub maybe : Bool → Running → Option Running
maybe o l = cond o (Some l) None

module _ (b : Books) (f : Buffers) (l : Running) (tail : Option Running → List (Bool × Refusal)) where
  abbrev checks : Bool → List (Bool × Refusal)
  checks o = link_checks b f (maybe o l) ++ tail (maybe o l)

  -- a scratch of another length is told first
  pub scratch_told : (o : Bool) → (f.scratch ≡ 1536 → ⊥) → Some Scratch ≡ first (checks o)
  scratch_told true d = rw (ne_eqb f.scratch 1536 d) refl
  scratch_told false d = rw (ne_eqb f.scratch 1536 d) refl

  module _ (right : eqb f.scratch 1536 ≡ true) where
    -- where neither the link nor the memory is refused, the tail tells
    pub later_told : (o : Bool) → None ≡ first ((not o, Closed) ∷ (not (eqb f.memory b.size), Memory) ∷ []) → (o ≡ true) × (eqb f.memory b.size ≡ true) × (first (checks o) ≡ first (tail (Some l)))
    later_told false told = let z : ◌≡◌ {A = ℕ} 0 1 = cc in absurd (omega arith)
    later_told true told =
        let m : eqb f.memory b.size ≡ true = not-false (eqb f.memory b.size) (none_due (not (eqb f.memory b.size)) Memory None told).0 in
        (refl, m, rw (right, m) refl)

-- ---- memory of another length: something is told, and what the cells hold does not matter

module _ (b b₂ : Books) (f : Buffers) (l l₂ : Running) (tail : Option Running → List (Bool × Refusal)) (same : b₂.size ≡ b.size) (other : f.memory ≡ b.size → ⊥) where
  pub unshown_alike : (o : Bool) → first (link_checks b f (maybe o l) ++ tail (maybe o l)) ≡ first (link_checks b₂ f (maybe o l₂) ++ tail (maybe o l₂))
  unshown_alike false = refl
  unshown_alike true = rw (same, ne_eqb f.memory b.size other) refl

  pub unshown_told : (o : Bool) → None ≡ first (link_checks b f (maybe o l) ++ tail (maybe o l)) → ⊥
  unshown_told false none = go (eqb f.scratch 1536) none
    where
      go : (t : Bool) → None ≡ cond (not t) (Some Scratch) (Some Closed) → ⊥
      go true e = let z : ◌≡◌ {A = ℕ} 0 1 = cc in omega arith
      go false e = let z : ◌≡◌ {A = ℕ} 0 1 = cc in omega arith
  unshown_told true none = go (eqb f.scratch 1536) (rw (ne_eqb f.memory b.size other) at none)
    where
      go : (t : Bool) → None ≡ cond (not t) (Some Scratch) (Some Memory) → ⊥
      go true e = let z : ◌≡◌ {A = ℕ} 0 1 = cc in omega arith
      go false e = let z : ◌≡◌ {A = ℕ} 0 1 = cc in omega arith

-- ---- open

-- an open that is accepted was shown memory of as many cells as there are
pub open_memory : (m : Meaning) (a : Ask) (size links room : ℕ) → None ≡ first (open_checks m size links room a) → a.memory ≡ size
open_memory m a size links room none =
    let q = m.need (length a.key) in
    let more : List (Bool × Refusal) = (ltb room (need m a.key), Cells) ∷ [] in
    let two = two_passed (not (eqb a.scratch 1536), Scratch) (unknown a, Mode) ((key_checks q ++ start_checks m size links a) ++ more) none in
    let three = key_passed q (start_checks m size links a) more two in
    let four = none_due (not (eqb (length a.start) m.width)) Start (first ((not (eqb a.memory size), Memory) ∷ (ltb 7 links, Links) ∷ more)) three.1 in
    eqb-true a.memory size (not-false (eqb a.memory size) (one_passed (not (eqb a.memory size), Memory) ((ltb 7 links, Links) ∷ more) four.1))
