-- The calls of a kit where nothing is refused, and what they keep in any case. Assumes nothing.
use Rattle.std.proofs.Common.{◌≡◌, ℕ, ◌*◌, Bool, true, false, not, eqb, List, [], ◌∷◌, length, Some, None, Ok, Err, Option, Result, sym, refl, ap, ◌∙◌, arith}
use Rattle.std.proofs.lemmas.Bool.{eq-eqb, eqb-true}
use Rattle.refusal.specs.declared.KeyFault.{KeyFault}
use Rattle.refusal.specs.declared.Refusal.{Refusal}
use Rattle.refusal.specs.declared.Refusal.TheVariants.{Block as WrongSize}
use Rattle.refusal.specs.Checks.{first, refusal}
use Rattle.block.specs.Bytes.{Bytes, Block}
use Rattle.kit.specs.Meaning.{Meaning, Sized, Sound}
use Rattle.kit.specs.Calls.{told, expand_checks, cipher_checks, unless, cipher_refusal, expanded, enciphered, deciphered}

-- ---- the checks, by the answer to the key's length

pub expand_passes : (need : Result ℕ KeyFault) (out n : ℕ) → need ≡ Ok n → out ≡ 16 * n → first (expand_checks need out) ≡ None
expand_passes need out n e s = ap (λ r. first (expand_checks r out)) e ∙ rw (eq-eqb out (16 * n) s)

pub cipher_passes : (w : ℕ) (need : Result ℕ KeyFault) (s b n : ℕ) → need ≡ Ok n → s ≡ 16 * n → b ≡ w → first (cipher_checks w need s b) ≡ None
cipher_passes w need s b n e f h = ap (λ r. first (cipher_checks w r s b)) e ∙ rw (eq-eqb s (16 * n) f, eq-eqb b w h)

size_due : (p : Bool) → first ((not p, WrongSize) ∷ []) ≡ None → p ≡ true
size_due true e = refl
size_due false e = let z : ◌≡◌ {A = ℕ} 0 1 = cc in absurd (omega arith)

-- a schedule that is not refused has the cells of its key
pub cells_due : (n out : ℕ) → first (expand_checks (Ok n) out) ≡ None → out ≡ 16 * n
cells_due n out e = eqb-true out (16 * n) (size_due (eqb out (16 * n)) e)

-- what is told of an accepted length is its cells, and of a refused one its fault
pub told_ok : (r : Result ℕ KeyFault) (n : ℕ) → told r ≡ Ok n → r ≡ Ok n
told_ok (Ok m) n e = ap Ok (let d : m ≡ n = cc in d)
told_ok (Err fault) n e = let z : ◌≡◌ {A = ℕ} 0 1 = cc in absurd (omega arith)

-- ---- a call that fits is not refused

pub expanded_fits : (m : Meaning) (key out : List ℕ) (n : ℕ) → m.need (length key) ≡ Ok n → length out ≡ 16 * n → expanded m key out ≡ m.schedule key
expanded_fits m key out n e s = ap (λ r. unless r (m.schedule key) out) (expand_passes (m.need (length key)) (length out) n e s)

cipher_fits : (m : Meaning) (len : ℕ) (s b : List ℕ) → Sized m len s b → cipher_refusal m len s b ≡ None
cipher_fits m len s b h = cipher_passes m.width (m.need len) (length s) (length b) h.cells h.accepted h.schedule.size h.block.size

pub enciphered_fits : (m : Meaning) (len : ℕ) (s b : List ℕ) → Sized m len s b → enciphered m len s b ≡ m.enc len s b
enciphered_fits m len s b h = ap (λ r. unless r (m.enc len s b) b) (cipher_fits m len s b h)

pub deciphered_fits : (m : Meaning) (len : ℕ) (s b : List ℕ) → Sized m len s b → deciphered m len s b ≡ m.dec len s b
deciphered_fits m len s b h = ap (λ r. unless r (m.dec len s b) b) (cipher_fits m len s b h)

-- ---- a call that is not refused fits

none_due : (p q : Bool) → first ((not p, WrongSize) ∷ (not q, WrongSize) ∷ []) ≡ None → (p ≡ true) × (q ≡ true)
none_due true true e = (refl, refl)
none_due true false e = let z : ◌≡◌ {A = ℕ} 0 1 = cc in absurd (omega arith)
none_due false q e = let z : ◌≡◌ {A = ℕ} 0 1 = cc in absurd (omega arith)

sizes_due : (w : ℕ) (need : Result ℕ KeyFault) (s b : ℕ) → first (cipher_checks w need s b) ≡ None
    → (n : ℕ) × ((need ≡ Ok n) × (s ≡ 16 * n) × (b ≡ w))
sizes_due w (Err fault) s b e = let z : ◌≡◌ {A = ℕ} 0 1 = cc in absurd (omega arith)
sizes_due w (Ok n) s b e =
    let both = none_due (eqb s (16 * n)) (eqb b w) e in
    (n, (refl, eqb-true s (16 * n) both.0, eqb-true b w both.1))

pub sized_by : (m : Meaning) (len : ℕ) (s b : List ℕ) → Bytes s → Bytes b → cipher_refusal m len s b ≡ None → Sized m len s b
sized_by m len s b hs hb e =
    let d = sizes_due m.width (m.need len) (length s) (length b) e in
    record { cells = d.0; accepted = d.1.0; schedule = record { size = d.1.1; bytes = hs }; block = record { size = d.1.2; bytes = hb } }

-- ---- what a buffer holds, refused or not, is a block of the length that it had

same_size : (w : ℕ) (b x : List ℕ) → length b ≡ w → Block w x → Block (length b) x
same_size w b x e h = record { size = h.size ∙ sym e; bytes = h.bytes }

kept : (n : ℕ) (new old : List ℕ) (r : Option Refusal) → (r ≡ None → Block n new) → Block n old → Block n (unless r new old)
kept n new old None hn ho = hn refl
kept n new old (Some f) hn ho = ho

pub block_enciphered : (m : Meaning) → Sound m → (len : ℕ) (s b : List ℕ) → Bytes s → Bytes b → Block (length b) (enciphered m len s b)
block_enciphered m sound len s b hs hb =
    kept (length b) (m.enc len s b) b (cipher_refusal m len s b)
    (λ e. let h = sized_by m len s b hs hb e in same_size m.width b (m.enc len s b) h.block.size (sound.enciphers len s b h))
    record { size = refl; bytes = hb }

pub block_deciphered : (m : Meaning) → Sound m → (len : ℕ) (s b : List ℕ) → Bytes s → Bytes b → Block (length b) (deciphered m len s b)
block_deciphered m sound len s b hs hb =
    kept (length b) (m.dec len s b) b (cipher_refusal m len s b)
    (λ e. let h = sized_by m len s b hs hb e in same_size m.width b (m.dec len s b) h.block.size (sound.deciphers len s b h))
    record { size = refl; bytes = hb }
