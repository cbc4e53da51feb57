-- MKV is sound as a kit, at both widths at once. Assumes nothing.
use Rattle.std.specs.Prelude.{◌≡◌, ℕ, ◌+◌, ◌*◌, ◌/◌, ◌≤◌, cond, ◌⊎◌, List, [], length, Some, None, Ok, Err, Option, Result, ◌==◌, ◌≢◌, refl}
use Rattle.std.proofs.Common.{sym, ap, ◌∙◌, subst, inl, inr, arith}
use Rattle.std.proofs.lemmas.Bool.{cases_eq, eq-eqb, ne_eqb, cond-true, cond-false}
use Rattle.refusal.specs.declared.KeyFault.{KeyFault}
use Rattle.refusal.specs.Checks.{first}
use Rattle.block.specs.Bytes.{Bytes, Block}
use Rattle.kit.specs.Calls.{expand_checks}
use Rattle.kit.proofs.Calls.{cells_due}
use Rattle.kit.specs.Meaning.{Sized, Sound}
use Rattle.mkv.specs.Cipher.{encipher, decipher}
use Rattle.mkv.specs.Keys.{schedule as round_keys, Expands}
use Rattle.mkv.specs.Versions.{rounds, cells, need, under, mkv, KeyExpansion}
use Rattle.mkv.specs.StepsLemmas.{Inverse}
use Rattle.mkv.specs.CipherLemmas.{Keys, block_encipher, block_decipher, decipher_undoes, encipher_undoes}
use Rattle.mkv.specs.KeysLemmas.{block_schedule, expands}

-- words of four or of eight bytes
abbrev pub Words : ℕ → Type 0
Words t = (t ≡ 4) ⊎ (t ≡ 8)

-- the key lengths that are taken, and the others
which : (t len : ℕ)
    → ((len ≡ 4 * t) × (rounds t len ≡ Some 6)) ⊎ (((len ≡ 6 * t) × (rounds t len ≡ Some 7)) ⊎ (((len ≡ 8 * t) × (rounds t len ≡ Some 8)) ⊎ (rounds t len ≡ None)))
which t len =
    let last : Option ℕ = cond (len == 8 * t) (Some 8) None in
    let rest : Option ℕ = cond (len == 6 * t) (Some 7) last in
    elim (cases_eq len (4 * t)) [
      | inl h ↦ inl (h, cond-true (len == 4 * t) (Some 6) rest (eq-eqb len (4 * t) h))
      | inr not-four ↦
          let past_four = cond-false (len == 4 * t) (Some 6) rest (ne_eqb len (4 * t) not-four) in
          elim (cases_eq len (6 * t)) [
            | inl h ↦ inr (inl (h, past_four ∙ cond-true (len == 6 * t) (Some 7) last (eq-eqb len (6 * t) h)))
            | inr not-six ↦
                let past_six = past_four ∙ cond-false (len == 6 * t) (Some 7) last (ne_eqb len (6 * t) not-six) in
                elim (cases_eq len (8 * t)) [
                  | inl h ↦ inr (inr (inl (h, past_six ∙ cond-true (len == 8 * t) (Some 8) None (eq-eqb len (8 * t) h))))
                  | inr not_eight ↦ inr (inr (inr (past_six ∙ cond-false (len == 8 * t) (Some 8) None (ne_eqb len (8 * t) not_eight))))
                ]
          ]
    ]

-- what is known of a key length that is taken
record Taken (t len k : ℕ) : Type 0 where
  pub r : ℕ
  pub is : rounds t len ≡ Some r
  pub few : r ≤ 8
  pub low : 4 * t ≤ len
  pub high : len ≤ 8 * t
  pub needs : k ≡ (2 * r + 1) * (t / 4)

needs_by : (t len k r : ℕ) → rounds t len ≡ Some r → cells t len (rounds t len) ≡ Ok k → k ≡ (2 * r + 1) * (t / 4)
needs_by t len k r q e = let w : cells t len (Some r) ≡ Ok k = ap (cells t len) (sym q) ∙ e in cc

none_taken : (t len k : ℕ) → rounds t len ≡ None → cells t len (rounds t len) ≢ Ok k
none_taken t len k q e =
    let w : cells t len None ≡ Ok k = ap (cells t len) (sym q) ∙ e in
    let z : ◌≡◌ {A = ℕ} 0 1 = cc in
    omega arith

taken : (t len k : ℕ) → cells t len (rounds t len) ≡ Ok k → Taken t len k
taken t len k e =
    elim (which t len) [
      | inl h ↦ record { r = 6; is = h.1; few = omega arith; low = omega arith; high = omega arith; needs = needs_by t len k 6 h.1 e }
      | inr (inl h) ↦ record { r = 7; is = h.1; few = omega arith; low = omega arith; high = omega arith; needs = needs_by t len k 7 h.1 e }
      | inr (inr (inl h)) ↦ record { r = 8; is = h.1; few = omega arith; low = omega arith; high = omega arith; needs = needs_by t len k 8 h.1 e }
      | inr (inr (inr h)) ↦ absurd (none_taken t len k h e)
    ]

-- a key with rounds has four to eight words
none_some : (t len r : ℕ) → rounds t len ≡ None → rounds t len ≢ Some r
none_some t len r q e =
    let w : ◌≡◌ {A = Option ℕ} None (Some r) = sym q ∙ e in
    let z : ◌≡◌ {A = ℕ} 0 1 = cc in
    omega arith

rounds_are : (t len r k : ℕ) → rounds t len ≡ Some k → rounds t len ≡ Some r → r ≡ k
rounds_are t len r k q e = let w : ◌≡◌ {A = Option ℕ} (Some r) (Some k) = sym e ∙ q in cc

rounds_taken : (t len r : ℕ) → rounds t len ≡ Some r → (r ≤ 8) × (4 * t ≤ len) × (len ≤ 8 * t)
rounds_taken t len r e =
    elim (which t len) [
      | inl h ↦ (omega (arith, rounds_are t len r 6 h.1 e), omega (arith, h.0), omega (arith, h.0))
      | inr (inl h) ↦ (omega (arith, rounds_are t len r 7 h.1 e), omega (arith, h.0), omega (arith, h.0))
      | inr (inr (inl h)) ↦ (omega (arith, rounds_are t len r 8 h.1 e), omega (arith, h.0), omega (arith, h.0))
      | inr (inr (inr h)) ↦ absurd (none_some t len r h e)
    ]

-- the cells hold two blocks a round and the post key
cells_hold : (t r : ℕ) → Words t → 16 * ((2 * r + 1) * (t / 4)) ≡ r * (8 * t) + 4 * t
cells_hold t r (inl e) = rw e (omega arith)
cells_hold t r (inr e) = rw e (omega arith)

cells_few : (t r : ℕ) → Words t → r ≤ 8 → (1 ≤ (2 * r + 1) * (t / 4)) × ((2 * r + 1) * (t / 4) ≤ 96)
cells_few t r (inl e) h = rw e (omega arith, omega arith)
cells_few t r (inr e) h = rw e (omega arith, omega arith)

pub keys_sized : (t len k r : ℕ) → Words t → rounds t len ≡ Some r → cells t len (rounds t len) ≡ Ok k → 16 * k ≡ r * (8 * t) + 4 * t
keys_sized t len k r w q e = ap (λ n. 16 * n) (needs_by t len k r q e) ∙ cells_hold t r w

-- a schedule that is not refused has two blocks for each round of its key, and the post key
pub record Fitted (t len out : ℕ) : Type 0 where
  pub whole : out ≡ out / (8 * t) * (8 * t) + 4 * t
  pub few : out / (8 * t) ≤ 8
  pub low : 4 * t ≤ len
  pub high : len ≤ 8 * t

rounds_in : (t r out : ℕ) → Words t → out ≡ r * (8 * t) + 4 * t → out / (8 * t) ≡ r
rounds_in t r out (inl e) = rw e (λ h. omega arith)
rounds_in t r out (inr e) = rw e (λ h. omega arith)

fitted_by : (t len out : ℕ) → Words t → (n : Result ℕ KeyFault) → need t len ≡ n → first (expand_checks n out) ≡ None → Fitted t len out
fitted_by t len out w (Ok k) e f =
    let h = taken t len k e in
    let size = cells_due k out f ∙ keys_sized t len k h.r w h.is e in
    let n = rounds_in t h.r out w size in
    record { whole = rw n size; few = rw n h.few; low = h.low; high = h.high }
fitted_by t len out w (Err fault) e f = let z : ◌≡◌ {A = ℕ} 0 1 = cc in absurd (omega arith)

pub fitted : (t len out : ℕ) → Words t → first (expand_checks (need t len) out) ≡ None → Fitted t len out
fitted t len out w e = fitted_by t len out w (need t len) refl e

module _ (t : ℕ) (m n : List (List ℕ)) (w : Words t) (u : Inverse t m n) where
  enc_is : (len r : ℕ) (s b : List ℕ) → rounds t len ≡ Some r → (mkv t m n).enc len s b ≡ encipher t m r s b
  enc_is len r s b q = ap (λ o. under o (λ k. encipher t m k s b) b) q

  dec_is : (len r : ℕ) (s b : List ℕ) → rounds t len ≡ Some r → (mkv t m n).dec len s b ≡ decipher t n r s b
  dec_is len r s b q = ap (λ o. under o (λ k. decipher t n k s b) b) q

  keys_fit : (len : ℕ) (s b : List ℕ) (h : Sized (mkv t m n) len s b) → Keys t (taken t len h.cells h.accepted).r s
  keys_fit len s b h =
      let k = taken t len h.cells h.accepted in
      record { size = h.schedule.size ∙ keys_sized t len h.cells k.r w k.is h.accepted; bytes = h.schedule.bytes }

  pub sound : Sound (mkv t m n)
  sound = record {
    widths = elim w [ inl e ↦ inl (ap (λ k. 4 * k) e) | inr e ↦ inr (ap (λ k. 4 * k) e) ];
    lengths = λ len k e.
        let h = taken t len k e in
        elim w [ inl f ↦ (omega (arith, h.low, h.high), omega (arith, h.low, h.high)) | inr f ↦ (omega (arith, h.low, h.high), omega (arith, h.low, h.high)) ];
    cells = λ len k e.
        let h = taken t len k e in
        rw h.needs (cells_few t h.r w h.few);
    scheduled = λ k key e b.
        let h = taken t (length key) k e in
        let s = block_schedule t m n u h.r key (omega (arith, h.few)) h.low h.high b in
        let is : (mkv t m n).schedule key ≡ round_keys t m h.r key = ap (λ o. under o (λ r. round_keys t m r key) []) h.is in
        record {
          size = ap length is ∙ s.size ∙ sym (keys_sized t (length key) k h.r w h.is e);
          bytes = subst Bytes (sym is) s.bytes;
        };
    enciphers = λ len s b h.
        let k = taken t len h.cells h.accepted in
        subst (Block (4 * t)) (sym (enc_is len k.r s b k.is)) (block_encipher t m n u k.r s b (keys_fit len s b h) h.block);
    deciphers = λ len s b h.
        let k = taken t len h.cells h.accepted in
        subst (Block (4 * t)) (sym (dec_is len k.r s b k.is)) (block_decipher t m n u k.r s b (keys_fit len s b h) h.block);
    back = λ len s b h.
        let k = taken t len h.cells h.accepted in
        dec_is len k.r s ((mkv t m n).enc len s b) k.is ∙ ap (decipher t n k.r s) (enc_is len k.r s b k.is)
        ∙ decipher_undoes t m n u k.r s b (keys_fit len s b h) h.block;
    forth = λ len s b h.
        let k = taken t len h.cells h.accepted in
        enc_is len k.r s ((mkv t m n).dec len s b) k.is ∙ ap (encipher t m k.r s) (dec_is len k.r s b k.is)
        ∙ encipher_undoes t m n u k.r s b (keys_fit len s b h) h.block;
  }

  pub key_expansion : KeyExpansion t m (mkv t m n)
  key_expansion key k r b e q =
      let h = rounds_taken t (length key) r q in
      let is : (mkv t m n).schedule key ≡ round_keys t m r key = ap (λ o. under o (λ r. round_keys t m r key) []) q in
      subst (Expands t m k r key) (sym is) (expands t m n u r key (omega (arith, h.0)) h.1 h.2 b k e)
