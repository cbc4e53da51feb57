-- AES is sound as a kit. Assumes nothing.
use Rattle.std.specs.Prelude.{◌≡◌, ℕ, ◌+◌, ◌-◌, ◌*◌, ◌/◌, ◌<◌, ◌≤◌, cond, ◌⊎◌, List, [], length, Some, None, Ok, Option, ◌==◌, refl}
use Rattle.std.proofs.Common.{sym, ap, ◌∙◌, subst, inl, inr, arith}
use Rattle.std.proofs.lemmas.Bool.{cases_eq, eq-eqb, ne_eqb, cond-true, cond-false}
use Rattle.refusal.specs.Checks.{first}
use Rattle.block.specs.Bytes.{Bytes, Block}
use Rattle.kit.specs.Calls.{expand_checks}
use Rattle.kit.proofs.Calls.{cells_due}
use Rattle.kit.specs.Meaning.{Sized, Sound}
use Rattle.aes.specs.Cipher.{encipher, decipher}
use Rattle.aes.specs.Keys.{schedule as round_keys, Expands}
use Rattle.aes.specs.Versions.{rounds, cells, need, under, aes, KeyExpansion}
use Rattle.aes.specs.CipherLemmas.{block_encipher, block_decipher, decipher_undoes, encipher_undoes}
use Rattle.aes.specs.KeysLemmas.{block_words, expands}

-- the key lengths that are taken, and the others
which : (len : ℕ)
    → ((len ≡ 16) × (rounds len ≡ Some 10)) ⊎ (((len ≡ 24) × (rounds len ≡ Some 12)) ⊎ (((len ≡ 32) × (rounds len ≡ Some 14)) ⊎ (rounds len ≡ None)))
which len =
    let last : Option ℕ = cond (len == 32) (Some 14) None in
    let rest : Option ℕ = cond (len == 24) (Some 12) last in
    elim (cases_eq len 16) [
      | inl h ↦ inl (h, cond-true (len == 16) (Some 10) rest (eq-eqb len 16 h))
      | inr not_16 ↦
          let past_16 = cond-false (len == 16) (Some 10) rest (ne_eqb len 16 not_16) in
          elim (cases_eq len 24) [
            | inl h ↦ inr (inl (h, past_16 ∙ cond-true (len == 24) (Some 12) last (eq-eqb len 24 h)))
            | inr not-24 ↦
                let past_24 = past_16 ∙ cond-false (len == 24) (Some 12) last (ne_eqb len 24 not-24) in
                elim (cases_eq len 32) [
                  | inl h ↦ inr (inr (inl (h, past_24 ∙ cond-true (len == 32) (Some 14) None (eq-eqb len 32 h))))
                  | inr not-32 ↦ inr (inr (inr (past_24 ∙ cond-false (len == 32) (Some 14) None (ne_eqb len 32 not-32))))
                ]
          ]
    ]

-- a key length that is taken has whole words, six fewer than its rounds
pub record Taken (len r : ℕ) : Type 0 where
  pub words : r ≡ len / 4 + 6
  pub whole : len ≡ 4 * (len / 4)
  pub low : 16 ≤ len
  pub high : len ≤ 32

some_is : {m n : ℕ} → ◌≡◌ {A = Option ℕ} (Some m) (Some n) → m ≡ n
some_is e = cc

none_not_some : {n : ℕ} → ◌≡◌ {A = Option ℕ} None (Some n) → ⊥
none_not_some e = let z : ◌≡◌ {A = ℕ} 0 1 = cc in omega arith

pub taken : (len r : ℕ) → rounds len ≡ Some r → Taken len r
taken len r e =
    elim (which len) [
      | inl h ↦ let is : 10 ≡ r = some_is (sym h.1 ∙ e) in record { words = omega arith; whole = omega arith; low = omega arith; high = omega arith }
      | inr (inl h) ↦ let is : 12 ≡ r = some_is (sym h.1 ∙ e) in record { words = omega arith; whole = omega arith; low = omega arith; high = omega arith }
      | inr (inr (inl h)) ↦ let is : 14 ≡ r = some_is (sym h.1 ∙ e) in record { words = omega arith; whole = omega arith; low = omega arith; high = omega arith }
      | inr (inr (inr h)) ↦ absurd (none_not_some (sym h ∙ e))
    ]

-- a length that is accepted is taken
record Accepted (len k : ℕ) : Type 0 where
  pub r : ℕ
  pub is : rounds len ≡ Some r
  pub needs : k ≡ r + 1

accepted_by : (len k : ℕ) (o : Option ℕ) → rounds len ≡ o → cells len o ≡ Ok k → Accepted len k
accepted_by len k (Some r) e f = record { r = r; is = e; needs = (let d : k ≡ r + 1 = cc in d) }
accepted_by len k None e f = let z : ◌≡◌ {A = ℕ} 0 1 = cc in absurd (omega arith)

accepted : (len k : ℕ) → need len ≡ Ok k → Accepted len k
accepted len k e = accepted_by len k (rounds len) refl e

-- a schedule that is not refused has a cell for each round key of its key
pub record Fitted (len out : ℕ) : Type 0 where
  pub r : ℕ
  pub is : rounds len ≡ Some r
  pub size : out ≡ 16 * (r + 1)

fitted_by : (len out : ℕ) (o : Option ℕ) → rounds len ≡ o → first (expand_checks (cells len o) out) ≡ None → Fitted len out
fitted_by len out (Some r) e f = record { r = r; is = e; size = cells_due (r + 1) out f }
fitted_by len out None e f = let z : ◌≡◌ {A = ℕ} 0 1 = cc in absurd (omega arith)

pub fitted : (len out : ℕ) → first (expand_checks (need len) out) ≡ None → Fitted len out
fitted len out e = fitted_by len out (rounds len) refl e

enc_is : (len r : ℕ) (s b : List ℕ) → rounds len ≡ Some r → aes.enc len s b ≡ encipher r s b
enc_is len r s b q = ap (λ o. under o (λ k. encipher k s b) b) q

dec_is : (len r : ℕ) (s b : List ℕ) → rounds len ≡ Some r → aes.dec len s b ≡ decipher r s b
dec_is len r s b q = ap (λ o. under o (λ k. decipher k s b) b) q

pub schedule_is : (key : List ℕ) (r : ℕ) → rounds (length key) ≡ Some r → aes.schedule key ≡ round_keys (length key / 4) r key
schedule_is key r q = ap (λ o. under o (λ k. round_keys (length key / 4) k key) []) q

whole_key : (key : List ℕ) (r : ℕ) → Taken (length key) r → Bytes key → Block (length key / 4 * 4) key
whole_key key r t b = record { size = t.whole ∙ omega arith; bytes = b }

block_schedule : (k : ℕ) (key : List ℕ) → need (length key) ≡ Ok k → Bytes key → Block (16 * k) (aes.schedule key)
unfolding round_keys
block_schedule k key e b =
    let a = accepted (length key) k e in
    let t = taken (length key) a.r a.is in
    let nk = length key / 4 in
    let some : 0 < nk = omega (arith, t.low) in
    let h = block_words nk key some (whole_key key a.r t b) (4 * (a.r + 1) - nk) in
    let is = schedule_is key a.r a.is in
    record {
      size = ap length is ∙ h.size ∙ omega (arith, a.needs, t.words);
      bytes = subst Bytes (sym is) h.bytes;
    }

-- a schedule and a block that fit
module _ (len : ℕ) (s b : List ℕ) (h : Sized aes len s b) where
  key : Accepted len h.cells
  key = accepted len h.cells h.accepted

  some : 1 ≤ key.r
  some = let k = key in let t = taken len k.r k.is in omega (arith, t.words)

  fits : key.r < h.cells
  fits = let k = key in omega (arith, k.needs)

  block_enc : Block 16 (aes.enc len s b)
  block_enc = subst (Block 16) (sym (enc_is len key.r s b key.is)) (block_encipher h.cells s h.schedule key.r fits some b h.block)

  block_dec : Block 16 (aes.dec len s b)
  block_dec = subst (Block 16) (sym (dec_is len key.r s b key.is)) (block_decipher h.cells s h.schedule key.r fits some b h.block)

  back : aes.dec len s (aes.enc len s b) ≡ b
  back =
      dec_is len key.r s (aes.enc len s b) key.is ∙ ap (decipher key.r s) (enc_is len key.r s b key.is)
      ∙ decipher_undoes h.cells s h.schedule key.r fits some b h.block

  forth : aes.enc len s (aes.dec len s b) ≡ b
  forth =
      enc_is len key.r s (aes.dec len s b) key.is ∙ ap (encipher key.r s) (dec_is len key.r s b key.is)
      ∙ encipher_undoes h.cells s h.schedule key.r fits some b h.block

pub sound : Sound aes
sound = record {
  widths = inl refl;
  lengths = λ len k e.
      let a = accepted len k e in
      let t = taken len a.r a.is in
      (omega (arith, t.low), omega (arith, t.high));
  cells = λ len k e.
      let a = accepted len k e in
      let t = taken len a.r a.is in
      (omega (arith, a.needs), omega (arith, a.needs, t.words, t.high));
  scheduled = block_schedule;
  enciphers = block_enc;
  deciphers = block_dec;
  back = back;
  forth = forth;
}

pub key_expansion : KeyExpansion
key_expansion bytes r b e =
    let t = taken (length bytes) r e in
    let nk = length bytes / 4 in
    let some : 0 < nk = omega (arith, t.low) in
    let room : nk ≤ 4 * (r + 1) = omega (arith, t.words) in
    subst (Expands nk r bytes) (sym (schedule_is bytes r e)) (expands nk r bytes some room (whole_key bytes r t b))
