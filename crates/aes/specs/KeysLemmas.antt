-- The key expansion: its blocks, the rule of its words, and the code that writes it. Assumes nothing.
use Rattle.std.specs.Prelude.{◌≡◌, ℕ, zero, suc, ◌+◌, ◌-◌, ◌*◌, ◌/◌, ◌%◌, ◌<◌, ◌≤◌, Bool, true, false, cond, ◌&&◌, ◌⊎◌, List, [], ◌∷◌, ◌++◌, length, take, drop, ◌==◌, ◌≢◌, nat_lt, refl}
use Rattle.std.specs.List.{fold}
use Rattle.std.proofs.Math.Path.{sym, ap, ap₂}
use Rattle.std.proofs.Common.{◌∙◌, subst}
use Rattle.std.proofs.Math.Logic.{inl, inr}
use native.Mathlib.Omega.{arith}
use Rattle.std.proofs.lemmas.List.{length-append, length-drop, length-take-le, take_all, take-append-le, drop_at, drop-append-le}
use Rattle.std.proofs.lemmas.Bool.{cases_lt, eq-eqb, ne_eqb, lt-ltb, le-ltb, cond-true, cond-false, and_from, and_left, and_right}
use Rattle.block.specs.Bytes.{Block, xor}
use Rattle.block.specs.Words.{word}
use Rattle.block.proofs.Parts.{bytes_append, bytes_take, bytes_drop}
use Rattle.block.proofs.Xor.{block_xor}
use Rattle.block.proofs.Tables.{block_sub}
use Rattle.field.specs.Byte.{times_x}
use Rattle.field.specs.Known.{aes_poly}
use Rattle.field.proofs.Laws.{mul_lt}
use Rattle.field.proofs.Only.{mul_two}
use Rattle.aes.specs.Tables.{s_box, s_box_inverse}
use Rattle.aes.specs.Keys.{rot_word, sub_word, x_power, rcon, changed, next, longer, words, schedule, Expands}
use Rattle.aes.specs.Substitution.{tables}
use Rattle.aes.specs.CipherLemmas.{block_word}

-- ---- blocks

power_low : (n : ℕ) → x_power n < 256
unfolding x_power
power_low zero = omega arith
power_low (suc n) =
    let h : x_power n < 256 = power_low n in
    subst (λ (v : ℕ). v < 256) (mul_two aes_poly (x_power n) h) (mul_lt aes_poly 2 (x_power n) (omega arith) (omega arith))

block_rcon : (j : ℕ) → Block 4 (rcon j)
unfolding rcon
block_rcon j =
    let z : 0 < 256 = omega arith in
    record { size = refl; bytes = (power_low (j - 1), (z, (z, (z, tt)))) }

block_rot_word : (w : List ℕ) → Block 4 w → Block 4 (rot_word w)
unfolding rot_word
block_rot_word w h =
    let e = h.size in
    record {
      size = length-append (drop 1 w) (take 1 w) ∙ ap₂ ◌+◌ (length-drop 1 w) (length-take-le 1 w (omega arith)) ∙ omega arith;
      bytes = bytes_append (drop 1 w) (take 1 w) (bytes_drop 1 w h.bytes) (bytes_take 1 w h.bytes);
    }

block_sub_word : (w : List ℕ) → Block 4 w → Block 4 (sub_word w)
unfolding sub_word
block_sub_word w h = block_sub 4 s_box s_box_inverse tables.back w h

block_cond : (n : ℕ) (t : Bool) (x y : List ℕ) → Block n x → Block n y → Block n (cond t x y)
block_cond n true x y hx hy = hx
block_cond n false x y hx hy = hy

block_changed : (nk i : ℕ) (w : List ℕ) → Block 4 w → Block 4 (changed nk i w)
unfolding changed
block_changed nk i w h =
    block_cond 4 (i % nk == 0) (xor (sub_word (rot_word w)) (rcon (i / nk))) (cond (nat_lt 6 nk && i % nk == 4) (sub_word w) w)
    (block_xor 4 (sub_word (rot_word w)) (rcon (i / nk)) (block_sub_word (rot_word w) (block_rot_word w h)) (block_rcon (i / nk)))
    (block_cond 4 (nat_lt 6 nk && i % nk == 4) (sub_word w) w (block_sub_word w h) h)

block_next : (nk i : ℕ) (keys : List ℕ) → 0 < nk → nk ≤ i → Block (i * 4) keys → Block 4 (next nk i keys)
unfolding next
block_next nk i keys some l h =
    block_xor 4 (word 4 (i - nk) keys) (changed nk i (word 4 (i - 1) keys)) (block_word 4 i (i - nk) keys h (omega arith))
    (block_changed nk i (word 4 (i - 1) keys) (block_word 4 i (i - 1) keys h (omega arith)))

module _ (nk : ℕ) (key : List ℕ) (some : 0 < nk) (hk : Block (nk * 4) key) where
  pub block_words : (n : ℕ) → Block ((nk + n) * 4) (words nk n key)
  unfolding words longer
  block_words zero = record { size = hk.size ∙ omega arith; bytes = hk.bytes }
  block_words (suc n) =
      let h = block_words n in
      let w = words nk n key in
      let hn = block_next nk (nk + n) w some (omega arith) h in
      record {
        size = length-append w (next nk (nk + n) w) ∙ ap₂ ◌+◌ h.size hn.size ∙ omega arith;
        bytes = bytes_append w (next nk (nk + n) w) h.bytes hn.bytes;
      }

  -- ---- the rule of the words

  begins : (n : ℕ) → take (nk * 4) (words nk n key) ≡ key
  unfolding words longer
  begins zero = let e = hk.size in take_all (nk * 4) key (omega arith)
  begins (suc n) =
      let w = words nk n key in
      let e = (block_words n).size in
      take-append-le (nk * 4) w (next nk (nk + n) w) (omega arith) ∙ begins n

  -- a word stays as more are added
  word_stays : (i : ℕ) (w v : List ℕ) → i * 4 + 4 ≤ length w → word 4 i (w ++ v) ≡ word 4 i w
  unfolding word
  word_stays i w v l =
      let room : 4 ≤ length (drop (i * 4) w) = simp length-drop (omega arith) in
      ap (take 4) (drop-append-le (i * 4) w v (omega arith)) ∙ take-append-le 4 (drop (i * 4) w) v room

  next_stays : (i : ℕ) (w v : List ℕ) → nk ≤ i → i * 4 ≤ length w → next nk i (w ++ v) ≡ next nk i w
  unfolding next
  next_stays i w v l h =
      ap₂ (λ x y. xor x (changed nk i y)) (word_stays (i - nk) w v (omega arith)) (word_stays (i - 1) w v (omega arith))

  last_word : (i : ℕ) (w v : List ℕ) → length w ≡ i * 4 → length v ≡ 4 → word 4 i (w ++ v) ≡ v
  unfolding word
  last_word i w v e f = ap (take 4) (drop_at w v (i * 4) e) ∙ take_all 4 v (omega arith)

  pub word_rule : (n i : ℕ) → nk ≤ i → i < nk + n → word 4 i (words nk n key) ≡ next nk i (words nk n key)
  unfolding words longer
  word_rule zero i l h = absurd (omega arith)
  word_rule (suc n) i l h =
      let w = words nk n key in
      let v = next nk (nk + n) w in
      let hw = block_words n in
      let lw = hw.size in
      elim (cases_lt i (nk + n)) [
        | inl lt ↦ word_stays i w v (omega arith) ∙ word_rule n i l lt ∙ sym (next_stays i w v l (omega arith))
        | inr ge ↦
            let e : nk + n ≡ i = omega arith in
            let lv : length v ≡ 4 = (block_next nk (nk + n) w some (omega arith) hw).size in
            let li : length w ≡ i * 4 = omega arith in
            last_word i w v li lv ∙ ap (λ k. next nk k w) e ∙ sym (next_stays i w v l (omega arith))
      ]

pub expands : (nk r : ℕ) (key : List ℕ) → 0 < nk → nk ≤ 4 * (r + 1) → Block (nk * 4) key → Expands nk r key (schedule nk r key)
unfolding schedule next
expands nk r key some l h =
    let n = 4 * (r + 1) - nk in
    let e : nk * 4 ≡ 4 * nk = omega arith in
    record {
      size = (block_words nk key some h n).size ∙ omega arith;
      begins = ap (λ k. take k (words nk n key)) (sym e) ∙ begins nk key some h n;
      rule = λ i a b. word_rule nk key some h n i a (omega arith);
    }

-- ---- the code

-- times x once for each item of a list
pub times_each : (k : ℕ) (xs : List ℕ) → fold (λ p _. times_x aes_poly p) (x_power k) xs ≡ x_power (length xs + k)
unfolding x_power
times_each k [] = ap x_power (let e : k ≡ 0 + k = omega arith in e)
times_each k (x ∷ xs) = times_each (suc k) xs ∙ ap x_power (let e : length xs + suc k ≡ suc (length xs) + k = omega arith in e)

pub words_none : (nk : ℕ) (key : List ℕ) → words nk 0 key ≡ key
unfolding words
words_none nk key = refl

pub words_more : (nk i : ℕ) (key keys w : List ℕ) → nk ≤ i → keys ≡ words nk (i - nk) key → w ≡ next nk i keys → keys ++ w ≡ words nk (i + 1 - nk) key
unfolding words longer
words_more nk i key keys w l ek ew =
    let e : nk + (i - nk) ≡ i = omega arith in
    let f : i + 1 - nk ≡ suc (i - nk) = omega arith in
    ap₂ ◌++◌ ek (ew ∙ ap₂ (next nk) (sym e) ek) ∙ sym (ap (λ n. words nk n key) f)

-- the three ways in which a word is changed
pub changed_first : (nk i : ℕ) (w : List ℕ) → i % nk ≡ 0 → changed nk i w ≡ xor (sub_word (rot_word w)) (rcon (i / nk))
unfolding changed
changed_first nk i w e =
    cond-true (i % nk == 0) (xor (sub_word (rot_word w)) (rcon (i / nk))) (cond (nat_lt 6 nk && i % nk == 4) (sub_word w) w) (eq-eqb (i % nk) 0 e)

pub changed_middle : (nk i : ℕ) (w : List ℕ) → (i % nk ≢ 0) → 6 < nk → i % nk ≡ 4 → changed nk i w ≡ sub_word w
unfolding changed
changed_middle nk i w d l e =
    cond-false (i % nk == 0) (xor (sub_word (rot_word w)) (rcon (i / nk))) (cond (nat_lt 6 nk && i % nk == 4) (sub_word w) w) (ne_eqb (i % nk) 0 d)
    ∙ cond-true (nat_lt 6 nk && i % nk == 4) (sub_word w) w (and_from (nat_lt 6 nk) (i % nk == 4) (lt-ltb 6 nk l) (eq-eqb (i % nk) 4 e))

pub changed_not : (nk i : ℕ) (w : List ℕ) → (i % nk ≢ 0) → (nk ≤ 6) ⊎ (i % nk ≢ 4) → changed nk i w ≡ w
unfolding changed
changed_not nk i w d (inl l) =
    cond-false (i % nk == 0) (xor (sub_word (rot_word w)) (rcon (i / nk))) (cond (nat_lt 6 nk && i % nk == 4) (sub_word w) w) (ne_eqb (i % nk) 0 d)
    ∙ cond-false (nat_lt 6 nk && i % nk == 4) (sub_word w) w (and_left (nat_lt 6 nk) (i % nk == 4) (le-ltb 6 nk l))
changed_not nk i w d (inr e) =
    cond-false (i % nk == 0) (xor (sub_word (rot_word w)) (rcon (i / nk))) (cond (nat_lt 6 nk && i % nk == 4) (sub_word w) w) (ne_eqb (i % nk) 0 d)
    ∙ cond-false (nat_lt 6 nk && i % nk == 4) (sub_word w) w (and_right (nat_lt 6 nk) (i % nk == 4) (ne_eqb (i % nk) 4 e))

pub rcon_is : (j p : ℕ) → p ≡ x_power (j - 1) → p ∷ 0 ∷ 0 ∷ 0 ∷ [] ≡ rcon j
unfolding rcon
rcon_is j p e = ap (λ x. x ∷ 0 ∷ 0 ∷ 0 ∷ []) e
