-- The inverse cipher undoes the cipher and is undone by it, under every schedule. Assumes nothing.
use Rattle.std.specs.Prelude.{◌≡◌, ℕ, zero, suc, ◌+◌, ◌-◌, ◌*◌, ◌<◌, ◌≤◌, List, length, drop}
use Rattle.std.proofs.Math.Path.{refl, ap, sym}
use Rattle.std.proofs.Common.{◌∙◌, arith}
use Rattle.std.proofs.lemmas.List.{length-drop, length-take-le}
use Rattle.block.specs.Bytes.{Block}
use Rattle.block.specs.Words.{word}
use Rattle.block.proofs.Parts.{bytes_take, bytes_drop}
use Rattle.aes.specs.Steps.{sub_bytes, inv_sub_bytes, shift_rows, inv_shift_rows, mix_columns, inv_mix_columns, add_round_key}
use Rattle.aes.specs.Cipher.{round_key, round, last_round, rounds, encipher, inv_round, inv_last_round, inv_rounds, decipher}
use Rattle.aes.specs.StepsLemmas.{block_sub_bytes, block_inv_sub_bytes, sub_bytes_undone, sub_bytes_redone, block_shift_rows, block_inv_shift_rows, shift_rows_undone, shift_rows_redone, block_mix_columns, block_inv_mix_columns, mix_columns_undone, mix_columns_redone, block_add_round_key, add_round_key_undone}

-- part i of n parts of t bytes
pub block_word : (t n i : ℕ) (keys : List ℕ) → Block (n * t) keys → i * t + t ≤ n * t → Block t (word t i keys)
unfolding word
block_word t n i keys h l =
    let e = h.size in
    let room : t ≤ length (drop (i * t) keys) = simp length-drop (omega arith) in
    record { size = length-take-le t (drop (i * t) keys) room; bytes = bytes_take t (drop (i * t) keys) (bytes_drop (i * t) keys h.bytes) }

-- SubBytes and ShiftRows, and both undone
abbrev turned : List ℕ → List ℕ
turned b = shift_rows (sub_bytes b)

abbrev turned_back : List ℕ → List ℕ
turned_back b = inv_sub_bytes (inv_shift_rows b)

block_turned : (b : List ℕ) → Block 16 b → Block 16 (turned b)
block_turned b h = block_shift_rows (sub_bytes b) (block_sub_bytes b h)

block_turned_back : (b : List ℕ) → Block 16 b → Block 16 (turned_back b)
block_turned_back b h = block_inv_sub_bytes (inv_shift_rows b) (block_inv_shift_rows b h)

turned_undone : (b : List ℕ) → Block 16 b → turned_back (turned b) ≡ b
turned_undone b h = ap inv_sub_bytes (shift_rows_undone (sub_bytes b) (block_sub_bytes b h)) ∙ sub_bytes_undone b h

turned_redone : (b : List ℕ) → Block 16 b → turned (turned_back b) ≡ b
turned_redone b h = ap shift_rows (sub_bytes_redone (inv_shift_rows b) (block_inv_shift_rows b h)) ∙ shift_rows_redone b h

-- ---- one round, with round key k

block_round : (k b : List ℕ) → Block 16 k → Block 16 b → Block 16 (round k b)
unfolding round
block_round k b hk h = block_add_round_key (mix_columns (turned b)) k (block_mix_columns (turned b) (block_turned b h)) hk

block_inv_round : (k b : List ℕ) → Block 16 k → Block 16 b → Block 16 (inv_round k b)
unfolding inv_round
block_inv_round k b hk h = block_inv_mix_columns (add_round_key (turned_back b) k) (block_add_round_key (turned_back b) k (block_turned_back b h) hk)

-- the inverse round, of the round turned, is the state that the round began with, turned
round_undone : (k b : List ℕ) → Block 16 k → Block 16 b → inv_round k (turned (round k b)) ≡ turned b
unfolding round inv_round
round_undone k b hk h =
    let m = mix_columns (turned b) in
    let hm : Block 16 m = block_mix_columns (turned b) (block_turned b h) in
    ap (λ x. inv_mix_columns (add_round_key x k)) (turned_undone (add_round_key m k) (block_add_round_key m k hm hk))
    ∙ ap inv_mix_columns (add_round_key_undone m k hm hk)
    ∙ mix_columns_undone (turned b) (block_turned b h)

-- the round, of the inverse round turned back, is the state that the inverse round began with, turned back
round_redone : (k b : List ℕ) → Block 16 k → Block 16 b → round k (turned_back (inv_round k b)) ≡ turned_back b
unfolding round inv_round
round_redone k b hk h =
    let a = add_round_key (turned_back b) k in
    let ha : Block 16 a = block_add_round_key (turned_back b) k (block_turned_back b h) hk in
    ap (λ x. add_round_key (mix_columns x) k) (turned_redone (inv_mix_columns a) (block_inv_mix_columns a ha))
    ∙ ap (λ x. add_round_key x k) (mix_columns_redone a ha)
    ∙ add_round_key_undone (turned_back b) k (block_turned_back b h) hk

-- ---- all rounds, under c round keys

module _ (c : ℕ) (keys : List ℕ) (hk : Block (16 * c) keys) where
  pub block_key : (i : ℕ) → i < c → Block 16 (round_key i keys)
  block_key i h = block_word 16 c i keys record { size = hk.size ∙ omega arith; bytes = hk.bytes } (omega arith)

  pub block_rounds : (n : ℕ) (b : List ℕ) → n < c → Block 16 b → Block 16 (rounds n keys b)
  unfolding rounds
  block_rounds zero b l h = h
  block_rounds (suc n) b l h = block_round (round_key (suc n) keys) (rounds n keys b) (block_key (suc n) l) (block_rounds n b (omega arith) h)

  pub block_inv_rounds : (n : ℕ) (b : List ℕ) → n < c → Block 16 b → Block 16 (inv_rounds n keys b)
  unfolding inv_rounds
  block_inv_rounds zero b l h = h
  block_inv_rounds (suc n) b l h = block_inv_rounds n (inv_round (round_key (suc n) keys) b) (omega arith) (block_inv_round (round_key (suc n) keys) b (block_key (suc n) l) h)

  rounds_undone : (n : ℕ) (b : List ℕ) → n < c → Block 16 b → inv_rounds n keys (turned (rounds n keys b)) ≡ turned b
  unfolding rounds inv_rounds
  rounds_undone zero b l h = refl
  rounds_undone (suc n) b l h =
      ap (inv_rounds n keys) (round_undone (round_key (suc n) keys) (rounds n keys b) (block_key (suc n) l) (block_rounds n b (omega arith) h))
      ∙ rounds_undone n b (omega arith) h

  rounds_redone : (n : ℕ) (b : List ℕ) → n < c → Block 16 b → rounds n keys (turned_back (inv_rounds n keys b)) ≡ turned_back b
  unfolding rounds inv_rounds
  rounds_redone zero b l h = refl
  rounds_redone (suc n) b l h =
      let k = round_key (suc n) keys in
      let hr : Block 16 (inv_round k b) = block_inv_round k b (block_key (suc n) l) h in
      ap (round k) (rounds_redone n (inv_round k b) (omega arith) hr) ∙ round_redone k b (block_key (suc n) l) h

  module _ (r : ℕ) (l : r < c) (some : 1 ≤ r) (b : List ℕ) (h : Block 16 b) where
    hf : Block 16 (round_key 0 keys)
    hf = block_key 0 (omega arith)

    hl : Block 16 (round_key r keys)
    hl = block_key r l

    begun : Block 16 (add_round_key b (round_key 0 keys))
    begun = block_add_round_key b (round_key 0 keys) h hf

    ended : Block 16 (add_round_key b (round_key r keys))
    ended = block_add_round_key b (round_key r keys) h hl

    through : Block 16 (rounds (r - 1) keys (add_round_key b (round_key 0 keys)))
    through = block_rounds (r - 1) (add_round_key b (round_key 0 keys)) (omega arith) begun

    through_back : Block 16 (inv_rounds (r - 1) keys (add_round_key b (round_key r keys)))
    through_back = block_inv_rounds (r - 1) (add_round_key b (round_key r keys)) (omega arith) ended

    pub block_encipher : Block 16 (encipher r keys b)
    unfolding encipher last_round
    block_encipher = block_add_round_key _ (round_key r keys) (block_turned _ through) hl

    pub block_decipher : Block 16 (decipher r keys b)
    unfolding decipher inv_last_round
    block_decipher = block_add_round_key _ (round_key 0 keys) (block_turned_back _ through_back) hf

    pub decipher_undoes : decipher r keys (encipher r keys b) ≡ b
    unfolding encipher decipher last_round inv_last_round
    decipher_undoes =
        let k = round_key 0 keys in
        let x = add_round_key b k in
        let y = turned (rounds (r - 1) keys x) in
        ap (λ z. add_round_key (turned_back (inv_rounds (r - 1) keys z)) k) (add_round_key_undone y (round_key r keys) (block_turned _ through) hl)
        ∙ ap (λ z. add_round_key (turned_back z) k) (rounds_undone (r - 1) x (omega arith) begun)
        ∙ ap (λ z. add_round_key z k) (turned_undone x begun)
        ∙ add_round_key_undone b k h hf

    pub encipher_undoes : encipher r keys (decipher r keys b) ≡ b
    unfolding encipher decipher last_round inv_last_round
    encipher_undoes =
        let k = round_key r keys in
        let x = add_round_key b k in
        let y = turned_back (inv_rounds (r - 1) keys x) in
        ap (λ z. add_round_key (turned (rounds (r - 1) keys z)) k) (add_round_key_undone y (round_key 0 keys) (block_turned_back _ through_back) hf)
        ∙ ap (λ z. add_round_key (turned z) k) (rounds_redone (r - 1) x (omega arith) ended)
        ∙ ap (λ z. add_round_key z k) (turned_redone x ended)
        ∙ add_round_key_undone b k h hl

-- ---- the loops

pub rounds_none : (keys b : List ℕ) → b ≡ rounds 0 keys b
unfolding rounds
rounds_none keys b = refl

pub rounds_more : (n : ℕ) (keys b : List ℕ) → round (round_key (n + 1) keys) (rounds n keys b) ≡ rounds (n + 1) keys b
unfolding rounds
rounds_more n keys b =
    let e : n + 1 ≡ suc n = omega arith in
    ap (λ k. round (round_key k keys) (rounds n keys b)) e ∙ sym (ap (λ k. rounds k keys b) e)

pub inv_rounds_none : (n : ℕ) (keys b : List ℕ) → n ≡ 0 → inv_rounds n keys b ≡ b
unfolding inv_rounds
inv_rounds_none n keys b e = ap (λ k. inv_rounds k keys b) e

pub inv_rounds_more : (n : ℕ) (keys b : List ℕ) → inv_rounds n keys (inv_round (round_key (n + 1) keys) b) ≡ inv_rounds (n + 1) keys b
unfolding inv_rounds
inv_rounds_more n keys b =
    let e : n + 1 ≡ suc n = omega arith in
    ap (λ k. inv_rounds n keys (inv_round (round_key k keys) b)) e ∙ sym (ap (λ k. inv_rounds k keys b) e)
