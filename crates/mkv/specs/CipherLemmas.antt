-- Enciphering and deciphering undo one another under every schedule, at any width and number of rounds. Assumes nothing.
use Rattle.std.specs.Prelude.{◌≡◌, ℕ, zero, suc, ◌+◌, ◌*◌, List, take, drop}
use Rattle.std.proofs.Math.Path.{sym, ap}
use Rattle.std.proofs.Common.{◌∙◌, arith, suc-mul, zero-mul}
use Rattle.std.proofs.lemmas.List.{length-drop, length-take-le}
use Rattle.block.specs.Bytes.{Block}
use Rattle.block.proofs.Xor.{cancels, block_xor}
use Rattle.block.proofs.Parts.{bytes_take, bytes_drop}
use Rattle.mkv.specs.Steps.{round, round_back}
use Rattle.mkv.specs.Cipher.{encipher, decipher}
use Rattle.mkv.specs.StepsLemmas.{Inverse, block_round, round_undone, block_round_back, round_redone}

-- a schedule of r rounds
abbrev pub Keys : ℕ → ℕ → List ℕ → Type 0
Keys t r keys = Block (r * (8 * t) + 4 * t) keys

first_key : (t r : ℕ) (keys : List ℕ) → Keys t (suc r) keys → Block (8 * t) (take (8 * t) keys)
first_key t r keys h =
    let e = h.size in
    record { size = length-take-le (8 * t) keys (omega (arith, suc-mul r (8 * t))); bytes = bytes_take (8 * t) keys h.bytes }

later_keys : (t r : ℕ) (keys : List ℕ) → Keys t (suc r) keys → Keys t r (drop (8 * t) keys)
later_keys t r keys h =
    let e = h.size in
    record { size = length-drop (8 * t) keys ∙ omega (arith, suc-mul r (8 * t)); bytes = bytes_drop (8 * t) keys h.bytes }

post_key : (t : ℕ) (keys : List ℕ) → Keys t 0 keys → Block (4 * t) keys
post_key t keys h = let e = h.size in record { size = omega (arith, zero-mul (8 * t)); bytes = h.bytes }

module _ (t : ℕ) (m n : List (List ℕ)) (u : Inverse t m n) where
  pub block_encipher : (r : ℕ) (keys x : List ℕ) → Keys t r keys → Block (4 * t) x → Block (4 * t) (encipher t m r keys x)
  unfolding encipher
  block_encipher zero keys x hk hx = block_xor (4 * t) x keys hx (post_key t keys hk)
  block_encipher (suc r) keys x hk hx =
      block_encipher r (drop (8 * t) keys) (round t m (take (8 * t) keys) x) (later_keys t r keys hk)
      (block_round t m n u (take (8 * t) keys) x (first_key t r keys hk) hx)

  pub block_decipher : (r : ℕ) (keys x : List ℕ) → Keys t r keys → Block (4 * t) x → Block (4 * t) (decipher t n r keys x)
  unfolding decipher
  block_decipher zero keys x hk hx = block_xor (4 * t) x keys hx (post_key t keys hk)
  block_decipher (suc r) keys x hk hx =
      let rest = drop (8 * t) keys in
      block_round_back t m n u (take (8 * t) keys) (decipher t n r rest x) (first_key t r keys hk) (block_decipher r rest x (later_keys t r keys hk) hx)

  pub decipher_undoes : (r : ℕ) (keys x : List ℕ) → Keys t r keys → Block (4 * t) x → decipher t n r keys (encipher t m r keys x) ≡ x
  unfolding encipher decipher
  decipher_undoes zero keys x hk hx = cancels x keys (hx.size ∙ sym (post_key t keys hk).size)
  decipher_undoes (suc r) keys x hk hx =
      let k = take (8 * t) keys in
      let f = first_key t r keys hk in
      ap (round_back t n k) (decipher_undoes r (drop (8 * t) keys) (round t m k x) (later_keys t r keys hk) (block_round t m n u k x f hx))
      ∙ round_undone t m n u k x f hx

  pub encipher_undoes : (r : ℕ) (keys x : List ℕ) → Keys t r keys → Block (4 * t) x → encipher t m r keys (decipher t n r keys x) ≡ x
  unfolding encipher decipher
  encipher_undoes zero keys x hk hx = cancels x keys (hx.size ∙ sym (post_key t keys hk).size)
  encipher_undoes (suc r) keys x hk hx =
      let k = take (8 * t) keys in
      let rest = drop (8 * t) keys in
      let l = later_keys t r keys hk in
      ap (encipher t m r rest) (round_redone t m n u k (decipher t n r rest x) (first_key t r keys hk) (block_decipher r rest x l hx))
      ∙ encipher_undoes r rest x l hx
