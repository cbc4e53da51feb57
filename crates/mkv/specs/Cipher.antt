-- MKV under a schedule: rounds and the post key. Assumes nothing.
use Rattle.std.specs.Prelude.{ℕ, zero, suc, ◌*◌, List, take, drop}
use Rattle.block.specs.Bytes.{xor}
use Rattle.mkv.specs.Steps.{round, round_back}

-- r rounds, each with the next round key of two blocks, and then XOR with the post key, which is left
unfoldable pub encipher : ℕ → List (List ℕ) → ℕ → List ℕ → List ℕ → List ℕ
encipher t m zero keys b = xor b keys
encipher t m (suc r) keys b = encipher t m r (drop (8 * t) keys) (round t m (take (8 * t) keys) b)

-- the same undone: the post key first, the rounds from the last
unfoldable pub decipher : ℕ → List (List ℕ) → ℕ → List ℕ → List ℕ → List ℕ
decipher t n zero keys b = xor b keys
decipher t n (suc r) keys b = round_back t n (take (8 * t) keys) (decipher t n r (drop (8 * t) keys) b)
