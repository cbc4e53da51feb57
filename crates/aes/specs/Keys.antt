-- AES's key expansion, in words of four bytes; a key has nk words. Assumes nothing.
use Rattle.std.specs.Prelude.{◌≡◌, ℕ, zero, suc, ◌+◌, ◌-◌, ◌*◌, ◌/◌, ◌%◌, ◌<◌, ◌≤◌, cond, ◌&&◌, List, [], ◌∷◌, ◌++◌, length, take, drop, ◌==◌, nat_lt}
use Rattle.block.specs.Bytes.{xor}
use Rattle.block.specs.Table.{sub}
use Rattle.block.specs.Words.{word}
use Rattle.field.specs.Byte.{times_x}
use Rattle.field.specs.Known.{aes_poly}
use Rattle.aes.specs.Tables.{s_box}

-- RotWord: the first byte goes to the end
unfoldable pub rot_word : List ℕ → List ℕ
rot_word w = drop 1 w ++ take 1 w

-- SubWord: each byte by the table of SubBytes
unfoldable pub sub_word : List ℕ → List ℕ
sub_word w = sub s_box w

-- x to the power n, in the field
unfoldable pub x_power : ℕ → ℕ
x_power zero = 1
x_power (suc n) = times_x aes_poly (x_power n)

-- Rcon[j], from j = 1 on
unfoldable pub rcon : ℕ → List ℕ
rcon j = x_power (j - 1) ∷ 0 ∷ 0 ∷ 0 ∷ []

-- what the word before word i is changed to: every nk-th time rotated, substituted and with a constant;
-- with keys of more than six words also substituted half way between
unfoldable pub changed : ℕ → ℕ → List ℕ → List ℕ
changed nk i w = cond (i % nk == 0) (xor (sub_word (rot_word w)) (rcon (i / nk))) (cond (nat_lt 6 nk && i % nk == 4) (sub_word w) w)

-- word i, where those before it are known: the word nk before, and the changed last word
unfoldable pub next : ℕ → ℕ → List ℕ → List ℕ
next nk i keys = xor (word 4 (i - nk) keys) (changed nk i (word 4 (i - 1) keys))

-- one word more, which is word i
unfoldable pub longer : ℕ → ℕ → List ℕ → List ℕ
longer nk i keys = keys ++ next nk i keys

-- the key, and then n words more
unfoldable pub words : ℕ → ℕ → List ℕ → List ℕ
words nk zero key = key
words nk (suc n) key = longer nk (nk + n) (words nk n key)

-- the schedule of r rounds: 4 (r + 1) words
unfoldable pub schedule : ℕ → ℕ → List ℕ → List ℕ
schedule nk r key = words nk (4 * (r + 1) - nk) key

-- the rule of a schedule's words: it begins with the key, and each further word is the XOR of the word nk before it
-- and of the last word, changed
pub record Expands (nk r : ℕ) (key s : List ℕ) : Type 0 where
  pub size : length s ≡ 4 * (4 * (r + 1))
  pub begins : take (4 * nk) s ≡ key
  pub rule : (i : ℕ) → nk ≤ i → i < 4 * (r + 1) → word 4 i s ≡ xor (word 4 (i - nk) s) (changed nk i (word 4 (i - 1) s))
