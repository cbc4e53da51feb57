-- AES under a schedule of round keys, 16 bytes each; round key 0 stands first. Assumes nothing.
use Rattle.std.specs.Prelude.{ℕ, zero, suc, ◌-◌, List}
use Rattle.block.specs.Words.{word}
use Rattle.aes.specs.Steps.{sub_bytes, inv_sub_bytes, shift_rows, inv_shift_rows, mix_columns, inv_mix_columns, add_round_key}

-- round key i of a schedule
abbrev pub round_key : ℕ → List ℕ → List ℕ
round_key i keys = word 16 i keys

-- a round, and the last round, which has no MixColumns
unfoldable pub round : List ℕ → List ℕ → List ℕ
round key b = add_round_key (mix_columns (shift_rows (sub_bytes b))) key

unfoldable pub last_round : List ℕ → List ℕ → List ℕ
last_round key b = add_round_key (shift_rows (sub_bytes b)) key

-- the rounds with round keys 1 to n
unfoldable pub rounds : ℕ → List ℕ → List ℕ → List ℕ
rounds zero keys b = b
rounds (suc n) keys b = round (round_key (suc n) keys) (rounds n keys b)

-- Cipher: r rounds, the last one without MixColumns, after round key 0
unfoldable pub encipher : ℕ → List ℕ → List ℕ → List ℕ
encipher r keys b = last_round (round_key r keys) (rounds (r - 1) keys (add_round_key b (round_key 0 keys)))

-- a round of the inverse cipher, and its last round
unfoldable pub inv_round : List ℕ → List ℕ → List ℕ
inv_round key b = inv_mix_columns (add_round_key (inv_sub_bytes (inv_shift_rows b)) key)

unfoldable pub inv_last_round : List ℕ → List ℕ → List ℕ
inv_last_round key b = add_round_key (inv_sub_bytes (inv_shift_rows b)) key

-- the rounds of the inverse cipher with round keys n down to 1
unfoldable pub inv_rounds : ℕ → List ℕ → List ℕ → List ℕ
inv_rounds zero keys b = b
inv_rounds (suc n) keys b = inv_rounds n keys (inv_round (round_key (suc n) keys) b)

-- InvCipher
unfoldable pub decipher : ℕ → List ℕ → List ℕ → List ℕ
decipher r keys b = inv_last_round (round_key 0 keys) (inv_rounds (r - 1) keys (add_round_key b (round_key r keys)))
