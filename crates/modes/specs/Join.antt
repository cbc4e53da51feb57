-- Joining a text with a pad, and parting them again: the one place that says how. Assumes nothing.
-- A pad is the block that a text is hidden under. Both ways are XOR, and rest on its three facts: it is associative and
-- commutative, and cancels itself. They have two names, since what parts need not be what joins; the text stands on the left.
use Rattle.std.specs.Prelude.{ℕ, List, length, take, bit_xor}
use Rattle.block.specs.Bytes.{xor}

-- one byte
unfoldable pub join_byte : ℕ → ℕ → ℕ
join_byte text pad = bit_xor text pad

unfoldable pub part_byte : ℕ → ℕ → ℕ
part_byte bytes pad = bit_xor bytes pad

-- a text of any length: it takes as many first bytes of the pad
unfoldable pub join : List ℕ → List ℕ → List ℕ
join text pad = take (length text) (xor text pad)

unfoldable pub part : List ℕ → List ℕ → List ℕ
part bytes pad = take (length bytes) (xor bytes pad)
