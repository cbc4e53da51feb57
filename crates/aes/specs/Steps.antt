-- The steps of AES over the state, 16 bytes: byte r + 4c stands in row r of column c. Assumes nothing.
use Rattle.std.specs.Prelude.{ℕ, ◌+◌, ◌-◌, ◌*◌, ◌/◌, ◌%◌, List, map, slice_index}
use Rattle.std.specs.List.{range_with_len}
use Rattle.block.specs.Bytes.{xor}
use Rattle.block.specs.Table.{sub}
use Rattle.block.specs.Words.{each_word}
use Rattle.field.specs.Matrix.{apply}
use Rattle.field.specs.Known.{aes_poly, mix_columns as matrix, mix_columns_inverse as matrix_inverse}
use Rattle.aes.specs.Tables.{s_box, s_box_inverse}

-- the row and the column of byte i, and the byte at a row and a column
abbrev pub row : ℕ → ℕ
row i = i % 4

abbrev pub column : ℕ → ℕ
column i = i / 4

abbrev pub at : ℕ → ℕ → ℕ
at r c = r + 4 * c

-- SubBytes: each byte by the table
unfoldable pub sub_bytes : List ℕ → List ℕ
sub_bytes b = sub s_box b

-- InvSubBytes: each byte by the inverse table
unfoldable pub inv_sub_bytes : List ℕ → List ℕ
inv_sub_bytes b = sub s_box_inverse b

-- the bytes of the state taken from the places that a rule names
unfoldable pub moved : (ℕ → ℕ) → List ℕ → List ℕ
moved from b = map (λ i. slice_index b (from i)) (range_with_len 0 16)

-- row r moves `by` times r places to the left, counted round
abbrev pub from_past : ℕ → ℕ → ℕ
from_past by i = at (row i) ((column i + by * row i) % 4)

-- ShiftRows: row r moves r places to the left, counted round
abbrev pub from_right : ℕ → ℕ
from_right i = at (row i) ((column i + row i) % 4)

unfoldable pub shift_rows : List ℕ → List ℕ
shift_rows b = moved from_right b

-- InvShiftRows: row r moves r places to the right
abbrev pub from_left : ℕ → ℕ
from_left i = at (row i) ((column i + 4 - row i) % 4)

unfoldable pub inv_shift_rows : List ℕ → List ℕ
inv_shift_rows b = moved from_left b

-- MixColumns: each of the four columns times the matrix
unfoldable pub mix_columns : List ℕ → List ℕ
mix_columns b = each_word 4 4 (apply aes_poly matrix) b

-- InvMixColumns: each of them times the inverse matrix
unfoldable pub inv_mix_columns : List ℕ → List ℕ
inv_mix_columns b = each_word 4 4 (apply aes_poly matrix_inverse) b

-- AddRoundKey
unfoldable pub add_round_key : List ℕ → List ℕ → List ℕ
add_round_key b key = xor b key
