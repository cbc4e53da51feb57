-- The steps of MKV's round, over blocks of four words of t bytes; word 0 stands first. Assumes nothing.
use Rattle.std.specs.Prelude.{ℕ, ◌*◌, List, ◌++◌, take, drop}
use Rattle.block.specs.Bytes.{xor}
use Rattle.block.specs.Table.{sub}
use Rattle.block.specs.Words.{word, each_word}
use Rattle.field.specs.Matrix.{apply}
use Rattle.field.specs.Known.{mkv_poly}
use Rattle.mkv.specs.Tables.{s, s_inverse}

-- SubCells: each byte by the table s
unfoldable pub sub_cells : List ℕ → List ℕ
sub_cells b = sub s b

-- SubCells undone: each byte by the inverse of s
unfoldable pub sub_cells_back : List ℕ → List ℕ
sub_cells_back b = sub s_inverse b

-- MixWords: each of the four words, as a column of t bytes, times the matrix m
unfoldable pub mix_words : ℕ → List (List ℕ) → List ℕ → List ℕ
mix_words t m b = each_word 4 t (apply mkv_poly m) b

-- the XOR of the words i, j and k
unfoldable pub three : ℕ → ℕ → ℕ → ℕ → List ℕ → List ℕ
three t i j k b = xor (word t i b) (xor (word t j b) (word t k b))

-- XWords: each word becomes the XOR of the other three
unfoldable pub x_words : ℕ → List ℕ → List ℕ
x_words t b = three t 1 2 3 b ++ (three t 0 2 3 b ++ (three t 0 1 3 b ++ three t 0 1 2 b))

-- the two halves of a round key (A, B), a block each
unfoldable pub half_a : ℕ → List ℕ → List ℕ
half_a t key = take (4 * t) key

unfoldable pub half_b : ℕ → List ℕ → List ℕ
half_b t key = drop (4 * t) key

-- the round F with key (A, B): XOR A, SubCells, MixWords, XOR B, SubCells, XWords
unfoldable pub round : ℕ → List (List ℕ) → List ℕ → List ℕ → List ℕ
round t m key b = x_words t (sub_cells (xor (mix_words t m (sub_cells (xor b (half_a t key)))) (half_b t key)))

-- the round undone, step by step from the last, with the inverse n of the matrix; XWords undoes itself
unfoldable pub round_back : ℕ → List (List ℕ) → List ℕ → List ℕ → List ℕ
round_back t n key b = xor (sub_cells_back (mix_words t n (xor (sub_cells_back (x_words t b)) (half_b t key)))) (half_a t key)
