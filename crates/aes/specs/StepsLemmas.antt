-- The steps of AES keep states, and each is undone by its inverse. Assumes nothing.
use Rattle.std.specs.Prelude.{◌≡◌, ℕ, zero, suc, ◌<◌, Bool, T, List, [], ◌∷◌, map, length, ◌==◌, nat_lt, slice_index, refl}
use Rattle.std.proofs.Common.{sym, ap, ◌∙◌, arith, eqb→eq, ltb→lt}
use Rattle.std.specs.List.{range_with_len}
use Rattle.std.proofs.lemmas.List.FromFn.{length-map-range_with_len, get_or-map-range_with_len, fill_by_all}
use Rattle.block.specs.Bytes.{Bytes, Block}
use Rattle.block.specs.Words.{each_word}
use Rattle.block.proofs.Test.{both, both_left, both_right, below, at}
use Rattle.block.proofs.Xor.{cancels, block_xor}
use Rattle.block.proofs.Tables.{sub_back, block_sub}
use Rattle.block.proofs.Words.{length_each_word, bytes_each_word, each_word_back}
use Rattle.field.specs.Matrix.{apply, Undoes}
use Rattle.field.specs.Known.{aes_poly, mix_columns as matrix, mix_columns_inverse as matrix_inverse}
use Rattle.field.proofs.Known.{mix_columns_left, mix_columns_right}
use Rattle.field.proofs.Matrices.{undone, apply_bytes, length_apply}
use Rattle.aes.specs.Tables.{s_box, s_box_inverse}
use Rattle.aes.specs.Steps.{sub_bytes, inv_sub_bytes, moved, from_right, from_left, shift_rows, inv_shift_rows, mix_columns, inv_mix_columns, add_round_key}
use Rattle.aes.specs.Substitution.{tables}

-- ---- SubBytes

pub block_sub_bytes : (b : List ℕ) → Block 16 b → Block 16 (sub_bytes b)
unfolding sub_bytes
block_sub_bytes b h = block_sub 16 s_box s_box_inverse tables.back b h

pub block_inv_sub_bytes : (b : List ℕ) → Block 16 b → Block 16 (inv_sub_bytes b)
unfolding inv_sub_bytes
block_inv_sub_bytes b h = block_sub 16 s_box_inverse s_box tables.forth b h

pub sub_bytes_undone : (b : List ℕ) → Block 16 b → inv_sub_bytes (sub_bytes b) ≡ b
unfolding sub_bytes inv_sub_bytes
sub_bytes_undone b h = sub_back s_box s_box_inverse tables.back b h.bytes

pub sub_bytes_redone : (b : List ℕ) → Block 16 b → sub_bytes (inv_sub_bytes b) ≡ b
unfolding sub_bytes inv_sub_bytes
sub_bytes_redone b h = sub_back s_box_inverse s_box tables.forth b h.bytes

-- ---- ShiftRows

get_or_byte : (b : List ℕ) (i : ℕ) → Bytes b → slice_index b i < 256
get_or_byte [] i h = omega arith
get_or_byte (x ∷ b) zero h = h.0
get_or_byte (x ∷ b) (suc i) h = get_or_byte b i h.1

bytes_map : (f : ℕ → ℕ) (xs : List ℕ) → ((i : ℕ) → f i < 256) → Bytes (map f xs)
bytes_map f [] low = tt
bytes_map f (x ∷ xs) low = (low x, bytes_map f xs low)

pub length_moved : (from : ℕ → ℕ) (b : List ℕ) → length (moved from b) ≡ 16
unfolding moved
length_moved from b = length-map-range_with_len (λ i. slice_index b (from i)) 0 16

pub get_or_moved : (from : ℕ → ℕ) (b : List ℕ) (i : ℕ) → i < 16 → slice_index (moved from b) i ≡ slice_index b (from i)
unfolding moved
get_or_moved from b i h = get_or-map-range_with_len (λ k. slice_index b (from k)) 0 16 i i 0 h (omega arith)

pub block_moved : (from : ℕ → ℕ) (b : List ℕ) → Block 16 b → Block 16 (moved from b)
unfolding moved
block_moved from b h = record { size = length_moved from b; bytes = bytes_map (λ i. slice_index b (from i)) (range_with_len 0 16) (λ i. get_or_byte b (from i) h.bytes) }

-- the places that g names are those that f took from: one test over all of them
order_test : (ℕ → ℕ) → (ℕ → ℕ) → ℕ → Bool
order_test f g i = both (nat_lt (g i) 16) (f (g i) == i)

moved_back : (f g : ℕ → ℕ) → T (below (order_test f g) 16) → (b : List ℕ) → length b ≡ 16 → moved g (moved f b) ≡ b
unfolding moved order_test
moved_back f g test b lb =
    sym (fill_by_all (λ i. slice_index (moved f b) (g i)) b 16 0 lb (λ i h.
    let t = at (order_test f g) 16 test i h in
    let inside : g i < 16 = ltb→lt (g i) 16 (both_left (nat_lt (g i) 16) (f (g i) == i) t) in
    sym (get_or_moved f b (g i) inside ∙ ap (λ k. slice_index b k) (eqb→eq (f (g i)) i (both_right (nat_lt (g i) 16) (f (g i) == i) t)))))

left_test : T (below (order_test from_right from_left) 16)
unfolding order_test
left_test = tt

right_test : T (below (order_test from_left from_right) 16)
unfolding order_test
right_test = tt

pub block_shift_rows : (b : List ℕ) → Block 16 b → Block 16 (shift_rows b)
unfolding shift_rows
block_shift_rows b h = block_moved from_right b h

pub block_inv_shift_rows : (b : List ℕ) → Block 16 b → Block 16 (inv_shift_rows b)
unfolding inv_shift_rows
block_inv_shift_rows b h = block_moved from_left b h

pub shift_rows_undone : (b : List ℕ) → Block 16 b → inv_shift_rows (shift_rows b) ≡ b
unfolding shift_rows inv_shift_rows
shift_rows_undone b h = moved_back from_right from_left left_test b h.size

pub shift_rows_redone : (b : List ℕ) → Block 16 b → shift_rows (inv_shift_rows b) ≡ b
unfolding shift_rows inv_shift_rows
shift_rows_redone b h = moved_back from_left from_right right_test b h.size

-- ---- MixColumns

module _ (m n : List (List ℕ)) (rows : length m ≡ 4) (u : Undoes aes_poly 4 n m) where
  column_long : (v : List ℕ) → length v ≡ 4 → length (apply aes_poly m v) ≡ 4
  column_long v e = length_apply aes_poly m v ∙ rows

  block_mixed : (b : List ℕ) → Block 16 b → Block 16 (each_word 4 4 (apply aes_poly m) b)
  block_mixed b h =
      let e = h.size in
      record {
        size = length_each_word 4 (apply aes_poly m) column_long 4 b (omega arith) ∙ h.size;
        bytes = bytes_each_word 4 (apply aes_poly m) column_long (λ v l k. apply_bytes aes_poly m v u.low u.right) 4 b (omega arith) h.bytes;
      }

  mixed_back : (b : List ℕ) → Block 16 b → each_word 4 4 (apply aes_poly n) (each_word 4 4 (apply aes_poly m) b) ≡ b
  mixed_back b h =
      let e = h.size in
      each_word_back 4 (apply aes_poly m) column_long (apply aes_poly n) (λ v l k. undone aes_poly 4 n m u v record { size = l; bytes = k }) 4 b (omega arith) h.bytes

rows : length matrix ≡ 4
unfolding matrix
rows = refl

rows_inverse : length matrix_inverse ≡ 4
unfolding matrix_inverse
rows_inverse = refl

pub block_mix_columns : (b : List ℕ) → Block 16 b → Block 16 (mix_columns b)
unfolding mix_columns
block_mix_columns b h = block_mixed matrix matrix_inverse rows mix_columns_left b h

pub block_inv_mix_columns : (b : List ℕ) → Block 16 b → Block 16 (inv_mix_columns b)
unfolding inv_mix_columns
block_inv_mix_columns b h = block_mixed matrix_inverse matrix rows_inverse mix_columns_right b h

pub mix_columns_undone : (b : List ℕ) → Block 16 b → inv_mix_columns (mix_columns b) ≡ b
unfolding mix_columns inv_mix_columns
mix_columns_undone b h = mixed_back matrix matrix_inverse rows mix_columns_left b h

pub mix_columns_redone : (b : List ℕ) → Block 16 b → mix_columns (inv_mix_columns b) ≡ b
unfolding mix_columns inv_mix_columns
mix_columns_redone b h = mixed_back matrix_inverse matrix rows_inverse mix_columns_right b h

-- ---- AddRoundKey

pub block_add_round_key : (b key : List ℕ) → Block 16 b → Block 16 key → Block 16 (add_round_key b key)
unfolding add_round_key
block_add_round_key b key h k = block_xor 16 b key h k

pub add_round_key_undone : (b key : List ℕ) → Block 16 b → Block 16 key → add_round_key (add_round_key b key) key ≡ b
unfolding add_round_key
add_round_key_undone b key h k = cancels b key (h.size ∙ sym k.size)
