-- The steps of MKV keep blocks, and the round undone undoes the round, at any width. Assumes nothing.
use Rattle.std.specs.Prelude.{◌≡◌, ℕ, ◌*◌, List, length}
use Rattle.std.proofs.Math.Path.{sym, ap}
use Rattle.std.proofs.Common.{◌∙◌, arith}
use Rattle.std.proofs.lemmas.List.{length-drop, length-take-le}
use Rattle.block.specs.Bytes.{Block, xor}
use Rattle.block.proofs.Xor.{cancels, block_xor}
use Rattle.block.proofs.Parts.{bytes_take, bytes_drop}
use Rattle.block.proofs.Tables.{sub_back, block_sub}
use Rattle.block.proofs.Words.{length_each_word, bytes_each_word, each_word_back}
use Rattle.field.specs.Matrix.{apply, Undoes}
use Rattle.field.specs.Known.{mkv_poly}
use Rattle.field.proofs.Matrices.{undone, apply_bytes, length_apply}
use Rattle.mkv.specs.Tables.{s, s_inverse}
use Rattle.mkv.specs.Steps.{sub_cells, sub_cells_back, mix_words, x_words, half_a, half_b, round, round_back}
use Rattle.mkv.specs.Substitution.{tables}
use Rattle.mkv.specs.Words.{block_x_words, x_words_back}

-- a matrix of t rows and its inverse, both ways
pub record Inverse (t : ℕ) (m n : List (List ℕ)) : Type 0 where
  pub rows : length m ≡ t
  pub rows_back : length n ≡ t
  pub left : Undoes mkv_poly t n m
  pub right : Undoes mkv_poly t m n

pub turned : (t : ℕ) (m n : List (List ℕ)) → Inverse t m n → Inverse t n m
turned t m n u = record { rows = u.rows_back; rows_back = u.rows; left = u.right; right = u.left }

pub block_sub_cells : (w : ℕ) (b : List ℕ) → Block w b → Block w (sub_cells b)
unfolding sub_cells
block_sub_cells w b h = block_sub w s s_inverse tables.back b h

pub block_sub_cells_back : (w : ℕ) (b : List ℕ) → Block w b → Block w (sub_cells_back b)
unfolding sub_cells_back
block_sub_cells_back w b h = block_sub w s_inverse s tables.forth b h

pub sub_cells_undone : (w : ℕ) (b : List ℕ) → Block w b → sub_cells_back (sub_cells b) ≡ b
unfolding sub_cells sub_cells_back
sub_cells_undone w b h = sub_back s s_inverse tables.back b h.bytes

pub sub_cells_redone : (w : ℕ) (b : List ℕ) → Block w b → sub_cells (sub_cells_back b) ≡ b
unfolding sub_cells sub_cells_back
sub_cells_redone w b h = sub_back s_inverse s tables.forth b h.bytes

module _ (t : ℕ) (m n : List (List ℕ)) (u : Inverse t m n) where
  column_long : (v : List ℕ) → length v ≡ t → length (apply mkv_poly m v) ≡ t
  column_long v e = length_apply mkv_poly m v ∙ u.rows

  pub block_mix_words : (b : List ℕ) → Block (4 * t) b → Block (4 * t) (mix_words t m b)
  unfolding mix_words
  block_mix_words b h =
      let e = h.size in
      record {
        size = length_each_word t (apply mkv_poly m) column_long 4 b (omega arith) ∙ h.size;
        bytes = bytes_each_word t (apply mkv_poly m) column_long (λ v l k. apply_bytes mkv_poly m v u.left.low u.left.right) 4 b (omega arith) h.bytes;
      }

  pub mix_words_undone : (b : List ℕ) → Block (4 * t) b → mix_words t n (mix_words t m b) ≡ b
  unfolding mix_words
  mix_words_undone b h =
      let e = h.size in
      each_word_back t (apply mkv_poly m) column_long (apply mkv_poly n)
      (λ v l k. undone mkv_poly t n m u.left v record { size = l; bytes = k }) 4 b (omega arith) h.bytes

-- the halves of a round key
pub block_half_a : (t : ℕ) (key : List ℕ) → Block (8 * t) key → Block (4 * t) (half_a t key)
unfolding half_a
block_half_a t key h =
    let e = h.size in
    record { size = length-take-le (4 * t) key (omega arith); bytes = bytes_take (4 * t) key h.bytes }

pub block_half_b : (t : ℕ) (key : List ℕ) → Block (8 * t) key → Block (4 * t) (half_b t key)
unfolding half_b
block_half_b t key h =
    let e = h.size in
    record { size = length-drop (4 * t) key ∙ omega arith; bytes = bytes_drop (4 * t) key h.bytes }

-- ---- the round, state by state

module _ (t : ℕ) (m n : List (List ℕ)) (u : Inverse t m n) (key x : List ℕ) (hk : Block (8 * t) key) (hx : Block (4 * t) x) where
  y1 : List ℕ
  y1 = xor x (half_a t key)

  y2 : List ℕ
  y2 = sub_cells y1

  y3 : List ℕ
  y3 = mix_words t m y2

  y4 : List ℕ
  y4 = xor y3 (half_b t key)

  y5 : List ℕ
  y5 = sub_cells y4

  ha : Block (4 * t) (half_a t key)
  ha = block_half_a t key hk

  hb : Block (4 * t) (half_b t key)
  hb = block_half_b t key hk

  h1 : Block (4 * t) y1
  unfolding y1
  h1 = block_xor (4 * t) x (half_a t key) hx ha

  h2 : Block (4 * t) y2
  unfolding y2
  h2 = block_sub_cells (4 * t) y1 h1

  h3 : Block (4 * t) y3
  unfolding y3
  h3 = block_mix_words t m n u y2 h2

  h4 : Block (4 * t) y4
  unfolding y4
  h4 = block_xor (4 * t) y3 (half_b t key) h3 hb

  h5 : Block (4 * t) y5
  unfolding y5
  h5 = block_sub_cells (4 * t) y4 h4

  pub block_round : Block (4 * t) (round t m key x)
  unfolding round y1 y2 y3 y4 y5
  block_round = block_x_words t y5 h5

  pub round_undone : round_back t n key (round t m key x) ≡ x
  unfolding round round_back y1 y2 y3 y4 y5
  round_undone =
      let a = half_a t key in
      let b = half_b t key in
      ap (λ v. xor (sub_cells_back (mix_words t n (xor (sub_cells_back v) b))) a) (x_words_back t y5 h5.size)
      ∙ ap (λ v. xor (sub_cells_back (mix_words t n (xor v b))) a) (sub_cells_undone (4 * t) y4 h4)
      ∙ ap (λ v. xor (sub_cells_back (mix_words t n v)) a) (cancels y3 b (h3.size ∙ sym hb.size))
      ∙ ap (λ v. xor (sub_cells_back v) a) (mix_words_undone t m n u y2 h2)
      ∙ ap (λ v. xor v a) (sub_cells_undone (4 * t) y1 h1)
      ∙ cancels x a (hx.size ∙ sym ha.size)

  z1 : List ℕ
  z1 = x_words t x

  z2 : List ℕ
  z2 = sub_cells_back z1

  z3 : List ℕ
  z3 = xor z2 (half_b t key)

  z4 : List ℕ
  z4 = mix_words t n z3

  z5 : List ℕ
  z5 = sub_cells_back z4

  i1 : Block (4 * t) z1
  unfolding z1
  i1 = block_x_words t x hx

  i2 : Block (4 * t) z2
  unfolding z2
  i2 = block_sub_cells_back (4 * t) z1 i1

  i3 : Block (4 * t) z3
  unfolding z3
  i3 = block_xor (4 * t) z2 (half_b t key) i2 hb

  i4 : Block (4 * t) z4
  unfolding z4
  i4 = block_mix_words t n m (turned t m n u) z3 i3

  i5 : Block (4 * t) z5
  unfolding z5
  i5 = block_sub_cells_back (4 * t) z4 i4

  pub block_round_back : Block (4 * t) (round_back t n key x)
  unfolding round_back z1 z2 z3 z4 z5
  block_round_back = block_xor (4 * t) z5 (half_a t key) i5 ha

  pub round_redone : round t m key (round_back t n key x) ≡ x
  unfolding round round_back z1 z2 z3 z4 z5
  round_redone =
      let a = half_a t key in
      let b = half_b t key in
      ap (λ w. x_words t (sub_cells (xor (mix_words t m (sub_cells w)) b))) (cancels z5 a (i5.size ∙ sym ha.size))
      ∙ ap (λ w. x_words t (sub_cells (xor (mix_words t m w) b))) (sub_cells_redone (4 * t) z4 i4)
      ∙ ap (λ w. x_words t (sub_cells (xor w b))) (mix_words_undone t n m (turned t m n u) z3 i3)
      ∙ ap (λ w. x_words t (sub_cells w)) (cancels z2 b (i2.size ∙ sym hb.size))
      ∙ ap (x_words t) (sub_cells_redone (4 * t) z1 i1)
      ∙ x_words_back t x hx.size
