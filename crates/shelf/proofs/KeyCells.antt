-- Key cells and the bytes that make them. Assumes nothing.
use Rattle.std.proofs.Common.{◌≡◌, ℕ, zero, suc, ◌+◌, ◌-◌, ◌*◌, ◌/◌, ◌≤◌, List, [], ◌∷◌, ◌++◌, length, take, drop, sym, refl, ap, ◌∙◌, arith}
use borrow.Rule.Slice.PartMut.{put_mid}
use Rattle.std.proofs.lemmas.List.{append-nil, drop-drop, length-drop, nil_from_length, take-append-drop}
use Rattle.std.proofs.lemmas.List.Folds.{concat-append}
use Rattle.std.proofs.lemmas.Slice.{take-put_mid, drop-put_mid}
use Rattle.std.specs.Simd.{first_chunks}
use Rattle.shelf.specs.Keys.{key_cells, joined}

-- ---- bytes cut into cells

length_cells : (n : ℕ) (bytes : List ℕ) → length (first_chunks 16 n bytes) ≡ n
length_cells zero bytes = refl
length_cells (suc n) bytes = ap suc (length_cells n (drop 16 bytes))

-- ---- and joined again

joined_cells : (n : ℕ) (bytes : List ℕ) → length bytes ≡ 16 * n → joined (first_chunks 16 n bytes) ≡ bytes
unfolding joined
joined_cells zero bytes long = sym (nil_from_length bytes (omega arith))
joined_cells (suc n) bytes long =
    let left : length (drop 16 bytes) ≡ 16 * n = omega (arith, length-drop 16 bytes) in
    ap (λ xs. take 16 bytes ++ xs) (joined_cells n (drop 16 bytes) left) ∙ take-append-drop 16 bytes

-- of bytes that fill their cells, nothing is left out
module _ (bytes : List ℕ) (n : ℕ) (long : length bytes ≡ 16 * n) where
  whole_cells : length bytes / 16 ≡ n
  whole_cells = omega arith

  pub length_key_cells : length (key_cells bytes) ≡ n
  length_key_cells = length_cells (length bytes / 16) bytes ∙ whole_cells

  pub joined_key_cells : joined (key_cells bytes) ≡ bytes
  joined_key_cells = ap (λ k. joined (first_chunks 16 k bytes)) whole_cells ∙ joined_cells n bytes long

pub joined_none : joined [] ≡ []
unfolding joined
joined_none = refl

pub joined_push : (xs : List (List ℕ)) (x : List ℕ) → joined (xs ++ (x ∷ [])) ≡ joined xs ++ x
unfolding joined
joined_push xs x = concat-append xs (x ∷ []) ∙ ap (λ zs. joined xs ++ zs) (append-nil x)

-- one cell more, written behind the first i
abbrev pub written : List ℕ → List ℕ → ℕ → List ℕ
written out cell i = put_mid (16 * i) ((16 * i + 16) - 16 * i) out cell

module _ (out cell : List ℕ) (i : ℕ) (room : 16 * i + 16 ≤ length out) (wide : length cell ≡ 16) where
  pub take_written : take (16 * (i + 1)) (written out cell i) ≡ take (16 * i) out ++ cell
  take_written = take-put_mid (16 * i) ((16 * i + 16) - 16 * i) out cell (16 * (i + 1)) (omega arith) (omega arith)

  pub drop_written : (was : List ℕ) → drop (16 * i) out ≡ drop (16 * i) was → drop (16 * (i + 1)) (written out cell i) ≡ drop (16 * (i + 1)) was
  drop_written was same =
      let on : 16 * i + 16 ≡ 16 * (i + 1) = omega arith in
      drop-put_mid (16 * i) ((16 * i + 16) - 16 * i) out cell (16 * (i + 1)) (omega arith) (omega arith) (omega arith) ∙ ap (λ n. drop n out) (sym on)
      ∙ sym (drop-drop 16 (16 * i) out) ∙ ap (drop 16) same ∙ drop-drop 16 (16 * i) was ∙ ap (λ n. drop n was) on
