-- What a gather has written after each cell, and once it has met them all. Assumes nothing.
use Rattle.std.proofs.Common.{◌≡◌, ℕ, ◌+◌, ◌*◌, ◌<◌, ◌≤◌, List, [], ◌∷◌, ◌++◌, length, get_or, take, drop, set, sym, ap, ◌∙◌, arith}
use Rattle.std.proofs.lemmas.List.{take_more_set, take_all, take-append-drop, drop-set-lt, drop-drop}
use Rattle.shelf.specs.Items.{items_at, Below}
use Rattle.shelf.specs.Keys.{joined}
use Rattle.shelf.proofs.Pick.{items_more}
use Rattle.shelf.proofs.KeyCells.{joined_push, written, take_written, drop_written}

module _ {T : Type 0} (cells : List T) (ks : List ℕ) (was : List T) where
  -- the front of `out` has the items of the first n cells, and the rest is as it was
  abbrev pub Gathered : List T → ℕ → Type 0
  Gathered out n = (take n out ≡ items_at cells (take n ks)) × (drop n out ≡ drop n was)

  pub gathered_more : (out : List T) (n i : ℕ) (x : T) → Below (length cells) ks → n < length ks → n < length out → i ≡ n → x ≡ get_or cells (get_or ks n 0) x → Gathered out n → Gathered (set out i x) (n + 1)
  gathered_more out n i x below here room same read so_far =
      rw same (
        take_more_set out n x room ∙ ap (λ xs. xs ++ (x ∷ [])) so_far.0 ∙ sym (items_more cells ks n x below here read),
        drop-set-lt (n + 1) out n x (omega arith) ∙ sym (drop-drop 1 n out) ∙ ap (drop 1) so_far.1 ∙ drop-drop 1 n was,
      )

  pub gathered_all : (out : List T) (n : ℕ) → n ≡ length ks → Gathered out n → out ≡ items_at cells ks ++ drop n was
  gathered_all out n all so_far =
      sym (take-append-drop n out) ∙ ap (λ xs. xs ++ drop n out) (so_far.0 ∙ ap (items_at cells) (take_all n ks (omega arith))) ∙ ap (λ ys. items_at cells ks ++ ys) so_far.1

module _ (cells : List (List ℕ)) (ks was : List ℕ) where
  -- the same, of the bytes of key cells
  abbrev pub GatheredBytes : List ℕ → ℕ → Type 0
  GatheredBytes out n = (take (16 * n) out ≡ joined (items_at cells (take n ks))) × (drop (16 * n) out ≡ drop (16 * n) was)

  pub bytes_more : (out : List ℕ) (n : ℕ) (x : List ℕ) → Below (length cells) ks → n < length ks → 16 * n + 16 ≤ length out → length x ≡ 16 → x ≡ get_or cells (get_or ks n 0) x → GatheredBytes out n → GatheredBytes (written out x n) (n + 1)
  bytes_more out n x below here room wide read so_far = (
    take_written out x n room wide ∙ ap (λ xs. xs ++ x) so_far.0 ∙ sym (joined_push (items_at cells (take n ks)) x) ∙ ap joined (sym (items_more cells ks n x below here read)),
    drop_written out x n room wide was so_far.1,
  )

  pub bytes_all : (out : List ℕ) (n : ℕ) → n ≡ length ks → GatheredBytes out n → out ≡ joined (items_at cells ks) ++ drop (16 * n) was
  bytes_all out n all so_far =
      sym (take-append-drop (16 * n) out) ∙ ap (λ xs. xs ++ drop (16 * n) out) (so_far.0 ∙ ap (λ js. joined (items_at cells js)) (take_all n ks (omega arith))) ∙ ap (λ ys. joined (items_at cells ks) ++ ys) so_far.1
