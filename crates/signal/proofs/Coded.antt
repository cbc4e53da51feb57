-- Bytes read as a record and written again. Assumes nothing.
use Rattle.std.proofs.Common.{◌≡◌, ℕ, zero, suc, ◌+◌, ◌<◌, List, [], ◌∷◌, ◌++◌, length, get_or, take, drop, refl, sym, ap, ◌∙◌, ap₂, arith}
use Rattle.std.proofs.Math.Seq.{drop-drop}
use Rattle.std.proofs.lemmas.List.{length-take-le, length-drop, get_or-drop, take-append-drop, drop_more}
use Rattle.std.proofs.lemmas.Nat.{be_bytes_2, be_bytes_4}
use Rattle.std.specs.Int.{w16, w32, to_be_bytes, from_be_bytes}
use Rattle.signal.specs.Coded.{coded, decoded}

below_take : (n : ℕ) (bs : List ℕ) → ((i : ℕ) → get_or bs i 0 < 256) → (i : ℕ) → get_or (take n bs) i 0 < 256
below_take zero bs h i = omega arith
below_take (suc n) [] h i = omega arith
below_take (suc n) (b ∷ bs) h zero = h 0
below_take (suc n) (b ∷ bs) h (suc i) = below_take n bs (λ j. h (suc j)) i

below_drop : (n : ℕ) (bs : List ℕ) → ((i : ℕ) → get_or bs i 0 < 256) → (i : ℕ) → get_or (drop n bs) i 0 < 256
below_drop n bs h i = rw (get_or-drop n bs i 0) (h (n + i))

pub coded_decoded : (bs : List ℕ) → length bs ≡ 11 → ((i : ℕ) → get_or bs i 0 < 256) → coded (decoded bs) ≡ bs
coded_decoded bs l h =
    let beacon : to_be_bytes w32 (from_be_bytes w32 (take 4 bs)) ≡ take 4 bs =
    be_bytes_4 (take 4 bs) _ (length-take-le 4 bs (omega arith)) (below_take 4 bs h) refl in
    let distance : to_be_bytes w16 (from_be_bytes w16 (take 2 (drop 4 bs))) ≡ take 2 (drop 4 bs) =
    be_bytes_2 (take 2 (drop 4 bs)) _ (length-take-le 2 (drop 4 bs) (simp length-drop (omega arith))) (below_take 2 (drop 4 bs) (below_drop 4 bs h)) refl in
    let second : to_be_bytes w32 (from_be_bytes w32 (drop 7 bs)) ≡ drop 7 bs =
    be_bytes_4 (drop 7 bs) _ (simp length-drop (omega arith)) (below_drop 7 bs h) refl in
    let end : get_or bs 6 0 ∷ to_be_bytes w32 (from_be_bytes w32 (drop 7 bs)) ≡ drop 2 (drop 4 bs) =
    ap (λ t. get_or bs 6 0 ∷ t) second ∙ sym (drop_more bs 6 0 (omega arith)) ∙ sym (drop-drop 2 4 bs) in
    ap₂ ◌++◌ beacon (ap₂ ◌++◌ distance end ∙ take-append-drop 2 (drop 4 bs)) ∙ take-append-drop 4 bs
