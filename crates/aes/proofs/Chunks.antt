-- A block as a slice of words. Assumes nothing.
use Rattle.std.proofs.Common.{◌≡◌, ℕ, zero, suc, ◌+◌, ◌*◌, ◌<◌, List, [], ◌∷◌, ◌++◌, length, take, drop, slice_index_or, sym, refl, ap, ◌∙◌, zero-mul, suc-mul, arith}
use Rattle.std.proofs.lemmas.List.{drop-drop, take_at, get_or-take, get_or_push, length_push, take-take}
use Rattle.std.proofs.lemmas.Grind.{get_or_after_one}
use Rattle.std.specs.Simd.{first_chunks}
use Rattle.block.specs.Words.{word}

-- word i is chunk i
pub chunk_is : (t n : ℕ) (b : List ℕ) (i : ℕ) (d : List ℕ) → i < n → slice_index_or (first_chunks t n b) i d ≡ word t i b
unfolding word
chunk_is t zero b i d h = absurd (omega arith)
chunk_is t (suc n) b zero d h = ap (λ o. take t (drop o b)) (let e : 0 ≡ 0 * t = omega (arith, zero-mul t) in e)
chunk_is t (suc n) b (suc i) d h =
    chunk_is t n (drop t b) i d (omega arith) ∙ ap (take t) (drop-drop (i * t) t b ∙ ap (λ o. drop o b) (let e : t + i * t ≡ suc i * t = omega (arith, suc-mul i t) in e))

-- the same behind the first chunk
pub later_chunk : (t n : ℕ) (b : List ℕ) (i : ℕ) (d : List ℕ) → i + 1 < n → slice_index_or (drop 1 (first_chunks t n b)) i d ≡ word t (i + 1) b
later_chunk t n b i d h =
    let e : 1 + i ≡ i + 1 = omega arith in
    get_or_after_one (first_chunks t n b) i d ∙ ap (λ k. slice_index_or (first_chunks t n b) k d) e ∙ chunk_is t n b (i + 1) d h

-- a first part of a list, without its last item, and that item
pub part_less : {X : Type 0} (part xs ys : List X) (x d : X) → part ≡ xs ++ x ∷ [] → part ≡ take (length part) ys
    → (xs ≡ take (length xs) ys) × (x ≡ slice_index_or ys (length xs) d)
part_less part xs ys x d e h =
    let l : length part ≡ length xs + 1 = ap length e ∙ length_push xs x in
    let f : xs ++ x ∷ [] ≡ take (length xs + 1) ys = sym e ∙ h ∙ ap (λ n. take n ys) l in (
      sym (take_at xs (x ∷ []) (length xs) refl) ∙ ap (take (length xs)) f ∙ take-take (length xs) (length xs + 1) ys (omega arith),
      sym (get_or_push xs x d (length xs) refl) ∙ ap (λ l. slice_index_or l (length xs) d) f ∙ get_or-take (length xs + 1) ys (length xs) d (omega arith),
    )
