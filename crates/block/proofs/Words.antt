-- Words of a block: what is done to each, undone, and a loop that goes through them in place. Assumes nothing.
use Rattle.std.proofs.Common.{◌≡◌, ℕ, zero, suc, ◌+◌, ◌*◌, ◌<◌, ◌≤◌, List, ◌++◌, length, take, drop, sym, refl, ap, ◌∙◌, ap₂, mul-le-mul_right, suc-mul, zero-mul, add-one, arith, length-append}
use Rattle.std.proofs.lemmas.List.{length-drop, length-take-le, take_at, drop_at, take-append-drop, drop-drop, append_assoc}
use Rattle.std.proofs.Math.Seq.{take-append-add}
use borrow.Rule.Slice.PartMut.{put_mid}
use Rattle.block.specs.Bytes.{Bytes}
use Rattle.block.specs.Words.{each_word}
use Rattle.block.proofs.Parts.{bytes_append, bytes_take, bytes_drop}

module _ (t : ℕ) (f : List ℕ → List ℕ) (long : (v : List ℕ) → length v ≡ t → length (f v) ≡ t) where
  pub length_each_word : (n : ℕ) (x : List ℕ) → n * t ≤ length x → length (each_word n t f x) ≡ length x
  unfolding each_word
  length_each_word zero x h = refl
  length_each_word (suc n) x h =
      let k : t + n * t ≤ length x = omega (arith, suc-mul n t) in
      let r : n * t ≤ length (drop t x) = simp length-drop (omega arith) in
      length-append (f (take t x)) (each_word n t f (drop t x))
      ∙ ap₂ ◌+◌ (long (take t x) (length-take-le t x (omega arith))) (length_each_word n (drop t x) r ∙ length-drop t x) ∙ omega arith

  pub bytes_each_word : ((v : List ℕ) → length v ≡ t → Bytes v → Bytes (f v)) → (n : ℕ) (x : List ℕ) → n * t ≤ length x → Bytes x → Bytes (each_word n t f x)
  unfolding each_word
  bytes_each_word keep zero x h b = b
  bytes_each_word keep (suc n) x h b =
      let k : t + n * t ≤ length x = omega (arith, suc-mul n t) in
      let r : n * t ≤ length (drop t x) = simp length-drop (omega arith) in
      bytes_append (f (take t x)) (each_word n t f (drop t x)) (keep (take t x) (length-take-le t x (omega arith)) (bytes_take t x b))
      (bytes_each_word keep n (drop t x) r (bytes_drop t x b))

  -- what undoes f on words undoes it on a block
  pub each_word_back : (g : List ℕ → List ℕ) → ((v : List ℕ) → length v ≡ t → Bytes v → g (f v) ≡ v)
      → (n : ℕ) (x : List ℕ) → n * t ≤ length x → Bytes x → each_word n t g (each_word n t f x) ≡ x
  unfolding each_word
  each_word_back g back zero x h b = refl
  each_word_back g back (suc n) x h b =
      let k : t + n * t ≤ length x = omega (arith, suc-mul n t) in
      let r : n * t ≤ length (drop t x) = simp length-drop (omega arith) in
      let l = length-take-le t x (omega arith) in
      let w = f (take t x) in
      let y = each_word n t f (drop t x) in
      ap₂ (λ u v. g u ++ each_word n t g v) (take_at w y t (long (take t x) l)) (drop_at w y t (long (take t x) l))
      ∙ ap₂ ◌++◌ (back (take t x) l (bytes_take t x b)) (each_word_back g back n (drop t x) r (bytes_drop t x b))
      ∙ take-append-drop t x

steps : ℕ → ℕ → ℕ
steps t zero = 0
steps t (suc i) = t + steps t i

steps_is : (t i : ℕ) → steps t i ≡ i * t
unfolding steps
steps_is t zero = sym (zero-mul t)
steps_is t (suc i) = ap (λ n. t + n) (steps_is t i) ∙ omega (arith, suc-mul i t)

module _ (t : ℕ) (f : List ℕ → List ℕ) (long : (v : List ℕ) → length v ≡ t → length (f v) ≡ t) where
  put_word : (i : ℕ) (x w : List ℕ) → t + steps t i ≤ length x → w ≡ f (take t (drop (steps t i) (each_word i t f x)))
      → take (steps t i) (each_word i t f x) ++ (w ++ drop t (drop (steps t i) (each_word i t f x))) ≡ each_word (suc i) t f x
  unfolding each_word steps
  put_word zero x w h e = ap (λ v. v ++ drop t x) e
  put_word (suc i) x w h e =
      let o = steps t i in
      let g = f (take t x) in
      let y = each_word i t f (drop t x) in
      let lg : length g ≡ t = long (take t x) (length-take-le t x (omega arith)) in
      let dropped : drop (t + o) (g ++ y) ≡ drop o y = sym (drop-drop o t (g ++ y)) ∙ ap (drop o) (drop_at g y t lg) in
      let taken : take (t + o) (g ++ y) ≡ g ++ take o y = ap (λ n. take (n + o) (g ++ y)) (sym lg) ∙ take-append-add g y o in
      ap₂ (λ u v. u ++ (w ++ drop t v)) taken dropped
      ∙ append_assoc g (take o y) (w ++ drop t (drop o y))
      ∙ ap (λ l. g ++ l) (put_word i (drop t x) w (simp length-drop (omega arith)) (e ∙ ap (λ l. f (take t l)) dropped))

  -- one word more, where the word from i t to i t + t is written
  pub word_more : (i k : ℕ) (x b w : List ℕ) → i * t + t ≤ length x → k ≡ t → b ≡ each_word i t f x → w ≡ f (take k (drop (i * t) b))
      → put_mid (i * t) k b w ≡ each_word (i + 1) t f x
  word_more i k x b w h ek eb ew =
      let e : steps t i ≡ i * t = steps_is t i in
      let r : t + steps t i ≤ length x = omega arith in
      let o = steps t i in
      let z = each_word i t f x in
      ap₂ (λ n c. take n c ++ (w ++ drop k (drop n c))) (sym e) eb
      ∙ ap (λ n. take o z ++ (w ++ drop n (drop o z))) ek
      ∙ put_word i x w r (ew ∙ ap₂ (λ n m. f (take n (drop m b))) ek (sym e) ∙ ap (λ c. f (take t (drop o c))) eb)
      ∙ ap (λ n. each_word n t f x) (sym (add-one i))

pub word_end : (i t : ℕ) → i < 4 → i * t + t ≤ 4 * t
word_end i t h = let k : suc i * t ≤ 4 * t = mul-le-mul_right t h in omega (arith, suc-mul i t)

pub each_word_none : (t : ℕ) (f : List ℕ → List ℕ) (x : List ℕ) → x ≡ each_word 0 t f x
unfolding each_word
each_word_none t f x = refl
