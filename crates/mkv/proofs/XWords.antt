-- XWords by the XOR of all four words: the loop that adds them up, and what adding that to each word gives. Assumes nothing.
use Rattle.std.proofs.Common.{◌≡◌, ℕ, zero, suc, ◌+◌, ◌*◌, ◌<◌, List, [], ◌∷◌, ◌++◌, length, take, drop, replicate, sym, refl, ap, ◌∙◌, ap₂, suc-mul, zero-mul, one-mul, arith, length-append}
use Rattle.std.proofs.lemmas.List.{length-drop, take_at, drop_at, drop-drop, drop_all, append-nil}
use lib.Bits.{xor_zero_l}
use Rattle.block.specs.Bytes.{xor}
use Rattle.block.specs.Words.{word, each_word}
use Rattle.block.proofs.Xor.{associates, commutes, cancels, length_xor}
use Rattle.mkv.specs.Steps.{three, x_words}
use Rattle.mkv.specs.Words.{swap, length_word}

-- the XOR of all that is there and of the next n words
abbrev pub added : ℕ → ℕ → List ℕ → List ℕ → List ℕ
added t zero all b = all
added t (suc n) all b = added t n (xor all (take t b)) (drop t b)

-- n words are still to be added
pub record Left (t : ℕ) (b all rest : List ℕ) : Type 0 where
  pub n : ℕ
  pub long : length rest ≡ n * t
  pub sum : added t n all rest ≡ added t 4 (replicate t 0) b

left_by : (t : ℕ) (b all rest w more : List ℕ) → 0 < t → rest ≡ w ++ more → length w ≡ t
    → (n : ℕ) → length rest ≡ n * t → added t n all rest ≡ added t 4 (replicate t 0) b → Left t b (xor all w) more
left_by t b all rest w more h e lw zero l s = absurd (omega (arith, ap length e, length-append w more, zero-mul t))
left_by t b all rest w more h e lw (suc n) l s = record {
  n = n;
  long = omega (arith, ap length e, length-append w more, suc-mul n t);
  sum =
      ap₂ (λ u v. added t n (xor all u) v) (sym (ap (take t) e ∙ take_at w more t lw)) (sym (ap (drop t) e ∙ drop_at w more t lw)) ∙ s;
}

pub left_more : (t : ℕ) (b all rest w more : List ℕ) → 0 < t → Left t b all rest → rest ≡ w ++ more → length w ≡ t → Left t b (xor all w) more
left_more t b all rest w more h k e lw = left_by t b all rest w more h e lw k.n k.long k.sum

none_by : (t : ℕ) (b all rest : List ℕ) → length rest < t → (n : ℕ) → length rest ≡ n * t → added t n all rest ≡ added t 4 (replicate t 0) b
    → all ≡ added t 4 (replicate t 0) b
none_by t b all rest h zero l s = s
none_by t b all rest h (suc n) l s = absurd (omega (arith, suc-mul n t))

pub left_none : (t : ℕ) (b all rest : List ℕ) → Left t b all rest → length rest < t → all ≡ added t 4 (replicate t 0) b
left_none t b all rest k h = none_by t b all rest h k.n k.long k.sum

zeros_xor : (t : ℕ) (v : List ℕ) → length v ≡ t → xor (replicate t 0) v ≡ v
unfolding xor
zeros_xor zero [] e = refl
zeros_xor zero (x ∷ v) e = absurd (omega arith)
zeros_xor (suc t) [] e = absurd (omega arith)
zeros_xor (suc t) (x ∷ v) e = ap₂ ◌∷◌ (xor_zero_l x) (zeros_xor t v (omega arith))

back : (a r : List ℕ) → length r ≡ length a → xor a (xor a r) ≡ r
back a r e = commutes a (xor a r) ∙ ap (λ x. xor x a) (commutes a r) ∙ cancels r a e

-- the XOR of four blocks and one of them is that of the other three
module _ (n : ℕ) (a b c d : List ℕ) (la : length a ≡ n) (lb : length b ≡ n) (lc : length c ≡ n) (ld : length d ≡ n) where
  three_long : (x y z : List ℕ) → length x ≡ n → length y ≡ n → length z ≡ n → length (xor x (xor y z)) ≡ n
  three_long x y z lx ly lz = length_xor x (xor y z) (lx ∙ sym (length_xor y z (ly ∙ sym lz) ∙ ly)) ∙ lx

  in_turn : xor (xor (xor a b) c) d ≡ xor a (xor b (xor c d))
  in_turn = associates (xor a b) c d ∙ associates a b (xor c d)

  first : xor a (xor (xor (xor a b) c) d) ≡ xor b (xor c d)
  first = ap (xor a) in_turn ∙ back a (xor b (xor c d)) (three_long b c d lb lc ld ∙ sym la)

  second : xor b (xor (xor (xor a b) c) d) ≡ xor a (xor c d)
  second = ap (xor b) (in_turn ∙ swap a b (xor c d)) ∙ back b (xor a (xor c d)) (three_long a c d la lc ld ∙ sym lb)

  third : xor c (xor (xor (xor a b) c) d) ≡ xor a (xor b d)
  third = ap (xor c) (in_turn ∙ ap (xor a) (swap b c d) ∙ swap a c (xor b d)) ∙ back c (xor a (xor b d)) (three_long a b d la lb ld ∙ sym lc)

  fourth : xor d (xor (xor (xor a b) c) d) ≡ xor a (xor b c)
  fourth = ap (xor d) (commutes (xor (xor a b) c) d ∙ ap (xor d) (associates a b c)) ∙ back d (xor a (xor b c)) (three_long a b c la lb lc ∙ sym ld)

-- each word and the XOR of all four: XWords
pub x_words_by : (t : ℕ) (b all : List ℕ) → length b ≡ 4 * t → all ≡ added t 4 (replicate t 0) b → each_word 4 t (λ w. xor w all) b ≡ x_words t b
unfolding each_word x_words three word
x_words_by t b all e s =
    let v0 = take t b in
    let v1 = take t (drop t b) in
    let v2 = take t (drop t (drop t b)) in
    let v3 = take t (drop t (drop t (drop t b))) in
    let e0 : v0 ≡ word t 0 b = ap (λ n. take t (drop n b)) (sym (zero-mul t)) in
    let e1 : v1 ≡ word t 1 b = ap (λ n. take t (drop n b)) (sym (one-mul t)) in
    let m2 : t + t ≡ 2 * t = omega arith in
    let m3 : t + (t + t) ≡ 3 * t = omega arith in
    let e2 : v2 ≡ word t 2 b = ap (take t) (drop-drop t t b ∙ ap (λ n. drop n b) m2) in
    let e3 : v3 ≡ word t 3 b = ap (take t) (drop-drop t t (drop t b) ∙ drop-drop (t + t) t b ∙ ap (λ n. drop n b) m3) in
    let l0 = ap length e0 ∙ length_word t 0 b (omega arith) e in
    let l1 = ap length e1 ∙ length_word t 1 b (omega arith) e in
    let l2 = ap length e2 ∙ length_word t 2 b (omega arith) e in
    let l3 = ap length e3 ∙ length_word t 3 b (omega arith) e in
    let sum : all ≡ xor (xor (xor v0 v1) v2) v3 = s ∙ ap (λ x. xor (xor (xor x v1) v2) v3) (zeros_xor t v0 l0) in
    let rest : drop t (drop t (drop t (drop t b))) ≡ [] = drop_all t (drop t (drop t (drop t b))) (simp length-drop (omega arith)) in
    ap₂ ◌++◌ (ap (xor v0) sum ∙ first t v0 v1 v2 v3 l0 l1 l2 l3 ∙ ap₂ xor e1 (ap₂ xor e2 e3))
    (ap₂ ◌++◌ (ap (xor v1) sum ∙ second t v0 v1 v2 v3 l0 l1 l2 l3 ∙ ap₂ xor e0 (ap₂ xor e2 e3))
    (ap₂ ◌++◌ (ap (xor v2) sum ∙ third t v0 v1 v2 v3 l0 l1 l2 l3 ∙ ap₂ xor e0 (ap₂ xor e1 e3))
    (ap (λ l. xor v3 all ++ l) rest ∙ append-nil (xor v3 all) ∙ ap (xor v3) sum ∙ fourth t v0 v1 v2 v3 l0 l1 l2 l3 ∙ ap₂ xor e0 (ap₂ xor e1 e2))))
