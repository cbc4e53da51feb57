-- XWords: the four words of a block, and that XWords undoes itself. Assumes nothing.
use Rattle.std.specs.Prelude.{◌≡◌, ℕ, ◌+◌, ◌*◌, ◌<◌, ◌≤◌, List, ◌++◌, length, take, drop}
use Rattle.std.proofs.Math.Path.{sym, ap}
use Rattle.std.proofs.Common.{ap₂, ◌∙◌, zero-mul, one-mul, length-append}
use native.Mathlib.Omega.{arith}
use Rattle.std.proofs.lemmas.List.{length-drop, length-take-le, take_at, drop_at, take-append-drop, drop-drop, take_all}
use Rattle.block.specs.Bytes.{Block, xor}
use Rattle.block.specs.Words.{word}
use Rattle.block.proofs.Xor.{associates, commutes, cancels, cancels_both, length_xor, block_xor}
use Rattle.block.proofs.Parts.{bytes_append, bytes_take, bytes_drop}
use Rattle.block.proofs.Words.{word_end}
use Rattle.mkv.specs.Steps.{three, x_words}

pub block_word : (t i : ℕ) (b : List ℕ) → i < 4 → Block (4 * t) b → Block t (word t i b)
unfolding word
block_word t i b h e =
    let k : i * t + t ≤ 4 * t = word_end i t h in
    record {
      size = length-take-le t (drop (i * t) b) (simp length-drop (omega (arith, e.size)));
      bytes = bytes_take t (drop (i * t) b) (bytes_drop (i * t) b e.bytes);
    }

pub length_word : (t i : ℕ) (b : List ℕ) → i < 4 → length b ≡ 4 * t → length (word t i b) ≡ t
unfolding word
length_word t i b h e =
    let k : i * t + t ≤ 4 * t = word_end i t h in
    length-take-le t (drop (i * t) b) (simp length-drop (omega arith))

-- the words of four words joined
module _ (t : ℕ) (p q r s : List ℕ) (lp : length p ≡ t) (lq : length q ≡ t) (lr : length r ≡ t) (ls : length s ≡ t) where
  first_word : word t 0 (p ++ (q ++ (r ++ s))) ≡ p
  unfolding word
  first_word = ap (λ n. take t (drop n (p ++ (q ++ (r ++ s))))) (zero-mul t) ∙ take_at p (q ++ (r ++ s)) t lp

  second_word : word t 1 (p ++ (q ++ (r ++ s))) ≡ q
  unfolding word
  second_word =
      ap (λ n. take t (drop n (p ++ (q ++ (r ++ s))))) (one-mul t)
      ∙ ap (take t) (drop_at p (q ++ (r ++ s)) t lp) ∙ take_at q (r ++ s) t lq

  third_word : word t 2 (p ++ (q ++ (r ++ s))) ≡ r
  unfolding word
  third_word =
      let e : 2 * t ≡ t + t = omega arith in
      ap (λ n. take t (drop n (p ++ (q ++ (r ++ s))))) e
      ∙ ap (take t) (sym (drop-drop t t (p ++ (q ++ (r ++ s)))) ∙ ap (drop t) (drop_at p (q ++ (r ++ s)) t lp) ∙ drop_at q (r ++ s) t lq)
      ∙ take_at r s t lr

  fourth_word : word t 3 (p ++ (q ++ (r ++ s))) ≡ s
  unfolding word
  fourth_word =
      let e : 3 * t ≡ t + (t + t) = omega arith in
      ap (λ n. take t (drop n (p ++ (q ++ (r ++ s))))) e
      ∙ ap (take t) (sym (drop-drop (t + t) t (p ++ (q ++ (r ++ s)))) ∙ ap (drop (t + t)) (drop_at p (q ++ (r ++ s)) t lp)
      ∙ sym (drop-drop t t (q ++ (r ++ s))) ∙ ap (drop t) (drop_at q (r ++ s) t lq) ∙ drop_at r s t lr)
      ∙ take_all t s (omega arith)

-- a block is its four words
pub joined_words : (t : ℕ) (b : List ℕ) → length b ≡ 4 * t → word t 0 b ++ (word t 1 b ++ (word t 2 b ++ word t 3 b)) ≡ b
unfolding word
joined_words t b e =
    let e2 : 2 * t ≡ t + t = omega arith in
    let e3 : 3 * t ≡ t + (t + t) = omega arith in
    let d = drop t b in
    let d2 : drop (2 * t) b ≡ drop t d = ap (λ n. drop n b) e2 ∙ sym (drop-drop t t b) in
    let d3 : drop (3 * t) b ≡ drop t (drop t d) =
    ap (λ n. drop n b) e3 ∙ sym (drop-drop (t + t) t b) ∙ sym (drop-drop t t d) in
    let last : take t (drop t (drop t d)) ≡ drop t (drop t d) = take_all t (drop t (drop t d)) (simp length-drop (omega arith)) in
    ap₂ (λ n m. take t (drop n b) ++ (take t (drop m b) ++ (take t (drop (2 * t) b) ++ take t (drop (3 * t) b)))) (zero-mul t) (one-mul t)
    ∙ ap₂ (λ x y. take t b ++ (take t d ++ (take t x ++ take t y))) d2 d3
    ∙ ap (λ x. take t b ++ (take t d ++ (take t (drop t d) ++ x))) last
    ∙ ap (λ x. take t b ++ (take t d ++ x)) (take-append-drop t (drop t d))
    ∙ ap (λ x. take t b ++ x) (take-append-drop t d)
    ∙ take-append-drop t b

-- a + (b + c) = b + (a + c)
pub swap : (a b c : List ℕ) → xor a (xor b c) ≡ xor b (xor a c)
swap a b c = sym (associates a b c) ∙ ap (λ x. xor x c) (commutes a b) ∙ associates b a c

-- a + (b + c) = c + (a + b)
turn : (a b c : List ℕ) → xor a (xor b c) ≡ xor c (xor a b)
turn a b c = sym (associates a b c) ∙ commutes (xor a b) c

-- (x + (u + v)) + ((x + (y + v)) + (x + (y + u))) = x
three_back : (t : ℕ) (x y u v : List ℕ) → length x ≡ t → length y ≡ t → length u ≡ t → length v ≡ t
    → xor (xor x (xor u v)) (xor (xor x (xor y v)) (xor x (xor y u))) ≡ x
three_back t x y u v lx ly lu lv =
    let luv : length (xor u v) ≡ t = length_xor u v (lu ∙ sym lv) ∙ lu in
    let lyu : length (xor y u) ≡ t = length_xor y u (ly ∙ sym lu) ∙ ly in
    ap (xor (xor x (xor u v))) (cancels_both x (xor y v) (xor y u) (lyu ∙ sym lx) ∙ cancels_both y v u (lu ∙ sym ly) ∙ commutes v u)
    ∙ cancels x (xor u v) (lx ∙ sym luv)

pub length_three : (t i j k : ℕ) (b : List ℕ) → i < 4 → j < 4 → k < 4 → length b ≡ 4 * t → length (three t i j k b) ≡ t
unfolding three
length_three t i j k b hi hj hk e =
    let li = length_word t i b hi e in
    let lj = length_word t j b hj e in
    let lk = length_word t k b hk e in
    let lr : length (xor (word t j b) (word t k b)) ≡ t = length_xor (word t j b) (word t k b) (lj ∙ sym lk) ∙ lj in
    length_xor (word t i b) (xor (word t j b) (word t k b)) (li ∙ sym lr) ∙ li

pub block_three : (t i j k : ℕ) (b : List ℕ) → i < 4 → j < 4 → k < 4 → Block (4 * t) b → Block t (three t i j k b)
unfolding three
block_three t i j k b hi hj hk e =
    block_xor t (word t i b) (xor (word t j b) (word t k b)) (block_word t i b hi e)
    (block_xor t (word t j b) (word t k b) (block_word t j b hj e) (block_word t k b hk e))

four_long : (t : ℕ) (p q r s : List ℕ) → length p ≡ t → length q ≡ t → length r ≡ t → length s ≡ t → length (p ++ (q ++ (r ++ s))) ≡ 4 * t
four_long t p q r s lp lq lr ls = simp length-append (omega arith)

pub block_x_words : (t : ℕ) (b : List ℕ) → Block (4 * t) b → Block (4 * t) (x_words t b)
unfolding x_words
block_x_words t b h =
    let p = block_three t 1 2 3 b (omega arith) (omega arith) (omega arith) h in
    let q = block_three t 0 2 3 b (omega arith) (omega arith) (omega arith) h in
    let r = block_three t 0 1 3 b (omega arith) (omega arith) (omega arith) h in
    let s = block_three t 0 1 2 b (omega arith) (omega arith) (omega arith) h in
    record {
      size = four_long t (three t 1 2 3 b) (three t 0 2 3 b) (three t 0 1 3 b) (three t 0 1 2 b) p.size q.size r.size s.size;
      bytes = bytes_append (three t 1 2 3 b) _ p.bytes (bytes_append (three t 0 2 3 b) _ q.bytes (bytes_append (three t 0 1 3 b) (three t 0 1 2 b) r.bytes s.bytes));
    }

-- XWords undoes itself
pub x_words_back : (t : ℕ) (b : List ℕ) → length b ≡ 4 * t → x_words t (x_words t b) ≡ b
unfolding x_words three
x_words_back t b e =
    let w0 = word t 0 b in
    let w1 = word t 1 b in
    let w2 = word t 2 b in
    let w3 = word t 3 b in
    let l0 = length_word t 0 b (omega arith) e in
    let l1 = length_word t 1 b (omega arith) e in
    let l2 = length_word t 2 b (omega arith) e in
    let l3 = length_word t 3 b (omega arith) e in
    let p = xor w1 (xor w2 w3) in
    let q = xor w0 (xor w2 w3) in
    let r = xor w0 (xor w1 w3) in
    let s = xor w0 (xor w1 w2) in
    let lp : length p ≡ t = length_three t 1 2 3 b (omega arith) (omega arith) (omega arith) e in
    let lq : length q ≡ t = length_three t 0 2 3 b (omega arith) (omega arith) (omega arith) e in
    let lr : length r ≡ t = length_three t 0 1 3 b (omega arith) (omega arith) (omega arith) e in
    let ls : length s ≡ t = length_three t 0 1 2 b (omega arith) (omega arith) (omega arith) e in
    let f0 = first_word t p q r s lp lq lr ls in
    let f1 = second_word t p q r s lp lq lr ls in
    let f2 = third_word t p q r s lp lq lr ls in
    let f3 = fourth_word t p q r s lp lq lr ls in
    let a : xor q (xor r s) ≡ w0 = three_back t w0 w1 w2 w3 l0 l1 l2 l3 in
    let c : xor p (xor r s) ≡ w1 =
    ap (xor p) (ap₂ xor (swap w0 w1 w3) (swap w0 w1 w2)) ∙ three_back t w1 w0 w2 w3 l1 l0 l2 l3 in
    let d : xor p (xor q s) ≡ w2 =
    ap₂ xor (swap w1 w2 w3) (ap₂ xor (swap w0 w2 w3) (turn w0 w1 w2)) ∙ three_back t w2 w0 w1 w3 l2 l0 l1 l3 in
    let f : xor p (xor q r) ≡ w3 =
    ap₂ xor (turn w1 w2 w3) (ap₂ xor (turn w0 w2 w3) (turn w0 w1 w3)) ∙ three_back t w3 w0 w1 w2 l3 l0 l1 l2 in
    ap₂ ◌++◌ (ap₂ xor f1 (ap₂ xor f2 f3) ∙ a)
    (ap₂ ◌++◌ (ap₂ xor f0 (ap₂ xor f2 f3) ∙ c)
    (ap₂ ◌++◌ (ap₂ xor f0 (ap₂ xor f1 f3) ∙ d) (ap₂ xor f0 (ap₂ xor f1 f2) ∙ f)))
    ∙ joined_words t b e
