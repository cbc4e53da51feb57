-- The key schedule: its size and its bytes. Assumes nothing.
use Rattle.std.specs.Prelude.{◌≡◌, ℕ, zero, suc, ◌+◌, ◌-◌, ◌*◌, ◌<◌, ◌≤◌, List, [], ◌∷◌, ◌++◌, map, length, take, drop, replicate, slice_set}
use Rattle.std.proofs.Math.Path.{sym}
use Rattle.std.proofs.Common.{refl, ap, ap₂, ◌∙◌, zero-mul, one-mul, add-mul, mul-add, length-append, mul-le-mul_right}
use native.Mathlib.Omega.{arith}
use Rattle.std.proofs.Math.Nat.{suc-mul}
use Rattle.std.proofs.lemmas.List.{length-map, length-take, length-take-le, length-drop, length-set, length-replicate, take_at, drop_at, drop-drop, drop-map, take-map, drop-take, take-take, take_all, take-append-le, drop-append-le}
use lib.Seq.{take-add, drop-append-add}
use Rattle.block.specs.Bytes.{Bytes, Block, xor}
use Rattle.block.specs.Words.{word}
use Rattle.block.proofs.Xor.{block_xor}
use Rattle.block.proofs.Words.{word_end}
use Rattle.block.proofs.Parts.{bytes_append, bytes_take, bytes_drop, bytes_zeros}
use Rattle.mkv.specs.Steps.{round}
use Rattle.mkv.specs.Keys.{number_key, stirred, next_left, next_right, updates, start_left, start_right, schedule, Expands}
use Rattle.mkv.specs.StepsLemmas.{Inverse, block_round}

-- ---- blocks throughout

bytes_set : (xs : List ℕ) (i v : ℕ) → v < 256 → Bytes xs → Bytes (slice_set xs i v)
bytes_set [] i v h b = tt
bytes_set (x ∷ xs) zero v h b = (h, b.1)
bytes_set (x ∷ xs) (suc i) v h b = (b.0, bytes_set xs i v h b.1)

bytes_complement : (xs : List ℕ) → Bytes (map (λ x. 255 - x) xs)
bytes_complement [] = tt
bytes_complement (x ∷ xs) = (omega arith, bytes_complement xs)

block_append : (a b : ℕ) (x y : List ℕ) → Block a x → Block b y → Block (a + b) (x ++ y)
block_append a b x y hx hy =
    record { size = length-append x y ∙ ap₂ ◌+◌ hx.size hy.size; bytes = bytes_append x y hx.bytes hy.bytes }

block_number_key : (t n : ℕ) → n < 256 → Block (8 * t) (number_key t n)
unfolding number_key
block_number_key t n h = record {
  size = length-set (replicate (8 * t) 0) (4 * t - 1) n ∙ length-replicate (8 * t) 0;
  bytes = bytes_set (replicate (8 * t) 0) (4 * t - 1) n h (bytes_zeros (8 * t));
}

block_start_left : (t : ℕ) (key : List ℕ) → 4 * t ≤ length key → Bytes key → Block (4 * t) (start_left t key)
unfolding start_left
block_start_left t key low b = record { size = length-take-le (4 * t) key low; bytes = bytes_take (4 * t) key b }

block_start_right : (t : ℕ) (key : List ℕ) → 4 * t ≤ length key → length key ≤ 8 * t → Bytes key → Block (4 * t) (start_right t key)
unfolding start_right
block_start_right t key low high b =
    let given = drop (4 * t) key in
    let filled = map (λ x. 255 - x) (drop (length key - 4 * t) (take (4 * t) key)) in
    record {
      size = simp (length-append, length-map, length-drop, length-take) (omega arith);
      bytes = bytes_append given filled (bytes_drop (4 * t) key b) (bytes_complement (drop (length key - 4 * t) (take (4 * t) key)));
    }

module _ (t : ℕ) (m n : List (List ℕ)) (u : Inverse t m n) where
  block_stirred : (k : ℕ) (b : List ℕ) → k < 256 → Block (4 * t) b → Block (4 * t) (stirred t m k b)
  unfolding stirred
  block_stirred k b h hb =
      block_round t m n u (replicate (8 * t) 0) (round t m (number_key t k) b)
      record { size = length-replicate (8 * t) 0; bytes = bytes_zeros (8 * t) }
      (block_round t m n u (number_key t k) b (block_number_key t k h) hb)

  block_next_left : (i : ℕ) (right : List ℕ) → i < 100 → Block (4 * t) right → Block (4 * t) (next_left t m i right)
  unfolding next_left
  block_next_left i right h hr = block_stirred (2 * i) right (omega arith) hr

  block_next_right : (i : ℕ) (left right : List ℕ) → i < 100 → Block (4 * t) left → Block (4 * t) right → Block (4 * t) (next_right t m i left right)
  unfolding next_right
  block_next_right i left right h hl hr =
      block_xor (4 * t) (next_left t m i right) (stirred t m (2 * i - 1) left) (block_next_left i right h hr) (block_stirred (2 * i - 1) left (omega arith) hl)

  block_updates : (r i : ℕ) (left right : List ℕ) → i + r ≤ 100 → Block (4 * t) left → Block (4 * t) right → Block (r * (8 * t)) (updates t m r i left right)
  unfolding updates
  block_updates zero i left right h hl hr = record { size = sym (zero-mul (8 * t)); bytes = tt }
  block_updates (suc r) i left right h hl hr =
      let l = next_left t m i right in
      let k = next_right t m i left right in
      let bl = block_next_left i right (omega arith) hr in
      let bk = block_next_right i left right (omega arith) hl hr in
      let rest = block_updates r (i + 1) l k (omega arith) bl bk in
      let all = block_append (4 * t) (4 * t + r * (8 * t)) l (k ++ updates t m r (i + 1) l k) bl (block_append (4 * t) (r * (8 * t)) k (updates t m r (i + 1) l k) bk rest) in
      record { size = all.size ∙ omega (arith, suc-mul r (8 * t)); bytes = all.bytes }

  -- a key of four to eight words has a schedule of bytes, two blocks a round and one more
  pub block_schedule : (r : ℕ) (key : List ℕ) → r ≤ 90 → 4 * t ≤ length key → length key ≤ 8 * t → Bytes key → Block (r * (8 * t) + 4 * t) (schedule t m r key)
  unfolding schedule
  block_schedule r key h low high b =
      let left = block_start_left t key low b in
      let rest = block_updates r 1 (start_left t key) (start_right t key) (omega arith) left (block_start_right t key low high b) in
      let all = block_append (4 * t) (r * (8 * t)) (start_left t key) (updates t m r 1 (start_left t key) (start_right t key)) left rest in
      record { size = all.size ∙ omega arith; bytes = all.bytes }

-- ---- the blocks of a schedule

word_here : (w : ℕ) (a x : List ℕ) → length a ≡ w → word w 0 (a ++ x) ≡ a
unfolding word
word_here w a x e = ap (λ k. take w (drop k (a ++ x))) (zero-mul w) ∙ take_at a x w e

word_past : (w i j : ℕ) (a x : List ℕ) → length a ≡ w → i ≡ suc j → word w i (a ++ x) ≡ word w j x
unfolding word
word_past w i j a x e h =
    let k : i * w ≡ w + j * w = ap (λ c. c * w) h ∙ omega (arith, suc-mul j w) in
    ap (λ c. take w (drop c (a ++ x))) k ∙ ap (take w) (sym (drop-drop (j * w) w (a ++ x)) ∙ ap (drop (j * w)) (drop_at a x w e))

word_second : (w i : ℕ) (a b x : List ℕ) → length a ≡ w → length b ≡ w → i ≡ 1 → word w i (a ++ (b ++ x)) ≡ b
word_second w i a b x la lb h = word_past w i 0 a (b ++ x) la h ∙ word_here w b x lb

word_past_two : (w i j : ℕ) (a b x : List ℕ) → length a ≡ w → length b ≡ w → i ≡ 2 + j → word w i (a ++ (b ++ x)) ≡ word w j x
word_past_two w i j a b x la lb h = word_past w i (suc j) a (b ++ x) la (h ∙ omega arith) ∙ word_past w (suc j) j b x lb (omega arith)

next_left_is : (t : ℕ) (m : List (List ℕ)) (i : ℕ) (right : List ℕ) → next_left t m i right ≡ stirred t m (2 * i) right
unfolding next_left
next_left_is t m i right = refl

next_right_is : (t : ℕ) (m : List (List ℕ)) (i : ℕ) (left right : List ℕ) → next_right t m i left right ≡ xor (next_left t m i right) (stirred t m (2 * i - 1) left)
unfolding next_right
next_right_is t m i left right = refl

module _ (t : ℕ) (m n : List (List ℕ)) (u : Inverse t m n) where
  -- Left and Right, and then Left and Right after each of r updates
  abbrev states : ℕ → ℕ → List ℕ → List ℕ → List ℕ
  states r i left right = left ++ (right ++ updates t m r i left right)

  states_left : (r i j : ℕ) (left right : List ℕ) → j < r → i + r ≤ 100 → Block (4 * t) left → Block (4 * t) right
      → word (4 * t) (2 * j + 2) (states r i left right) ≡ stirred t m (2 * (i + j)) (word (4 * t) (2 * j + 1) (states r i left right))
  unfolding updates
  states_left zero i j left right h b hl hr = absurd (omega arith)
  states_left (suc r) i zero left right h b hl hr =
      let w = 4 * t in
      let l = next_left t m i right in
      let k = next_right t m i left right in
      let bl = block_next_left t m n u i right (omega arith) hr in
      let e : 2 * i ≡ 2 * (i + 0) = omega arith in
      word_past_two w (2 * 0 + 2) 0 left right (l ++ (k ++ updates t m r (i + 1) l k)) hl.size hr.size (omega arith)
      ∙ word_here w l (k ++ updates t m r (i + 1) l k) bl.size
      ∙ next_left_is t m i right
      ∙ ap₂ (stirred t m) e (sym (word_second w (2 * 0 + 1) left right (l ++ (k ++ updates t m r (i + 1) l k)) hl.size hr.size (omega arith)))
  states_left (suc r) i (suc j) left right h b hl hr =
      let w = 4 * t in
      let l = next_left t m i right in
      let k = next_right t m i left right in
      let bl = block_next_left t m n u i right (omega arith) hr in
      let bk = block_next_right t m n u i left right (omega arith) hl hr in
      let e : 2 * (i + 1 + j) ≡ 2 * (i + suc j) = omega arith in
      word_past_two w (2 * suc j + 2) (2 * j + 2) left right (states r (i + 1) l k) hl.size hr.size (omega arith)
      ∙ states_left r (i + 1) j l k (omega arith) (omega arith) bl bk
      ∙ ap₂ (stirred t m) e (sym (word_past_two w (2 * suc j + 1) (2 * j + 1) left right (states r (i + 1) l k) hl.size hr.size (omega arith)))

  states_right : (r i j : ℕ) (left right : List ℕ) → j < r → i + r ≤ 100 → Block (4 * t) left → Block (4 * t) right
      → word (4 * t) (2 * j + 3) (states r i left right)
      ≡ xor (word (4 * t) (2 * j + 2) (states r i left right)) (stirred t m (2 * (i + j) - 1) (word (4 * t) (2 * j) (states r i left right)))
  unfolding updates
  states_right zero i j left right h b hl hr = absurd (omega arith)
  states_right (suc r) i zero left right h b hl hr =
      let w = 4 * t in
      let l = next_left t m i right in
      let k = next_right t m i left right in
      let rest = updates t m r (i + 1) l k in
      let bl = block_next_left t m n u i right (omega arith) hr in
      let bk = block_next_right t m n u i left right (omega arith) hl hr in
      let e : 2 * i - 1 ≡ 2 * (i + 0) - 1 = omega arith in
      word_past_two w (2 * 0 + 3) 1 left right (l ++ (k ++ rest)) hl.size hr.size (omega arith)
      ∙ word_second w 1 l k rest bl.size bk.size (omega arith)
      ∙ next_right_is t m i left right
      ∙ ap₂ xor (sym (word_past_two w (2 * 0 + 2) 0 left right (l ++ (k ++ rest)) hl.size hr.size (omega arith) ∙ word_here w l (k ++ rest) bl.size))
      (ap₂ (stirred t m) e (sym (word_here w left (right ++ (l ++ (k ++ rest))) hl.size)))
  states_right (suc r) i (suc j) left right h b hl hr =
      let w = 4 * t in
      let l = next_left t m i right in
      let k = next_right t m i left right in
      let bl = block_next_left t m n u i right (omega arith) hr in
      let bk = block_next_right t m n u i left right (omega arith) hl hr in
      let e : 2 * (i + 1 + j) - 1 ≡ 2 * (i + suc j) - 1 = omega arith in
      word_past_two w (2 * suc j + 3) (2 * j + 3) left right (states r (i + 1) l k) hl.size hr.size (omega arith)
      ∙ states_right r (i + 1) j l k (omega arith) (omega arith) bl bk
      ∙ ap₂ xor (sym (word_past_two w (2 * suc j + 2) (2 * j + 2) left right (states r (i + 1) l k) hl.size hr.size (omega arith)))
      (ap₂ (stirred t m) e (sym (word_past_two w (2 * suc j) (2 * j) left right (states r (i + 1) l k) hl.size hr.size (omega arith))))

-- two blocks at once
module _ (t i : ℕ) (s : List ℕ) where
  twice_at : i * (8 * t) ≡ 2 * i * (4 * t)
  twice_at =
      let e : 8 * t ≡ 4 * t + 4 * t = omega arith in
      let d : i + i ≡ 2 * i = omega arith in
      ap (λ k. i * k) e ∙ mul-add i (4 * t) (4 * t) ∙ sym (add-mul i i (4 * t)) ∙ ap (λ k. k * (4 * t)) d

  two_blocks : word (8 * t) i s ≡ word (4 * t) (2 * i) s ++ word (4 * t) (2 * i + 1) s
  unfolding word
  two_blocks =
      let w = 4 * t in
      let e : 8 * t ≡ w + w = omega arith in
      let past : 2 * i * w + w ≡ (2 * i + 1) * w = omega (arith, add-mul (2 * i) 1 w, one-mul w) in
      ap₂ (λ a b. take a (drop b s)) e twice_at
      ∙ take-add w w (drop (2 * i * w) s)
      ∙ ap (λ l. take w (drop (2 * i * w) s) ++ take w l) (drop-drop w (2 * i * w) s ∙ ap (λ k. drop k s) past)

  last_block : length s ≡ 4 * t + i * (8 * t) → drop (i * (8 * t)) s ≡ word (4 * t) (2 * i) s
  unfolding word
  last_block e =
      let long : length (drop (i * (8 * t)) s) ≡ length s - i * (8 * t) = length-drop (i * (8 * t)) s in
      sym (take_all (4 * t) (drop (i * (8 * t)) s) (omega arith)) ∙ ap (λ k. take (4 * t) (drop k s)) twice_at

-- the words of Right_0
module _ (t n : ℕ) (key : List ℕ) (e : length key ≡ n * t) where
  word_given : (i : ℕ) → 4 + i < n → word t i (start_right t key) ≡ word t (4 + i) key
  unfolding word start_right
  word_given i h =
      let g = drop (4 * t) key in
      let f = map (λ x. 255 - x) (drop (length key - 4 * t) (take (4 * t) key)) in
      let a : (4 + i) * t ≡ 4 * t + i * t = add-mul 4 i t in
      let room : suc (4 + i) * t ≤ n * t = mul-le-mul_right t h in
      let fits : 4 * t + i * t + t ≤ length key = omega (arith, suc-mul (4 + i) t) in
      let lg : length g ≡ length key - 4 * t = length-drop (4 * t) key in
      let ld : length (drop (i * t) g) ≡ length g - i * t = length-drop (i * t) g in
      ap (take t) (drop-append-le (i * t) g f (omega arith))
      ∙ take-append-le t (drop (i * t) g) f (omega arith)
      ∙ ap (take t) (drop-drop (i * t) (4 * t) key)
      ∙ ap (λ k. take t (drop k key)) (sym a)

  word_filled : (i : ℕ) → 4 * t ≤ length key → i < 4 → n ≤ 4 + i → word t i (start_right t key) ≡ map (λ x. 255 - x) (word t i key)
  unfolding word start_right
  word_filled i low h k =
      let c : ℕ → ℕ = λ x. 255 - x in
      let g = drop (4 * t) key in
      let more = length key - 4 * t in
      let f = map c (drop more (take (4 * t) key)) in
      let a : (4 + i) * t ≡ 4 * t + i * t = add-mul 4 i t in
      let room : n * t ≤ (4 + i) * t = mul-le-mul_right t k in
      let end : i * t + t ≤ 4 * t = word_end i t h in
      let lg : length g ≡ more = length-drop (4 * t) key in
      let b = i * t - more in
      let at : i * t ≡ length g + b = omega arith in
      let at_more : more + b ≡ i * t = omega arith in
      let rest = 4 * t - i * t in
      let whole : 4 * t ≡ i * t + rest = omega arith in
      ap (λ d. take t (drop d (g ++ f))) at
      ∙ ap (take t) (drop-append-add g f b ∙ drop-map c b (drop more (take (4 * t) key)) ∙ ap (map c) (drop-drop b more (take (4 * t) key)))
      ∙ take-map c t (drop (more + b) (take (4 * t) key))
      ∙ ap₂ (λ d l. map c (take t (drop d (take l key)))) at_more whole
      ∙ ap (λ y. map c (take t y)) (drop-take (i * t) rest key)
      ∙ ap (map c) (take-take t rest (drop (i * t) key) (omega arith))

module _ (t : ℕ) (m n : List (List ℕ)) (u : Inverse t m n) (r : ℕ) (key : List ℕ) (few : r ≤ 90) (low : 4 * t ≤ length key) (high : length key ≤ 8 * t) (b : Bytes key) where
  left_0 : Block (4 * t) (start_left t key)
  left_0 = block_start_left t key low b

  right_0 : Block (4 * t) (start_right t key)
  right_0 = block_start_right t key low high b

  abbrev all_states : List ℕ
  all_states = states t m n u r 1 (start_left t key) (start_right t key)

  abbrev left_of : ℕ → List ℕ
  left_of i = word (4 * t) (2 * i) all_states

  abbrev right_of : ℕ → List ℕ
  right_of i = word (4 * t) (2 * i + 1) all_states

  right_begins : right_of 0 ≡ start_right t key
  right_begins = word_second (4 * t) (2 * 0 + 1) (start_left t key) (start_right t key) (updates t m r 1 (start_left t key) (start_right t key)) left_0.size right_0.size (omega arith)

  left_begins : left_of 0 ≡ take (4 * t) key
  unfolding start_left
  left_begins = word_here (4 * t) (start_left t key) (start_right t key ++ updates t m r 1 (start_left t key) (start_right t key)) left_0.size

  left_updated : (i : ℕ) → 1 ≤ i → i ≤ r → left_of i ≡ stirred t m (2 * i) (right_of (i - 1))
  left_updated i some within =
      let j = i - 1 in
      let e : 2 * i ≡ 2 * j + 2 = omega arith in
      let f : 2 * (1 + j) ≡ 2 * i = omega arith in
      ap (λ k. word (4 * t) k all_states) e
      ∙ states_left t m n u r 1 j (start_left t key) (start_right t key) (omega arith) (omega arith) left_0 right_0
      ∙ ap (λ k. stirred t m k (right_of j)) f

  right_updated : (i : ℕ) → 1 ≤ i → i ≤ r → right_of i ≡ xor (left_of i) (stirred t m (2 * i - 1) (left_of (i - 1)))
  right_updated i some within =
      let j = i - 1 in
      let e : 2 * i + 1 ≡ 2 * j + 3 = omega arith in
      let d : 2 * j + 2 ≡ 2 * i = omega arith in
      let f : 2 * (1 + j) - 1 ≡ 2 * i - 1 = omega arith in
      ap (λ k. word (4 * t) k all_states) e
      ∙ states_right t m n u r 1 j (start_left t key) (start_right t key) (omega arith) (omega arith) left_0 right_0
      ∙ ap₂ (λ k l. xor (word (4 * t) k all_states) (stirred t m l (left_of j))) d f

  whole : List ℕ
  whole = schedule t m r key

  size : length whole ≡ 4 * t + r * (8 * t)
  unfolding whole
  size = (block_schedule t m n u r key few low high b).size ∙ omega arith

  first : word (4 * t) 0 whole ≡ left_of 0
  unfolding whole schedule
  first =
      let l = start_left t key in
      let later = updates t m r 1 l (start_right t key) in
      word_here (4 * t) l later left_0.size ∙ sym (word_here (4 * t) l (start_right t key ++ later) left_0.size)

  next : (i : ℕ) → 1 ≤ i → i ≤ r → (word (4 * t) (2 * i - 1) whole ≡ left_of i) × (word (4 * t) (2 * i) whole ≡ right_of i)
  unfolding whole schedule
  next i some within =
      let w = 4 * t in
      let l = start_left t key in
      let later = updates t m r 1 l (start_right t key) in (
        word_past w (2 * i - 1) (2 * i - 2) l later left_0.size (omega arith)
            ∙ sym (word_past_two w (2 * i) (2 * i - 2) l (start_right t key) later left_0.size right_0.size (omega arith)),
        word_past w (2 * i) (2 * i - 1) l later left_0.size (omega arith)
            ∙ sym (word_past_two w (2 * i + 1) (2 * i - 1) l (start_right t key) later left_0.size right_0.size (omega arith)),
      )

  next_left_at : (i k : ℕ) → i < r → k ≡ 2 * i + 1 → word (4 * t) k whole ≡ left_of (i + 1)
  next_left_at i k within e =
      let f : k ≡ 2 * (i + 1) - 1 = omega arith in
      ap (λ k. word (4 * t) k whole) f ∙ (next (i + 1) (omega arith) (omega arith)).0

  pub expands : (k : ℕ) → length key ≡ k * t → Expands t m k r key (schedule t m r key)
  unfolding whole
  expands k e = record {
    left = left_of;
    right = right_of;
    begins = left_begins;
    four = ap length right_begins ∙ right_0.size;
    given = λ i h. ap (word t i) right_begins ∙ word_given t k key e i h;
    filled = λ i h g. ap (word t i) right_begins ∙ word_filled t k key e i low h g;
    lefts = left_updated;
    rights = right_updated;
    size = size;
    first = first;
    next = next;
    round_key_0 = λ some. two_blocks t 0 whole ∙ ap₂ ◌++◌ first (next_left_at 0 (2 * 0 + 1) (omega arith) (omega arith));
    round_key = λ i some within. two_blocks t i whole ∙ ap₂ ◌++◌ (next i some (omega arith)).1 (next_left_at i (2 * i + 1) within (omega arith));
    post_key = λ some. last_block t r whole size ∙ (next r some (omega arith)).1;
  }
