-- MKV's key schedule. The key state is two blocks, Left and Right. Assumes nothing.
use Rattle.std.specs.Prelude.{◌≡◌, ℕ, zero, suc, ◌+◌, ◌-◌, ◌*◌, ◌<◌, ◌≤◌, List, [], ◌++◌, map, length, take, drop, replicate, slice_set}
use Rattle.block.specs.Bytes.{xor}
use Rattle.block.specs.Words.{word}
use Rattle.mkv.specs.Steps.{round}

-- the round key (n, 0): zeros, but for n in the last byte of A
unfoldable pub number_key : ℕ → ℕ → List ℕ
number_key t n = slice_set (replicate (8 * t) 0) (4 * t - 1) n

-- F with key (0, 0) of F with key (n, 0)
unfoldable pub stirred : ℕ → List (List ℕ) → ℕ → List ℕ → List ℕ
stirred t m n b = round t m (replicate (8 * t) 0) (round t m (number_key t n) b)

-- update i: Left_i comes of Right_(i-1) and the number 2i
unfoldable pub next_left : ℕ → List (List ℕ) → ℕ → List ℕ → List ℕ
next_left t m i right = stirred t m (2 * i) right

-- Right_i comes of Left_i and of Left_(i-1) and the number 2i - 1
unfoldable pub next_right : ℕ → List (List ℕ) → ℕ → List ℕ → List ℕ → List ℕ
next_right t m i left right = xor (next_left t m i right) (stirred t m (2 * i - 1) left)

-- Left and Right after each of r updates, from update i on
unfoldable pub updates : ℕ → List (List ℕ) → ℕ → ℕ → List ℕ → List ℕ → List ℕ
updates t m zero i left right = []
updates t m (suc r) i left right =
    next_left t m i right ++ (next_right t m i left right ++ updates t m r (i + 1) (next_left t m i right) (next_right t m i left right))

-- Left_0: the key's first four words
unfoldable pub start_left : ℕ → List ℕ → List ℕ
start_left t key = take (4 * t) key

-- Right_0: the key's other words; then, as many as are missing, the complements of the last of words 0 to 3
unfoldable pub start_right : ℕ → List ℕ → List ℕ
start_right t key = drop (4 * t) key ++ map (λ x. 255 - x) (drop (length key - 4 * t) (take (4 * t) key))

-- the schedule of r rounds: Left_0, then Left_i and Right_i for each update i.
-- So round key 0 is (Left_0, Left_1), round key i is (Right_i, Left_(i+1)), and the post key is Right_r.
unfoldable pub schedule : ℕ → List (List ℕ) → ℕ → List ℕ → List ℕ
schedule t m r key = start_left t key ++ updates t m r 1 (start_left t key) (start_right t key)

-- the rule of a schedule s of r updates, for a key of n words: it is made of the blocks Left_i and Right_i, i from 0 to r, but for Right_0
pub record Expands (t : ℕ) (m : List (List ℕ)) (n r : ℕ) (key s : List ℕ) : Type 0 where
  pub left : ℕ → List ℕ
  pub right : ℕ → List ℕ
  -- Left_0 is the key's first four words; Right_0 is a block too, whose word i is the key's word 4 + i or, where the key has none, the
  -- complement of its word i
  pub begins : left 0 ≡ take (4 * t) key
  pub four : length (right 0) ≡ 4 * t
  pub given : (i : ℕ) → 4 + i < n → word t i (right 0) ≡ word t (4 + i) key
  pub filled : (i : ℕ) → i < 4 → n ≤ 4 + i → word t i (right 0) ≡ map (λ x. 255 - x) (word t i key)
  -- update i
  pub lefts : (i : ℕ) → 1 ≤ i → i ≤ r → left i ≡ stirred t m (2 * i) (right (i - 1))
  pub rights : (i : ℕ) → 1 ≤ i → i ≤ r → right i ≡ xor (left i) (stirred t m (2 * i - 1) (left (i - 1)))
  -- the schedule is Left_0, and then two blocks for each update i: Left_i and Right_i
  pub size : length s ≡ 4 * t + r * (8 * t)
  pub first : word (4 * t) 0 s ≡ left 0
  pub next : (i : ℕ) → 1 ≤ i → i ≤ r → (word (4 * t) (2 * i - 1) s ≡ left i) × (word (4 * t) (2 * i) s ≡ right i)
  -- so these are the round keys and the post key
  pub round_key_0 : 1 ≤ r → word (8 * t) 0 s ≡ left 0 ++ left 1
  pub round_key : (i : ℕ) → 1 ≤ i → i < r → word (8 * t) i s ≡ right i ++ left (i + 1)
  pub post_key : 1 ≤ r → drop (r * (8 * t)) s ≡ right r
