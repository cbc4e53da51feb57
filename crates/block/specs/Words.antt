-- A block cut in words of t bytes. Assumes nothing.
use Rattle.std.specs.Prelude.{ℕ, zero, suc, ◌*◌, List, ◌++◌, take, drop}

-- word i, counted from 0
unfoldable pub word : ℕ → ℕ → List ℕ → List ℕ
word t i b = take t (drop (i * t) b)

-- f applied to each of the first n words
unfoldable pub each_word : ℕ → ℕ → (List ℕ → List ℕ) → List ℕ → List ℕ
each_word zero t f b = b
each_word (suc n) t f b = f (take t b) ++ each_word n t f (drop t b)
