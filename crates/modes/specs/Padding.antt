-- The padding of CBC: a byte 80 and zeros up to a whole block, always. Assumes nothing.
use Rattle.std.specs.Prelude.{◌≡◌, ℕ, suc, ◌-◌, ◌%◌, Bool, true, cond, ◌&&◌, List, [], ◌∷◌, ◌++◌, length, take, replicate, Some, None, Option, MatchOption, ◌==◌}

-- what follows a text in blocks of w bytes
abbrev pub padding : ℕ → List ℕ → List ℕ
padding w text = 0x80 ∷ replicate (w - 1 - length text % w) 0

-- the block is the text, a byte 80 and zeros: its last byte other than 00 is that 80
pub record Unpadded (block text : List ℕ) : Type 0 where
  pub zeros : ℕ
  pub is : block ≡ text ++ (0x80 ∷ replicate zeros 0)

-- no byte other than 00
abbrev pub all_zero : List ℕ → Bool
all_zero [] = true
all_zero (x ∷ xs) = x == 0 && all_zero xs

-- a place found further on, or else this one
abbrev pub or_here : Option ℕ → Bool → Option ℕ
or_here (Some i) here = Some (suc i)
or_here None here = cond here (Some 0) None

-- the place of the last byte other than 00, if that byte is 80
unfoldable pub text_end : List ℕ → Option ℕ
text_end [] = None
text_end (x ∷ xs) = or_here (text_end xs) (x == 0x80 && all_zero xs)

-- what text_end says of every block
abbrev pub TextEnd : Option ℕ → List ℕ → Type 0
TextEnd r block = MatchOption r ((text : List ℕ) → Unpadded block text → ⊥) (λ i. Unpadded block (take i block))

-- a block whose first n bytes are text, the others overwritten by padding
abbrev pub padded_from : ℕ → List ℕ → List ℕ
padded_from n block = take (length block) (take n block ++ (0x80 ∷ replicate (length block - 1 - n) 0))
