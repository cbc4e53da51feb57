-- Substitution of bytes by a table of 256. Assumes nothing.
use Rattle.std.specs.Prelude.{◌≡◌, ℕ, ◌<◌, List, map, slice_index}

-- each byte replaced by the one that stands at its number in the table
unfoldable pub sub : List ℕ → List ℕ → List ℕ
sub table b = map (λ x. slice_index table x) b

-- the table f gives bytes, and the table g leads each back to where it came from
pub record Reverses (f g : List ℕ) : Type 0 where
  pub low : (x : ℕ) → x < 256 → slice_index f x < 256
  pub back : (x : ℕ) → x < 256 → slice_index g (slice_index f x) ≡ x
