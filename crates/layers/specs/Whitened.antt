-- Whitening over a kit: two blocks a and b of key, XORed to what goes in and to what comes out. Assumes nothing.
use Rattle.std.specs.Prelude.{◌≡◌, ℕ, ◌+◌, ◌-◌, ◌*◌, ◌/◌, ◌<◌, ◌≤◌, cond, ◌⊎◌, List, ◌++◌, length, take, drop, Ok, Err, Result, nat_lt}
use Rattle.refusal.specs.declared.KeyFault.{KeyFault}
use Rattle.block.specs.Bytes.{xor}
use Rattle.kit.specs.Meaning.{Meaning}
use Rattle.refusal.specs.Faults.{here}
use Rattle.layers.specs.Depth.{deeper, risen, both}

-- the bytes of a and b together, and the cells that they fill
abbrev pub white : Meaning → ℕ
white m = 2 * m.width

abbrev pub white_cells : Meaning → ℕ
white_cells m = white m / 16

-- a key and a schedule end with a and b: what stands before them, and the two blocks
unfoldable pub inner : ℕ → List ℕ → List ℕ
inner w k = take (length k - 2 * w) k

unfoldable pub block_a : ℕ → List ℕ → List ℕ
block_a w k = take w (drop (length k - 2 * w) k)

unfoldable pub block_b : ℕ → List ℕ → List ℕ
block_b w k = drop w (drop (length k - 2 * w) k)

-- a schedule s in its parts, and the key length for the kit below
pub record Parted (w len : ℕ) (s : List ℕ) (l : ℕ) (i x y : List ℕ) : Type 0 where
  pub rest : l ≡ len - 2 * w
  pub a : x ≡ block_a w s
  pub b : y ≡ block_b w s
  pub inner : i ≡ inner w s

-- the cells below and those of a and b, where the key is long enough for both
unfoldable pub need : Meaning → ℕ → Result ℕ KeyFault
need m len = cond (nat_lt len (white m)) (Err (here len)) (both len (risen (m.need (len - white m))) (Ok (white_cells m)))

-- the schedule below, then a, then b
unfoldable pub schedule : Meaning → List ℕ → List ℕ
schedule m key = m.schedule (inner m.width key) ++ drop (length key - white m) key

-- E'(x) = E(x + a) + b, and D'(y) = D(y + b) + a
unfoldable pub enc : Meaning → ℕ → List ℕ → List ℕ → List ℕ
enc m len s x = xor (m.enc (len - white m) (inner m.width s) (xor x (block_a m.width s))) (block_b m.width s)

unfoldable pub dec : Meaning → ℕ → List ℕ → List ℕ → List ℕ
dec m len s y = xor (m.dec (len - white m) (inner m.width s) (xor y (block_b m.width s))) (block_a m.width s)

-- the whitened kit over m
abbrev pub whitened : Meaning → Meaning
whitened m = record { width = m.width; need = need m; schedule = schedule m; enc = enc m; dec = dec m }

-- `above` whitens `below`: its keys are those below with two blocks a and b after them, and
-- its encipherment of x under a schedule that ends with a and b is the one below of x + a under the rest, and then + b.
pub record Whitens (below above : Meaning) : Type 0 where
  pub width : above.width ≡ below.width
  -- a key too short for a and b is refused here, and any other as the shorter key is below, one deeper
  pub short : (len : ℕ) → len < white below → above.need len ≡ Err (here len)
  pub rises : (len : ℕ) (fault : KeyFault) → below.need len ≡ Err fault → above.need (len + white below) ≡ Err (deeper fault)
  -- an accepted one needs the cells of a and b more, and is refused here where the sum is above 96 cells or 256 bytes
  pub accepts : (len n : ℕ) → below.need len ≡ Ok n → n + white_cells below ≤ 96 → len + white below ≤ 256
      → above.need (len + white below) ≡ Ok (n + white_cells below)
  pub exceeds : (len n : ℕ) → below.need len ≡ Ok n → (96 < n + white_cells below) ⊎ (256 < len + white below)
      → above.need (len + white below) ≡ Err (here (len + white below))
  -- the schedule of the key k, a, b
  pub schedules : (k a b : List ℕ) → length a ≡ below.width → length b ≡ below.width
      → above.schedule (k ++ (a ++ b)) ≡ below.schedule k ++ (a ++ b)
  -- E and D under every schedule s, a, b, whether a key gives it or not; len is the key length below
  pub enciphers : (len : ℕ) (s a b x : List ℕ) → length a ≡ below.width → length b ≡ below.width
      → above.enc (len + white below) (s ++ (a ++ b)) x ≡ xor (below.enc len s (xor x a)) b
  pub deciphers : (len : ℕ) (s a b y : List ℕ) → length a ≡ below.width → length b ≡ below.width
      → above.dec (len + white below) (s ++ (a ++ b)) y ≡ xor (below.dec len s (xor y b)) a
