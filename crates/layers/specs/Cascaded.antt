-- A cascade of two kits: the first p bytes of a key for the first, the rest for the second. Assumes nothing.
use Rattle.std.specs.Prelude.{◌≡◌, ℕ, ◌+◌, ◌-◌, ◌*◌, ◌<◌, ◌≤◌, cond, ◌⊎◌, List, ◌++◌, length, take, drop, Ok, Err, Result, ◌≢◌, nat_lt}
use Rattle.refusal.specs.declared.KeyFault.{KeyFault}
use Rattle.kit.specs.Meaning.{Meaning}
use Rattle.refusal.specs.Faults.{here}
use Rattle.layers.specs.Depth.{deeper, risen, both}

-- the cells of both; the first is always asked for p, whatever the key's length is
unfoldable pub need : ℕ → Meaning → Meaning → ℕ → Result ℕ KeyFault
need p m n len = cond (nat_lt len p) (Err (here len)) (both len (risen (m.need p)) (risen (n.need (len - p))))

-- the bytes of the first's schedule, with which a joined schedule begins
abbrev pub bytes_of : Result ℕ KeyFault → ℕ
bytes_of (Ok cells) = 16 * cells
bytes_of (Err fault) = 0

-- a joined schedule s in its parts, and the key length for the second
pub record Parted (p : ℕ) (m : Meaning) (len : ℕ) (s : List ℕ) (l : ℕ) (x y : List ℕ) : Type 0 where
  pub rest : l ≡ len - p
  pub front : x ≡ take (bytes_of (m.need p)) s
  pub back : y ≡ drop (bytes_of (m.need p)) s

-- the first's schedule, then the second's
unfoldable pub schedule : ℕ → Meaning → Meaning → List ℕ → List ℕ
schedule p m n key = m.schedule (take p key) ++ n.schedule (drop p key)

-- the second's E after the first's, and D the other way round
unfoldable pub enc : ℕ → Meaning → Meaning → ℕ → List ℕ → List ℕ → List ℕ
enc p m n len s x = n.enc (len - p) (drop (bytes_of (m.need p)) s) (m.enc p (take (bytes_of (m.need p)) s) x)

unfoldable pub dec : ℕ → Meaning → Meaning → ℕ → List ℕ → List ℕ → List ℕ
dec p m n len s y = m.dec p (take (bytes_of (m.need p)) s) (n.dec (len - p) (drop (bytes_of (m.need p)) s) y)

-- the cascade of m and n
abbrev pub cascaded : ℕ → Meaning → Meaning → Meaning
cascaded p m n = record { width = m.width; need = need p m n; schedule = schedule p m n; enc = enc p m n; dec = dec p m n }

-- `above` is a cascade of `first` and `second`: a key of it is a key of p bytes of the first, and then one of the second;
-- its encipherment under a schedule of both is the second's, under the second part, of the first's, under the first.
pub record Cascades (p : ℕ) (first second above : Meaning) : Type 0 where
  pub widths : (above.width ≡ first.width) × (above.width ≡ second.width)
  -- a key under p bytes is refused here; then the first is asked for p, and then the second for the rest, one deeper
  pub short : (len : ℕ) → len < p → above.need len ≡ Err (here len)
  pub first_rises : (len : ℕ) (fault : KeyFault) → first.need p ≡ Err fault → above.need (p + len) ≡ Err (deeper fault)
  pub second_rises : (len m : ℕ) (fault : KeyFault) → first.need p ≡ Ok m → second.need len ≡ Err fault → above.need (p + len) ≡ Err (deeper fault)
  -- where both accept, the cells are summed, and refused here where the sum is above 96 cells or 256 bytes
  pub accepts : (len m n : ℕ) → first.need p ≡ Ok m → second.need len ≡ Ok n → m + n ≤ 96 → p + len ≤ 256 → above.need (p + len) ≡ Ok (m + n)
  pub exceeds : (len m n : ℕ) → first.need p ≡ Ok m → second.need len ≡ Ok n → (96 < m + n) ⊎ (256 < p + len) → above.need (p + len) ≡ Err (here (p + len))
  -- no key is accepted where none has p bytes for the first
  pub never : (p ≡ 0) ⊎ (256 < p) → (len n : ℕ) → above.need len ≢ Ok n
  -- the schedule of a key j of the first, followed by a key k of the second
  pub schedules : (j k : List ℕ) → length j ≡ p → above.schedule (j ++ k) ≡ first.schedule j ++ second.schedule k
  -- E and D under every schedule s of the first, followed by any t, whether a key gives them or not; len is the second's key length
  pub enciphers : (len c : ℕ) (s t x : List ℕ) → first.need p ≡ Ok c → length s ≡ 16 * c
      → above.enc (p + len) (s ++ t) x ≡ second.enc len t (first.enc p s x)
  pub deciphers : (len c : ℕ) (s t y : List ℕ) → first.need p ≡ Ok c → length s ≡ 16 * c
      → above.dec (p + len) (s ++ t) y ≡ first.dec p s (second.dec len t y)
