-- The pad of a CFB or OFB link, over the arrays of its record. Assumes nothing.
use Rattle.std.proofs.Common.{◌≡◌, ℕ, zero, suc, ◌<◌, List, [], ◌∷◌, length, take, refl, arith}
use Rattle.modes.specs.Modes.{Cipher}
use Rattle.modes.specs.Machine.{pad}

-- a block that has begun keeps its pad
pub pad_later : (k : Cipher) (v held : List ℕ) (count : ℕ) → 0 < count → 0 < length held → v ≡ pad k v (take count held)
pad_later k v held zero p q = absurd (omega arith)
pad_later k v [] (suc n) p q = absurd (omega arith)
pad_later k v (x ∷ held) (suc n) p q = refl
