-- What is written of a signal record, byte by byte. Assumes nothing.
-- Of std, `decimal n`: the digits of n; `digit_glyph true d`: the hexadecimal digit d, in capitals.
use Rattle.std.specs.Prelude.{ℕ, ◌/◌, ◌%◌, true, List, [], ◌∷◌, ◌++◌, codes, decimal}
use Rattle.std.specs.Fmt.{digit_glyph}
use Rattle.signal.specs.declared.record.SignalRecord.{SignalRecord}

-- the hexadecimal digit of n at a place of worth w
abbrev pub nibble : ℕ → ℕ → ℕ
nibble n w = digit_glyph true (n / w % 16)

-- a beacon's identity: eight of them
unfoldable pub hex : ℕ → List ℕ
hex n =
    nibble n 0x1000_0000 ∷ nibble n 0x100_0000 ∷ nibble n 0x10_0000 ∷ nibble n 0x1_0000
    ∷ nibble n 0x1000 ∷ nibble n 0x100 ∷ nibble n 0x10 ∷ digit_glyph true (n % 16) ∷ []

-- d decimetres, in metres with one decimal
abbrev pub metred : ℕ → List ℕ
metred d = decimal (d / 10) ++ (codes "." ++ decimal (d % 10))

-- a number below 100 in two digits
abbrev pub two : ℕ → List ℕ
two n = decimal (n / 10) ++ decimal (n % 10)

-- second s of the search, as h:mm:ss
abbrev pub clocked : ℕ → List ℕ
clocked s = decimal (s / 3600) ++ (codes ":" ++ (two (s / 60 % 60) ++ (codes ":" ++ two (s % 60))))

-- a whole record
abbrev pub recorded : SignalRecord → List ℕ
recorded r =
    hex r.beacon ++ (codes " at " ++ (metred r.distance ++ (codes " m, strength " ++ (decimal r.strength ++ (codes ", heard " ++ clocked r.second)))))
