-- A line of the season's file. Assumes nothing.
-- Of signal, `hex`: eight hexadecimal digits; `metred`: metres with one decimal. Of std, `decimal`: the digits of a number.
use Rattle.std.specs.Prelude.{ℕ, List, [], ◌∷◌, ◌++◌, decimal}
use Rattle.signal.specs.Words.{hex, metred}
use Rattle.signal.specs.declared.record.SignalRecord.{SignalRecord}

-- what stands between two columns
abbrev pub tab : List ℕ
tab = 9 ∷ []

-- search, set, beacon, metres, strength and second, with tabs between and the line's end behind
abbrev pub line : (title name : List ℕ) → SignalRecord → List ℕ
line title name r =
    title ++ (tab ++ (name ++ (tab ++ (hex r.beacon ++ (tab ++ (metred r.distance ++ (tab ++ (decimal r.strength ++ (tab ++ (decimal r.second ++ (10 ∷ [])))))))))))
