-- Figures as people write them: which texts are one, and what each says. Assumes nothing.
-- Of std, `IsNumeral base ds`: one digit or more, and nothing else; `digits_value base ds`: the number that they write.
use Rattle.std.specs.Prelude.{◌≡◌, ℕ, ◌+◌, ◌-◌, ◌*◌, ◌^◌, ◌<◌, ◌≤◌, List, length, take, drop, slice_index_or}
use Rattle.std.specs.Str.Parse.{IsNumeral, digits_value}

-- a figure has at most 15 digits
abbrev pub Figure : ℕ → List ℕ → Type 0
Figure base ds = IsNumeral base ds × (length ds ≤ 15)

-- ---- a distance: metres, a point, one decimal

-- the text before the last two bytes, and the last byte
abbrev pub whole : List ℕ → List ℕ
whole bs = take (length bs - 2) bs

abbrev pub tenth : List ℕ → List ℕ
tenth bs = take 1 (drop (length bs - 1) bs)

-- the decimetres that it says
abbrev pub decimetres : List ℕ → ℕ
decimetres bs = digits_value 10 (whole bs) * 10 + digits_value 10 (tenth bs)

-- a text that is a distance, which 16 bits hold
pub record DistanceText (bs : List ℕ) : Type 0 where
  pub long : 3 ≤ length bs
  pub point : slice_index_or bs (length bs - 2) 0 ≡ 46
  pub metres : Figure 10 (whole bs)
  pub decimal : Figure 10 (tenth bs)
  pub fits : decimetres bs < 2 ^ 16

-- ---- a time: hours, and two digits each for minutes and seconds, with colons between

-- the text before the last six bytes, and the two pairs of digits
abbrev pub hours : List ℕ → List ℕ
hours bs = take (length bs - 6) bs

abbrev pub minutes : List ℕ → List ℕ
minutes bs = take 2 (drop (length bs - 5) bs)

abbrev pub last_two : List ℕ → List ℕ
last_two bs = take 2 (drop (length bs - 2) bs)

-- the seconds that it says
abbrev pub seconds : List ℕ → ℕ
seconds bs = digits_value 10 (hours bs) * 3600 + digits_value 10 (minutes bs) * 60 + digits_value 10 (last_two bs)

-- a text that is a time, whose seconds 32 bits hold
pub record TimeText (bs : List ℕ) : Type 0 where
  pub long : 7 ≤ length bs
  pub first_colon : slice_index_or bs (length bs - 6) 0 ≡ 58
  pub second_colon : slice_index_or bs (length bs - 3) 0 ≡ 58
  pub hour_figure : Figure 10 (hours bs)
  pub minute_figure : Figure 10 (minutes bs)
  pub second_figure : Figure 10 (last_two bs)
  pub within_hour : digits_value 10 (minutes bs) < 60
  pub within_minute : digits_value 10 (last_two bs) < 60
  pub fits : seconds bs < 2 ^ 32
