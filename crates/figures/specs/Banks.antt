-- A bank of 41 cells and its links, of which the worked figures speak. Assumes nothing.
use Rattle.std.specs.Prelude.{ℕ, ◌-◌, List, [], ◌∷◌, length, replicate, Some, Ok, Option}
use Rattle.mkv.specs.Versions.{mkv_128}
use Rattle.refusal.specs.declared.Refusal.{Refusal}
use Rattle.refusal.specs.Checks.{first}
use Rattle.bank.specs.Books.{Running}
use Rattle.bank.specs.Calls.{Ask, open_checks, fresh, fed_link, given_link, last_bytes, end_tail}
use Rattle.bank.specs.Past.{Event, opens, strikes, cells_now, links_now}

-- what an open of a bank over 41 cells is shown: CBC, a key of so many bytes
abbrev pub ask : (direction bytes : ℕ) → Ask
ask direction bytes = record { scratch = 1536; memory = 41; mode = 1; direction = direction; key = replicate bytes 7; start = replicate 16 0 }

-- A past over MKV-128: links of 13, 15 and 13 cells are opened, the first and the third are struck, and then another of 15
-- cells is opened. The newest call stands first.
abbrev pub three_open : List Event
three_open = opens (ask 0 16) (Ok 2) ∷ opens (ask 0 24) (Ok 1) ∷ opens (ask 0 16) (Ok 0) ∷ []

abbrev pub two_struck : List Event
two_struck = strikes 2 ∷ strikes 0 ∷ three_open

abbrev pub one_more : List Event
one_more = opens (ask 0 24) (Ok 0) ∷ two_struck

-- the cells that such a past leaves free, and the refusal of an open after it, if it is refused
abbrev pub left : List Event → ℕ
left past = 41 - cells_now mkv_128 past

abbrev pub answer : List Event → Ask → Option Refusal
answer past a = first (open_checks mkv_128 41 (links_now past) (left past) a)

-- a CBC link over MKV-128 that has taken n bytes, sending (0) or receiving (1)
abbrev pub bytes : ℕ → List ℕ
bytes n = replicate n 0x2A

abbrev pub linked : (direction n : ℕ) → Running
linked direction n = fed_link mkv_128 (fresh mkv_128 (ask direction 16)) (bytes n)

-- how many bytes it gives for more, how many at its end, and the refusal of its end, if it is refused
abbrev pub gives : Running → ℕ → ℕ
gives l more = length (given_link mkv_128 l (bytes more))

abbrev pub end_gives : Running → ℕ
end_gives l = length (last_bytes mkv_128 l)

abbrev pub end_answer : Running → Option Refusal
end_answer l = first (end_tail mkv_128 (record { scratch = 1536; memory = 41; out = 32 }) (Some l))
