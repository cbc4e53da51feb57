-- A report as it goes over a link. Assumes nothing.
-- Of std, `to_be_bytes w n`: the bytes of n, the most significant first; `first_chunks n k xs`: the first k pieces of n items each.
use Rattle.std.specs.Prelude.{◌≡◌, ℕ, ◌+◌, ◌*◌, ◌≤◌, List, ◌++◌, length, take, drop}
use Rattle.std.specs.Int.{w16, to_be_bytes, from_be_bytes}
use Rattle.std.specs.List.{flat_map}
use Rattle.std.specs.Simd.{first_chunks}
use Rattle.signal.specs.Coded.{coded}
use Rattle.signal.specs.declared.record.SignalRecord.{SignalRecord}

-- two bytes of the count, the most significant first, and then each record's bytes, in order
abbrev pub report_bytes : List SignalRecord → List ℕ
report_bytes records = to_be_bytes w16 (length records) ++ flat_map coded records

-- how many records the report at a text's front says it has, and its bytes
abbrev pub told_count : List ℕ → ℕ
told_count text = from_be_bytes w16 (take 2 text)

abbrev pub told_bytes : List ℕ → ℕ
told_bytes text = 2 + 11 * told_count text

-- a text with a whole report at its front: the bytes of its records, 11 each, and what comes after
pub record Begins (text : List ℕ) (records : List (List ℕ)) (rest : List ℕ) : Type 0 where
  pub whole : told_bytes text ≤ length text
  pub pieces : records ≡ first_chunks 11 (told_count text) (drop 2 text)
  pub behind : rest ≡ drop (told_bytes text) text
