-- A signal record as 11 bytes. Assumes nothing.
-- Of std, `to_be_bytes w n`: the bytes of n, the most significant first; `from_be_bytes w bs`: the number whose bytes they are.
use Rattle.std.specs.Prelude.{ℕ, List, ◌∷◌, ◌++◌, take, drop, slice_index_or}
use Rattle.std.specs.Int.{w16, w32, to_be_bytes, from_be_bytes}
use Rattle.signal.specs.declared.record.SignalRecord.{SignalRecord}

-- the bytes of a record: 4 of its beacon, 2 of its distance, 1 of its strength, 4 of its second
abbrev pub coded : SignalRecord → List ℕ
coded r = to_be_bytes w32 r.beacon ++ (to_be_bytes w16 r.distance ++ (r.strength ∷ to_be_bytes w32 r.second))

-- the record that so many bytes are
abbrev pub decoded : List ℕ → SignalRecord
decoded bs = record {
  beacon = from_be_bytes w32 (take 4 bs);
  distance = from_be_bytes w16 (take 2 (drop 4 bs));
  strength = slice_index_or bs 6 0;
  second = from_be_bytes w32 (drop 7 bs);
}
