use Rattle.std.proofs.Common.{◌≡◌, ◌++◌, take}
use Rattle.std.specs.Int.{w16, to_be_bytes}
use Rattle.std.specs.List.{flat_map}
use Rattle.signal.specs.Coded.{coded}
use Rattle.patrol.proofs.report.written.Given as goal

abbrev pub invariant-loop-record : goal.invariant-loop-record
invariant-loop-record l = l.text.items ≡ to_be_bytes w16 l.count ++ flat_map coded (take l.record-index l.records)
