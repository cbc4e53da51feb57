use Rattle.std.proofs.Common.{◌≡◌, ◌++◌, length, take, sym, ap, ap₂, ◌∙◌, rules}
use Rattle.std.specs.Int.{w16, to_be_bytes}
use Rattle.std.specs.List.{flat_map}
use Rattle.std.proofs.lemmas.List.{take_more, flat_map_more}
use Rattle.signal.specs.Coded.{coded}
use Rattle.patrol.proofs.report.written.Goals as goal

pub loop-record-preserved : goal.loop-record-preserved
loop-record-preserved c =
    let xs = c.as_slice-records.result.now in
    let i = c.loop-record.record-index in
    let count = to_be_bytes w16 (length xs) in
    let added : c.extend_from_slice.new.self.items ≡ c.loop-record.text.items ++ c.to_bytes.result = search rules in
    added ∙ ap₂ (λ a b. a ++ b) c.loop-record.invariant c.to_bytes.ensures.is ∙ flat_map_more coded count (take i xs) _ ∙ ap (λ ys. count ++ flat_map coded ys) (sym (take_more xs i _ c.loop-record-test.true))
