use Rattle.std.proofs.Common.{◌∙◌, rules, tests}
use Rattle.std.proofs.lemmas.Iterator.{YieldsList-from_slice, YieldsList-from_zip}
use Rattle.std.proofs.lemmas.Iterator.Consumers.{fold_from_yields_List}
use lib.Bits.{xor_zero_l}
use Rattle.field.specs.Matrix.{dot as inner}
use Rattle.field.proofs.Rows.{added, fold_dot}
use Rattle.field.proofs.dot.Goals as goal

pub returns : goal.returns
returns c =
    let p = c.args.poly in
    let row = c.args.row.now in
    let v = c.args.v.now in
    fold_from_yields_List _ (added p) 0 c.fold.result c.fold.ensures.ran (YieldsList-from_zip (YieldsList-from_slice row cc) (YieldsList-from_slice v cc)) (λ a x b q h. search (rules, tests))
    ∙ (fold_dot p 0 row v ∙ xor_zero_l (inner p row v))
