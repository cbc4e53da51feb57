use Rattle.std.proofs.Common.{◌-◌, ◌*◌, ap, ◌∙◌, ap₂, rules}
use Rattle.std.proofs.lemmas.List.{take_at, drop_at}
use Rattle.block.specs.Bytes.{xor}
use Rattle.block.proofs.Xor.{commutes}
use Rattle.mkv.specs.Keys.{stirred, next_left, next_right}
use Rattle.mkv.proofs.schedule.update.Goals as goal

pub returns-clause-left : goal.returns-clause-left
unfolding next_left
returns-clause-left g c =
    let s = c.swap_with_slice.new in
    take_at s.self s.other (4 * g.row.T) (search rules) ∙ c.swap_with_slice.ensures.after ∙ c.stir-2.ensures ∙ ap (stirred g.row.T c.args.m.now.rows (2 * c.args.i)) c.split_at_mut-left.ensures.back

pub returns-clause-right : goal.returns-clause-right
unfolding next_left next_right
returns-clause-right g c =
    let s = c.swap_with_slice.new in
    let n = g.row.T in
    let m = c.args.m.now.rows in
    let i = c.args.i in
    let parts = c.split_at_mut-left.ensures in
    drop_at s.self s.other (4 * n) (search rules)
    ∙ c.swap_with_slice.ensures.other_after
    ∙ c.xor_whole.ensures
    ∙ ap₂ xor (c.stir.ensures ∙ ap (stirred n m (2 * i - 1)) parts.front) (c.stir-2.ensures ∙ ap (stirred n m (2 * i)) parts.back)
    ∙ commutes _ _
