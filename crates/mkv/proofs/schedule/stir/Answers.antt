use Rattle.std.proofs.Common.{ap, ◌∙◌, ap₂, arith}
use Rattle.mkv.specs.Steps.{round}
use Rattle.mkv.specs.Keys.{stirred}
use Rattle.mkv.proofs.KeyCode.{zeros_is, number_is}
use Rattle.mkv.proofs.schedule.stir.Goals as goal

pub returns : goal.returns
unfolding stirred
returns g c =
    let t = g.row.T in
    let m = c.args.m.now.rows in
    c.round-2.ensures
    ∙ ap₂ (round t m) (c.as_flattened-2.ensures.value ∙ zeros_is t)
    (c.round.ensures ∙ ap (λ k. round t m k c.args.block.now) (c.as_flattened.ensures.value ∙ number_is t c.args.n (omega arith)))
