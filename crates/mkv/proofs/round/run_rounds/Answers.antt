use Rattle.std.proofs.Common.{◌∙◌, arith}
use Rattle.mkv.proofs.Rounds.{ahead_more, ahead_none}
use Rattle.mkv.proofs.round.run_rounds.Goals as goal

pub loop-key-preserved : goal.loop-key-preserved
loop-key-preserved g c =
    let h = c.in-Some.ensures.steps in
    let k = c.loop-key.invariant in
    let more = ahead_more g.row.T c.args.m.now.rows c.split_at.result.1.now c.loop-key.key-iterator.rest.now c.loop-key.block _ c.in-Some.key.now c.next.new.self.rest.now (omega arith) h.1.0 (h.1.1 ∙ k.0) k.1 in
    (h.0 ∙ k.0, rw c.round.ensures more)

pub returns : goal.returns
returns g c =
    let h = c.in-None.ensures.steps in
    c.xor_whole.ensures
    ∙ ahead_none g.row.T c.args.m.now.rows c.split_at.result.1.now c.loop-key.key-iterator.rest.now c.loop-key.block _ (omega (arith, c.loop-key.invariant.0, h.1)) c.loop-key.invariant.1
