use Rattle.std.proofs.Common.{◌*◌, ◌/◌, length, ◌∙◌, arith}
use Rattle.mkv.proofs.Rounds.{behind_more, behind_all}
use Rattle.mkv.proofs.round.undo_rounds.Goals as goal

pub loop-key-init : goal.loop-key-init
loop-key-init g c =
    let is = c.into_iter-key-iterator.ensures.into_iter_gives in
    let chunks = c.rchunks_exact-key-items.ensures in
    let items = c.rchunks_exact-key-items.result in
    let keys = c.args.keys.now in
    let all = behind_all g.row.T c.args.m.now.rows (length keys / (8 * g.row.T)) keys c.split_at.result.0.now c.split_at.result.1.now items.rem.now items.rest.now c.args.block.now
    c.requires.schedule c.split_at.ensures.front c.split_at.ensures.back chunks.parts chunks.remainder_len in
    (rw is chunks.size, rw (is, c.xor_whole.ensures) all)

pub loop-key-preserved : goal.loop-key-preserved
loop-key-preserved g c =
    let h = c.in-Some.ensures.steps in
    let k = c.loop-key.invariant in
    let more = behind_more g.row.T c.args.m.now.rows c.loop-key.key-iterator.rest.now c.loop-key.block _ c.in-Some.key.now c.next.new.self.rest.now (omega arith) h.2.0 (h.2.1 ∙ k.0) k.1 in
    (h.0 ∙ k.0, rw c.undo_round.ensures more)
