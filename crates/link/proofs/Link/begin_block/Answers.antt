use Rattle.std.proofs.Common.{take, arith, rules}
use Rattle.link.specs.Record.{instrument}
use Rattle.link.proofs.Streams.{pad_later}
use Rattle.link.proofs.Link.begin_block.Goals as goal

pub returns-else-self-eq0-clause-pad : goal.returns-else-self-eq0-clause-pad
returns-else-self-eq0-clause-pad g c =
    let l = c.args.self.now in
    pad_later (instrument (g.K.Kit.meaning c.args.kit.now) c.args.schedule.now l) (take l.width l.chain) l.held l.count (omega arith) (search rules)
