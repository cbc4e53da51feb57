use Rattle.std.proofs.Common.{take}
use Rattle.link.specs.Record.{Clear}
use Rattle.link.specs.Calls.{Fed}
use Rattle.link.proofs.Link.feed.Given as goal

-- the bytes so far are taken, and what was clear is clear
abbrev pub invariant-loop-x : goal.invariant-loop-x
invariant-loop-x g l = Fed (g.K.Kit.meaning l.kit) l.schedule l.initial.self (take l.x-index l.piece) l.initial.out l.at l.self l.out × (Clear l.initial.self → Clear l.self)
