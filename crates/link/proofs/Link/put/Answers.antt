use Rattle.std.proofs.Common.{◌≤◌, length, refl, arith, rules}
use Rattle.block.proofs.Parts.{bytes_from}
use Rattle.link.proofs.Puts.{put_short}
use Rattle.link.proofs.Link.put.Goals as goal

pub returns-then-out-due_count-clause-puts : goal.returns-then-out-due_count-clause-puts
returns-then-out-due_count-clause-puts g c =
    let m = g.K.Kit.meaning c.args.kit.now in
    let s = c.args.schedule.now in
    let piece = c.args.piece.now in
    let short : length c.args.piece.now ≤ 4096 = search rules in
    let gives = c.due_count.ensures.gives m s piece (g.met.K.Kit.sound c.args.kit.now) (bytes_from s (λ i. (c.type_inv.schedule i).fits)) (bytes_from piece (λ i. (c.type_inv.piece i).fits)) refl in
    put_short m s c.args.self.now piece c.args.out.now short (omega (arith, c.if-out-due_count.true))

pub feed-requires : goal.feed-requires
feed-requires g c =
    let s = c.args.schedule.now in
    let piece = c.args.piece.now in
    let gives = c.due_count.ensures.gives (g.K.Kit.meaning c.args.kit.now) s piece (g.met.K.Kit.sound c.args.kit.now) (bytes_from s (λ i. (c.type_inv.schedule i).fits)) (bytes_from piece (λ i. (c.type_inv.piece i).fits)) refl in
    record { fits = c.requires; room = omega (arith, c.if-out-due_count.false) }
