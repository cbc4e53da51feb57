use Rattle.std.proofs.Common.{◌≡◌, ◌+◌, ◌-◌, length, arith}
use Rattle.std.proofs.lemmas.List.{take_rest}
use Rattle.link.proofs.Feeds.{fed_more, room, at_within}
use Rattle.link.proofs.Link.feed.Goals as goal

pub take-at-requires : goal.take-at-requires
take-at-requires g c =
    record {
      fits = c.loop-x.invariant.0.fits;
      room = room (g.K.Kit.meaning c.args.kit.now) c.args.schedule.now c.args.self.now c.args.piece.now c.args.out.now c.loop-x.x-index c.loop-x.at c.loop-x.self c.loop-x.out
          c.loop-x.invariant.0 c.loop-x-test.true c.requires.room c.loop-x.auto.out _ (take_rest c.loop-x.out c.loop-x.at);
    }

pub loop-x-preserved : goal.loop-x-preserved
loop-x-preserved g c =
    let low = at_within (g.K.Kit.meaning c.args.kit.now) c.args.schedule.now c.args.self.now c.args.piece.now c.args.out.now c.loop-x.x-index c.loop-x.at c.loop-x.self c.loop-x.out
    c.loop-x.invariant.0 c.requires.room c.loop-x.auto.out in
    let long : c.loop-x.at + (length c.loop-x.out - c.loop-x.at) ≡ length c.loop-x.out = omega arith in (
      fed_more (g.K.Kit.meaning c.args.kit.now) c.args.schedule.now c.args.self.now c.args.piece.now c.args.out.now c.loop-x.x-index c.loop-x.at c.loop-x.self c.loop-x.out
          c.loop-x.invariant.0 c.loop-x-test.true c.take-at.result _ c.take-at.new.self _ c.take-at.new.out (take_rest c.loop-x.out c.loop-x.at) long c.take-at.ensures.took,
      λ clear. c.take-at.ensures.clear (c.loop-x.invariant.1 clear),
    )
