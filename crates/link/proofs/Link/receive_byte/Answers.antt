use Rattle.std.proofs.Common.{◌≡◌, length, refl, arith, rules}
use Rattle.modes.specs.declared.Mode.TheVariants.{Cbc}
use Rattle.modes.specs.declared.Direction.TheVariants.{Receive}
use Rattle.link.proofs.Steps.{limit_as, receive_full}
use Rattle.link.proofs.Clears.{one_more, opened_after}
use Rattle.link.proofs.Link.receive_byte.Goals as goal

pub returns-clause-took : goal.returns-clause-took
returns-clause-took g c =
    let long : length c.args.self.now.held ≡ 32 = search rules in
    let whole : length c.unseal-text.result ≡ 32 = search rules in
    receive_full (g.K.Kit.meaning c.args.kit.now) c.args.schedule.now c.args.self.now c.args.x c.args.out.now
    c.requires.fits c.requires.cbc long c.requires.receives c.unseal-text.result c.if-self.false c.unseal-text.ensures
    c.write_front.new.out whole c.write_front.ensures

pub returns-then-self-clause-clear : goal.returns-then-self-clause-clear
returns-then-self-clause-clear g c =
    let l = c.args.self.now in
    let long : length c.args.self.now.held ≡ 32 = search rules in
    λ clear. one_more l clear l.chain refl c.args.x (omega (arith, long, c.requires.fits.thin, c.if-self.true))

pub returns-clause-clear : goal.returns-clause-clear
returns-clause-clear g c =
    let l = c.args.self.now in
    let e = limit_as l Cbc Receive c.requires.cbc c.requires.receives in
    λ clear. opened_after l c.args.x clear (omega (arith, e, c.requires.fits.begun, c.if-self.false))
