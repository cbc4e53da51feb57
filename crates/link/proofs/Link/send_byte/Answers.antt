use Rattle.std.proofs.Common.{◌≡◌, length, refl, arith, rules}
use Rattle.modes.specs.declared.Mode.TheVariants.{Cbc}
use Rattle.modes.specs.declared.Direction.TheVariants.{Send}
use Rattle.link.proofs.Steps.{limit_as}
use Rattle.link.proofs.Clears.{one_more, sealed}
use Rattle.link.proofs.Link.send_byte.Goals as goal

pub returns-then-self-clause-clear : goal.returns-then-self-clause-clear
returns-then-self-clause-clear g c =
    let l = c.args.self.now in
    let long : length l.held ≡ 32 = search rules in
    let e = limit_as l Cbc Send c.requires.cbc c.requires.sends in
    λ clear. one_more l clear l.chain refl c.args.x (omega (arith, long, e, c.requires.fits.begun, c.requires.fits.thin))

pub returns-clause-clear : goal.returns-clause-clear
returns-clause-clear g c =
    let l = c.args.self.now in
    let long : length l.held ≡ 32 = search rules in
    let e = limit_as l Cbc Send c.requires.cbc c.requires.sends in
    λ clear. sealed l clear l.chain refl c.args.x (omega (arith, long, e, c.requires.fits.begun, c.requires.fits.thin))
    (omega (arith, e, c.requires.fits.begun, c.if-self.false)) c.seal-block.result c.seal-block.ensures.beyond
