use Rattle.std.proofs.Common.{◌≡◌, length, refl, ap, arith, rules}
use Rattle.link.proofs.Clears.{one_more, rolled_on, begun_clear, limit_streams}
use Rattle.link.proofs.Link.stream_byte.Goals as goal

pub returns-then-self-clause-clear : goal.returns-then-self-clause-clear
returns-then-self-clause-clear g c =
    let l = c.args.self.now in
    let l₁ = c.begin_block.new.self in
    let long : length c.begin_block.new.self.held ≡ 32 = search rules in
    let w : c.begin_block.new.self.width ≡ c.args.self.now.width = ap (λ z. z.width) c.begin_block.ensures.rest in
    λ clear. one_more l₁ (begun_clear l l₁ c.begin_block.ensures.rest c.begin_block.ensures.beyond clear) l₁.chain refl c.coded_byte.result
    (omega (arith, long, w, c.requires.fits.thin, c.if-self.true))

pub returns-clause-clear : goal.returns-clause-clear
returns-clause-clear g c =
    let l = c.args.self.now in
    let l₁ = c.begin_block.new.self in
    let long : length c.begin_block.new.self.held ≡ 32 = search rules in
    let w : c.begin_block.new.self.width ≡ c.args.self.now.width = ap (λ z. z.width) c.begin_block.ensures.rest in
    let n : c.begin_block.new.self.count ≡ c.args.self.now.count = ap (λ z. z.count) c.begin_block.ensures.rest in
    let e = limit_streams l.mode l.direction l.width c.requires.streams in
    λ clear. rw c.roll.ensures
    (rolled_on l₁ (begun_clear l l₁ c.begin_block.ensures.rest c.begin_block.ensures.beyond clear) l₁.chain refl c.coded_byte.result
    (omega (arith, long, w, n, e, c.requires.fits.thin, c.requires.fits.begun))
    (omega (arith, w, n, e, c.requires.fits.begun, c.if-self.false)))
