use Rattle.std.proofs.Common.{◌≡◌, ◌-◌, length, take, sym, ap, ◌∙◌, ap₂, arith, rules}
use Rattle.std.proofs.lemmas.List.{length-take-le}
use Rattle.block.proofs.Parts.{bytes_from}
use Rattle.modes.specs.Machine.{end_count}
use Rattle.modes.specs.declared.Direction.TheVariants.{Send}
use Rattle.link.specs.Record.{view, instrument}
use Rattle.link.specs.Calls.{overwritten}
use Rattle.link.proofs.Lengths.{closing_count}
use Rattle.link.proofs.Closings.{end_short, end_given, ragged_as, bare_as, send_closing}
use Rattle.link.proofs.Link.send_end.Goals as goal

pub returns-then-out-self : goal.returns-then-out-self
returns-then-out-self g c =
    let m = g.K.Kit.meaning c.args.kit.now in
    let s = c.args.schedule.now in
    let l = c.args.self.now in
    let chain_long : length c.args.self.now.chain ≡ 32 = search rules in
    let long : length c.args.self.now.held ≡ 32 = search rules in
    let count = closing_count m s l c.requires.fits
    record { chain = record { size = chain_long; bytes = c.are_bytes.ensures }; held = record { size = long; bytes = c.are_bytes-2.ensures } }
    (g.met.K.Kit.sound c.args.kit.now) (bytes_from s (λ i. (c.type_inv.schedule i).fits))
    ∙ ap₂ (λ y z. end_count y z (instrument m s l) (view l)) c.requires.cbc c.requires.sends in
    end_short m s l c.args.out.now (ragged_as m s l c.requires.fits c.requires.cbc long Send c.requires.sends) (bare_as m s l c.requires.fits c.requires.cbc long Send c.requires.sends)
    l.width count c.if-out-self.true

pub returns : goal.returns
returns g c =
    let m = g.K.Kit.meaning c.args.kit.now in
    let s = c.args.schedule.now in
    let l = c.args.self.now in
    let long : length c.args.self.now.held ≡ 32 = search rules in
    let whole : length c.seal-block.result ≡ 32 = search rules in
    let z : c.args.self.now.width - 0 ≡ c.args.self.now.width = omega arith in
    let e = send_closing m s l c.requires.fits c.requires.cbc long c.requires.sends c.pad_from.new.block _ c.seal-block.result c.pad_from.ensures c.seal-block.ensures.block in
    end_given m s l c.args.out.now (ragged_as m s l c.requires.fits c.requires.cbc long Send c.requires.sends) (bare_as m s l c.requires.fits c.requires.cbc long Send c.requires.sends)
    l.width (ap length e ∙ length-take-le l.width c.seal-block.result (omega (arith, whole, c.requires.fits.thin))) c.if-out-self.false
    c.write_front.new.out (c.write_front.ensures ∙ ap (λ n. overwritten c.args.out.now (take n c.seal-block.result)) z ∙ ap (overwritten c.args.out.now) (sym e))
