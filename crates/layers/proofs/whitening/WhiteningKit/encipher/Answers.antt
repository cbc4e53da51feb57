use Rattle.std.proofs.Common.{ℕ, get_or, sym, ◌∙◌, w8, Fits, rules}
use Rattle.block.proofs.Parts.{bytes_from}
use Rattle.kit.proofs.Calls.{sized_by, enciphered_fits}
use Rattle.layers.specs.Whitened.{block_a, block_b, enc, whitened}
use Rattle.layers.specs.AnswersLemmas.{none_due}
use Rattle.layers.specs.WhitensLemmas.{fits_below, whole_a, whole_b, passes, comes_out}
use Rattle.layers.proofs.whitening.WhiteningKit.encipher.Goals as goal

pub returns-in_err-encipher : goal.returns-in_err-encipher
returns-in_err-encipher g c =
    let k = c.args.self.now.inner in
    let m = g.K.Kit.meaning k in
    let sound = g.met.K.Kit.sound k in
    let len = c.args.len in
    let s = c.args.schedule.now in
    let x = c.args.block.now in
    let p = c.in_ok-parts.parts in
    let ensured = c.in_ok-parts.ensures in
    let fit : (i : ℕ) → Fits w8 (get_or c.args.block.now i 0) = λ i. search rules in
    let h = sized_by (whitened m) len s x (bytes_from s (λ i. (c.type_inv.schedule i).fits)) (bytes_from x (λ i. (fit i).fits)) (sym ensured.outcome) in
    let none = passes m sound len s x h m.enc (λ y hy. sound.enciphers _ _ y (fits_below m sound len s x h y hy)) (block_a m.width s) (block_b m.width s) (whole_a m sound len s x h) (whole_b m sound len s x h)
    p.rest p.inner.now p.a.now c.xor_whole.new.block ensured.parts.rest ensured.parts.inner ensured.parts.a c.xor_whole.ensures in
    absurd (none_due c.in_err-encipher.ensures.outcome none)

pub returns-clause-written : goal.returns-clause-written
unfolding enc
returns-clause-written g c =
    let k = c.args.self.now.inner in
    let m = g.K.Kit.meaning k in
    let sound = g.met.K.Kit.sound k in
    let len = c.args.len in
    let s = c.args.schedule.now in
    let x = c.args.block.now in
    let p = c.in_ok-parts.parts in
    let ensured = c.in_ok-parts.ensures in
    let fit : (i : ℕ) → Fits w8 (get_or c.args.block.now i 0) = λ i. search rules in
    let h = sized_by (whitened m) len s x (bytes_from s (λ i. (c.type_inv.schedule i).fits)) (bytes_from x (λ i. (fit i).fits)) (sym ensured.outcome) in
    let out = comes_out m sound len s x h m.enc (λ y hy. sound.enciphers _ _ y (fits_below m sound len s x h y hy)) (block_a m.width s) (block_b m.width s) (whole_a m sound len s x h) (whole_b m sound len s x h)
    p.rest p.inner.now p.a.now c.xor_whole.new.block ensured.parts.rest ensured.parts.inner ensured.parts.a c.xor_whole.ensures
    p.b.now c.encipher.new.block c.xor_whole-2.new.block ensured.parts.b c.encipher.ensures.written c.xor_whole-2.ensures in
    out ∙ sym (enciphered_fits (whitened m) len s x h)
