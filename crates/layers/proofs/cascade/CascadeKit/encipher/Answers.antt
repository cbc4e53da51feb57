use Rattle.std.proofs.Common.{◌≡◌, ℕ, ◌-◌, get_or, take, drop, sym, refl, ◌∙◌, w8, Fits, rules}
use Rattle.block.proofs.Parts.{bytes_from}
use Rattle.kit.proofs.Calls.{sized_by, enciphered_fits}
use Rattle.layers.specs.Cascaded.{bytes_of, enc, cascaded}
use Rattle.layers.specs.AnswersLemmas.{none_due}
use Rattle.layers.specs.CascadesLemmas.{fits_first, fits_second, first_enc, passes, leaves}
use Rattle.layers.proofs.cascade.CascadeKit.encipher.Goals as goal

pub returns-in_err-encipher : goal.returns-in_err-encipher
returns-in_err-encipher g c =
    let self = c.args.self.now in
    let p = self.split in
    let m = g.A.Kit.meaning self.first in
    let n = g.B.Kit.meaning self.second in
    let sm = g.met.A.Kit.sound self.first in
    let sn = g.met.B.Kit.sound self.second in
    let same : n.width ≡ m.width = g.met.B.Kit.width self.second ∙ sym (g.met.A.Kit.width self.first) in
    let len = c.args.len in
    let s = c.args.schedule.now in
    let x = c.args.block.now in
    let parts = c.in_ok-parts.parts in
    let ensured = c.in_ok-parts.ensures in
    let fit : (i : ℕ) → Fits w8 (get_or c.args.block.now i 0) = λ i. search rules in
    let h = sized_by (cascaded p m n) len s x (bytes_from s (λ i. (c.type_inv.schedule i).fits)) (bytes_from x (λ i. (fit i).fits)) (sym ensured.outcome) in
    let front = take (bytes_of (m.need p)) s in
    let rest = drop (bytes_of (m.need p)) s in
    absurd (none_due c.in_err-encipher.ensures.outcome (passes m m.enc p front x (fits_first p m n sm sn same len s x h x h.block) p parts.first.now x refl ensured.parts.front refl))

pub returns : goal.returns
unfolding enc
returns g c =
    let self = c.args.self.now in
    let p = self.split in
    let m = g.A.Kit.meaning self.first in
    let n = g.B.Kit.meaning self.second in
    let sm = g.met.A.Kit.sound self.first in
    let sn = g.met.B.Kit.sound self.second in
    let same : n.width ≡ m.width = g.met.B.Kit.width self.second ∙ sym (g.met.A.Kit.width self.first) in
    let len = c.args.len in
    let s = c.args.schedule.now in
    let x = c.args.block.now in
    let parts = c.in_ok-parts.parts in
    let ensured = c.in_ok-parts.ensures in
    let fit : (i : ℕ) → Fits w8 (get_or c.args.block.now i 0) = λ i. search rules in
    let h = sized_by (cascaded p m n) len s x (bytes_from s (λ i. (c.type_inv.schedule i).fits)) (bytes_from x (λ i. (fit i).fits)) (sym ensured.outcome) in
    let front = take (bytes_of (m.need p)) s in
    let rest = drop (bytes_of (m.need p)) s in
    let y = m.enc p front x in
    let hy = first_enc p m n sm sn same len s x h x h.block in
    let ey = leaves m m.enc p front x (fits_first p m n sm sn same len s x h x h.block) p parts.first.now x refl ensured.parts.front refl c.encipher.new.block c.encipher.ensures.written in
    record {
      outcome = c.encipher-2.ensures.outcome ∙ passes n n.enc (len - p) rest y (fits_second p m n sm sn same len s x h y hy) parts.rest parts.second.now c.encipher.new.block ensured.parts.rest ensured.parts.back ey ∙ ensured.outcome;
      written =
          leaves n n.enc (len - p) rest y (fits_second p m n sm sn same len s x h y hy) parts.rest parts.second.now c.encipher.new.block ensured.parts.rest ensured.parts.back ey c.encipher-2.new.block c.encipher-2.ensures.written
          ∙ sym (enciphered_fits (cascaded p m n) len s x h);
    }
