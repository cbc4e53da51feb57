use Rattle.std.proofs.Common.{◌≡◌, ℕ, ◌-◌, get_or, take, drop, sym, refl, ◌∙◌, w8, Fits, rules}
use Rattle.block.proofs.Parts.{bytes_from}
use Rattle.kit.proofs.Calls.{sized_by, deciphered_fits}
use Rattle.layers.specs.Cascaded.{bytes_of, dec, cascaded}
use Rattle.layers.specs.AnswersLemmas.{none_due}
use Rattle.layers.specs.CascadesLemmas.{fits_first, fits_second, second_dec, passes, leaves}
use Rattle.layers.proofs.cascade.CascadeKit.decipher.Goals as goal

pub returns-in_err-decipher : goal.returns-in_err-decipher
returns-in_err-decipher g c =
    let self = c.args.self.now in
    let p = self.split in
    let m = g.A.Kit.meaning self.first in
    let n = g.B.Kit.meaning self.second in
    let sm = g.met.A.Kit.sound self.first in
    let sn = g.met.B.Kit.sound self.second in
    let same : n.width ≡ m.width = g.met.B.Kit.width self.second ∙ sym (g.met.A.Kit.width self.first) in
    let len = c.args.len in
    let s = c.args.schedule.now in
    let x = c.args.block.now in
    let parts = c.in_ok-parts.parts in
    let ensured = c.in_ok-parts.ensures in
    let fit : (i : ℕ) → Fits w8 (get_or c.args.block.now i 0) = λ i. search rules in
    let h = sized_by (cascaded p m n) len s x (bytes_from s (λ i. (c.type_inv.schedule i).fits)) (bytes_from x (λ i. (fit i).fits)) (sym ensured.outcome) in
    let front = take (bytes_of (m.need p)) s in
    let rest = drop (bytes_of (m.need p)) s in
    absurd (none_due c.in_err-decipher.ensures.outcome (passes n n.dec (len - p) rest x (fits_second p m n sm sn same len s x h x h.block) parts.rest parts.second.now x ensured.parts.rest ensured.parts.back refl))

pub returns : goal.returns
unfolding dec
returns g c =
    let self = c.args.self.now in
    let p = self.split in
    let m = g.A.Kit.meaning self.first in
    let n = g.B.Kit.meaning self.second in
    let sm = g.met.A.Kit.sound self.first in
    let sn = g.met.B.Kit.sound self.second in
    let same : n.width ≡ m.width = g.met.B.Kit.width self.second ∙ sym (g.met.A.Kit.width self.first) in
    let len = c.args.len in
    let s = c.args.schedule.now in
    let x = c.args.block.now in
    let parts = c.in_ok-parts.parts in
    let ensured = c.in_ok-parts.ensures in
    let fit : (i : ℕ) → Fits w8 (get_or c.args.block.now i 0) = λ i. search rules in
    let h = sized_by (cascaded p m n) len s x (bytes_from s (λ i. (c.type_inv.schedule i).fits)) (bytes_from x (λ i. (fit i).fits)) (sym ensured.outcome) in
    let front = take (bytes_of (m.need p)) s in
    let rest = drop (bytes_of (m.need p)) s in
    let y = n.dec (len - p) rest x in
    let hy = second_dec p m n sm sn same len s x h x h.block in
    let ey = leaves n n.dec (len - p) rest x (fits_second p m n sm sn same len s x h x h.block) parts.rest parts.second.now x ensured.parts.rest ensured.parts.back refl c.decipher.new.block c.decipher.ensures.written in
    record {
      outcome = c.decipher-2.ensures.outcome ∙ passes m m.dec p front y (fits_first p m n sm sn same len s x h y hy) p parts.first.now c.decipher.new.block refl ensured.parts.front ey ∙ ensured.outcome;
      written =
          leaves m m.dec p front y (fits_first p m n sm sn same len s x h y hy) p parts.first.now c.decipher.new.block refl ensured.parts.front ey c.decipher-2.new.block c.decipher-2.ensures.written
          ∙ sym (deciphered_fits (cascaded p m n) len s x h);
    }
