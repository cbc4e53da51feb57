use Rattle.std.proofs.Common.{◌≡◌, ◌+◌, ◌-◌, ◌/◌, ◌%◌, sym, refl, ap, ◌∙◌, ap₂, arith}
use lib.Bits.{bit_xor, xor_assoc, xor_zero_r}
use Rattle.field.specs.Byte.{sel, times_x, mul_digits, mul}
use Rattle.field.proofs.Laws.{mul_more, mul_none}
use Rattle.field.proofs.mul.Goals as goal
use Rattle.field.proofs.mul.Goals.{then-rest-eq1, else-rest-eq1}

pub loop-i-init : goal.loop-i-init
unfolding mul
loop-i-init c = refl

pub loop-i-preserved : goal.loop-i-preserved
unfolding sel
loop-i-preserved c =
    let p = c.args.poly in
    let l = c.loop-i in
    let m = mul_digits (8 - (l._i + 1)) p (times_x p l.power) (l.rest / 2) in
    let added : c.if-rest-eq1.sum ≡ bit_xor l.sum (sel (l.rest % 2) l.power) =
    elim c.if-rest-eq1.branch [
      | then-rest-eq1 w ↦ w.sum-is ∙ ap (λ d. bit_xor l.sum (sel d l.power)) (sym w.if-rest-eq1.true)
      | else-rest-eq1 w ↦
          let even : l.rest % 2 ≡ 0 = omega arith in
          w.sum-is ∙ sym (xor_zero_r l.sum) ∙ ap (λ d. bit_xor l.sum (sel d l.power)) (sym even)
    ] in
    ap₂ bit_xor added (ap (λ x. mul_digits (8 - (l._i + 1)) p x (l.rest / 2)) c.times_x-power.ensures)
    ∙ xor_assoc l.sum (sel (l.rest % 2) l.power) m
    ∙ ap (bit_xor l.sum) (sym (mul_more l._i p l.power l.rest (omega arith)))
    ∙ l.invariant

pub returns : goal.returns
returns c =
    let e : 8 - c.loop-i._i ≡ 0 = omega arith in
    sym (ap (bit_xor c.loop-i.sum) (ap (λ n. mul_digits n c.args.poly c.loop-i.power c.loop-i.rest) e ∙ mul_none c.args.poly c.loop-i.power c.loop-i.rest) ∙ xor_zero_r c.loop-i.sum)
    ∙ c.loop-i.invariant
