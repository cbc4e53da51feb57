use Rattle.std.proofs.Common.{◌≡◌, ◌-◌}
use lib.Bits.{bit_xor}
use Rattle.field.specs.Byte.{mul_digits, mul}
use Rattle.field.proofs.mul.Given as goal

abbrev pub invariant-loop-i : goal.invariant-loop-i
invariant-loop-i l = bit_xor l.sum (mul_digits (8 - l._i) l.poly l.power l.rest) ≡ mul l.poly l.a l.b
