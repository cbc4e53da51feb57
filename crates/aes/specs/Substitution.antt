-- The tables of SubBytes follow their rule: one test over the whole table each. Assumes nothing.
use Rattle.std.specs.Prelude.{◌≡◌, ℕ, zero, suc, ◌<◌, Bool, T, ◌==◌, slice_index, refl}
use Rattle.std.proofs.Common.{arith, eqb→eq}
use Rattle.block.proofs.Test.{below, at}
use Rattle.block.proofs.Tables.{reverse_test, reverses_by}
use Rattle.field.specs.Byte.{sel, times_x, mul_digits, mul}
use Rattle.field.specs.Known.{aes_poly}
use Rattle.aes.specs.Tables.{s_box, s_box_inverse, squares, inverse, rotated, affine, Tables}

inverse_test : ℕ → Bool
inverse_test x = mul aes_poly (suc x) (inverse (suc x)) == 1

inverse_passes : T (below inverse_test 255)
unfolding inverse_test inverse squares sel times_x mul_digits mul
inverse_passes = tt

inverts : (x : ℕ) → 0 < x → x < 256 → mul aes_poly x (inverse x) ≡ 1
unfolding inverse_test
inverts zero h l = absurd (omega arith)
inverts (suc x) h l = eqb→eq (mul aes_poly (suc x) (inverse (suc x))) 1 (at inverse_test 255 inverse_passes x (omega arith))

zero_stays : inverse 0 ≡ 0
unfolding inverse squares sel times_x mul_digits mul
zero_stays = refl

rule_test : ℕ → Bool
rule_test x = slice_index s_box x == affine (inverse x)

rule_passes : T (below rule_test 256)
unfolding rule_test s_box affine rotated inverse squares sel times_x mul_digits mul
rule_passes = tt

rule : (x : ℕ) → x < 256 → slice_index s_box x ≡ affine (inverse x)
unfolding rule_test
rule x h = eqb→eq (slice_index s_box x) (affine (inverse x)) (at rule_test 256 rule_passes x h)

back_test : T (below (reverse_test s_box s_box_inverse) 256)
unfolding reverse_test s_box s_box_inverse
back_test = tt

forth_test : T (below (reverse_test s_box_inverse s_box) 256)
unfolding reverse_test s_box s_box_inverse
forth_test = tt

pub tables : Tables
tables = record {
  inverts = inverts;
  zero_stays = zero_stays;
  rule = rule;
  back = reverses_by s_box s_box_inverse back_test;
  forth = reverses_by s_box_inverse s_box forth_test;
}
