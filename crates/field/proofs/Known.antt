-- The matrices of the two ciphers undo one another: computed. Assumes nothing.
use Rattle.std.proofs.Common.{refl}
use Rattle.block.specs.Bytes.{xor}
use Rattle.field.specs.Byte.{sel, times_x, mul_digits, mul}
use Rattle.field.specs.Matrix.{combine, times, identity, Undoes}
use Rattle.field.specs.Known.{mkv_poly, aes_poly, m4, m4_inverse, m8, m8_inverse, mix_columns, mix_columns_inverse, Known}
use Rattle.field.proofs.Matrices.{undoes_by}

pub m4_left : Undoes mkv_poly 4 m4_inverse m4
unfolding sel times_x mul_digits mul xor combine times identity m4 m4_inverse
m4_left = undoes_by mkv_poly 4 m4_inverse m4 tt tt tt refl

pub m4_right : Undoes mkv_poly 4 m4 m4_inverse
unfolding sel times_x mul_digits mul xor combine times identity m4 m4_inverse
m4_right = undoes_by mkv_poly 4 m4 m4_inverse tt tt tt refl

pub m8_left : Undoes mkv_poly 8 m8_inverse m8
unfolding sel times_x mul_digits mul xor combine times identity m8 m8_inverse
m8_left = undoes_by mkv_poly 8 m8_inverse m8 tt tt tt refl

pub m8_right : Undoes mkv_poly 8 m8 m8_inverse
unfolding sel times_x mul_digits mul xor combine times identity m8 m8_inverse
m8_right = undoes_by mkv_poly 8 m8 m8_inverse tt tt tt refl

pub mix_columns_left : Undoes aes_poly 4 mix_columns_inverse mix_columns
unfolding sel times_x mul_digits mul xor combine times identity mix_columns mix_columns_inverse
mix_columns_left = undoes_by aes_poly 4 mix_columns_inverse mix_columns tt tt tt refl

pub mix_columns_right : Undoes aes_poly 4 mix_columns mix_columns_inverse
unfolding sel times_x mul_digits mul xor combine times identity mix_columns mix_columns_inverse
mix_columns_right = undoes_by aes_poly 4 mix_columns mix_columns_inverse tt tt tt refl

pub known : Known
known = record { m4_left = m4_left; m4_right = m4_right; m8_left = m8_left; m8_right = m8_right; mix_columns_left = mix_columns_left; mix_columns_right = mix_columns_right }
