use Rattle.std.proofs.Common.{refl}
use Rattle.block.specs.Bytes.{xor}
use Rattle.block.specs.Table.{sub}
use Rattle.block.specs.Words.{word, each_word}
use Rattle.field.specs.Byte.{sel, times_x, mul_digits, mul}
use Rattle.field.specs.Known.{m4, m4_inverse, m8, m8_inverse}
use Rattle.field.specs.Matrix.{dot, apply}
use Rattle.mkv.specs.Tables.{s, s_inverse}
use Rattle.mkv.specs.Steps.{sub_cells, sub_cells_back, mix_words, three, x_words, half_a, half_b, round, round_back}
use Rattle.mkv.specs.Cipher.{encipher, decipher}
use Rattle.mkv.specs.Keys.{number_key, stirred, next_left, next_right, updates, start_left, start_right, schedule}
use Rattle.field.specs.Known.{mix_columns as aes_matrix, mix_columns_inverse as aes_matrix_inverse}
use Rattle.aes.specs.Tables.{s_box, s_box_inverse}
use Rattle.aes.specs.Steps.{sub_bytes, inv_sub_bytes, moved, shift_rows, inv_shift_rows, mix_columns, inv_mix_columns, add_round_key}
use Rattle.aes.specs.Cipher.{round as aes_round, last_round, rounds as aes_rounds, encipher as aes_encipher, inv_round, inv_last_round, inv_rounds, decipher as aes_decipher}
use Rattle.aes.specs.Keys.{rot_word, sub_word, x_power, rcon, changed, next, longer, words, schedule as aes_schedule}
use Rattle.modes.specs.Join.{join, part}
use Rattle.modes.specs.Padding.{text_end}
use Rattle.layers.specs.Whitened.{need as white_need}
use Rattle.layers.specs.Cascaded.{need as two_need}
use Rattle.figures.specs.Figures.{worked, aes_worked, under_key, figures}
use Rattle.figures.proofs.figures_hold.Goals as goal

-- each row computes
pub returns : goal.returns
unfolding xor sub word each_word sel times_x mul_digits mul m4 m4_inverse m8 m8_inverse dot apply s s_inverse sub_cells sub_cells_back mix_words three x_words half_a half_b round round_back encipher decipher number_key stirred next_left next_right updates start_left start_right schedule worked aes_matrix aes_matrix_inverse s_box s_box_inverse sub_bytes inv_sub_bytes moved shift_rows inv_shift_rows mix_columns inv_mix_columns add_round_key aes_round last_round aes_rounds aes_encipher inv_round inv_last_round inv_rounds aes_decipher rot_word sub_word x_power rcon changed next longer words aes_schedule aes_worked under_key white_need two_need join part text_end figures
returns c = (refl, (refl, (refl, (refl, (refl, (refl, (refl, (refl, (refl, (refl, (refl, (refl, (refl, (refl, (refl, (refl, (refl, (refl, (refl, (refl, (refl, (refl, (refl, (refl, (refl, (refl, (refl, (refl, (refl, (refl, (refl, (refl, (refl, (refl, (refl, (refl, (refl, (refl, (refl, (refl, (refl, (refl, (refl, (refl, (refl, (refl, (refl, (refl, (refl, (refl, (refl, (refl, (refl, (refl, (refl, (refl, (refl, tt)))))))))))))))))))))))))))))))))))))))))))))))))))))))))
