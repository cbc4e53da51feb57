use Rattle.mkv.specs.Tables.{s_inverse}
use Rattle.mkv.specs.Steps.{sub_cells_back, half_a, half_b, round_back}
use Rattle.mkv.proofs.round.undo_round.Goals as goal

pub returns : goal.returns
unfolding round_back half_a half_b sub_cells_back s_inverse
returns g c =
    rw (c.xor_whole-2.ensures, c.split_at.ensures.front, c.substitute-2.ensures, c.mix_words.ensures, c.xor_whole.ensures, c.split_at.ensures.back, c.substitute.ensures, c.x_words.ensures)
