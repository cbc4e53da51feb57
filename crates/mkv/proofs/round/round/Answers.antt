use Rattle.mkv.specs.Tables.{s}
use Rattle.mkv.specs.Steps.{sub_cells, half_a, half_b, round}
use Rattle.mkv.proofs.round.round.Goals as goal

pub returns : goal.returns
unfolding round half_a half_b sub_cells s
returns g c =
    rw (c.x_words.ensures, c.substitute-2.ensures, c.xor_whole-2.ensures, c.split_at.ensures.back, c.mix_words.ensures, c.substitute.ensures, c.xor_whole.ensures, c.split_at.ensures.front)
