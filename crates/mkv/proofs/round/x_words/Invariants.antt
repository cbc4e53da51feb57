use Rattle.std.proofs.Common.{◌≡◌}
use Rattle.block.specs.Bytes.{xor}
use Rattle.block.specs.Words.{each_word}
use Rattle.mkv.proofs.XWords.{Left}
use Rattle.mkv.proofs.round.x_words.Given as goal

abbrev pub invariant-loop-word : goal.invariant-loop-word
invariant-loop-word g l = (l.word-iterator.size ≡ g.row.T) × Left g.row.T l.fn.block l.all l.word-iterator.rest.now

abbrev pub invariant-loop-i : goal.invariant-loop-i
invariant-loop-i g l = l.block ≡ each_word l.i g.row.T (λ w. xor w l.all) l.initial.block
