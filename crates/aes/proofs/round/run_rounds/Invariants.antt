use Rattle.std.proofs.Common.{◌≡◌}
use Rattle.aes.specs.Cipher.{rounds}
use Rattle.aes.proofs.round.run_rounds.Given as goal

abbrev pub invariant-loop-key : goal.invariant-loop-key
invariant-loop-key l = l.block ≡ rounds l.key-index l.schedule l.initial.block
