use Rattle.std.proofs.Common.{◌≡◌, ◌+◌, ◌-◌, ◌≤◌, length, take, drop}
use Rattle.aes.specs.Cipher.{inv_rounds}
use Rattle.aes.proofs.round.undo_rounds.Given as goal

abbrev pub invariant-loop-key : goal.invariant-loop-key
invariant-loop-key l =
    let rest = l.key-iterator.iter.rest.now in
    (length rest + 1 ≤ l.last) × (rest ≡ take (length rest) (drop 1 l.keys)) × (inv_rounds (length rest) l.schedule l.block ≡ inv_rounds (l.last - 1) l.schedule l.initial.block)
