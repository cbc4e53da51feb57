use Rattle.std.proofs.Common.{◌≡◌, ◌*◌, ◌/◌, length}
use Rattle.mkv.specs.Cipher.{decipher}
use Rattle.mkv.proofs.Rounds.{Behind}
use Rattle.mkv.proofs.round.undo_rounds.Given as goal

abbrev pub invariant-loop-key : goal.invariant-loop-key
invariant-loop-key g l =
    (l.key-iterator.size ≡ 8 * g.row.T) × Behind g.row.T l.m.rows l.key-iterator.rest.now l.block (decipher g.row.T l.m.rows (length l.keys / (8 * g.row.T)) l.keys l.fn.block)
