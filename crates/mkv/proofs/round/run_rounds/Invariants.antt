use Rattle.std.proofs.Common.{◌≡◌, ◌*◌, ◌/◌, length}
use Rattle.mkv.specs.Cipher.{encipher}
use Rattle.mkv.proofs.Rounds.{Ahead}
use Rattle.mkv.proofs.round.run_rounds.Given as goal

abbrev pub invariant-loop-key : goal.invariant-loop-key
invariant-loop-key g l =
    (l.key-iterator.size ≡ 8 * g.row.T) × Ahead g.row.T l.m.rows l.post l.key-iterator.rest.now l.block (encipher g.row.T l.m.rows (length l.keys / (8 * g.row.T)) l.keys l.fn.block)
