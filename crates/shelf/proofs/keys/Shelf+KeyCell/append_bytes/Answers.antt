use Rattle.shelf.proofs.KeyCells.{joined_key_cells}
use Rattle.shelf.proofs.keys.Shelf+KeyCell.append_bytes.Goals as goal

pub returns-clause-bytes : goal.returns-clause-bytes
returns-clause-bytes c = joined_key_cells c.args.bytes.now
