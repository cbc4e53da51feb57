use Rattle.field.proofs.Only.{product_laws}
use Rattle.field.proofs.Matrices.{undone}
use Rattle.field.proofs.Known.{known}
use Rattle.field.proofs.field_stands.Goals as goal

pub returns : goal.returns
returns c = record { laws = product_laws; inverse = undone; known = known }
