-- The number of each reason for a refusal. Assumes nothing.
use Rattle.std.specs.Prelude.{ℕ}
use Rattle.refusal.specs.declared.Refusal.{Refusal}
use Rattle.refusal.specs.declared.Refusal.TheVariants.{Scratch, Memory, Size, Chain, Position, Cells, Key, Block, Mode, Start, Links, Closed, Piece, Output, Ragged, Padding}

abbrev pub number : Refusal → ℕ
number Scratch = 1
number Memory = 2
number Size = 3
number Chain = 4
number Position = 5
number Cells = 6
number (Key fault) = 7
number Block = 8
number Mode = 9
number Start = 10
number Links = 11
number Closed = 12
number Piece = 13
number Output = 14
number Ragged = 15
number Padding = 16
