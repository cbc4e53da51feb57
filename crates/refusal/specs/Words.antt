-- What is written of a refusal. Assumes nothing.
use Rattle.std.specs.Prelude.{ℕ, List, ◌++◌, codes, decimal}
use Rattle.refusal.specs.declared.Refusal.{Refusal}
use Rattle.refusal.specs.declared.Refusal.TheVariants.{Scratch, Memory, Size, Chain, Position, Cells, Key, Block, Mode, Start, Links, Closed, Piece, Output, Ragged, Padding}

abbrev pub words : Refusal → List ℕ
words Scratch = codes "the scratch must have 1,536 bytes"
words Memory = codes "the cell memory must have as many items as there are cells"
words Size = codes "cells are set once, from 1 to 256"
words Chain = codes "chains go from 0 to 15"
words Position = codes "the chain ends before that position"
words Cells = codes "too few cells are free"
words (Key fault) = codes "layer " ++ (decimal fault.depth ++ (codes " takes no key of " ++ (decimal fault.length ++ codes " bytes")))
words Block = codes "the schedule or the block has the wrong size"
words Mode = codes "there is no such mode or direction"
words Start = codes "the start block must be one block long"
words Links = codes "all eight links are open"
words Closed = codes "that link is not open"
words Piece = codes "a piece has at most 4,096 bytes"
words Output = codes "the output is too short for what is due"
words Ragged = codes "the message broke off inside a block"
words Padding = codes "the message does not end as it should"
