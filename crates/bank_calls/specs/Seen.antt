-- A bank as its user sees it: its books, over the cell memory that it is shown. Assumes nothing.
use Rattle.std.specs.Prelude.{ℕ, cond, List, length, Some, None, Option}
use Rattle.shelf.specs.Standing.{Standing, standing, free}
use Rattle.shelf.specs.Items.{list}
use Rattle.shelf.specs.Keys.{joined}
use Rattle.link.specs.declared.Link.{Link}
use Rattle.link.specs.Record.{view}
use Rattle.bank.specs.Books.{Books, Running}
use Rattle.bank_calls.specs.Table.{at}
use Rattle.bank_calls.specs.declared.state.Bank.{Bank}

-- an open record, with its cells and what these hold
abbrev pub running : Standing → List (List ℕ) → ℕ → Link → Running
running s memory i l =
    record { mode = l.mode; direction = l.direction; key = l.key; cells = length (s.chain i); schedule = joined (list s memory i); width = l.width; state = view l }

-- what stands under number i: an open record, or none
abbrev pub seen : Standing → List (List ℕ) → ℕ → Link → Option Running
seen s memory i l = cond l.open (Some (running s memory i l)) None

-- the books of a shelf and a table of records
abbrev pub books_of : Standing → List Link → List (List ℕ) → Books
books_of s links memory = record { size = s.size; room = free s; link = λ i. seen s memory i (at links i) }

-- the books of a bank
abbrev pub books : {K : Type 0} → Bank K → List (List ℕ) → Books
books b memory = books_of (standing b.shelf.book) b.links memory
