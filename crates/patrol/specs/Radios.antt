-- How a radio stands: the books of its bank, over the key cells that it lends it, and what its cipher means. Assumes nothing.
use Rattle.std.specs.Prelude.{◌≡◌, ℕ, List, length, Result, vec_items}
use Rattle.refusal.specs.Checks.{Answers}
use Rattle.refusal.specs.declared.Refusal.{Refusal}
use Rattle.shelf.specs.Calls.{size_checks}
use Rattle.kit.specs.Meaning.{Meaning}
use Rattle.ciphers.specs.Piles.{narrow, wide, coated_meaning}
use Rattle.bank.specs.Books.{Books, Same}
use Rattle.bank.specs.Past.{New}
use Rattle.bank_calls.specs.Seen.{books}
use Rattle.patrol.specs.Sets.{WithMemory}
use Rattle.patrol.specs.declared.calls.SizeError.{SizeError}
use Rattle.patrol.specs.declared.radio.Links.{Links}
use Rattle.patrol.specs.declared.radio.Links.TheVariants.{Narrow, Wide}
use Rattle.patrol.specs.declared.radio.Radio.{Radio}

-- of a bank of either width: its books over cell memory, and its cipher's meaning
abbrev pub links_books : Links → List (List ℕ) → Books
links_books (Narrow bank) memory = books bank memory
links_books (Wide bank) memory = books bank memory

abbrev pub links_meaning : Links → Meaning
links_meaning (Narrow bank) = coated_meaning narrow bank.kit
links_meaning (Wide bank) = coated_meaning wide bank.kit

-- a radio's key cells, books and meaning
abbrev pub key_memory : Radio → List (List ℕ)
key_memory r = vec_items r.cells

abbrev pub radio_books : Radio → Books
radio_books r = links_books r.links (key_memory r)

abbrev pub radio_meaning : Radio → Meaning
radio_meaning r = links_meaning r.links

-- nothing that is told of a radio has changed
pub record Rests (r r' : Radio) : Type 0 where
  pub meaning : radio_meaning r' ≡ radio_meaning r
  pub books : Same (radio_books r) (radio_books r')
  pub cells : r'.cells ≡ r.cells

-- n key cells, all free, and no link is open; the cipher is as it was
pub record Given (n : ℕ) (r r' : Radio) : Type 0 where
  pub meaning : radio_meaning r' ≡ radio_meaning r
  pub books : New n (radio_books r')
  pub cells : length (key_memory r') ≡ n

-- n key cells are asked for: the bank's answer, and a refused radio is as it was
abbrev pub Sizes : Radio → ℕ → Result (Unit {0}) Refusal → Radio → Type 0
Sizes r n result r' = Answers (size_checks (radio_books r).size n) result (λ _. Given n r r') (Rests r r')

-- the same, or no memory is left
abbrev pub Sized : Radio → ℕ → Result (Unit {0}) SizeError → Radio → Type 0
Sized r n result r' = WithMemory (λ answer. Sizes r n answer r') (Rests r r') result
