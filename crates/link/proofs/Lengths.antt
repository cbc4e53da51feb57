-- How many bytes a piece and an end give. Assumes nothing.
use Rattle.std.proofs.Common.{◌≡◌, ℕ, suc, ◌<◌, ◌≤◌, List, length, get_or, take, sym, ap, ◌∙◌, arith}
use Rattle.std.proofs.lemmas.List.{length-take-le}
use Rattle.block.specs.Bytes.{Bytes, Block}
use Rattle.block.proofs.Parts.{bytes_from, bytes_take}
use Rattle.kit.specs.Meaning.{Meaning, Sound}
use Rattle.kit.proofs.Calls.{block_enciphered, block_deciphered}
use Rattle.modes.specs.Machine.{limit, due_count, end_count}
use Rattle.modes.specs.Laws.{Enciphers, Deciphers, Fit}
use Rattle.modes.specs.declared.Mode.{Mode}
use Rattle.modes.specs.declared.Mode.TheVariants.{Cbc, Cfb, Ofb}
use Rattle.modes.specs.declared.Direction.{Direction}
use Rattle.modes.specs.declared.Direction.TheVariants.{Send, Receive}
use Rattle.modes.proofs.Counts.{counts, ends_count}
use Rattle.link.specs.declared.Link.{Link}
use Rattle.link.specs.Record.{view, instrument, Fits}
use Rattle.link.specs.Calls.{link_given, link_closing, Gives}

limit_below : (md : Mode) (d : Direction) (w : ℕ) → limit md d w ≤ suc w
limit_below Cbc Send w = omega arith
limit_below Cbc Receive w = omega arith
limit_below Cfb d w = omega arith
limit_below Ofb d w = omega arith

-- what the types of its arrays say of a record
pub record Arrays (l : Link) : Type 0 where
  pub chain : Block 32 l.chain
  pub held : Block 32 l.held

pub arrays_from : (l : Link) → length l.chain ≡ 32 → ((i : ℕ) → get_or l.chain i 0 < 256) → length l.held ≡ 32 → ((i : ℕ) → get_or l.held i 0 < 256) → Arrays l
arrays_from l cl cb hl hb = record { chain = record { size = cl; bytes = bytes_from l.chain cb }; held = record { size = hl; bytes = bytes_from l.held hb } }

module _ (m : Meaning) (s : List ℕ) (l : Link) (f : Fits l) (a : Arrays l) where
  few : l.count ≤ 32
  few = omega (arith, f.begun, f.thin, limit_below l.mode l.direction l.width)

  count_held : length (take l.count l.held) ≡ l.count
  count_held = let e = a.held.size in length-take-le l.count l.held (omega (arith, few))

  chain_long : length (take l.width l.chain) ≡ l.width
  chain_long = let e = a.chain.size in length-take-le l.width l.chain (omega (arith, f.thin))

  pub fit : Fit l.mode l.direction (instrument m s l) (view l)
  fit =
      record {
        chain = record { size = chain_long; bytes = bytes_take l.width l.chain a.chain.bytes };
        held = bytes_take l.count l.held a.held.bytes;
        room = omega (arith, count_held, f.begun);
      }

  module _ (sound : Sound m) (bs : Bytes s) where
    pub enciphers : Enciphers (instrument m s l)
    enciphers =
        record {
          some = omega (arith, f.some);
          blocks = λ b h. let e = block_enciphered m sound l.key s b bs h.bytes in record { size = e.size ∙ h.size; bytes = e.bytes };
        }

    pub deciphers : Deciphers (instrument m s l)
    deciphers b h = let e = block_deciphered m sound l.key s b bs h.bytes in record { size = e.size ∙ h.size; bytes = e.bytes }

    given_count : (piece : List ℕ) → Bytes piece → length (link_given m s l piece) ≡ due_count l.mode l.direction l.width l.count (length piece)
    given_count piece bp =
        (counts l.mode l.direction (instrument m s l) (view l) piece enciphers deciphers fit bp).1
        ∙ ap (λ n. due_count l.mode l.direction l.width n (length piece)) count_held

    pub closing_count : length (link_closing m s l) ≡ end_count l.mode l.direction (instrument m s l) (view l)
    closing_count = ends_count l.mode l.direction (instrument m s l) (view l) enciphers fit

-- a count that is the machine's is that of the bytes, under every kit and schedule
pub gives_by : (l : Link) → Fits l → Arrays l → (n r : ℕ) → r ≡ due_count l.mode l.direction l.width l.count n → Gives l n r
gives_by l f a n r e m s piece sound bs bp long =
    e ∙ ap (due_count l.mode l.direction l.width l.count) (sym long) ∙ sym (given_count m s l f a sound bs piece bp)
