-- A piece that a link of the bank takes. Assumes nothing.
use Rattle.std.proofs.Common.{◌≡◌, ℕ, ◌≤◌, true, not, eqb, List, [], ◌∷◌, length, take, drop, set, Some, None, Ok, Err, Result, sym, refl, ap, ◌∙◌, subst, ap₂, arith, length-append, MatchResult}
use lib.Seq.{take-append_seam, drop-append_seam}
use Rattle.refusal.specs.Checks.{first}
use Rattle.refusal.specs.declared.Refusal.{Refusal}
use Rattle.refusal.specs.declared.Refusal.TheVariants.{Scratch, Closed, Memory}
use Rattle.kit.specs.Meaning.{Meaning}
use Rattle.shelf.specs.Standing.{Standing, standing}
use Rattle.shelf.specs.Items.{list}
use Rattle.shelf.specs.Keys.{joined}
use Rattle.shelf.specs.declared.shelf.Shelf.{Shelf}
use Rattle.modes.specs.Machine.{State}
use Rattle.link.specs.declared.Link.{Link}
use Rattle.link.specs.Record.{view}
use Rattle.link.specs.Record as record_of
use Rattle.link.specs.Calls as one
use Rattle.bank.specs.Books.{Books}
use Rattle.bank.specs.Calls.{Buffers, given_link, put_tail, put_checks, Fed, Puts}
use Rattle.bank_calls.specs.Table.{at}
use Rattle.bank_calls.specs.Seen.{running, seen, books_of, books}
use Rattle.bank_calls.specs.Calls.{gave, lengths_with, Written, Kept, Steps}
use Rattle.bank_calls.specs.declared.state.Bank.{Bank}
use Rattle.bank_calls.proofs.Tables.{at_same, at_other, open_below, set_again}
use Rattle.bank_calls.proofs.Seen.{seen_open, kept_same}
use Rattle.bank_calls.proofs.Checks.{later_told, scratch_told}

-- the front of an output that begins with g
pub front : (g out out' : List ℕ) (n : ℕ) → n ≡ length g → out' ≡ one.overwritten out g → (take n out' ≡ g) × (drop n out' ≡ drop n out)
front g out out' n e o =
    (ap₂ take e o ∙ take-append_seam g (drop (length g) out), ap₂ drop e o ∙ drop-append_seam g (drop (length g) out) ∙ ap (λ k. drop k out) (sym e))

-- bytes at the front of an output lie within it
pub within : (g out out' : List ℕ) (n : ℕ) → n ≡ length g → out' ≡ one.overwritten out g → length out' ≡ length out → n ≤ length out
within g out out' n e o long = omega (arith, ap length o, length-append g (drop (length g) out))

-- the record after a piece is seen as the link after it
fed_as : (s : Standing) (memory : List (List ℕ)) (i : ℕ) (l l' : Link) (z : State) → record_of.Kept l l' → view l' ≡ z →
    running s memory i l' ≡ record { mode = l.mode; direction = l.direction; key = l.key; cells = length (s.chain i); schedule = joined (list s memory i); width = l.width; state = z }
fed_as s memory i l l' z k v =
    rw (k.mode, k.direction, k.key) (rw v (ap (λ w. record { mode = l.mode; direction = l.direction; key = l.key; cells = length (s.chain i); schedule = joined (list s memory i); width = w; state = z }) k.width))

module _ {K : Type 0} (m : Meaning) (b b' : Bank K) (memory : List (List ℕ)) (i : ℕ) (piece out out' : List ℕ) where
  abbrev s : Standing
  s = standing b.shelf.book

  abbrev l : Link
  l = at b.links i

  abbrev Did : Result ℕ Refusal → Type 0
  Did r = Puts m (books b memory) (lengths_with 1536 memory out) i piece (gave r out') (books b' memory) × Written out r out' × MatchResult r (λ _. Steps b i b') (λ _. Kept b b')

  module _ (told : None ≡ first ((not l.open, Closed) ∷ (not (eqb (length memory) b.shelf.book.size), Memory) ∷ [])) (l' : Link) (kit : b'.kit ≡ b.kit) (shelf : b'.shelf ≡ b.shelf) (links : b'.links ≡ set b.links i l') where
    later : (l.open ≡ true) × (eqb (length memory) b.shelf.book.size ≡ true) × (first (put_checks m (books b memory) (lengths_with 1536 memory out) i piece) ≡ first (put_tail m (lengths_with 1536 memory out) (Some (running s memory i l)) piece))
    later = later_told (books b memory) (lengths_with 1536 memory out) (running s memory i l) (λ x. put_tail m (lengths_with 1536 memory out) x piece) refl l.open told

    after_it : books b' memory ≡ books_of s (set b.links i l') memory
    after_it = ap₂ (λ (x : Shelf (List ℕ)) y. books_of (standing x.book) y memory) shelf links

    fed : (n : ℕ) → one.Fed m (joined (list s memory i)) l piece out n l' out' → Fed m (books b memory) i piece (take n out') (books_of s (set b.links i l') memory)
    fed n f =
        let here = at_same b.links i l' (open_below b.links i later.0) in
        record {
          link = running s memory i l;
          was = seen_open s memory i l later.0;
          gives = (front (given_link m (running s memory i l) piece) out out' n f.count f.output).0;
          only = record {
            size = refl;
            this = ap (seen s memory i) here ∙ seen_open s memory i l' (f.kept.stays ∙ later.0) ∙ ap Some (fed_as s memory i l l' (one.link_after m (joined (list s memory i)) l piece) f.kept f.state);
            others = λ j d. ap (seen s memory j) (at_other b.links i j l' d);
          };
          room = refl;
        }

    pub put_later : length out' ≡ length out → (r : Result ℕ Refusal) → one.Puts m (joined (list s memory i)) l piece out r l' out' → Did r
    put_later long (Ok n) did =
        let g : List ℕ = given_link m (running s memory i l) piece in
        let f = did.holds in
        let P : Books → Type 0 = Fed m (books b memory) i piece (take n out') in (
          record { told = did.told ∙ sym later.2; holds = subst P (sym after_it) (fed n f) },
          (within g out out' n f.count f.output long, (front g out out' n f.count f.output).1),
          record { kit = kit; shelf = shelf; others = λ j d. ap (λ z. at z j) links ∙ at_other b.links i j l' d },
        )
    put_later long (Err e) did =
        let kept : Kept b b' = record { kit = kit; shelf = shelf; links = links ∙ ap (set b.links i) did.holds.0 ∙ set_again b.links i } in
        (record { told = did.told ∙ sym later.2; holds = kept_same b b' kept memory }, did.holds.1, kept)

  -- a scratch of another length: nothing is done
  pub put_unscratched : (f : Buffers) → (f.scratch ≡ 1536 → ⊥) → Kept b b' → Puts m (books b memory) f i piece (Err Scratch) (books b' memory)
  put_unscratched f d kept = record { told = scratch_told (books b memory) f (running s memory i l) (λ x. put_tail m f x piece) l.open d; holds = kept_same b b' kept memory }
