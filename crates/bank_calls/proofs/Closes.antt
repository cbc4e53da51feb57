-- A link that is closed, at its end or by a strike. Assumes nothing.
use Rattle.std.proofs.Common.{◌≡◌, ℕ, ◌<◌, Bool, true, false, not, eqb, ltb, List, [], ◌∷◌, length, Some, None, Ok, Err, MatchBool, Result, sym, refl, ap, ◌∙◌, subst, arith, MatchResult}
use Rattle.std.proofs.lemmas.Bool.{le-ltb, both_ways, cond-false}
use Rattle.refusal.specs.Checks.{first}
use Rattle.refusal.specs.declared.Refusal.{Refusal}
use Rattle.refusal.specs.declared.Refusal.TheVariants.{Scratch, Chain, Closed, Memory}
use Rattle.shelf.specs.Standing.{Standing, standing}
use Rattle.shelf.specs.Items.{list, items_at}
use Rattle.shelf.specs.Keys.{joined}
use Rattle.shelf.specs.Calls.{Emptied, Drop}
use Rattle.shelf.proofs.Room.{book_emptied_free}
use Rattle.kit.specs.Meaning.{Meaning}
use Rattle.link.specs.declared.Link.{Link}
use Rattle.link.specs.Record.{closed}
use Rattle.link.specs.Calls as one
use Rattle.bank.specs.Calls.{Buffers, Closes, Struck, Strikes, Ends, last_bytes, end_tail, end_checks}
use Rattle.bank_calls.specs.Table.{at}
use Rattle.bank_calls.specs.Seen.{running, seen, books}
use Rattle.bank_calls.specs.Calls.{gave, lengths_with, Written, Kept, Shuts, StrikesOne}
use Rattle.bank_calls.specs.declared.state.Bank.{Bank}
use Rattle.bank_calls.proofs.Tables.{at_same, at_other, open_below}
use Rattle.bank_calls.proofs.Seen.{seen_open, seen_shut, seen_alike, kept_same}
use Rattle.bank_calls.proofs.Checks.{later_told, scratch_told}
use Rattle.bank_calls.proofs.Puts.{front, within}
use Rattle.bank_calls.proofs.Invariants.{Sits}

-- ---- the inner call

-- a chain of the first eight is dropped
pub dropped : (s : Standing) (i : ℕ) (r : Result (Unit {0}) Refusal) (s' : Standing) → i < 8 → Drop s i r s' → Emptied s i s'
dropped s i (Ok done) s' low d = d.holds
dropped s i (Err e) s' low d =
    let none : Some e ≡ None = d.told ∙ cond-false (ltb 15 i) (Some Chain) None (le-ltb 15 i (omega arith)) in
    let z : ◌≡◌ {A = ℕ} 0 1 = cc in absurd (omega arith)

pub shut_sits : (s : Standing) (i : ℕ) (l : Link) → l.open ≡ false → s.chain i ≡ [] → Sits s i l
shut_sits s i l e none =
    record {
      fits = λ o. absurd (both_ways l.open e o);
      clear = λ o. absurd (both_ways l.open e o);
      sized = λ o. absurd (both_ways l.open e o);
      few = λ o. absurd (both_ways l.open e o);
      shut = λ h. none;
    }

-- ---- what its user sees

module _ {K : Type 0} (b b' : Bank K) (memory : List (List ℕ)) (i : ℕ) where
  abbrev s : Standing
  s = standing b.shelf.book

  abbrev s' : Standing
  s' = standing b'.shelf.book

  abbrev l : Link
  l = at b.links i

  pub closes : l.open ≡ true → Shuts b i b' → Closes (books b memory) i (running s memory i l) (books b' memory)
  closes o h =
      let low = open_below b.links i o in
      let small : i < 16 = omega (arith, b.eight) in
      record {
        was = seen_open s memory i l o;
        only = record {
          size = h.shelf.sized;
          this = seen_shut s' memory i (at b'.links i) (ap (λ z. (at z i).open) h.links ∙ ap (λ (z : Link). z.open) (at_same b.links i closed low));
          others = λ j d. ap (seen s' memory j) (ap (λ z. at z j) h.links ∙ at_other b.links i j closed d) ∙ seen_alike s s' memory memory j (at b.links j) (λ p. same j d p);
        };
        room = book_emptied_free b.shelf.book i s' h.shelf small;
      }
    where
      same : (j : ℕ) → (j ≡ i → ⊥) → (at b.links j).open ≡ true → (length (s'.chain j) ≡ length (s.chain j)) × (list s' memory j ≡ list s memory j)
      same j d p = let e = h.shelf.others j (omega (arith, open_below b.links j p, b.eight)) d in (ap length e, ap (items_at memory) e)

  -- ---- a strike

  struck : (o : Bool) → l.open ≡ o → MatchBool o (Shuts b i b') (Kept b b') → Strikes (books b memory) i (books b' memory)
  struck true e h = let P : _ → Type 0 = λ x. Struck (books b memory) i x (books b' memory) in subst P (sym (seen_open s memory i l e)) (closes e h)
  struck false e h = let P : _ → Type 0 = λ x. Struck (books b memory) i x (books b' memory) in subst P (sym (seen_shut s memory i l e)) (kept_same b b' h memory)

  pub strikes_as : StrikesOne b i b' → Strikes (books b memory) i (books b' memory)
  strikes_as h = struck l.open refl h

  -- ---- an end

  module _ (m : Meaning) (out out' : List ℕ) where
    abbrev pub Did : Result ℕ Refusal → Type 0
    Did r = Ends m (books b memory) (lengths_with 1536 memory out) i (gave r out') (books b' memory) × Written out r out' × MatchResult r (λ _. Shuts b i b') (λ _. Kept b b')

    module _ (told : None ≡ first ((not l.open, Closed) ∷ (not (eqb (length memory) b.shelf.book.size), Memory) ∷ [])) where
      pub later : (l.open ≡ true) × (eqb (length memory) b.shelf.book.size ≡ true) × (first (end_checks m (books b memory) (lengths_with 1536 memory out) i) ≡ first (end_tail m (lengths_with 1536 memory out) (Some (running s memory i l))))
      later = later_told (books b memory) (lengths_with 1536 memory out) (running s memory i l) (end_tail m (lengths_with 1536 memory out)) refl l.open told

      pub end_given : (n : ℕ) → length out' ≡ length out → one.Ends m (joined (list s memory i)) l out (Ok n) out' → Shuts b i b' → Did (Ok n)
      end_given n long did h =
          let g : List ℕ = last_bytes m (running s memory i l) in
          let f = did.holds in (
            record { told = did.told ∙ sym later.2; holds = record { link = running s memory i l; closes = closes later.0 h; gives = (front g out out' n f.count f.output).0 } },
            (within g out out' n f.count f.output long, (front g out out' n f.count f.output).1),
            h,
          )

    -- a scratch of another length: nothing is done
    pub end_unscratched : (f : Buffers) → (f.scratch ≡ 1536 → ⊥) → Kept b b' → Ends m (books b memory) f i (Err Scratch) (books b' memory)
    end_unscratched f d kept = record { told = scratch_told (books b memory) f (running s memory i l) (end_tail m f) l.open d; holds = kept_same b b' kept memory }
