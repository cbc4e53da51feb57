-- What a load that is not refused has found. Assumes nothing.
use Rattle.std.proofs.Common.{◌≡◌, ℕ, ◌<◌, true, not, List, None, Ok, Err, Result, sym, ◌∙◌, subst, arith}
use Rattle.std.proofs.lemmas.Bool.{not-false}
use Rattle.refusal.specs.Checks.{first}
use Rattle.refusal.specs.declared.Refusal.{Refusal}
use Rattle.refusal.specs.declared.Refusal.TheVariants.{Closed}
use Rattle.refusal.proofs.Checks.{none_due}
use Rattle.shelf.specs.Standing.{standing}
use Rattle.kit.specs.Meaning.{Meaning}
use Rattle.link.specs.declared.Link.{Link}
use Rattle.link.specs.Record.{Clear}
use Rattle.link.specs.Calls as one
use Rattle.bank_calls.specs.Table.{at}
use Rattle.bank_calls.specs.Calls.{load_checks}
use Rattle.bank_calls.specs.declared.state.Bank.{Bank}
use Rattle.bank_calls.proofs.Tables.{open_below}
use Rattle.bank_calls.proofs.Invariants.{Sits, sits}

-- where neither check is due, the link is open
module _ {K : Type 0} (b : Bank K) (memory : List (List ℕ)) (i : ℕ) where
  pub load_open : None ≡ first (load_checks b memory i) → (at b.links i).open ≡ true
  load_open told = not-false (at b.links i).open (none_due (not (at b.links i).open) Closed _ told).0

  pub load_low : None ≡ first (load_checks b memory i) → i < 8
  load_low told = omega (arith, open_below b.links i (load_open told), b.eight)

  -- a record that a piece has left is as the bank keeps it
  pub put_sits : (m : Meaning) (s piece out : List ℕ) (r : Result ℕ Refusal) (l' : Link) (out' : List ℕ) → None ≡ first (load_checks b memory i) → one.Puts m s (at b.links i) piece out r l' out' → (Clear (at b.links i) → Clear l') → Sits (standing b.shelf.book) i l'
  put_sits m s piece out (Ok n) l' out' told did clear =
      let o = load_open told in
      record { fits = λ _. did.holds.fits; clear = λ _. clear (b.clear i o); sized = λ _. b.sized i o; few = λ _. b.few i o; shut = λ h. b.shut i (h.0, sym did.holds.kept.stays ∙ h.1) }
  put_sits m s piece out (Err e) l' out' told did clear = let P : Link → Type 0 = Sits (standing b.shelf.book) i in subst P (sym did.holds.0) (sits b i)
