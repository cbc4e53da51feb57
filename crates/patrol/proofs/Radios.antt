-- A radio through its bank. Assumes nothing.
use Rattle.std.proofs.Common.{◌≡◌, ℕ, length, None, Ok, sym, ap, ◌∙◌, subst}
use Rattle.refusal.specs.Checks.{first}
use Rattle.shelf.specs.Calls.{size_checks}
use Rattle.bank.specs.Past.{New}
use Rattle.patrol.specs.Radios.{key_memory, links_books, links_meaning, Sized}
use Rattle.patrol.specs.declared.radio.Links.{Links}
use Rattle.patrol.specs.declared.radio.Radio.{Radio}

-- a radio is given n key cells where its bank is
pub given : (n : ℕ) (r r' : Radio) (l l' : Links) → r.links ≡ l → r'.links ≡ l' → None ≡ first (size_checks (links_books l (key_memory r)).size n)
    → links_meaning l' ≡ links_meaning l → New n (links_books l' (key_memory r')) → length (key_memory r') ≡ n → Sized r n (Ok tt) r'
given n r r' l l' was is told cipher new many =
    let checks : Links → Type 0 = λ z. None ≡ first (size_checks (links_books z (key_memory r)).size n) in
    let given : Links → Type 0 = λ z. New n (links_books z (key_memory r')) in
    record {
      told = subst checks (sym was) told;
      holds = record { meaning = ap links_meaning is ∙ cipher ∙ ap links_meaning (sym was); books = subst given (sym is) new; cells = many };
    }
