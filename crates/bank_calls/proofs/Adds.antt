-- How each call adds itself to a past. Assumes nothing.
use Rattle.std.proofs.Common.{◌≡◌, ℕ, Bool, List, ◌++◌, length, None, Ok, Err, Option, Result, sym, refl, ap, ◌∙◌, subst}
use Rattle.refusal.specs.Checks.{first}
use Rattle.refusal.specs.declared.Refusal.{Refusal}
use Rattle.block.specs.Bytes.{Bytes}
use Rattle.kit.specs.Meaning.{Meaning}
use Rattle.shelf.specs.Standing.{Standing, standing}
use Rattle.shelf.specs.Past.{its_own, another}
use Rattle.bank.specs.Books.{Running, links}
use Rattle.bank.specs.Calls.{Ask, Buffers, link_checks, put_tail, end_tail, open_checks, Opens, Puts, Ends, Strikes}
use Rattle.bank.specs.Past.{Event, opens, puts, ends, strikes, Ran, calls}
use Rattle.bank.proofs.Runs.{size_ran}
use Rattle.bank_calls.specs.Table.{at}
use Rattle.bank_calls.specs.Seen.{running, books}
use Rattle.bank_calls.specs.Calls.{Kept}
use Rattle.bank_calls.specs.Pasts.{Adds, AddsUnshown}
use Rattle.bank_calls.specs.declared.state.Bank.{Bank}
use Rattle.bank_calls.proofs.Seen.{kept_same, eight_seen}
use Rattle.bank_calls.proofs.Checks.{unshown_alike, unshown_told, open_memory}

module _ {K : Type 0} (m : Meaning) (b b' : Bank K) where
  -- memory of another length than the bank has cells
  apart : (n : ℕ) (past : List Event) (own shown : List (List ℕ)) → Ran m n past (books b own) → (length shown ≡ n → ⊥) → length shown ≡ b.shelf.book.size → ⊥
  apart n past own shown r d e = d (e ∙ size_ran m n past (books b own) r)

  -- ---- put and end

  module _ (shown : List (List ℕ)) (i : ℕ) (f : Buffers) (long : f.memory ≡ length shown) where
    -- shown memory of another length, they refuse, whatever the cells hold
    module _ (tail : Option Running → List (Bool × Refusal)) (own : List (List ℕ)) (other : length shown ≡ b.shelf.book.size → ⊥) where
      abbrev s : Standing
      s = standing b.shelf.book

      alike : first (link_checks (books b shown) f ((books b shown).link i) ++ tail ((books b shown).link i)) ≡ first (link_checks (books b own) f ((books b own).link i) ++ tail ((books b own).link i))
      alike = unshown_alike (books b shown) (books b own) f (running s shown i (at b.links i)) (running s own i (at b.links i)) tail refl (λ e. other (sym long ∙ e)) (at b.links i).open

      never : None ≡ first (link_checks (books b shown) f ((books b shown).link i) ++ tail ((books b shown).link i)) → ⊥
      never = unshown_told (books b shown) (books b own) f (running s shown i (at b.links i)) (running s own i (at b.links i)) tail refl (λ e. other (sym long ∙ e)) (at b.links i).open

    module _ (a : Result (List ℕ) Refusal) (kept : (e : Refusal) → a ≡ Err e → Kept b b') where
      pub adds_put : (piece : List ℕ) → Bytes piece → Puts m (books b shown) f i piece a (books b' shown) → Adds m b shown (puts i piece a) b' shown
      adds_put piece bytes did n past own own' r (its_own e e') =
          let P : List (List ℕ) → Type 0 = λ z. Puts m (books b z) f i piece a (books b' shown) in
          let Q : List (List ℕ) → Type 0 = λ z. Puts m (books b own) f i piece a (books b' z) in
          calls (puts i piece a) r (bytes, (f, subst Q (sym e') (subst P e did)))
      adds_put piece bytes did n past own own' r (another d e') =
          let Q : List (List ℕ) → Type 0 = λ z. Puts m (books b own) f i piece a (books b' z) in
          calls (puts i piece a) r (bytes, (f, subst Q (sym e') (go a did kept (apart n past own shown r d))))
        where
          go : (a : Result (List ℕ) Refusal) → Puts m (books b shown) f i piece a (books b' shown) → ((e : Refusal) → a ≡ Err e → Kept b b') → (length shown ≡ b.shelf.book.size → ⊥) → Puts m (books b own) f i piece a (books b' own)
          go (Ok g) did kept other = absurd (never (λ x. put_tail m f x piece) own other did.told)
          go (Err e) did kept other = record { told = did.told ∙ alike (λ x. put_tail m f x piece) own other; holds = kept_same b b' (kept e refl) own }

      pub adds_end : Ends m (books b shown) f i a (books b' shown) → Adds m b shown (ends i a) b' shown
      adds_end did n past own own' r (its_own e e') =
          let P : List (List ℕ) → Type 0 = λ z. Ends m (books b z) f i a (books b' shown) in
          let Q : List (List ℕ) → Type 0 = λ z. Ends m (books b own) f i a (books b' z) in
          calls (ends i a) r (f, subst Q (sym e') (subst P e did))
      adds_end did n past own own' r (another d e') =
          let Q : List (List ℕ) → Type 0 = λ z. Ends m (books b own) f i a (books b' z) in
          calls (ends i a) r (f, subst Q (sym e') (go a did kept (apart n past own shown r d)))
        where
          go : (a : Result (List ℕ) Refusal) → Ends m (books b shown) f i a (books b' shown) → ((e : Refusal) → a ≡ Err e → Kept b b') → (length shown ≡ b.shelf.book.size → ⊥) → Ends m (books b own) f i a (books b' own)
          go (Ok g) did kept other = absurd (never (end_tail m f) own other did.told)
          go (Err e) did kept other = record { told = did.told ∙ alike (end_tail m f) own other; holds = kept_same b b' (kept e refl) own }

  -- ---- open

  module _ (shown shown' : List (List ℕ)) (a : Ask) (long : a.memory ≡ length shown) (key : Bytes a.key) (start : Bytes a.start) where
    pub adds_open : (q : Result ℕ Refusal) → ((e : Refusal) → q ≡ Err e → Kept b b') → Opens m (books b shown) a q (books b' shown') → Adds m b shown (opens a q) b' shown'
    adds_open q kept did n past own own' r (its_own e e') =
        let P : List (List ℕ) → Type 0 = λ z. Opens m (books b z) a q (books b' shown') in
        let Q : List (List ℕ) → Type 0 = λ z. Opens m (books b own) a q (books b' z) in
        calls (opens a q) r (key, start, subst Q (sym e') (subst P e did))
    adds_open q kept did n past own own' r (another d e') =
        let Q : List (List ℕ) → Type 0 = λ z. Opens m (books b own) a q (books b' z) in
        calls (opens a q) r (key, start, subst Q (sym e') (go q did kept (apart n past own shown r d)))
      where
        same : links (books b shown) ≡ links (books b own)
        same = sym (eight_seen (standing b.shelf.book) b.links shown) ∙ eight_seen (standing b.shelf.book) b.links own

        go : (q : Result ℕ Refusal) → Opens m (books b shown) a q (books b' shown') → ((e : Refusal) → q ≡ Err e → Kept b b') → (length shown ≡ b.shelf.book.size → ⊥) → Opens m (books b own) a q (books b' own)
        go (Ok i) did kept other = absurd (other (sym long ∙ open_memory m a _ _ _ did.told))
        go (Err e) did kept other =
            record { told = did.told ∙ ap (λ k. first (open_checks m (books b shown).size k (books b shown).room a)) same; holds = kept_same b b' (kept e refl) own }

  -- ---- strike

  pub adds_strike : (i : ℕ) → ((memory : List (List ℕ)) → Strikes (books b memory) i (books b' memory)) → AddsUnshown m b (strikes i) b'
  adds_strike i did n past own r = calls (strikes i) r (did own)
