-- Runs and their earlier parts. Assumes nothing.
use Rattle.std.proofs.Common.{◌≡◌, ℕ, ◌+◌, ◌<◌, ◌≤◌, List, [], ◌∷◌, ◌++◌, Some, None, Ok, Err, Option, sym, ap, ◌∙◌, inl, inr, arith}
use Rattle.std.proofs.lemmas.Bool.{cases_eq}
use Rattle.kit.specs.Meaning.{Meaning}
use Rattle.bank.specs.Books.{Books, Running, cells_if_open, Same, Only}
use Rattle.bank.specs.Calls.{fresh, fed_link, Struck}
use Rattle.bank.specs.Past.{Event, opens, puts, ends, strikes, Step, Ran, starts, calls}

-- what a call leaves: under one number something else, or nothing has changed at all
pub data Change (b b' : Books) : Type 0 where
  nothing : Same b b' → Change b b'
  one : (i : ℕ) (o : Option Running) → Only b i o b' → b'.room + cells_if_open o ≡ b.room + cells_if_open (b.link i) → (b.link i ≡ None → i < 8) → Change b b'

-- an open link is no vacant one
some_link : (o : Option Running) (l : Running) (i : ℕ) → o ≡ Some l → o ≡ None → i < 8
some_link o l i was e = let z : ◌≡◌ {A = ℕ} 0 1 = cc in absurd (omega arith)

struck : (b : Books) (i : ℕ) (o : Option Running) (b' : Books) → Struck b i o b' → Change b b'
struck b i None b' s = nothing s
struck b i (Some l) b' s = one i None s.only (omega (arith, s.room, ap cells_if_open s.was)) (some_link (b.link i) l i s.was)

module _ (m : Meaning) where
  pub change : (b : Books) (e : Event) (b' : Books) → Step m b e b' → Change b b'
  change b (opens a (Ok i)) b' s = let h = s.2.holds in one i (Some (fresh m a)) h.only (omega (arith, h.room, ap cells_if_open h.unused)) (λ e. h.low)
  change b (opens a (Err r)) b' s = nothing s.2.holds
  change b (puts i x (Ok g)) b' s = let h = s.1.1.holds in one i (Some (fed_link m h.link x)) h.only (omega (arith, h.room, ap cells_if_open h.was)) (some_link (b.link i) h.link i h.was)
  change b (puts i x (Err r)) b' s = nothing s.1.1.holds
  change b (ends i (Ok g)) b' s = let h = s.1.holds in one i None h.closes.only (omega (arith, h.closes.room, ap cells_if_open h.closes.was)) (some_link (b.link i) h.link i h.closes.was)
  change b (ends i (Err r)) b' s = nothing s.1.holds
  change b (strikes i) b' s = struck b i (b.link i) b' s

  module _ (n : ℕ) where
    -- a run's last call
    pub record Last (e : Event) (past : List Event) (b' : Books) : Type 0 where
      pub books : Books
      pub ran : Ran m n past books
      pub step : Step m books e b'

    pub last : (e : Event) (past : List Event) (b' : Books) → Ran m n (e ∷ past) b' → Last e past b'
    last e past b' (calls {b = b} e₁ r s) = record { books = b; ran = r; step = s }

    -- the run as it was before the later calls
    pub earlier : (later past : List Event) (b : Books) → Ran m n (later ++ past) b → (b₀ : Books) × Ran m n past b₀
    earlier [] past b r = (b, r)
    earlier (e ∷ later) past b r = let o = last e (later ++ past) b r in earlier later past o.books o.ran

    pub size_ran : (past : List Event) (b : Books) → Ran m n past b → b.size ≡ n
    size_ran [] b (starts new) = new.size
    size_ran (e ∷ past) b (calls {b = b₀} e₁ r s) = go (change b₀ e b s) ∙ size_ran past b₀ r
      where
        go : Change b₀ b → b.size ≡ b₀.size
        go (nothing same) = same.size
        go (one i o only room low) = only.size

    -- no link is open under a number above 7
    pub high_ran : (past : List Event) (b : Books) → Ran m n past b → (j : ℕ) → 8 ≤ j → b.link j ≡ None
    high_ran [] b (starts new) j h = new.link j
    high_ran (e ∷ past) b (calls {b = b₀} e₁ r s) j h = go (change b₀ e b s) (high_ran past b₀ r)
      where
        go : Change b₀ b → ((j : ℕ) → 8 ≤ j → b₀.link j ≡ None) → b.link j ≡ None
        go (nothing same) none = same.link j ∙ none j h
        go (one i o only room low) none =
            elim (cases_eq j i) [
              | inl q ↦ absurd (omega (arith, low (ap b₀.link (sym q) ∙ none j h)))
              | inr q ↦ only.others j q ∙ none j h
            ]
