-- What each call of a shelf answers and leaves: its checks in order, and what holds once it is accepted.
-- Assumes nothing.
use Rattle.std.specs.Prelude.{◌≡◌, ℕ, ◌<◌, Bool, not, List, [], ◌∷◌, ◌++◌, length, drop, Some, Result, ◌==◌, ◌≢◌, nat_le, nat_lt}
use Rattle.std.specs.List.{slice_get}
use Rattle.refusal.specs.Checks.{Answers}
use Rattle.refusal.specs.declared.Refusal.{Refusal}
use Rattle.refusal.specs.declared.Refusal.TheVariants.{Memory, Size, Chain, Position, Cells, Output}
use Rattle.shelf.specs.Standing.{Standing, free}
use Rattle.shelf.specs.Items.{pick, list, Without, Disjoint, Distinct, Below}

-- ---- size

-- n cells are asked for, of a shelf that has `size`
abbrev pub size_checks : (size n : ℕ) → List (Bool × Refusal)
size_checks size n = (nat_lt n 1, Size) ∷ (nat_lt 256 n, Size) ∷ (not (size == 0), Size) ∷ []

-- n cells, and no chain has any
pub record Empty (n : ℕ) (s : Standing) : Type 0 where
  pub sized : s.size ≡ n
  pub none : (c : ℕ) → c < 16 → s.chain c ≡ []

-- what a size answers and leaves
abbrev pub Sizing : Standing → ℕ → Result (Unit {0}) Refusal → Standing → Type 0
Sizing s n r s' = Answers (size_checks s.size n) r (λ _. Empty n s') (s' ≡ s)

-- ---- what every call on a chain checks first

-- is there such a chain
abbrev pub chain_checks : (c : ℕ) → List (Bool × Refusal)
chain_checks c = (nat_lt 15 c, Chain) ∷ []

-- and then, of a shelf of `size` cells: memory of `shown` items
abbrev pub access_checks : (size shown c : ℕ) → List (Bool × Refusal)
access_checks size shown c = chain_checks c ++ ((not (shown == size), Memory) ∷ [])

-- ---- count

-- n is how many cells chain c has
abbrev pub Count : Standing → ℕ → Result ℕ Refusal → Type 0
Count s c r = Answers (chain_checks c) r (λ n. n ≡ length (s.chain c)) (Unit {0})

-- ---- append

-- and then: `count` items, where `room` cells are free
abbrev pub append_checks : (size room shown c count : ℕ) → List (Bool × Refusal)
append_checks size room shown c count = access_checks size shown c ++ ((nat_lt room count, Cells) ∷ [])

-- what an accepted append leaves; which free cells it took is left open
pub record Grown {T : Type 0} (s : Standing) (cells : List T) (c : ℕ) (items : List T) (s' : Standing) (cells' : List T) : Type 0 where
  pub taken : List ℕ
  -- one cell of the shelf for each item, none twice, and all of them free before
  pub many : length taken ≡ length items
  pub inside : Below s.size taken
  pub distinct : Distinct taken
  pub were_free : (d : ℕ) → d < 16 → Disjoint taken (s.chain d)
  -- they are now at the end of the chain; no other chain has changed, nor the number of cells
  pub added : s'.chain c ≡ s.chain c ++ taken
  pub others : (d : ℕ) → d < 16 → (d ≢ c) → s'.chain d ≡ s.chain d
  pub sized : s'.size ≡ s.size
  -- the chain now lists the items too, in order; every other chain lists what it did, and every other cell keeps its item
  pub holds : list s' cells' c ≡ list s cells c ++ items
  pub kept : (d : ℕ) → d < 16 → (d ≢ c) → list s' cells' d ≡ list s cells d
  pub untouched : (k : ℕ) → Without k taken → pick cells' k ≡ pick cells k
  pub long : length cells' ≡ length cells

-- what an append answers and leaves; a refused one leaves shelf and memory as they were
abbrev pub Append : {T : Type 0} → Standing → List T → ℕ → List T → Result (Unit {0}) Refusal → Standing → List T → Type 0
Append s cells c items r s' cells' =
    Answers (append_checks s.size (free s) (length cells) c (length items)) r (λ _. Grown s cells c items s' cells') ((s' ≡ s) × (cells' ≡ cells))

-- ---- read

-- and then: position p of a chain that has `long` items
abbrev pub read_checks : (size long shown c p : ℕ) → List (Bool × Refusal)
read_checks size long shown c p = access_checks size shown c ++ ((nat_le long p, Position) ∷ [])

-- what a read answers: the item at position p, counted from 0
abbrev pub Read : {T : Type 0} → Standing → List T → ℕ → ℕ → Result T Refusal → Type 0
Read s cells c p r = Answers (read_checks s.size (length (s.chain c)) (length cells) c p) r (λ x. slice_get (list s cells c) p ≡ Some x) (Unit {0})

-- ---- gather

-- and then: a whole chain that has `long` items, to `room` places
abbrev pub gather_checks : (size long shown c room : ℕ) → List (Bool × Refusal)
gather_checks size long shown c room = access_checks size shown c ++ ((nat_lt room long, Output) ∷ [])

-- n items in all: the chain's, in order, and behind them what was there
abbrev pub Gather : {T : Type 0} → Standing → List T → ℕ → List T → Result ℕ Refusal → List T → Type 0
Gather s cells c out r out' =
    Answers (gather_checks s.size (length (s.chain c)) (length cells) c (length out)) r
    (λ n. (n ≡ length (list s cells c)) × (out' ≡ list s cells c ++ drop n out)) (out' ≡ out)

-- ---- drop

-- chain c has no cells now; no other chain has changed, nor the number of cells
pub record Emptied (s : Standing) (c : ℕ) (s' : Standing) : Type 0 where
  pub none : s'.chain c ≡ []
  pub others : (d : ℕ) → d < 16 → (d ≢ c) → s'.chain d ≡ s.chain d
  pub sized : s'.size ≡ s.size

-- what a drop answers and leaves
abbrev pub Drop : Standing → ℕ → Result (Unit {0}) Refusal → Standing → Type 0
Drop s c r s' = Answers (chain_checks c) r (λ _. Emptied s c s') (s' ≡ s)
