-- The past of a shelf, and the law of every past. Assumes nothing.
-- A past is the list of the append, read and drop calls since the shelf was sized, the newest first, each with its answer.
use Rattle.std.specs.Prelude.{◌≡◌, ◌↔◌, ℕ, ◌-◌, ◌<◌, ◌≤◌, cond, List, [], ◌∷◌, ◌++◌, length, Some, Ok, Err, Result, ◌==◌, ◌≢◌}
use Rattle.std.specs.List.{slice_get}
use Rattle.refusal.specs.Checks.{first, refusal}
use Rattle.refusal.specs.declared.Refusal.{Refusal}
use Rattle.refusal.specs.declared.Refusal.TheVariants.{Position, Cells}
use Rattle.shelf.specs.Standing.{Standing, total, free}
use Rattle.shelf.specs.Items.{list}
use Rattle.shelf.specs.Calls.{chain_checks, append_checks, read_checks, Empty, Append, Read, Drop}

-- a call with its answer; `shown` is how many items the memory had that it was shown
pub data Call (T : Type 0) : Type 0 where
  append : (shown c : ℕ) → List T → Result (Unit {0}) Refusal → Call T
  read : (shown c p : ℕ) → Result T Refusal → Call T
  drop : (c : ℕ) → Result (Unit {0}) Refusal → Call T

-- ---- what a past alone tells

-- the items that it has left in chain c: those added since the start or the last accepted drop
abbrev pub left : {T : Type 0} → List (Call T) → ℕ → List T
left [] c = []
left (append shown d items (Ok done) ∷ past) c = cond (c == d) (left past c ++ items) (left past c)
left (append shown d items (Err why) ∷ past) c = left past c
left (read shown d p r ∷ past) c = left past c
left (drop d (Ok done) ∷ past) c = cond (c == d) [] (left past c)
left (drop d (Err why) ∷ past) c = left past c

-- the cells that it has left free, of n: n less the lengths of all chains
abbrev pub room : {T : Type 0} → ℕ → List (Call T) → ℕ
room n past = n - total (λ c. length (left past c))

-- ---- the law: every answer of a past is told by the calls before it

-- An append answers what its checks say at the room that was left. So one that passes the earlier checks is refused for
-- want of cells exactly when fewer cells were left than it has items.
pub record AppendDue {T : Type 0} (n : ℕ) (past : List (Call T)) (shown c : ℕ) (items : List T) (r : Result (Unit {0}) Refusal) : Type 0 where
  pub answer : refusal r ≡ first (append_checks n (room n past) shown c (length items))
  pub short : c < 16 → shown ≡ n → (r ≡ Err Cells) ↔ (room n past < length items)

-- A read answers what its checks say at the items that were left. So an accepted one gives the item that was left at
-- that position, and one that passes the earlier checks is refused exactly where none was left.
pub record ReadDue {T : Type 0} (n : ℕ) (past : List (Call T)) (shown c p : ℕ) (r : Result T Refusal) : Type 0 where
  pub answer : refusal r ≡ first (read_checks n (length (left past c)) shown c p)
  pub gives : (x : T) → r ≡ Ok x → slice_get (left past c) p ≡ Some x
  pub ended : c < 16 → shown ≡ n → (r ≡ Err Position) ↔ (length (left past c) ≤ p)

-- each answer of a past is the one that is due after the calls before it
abbrev pub Lawful : {T : Type 0} → ℕ → List (Call T) → Type 0
Lawful n [] = Unit {0}
Lawful n (append shown c items r ∷ past) = AppendDue n past shown c items r × Lawful n past
Lawful n (read shown c p r ∷ past) = ReadDue n past shown c p r × Lawful n past
Lawful n (drop c r ∷ past) = (refusal r ≡ first (chain_checks c)) × Lawful n past

-- ---- the pasts that a shelf may have

-- The memory that a call is shown is the shelf's own, and then it is what the call leaves; or it has another length, and
-- the shelf's own stays as it was.
pub data Shown {T : Type 0} (n : ℕ) (own own' shown shown' : List T) : Type 0 where
  its_own : shown ≡ own → own' ≡ shown' → Shown n own own' shown shown'
  another : (length shown ≢ n) → own' ≡ own → Shown n own own' shown shown'

-- How a shelf of n cells and its memory may stand after a past: from an empty shelf and any items in memory, each call
-- answers and leaves what is promised of it, and nothing else touches shelf or memory.
pub data Ran {T : Type 0} (n : ℕ) : List (Call T) → Standing → List T → Type 0 where
  starts : {s : Standing} {own : List T} → Empty n s → length own ≡ n → Ran n [] s own
  appends : {past : List (Call T)} {s s' : Standing} {own own' shown shown' : List T} (c : ℕ) (items : List T) (r : Result (Unit {0}) Refusal)
      → Ran n past s own → Shown n own own' shown shown' → Append s shown c items r s' shown' → Ran n (append (length shown) c items r ∷ past) s' own'
  reads : {past : List (Call T)} {s : Standing} {own shown : List T} (c p : ℕ) (r : Result T Refusal)
      → Ran n past s own → Shown n own own shown shown → Read s shown c p r → Ran n (read (length shown) c p r ∷ past) s own
  drops : {past : List (Call T)} {s s' : Standing} {own : List T} (c : ℕ) (r : Result (Unit {0}) Refusal)
      → Ran n past s own → Drop s c r s' → Ran n (drop c r ∷ past) s' own

-- The law of every past: each answer in it is the one due; the past never leaves more items than there are cells; and
-- the shelf tells as free the cells that the past has left free, and counts and lists in each chain the items that it has left there.
pub record LawAfter {T : Type 0} (n : ℕ) (past : List (Call T)) (s : Standing) (own : List T) : Type 0 where
  pub lawful : Lawful n past
  pub fits : total (λ c. length (left past c)) ≤ n
  pub tells : free s ≡ room n past
  pub counts : (c : ℕ) → c < 16 → length (s.chain c) ≡ length (left past c)
  pub lists : (c : ℕ) → c < 16 → list s own c ≡ left past c

-- the law of shelves with items of one kind
abbrev pub Law : Type 0 → Type 0
Law T = (n : ℕ) (past : List (Call T)) (s : Standing) (own : List T) → Ran n past s own → LawAfter n past s own

-- ---- how each call adds itself to every past that shelf and memory may have

abbrev pub AddsAppend : {T : Type 0} → Standing → List T → ℕ → List T → Result (Unit {0}) Refusal → Standing → List T → Type 0
AddsAppend {T} s shown c items r s' shown' =
    (n : ℕ) (past : List (Call T)) (own own' : List T) → Ran n past s own → Shown n own own' shown shown' → Ran n (append (length shown) c items r ∷ past) s' own'

abbrev pub AddsRead : {T : Type 0} → Standing → List T → ℕ → ℕ → Result T Refusal → Type 0
AddsRead {T} s shown c p r =
    (n : ℕ) (past : List (Call T)) (own : List T) → Ran n past s own → Shown n own own shown shown → Ran n (read (length shown) c p r ∷ past) s own

abbrev pub AddsDrop : (T : Type 0) → Standing → ℕ → Result (Unit {0}) Refusal → Standing → Type 0
AddsDrop T s c r s' = (n : ℕ) (past : List (Call T)) (own : List T) → Ran n past s own → Ran n (drop c r ∷ past) s' own
