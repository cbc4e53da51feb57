-- A link that is opened. Assumes nothing.
use Rattle.std.proofs.Common.{◌≡◌, ℕ, ◌*◌, ◌<◌, ◌≤◌, true, false, not, ◌||◌, is_err, eqb, ltb, List, [], ◌∷◌, ◌++◌, length, set, Some, None, Ok, Err, Result, sym, ap, ◌∙◌, subst, ap₂, arith}
use Rattle.std.proofs.lemmas.Bool.{eq-eqb, ne_eqb, eqb-true, le-ltb, ltb-false, not-false, both_ways, cond-false}
use Rattle.refusal.specs.Checks.{first}
use Rattle.refusal.specs.declared.Refusal.{Refusal}
use Rattle.refusal.specs.declared.Refusal.TheVariants.{Scratch, Memory, Cells, Start, Links}
use Rattle.refusal.proofs.Checks.{told_here, none_due}
use Rattle.kit.specs.Meaning.{Meaning}
use Rattle.shelf.specs.Standing.{Standing, standing, free}
use Rattle.shelf.specs.Items.{list}
use Rattle.shelf.specs.Calls.{Grown, Append}
use Rattle.shelf.specs.Keys.{joined, key_cells}
use Rattle.shelf.proofs.Room.{grown_listed, grown_many, grown_free}
use Rattle.shelf.proofs.KeyCells.{length_key_cells, joined_key_cells}
use Rattle.modes.specs.Machine.{opened}
use Rattle.modes.specs.Numbers.{mode_numbered, direction_numbered}
use Rattle.modes.specs.declared.Mode.{Mode}
use Rattle.modes.specs.declared.Mode.TheVariants.{Ofb}
use Rattle.modes.specs.declared.Direction.{Direction}
use Rattle.modes.specs.declared.Direction.TheVariants.{Receive}
use Rattle.link.specs.declared.Link.{Link}
use Rattle.link.specs.Record.{view, begun, Fits, Clear}
use Rattle.bank.specs.Books.{links}
use Rattle.bank.specs.Calls.{Ask, mode_of, direction_of, unknown, need, key_checks, start_checks, open_checks, Opened, Opens}
use Rattle.bank_calls.specs.Table.{at}
use Rattle.bank_calls.specs.Seen.{seen, books}
use Rattle.bank_calls.specs.Calls.{room_checks, Kept, Takes}
use Rattle.bank_calls.specs.declared.state.Bank.{Bank}
use Rattle.bank_calls.proofs.Tables.{at_same, at_other, open_below}
use Rattle.bank_calls.proofs.Seen.{seen_shut, seen_alike, kept_same, eight_seen}
use Rattle.bank_calls.proofs.Invariants.{Sits}

-- ---- what the numbers of mode and direction name

pub known_by : (a : Ask) (md : Mode) (d : Direction) → Ok md ≡ mode_numbered a.mode → Ok d ≡ direction_numbered a.direction → unknown a ≡ false
known_by a md d e f = ap₂ (λ (x : Result Mode Refusal) (y : Result Direction Refusal). is_err x || is_err y) (sym e) (sym f)

pub named_by : (a : Ask) (md : Mode) (d : Direction) → Ok md ≡ mode_numbered a.mode → Ok d ≡ direction_numbered a.direction
    → (md ≡ mode_of a.mode) × (d ≡ direction_of a.direction)
named_by a md d e f =
    (ap (λ (x : Result Mode Refusal). elim x [ Ok z ↦ z | Err r ↦ Ofb ]) e, ap (λ (x : Result Direction Refusal). elim x [ Ok z ↦ z | Err r ↦ Receive ]) f)

-- ---- the checks, as the code goes through them

module _ (m : Meaning) (size «open» room : ℕ) (a : Ask) (right : eqb a.scratch 1536 ≡ true) (known : unknown a ≡ false) (n : ℕ) (takes : m.need (length a.key) ≡ Ok n) where
  rest : first (open_checks m size «open» room a) ≡ first ((not (eqb (length a.start) m.width), Start) ∷ (not (eqb a.memory size), Memory) ∷ (ltb 7 «open», Links) ∷ (ltb room n, Cells) ∷ [])
  rest =
      cond-false (not (eqb a.scratch 1536)) _ _ (ap not right) ∙ cond-false (unknown a) _ _ known
      ∙ ap (λ q. first ((key_checks q ++ start_checks m size «open» a) ++ ((ltb room (elim q [ Ok k ↦ k | Err fault ↦ 0 ]), Cells) ∷ []))) takes

  pub room_told : length a.start ≡ m.width → first (open_checks m size «open» room a) ≡ first ((not (eqb a.memory size), Memory) ∷ (ltb 7 «open», Links) ∷ (ltb room n, Cells) ∷ [])
  room_told e = rest ∙ cond-false _ _ _ (ap not (eq-eqb (length a.start) m.width e))

-- ---- what an accepted open leaves

module _ {K : Type 0} (m : Meaning) (b b' : Bank K) (memory memory' : List (List ℕ)) (a : Ask) (i n : ℕ) (takes : m.need (length a.key) ≡ Ok n) (low : i < 8) (vacant : (at b.links i).open ≡ false)
    (long : length (m.schedule a.key) ≡ 16 * n) (room : n ≤ free (standing b.shelf.book)) (first_view : view (begun (mode_of a.mode) (direction_of a.direction) (length a.key) m.width a.start) ≡ opened a.start) (t : Takes m b memory a i b' memory') where
  abbrev s : Standing
  s = standing b.shelf.book

  abbrev s' : Standing
  s' = standing b'.shelf.book

  many : length (key_cells (m.schedule a.key)) ≡ n
  many = length_key_cells (m.schedule a.key) n long

  as_needed : n ≡ need m a.key
  as_needed = sym (ap (λ q. elim q [ Ok k ↦ k | Err fault ↦ 0 ]) takes)

  empty : s.chain i ≡ []
  empty = b.shut i (low, vacant)

  -- its cells hold the key's schedule
  has : length (s'.chain i) ≡ need m a.key
  has = grown_many t.shelf ∙ omega (arith, ap length empty, many, as_needed)

  holds : joined (list s' memory' i) ≡ m.schedule a.key
  holds = ap joined (grown_listed t.shelf empty) ∙ joined_key_cells (m.schedule a.key) n long

  same : (j : ℕ) → (j ≡ i → ⊥) → (at b.links j).open ≡ true → (length (s'.chain j) ≡ length (s.chain j)) × (list s' memory' j ≡ list s memory j)
  same j d o =
      let small : j < 16 = omega (arith, open_below b.links j o, b.eight) in
      (ap length (t.shelf.others j small d), t.shelf.kept j small d)

  pub opened_as : Opened m (books b memory) a i (books b' memory')
  opened_as =
      let here : at b'.links i ≡ begun (mode_of a.mode) (direction_of a.direction) (length a.key) m.width a.start = ap (λ z. at z i) t.links ∙ at_same b.links i _ (omega (arith, b.eight)) in
      record {
        low = low;
        unused = seen_shut s memory i (at b.links i) vacant;
        only = record {
          size = t.shelf.sized;
          this = ap (seen s' memory' i) here ∙ ap₂ (λ k (x : List ℕ). Some (record { mode = mode_of a.mode; direction = direction_of a.direction; key = length a.key; cells = k; schedule = x; width = m.width; state = view (begun (mode_of a.mode) (direction_of a.direction) (length a.key) m.width a.start) })) has holds
              ∙ ap (λ z. Some (record { mode = mode_of a.mode; direction = direction_of a.direction; key = length a.key; cells = need m a.key; schedule = m.schedule a.key; width = m.width; state = z })) first_view;
          others = λ j d. ap (seen s' memory' j) (ap (λ z. at z j) t.links ∙ at_other b.links i j _ d) ∙ seen_alike s s' memory memory' j (at b.links j) (same j d);
        };
        room = omega (arith, grown_free t.shelf (omega arith) (omega (arith, many)), many, as_needed);
      }

-- ---- what the code did

-- an append for which there was room was accepted
pub appended : (s : Standing) (memory : List (List ℕ)) (i : ℕ) (items : List (List ℕ)) (r : Result (Unit {0}) Refusal) (s' : Standing) (memory' : List (List ℕ)) → i < 8 → length memory ≡ s.size → length items ≤ free s →
    Append s memory i items r s' memory' → Grown s memory i items s' memory'
appended s memory i items (Ok done) s' memory' low right room did = did.holds
appended s memory i items (Err e) s' memory' low right room did =
    let none : Some e ≡ None = did.told ∙ cond-false (ltb 15 i) _ _ (le-ltb 15 i (omega arith)) ∙ cond-false _ _ _ (ap not (eq-eqb (length memory) s.size right)) ∙ cond-false _ _ _ (le-ltb (free s) (length items) room) in
    let z : ◌≡◌ {A = ℕ} 0 1 = cc in absurd (omega arith)

-- what an accepted request for room has found
pub room_passed : {K : Type 0} (b : Bank K) (shown n : ℕ) → None ≡ first (room_checks b shown n) → (shown ≡ b.shelf.book.size) × (n ≤ free (standing b.shelf.book))
room_passed b shown n told =
    let one = none_due (not (eqb shown b.shelf.book.size)) Memory _ told in
    let two = none_due (ltb 7 (links (books b []))) Links _ one.1 in
    let three = none_due (ltb (free (standing b.shelf.book)) n) Cells None two.1 in
    (eqb-true shown b.shelf.book.size (not-false (eqb shown b.shelf.book.size) one.0), ltb-false (free (standing b.shelf.book)) n three.0)

-- the checks for room, over any memory's books
pub room_alike : {K : Type 0} (b : Bank K) (memory : List (List ℕ)) (shown n : ℕ) → first (room_checks b shown n) ≡ first ((not (eqb shown b.shelf.book.size), Memory) ∷ (ltb 7 (links (books b memory)), Links) ∷ (ltb (free (standing b.shelf.book)) n, Cells) ∷ [])
room_alike b memory shown n =
    ap (λ k. first ((not (eqb shown b.shelf.book.size), Memory) ∷ (ltb 7 k, Links) ∷ (ltb (free (standing b.shelf.book)) n, Cells) ∷ []))
    (sym (eight_seen (standing b.shelf.book) b.links []) ∙ eight_seen (standing b.shelf.book) b.links memory)

-- a link just opened is as the bank keeps it
pub begun_sits : (s : Standing) (i : ℕ) (l : Link) → l.open ≡ true → Fits l → Clear l → 1 ≤ s.size → length (s.chain i) ≤ 96 → Sits s i l
begun_sits s i l o f clear sized few =
    record { fits = λ _. f; clear = λ _. clear; sized = λ _. sized; few = λ _. few; shut = λ h. absurd (both_ways l.open h.1 o) }

pub opened_both : {K : Type 0} (m : Meaning) (b b' : Bank K) (memory memory' : List (List ℕ)) (a : Ask) (i n : ℕ) → m.need (length a.key) ≡ Ok n → i < 8 → (at b.links i).open ≡ false →
    length (m.schedule a.key) ≡ 16 * n → n ≤ free (standing b.shelf.book) → view (begun (mode_of a.mode) (direction_of a.direction) (length a.key) m.width a.start) ≡ opened a.start →
    b'.kit ≡ b.kit → b'.links ≡ set b.links i (begun (mode_of a.mode) (direction_of a.direction) (length a.key) m.width a.start) →
    Grown (standing b.shelf.book) memory i (key_cells (m.schedule a.key)) (standing b'.shelf.book) memory' →
    Opened m (books b memory) a i (books b' memory') × Takes m b memory a i b' memory'
opened_both m b b' memory memory' a i n takes low vacant long room first_view kit links grown =
    let t : Takes m b memory a i b' memory' = record { kit = kit; links = links; shelf = grown } in
    (opened_as m b b' memory memory' a i n takes low vacant long room first_view t, t)

-- a scratch of another length: nothing is done
pub open_unscratched : {K : Type 0} (m : Meaning) (b b' : Bank K) (memory memory' : List (List ℕ)) (a : Ask) → (a.scratch ≡ 1536 → ⊥) → Kept b b' → memory' ≡ memory → Opens m (books b memory) a (Err Scratch) (books b' memory')
open_unscratched m b b' memory memory' a d kept same =
    let P : List (List ℕ) → Type 0 = λ z. Opens m (books b memory) a (Err Scratch) (books b' z) in
    subst P (sym same) (record { told = told_here _ _ _ (ap not (ne_eqb a.scratch 1536 d)); holds = kept_same b b' kept memory })
