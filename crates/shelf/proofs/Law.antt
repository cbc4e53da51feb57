-- The law of every past of a shelf. Assumes nothing.
use Rattle.std.proofs.Common.{◌≡◌, ℕ, ◌+◌, ◌<◌, ◌≤◌, false, cond, eqb, ltb, leb, List, [], ◌∷◌, ◌++◌, length, Some, Ok, Err, Result, sym, refl, ap, ◌∙◌, subst, inl, inr, arith, length-append}
use Rattle.std.specs.List.{slice_get}
use Rattle.std.proofs.lemmas.Bool.{cases_eq, cases_lt, eq-eqb, ne_eqb, ltb-true, ltb-false, lt-ltb, leb-true, le-leb, cond-true, cond-false}
use Rattle.refusal.specs.Checks.{first, refusal}
use Rattle.refusal.specs.declared.Refusal.{Refusal}
use Rattle.refusal.specs.declared.Refusal.TheVariants.{Position, Cells}
use Rattle.refusal.proofs.Checks.{told_here}
use Rattle.shelf.specs.Standing.{Standing, total, free}
use Rattle.shelf.specs.Items.{items_at, list, Below}
use Rattle.shelf.specs.Calls.{append_checks, read_checks, Grown, Emptied, Sizing, Append, Read, Drop}
use Rattle.shelf.specs.Past.{Call, append, drop, left, room, AppendDue, ReadDue, Lawful, Shown, its_own, another, Ran, starts, appends, reads, drops, Law, AddsAppend, AddsRead, AddsDrop}
use Rattle.shelf.proofs.Access.{third_exactly, passed}
use Rattle.shelf.proofs.Pick.{length_items, below_append}
use Rattle.shelf.proofs.Totals.{total_same, total_none, total_raised, total_fallen}

-- ---- what a past says of the shelf and its memory

record Says {T : Type 0} (n : ℕ) (past : List (Call T)) (s : Standing) (own : List T) : Type 0 where
  pub sized : s.size ≡ n
  pub long : length own ≡ n
  pub below : (c : ℕ) → c < 16 → Below n (s.chain c)
  pub lists : (c : ℕ) → c < 16 → list s own c ≡ left past c
  pub fits : total (λ c. length (left past c)) ≤ n
  pub lawful : Lawful n past

module _ {T : Type 0} where
  -- the length of a chain, and the free cells, are those that the past has left
  long_left : {n : ℕ} {past : List (Call T)} {s : Standing} {own : List T} → Says n past s own → (c : ℕ) → c < 16 → length (s.chain c) ≡ length (left past c)
  long_left {n} {past} {s} {own} says c h =
      let P : ℕ → Type 0 = λ m. Below m (s.chain c) in
      sym (length_items own (s.chain c) (subst P (sym says.long) (says.below c h))) ∙ ap length (says.lists c h)

  free_left : {n : ℕ} {past : List (Call T)} {s : Standing} {own : List T} → Says n past s own → free s ≡ room n past
  free_left {n} {past} {s} {own} says =
      let same = total_same (λ c. length (s.chain c)) (λ c. length (left past c)) (long_left says) in
      omega (arith, same, says.sized)

  -- the memory stays where a call is refused
  same_memory : {n : ℕ} {own own' shown shown' : List T} → Shown n own own' shown shown' → shown' ≡ shown → own' ≡ own
  same_memory (its_own e f) same = f ∙ same ∙ e
  same_memory (another ne f) same = f

  -- ---- append

  append_due : {n : ℕ} {past : List (Call T)} {s : Standing} {own : List T} (shown c : ℕ) (items : List T) (r : Result (Unit {0}) Refusal) →
      Says n past s own → refusal r ≡ first (append_checks s.size (free s) shown c (length items)) → AppendDue n past shown c items r
  append_due {n} {past} {s} {own} shown c items r says told =
      let answer : refusal r ≡ first (append_checks n (room n past) shown c (length items)) = told ∙ ap (λ z. first (append_checks z (free s) shown c (length items))) says.sized ∙ ap (λ z. first (append_checks n z shown c (length items))) (free_left says) in
      record {
        answer = answer;
        short = λ low whole. (let x = third_exactly low whole r (ltb (room n past) (length items)) Cells answer in
            (λ e. ltb-true (room n past) (length items) (x.0 e), λ h. x.1 (lt-ltb (room n past) (length items) h)));
      }

  after_append : {n : ℕ} {past : List (Call T)} {s s' : Standing} {own own' shown shown' : List T} (c : ℕ) (items : List T) (r : Result (Unit {0}) Refusal) →
      Says n past s own → Shown n own own' shown shown' → Append s shown c items r s' shown' → Says n (append (length shown) c items r ∷ past) s' own'
  after_append {n} {past} {s} {s'} {own} {own'} {shown} {shown'} c items (Err e) says at did =
      let es : s' ≡ s = did.holds.0 in
      let eo : own' ≡ own = same_memory at did.holds.1 in
      record {
        sized = ap (λ z. z.size) es ∙ says.sized;
        long = ap length eo ∙ says.long;
        below = λ d h. (let P : Standing → Type 0 = λ z. Below n (z.chain d) in subst P (sym es) (says.below d h));
        lists = λ d h. ap (λ z. list z own' d) es ∙ ap (λ z. list s z d) eo ∙ says.lists d h;
        fits = says.fits;
        lawful = (append_due (length shown) c items (Err e) says did.told, says.lawful);
      }
  after_append {n} {past} {s} {s'} {own} {own'} {shown} {shown'} c items (Ok tt) says (another ne eo) did =
      let p = passed s.size (length shown) c (ltb (free s) (length items)) Cells did.told in absurd (ne (p.1 ∙ says.sized))
  after_append {n} {past} {s} {s'} {own} {own'} {shown} {shown'} c items (Ok tt) says (its_own e f) did =
      record {
        sized = g.sized ∙ says.sized;
        long = ap length f ∙ g.long ∙ ap length e ∙ says.long;
        below = below';
        lists = lists';
        fits = omega (arith, raised, ltb-false (free s) (length items) p.2, free_left says, says.fits);
        lawful = (append_due (length shown) c items (Ok tt) says did.told, says.lawful);
      }
    where
      g : Grown s shown c items s' shown'
      g = did.holds

      p : (c < 16) × (length shown ≡ s.size) × (ltb (free s) (length items) ≡ false)
      p = passed s.size (length shown) c (ltb (free s) (length items)) Cells did.told

      below' : (d : ℕ) → d < 16 → Below n (s'.chain d)
      below' d h =
          let P : List ℕ → Type 0 = Below n in
          let Q : ℕ → Type 0 = λ m. Below m g.taken in
          elim (cases_eq d c) [
            | inl q ↦ subst P (sym (ap s'.chain q ∙ g.added)) (below_append n (s.chain c) g.taken (says.below c p.0) (subst Q says.sized g.inside))
            | inr q ↦ subst P (sym (g.others d h q)) (says.below d h)
          ]

      lists' : (d : ℕ) → d < 16 → list s' own' d ≡ cond (eqb d c) (left past d ++ items) (left past d)
      lists' d h =
          elim (cases_eq d c) [
            | inl q ↦ ap (λ z. list s' z d) f ∙ ap (list s' shown') q ∙ g.holds ∙ ap (λ xs. xs ++ items) (ap (λ z. list s z c) e ∙ ap (list s own) (sym q) ∙ says.lists d h)
                ∙ sym (cond-true (eqb d c) (left past d ++ items) (left past d) (eq-eqb d c q))
            | inr q ↦ ap (λ z. list s' z d) f ∙ g.kept d h q ∙ ap (λ z. list s z d) e ∙ says.lists d h ∙ sym (cond-false (eqb d c) (left past d ++ items) (left past d) (ne_eqb d c q))
          ]

      raised : total (λ d. length (cond (eqb d c) (left past d ++ items) (left past d))) ≤ total (λ d. length (left past d)) + length items
      raised =
          total_raised (λ d. length (left past d)) (λ d. length (cond (eqb d c) (left past d ++ items) (left past d))) c (length items)
          (λ d ne. omega (arith, ap length (cond-false (eqb d c) (left past d ++ items) (left past d) (ne_eqb d c ne))))
          (omega (arith, ap length (cond-true (eqb c c) (left past c ++ items) (left past c) (eq-eqb c c refl)), length-append (left past c) items))

  -- ---- read

  read_due : {n : ℕ} {past : List (Call T)} {s : Standing} {own : List T} (shown : List T) (c p : ℕ) (r : Result T Refusal) →
      Says n past s own → Shown n own own shown shown → Read s shown c p r → ReadDue n past (length shown) c p r
  read_due {n} {past} {s} {own} shown c p r says at did =
      record {
        answer = answer;
        gives = λ x e. gives r x e did;
        ended = λ low whole. (let y = third_exactly low whole r (leb (length (left past c)) p) Position answer in
            (λ e. leb-true (length (left past c)) p (y.0 e), λ h. y.1 (le-leb (length (left past c)) p h)));
      }
    where
      -- a chain above 15 is told first, whatever its length
      answer : refusal r ≡ first (read_checks n (length (left past c)) (length shown) c p)
      answer =
          did.told ∙ ap (λ z. first (read_checks z (length (s.chain c)) (length shown) c p)) says.sized ∙ elim (cases_lt c 16) [
            | inl low ↦ ap (λ z. first (read_checks n z (length shown) c p)) (long_left says c low)
            | inr high ↦ sym (told_here _ _ _ (lt-ltb 15 c (omega arith))) ∙ told_here _ _ _ (lt-ltb 15 c (omega arith))
          ]

      gives : (r : Result T Refusal) (x : T) → r ≡ Ok x → Read s shown c p r → slice_get (left past c) p ≡ Some x
      gives (Err e) x is did = let z : ◌≡◌ {A = ℕ} 0 1 = cc in absurd (omega arith)
      gives (Ok y) x is did =
          let q = passed s.size (length shown) c (leb (length (s.chain c)) p) Position did.told in
          let xy : y ≡ x = cc in
          elim at [
            | its_own e f ↦ ap (λ xs. slice_get xs p) (sym (ap (λ z. list s z c) e ∙ says.lists c q.0)) ∙ did.holds ∙ ap Some xy
            | another ne f ↦ absurd (ne (q.1 ∙ says.sized))
          ]

  -- ---- drop

  after_drop : {n : ℕ} {past : List (Call T)} {s s' : Standing} {own : List T} (c : ℕ) (r : Result (Unit {0}) Refusal) →
      Says n past s own → Drop s c r s' → Says n (drop c r ∷ past) s' own
  after_drop {n} {past} {s} {s'} {own} c (Err e) says did =
      let es : s' ≡ s = did.holds in
      record {
        sized = ap (λ z. z.size) es ∙ says.sized;
        long = says.long;
        below = λ d h. (let P : Standing → Type 0 = λ z. Below n (z.chain d) in subst P (sym es) (says.below d h));
        lists = λ d h. ap (λ z. list z own d) es ∙ says.lists d h;
        fits = says.fits;
        lawful = (did.told, says.lawful);
      }
  after_drop {n} {past} {s} {s'} {own} c (Ok tt) says did =
      record {
        sized = g.sized ∙ says.sized;
        long = says.long;
        below = below';
        lists = lists';
        fits = omega (arith, fallen, says.fits);
        lawful = (did.told, says.lawful);
      }
    where
      g : Emptied s c s'
      g = did.holds

      below' : (d : ℕ) → d < 16 → Below n (s'.chain d)
      below' d h =
          let P : List ℕ → Type 0 = Below n in
          elim (cases_eq d c) [
            | inl q ↦ subst P (sym (ap s'.chain q ∙ g.none)) tt
            | inr q ↦ subst P (sym (g.others d h q)) (says.below d h)
          ]

      lists' : (d : ℕ) → d < 16 → list s' own d ≡ cond (eqb d c) [] (left past d)
      lists' d h =
          elim (cases_eq d c) [
            | inl q ↦ ap (list s' own) q ∙ ap (items_at own) g.none ∙ sym (cond-true (eqb d c) [] (left past d) (eq-eqb d c q))
            | inr q ↦ ap (items_at own) (g.others d h q) ∙ says.lists d h ∙ sym (cond-false (eqb d c) [] (left past d) (ne_eqb d c q))
          ]

      fallen : total (λ d. length (cond (eqb d c) [] (left past d))) ≤ total (λ d. length (left past d))
      fallen =
          total_fallen (λ d. length (left past d)) (λ d. length (cond (eqb d c) [] (left past d)))
          (λ d. elim (cases_eq d c) [
            | inl q ↦ omega (arith, ap length (cond-true (eqb d c) [] (left past d) (eq-eqb d c q)))
            | inr q ↦ omega (arith, ap length (cond-false (eqb d c) [] (left past d) (ne_eqb d c q)))
          ])

  -- ---- every past

  says_after : {n : ℕ} {past : List (Call T)} {s : Standing} {own : List T} → Ran n past s own → Says n past s own
  says_after {n} {past} {s} {own} (starts empty long) =
      record {
        sized = empty.sized;
        long = long;
        below = λ c h. (let P : List ℕ → Type 0 = Below n in subst P (sym (empty.none c h)) tt);
        lists = λ c h. ap (items_at own) (empty.none c h);
        fits = total_none n;
        lawful = tt;
      }
  says_after (appends c items r ran at did) = after_append c items r (says_after ran) at did
  says_after (reads {shown = shown} c p r ran at did) =
      let says = says_after ran in
      record { sized = says.sized; long = says.long; below = says.below; lists = says.lists; fits = says.fits; lawful = (read_due shown c p r says at did, says.lawful) }
  says_after (drops c r ran did) = after_drop c r (says_after ran) did

pub law : {T : Type 0} → Law T
law n past s own ran =
    let says = says_after ran in
    record { lawful = says.lawful; fits = says.fits; tells = free_left says; counts = long_left says; lists = says.lists }

-- ---- how a call adds itself to a past

pub adds_append : {T : Type 0} (s : Standing) (shown : List T) (c : ℕ) (items : List T) (r : Result (Unit {0}) Refusal) (s' : Standing) (shown' : List T) →
    Append s shown c items r s' shown' → AddsAppend s shown c items r s' shown'
adds_append s shown c items r s' shown' did n past own own' ran at = appends c items r ran at did

pub adds_read : {T : Type 0} (s : Standing) (shown : List T) (c p : ℕ) (r : Result T Refusal) → Read s shown c p r → AddsRead s shown c p r
adds_read s shown c p r did n past own ran at = reads c p r ran at did

pub adds_drop : {T : Type 0} (s : Standing) (c : ℕ) (r : Result (Unit {0}) Refusal) (s' : Standing) → Drop s c r s' → AddsDrop T s c r s'
adds_drop s c r s' did n past own ran = drops c r ran did

-- an accepted size begins the empty past, with any items in memory
pub begins : {T : Type 0} (s : Standing) (n : ℕ) (r : Result (Unit {0}) Refusal) (s' : Standing) → Sizing s n r s' → r ≡ Ok tt → (own : List T) → length own ≡ n → Ran n [] s' own
begins s n (Ok tt) s' did e own long = starts did.holds long
begins s n (Err f) s' did e own long = let z : ◌≡◌ {A = ℕ} 0 1 = cc in absurd (omega arith)
