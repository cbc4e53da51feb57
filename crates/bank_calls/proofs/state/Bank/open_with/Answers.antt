use Rattle.std.proofs.Common.{◌≡◌, ℕ, ◌-◌, ◌*◌, ◌≤◌, false, List, length, take, set, Ok, Err, Result, sym, refl, ap, ◌∙◌, subst, ap₂, arith, rules, MatchResult}
use Rattle.std.proofs.lemmas.List.{length-take-le}
use Rattle.std.proofs.lemmas.Result.{err_from_is_err_and}
use Rattle.refusal.specs.declared.Refusal.{Refusal}
use Rattle.kit.specs.Meaning.{Meaning}
use Rattle.kit.proofs.Calls.{told_ok, expanded_fits}
use Rattle.shelf.specs.Standing.{standing, free}
use Rattle.shelf.specs.Calls.{Grown, Append}
use Rattle.shelf.specs.Keys.{key_cells}
use Rattle.shelf.proofs.KeyCells.{length_key_cells}
use Rattle.shelf.proofs.Room.{grown_many}
use Rattle.link.specs.declared.Link.{Link}
use Rattle.link.specs.Record.{view, begun}
use Rattle.bank.specs.Calls.{unknown, Opens, mode_of, direction_of}
use Rattle.bank_calls.specs.Seen.{books}
use Rattle.bank_calls.specs.Calls.{asked_with, Kept, Takes}
use Rattle.bank_calls.proofs.Seen.{kept_same}
use Rattle.bank_calls.proofs.Invariants.{written}
use Rattle.bank_calls.proofs.Opens.{known_by, named_by, room_told, room_alike, room_passed, appended, begun_sits, opened_both}
use Rattle.bank_calls.proofs.Guarded.{unchanged}
use Rattle.bank_calls.proofs.state.Bank.open_with.Given as given
use Rattle.bank_calls.proofs.state.Bank.open_with.Goals as goal
use Rattle.bank_calls.proofs.state.Bank.open_with.Goals.{After-opened}

pub returns-in_err-link : goal.returns-in_err-link
returns-in_err-link g c =
    let b = c.args.self.now in
    let m = g.K.Kit.meaning b.kit in
    let memory = c.args.memory.now in
    let a = asked_with 1536 memory c.args.asked.now.mode c.args.asked.now.direction c.args.asked.now.key.now c.args.asked.now.start.now in
    let n = c.in_ok-need.need in
    let known : unknown a ≡ false = known_by a c.in_ok-mode.mode c.in_ok-direction.direction c.in_ok-mode.ensures c.in_ok-direction.ensures in
    let takes : m.need (length c.args.asked.now.key.now) ≡ Ok n = told_ok (m.need (length c.args.asked.now.key.now)) n (sym c.in_ok-need.ensures) in
    let whole : length c.args.asked.now.start.now ≡ m.width = c.if-start-width.false ∙ c.width-width.ensures ∙ sym (g.met.K.Kit.width b.kit) in
    let p = err_from_is_err_and c.from_residual-in_err-link.result c.from_residual-in_err-link.ensures.1 in
    let told = c.in_err-link.ensures.told ∙ room_alike b memory (length memory) n ∙ sym (room_told m b.shelf.book.size _ (free (standing b.shelf.book)) a refl known n takes whole) in
    let P : Result ℕ Refusal → Type 0 = λ r. Opens m (books b memory) a r (books b memory) × MatchResult r (λ i. Takes m b memory a i b memory) (λ _. Kept b b × (memory ≡ memory)) in
    let q : P _ = subst P (sym (p.1 ∙ ap Err p.2)) (record { told = told; holds = kept_same b b (unchanged b b) memory }, (unchanged b b, refl)) in
    record { scratch = search rules; outcome = q.0; link = q.1 }

module _ (g : given.Over) (c : After-opened g) where
  abbrev m : Meaning
  m = g.K.Kit.meaning c.args.self.now.kit

  takes : m.need (length c.args.asked.now.key.now) ≡ Ok c.in_ok-need.need
  takes = told_ok (m.need (length c.args.asked.now.key.now)) c.in_ok-need.need (sym c.in_ok-need.ensures)

  few : (1 ≤ c.in_ok-need.need) × (c.in_ok-need.need ≤ 96)
  few = (g.met.K.Kit.sound c.args.self.now.kit).cells (length c.args.asked.now.key.now) c.in_ok-need.need takes

  -- what the request for room has found
  passed : (length c.args.memory.now ≡ c.args.self.now.shelf.book.size) × (c.in_ok-need.need ≤ free (standing c.args.self.now.shelf.book))
  passed = room_passed c.args.self.now (length c.args.memory.now) c.in_ok-need.need c.in_ok-link.ensures.told

  part : length (take (16 * c.in_ok-need.need - 0) c.args.scratch.now) ≡ 16 * c.in_ok-need.need
  part = let whole : length c.args.scratch.now ≡ 1536 = search rules in length-take-le (16 * c.in_ok-need.need - 0) c.args.scratch.now (omega (arith, whole, few.1)) ∙ omega arith

  written-schedule : c.expand.new.schedule ≡ m.schedule c.args.asked.now.key.now
  written-schedule = c.expand.ensures.written ∙ expanded_fits m c.args.asked.now.key.now (take (16 * c.in_ok-need.need - 0) c.args.scratch.now) c.in_ok-need.need takes part

  -- the schedule fills as many cells as the key needs
  long : length (m.schedule c.args.asked.now.key.now) ≡ 16 * c.in_ok-need.need
  long = ap length (sym written-schedule) ∙ c.expand.auto.schedule ∙ part

  -- the cells are taken
  grown : Grown (standing c.args.self.now.shelf.book) c.args.memory.now c.in_ok-link.link (key_cells (m.schedule c.args.asked.now.key.now)) (standing c.append_bytes.new.self.book) c.append_bytes.new.cells
  grown =
      let s = standing c.args.self.now.shelf.book in
      let P : List ℕ → Type 0 = λ xs. Append s c.args.memory.now c.in_ok-link.link (key_cells xs) c.append_bytes.result (standing c.append_bytes.new.self.book) c.append_bytes.new.cells in
      let many = length_key_cells (m.schedule c.args.asked.now.key.now) c.in_ok-need.need long in
      appended s c.args.memory.now c.in_ok-link.link (key_cells (m.schedule c.args.asked.now.key.now)) c.append_bytes.result (standing c.append_bytes.new.self.book) c.append_bytes.new.cells
      c.in_ok-link.ensures.holds.0 passed.0 (omega (arith, many, passed.1)) (subst P written-schedule c.append_bytes.ensures.outcome)

pub invariant_of-self : goal.invariant_of-self
invariant_of-self g c =
    let b = c.args.self.now in
    let s' = standing c.append_bytes.new.self.book in
    let i = c.in_ok-link.link in
    let gr = grown g c in
    let n = c.in_ok-need.need in
    let vacant = c.in_ok-link.ensures.holds in
    let many = length_key_cells ((m g c).schedule c.args.asked.now.key.now) n (long g c) in
    let sized : 1 ≤ s'.size = omega (arith, gr.sized, (few g c).0, (passed g c).1) in
    let short : length (s'.chain i) ≤ 96 = omega (arith, grown_many gr, ap length (b.shut i vacant), many, (few g c).1) in
    written b i c.opened.result s' vacant.0 (begun_sits s' i c.opened.result (ap (λ (l : Link). l.open) c.opened.ensures.record) c.opened.ensures.fits c.opened.ensures.clear sized short) gr.sized gr.others

pub returns : goal.returns
returns g c =
    let d = (goal.at.returns g c).After-opened in
    let b = d.args.self.now in
    let memory = d.args.memory.now in
    let a = asked_with 1536 memory d.args.asked.now.mode d.args.asked.now.direction d.args.asked.now.key.now d.args.asked.now.start.now in
    let n = d.in_ok-need.need in
    let i = d.in_ok-link.link in
    let known : unknown a ≡ false = known_by a d.in_ok-mode.mode d.in_ok-direction.direction d.in_ok-mode.ensures d.in_ok-direction.ensures in
    let whole : length d.args.asked.now.start.now ≡ (m g d).width = d.if-start-width.false ∙ d.width-width.ensures ∙ sym (g.met.K.Kit.width b.kit) in
    let vacant = d.in_ok-link.ensures.holds in
    let told = d.in_ok-link.ensures.told ∙ room_alike b memory (length memory) n ∙ sym (room_told (m g d) b.shelf.book.size _ (free (standing b.shelf.book)) a refl known n (takes g d) whole) in
    let named = named_by a d.in_ok-mode.mode d.in_ok-direction.direction d.in_ok-mode.ensures d.in_ok-direction.ensures in
    let is : d.opened.result ≡ begun (mode_of a.mode) (direction_of a.direction) (length a.key) (m g d).width a.start =
    d.opened.ensures.record ∙ ap₂ (λ x y. begun x y (length a.key) (length a.start) a.start) named.0 named.1 ∙ ap (λ w. begun (mode_of a.mode) (direction_of a.direction) (length a.key) w a.start) whole in
    let q = opened_both (m g d) b _ memory d.append_bytes.new.cells a i n (takes g d) vacant.0 vacant.1 (long g d) (passed g d).1 (sym (ap view is) ∙ d.opened.ensures.state) refl (ap (set b.links i) is) (grown g d) in
    record { scratch = search rules; outcome = record { told = told; holds = q.0 }; link = q.1 }
