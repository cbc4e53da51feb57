-- A layer's answer to a key length that is accepted. Assumes nothing.
use Rattle.std.proofs.Common.{◌≡◌, ℕ, ◌+◌, ◌*◌, ◌<◌, ◌≤◌, Bool, true, false, cond, ◌||◌, ltb, ◌⊎◌, Some, None, Ok, Err, Option, Result, sym, refl, ap, ◌∙◌, inl, inr, arith}
use Rattle.std.proofs.lemmas.Bool.{ltb-false, or_parts, le-ltb, lt-ltb, or_from, or_left, or_right}
use Rattle.refusal.specs.declared.KeyFault.{KeyFault}
use Rattle.refusal.specs.declared.Refusal.{Refusal}
use Rattle.refusal.specs.Checks.{first}
use Rattle.kit.specs.Calls.{told, expand_checks}
use Rattle.kit.proofs.Calls.{cells_due}
use Rattle.refusal.specs.Faults.{here}
use Rattle.layers.specs.Depth.{risen, bounded, both}

pub ok_is : {m n : ℕ} → ◌≡◌ {A = Result ℕ KeyFault} (Ok m) (Ok n) → m ≡ n
ok_is e = cc

pub err_not_ok : {f : KeyFault} {n : ℕ} → ◌≡◌ {A = Result ℕ KeyFault} (Err f) (Ok n) → ⊥
err_not_ok e = let z : ◌≡◌ {A = ℕ} 0 1 = cc in omega arith

-- what is accepted is within the bounds
cond_ok : (b : Bool) (fault : KeyFault) (n r : ℕ) → cond b (Err fault) (Ok n) ≡ Ok r → (b ≡ false) × (r ≡ n)
cond_ok true fault n r e = absurd (err_not_ok e)
cond_ok false fault n r e = (refl, sym (ok_is e))

pub bounded_ok : (len n r : ℕ) → bounded len n ≡ Ok r → (r ≡ n) × (n ≤ 96) × (len ≤ 256)
bounded_ok len n r e =
    let c = cond_ok (ltb 96 n || ltb 256 len) (here len) n r e in
    let parts = or_parts (ltb 96 n) (ltb 256 len) c.0 in
    (c.1, ltb-false 96 n parts.0, ltb-false 256 len parts.1)

pub bounded_within : (len n : ℕ) → n ≤ 96 → len ≤ 256 → bounded len n ≡ Ok n
bounded_within len n h k = ap (λ b. cond b (Err (here len)) (Ok n)) (or_from (ltb 96 n) (ltb 256 len) (le-ltb 96 n h) (le-ltb 256 len k))

pub bounded_above : (len n : ℕ) → (96 < n) ⊎ (256 < len) → bounded len n ≡ Err (here len)
bounded_above len n (inl h) = ap (λ b. cond b (Err (here len)) (Ok n)) (or_left (ltb 96 n) (ltb 256 len) (lt-ltb 96 n h))
bounded_above len n (inr h) = ap (λ b. cond b (Err (here len)) (Ok n)) (or_right (ltb 96 n) (ltb 256 len) (lt-ltb 256 len h))

pub risen_ok : (below : Result ℕ KeyFault) (n : ℕ) → risen below ≡ Ok n → below ≡ Ok n
risen_ok (Ok m) n e = e
risen_ok (Err fault) n e = absurd (err_not_ok e)

-- both parts are accepted
pub record Parts (len : ℕ) (first second : Result ℕ KeyFault) (r : ℕ) : Type 0 where
  pub cells_first : ℕ
  pub cells_second : ℕ
  pub first_ok : first ≡ Ok cells_first
  pub second_ok : second ≡ Ok cells_second
  pub sum : r ≡ cells_first + cells_second
  pub few : r ≤ 96
  pub short : len ≤ 256

pub both_ok : (len : ℕ) (first second : Result ℕ KeyFault) (r : ℕ) → both len first second ≡ Ok r → Parts len first second r
both_ok len (Err fault) second r e = absurd (err_not_ok e)
both_ok len (Ok m) (Err fault) r e = absurd (err_not_ok e)
both_ok len (Ok m) (Ok n) r e =
    let b = bounded_ok len (m + n) r e in
    let few : r ≤ 96 = omega arith in
    record { cells_first = m; cells_second = n; first_ok = refl; second_ok = refl; sum = b.0; few = few; short = b.2 }

split_by : (len p : ℕ) (rest : Result ℕ KeyFault) (r : ℕ) (b : Bool) → ltb len p ≡ b → cond b (Err (here len)) rest ≡ Ok r → (p ≤ len) × (rest ≡ Ok r)
split_by len p rest r true eb e = absurd (err_not_ok e)
split_by len p rest r false eb e = (ltb-false len p eb, e)

-- a key that is long enough to split
pub split_ok : (len p : ℕ) (rest : Result ℕ KeyFault) (r : ℕ) → cond (ltb len p) (Err (here len)) rest ≡ Ok r → (p ≤ len) × (rest ≡ Ok r)
split_ok len p rest r e = split_by len p rest r (ltb len p) refl e

-- ---- what is told of an answer

pub refused_not_ok : {reason : Refusal} {n : ℕ} → ◌≡◌ {A = Result ℕ Refusal} (Err reason) (Ok n) → ⊥
refused_not_ok e = let z : ◌≡◌ {A = ℕ} 0 1 = cc in omega arith

-- a refusal from below is what the layer tells
pub both_refused : (len : ℕ) (first second : Result ℕ KeyFault) (reason : Refusal) → told first ≡ Err reason → told (both len first second) ≡ Err reason
both_refused len (Ok m) second reason e = let z : ◌≡◌ {A = ℕ} 0 1 = cc in absurd (omega arith)
both_refused len (Err fault) second reason e = e

at_second : (len m : ℕ) (second : Result ℕ KeyFault) (reason : Refusal) → told second ≡ Err reason → told (both len (Ok m) second) ≡ Err reason
at_second len m (Ok n) reason e = let z : ◌≡◌ {A = ℕ} 0 1 = cc in absurd (omega arith)
at_second len m (Err fault) reason e = e

pub both_refused_second : (len m : ℕ) (first second : Result ℕ KeyFault) (reason : Refusal) → first ≡ Ok m → told second ≡ Err reason → told (both len first second) ≡ Err reason
both_refused_second len m first second reason e f = ap (λ r. told (both len r second)) e ∙ at_second len m second reason f

-- a schedule that is not refused has the cells of its key
pub expand_due : (need : Result ℕ KeyFault) (out : ℕ) → first (expand_checks need out) ≡ None → (n : ℕ) × ((need ≡ Ok n) × (out ≡ 16 * n))
expand_due (Err fault) out e = let z : ◌≡◌ {A = ℕ} 0 1 = cc in absurd (omega arith)
expand_due (Ok n) out e = (n, (refl, cells_due n out e))

-- a call that is refused, where nothing is due
pub none_due : {reason : Refusal} {r : Option Refusal} → Some reason ≡ r → r ≡ None → ⊥
none_due e f = let d = e ∙ f in let z : ◌≡◌ {A = ℕ} 0 1 = cc in omega arith
