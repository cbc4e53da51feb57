-- The code of the key schedule. Assumes nothing.
use Rattle.std.proofs.Common.{◌≡◌, ℕ, zero, suc, ◌+◌, ◌-◌, ◌*◌, ◌<◌, ◌≤◌, List, [], ◌++◌, length, take, drop, set, replicate, sym, refl, ap, ◌∙◌, ap₂, append_assoc, arith}
use lib.ListN.{length-replicate}
use Rattle.std.proofs.lemmas.List.{set-append_left, set-append_right, replicate-append-replicate, append-nil, take-append-drop}
use Rattle.mkv.specs.Keys.{number_key, next_left, next_right, updates}

-- ---- the round keys (n, 0) and (0, 0), as eight words

pub zeros_is : (t : ℕ) → let z = replicate {A = ℕ} t 0 in z ++ (z ++ (z ++ (z ++ (z ++ (z ++ (z ++ (z ++ []))))))) ≡ replicate (8 * t) 0
zeros_is t = simp (append-nil, replicate-append-replicate) (ap (λ n. replicate n 0) (omega arith))

past : (t i n : ℕ) (l : List ℕ) → set (replicate t 0 ++ l) (t + i) n ≡ replicate t 0 ++ set l i n
past t i n l =
    let e : t + i - t ≡ i = omega arith in
    set-append_right (replicate t 0) l t (t + i) n (length-replicate t 0) (omega arith) ∙ ap (λ j. replicate t 0 ++ set l j n) e

pub number_is : (t n : ℕ) → 0 < t → let z = replicate {A = ℕ} t 0 in z ++ (z ++ (z ++ (set z (t - 1) n ++ (z ++ (z ++ (z ++ (z ++ []))))))) ≡ number_key t n
unfolding number_key
number_is t n h =
    let z = replicate {A = ℕ} t 0 in
    let r = z ++ (z ++ (z ++ (z ++ []))) in
    let i = t - 1 in
    let place : 4 * t - 1 ≡ t + (t + (t + i)) = omega arith in
    let l : length z ≡ t = length-replicate t 0 in
    sym (ap₂ (λ l j. set l j n) (sym (zeros_is t)) place
    ∙ past t (t + (t + i)) n (z ++ (z ++ (z ++ r)))
    ∙ ap (λ x. z ++ x) (past t (t + i) n (z ++ (z ++ r)) ∙ ap (λ x. z ++ x) (past t i n (z ++ r) ∙ ap (λ x. z ++ x) (set-append_left z r i n (omega arith)))))

-- ---- the updates

pub updates_none : (t : ℕ) (m : List (List ℕ)) (r i : ℕ) (left right : List ℕ) → r ≤ 0 → updates t m r i left right ≡ []
unfolding updates
updates_none t m zero i left right h = refl
updates_none t m (suc r) i left right h = absurd (omega arith)

-- what is done, and then what r updates write, is all; so it stays once the first of them is done and leaves state
pub updates_more : (t : ℕ) (m : List (List ℕ)) (r i : ℕ) (left right state done all : List ℕ) → 0 < r
    → take (4 * t) state ≡ next_left t m i right → drop (4 * t) state ≡ next_right t m i left right
    → done ++ updates t m r i left right ≡ all
    → (done ++ state) ++ updates t m (r - 1) (i + 1) (take (4 * t) state) (drop (4 * t) state) ≡ all
unfolding updates
updates_more t m zero i left right state done all h el er e = absurd (omega arith)
updates_more t m (suc r) i left right state done all h el er e =
    let a = take (4 * t) state in
    let b = drop (4 * t) state in
    let n : suc r - 1 ≡ r = omega arith in
    let later = updates t m (suc r - 1) (i + 1) a b in
    append_assoc done state later
    ∙ ap (λ x. done ++ x) (ap (λ s. s ++ later) (sym (take-append-drop (4 * t) state)) ∙ append_assoc a b later
    ∙ ap₂ (λ x y. x ++ (y ++ updates t m (suc r - 1) (i + 1) x y)) el er
    ∙ ap (λ k. next_left t m i right ++ (next_right t m i left right ++ updates t m k (i + 1) (next_left t m i right) (next_right t m i left right))) n)
    ∙ e
