-- A report's pieces of 11 bytes. Assumes nothing.
use Rattle.std.proofs.Common.{◌≡◌, ℕ, suc, ◌+◌, ◌*◌, ◌/◌, ◌%◌, ◌^◌, ◌≤◌, List, ◌++◌, ◌<◌, [], ◌∷◌, length, take, drop, map, zero, refl, sym, ap, ap₂, ◌∙◌, subst, arith, lit<}
use Rattle.std.proofs.lemmas.List.{take-take, drop-take, drop-drop}
use Rattle.std.proofs.lemmas.Nat.{div-mul-add}
use Rattle.std.specs.List.{IsSplitAt, flat_map}
use Rattle.std.specs.Simd.{first_chunks}
use Rattle.patrol.specs.Reports.{report_bytes, told_count, told_bytes, Begins}
use Rattle.signal.specs.Coded.{coded}
use Rattle.signal.specs.declared.record.SignalRecord.{SignalRecord}

-- k pieces of n items lie in the first n * k
pieces-within : {X : Type 0} (n k : ℕ) (xs : List X) → first_chunks n k (take (n * k) xs) ≡ first_chunks n k xs
pieces-within n zero xs = refl
pieces-within n (suc k) xs =
    let long : n * suc k ≡ n + n * k = omega arith in
    let less : n ≤ n * suc k = omega arith in
    ap₂ (λ p ps. p ∷ ps) (take-take n (n * suc k) xs less) (ap (first_chunks n k) (ap (λ m. drop n (take m xs)) long ∙ drop-take n (n * k) xs) ∙ pieces-within n k (drop n xs))

-- a text that is cut behind its count k, and then behind k pieces
pub begins : (text later body rest : List ℕ) (pieces : List (List ℕ)) (k : ℕ) → k ≡ told_count text → later ≡ drop 2 text → length later + 2 ≡ length text
    → IsSplitAt later (11 * k) body rest → pieces ≡ first_chunks 11 (length body / 11) body → Begins text pieces rest
begins text later body rest pieces k is front long cut are =
    let times : 11 * k ≡ k * 11 + 0 = omega arith in
    let many : length body / 11 ≡ k = ap (λ n. n / 11) (cut.3 ∙ times) ∙ div-mul-add k 11 0 (lit< tt) in
    record {
      whole = subst (λ n. 2 + 11 * n ≤ length text) is (omega (arith, cut.0, long));
      pieces = are ∙ ap₂ (first_chunks 11) many (cut.1 ∙ ap (take (11 * k)) front) ∙ pieces-within 11 k (drop 2 text) ∙ ap (λ n. first_chunks 11 n (drop 2 text)) is;
      behind = cut.2 ∙ ap (drop (11 * k)) front ∙ drop-drop (11 * k) 2 text ∙ ap (λ n. drop (2 + 11 * n) text) is;
    }

-- ---- a report that was written is read again

pieces-of : (list : List SignalRecord) (rest : List ℕ) → first_chunks 11 (length list) (flat_map coded list ++ rest) ≡ map coded list
pieces-of [] rest = refl
pieces-of (r ∷ rs) rest = ap (λ ps. coded r ∷ ps) (pieces-of rs rest)

behind-them : (list : List SignalRecord) (rest : List ℕ) → drop (11 * length list) (flat_map coded list ++ rest) ≡ rest
behind-them [] rest = refl
behind-them (r ∷ rs) rest =
    let all = flat_map coded (r ∷ rs) ++ rest in
    let more : 11 * length (r ∷ rs) ≡ 11 + 11 * length rs = omega arith in
    ap (λ m. drop m all) more ∙ sym (drop-drop (11 * length rs) 11 all) ∙ behind-them rs rest

two-bytes : (n : ℕ) → n < 2 ^ 16 → n / 256 % 256 * 256 + n % 256 ≡ n
two-bytes n small = omega arith

count-of : (list : List SignalRecord) (rest : List ℕ) → length list < 2 ^ 16 → told_count (report_bytes list ++ rest) ≡ length list
count-of list rest small = two-bytes (length list) small

lens : (list : List SignalRecord) (rest : List ℕ) → length (flat_map coded list ++ rest) ≡ 11 * length list + length rest
lens [] rest = omega arith
lens (r ∷ rs) rest = let shorter = lens rs rest in omega (arith, shorter)

-- its text is long enough
pub long : (list : List SignalRecord) (rest text : List ℕ) → length list < 2 ^ 16 → text ≡ report_bytes list ++ rest → told_bytes text ≤ length text
long list rest text small is =
    let whole = report_bytes list ++ rest in
    let n = lens list rest in
    let enough : 2 + 11 * length list ≤ length whole = omega (arith, n) in
    subst (λ t. told_bytes t ≤ length t) (sym is) (subst (λ k. 2 + 11 * k ≤ length whole) (sym (count-of list rest small)) enough)

-- and what is cut from it is its records' bytes, and what comes after
pub back : (list : List SignalRecord) (rest text : List ℕ) (pieces : List (List ℕ)) (later : List ℕ) → length list < 2 ^ 16 → text ≡ report_bytes list ++ rest → Begins text pieces later
    → (pieces ≡ map coded list) × (later ≡ rest)
back list rest text pieces later small is begun =
    let whole = report_bytes list ++ rest in
    let count = count-of list rest small in
    let b = subst (λ t. Begins t pieces later) is begun in
    (b.pieces ∙ ap (λ k. first_chunks 11 k (drop 2 whole)) count ∙ pieces-of list rest, b.behind ∙ ap (λ k. drop (2 + 11 * k) whole) count ∙ sym (drop-drop (11 * length list) 2 whole) ∙ behind-them list rest)
