-- A matrix undoes another where their product is the identity. Assumes nothing.
use Rattle.std.proofs.Common.{◌≡◌, ℕ, zero, suc, ◌<◌, Bool, true, T, ltb, List, [], ◌∷◌, map, length, get_or, replicate, sym, refl, ap, ◌∙◌, ap₂, zero-lt-suc, arith, ltb→lt}
use lib.Bits.{bit_xor, xor_lt, xor_zero_r}
use Rattle.std.proofs.lemmas.List.{length-map, get_or-map}
use Rattle.block.specs.Bytes.{Bytes, Block, xor}
use Rattle.block.proofs.Test.{both, both_left, both_right}
use Rattle.block.proofs.Parts.{low?, bytes_by}
use Rattle.field.specs.Byte.{mul}
use Rattle.field.specs.Matrix.{dot, apply, combine, times, identity, AllBytes, Undoes}
use Rattle.field.proofs.Laws.{xor4, mul_xor_left, mul_xor_right, mul_assoc, mul_lt, mul_zero_left, mul_zero_right, mul_one_left}

pub dot_lt : (p : ℕ) (r v : List ℕ) → p < 256 → Bytes r → dot p r v < 256
unfolding dot
dot_lt p [] v hp br = zero-lt-suc 255
dot_lt p (r ∷ rs) [] hp br = zero-lt-suc 255
dot_lt p (r ∷ rs) (x ∷ xs) hp br = xor_lt 8 (mul p r x) (dot p rs xs) (mul_lt p r x hp br.0) (dot_lt p rs xs hp br.1)

pub apply_bytes : (p : ℕ) (m : List (List ℕ)) (v : List ℕ) → p < 256 → AllBytes m → Bytes (apply p m v)
unfolding apply
apply_bytes p [] v hp bm = tt
apply_bytes p (r ∷ rs) v hp bm = (dot_lt p r v hp bm.0, apply_bytes p rs v hp bm.1)

dot_add : (p : ℕ) (u w v : List ℕ) → dot p (xor u w) v ≡ bit_xor (dot p u v) (dot p w v)
unfolding dot xor
dot_add p [] w v = refl
dot_add p (x ∷ u) [] v = sym (xor_zero_r (dot p (x ∷ u) v))
dot_add p (x ∷ u) (y ∷ w) [] = refl
dot_add p (x ∷ u) (y ∷ w) (z ∷ v) =
    ap₂ bit_xor (mul_xor_left p x y z) (dot_add p u w v) ∙ xor4 (mul p x z) (mul p y z) (dot p u v) (dot p w v)

dot_scale : (p c : ℕ) (r v : List ℕ) → p < 256 → c < 256 → Bytes r → Bytes v → dot p (map (mul p c) r) v ≡ mul p c (dot p r v)
unfolding dot
dot_scale p c [] v hp hc br bv = sym (mul_zero_right p c hc)
dot_scale p c (r ∷ rs) [] hp hc br bv = sym (mul_zero_right p c hc)
dot_scale p c (r ∷ rs) (x ∷ xs) hp hc br bv =
    ap₂ bit_xor (mul_assoc p c r x hp hc br.0 bv.0) (dot_scale p c rs xs hp hc br.1 bv.1)
    ∙ sym (mul_xor_right p c (mul p r x) (dot p rs xs) hp hc (mul_lt p r x hp br.0) (dot_lt p rs xs hp br.1))

dot_combine : (p : ℕ) (cs : List ℕ) (m : List (List ℕ)) (v : List ℕ) → p < 256 → Bytes cs → AllBytes m → Bytes v
    → dot p (combine p cs m) v ≡ dot p cs (apply p m v)
unfolding dot combine apply
dot_combine p [] m v hp bc bm bv = refl
dot_combine p (c ∷ cs) [] v hp bc bm bv = refl
dot_combine p (c ∷ cs) (r ∷ rs) v hp bc bm bv =
    dot_add p (map (mul p c) r) (combine p cs rs) v
    ∙ ap₂ bit_xor (dot_scale p c r v hp bc.0 bm.0 bv) (dot_combine p cs rs v hp bc.1 bm.1 bv)

apply_times : (p : ℕ) (n m : List (List ℕ)) (v : List ℕ) → p < 256 → AllBytes n → AllBytes m → Bytes v
    → apply p (times p n m) v ≡ apply p n (apply p m v)
unfolding apply times
apply_times p [] m v hp bn bm bv = refl
apply_times p (r ∷ rs) m v hp bn bm bv = ap₂ ◌∷◌ (dot_combine p r m v hp bn.0 bm bv) (apply_times p rs m v hp bn.1 bm bv)

dot_zeros : (p t : ℕ) (v : List ℕ) → dot p (replicate t 0) v ≡ 0
unfolding dot
dot_zeros p zero v = refl
dot_zeros p (suc t) [] = refl
dot_zeros p (suc t) (x ∷ xs) = ap₂ bit_xor (mul_zero_left p x) (dot_zeros p t xs)

apply_shift : (p x : ℕ) (m : List (List ℕ)) (v : List ℕ) → apply p (map (λ row. 0 ∷ row) m) (x ∷ v) ≡ apply p m v
unfolding apply dot
apply_shift p x [] v = refl
apply_shift p x (r ∷ rs) v = ap₂ ◌∷◌ (ap (λ n. bit_xor n (dot p r v)) (mul_zero_left p x)) (apply_shift p x rs v)

apply_identity : (p t : ℕ) (v : List ℕ) → length v ≡ t → Bytes v → apply p (identity t) v ≡ v
unfolding apply identity dot
apply_identity p zero [] e b = refl
apply_identity p zero (x ∷ v) e b = absurd (omega arith)
apply_identity p (suc t) [] e b = absurd (omega arith)
apply_identity p (suc t) (x ∷ v) e b =
    ap₂ ◌∷◌ (ap₂ bit_xor (mul_one_left p x b.0) (dot_zeros p t v) ∙ xor_zero_r x)
    (apply_shift p x (identity t) v ∙ apply_identity p t v (omega arith) b.1)

pub undone : (p t : ℕ) (n m : List (List ℕ)) → Undoes p t n m → (v : List ℕ) → Block t v → apply p n (apply p m v) ≡ v
undone p t n m u v b =
    sym (apply_times p n m v u.low u.left u.right b.bytes) ∙ ap (λ k. apply p k v) u.product ∙ apply_identity p t v b.size b.bytes

-- the test of bytes in a matrix, which antt computes
abbrev pub lows? : List (List ℕ) → Bool
lows? [] = true
lows? (r ∷ rs) = both (low? r) (lows? rs)

pub all_bytes_by : (rs : List (List ℕ)) → T (lows? rs) → AllBytes rs
all_bytes_by [] t = tt
all_bytes_by (r ∷ rs) t = (bytes_by r (both_left (low? r) (lows? rs) t), all_bytes_by rs (both_right (low? r) (lows? rs) t))

pub undoes_by : (p t : ℕ) (n m : List (List ℕ)) → T (ltb p 256) → T (lows? n) → T (lows? m) → times p n m ≡ identity t → Undoes p t n m
undoes_by p t n m lp ln lm e = record { low = ltb→lt p 256 lp; left = all_bytes_by n ln; right = all_bytes_by m lm; product = e }

-- ---- the loops

pub length_apply : (p : ℕ) (m : List (List ℕ)) (v : List ℕ) → length (apply p m v) ≡ length m
unfolding apply
length_apply p m v = length-map m (λ row. dot p row v)

pub get_or_apply : (p : ℕ) (m : List (List ℕ)) (v : List ℕ) (i : ℕ) (d : List ℕ) → i < length m → get_or (apply p m v) i 0 ≡ dot p (get_or m i d) v
unfolding apply
get_or_apply p m v i d h = get_or-map (λ row. dot p row v) m i d 0 h
