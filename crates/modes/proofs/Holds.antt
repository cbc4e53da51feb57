-- How many bytes a link holds, and so when its end is ragged. Assumes nothing.
use Rattle.std.proofs.Common.{◌≡◌, ℕ, zero, suc, ◌+◌, ◌%◌, ◌<◌, ◌≤◌, not, ◌||◌, eqb, List, [], ◌∷◌, length, sym, refl, ap, ◌∙◌, inl, inr, mod-eq_of_lt, mod-lt, arith}
use native.Mathlib.Nat.{add-mod_left, mod-add-mod}
use Rattle.std.proofs.lemmas.Bool.{cases_eq, eq-eqb, ne_eqb}
use Rattle.modes.specs.Modes.{Cipher}
use Rattle.modes.specs.Machine.{State, state, opened, push, pad, cipher_byte, stream_byte, stream_state, fed, kept_back, held_count, limit}
use Rattle.modes.specs.Laws.{HoldsCount, RaggedByCount}
use Rattle.modes.specs.declared.Mode.{Mode}
use Rattle.modes.specs.declared.Mode.TheVariants.{Cbc, Cfb, Ofb}
use Rattle.modes.specs.declared.Direction.{Direction}
use Rattle.modes.specs.declared.Direction.TheVariants.{Send, Receive}
use Rattle.modes.proofs.Blocks.{length_push, is_full, not_full}

-- a block that is full starts the count again
around : (w n : ℕ) → (w + n) % w ≡ n % w
around w n = add-mod_left w n

-- what one byte leaves, and what is held after n more
record Kept (m : Mode) (d : Direction) (k : Cipher) (s : State) (x : ℕ) : Type 0 where
  room : length (fed m d k s x).held < limit m d k.width
  count : (n : ℕ) → held_count m d k.width (length (fed m d k s x).held) n ≡ held_count m d k.width (length s.held) (suc n)

module _ (k : Cipher) (some : 0 < k.width) where
  send_kept : (v h : List ℕ) (x : ℕ) → length h < k.width → Kept Cbc Send k (state v h) x
  send_kept v h x l =
      let lp = length_push h x in
      let w = k.width in
      elim (cases_eq (suc (length h)) w) [
        | inl f ↦
            let n = is_full k (push h x) (lp ∙ f) in
            record {
              room = rw n some;
              count = λ i. let z : length h + suc i ≡ w + i = omega arith in let y : 0 + i ≡ i = omega arith in rw (n, z, y) (sym (around w i));
            }
        | inr f ↦
            let lt : length (push h x) < w = omega arith in
            let n = not_full k (push h x) lt in
            record {
              room = rw n lt;
              count = λ i. let z : length (push h x) + i ≡ length h + suc i = omega arith in rw n (ap (λ q. q % w) z);
            }
      ]

  receive_kept : (v h : List ℕ) (x : ℕ) → length h < suc k.width → Kept Cbc Receive k (state v h) x
  receive_kept v h x l =
      let lp = length_push h x in
      let w = k.width in
      elim (cases_eq (length h) w) [
        | inl f ↦
            let n = is_full k h f in
            record {
              room = rw n (omega (arith, some));
              count = λ i. let z : length h + suc i ≡ suc (w + i) = omega arith in let y : 1 + i ≡ suc i = omega arith in rw (n, z, y) (ap suc (sym (around w i)));
            }
        | inr f ↦
            let n = ne_eqb (length h) w f in
            record {
              room = rw n (omega arith);
              count = λ i. let z : length (push h x) + i ≡ length h + suc i = omega arith in rw n (ap (kept_back w) z);
            }
      ]

  -- CFB and OFB: a stream's block, of which h is there
  stream_room : (m : Mode) (u h : List ℕ) → length h ≤ k.width → length (stream_state m k u h).held < k.width
  stream_room m u h l =
      elim (cases_eq (length h) k.width) [
        | inl f ↦ rw (is_full k h f) some
        | inr f ↦ let lt : length h < k.width = omega arith in rw (not_full k h lt) lt
      ]

  stream_count : (m : Mode) (u h : List ℕ) (n : ℕ) → length h ≤ k.width → (length (stream_state m k u h).held + n) % k.width ≡ (length h + n) % k.width
  stream_count m u h n l =
      elim (cases_eq (length h) k.width) [
        | inl f ↦ let z : length h + n ≡ k.width + n = omega arith in let y : 0 + n ≡ n = omega arith in rw (is_full k h f, z, y) (sym (around k.width n))
        | inr f ↦ let lt : length h < k.width = omega arith in rw (not_full k h lt) refl
      ]

  stream_kept : (m : Mode) (u h : List ℕ) (c n : ℕ) → length h < k.width → (length (stream_state m k u (push h c)).held + n) % k.width ≡ (length h + suc n) % k.width
  stream_kept m u h c n l =
      let lp = length_push h c in
      let z : length (push h c) + n ≡ length h + suc n = omega arith in
      stream_count m u (push h c) n (omega arith) ∙ ap (λ q. q % k.width) z

  kept : (m : Mode) (d : Direction) (s : State) (x : ℕ) → length s.held < limit m d k.width → Kept m d k s x
  kept Cbc Send s x l = send_kept s.chain s.held x l
  kept Cbc Receive s x l = receive_kept s.chain s.held x l
  kept Cfb d s x l =
      let c = cipher_byte d (stream_byte d k s x) x in
      let lp = length_push s.held c in
      record { room = stream_room Cfb (pad k s.chain s.held) (push s.held c) (omega arith); count = λ n. stream_kept Cfb (pad k s.chain s.held) s.held c n l }
  kept Ofb d s x l =
      let c = cipher_byte d (stream_byte d k s x) x in
      let lp = length_push s.held c in
      record { room = stream_room Ofb (pad k s.chain s.held) (push s.held c) (omega arith); count = λ n. stream_kept Ofb (pad k s.chain s.held) s.held c n l }

few_left : (w h : ℕ) → h < w → h ≡ (h + 0) % w
few_left w h l = let z : h + 0 ≡ h = omega arith in rw z (sym (mod-eq_of_lt l))

few_back : (w h : ℕ) → h < suc w → h ≡ kept_back w (h + 0)
few_back w zero l = refl
few_back w (suc h) l = let z : suc h + 0 ≡ suc h = omega arith in rw z (ap suc (sym (mod-eq_of_lt (omega arith))))

-- no byte leaves what is held
held_none : (m : Mode) (d : Direction) (w h : ℕ) → h < limit m d w → h ≡ held_count m d w h 0
held_none Cbc Send w h l = few_left w h l
held_none Cbc Receive w h l = few_back w h l
held_none Cfb d w h l = few_left w h l
held_none Ofb d w h l = few_left w h l

pub holds_count : HoldsCount
holds_count m d k s [] some l = held_none m d k.width (length s.held) l
holds_count m d k s (x ∷ xs) some l =
    let t = kept k some m d s x l in
    holds_count m d k (fed m d k s x) xs some t.room ∙ t.count (length xs)

-- ---- an end

-- a whole block is kept back just where the bytes are whole blocks, one or more
whole_back : (w n : ℕ) → 0 < w → not (eqb (kept_back w n) w) ≡ (eqb n 0 || not (eqb (n % w) 0))
whole_back w zero some = ap not (ne_eqb 0 w (λ e. omega (arith, some)))
whole_back w (suc t) some =
    let r : (t % w + 1) % w ≡ (t + 1) % w = mod-add-mod t w 1 in
    let o : t + 1 ≡ suc t = omega arith in
    let l : t % w < w = mod-lt t some in
    elim (cases_eq (suc (t % w)) w) [
      | inl f ↦
          let z : t % w + 1 ≡ w + 0 = omega arith in
          let y : suc t % w ≡ 0 = ap (λ q. q % w) (sym o) ∙ sym r ∙ ap (λ q. q % w) z ∙ around w 0 ∙ mod-eq_of_lt some in
          rw (eq-eqb (suc (t % w)) w f, y, ne_eqb (suc t) 0 (λ e. omega arith)) refl
      | inr f ↦
          let z : t % w + 1 ≡ suc (t % w) = omega arith in
          let y : suc t % w ≡ suc (t % w) = ap (λ q. q % w) (sym o) ∙ sym r ∙ ap (λ q. q % w) z ∙ mod-eq_of_lt (omega arith) in
          rw (ne_eqb (suc (t % w)) w f, y, ne_eqb (suc (t % w)) 0 (λ e. omega arith), ne_eqb (suc t) 0 (λ e. omega arith)) refl
    ]

pub ragged_by_count : RaggedByCount
ragged_by_count Cbc Send k start bytes some = refl
ragged_by_count Cbc Receive k start bytes some =
    let z : 0 + length bytes ≡ length bytes = omega arith in
    ap (λ n. not (eqb n k.width)) (holds_count Cbc Receive k (opened start) bytes some (omega (arith, some)) ∙ ap (kept_back k.width) z)
    ∙ whole_back k.width (length bytes) some
ragged_by_count Cfb d k start bytes some = refl
ragged_by_count Ofb d k start bytes some = refl
