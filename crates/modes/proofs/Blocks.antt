-- A link that is fed the bytes of one block. Assumes nothing.
use Rattle.std.proofs.Common.{◌≡◌, ℕ, suc, ◌+◌, ◌<◌, ◌≤◌, true, false, List, [], ◌∷◌, ◌++◌, length, drop, sym, refl, ap, ◌∙◌, ap₂, append_assoc, append-nil, arith, length-append}
use Rattle.std.proofs.lemmas.Bool.{eq-eqb, ne_eqb}
use Rattle.modes.specs.Join.{join, part}
use Rattle.modes.specs.Modes.{Cipher, onward, Streams, cfb, ofb}
use Rattle.modes.specs.Machine.{State, state, opened, push, full, sent_state, sent_block, pad, mixed, cipher_byte, rolled, stream_state, stream_byte, stream_fed, fed, due, after, given}
use Rattle.modes.specs.declared.Mode.{Mode}
use Rattle.modes.specs.declared.Mode.TheVariants.{Cbc, Cfb, Ofb}
use Rattle.modes.specs.declared.Direction.{Direction}
use Rattle.modes.specs.declared.Direction.TheVariants.{Send, Receive}
use Rattle.modes.proofs.Joining.{length_join, join_none, part_none, join_more, part_more}

pub length_push : (h : List ℕ) (x : ℕ) → length (push h x) ≡ suc (length h)
length_push h x = length-append h (x ∷ []) ∙ omega arith

pub is_full : (k : Cipher) (h : List ℕ) → length h ≡ k.width → full k h ≡ true
is_full k h e = eq-eqb (length h) k.width e

pub not_full : (k : Cipher) (h : List ℕ) → length h < k.width → full k h ≡ false
not_full k h l = ne_eqb (length h) k.width (λ e. omega arith)

-- ---- sending CBC

pub record Filled (k : Cipher) (v h b : List ℕ) : Type 0 where
  pub holds : after Cbc Send k (state v h) b ≡ sent_state k v (h ++ b)
  pub gives : given Cbc Send k (state v h) b ≡ sent_block k v (h ++ b)

pub fills : (k : Cipher) (v h b : List ℕ) → length h < k.width → length h + length b ≤ k.width → Filled k v h b
fills k v h [] l r =
    let n = not_full k h l in
    record { holds = rw (append-nil h, n) refl; gives = rw (append-nil h, n) refl }
fills k v h (x ∷ []) l r = record { holds = refl; gives = append-nil (sent_block k v (push h x)) }
fills k v h (x ∷ y ∷ b) l r =
    let lp = length_push h x in
    let n = not_full k (push h x) (omega arith) in
    let i = fills k v (push h x) (y ∷ b) (omega arith) (omega arith) in
    let a = append_assoc h (x ∷ []) (y ∷ b) in
    record { holds = rw n (i.holds ∙ ap (sent_state k v) a); gives = rw n (i.gives ∙ ap (sent_block k v) a) }

-- ---- receiving CBC: bytes that fit the block are held

pub record Held (k : Cipher) (v h b : List ℕ) : Type 0 where
  pub holds : after Cbc Receive k (state v h) b ≡ state v (h ++ b)
  pub gives : given Cbc Receive k (state v h) b ≡ []

pub hold : (k : Cipher) (v h b : List ℕ) → length h + length b ≤ k.width → Held k v h b
hold k v h [] r = record { holds = ap (state v) (sym (append-nil h)); gives = refl }
hold k v h (x ∷ b) r =
    let lp = length_push h x in
    let n = not_full k h (omega arith) in
    let i = hold k v (push h x) b (omega arith) in
    record { holds = rw n (i.holds ∙ ap (state v) (append_assoc h (x ∷ []) b)); gives = rw n i.gives }

-- ---- CFB and OFB, either way

abbrev pub mix : Direction → List ℕ → List ℕ → List ℕ
mix Send b pad = join b pad
mix Receive b pad = part b pad

-- of the bytes given and taken, the ciphertext
abbrev pub codes : Direction → List ℕ → List ℕ → List ℕ
codes Send given taken = given
codes Receive given taken = taken

mix_none : (d : Direction) (u : List ℕ) → mix d [] u ≡ []
mix_none Send u = join_none u
mix_none Receive u = part_none u

mix_more : (d : Direction) (u h : List ℕ) (x : ℕ) (b : List ℕ) → mix d (x ∷ b) (drop (length h) u) ≡ mixed d u h x ∷ mix d b (drop (suc (length h)) u)
mix_more Send u h x b = join_more x b u (length h)
mix_more Receive u h x b = part_more x b u (length h)

codes_none : (d : Direction) → codes d [] [] ≡ []
codes_none Send = refl
codes_none Receive = refl

codes_more : (d : Direction) (y x : ℕ) (g b : List ℕ) → codes d (y ∷ g) (x ∷ b) ≡ cipher_byte d y x ∷ codes d g b
codes_more Send y x g b = refl
codes_more Receive y x g b = refl

length_codes : (d : Direction) (b u : List ℕ) → length (codes d (mix d b u) b) ≡ length b
length_codes Send b u = length_join b u
length_codes Receive b u = refl

-- the pad of a block that has begun
pad_push : (k : Cipher) (u h : List ℕ) (c : ℕ) → pad k u (push h c) ≡ u
pad_push k u [] c = refl
pad_push k u (x ∷ h) c = refl

pub rolled_onward : (m : Mode) (k : Cipher) (v c : List ℕ) → rolled m (k.enc v) c ≡ onward m k v c
rolled_onward Cbc k v c = refl
rolled_onward Cfb k v c = refl
rolled_onward Ofb k v c = refl

pub stream_due : {m : Mode} → Streams m → (d : Direction) (k : Cipher) (s : State) (x : ℕ) → due m d k s x ≡ stream_byte d k s x ∷ []
stream_due cfb d k s x = refl
stream_due ofb d k s x = refl

pub stream_fed_is : {m : Mode} → Streams m → (d : Direction) (k : Cipher) (s : State) (x : ℕ) → fed m d k s x ≡ stream_fed m d k s x
stream_fed_is cfb d k s x = refl
stream_fed_is ofb d k s x = refl

-- some bytes of a block with pad u
record Streamed (m : Mode) (d : Direction) (k : Cipher) (v h b u : List ℕ) : Type 0 where
  out : List ℕ
  is : out ≡ mix d b (drop (length h) u)
  holds : after m d k (state v h) b ≡ stream_state m k u (h ++ codes d out b)
  gives : given m d k (state v h) b ≡ out

streams : {m : Mode} → Streams m → (d : Direction) (k : Cipher) (v h : List ℕ) (x : ℕ) (b u : List ℕ) → pad k v h ≡ u
    → length h + suc (length b) ≤ k.width → Streamed m d k v h (x ∷ b) u
streams {m} st d k v h x [] u p r =
    let y = mixed d u h x in
    let due_is : due m d k (state v h) x ≡ y ∷ [] = stream_due st d k (state v h) x ∙ ap (λ q. mixed d q h x ∷ []) p in
    record {
      out = y ∷ [];
      is = sym (mix_more d u h x [] ∙ ap (λ g. y ∷ g) (mix_none d (drop (suc (length h)) u)));
      holds = stream_fed_is st d k (state v h) x ∙ ap (λ q. stream_state m k q (push h (cipher_byte d (mixed d q h x) x))) p
          ∙ ap (λ c. stream_state m k u (h ++ c)) (sym (codes_more d y x [] [] ∙ ap (λ c. cipher_byte d y x ∷ c) (codes_none d)));
      gives = append-nil (due m d k (state v h) x) ∙ due_is;
    }
streams {m} st d k v h x (z ∷ b) u p r =
    let y = mixed d u h x in
    let c = cipher_byte d y x in
    let lp = length_push h c in
    let n = not_full k (push h c) (omega arith) in
    let i = streams st d k u (push h c) z b u (pad_push k u h c) (omega arith) in
    let due_is : due m d k (state v h) x ≡ y ∷ [] = stream_due st d k (state v h) x ∙ ap (λ q. mixed d q h x ∷ []) p in
    let f : fed m d k (state v h) x ≡ state u (push h c) =
    stream_fed_is st d k (state v h) x ∙ ap (λ q. stream_state m k q (push h (cipher_byte d (mixed d q h x) x))) p ∙ rw n refl in
    record {
      out = y ∷ i.out;
      is = ap (λ g. y ∷ g) (i.is ∙ ap (λ j. mix d (z ∷ b) (drop j u)) lp) ∙ sym (mix_more d u h x (z ∷ b));
      holds = ap (λ s. after m d k s (z ∷ b)) f ∙ i.holds
          ∙ ap (stream_state m k u) (append_assoc h (c ∷ []) (codes d i.out (z ∷ b)) ∙ ap (λ t. h ++ t) (sym (codes_more d y x i.out (z ∷ b))));
      gives = ap₂ ◌++◌ due_is (ap (λ s. given m d k s (z ∷ b)) f ∙ i.gives);
    }

-- the first bytes of a block, and a whole one
pub stream_given : {m : Mode} → Streams m → (d : Direction) (k : Cipher) (v b : List ℕ) → length b ≤ k.width → given m d k (opened v) b ≡ mix d b (k.enc v)
stream_given st d k v [] l = sym (mix_none d (k.enc v))
stream_given st d k v (x ∷ b) l = let s = streams st d k v [] x b (k.enc v) refl (omega arith) in s.gives ∙ s.is

pub stream_after : {m : Mode} → Streams m → (d : Direction) (k : Cipher) (v b : List ℕ) → 0 < k.width → length b ≡ k.width
    → after m d k (opened v) b ≡ opened (onward m k v (codes d (mix d b (k.enc v)) b))
stream_after st d k v [] some l = absurd (omega arith)
stream_after {m} st d k v (x ∷ b) some l =
    let s = streams st d k v [] x b (k.enc v) refl (omega arith) in
    let c = codes d (mix d (x ∷ b) (k.enc v)) (x ∷ b) in
    let n = is_full k c (length_codes d (x ∷ b) (k.enc v) ∙ l) in
    s.holds ∙ ap (λ g. stream_state m k (k.enc v) (codes d g (x ∷ b))) s.is ∙ rw n (ap opened (rolled_onward m k v c))
