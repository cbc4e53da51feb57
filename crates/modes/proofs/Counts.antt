-- What a piece leaves, and how many bytes it gives. Assumes nothing.
use Rattle.std.proofs.Common.{◌≡◌, ℕ, zero, suc, ◌+◌, ◌-◌, ◌*◌, ◌/◌, ◌<◌, ◌≤◌, List, [], ◌∷◌, ◌++◌, length, get_or, Some, None, Option, sym, refl, ap, ◌∙◌, subst, ap₂, inl, inr, add-mul, one-mul, arith, lit<, length-append, length-take}
use native.Mathlib.Nat.{add-div_left, div-eq_of_lt}
use Rattle.std.proofs.lemmas.Bool.{cases_eq, ne_eqb}
use Rattle.block.specs.Bytes.{Bytes, Block}
use Rattle.block.proofs.Parts.{bytes_append}
use Rattle.modes.specs.Padding.{padding, text_end, TextEnd}
use Rattle.modes.specs.Modes.{Cipher, plain_block, Streams, cfb, ofb}
use Rattle.modes.specs.Machine.{State, state, push, pad, mixed, cipher_byte, rolled, stream_state, fed, due, after, given, last_text, due_count, place, before, limit}
use Rattle.modes.specs.Laws.{Enciphers, Deciphers, Fit, Counts, EndsCount}
use Rattle.modes.specs.declared.Mode.{Mode}
use Rattle.modes.specs.declared.Mode.TheVariants.{Cbc, Cfb, Ofb}
use Rattle.modes.specs.declared.Direction.{Direction}
use Rattle.modes.specs.declared.Direction.TheVariants.{Send, Receive}
use Rattle.modes.proofs.Joining.{length_part, byte_join}
use Rattle.modes.proofs.Paddings.{block_padded, text_end_law}
use Rattle.modes.proofs.Blocks.{length_push, is_full, not_full, stream_due, stream_fed_is}
use Rattle.modes.proofs.Sent.{block_cipher}

byte_at : (xs : List ℕ) (i : ℕ) → Bytes xs → get_or xs i 0 < 256
byte_at [] i b = lit< tt
byte_at (x ∷ xs) zero b = b.0
byte_at (x ∷ xs) (suc i) b = byte_at xs i b.1

-- w·floor((w + n)/w) = w + w·floor(n/w)
one_more : (w n : ℕ) → 0 < w → (w + n) / w * w ≡ w + n / w * w
one_more w n some = let q : ℕ = n / w in rw (add-div_left n some) (omega (arith, add-mul q 1 w, one-mul w))

stream_limit : {m : Mode} → Streams m → (d : Direction) (w : ℕ) → limit m d w ≡ w
stream_limit cfb d w = refl
stream_limit ofb d w = refl

stream_count : {m : Mode} → Streams m → (d : Direction) (w h n : ℕ) → due_count m d w h n ≡ n
stream_count cfb d w h n = refl
stream_count ofb d w h n = refl

-- what one byte leaves, and what it gives beside what n more will
record Step (m : Mode) (d : Direction) (k : Cipher) (s : State) (x : ℕ) : Type 0 where
  fits : Fit m d k (fed m d k s x)
  count : (n : ℕ) → length (due m d k s x) + due_count m d k.width (length (fed m d k s x).held) n ≡ due_count m d k.width (length s.held) (suc n)

module _ (k : Cipher) (e : Enciphers k) where
  push_bytes : (h : List ℕ) (x : ℕ) → Bytes h → x < 256 → Bytes (push h x)
  push_bytes h x bh bx = bytes_append h (x ∷ []) bh (bx, tt)

  send_step : (v h : List ℕ) (x : ℕ) → Block k.width v → Bytes h → length h < k.width → x < 256 → Step Cbc Send k (state v h) x
  send_step v h x bv bh l bx =
      let lp = length_push h x in
      let w = k.width in
      elim (cases_eq (suc (length h)) w) [
        | inl f ↦
            let n = is_full k (push h x) (lp ∙ f) in
            let b : Block w (push h x) = record { size = lp ∙ f; bytes = push_bytes h x bh bx } in
            let bc = block_cipher k e Cbc v (push h x) bv b in
            record {
              fits = rw n record { chain = bc; held = tt; room = e.some };
              count = λ i.
                  let z : length h + suc i ≡ w + i = omega arith in
                  let y : 0 + i ≡ i = omega arith in
                  rw (n, z, one_more w i e.some, y) (ap (λ q. q + i / w * w) bc.size);
            }
        | inr f ↦
            let lt : length (push h x) < w = omega arith in
            let n = not_full k (push h x) lt in
            record {
              fits = rw n record { chain = bv; held = push_bytes h x bh bx; room = lt };
              count = λ i.
                  let z : length (push h x) + i ≡ length h + suc i = omega arith in
                  rw n (ap (λ q. 0 + q / w * w) z ∙ omega arith);
            }
      ]

  receive_step : Deciphers k → (v h : List ℕ) (x : ℕ) → Block k.width v → Bytes h → length h < suc k.width → x < 256 → Step Cbc Receive k (state v h) x
  receive_step de v h x bv bh l bx =
      let lp = length_push h x in
      let w = k.width in
      elim (cases_eq (length h) w) [
        | inl f ↦
            let n = is_full k h f in
            let b : Block w h = record { size = f; bytes = bh } in
            let lc : length (plain_block Cbc k v h) ≡ w = length_part (k.dec h) v ∙ (de h b).size in
            record {
              fits = rw n record { chain = b; held = (bx, tt); room = omega (arith, e.some) };
              count = λ i.
                  let z : length h + suc i - 1 ≡ w + i = omega arith in
                  let y : 1 + i - 1 ≡ i = omega arith in
                  rw (n, z, one_more w i e.some, y) (ap (λ q. q + i / w * w) lc);
            }
        | inr f ↦
            let n = ne_eqb (length h) w f in
            record {
              fits = rw n record { chain = bv; held = push_bytes h x bh bx; room = omega arith };
              count = λ i.
                  let z : length (push h x) + i - 1 ≡ length h + suc i - 1 = omega arith in
                  rw n (ap (λ q. 0 + q / w * w) z ∙ omega arith);
            }
      ]

  block_pad : (v h : List ℕ) → Block k.width v → Block k.width (pad k v h)
  block_pad v [] bv = e.blocks v bv
  block_pad v (x ∷ h) bv = bv

  block_rolled : (m : Mode) (u h : List ℕ) → Block k.width u → Block k.width h → Block k.width (rolled m u h)
  block_rolled Cbc u h bu bh = bh
  block_rolled Cfb u h bu bh = bh
  block_rolled Ofb u h bu bh = bu

  byte_cipher : (d : Direction) (u h : List ℕ) (x : ℕ) → Bytes u → x < 256 → cipher_byte d (mixed d u h x) x < 256
  byte_cipher Send u h x bu bx = byte_join x (get_or u (length h) 0) bx (byte_at u (length h) bu)
  byte_cipher Receive u h x bu bx = bx

  stream_fits : {m : Mode} → Streams m → (d : Direction) (u h : List ℕ) → Block k.width u → Bytes h → length h ≤ k.width → Fit m d k (stream_state m k u h)
  stream_fits {m} st d u h bu bh l =
      elim (cases_eq (length h) k.width) [
        | inl f ↦ rw (is_full k h f) record { chain = block_rolled m u h bu record { size = f; bytes = bh }; held = tt; room = rw (stream_limit st d k.width) e.some }
        | inr f ↦
            let lt : length h < k.width = omega arith in
            rw (not_full k h lt) record { chain = bu; held = bh; room = rw (stream_limit st d k.width) lt }
      ]

  stream_step : {m : Mode} → Streams m → (d : Direction) (v h : List ℕ) (x : ℕ) → Block k.width v → Bytes h → length h < k.width → x < 256 → Step m d k (state v h) x
  stream_step {m} st d v h x bv bh l bx =
      let u = pad k v h in
      let bu = block_pad v h bv in
      let c = cipher_byte d (mixed d u h x) x in
      let lp = length_push h c in
      record {
        fits = subst (Fit m d k) (sym (stream_fed_is st d k (state v h) x))
            (stream_fits st d u (push h c) bu (push_bytes h c bh (byte_cipher d u h x bu.bytes bx)) (omega arith));
        count = λ i. ap₂ (λ g q. length g + q) (stream_due st d k (state v h) x) (stream_count st d k.width _ i) ∙ omega arith ∙ sym (stream_count st d k.width (length h) (suc i));
      }

  step : (m : Mode) (d : Direction) → (m ≡ Cbc → d ≡ Receive → Deciphers k) → (s : State) (x : ℕ) → Fit m d k s → x < 256 → Step m d k s x
  step Cbc Send de s x f bx = send_step s.chain s.held x f.chain f.held f.room bx
  step Cbc Receive de s x f bx = receive_step (de refl refl) s.chain s.held x f.chain f.held f.room bx
  step Cfb d de s x f bx = stream_step cfb d s.chain s.held x f.chain f.held f.room bx
  step Ofb d de s x f bx = stream_step ofb d s.chain s.held x f.chain f.held f.room bx

-- no byte, none given
count_none : (m : Mode) (d : Direction) (w h : ℕ) → 0 < w → h < limit m d w → 0 ≡ due_count m d w h 0
count_none Cbc Send w h some l = let z : h + 0 < w = omega arith in rw (div-eq_of_lt z) (omega arith)
count_none Cbc Receive w h some l = let z : h + 0 - 1 < w = omega arith in rw (div-eq_of_lt z) (omega arith)
count_none Cfb d w h some l = refl
count_none Ofb d w h some l = refl

pub counted : Counts
counted m d k s [] e de f b = (f, count_none m d k.width (length s.held) e.some f.room)
counted m d k s (x ∷ xs) e de f b =
    let t = step k e m d de s x f b.0 in
    let i = counted m d k (fed m d k s x) xs e de t.fits b.1 in
    (i.0, length-append (due m d k s x) (given m d k (fed m d k s x) xs) ∙ ap (λ n. length (due m d k s x) + n) i.1 ∙ t.count (length xs))

-- the same where D is a function on blocks in any case
pub counts : (m : Mode) (d : Direction) (k : Cipher) (s : State) (piece : List ℕ) → Enciphers k → Deciphers k → Fit m d k s → Bytes piece
    → Fit m d k (after m d k s piece) × (length (given m d k s piece) ≡ due_count m d k.width (length s.held) (length piece))
counts m d k s piece e de f b = counted m d k s piece e (λ c r. de) f b

length_before : (o : Option ℕ) (b : List ℕ) → TextEnd o b → length (before o b) ≡ place o
length_before None b t = refl
length_before (Some i) b t = length-take i b ∙ omega (arith, length-take i b, simp length-append at (ap length t.is))

pub ends_count : EndsCount
ends_count Cbc Send k s e f =
    let b = block_padded k.width s.held f.room f.held in
    (block_cipher k e Cbc s.chain (s.held ++ padding k.width s.held) f.chain b).size
ends_count Cbc Receive k s e f = length_before (text_end (last_text k s)) (last_text k s) (text_end_law (last_text k s))
ends_count Cfb d k s e f = refl
ends_count Ofb d k s e f = refl
