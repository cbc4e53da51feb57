-- Whitening over a sound kit is sound, and means what its law says. Assumes nothing.
use Rattle.std.proofs.Common.{◌≡◌, ℕ, ◌+◌, ◌-◌, ◌*◌, ◌<◌, ◌≤◌, ◌⊎◌, List, ◌++◌, length, take, drop, None, Ok, Err, Result, sym, refl, ap, ◌∙◌, ap₂, inl, inr, arith}
use Rattle.std.proofs.lemmas.List.{length-append, length-take-le, length-drop, take_at, drop_at}
use Rattle.std.proofs.lemmas.Bool.{lt-ltb, le-ltb}
use Rattle.refusal.specs.declared.KeyFault.{KeyFault}
use Rattle.block.specs.Bytes.{Bytes, Block, xor}
use Rattle.block.proofs.Parts.{bytes_append, bytes_take, bytes_drop}
use Rattle.block.proofs.Xor.{cancels, block_xor}
use Rattle.refusal.specs.declared.Refusal.{Refusal}
use Rattle.kit.specs.Meaning.{Meaning, Sized, Sound}
use Rattle.kit.specs.Calls.{told, unless, expand_refusal, cipher_refusal, expanded}
use Rattle.kit.proofs.Calls.{cipher_passes, expand_passes, expanded_fits, told_ok}
use Rattle.refusal.specs.Faults.{here}
use Rattle.layers.specs.Depth.{risen, both}
use Rattle.layers.specs.Whitened.{white, white_cells, inner, block_a, block_b, need, schedule, enc, dec, whitened, Whitens}
use Rattle.layers.specs.JoinedLemmas.{same₃}
use Rattle.layers.specs.AnswersLemmas.{risen_ok, both_ok, split_ok, bounded_within, bounded_above, ok_is}

-- a whitened key that is accepted
pub record Accepted (m : Meaning) (len n : ℕ) : Type 0 where
  pub cells : ℕ
  pub long : white m ≤ len
  pub below : m.need (len - white m) ≡ Ok cells
  pub sum : n ≡ cells + white_cells m
  pub few : n ≤ 96
  pub short : len ≤ 256

pub accepted : (m : Meaning) (len n : ℕ) → need m len ≡ Ok n → Accepted m len n
unfolding need
accepted m len n e =
    let s = split_ok len (white m) (both len (risen (m.need (len - white m))) (Ok (white_cells m))) n e in
    let p = both_ok len (risen (m.need (len - white m))) (Ok (white_cells m)) n s.1 in
    record {
      cells = p.cells_first;
      long = s.0;
      below = risen_ok (m.need (len - white m)) p.cells_first p.first_ok;
      sum = p.sum ∙ ap (λ k. p.cells_first + k) (sym (ok_is p.second_ok));
      few = p.few;
      short = p.short;
    }

pub told_accepted : (m : Meaning) (len n : ℕ) (r : Result ℕ Refusal) → r ≡ told (need m len) → r ≡ Ok n → Accepted m len n
told_accepted m len n r e f = accepted m len n (told_ok (need m len) n (sym e ∙ f))

-- a and b fill whole cells
pub whole_cells : (m : Meaning) → (m.width ≡ 16) ⊎ (m.width ≡ 32) → 16 * white_cells m ≡ white m
whole_cells m (inl e) = rw e
whole_cells m (inr e) = rw e

-- the cells of an accepted key, as bytes
pub room : (m : Meaning) → Sound m → (len n : ℕ) (a : Accepted m len n) → 16 * n ≡ 16 * a.cells + white m
room m sound len n a = let e : 16 * white_cells m ≡ white m = whole_cells m sound.widths in omega (arith, a.sum)

-- ---- a schedule that fits, in its parts

module _ (m : Meaning) (sound : Sound m) (len : ℕ) (s x : List ℕ) (h : Sized (whitened m) len s x) where
  pub key : Accepted m len h.cells
  key = accepted m len h.cells h.accepted

  size : length s ≡ 16 * key.cells + 2 * m.width
  size = h.schedule.size ∙ room m sound len h.cells key

  pub block_inner : Block (16 * key.cells) (inner m.width s)
  unfolding inner
  block_inner =
      let e = size in
      let l : length s - 2 * m.width ≤ length s = omega arith in
      record { size = length-take-le (length s - 2 * m.width) s l ∙ omega arith; bytes = bytes_take (length s - 2 * m.width) s h.schedule.bytes }

  pub whole_a : Block m.width (block_a m.width s)
  unfolding block_a
  whole_a =
      let e = size in
      let l : m.width ≤ length (drop (length s - 2 * m.width) s) = simp length-drop (omega arith) in
      record { size = length-take-le m.width (drop (length s - 2 * m.width) s) l; bytes = bytes_take m.width _ (bytes_drop (length s - 2 * m.width) s h.schedule.bytes) }

  pub whole_b : Block m.width (block_b m.width s)
  unfolding block_b
  whole_b =
      let e = size in
      record { size = simp length-drop (omega arith); bytes = bytes_drop m.width _ (bytes_drop (length s - 2 * m.width) s h.schedule.bytes) }

  -- what is asked of the kit below fits
  pub fits_below : (y : List ℕ) → Block m.width y → Sized m (len - white m) (inner m.width s) y
  fits_below y hy = record { cells = key.cells; accepted = key.below; schedule = block_inner; block = hy }

  entered : Block m.width (xor x (block_a m.width s))
  entered = block_xor m.width x (block_a m.width s) h.block whole_a

  entered_back : Block m.width (xor x (block_b m.width s))
  entered_back = block_xor m.width x (block_b m.width s) h.block whole_b

  pub block_enc : Block m.width (enc m len s x)
  unfolding enc
  block_enc = block_xor m.width _ (block_b m.width s) (sound.enciphers _ _ _ (fits_below _ entered)) whole_b

  pub block_dec : Block m.width (dec m len s x)
  unfolding dec
  block_dec = block_xor m.width _ (block_a m.width s) (sound.deciphers _ _ _ (fits_below _ entered_back)) whole_a

  pub back : dec m len s (enc m len s x) ≡ x
  unfolding enc dec
  back =
      let l = len - white m in
      let i = inner m.width s in
      let a = block_a m.width s in
      let b = block_b m.width s in
      let fits = fits_below (xor x a) entered in
      let y = m.enc l i (xor x a) in
      let hy : Block m.width y = sound.enciphers l i (xor x a) fits in
      ap (λ z. xor (m.dec l i z) a) (cancels y b (hy.size ∙ sym whole_b.size))
      ∙ ap (λ z. xor z a) (sound.back l i (xor x a) fits)
      ∙ cancels x a (h.block.size ∙ sym whole_a.size)

  pub forth : enc m len s (dec m len s x) ≡ x
  unfolding enc dec
  forth =
      let l = len - white m in
      let i = inner m.width s in
      let a = block_a m.width s in
      let b = block_b m.width s in
      let fits = fits_below (xor x b) entered_back in
      let y = m.dec l i (xor x b) in
      let hy : Block m.width y = sound.deciphers l i (xor x b) fits in
      ap (λ z. xor (m.enc l i z) b) (cancels y a (hy.size ∙ sym whole_a.size))
      ∙ ap (λ z. xor z b) (sound.forth l i (xor x b) fits)
      ∙ cancels x b (h.block.size ∙ sym whole_b.size)

  -- E or D of the kit below, between two blocks that are XORed on its way in and on its way out
  module _ (f : ℕ → List ℕ → List ℕ → List ℕ) (keep : (y : List ℕ) → Block m.width y → Block m.width (f (len - white m) (inner m.width s) y))
      (u v : List ℕ) (hu : Block m.width u) (hv : Block m.width v)
      (l : ℕ) (i a y : List ℕ) (el : l ≡ len - white m) (ei : i ≡ inner m.width s) (ea : a ≡ u) (ey : y ≡ xor x a) where
    in_is : y ≡ xor x u
    in_is = ey ∙ ap (xor x) ea

    in_fits : Sized m (len - white m) (inner m.width s) (xor x u)
    in_fits = fits_below (xor x u) (block_xor m.width x u h.block hu)

    in_passes : cipher_refusal m (len - white m) (inner m.width s) (xor x u) ≡ None
    in_passes =
        let t = in_fits in
        cipher_passes m.width (m.need (len - white m)) _ _ t.cells t.accepted t.schedule.size t.block.size

    -- the call below is not refused
    pub passes : cipher_refusal m l i y ≡ None
    passes = same₃ (cipher_refusal m) el ei in_is ∙ in_passes

    -- what comes out
    pub comes_out : (b z r : List ℕ) → b ≡ v → z ≡ unless (cipher_refusal m l i y) (f l i y) y → r ≡ xor z b
        → r ≡ xor (f (len - white m) (inner m.width s) (xor x u)) v
    comes_out b z r eb ez er =
        let out = f (len - white m) (inner m.width s) (xor x u) in
        let is : z ≡ out = ez ∙ ap (λ t. unless t (f l i y) y) passes ∙ same₃ f el ei in_is in
        er ∙ ap₂ xor is eb

block_schedule : (m : Meaning) → Sound m → (n : ℕ) (key : List ℕ) → need m (length key) ≡ Ok n → Bytes key → Block (16 * n) (schedule m key)
unfolding schedule inner
block_schedule m sound n key e hk =
    let a = accepted m (length key) n e in
    let k = take (length key - 2 * m.width) key in
    let r = drop (length key - white m) key in
    let lk : length k ≡ length key - white m = length-take-le (length key - white m) key (omega arith) in
    let below : m.need (length k) ≡ Ok a.cells = ap m.need lk ∙ a.below in
    let hs = sound.scheduled a.cells k below (bytes_take (length key - 2 * m.width) key hk) in
    let c : 16 * white_cells m ≡ white m = whole_cells m sound.widths in
    let lr : length r ≡ white m = length-drop (length key - white m) key ∙ omega (arith, a.long) in
    let total : 16 * a.cells + white m ≡ 16 * n = omega (arith, a.sum) in
    record {
      size = length-append (m.schedule k) r ∙ ap₂ ◌+◌ hs.size lr ∙ total;
      bytes = bytes_append (m.schedule k) r hs.bytes (bytes_drop (length key - white m) key hk);
    }

-- ---- a key expanded in place: `rest` goes below, its schedule into `place`, and the end of the key is copied

module _ (m : Meaning) (key : List ℕ) (n : ℕ) (a : Accepted m (length key) n) (rest place : List ℕ) (er : rest ≡ inner m.width key) (lp : length place ≡ 16 * a.cells) where
  need_inner : m.need (length rest) ≡ Ok a.cells
  unfolding inner
  need_inner = ap (λ k. m.need (length k)) er ∙ ap m.need (length-take-le (length key - white m) key (omega arith)) ∙ a.below

  pub expand_accepted : expand_refusal m rest place ≡ None
  expand_accepted = expand_passes (m.need (length rest)) (length place) a.cells need_inner lp

  pub written : (u v : List ℕ) → u ≡ expanded m rest place → v ≡ drop (length key - white m) key → u ++ v ≡ schedule m key
  unfolding schedule
  written u v eu ev = ap₂ ◌++◌ (eu ∙ expanded_fits m rest place a.cells need_inner lp ∙ ap m.schedule er) ev

pub sound_whitened : (m : Meaning) → Sound m → Sound (whitened m)
sound_whitened m sound = record {
  widths = sound.widths;
  lengths = λ len n e.
      let a = accepted m len n e in
      let l = sound.lengths (len - white m) a.cells a.below in
      (omega (arith, l.0), a.short);
  cells = λ len n e.
      let a = accepted m len n e in
      let c = sound.cells (len - white m) a.cells a.below in
      (omega (arith, c.0, a.sum), a.few);
  scheduled = block_schedule m sound;
  enciphers = block_enc m sound;
  deciphers = block_dec m sound;
  back = back m sound;
  forth = forth m sound;
}

-- ---- the law

module _ (w : ℕ) (k a b : List ℕ) (la : length a ≡ w) (lb : length b ≡ w) where
  pub before : length (k ++ (a ++ b)) - 2 * w ≡ length k
  before = simp length-append (omega arith)

  pub inner_is : inner w (k ++ (a ++ b)) ≡ k
  unfolding inner
  inner_is = take_at k (a ++ b) (length (k ++ (a ++ b)) - 2 * w) (sym before)

  pub white_is : drop (length (k ++ (a ++ b)) - 2 * w) (k ++ (a ++ b)) ≡ a ++ b
  white_is = drop_at k (a ++ b) (length (k ++ (a ++ b)) - 2 * w) (sym before)

  pub a_is : block_a w (k ++ (a ++ b)) ≡ a
  unfolding block_a
  a_is = ap (take w) white_is ∙ take_at a b w la

  pub b_is : block_b w (k ++ (a ++ b)) ≡ b
  unfolding block_b
  b_is = ap (drop w) white_is ∙ drop_at a b w la

schedules : (m : Meaning) (k a b : List ℕ) → length a ≡ m.width → length b ≡ m.width → schedule m (k ++ (a ++ b)) ≡ m.schedule k ++ (a ++ b)
unfolding schedule
schedules m k a b la lb = ap₂ (λ u v. m.schedule u ++ v) (inner_is m.width k a b la lb) (white_is m.width k a b la lb)

enciphers : (m : Meaning) (len : ℕ) (s a b x : List ℕ) → length a ≡ m.width → length b ≡ m.width
    → enc m (len + white m) (s ++ (a ++ b)) x ≡ xor (m.enc len s (xor x a)) b
unfolding enc
enciphers m len s a b x la lb =
    let w = m.width in
    let t = s ++ (a ++ b) in
    let d : len + white m - white m ≡ len = omega arith in
    ap₂ (λ l i. xor (m.enc l i (xor x (block_a w t))) (block_b w t)) d (inner_is w s a b la lb)
    ∙ ap₂ (λ u v. xor (m.enc len s (xor x u)) v) (a_is w s a b la lb) (b_is w s a b la lb)

deciphers : (m : Meaning) (len : ℕ) (s a b y : List ℕ) → length a ≡ m.width → length b ≡ m.width
    → dec m (len + white m) (s ++ (a ++ b)) y ≡ xor (m.dec len s (xor y b)) a
unfolding dec
deciphers m len s a b y la lb =
    let w = m.width in
    let t = s ++ (a ++ b) in
    let d : len + white m - white m ≡ len = omega arith in
    ap₂ (λ l i. xor (m.dec l i (xor y (block_b w t))) (block_a w t)) d (inner_is w s a b la lb)
    ∙ ap₂ (λ u v. xor (m.dec len s (xor y v)) u) (a_is w s a b la lb) (b_is w s a b la lb)

-- a key too short, and one that is long enough
pub need_short : (m : Meaning) (len : ℕ) → len < white m → need m len ≡ Err (here len)
unfolding need
need_short m len h = rw (lt-ltb len (white m) h)

pub need_long : (m : Meaning) (len : ℕ) → white m ≤ len → need m len ≡ both len (risen (m.need (len - white m))) (Ok (white_cells m))
unfolding need
need_long m len h = rw (le-ltb len (white m) h)

need_split : (m : Meaning) (len : ℕ) (r : Result ℕ KeyFault) → m.need len ≡ r → need m (len + white m) ≡ both (len + white m) (risen r) (Ok (white_cells m))
need_split m len r e =
    let d : len + white m - white m ≡ len = omega arith in
    need_long m (len + white m) (omega arith) ∙ ap (λ q. both (len + white m) (risen q) (Ok (white_cells m))) (ap m.need d ∙ e)

pub law : (m : Meaning) → Whitens m (whitened m)
law m = record {
  width = refl;
  short = need_short m;
  rises = λ len fault e. need_split m len (Err fault) e;
  accepts = λ len n e few low. need_split m len (Ok n) e ∙ bounded_within (len + white m) (n + white_cells m) few low;
  exceeds = λ len n e more. need_split m len (Ok n) e ∙ bounded_above (len + white m) (n + white_cells m) more;
  schedules = schedules m;
  enciphers = enciphers m;
  deciphers = deciphers m;
}
