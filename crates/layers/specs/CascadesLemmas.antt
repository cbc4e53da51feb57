-- The cascade of two sound kits is sound, and means what its law says. Assumes nothing.
use Rattle.std.proofs.Common.{◌≡◌, ℕ, ◌+◌, ◌-◌, ◌*◌, ◌<◌, ◌≤◌, ◌⊎◌, List, ◌++◌, length, take, drop, None, Ok, Err, Result, sym, refl, ap, ◌∙◌, subst, ap₂, inl, inr, arith}
use Rattle.std.proofs.lemmas.List.{length-append, length-take-le, length-drop, take_at, drop_at}
use Rattle.std.proofs.lemmas.Bool.{lt-ltb, le-ltb}
use Rattle.refusal.specs.declared.KeyFault.{KeyFault}
use Rattle.refusal.specs.declared.Refusal.{Refusal}
use Rattle.block.specs.Bytes.{Bytes, Block}
use Rattle.block.proofs.Parts.{bytes_append, bytes_take, bytes_drop}
use Rattle.kit.specs.Meaning.{Meaning, Sized, Sound}
use Rattle.kit.specs.Calls.{told, unless, expand_refusal, cipher_refusal, expanded}
use Rattle.kit.proofs.Calls.{cipher_passes, expand_passes, expanded_fits, told_ok}
use Rattle.refusal.specs.Faults.{here}
use Rattle.layers.specs.Depth.{risen, both}
use Rattle.layers.specs.Cascaded.{bytes_of, need, schedule, enc, dec, cascaded, Cascades}
use Rattle.layers.specs.JoinedLemmas.{same₃}
use Rattle.layers.specs.AnswersLemmas.{risen_ok, both_ok, split_ok, bounded_within, bounded_above}

-- a key of a cascade that is accepted
pub record Accepted (p : ℕ) (m n : Meaning) (len cells : ℕ) : Type 0 where
  pub ours : ℕ
  pub others : ℕ
  pub long : p ≤ len
  pub first : m.need p ≡ Ok ours
  pub second : n.need (len - p) ≡ Ok others
  pub sum : cells ≡ ours + others
  pub few : cells ≤ 96
  pub short : len ≤ 256

pub accepted : (p : ℕ) (m n : Meaning) (len cells : ℕ) → need p m n len ≡ Ok cells → Accepted p m n len cells
unfolding need
accepted p m n len cells e =
    let s = split_ok len p (both len (risen (m.need p)) (risen (n.need (len - p)))) cells e in
    let b = both_ok len (risen (m.need p)) (risen (n.need (len - p))) cells s.1 in
    record {
      ours = b.cells_first;
      others = b.cells_second;
      long = s.0;
      first = risen_ok (m.need p) b.cells_first b.first_ok;
      second = risen_ok (n.need (len - p)) b.cells_second b.second_ok;
      sum = b.sum;
      few = b.few;
      short = b.short;
    }

pub told_accepted : (p : ℕ) (m n : Meaning) (len cells : ℕ) (r : Result ℕ Refusal) → r ≡ told (need p m n len) → r ≡ Ok cells → Accepted p m n len cells
told_accepted p m n len cells r e f = accepted p m n len cells (told_ok (need p m n len) cells (sym e ∙ f))

pub bytes_are : (r : Result ℕ KeyFault) (n : ℕ) → r ≡ Ok n → bytes_of r ≡ 16 * n
bytes_are r n e = ap bytes_of e

-- the first's schedule ends within the joined one
pub begins : (p : ℕ) (m n : Meaning) (len cells : ℕ) → Accepted p m n len cells → (size ours : ℕ) → size ≡ 16 * cells → m.need p ≡ Ok ours → 16 * ours ≤ size
begins p m n len cells a size ours e f =
    let g = sym (bytes_are (m.need p) ours f) ∙ bytes_are (m.need p) a.ours a.first in
    omega (arith, a.sum)

-- ---- a schedule that fits, in its parts

module _ (p : ℕ) (m n : Meaning) (sm : Sound m) (sn : Sound n) (same : n.width ≡ m.width)
    (len : ℕ) (s x : List ℕ) (h : Sized (cascaded p m n) len s x) where
  pub key : Accepted p m n len h.cells
  key = accepted p m n len h.cells h.accepted

  pub block_front : Block (16 * key.ours) (take (bytes_of (m.need p)) s)
  block_front =
      let k = key in
      let e : bytes_of (m.need p) ≡ 16 * k.ours = bytes_are (m.need p) k.ours k.first in
      let l : bytes_of (m.need p) ≤ length s = omega (arith, h.schedule.size, k.sum) in
      record { size = length-take-le (bytes_of (m.need p)) s l ∙ e; bytes = bytes_take (bytes_of (m.need p)) s h.schedule.bytes }

  pub block_rest : Block (16 * key.others) (drop (bytes_of (m.need p)) s)
  block_rest =
      let k = key in
      let e : bytes_of (m.need p) ≡ 16 * k.ours = bytes_are (m.need p) k.ours k.first in
      record { size = length-drop (bytes_of (m.need p)) s ∙ omega (arith, h.schedule.size, k.sum); bytes = bytes_drop (bytes_of (m.need p)) s h.schedule.bytes }

  pub fits_first : (y : List ℕ) → Block m.width y → Sized m p (take (bytes_of (m.need p)) s) y
  fits_first y hy = record { cells = key.ours; accepted = key.first; schedule = block_front; block = hy }

  pub fits_second : (y : List ℕ) → Block m.width y → Sized n (len - p) (drop (bytes_of (m.need p)) s) y
  fits_second y hy = record { cells = key.others; accepted = key.second; schedule = block_rest; block = subst (λ (w : ℕ). Block w y) (sym same) hy }

  -- each kit keeps the blocks of the cascade's width
  pub first_enc : (y : List ℕ) → Block m.width y → Block m.width (m.enc p (take (bytes_of (m.need p)) s) y)
  first_enc y hy = sm.enciphers p _ y (fits_first y hy)

  pub first_dec : (y : List ℕ) → Block m.width y → Block m.width (m.dec p (take (bytes_of (m.need p)) s) y)
  first_dec y hy = sm.deciphers p _ y (fits_first y hy)

  pub second_enc : (y : List ℕ) → Block m.width y → Block m.width (n.enc (len - p) (drop (bytes_of (m.need p)) s) y)
  second_enc y hy = let z = n.enc (len - p) (drop (bytes_of (m.need p)) s) y in subst (λ (w : ℕ). Block w z) same (sn.enciphers (len - p) _ y (fits_second y hy))

  pub second_dec : (y : List ℕ) → Block m.width y → Block m.width (n.dec (len - p) (drop (bytes_of (m.need p)) s) y)
  second_dec y hy = let z = n.dec (len - p) (drop (bytes_of (m.need p)) s) y in subst (λ (w : ℕ). Block w z) same (sn.deciphers (len - p) _ y (fits_second y hy))

  pub block_enc : Block m.width (enc p m n len s x)
  unfolding enc
  block_enc = second_enc _ (first_enc x h.block)

  pub block_dec : Block m.width (dec p m n len s x)
  unfolding dec
  block_dec = first_dec _ (second_dec x h.block)

  pub back : dec p m n len s (enc p m n len s x) ≡ x
  unfolding enc dec
  back =
      let y = m.enc p (take (bytes_of (m.need p)) s) x in
      ap (m.dec p (take (bytes_of (m.need p)) s)) (sn.back (len - p) _ y (fits_second y (first_enc x h.block)))
      ∙ sm.back p _ x (fits_first x h.block)

  pub forth : enc p m n len s (dec p m n len s x) ≡ x
  unfolding enc dec
  forth =
      let y = n.dec (len - p) (drop (bytes_of (m.need p)) s) x in
      ap (n.enc (len - p) (drop (bytes_of (m.need p)) s)) (sm.forth p _ y (fits_first y (second_dec x h.block)))
      ∙ sn.forth (len - p) _ x (fits_second x h.block)

-- one call below: it is accepted, and what it leaves
module _ (m : Meaning) (f : ℕ → List ℕ → List ℕ → List ℕ) (len : ℕ) (s x : List ℕ) (h : Sized m len s x)
    (l : ℕ) (t y : List ℕ) (el : l ≡ len) (et : t ≡ s) (ey : y ≡ x) where
  pub passes : cipher_refusal m l t y ≡ None
  passes =
      same₃ (cipher_refusal m) el et ey
      ∙ cipher_passes m.width (m.need len) (length s) (length x) h.cells h.accepted h.schedule.size h.block.size

  pub leaves : (z : List ℕ) → z ≡ unless (cipher_refusal m l t y) (f l t y) y → z ≡ f len s x
  leaves z ez = ez ∙ ap (λ r. unless r (f l t y) y) passes ∙ same₃ f el et ey

-- ---- a key expanded in place: its part j into x, its part k into y

module _ (p : ℕ) (m n : Meaning) (key out : List ℕ) (cells : ℕ) (a : Accepted p m n (length key) cells) (size : length out ≡ 16 * cells)
    (end : ℕ) (ee : end ≡ bytes_of (m.need p)) (j k x y : List ℕ) (ej : j ≡ take p key) (ek : k ≡ drop p key) (lx : length x ≡ end) (ly : length y + end ≡ length out) where
  end_is : end ≡ 16 * a.ours
  end_is = ee ∙ bytes_are (m.need p) a.ours a.first

  need_first : m.need (length j) ≡ Ok a.ours
  need_first = ap (λ l. m.need (length l)) ej ∙ ap m.need (length-take-le p key a.long) ∙ a.first

  need_second : n.need (length k) ≡ Ok a.others
  need_second = ap (λ l. n.need (length l)) ek ∙ ap n.need (length-drop p key) ∙ a.second

  room_second : length y ≡ 16 * a.others
  room_second = let e = end_is in omega (arith, a.sum)

  pub first_accepted : expand_refusal m j x ≡ None
  first_accepted = expand_passes (m.need (length j)) (length x) a.ours need_first (lx ∙ end_is)

  pub second_accepted : expand_refusal n k y ≡ None
  second_accepted = expand_passes (n.need (length k)) (length y) a.others need_second room_second

  pub written : (u v : List ℕ) → u ≡ expanded m j x → v ≡ expanded n k y → u ++ v ≡ schedule p m n key
  unfolding schedule
  written u v eu ev =
      ap₂ ◌++◌ (eu ∙ expanded_fits m j x a.ours need_first (lx ∙ end_is) ∙ ap m.schedule ej)
      (ev ∙ expanded_fits n k y a.others need_second room_second ∙ ap n.schedule ek)

block_schedule : (p : ℕ) (m n : Meaning) → Sound m → Sound n → (cells : ℕ) (key : List ℕ) → need p m n (length key) ≡ Ok cells → Bytes key → Block (16 * cells) (schedule p m n key)
unfolding schedule
block_schedule p m n sm sn cells key e hk =
    let a = accepted p m n (length key) cells e in
    let hm = sm.scheduled a.ours (take p key) (ap m.need (length-take-le p key a.long) ∙ a.first) (bytes_take p key hk) in
    let hn = sn.scheduled a.others (drop p key) (ap n.need (length-drop p key) ∙ a.second) (bytes_drop p key hk) in
    let total : 16 * a.ours + 16 * a.others ≡ 16 * cells = omega (arith, a.sum) in
    record {
      size = length-append (m.schedule (take p key)) (n.schedule (drop p key)) ∙ ap₂ ◌+◌ hm.size hn.size ∙ total;
      bytes = bytes_append (m.schedule (take p key)) (n.schedule (drop p key)) hm.bytes hn.bytes;
    }

pub sound_cascaded : (p : ℕ) (m n : Meaning) → Sound m → Sound n → n.width ≡ m.width → Sound (cascaded p m n)
sound_cascaded p m n sm sn same = record {
  widths = sm.widths;
  lengths = λ len c e.
      let a = accepted p m n len c e in
      let l = sm.lengths p a.ours a.first in
      (omega (arith, l.0, a.long), a.short);
  cells = λ len c e.
      let a = accepted p m n len c e in
      let k = sm.cells p a.ours a.first in
      (omega (arith, k.0, a.sum), a.few);
  scheduled = block_schedule p m n sm sn;
  enciphers = block_enc p m n sm sn same;
  deciphers = block_dec p m n sm sn same;
  back = back p m n sm sn same;
  forth = forth p m n sm sn same;
}

-- ---- the law

pub need_short : (p : ℕ) (m n : Meaning) (len : ℕ) → len < p → need p m n len ≡ Err (here len)
unfolding need
need_short p m n len h = rw (lt-ltb len p h)

pub need_long : (p : ℕ) (m n : Meaning) (len : ℕ) → p ≤ len → need p m n len ≡ both len (risen (m.need p)) (risen (n.need (len - p)))
unfolding need
need_long p m n len h = rw (le-ltb len p h)

need_split : (p : ℕ) (m n : Meaning) (len : ℕ) (q r : Result ℕ KeyFault) → m.need p ≡ q → n.need len ≡ r → need p m n (p + len) ≡ both (p + len) (risen q) (risen r)
need_split p m n len q r eq er =
    let d : p + len - p ≡ len = omega arith in
    need_long p m n (p + len) (omega arith) ∙ ap₂ (λ u v. both (p + len) (risen u) (risen v)) eq (ap n.need d ∙ er)

never : (p : ℕ) (m n : Meaning) → Sound m → (p ≡ 0) ⊎ (256 < p) → (len c : ℕ) → need p m n len ≡ Ok c → ⊥
never p m n sm (inl z) len c e = let a = accepted p m n len c e in let l = sm.lengths p a.ours a.first in omega (arith, l.0)
never p m n sm (inr z) len c e = let a = accepted p m n len c e in let l = sm.lengths p a.ours a.first in omega (arith, l.1)

schedules : (p : ℕ) (m n : Meaning) (j k : List ℕ) → length j ≡ p → schedule p m n (j ++ k) ≡ m.schedule j ++ n.schedule k
unfolding schedule
schedules p m n j k lj = ap₂ (λ u v. m.schedule u ++ n.schedule v) (take_at j k p lj) (drop_at j k p lj)

-- a schedule of two parts
module _ (p : ℕ) (m n : Meaning) (len c : ℕ) (s t : List ℕ) (e : m.need p ≡ Ok c) (ls : length s ≡ 16 * c) where
  front_size : length s ≡ bytes_of (m.need p)
  front_size = ls ∙ sym (bytes_are (m.need p) c e)

  front_is : take (bytes_of (m.need p)) (s ++ t) ≡ s
  front_is = take_at s t (bytes_of (m.need p)) front_size

  rest_is : drop (bytes_of (m.need p)) (s ++ t) ≡ t
  rest_is = drop_at s t (bytes_of (m.need p)) front_size

  left_is : p + len - p ≡ len
  left_is = omega arith

  enciphers : (x : List ℕ) → enc p m n (p + len) (s ++ t) x ≡ n.enc len t (m.enc p s x)
  unfolding enc
  enciphers x = same₃ n.enc left_is rest_is (ap (λ u. m.enc p u x) front_is)

  deciphers : (y : List ℕ) → dec p m n (p + len) (s ++ t) y ≡ m.dec p s (n.dec len t y)
  unfolding dec
  deciphers y = same₃ m.dec refl front_is (ap₂ (λ l u. n.dec l u y) left_is rest_is)

pub law : (p : ℕ) (m n : Meaning) → Sound m → n.width ≡ m.width → Cascades p m n (cascaded p m n)
law p m n sm same = record {
  widths = (refl, sym same);
  short = need_short p m n;
  first_rises = λ len fault e. need_split p m n len (Err fault) (n.need len) e refl;
  second_rises = λ len c fault e f. need_split p m n len (Ok c) (Err fault) e f;
  accepts = λ len c d e f few low. need_split p m n len (Ok c) (Ok d) e f ∙ bounded_within (p + len) (c + d) few low;
  exceeds = λ len c d e f more. need_split p m n len (Ok c) (Ok d) e f ∙ bounded_above (p + len) (c + d) more;
  never = never p m n sm;
  schedules = schedules p m n;
  enciphers = λ len c s t x e ls. enciphers p m n len c s t e ls x;
  deciphers = λ len c s t y e ls. deciphers p m n len c s t e ls y;
}
