-- One byte of a CBC link, over the arrays of its record. Assumes nothing.
use Rattle.std.proofs.Common.{◌≡◌, ℕ, ◌-◌, ◌≤◌, List, [], ◌∷◌, length, take, set, replicate, sym, refl, ap, ◌∙◌, ap₂, arith}
use Rattle.std.proofs.lemmas.List.{length-take-le}
use Rattle.kit.specs.Meaning.{Meaning}
use Rattle.modes.specs.Join.{part}
use Rattle.modes.specs.Modes.{Cipher}
use Rattle.modes.specs.Machine.{state, fed, due, limit}
use Rattle.modes.specs.declared.Mode.{Mode}
use Rattle.modes.specs.declared.Mode.TheVariants.{Cbc}
use Rattle.modes.specs.declared.Direction.{Direction}
use Rattle.modes.specs.declared.Direction.TheVariants.{Receive}
use Rattle.modes.proofs.Blocks.{is_full}
use Rattle.link.specs.declared.Link.{Link}
use Rattle.link.specs.Record.{view, instrument, Fits, Kept, link}
use Rattle.link.specs.Calls.{overwritten, link_fed, link_due, Took}

-- ---- the machine over an array

module _ (k : Cipher) (v h : List ℕ) (x : ℕ) (long : length h ≡ k.width) where
  pub open_due : due Cbc Receive k (state v h) x ≡ part (k.dec h) v
  open_due = let n = is_full k h long in rw n refl

  pub open_fed : fed Cbc Receive k (state v h) x ≡ state h (x ∷ [])
  open_fed = let n = is_full k h long in rw n refl

-- ---- the record of a link whose mode and direction are known

pub due_as : (m : Meaning) (s : List ℕ) (l : Link) (x : ℕ) (md : Mode) (d : Direction) → l.mode ≡ md → l.direction ≡ d
    → link_due m s l x ≡ due md d (instrument m s l) (view l) x
due_as m s l x md d e f = ap₂ (λ y z. due y z (instrument m s l) (view l) x) e f

pub fed_as : (m : Meaning) (s : List ℕ) (l : Link) (x : ℕ) (md : Mode) (d : Direction) → l.mode ≡ md → l.direction ≡ d
    → link_fed m s l x ≡ fed md d (instrument m s l) (view l) x
fed_as m s l x md d e f = ap₂ (λ y z. fed y z (instrument m s l) (view l) x) e f

pub limit_as : (l : Link) (md : Mode) (d : Direction) → l.mode ≡ md → l.direction ≡ d → limit l.mode l.direction l.width ≡ limit md d l.width
limit_as l md d e f = ap₂ (λ y z. limit y z l.width) e f

pub kept : (l : Link) (chain held : List ℕ) (count : ℕ) → Kept l (link l chain held count)
kept l chain held count = record { stays = refl; mode = refl; direction = refl; key = refl; width = refl }

-- a block of an array that is due, written to the front
wrote : (block out out' d : List ℕ) (w : ℕ) → take w block ≡ d → out' ≡ overwritten out (take (w - 0) block) → out' ≡ overwritten out d
wrote block out out' d w e o = let z : w - 0 ≡ w = omega arith in o ∙ ap (λ n. overwritten out (take n block)) z ∙ ap (overwritten out) e

module _ (m : Meaning) (s : List ℕ) (l : Link) (x : ℕ) (out : List ℕ) (f : Fits l) (cbc : l.mode ≡ Cbc) (long : length l.held ≡ 32) where
  abbrev k : Cipher
  k = instrument m s l

  abbrev v : List ℕ
  v = take l.width l.chain

  module _ (receives : l.direction ≡ Receive) where
    module _ (text : List ℕ) (last : l.width ≤ l.count) (is : take l.width text ≡ part (k.dec (take l.width l.held)) v) where
      whole_held : l.count ≡ l.width
      whole_held = let e = limit_as l Cbc Receive cbc receives in omega (arith, f.begun)

      long_held : length (take l.count l.held) ≡ l.width
      long_held = length-take-le l.count l.held (omega (arith, f.thin, whole_held)) ∙ whole_held

      pub receive_due : link_due m s l x ≡ take l.width text
      receive_due = due_as m s l x Cbc Receive cbc receives ∙ open_due k v (take l.count l.held) x long_held
          ∙ ap (λ n. part (k.dec (take n l.held)) v) whole_held ∙ sym is

      pub receive_full : (out' : List ℕ) → length text ≡ 32 → out' ≡ overwritten out (take (l.width - 0) text)
          → Took m s l x out l.width (link l l.held (set (replicate 32 0) 0 x) 1) out'
      receive_full out' b o =
          let e = limit_as l Cbc Receive cbc receives in
          let n : length (take l.width text) ≡ l.width = length-take-le l.width text (omega (arith, f.thin)) in
          record {
            count = sym (ap length receive_due ∙ n);
            output = wrote text out out' (link_due m s l x) l.width (sym receive_due) o;
            state = ap₂ state (ap (λ j. take j l.held) (sym whole_held)) refl
                ∙ sym (fed_as m s l x Cbc Receive cbc receives ∙ open_fed k v (take l.count l.held) x long_held);
            fits = record { some = f.some; thin = f.thin; begun = omega (arith, f.some) };
            kept = kept l l.held (set (replicate 32 0) 0 x) 1;
          }
