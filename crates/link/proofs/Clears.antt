-- What lies beyond a block, and beyond the bytes held. Assumes nothing.
use Rattle.std.proofs.Common.{◌≡◌, ◌≢◌, ℕ, ◌+◌, ◌-◌, ◌<◌, List, length, drop, replicate, set, refl, sym, ap, ◌∙◌, arith}
use Rattle.std.proofs.lemmas.List.{drop-drop, drop-set, drop-replicate}
use Rattle.modes.specs.Machine.{limit, rolled}
use Rattle.modes.specs.declared.Mode.{Mode}
use Rattle.modes.specs.declared.Mode.TheVariants.{Cbc, Cfb, Ofb}
use Rattle.modes.specs.declared.Direction.{Direction}
use Rattle.link.specs.declared.Link.{Link}
use Rattle.link.specs.Record.{Clear, link}

-- one byte more is held
held_more : (h : List ℕ) (n x : ℕ) → n < length h → drop n h ≡ replicate (32 - n) 0 → drop (n + 1) (set h n x) ≡ replicate (32 - (n + 1)) 0
held_more h n x i clear =
    let k : 32 - n - 1 ≡ 32 - (n + 1) = omega arith in
    sym (drop-drop 1 n (set h n x)) ∙ ap (drop 1) (drop-set h n x i) ∙ sym (drop-drop 1 n h) ∙ ap (drop 1) clear ∙ drop-replicate 1 (32 - n) 0
    ∙ ap (λ j. replicate j 0) k

-- the block that comes before the next one
rolled_clear : (m : Mode) (w : ℕ) (a b z : List ℕ) → drop w a ≡ z → drop w b ≡ z → drop w (rolled m a b) ≡ z
rolled_clear Cbc w a b z p q = q
rolled_clear Cfb w a b z p q = q
rolled_clear Ofb w a b z p q = p

module _ (l : Link) (clear : Clear l) (chain : List ℕ) (beyond : drop l.width chain ≡ drop l.width l.chain) (x : ℕ) (within : l.count < length l.held) where
  pub one_more : Clear (link l chain (set l.held l.count x) (l.count + 1))
  one_more = record { chain = beyond ∙ clear.chain; held = held_more l.held l.count x within clear.held }

  module _ (whole : l.width ≡ l.count + 1) where
    block_held : drop l.width (set l.held l.count x) ≡ replicate (32 - l.width) 0
    block_held = rw whole (held_more l.held l.count x within clear.held)

    pub sealed : (block : List ℕ) → drop l.width block ≡ drop l.width (set l.held l.count x) → Clear (link l block (replicate 32 0) 0)
    sealed block e = record { chain = e ∙ block_held; held = refl }

    pub rolled_on : Clear (link l (rolled l.mode chain (set l.held l.count x)) (replicate 32 0) 0)
    rolled_on =
        record { chain = rolled_clear l.mode l.width chain (set l.held l.count x) (replicate (32 - l.width) 0) (beyond ∙ clear.chain) block_held; held = refl }

-- the block held is whole: it takes the chain block's place, and a byte is held after it
pub opened_after : (l : Link) (x : ℕ) → Clear l → l.count ≡ l.width → Clear (link l l.held (set (replicate 32 0) 0 x) 1)
opened_after l x clear e = record { chain = ap (λ n. drop n l.held) (sym e) ∙ clear.held ∙ ap (λ n. replicate (32 - n) 0) e; held = refl }

-- a pad in the chain block's place
pub begun_clear : (l l₁ : Link) → l₁ ≡ link l l₁.chain l.held l.count → drop l.width l₁.chain ≡ drop l.width l.chain → Clear l → Clear l₁
begun_clear l l₁ rest beyond clear =
    let w : l₁.width ≡ l.width = ap (λ z. z.width) rest in
    let h : l₁.held ≡ l.held = ap (λ z. z.held) rest in
    let n : l₁.count ≡ l.count = ap (λ z. z.count) rest in
    record { chain = rw w (beyond ∙ clear.chain); held = rw (h, n) clear.held }

-- CFB and OFB hold less than a block
pub limit_streams : (m : Mode) (d : Direction) (w : ℕ) → m ≢ Cbc → limit m d w ≡ w
limit_streams Cbc d w streams = absurd (streams refl)
limit_streams Cfb d w streams = refl
limit_streams Ofb d w streams = refl
