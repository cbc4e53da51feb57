-- The end of a CBC link, over the arrays of its record. Assumes nothing.
use Rattle.std.proofs.Common.{◌≡◌, ℕ, ◌-◌, ◌%◌, ◌<◌, ◌≤◌, Bool, true, false, List, [], ◌∷◌, ◌++◌, length, take, replicate, Ok, Err, sym, refl, ap, ◌∙◌, ap₂, mod-eq_of_lt, arith, length-append}
use lib.ListN.{length-replicate}
use Rattle.std.proofs.lemmas.List.{length-take-le, take-take, take_all, take_at}
use Rattle.std.proofs.lemmas.Bool.{lt-ltb, le-ltb}
use Rattle.refusal.specs.Checks.{first}
use Rattle.refusal.specs.declared.Refusal.TheVariants.{Output, Ragged, Padding}
use Rattle.kit.specs.Meaning.{Meaning}
use Rattle.modes.specs.Join.{join}
use Rattle.modes.specs.Padding.{padding, padded_from}
use Rattle.modes.specs.Modes.{Cipher}
use Rattle.modes.specs.Machine.{closing, ragged, bare}
use Rattle.modes.specs.declared.Mode.TheVariants.{Cbc}
use Rattle.modes.specs.declared.Direction.{Direction}
use Rattle.modes.specs.declared.Direction.TheVariants.{Send}
use Rattle.modes.proofs.Paddings.{length_padded_from}
use Rattle.link.specs.declared.Link.{Link}
use Rattle.link.specs.Record.{view, instrument, Fits}
use Rattle.link.specs.Calls.{overwritten, link_closing, Ends}
use Rattle.link.proofs.Steps.{limit_as}

-- an array's first w bytes, padded from count on, are what is held with its padding
pub padded_held : (w count : ℕ) (held : List ℕ) → count < w → w ≤ length held
    → padded_from count (take w held) ≡ take count held ++ padding w (take count held)
padded_held w count held p q =
    let lb : length (take w held) ≡ w = length-take-le w held q in
    let lc : length (take count (take w held)) ≡ count = length-take-le count (take w held) (omega arith) in
    let lh : length (take count held) ≡ count = length-take-le count held (omega arith) in
    let md : length (take count held) % w ≡ count = ap (λ n. n % w) lh ∙ mod-eq_of_lt p in
    take_all (length (take w held)) (take count (take w held) ++ (0x80 ∷ replicate (length (take w held) - 1 - count) 0)) (simp (length-append, length-replicate) (omega (arith, lb, lc)))
    ∙ ap₂ (λ x n. x ++ (0x80 ∷ replicate (n - 1 - count) 0)) (take-take count w held (omega arith)) lb
    ∙ ap (λ n. take count held ++ (0x80 ∷ replicate (w - 1 - n) 0)) (sym md)

-- the checks of an end, by the answers to its tests
checks_as : (a b c a' b' c' : Bool) → a ≡ a' → b ≡ b' → c ≡ c'
    → first ((a, Ragged) ∷ (b, Padding) ∷ (c, Output) ∷ []) ≡ first ((a', Ragged) ∷ (b', Padding) ∷ (c', Output) ∷ [])
checks_as a b c a' b' c' e f g =
    ap (λ t. first ((t, Ragged) ∷ (b, Padding) ∷ (c, Output) ∷ [])) e ∙ ap (λ t. first ((a', Ragged) ∷ (t, Padding) ∷ (c, Output) ∷ [])) f
    ∙ ap (λ t. first ((a', Ragged) ∷ (b', Padding) ∷ (t, Output) ∷ [])) g

module _ (m : Meaning) (s : List ℕ) (l : Link) (out : List ℕ) (whole : ragged l.mode l.direction (instrument m s l) (view l) ≡ false)
    (marked : bare l.mode l.direction (instrument m s l) (view l) ≡ false) (n : ℕ) (long : length (link_closing m s l) ≡ n) where
  -- the last bytes have no room
  pub end_short : length out < n → Ends m s l out (Err Output) out
  end_short h =
      record { told = sym (checks_as _ _ _ false false true whole marked (lt-ltb (length out) (length (link_closing m s l)) (omega arith))); holds = refl }

  -- or they have
  pub end_given : n ≤ length out → (out' : List ℕ) → out' ≡ overwritten out (link_closing m s l) → Ends m s l out (Ok n) out'
  end_given h out' o =
      record {
        told = sym (checks_as _ _ _ false false false whole marked (le-ltb (length out) (length (link_closing m s l)) (omega arith)));
        holds = record { count = sym long; output = o };
      }

module _ (m : Meaning) (s : List ℕ) (l : Link) (f : Fits l) (cbc : l.mode ≡ Cbc) (long : length l.held ≡ 32) where
  abbrev k : Cipher
  k = instrument m s l

  abbrev v : List ℕ
  v = take l.width l.chain

  module _ (d : Direction) (way : l.direction ≡ d) where
    pub closing_as : link_closing m s l ≡ closing Cbc d k (view l)
    closing_as = ap₂ (λ y z. closing y z k (view l)) cbc way

    pub ragged_as : ragged l.mode l.direction k (view l) ≡ ragged Cbc d k (view l)
    ragged_as = ap₂ (λ y z. ragged y z k (view l)) cbc way

    pub bare_as : bare l.mode l.direction k (view l) ≡ bare Cbc d k (view l)
    bare_as = ap₂ (λ y z. bare y z k (view l)) cbc way

  -- sending: u is what is held, padded in place; the block is E of it
  module _ (sends : l.direction ≡ Send) (u rest block : List ℕ) (padded : u ≡ padded_from l.count (take (l.width - 0) l.held))
      (is : take l.width block ≡ k.enc (join (take l.width (u ++ rest)) v)) where
    pub send_closing : link_closing m s l ≡ take l.width block
    send_closing =
        let e = limit_as l Cbc Send cbc sends in
        let z : l.width - 0 ≡ l.width = omega arith in
        let lw : length (take l.width l.held) ≡ l.width = length-take-le l.width l.held (omega (arith, f.thin)) in
        let p : u ≡ padded_from l.count (take l.width l.held) = padded ∙ ap (λ n. padded_from l.count (take n l.held)) z in
        let lu : length u ≡ l.width = ap length p ∙ length_padded_from l.count (take l.width l.held) ∙ lw in
        let h = padded_held l.width l.count l.held (omega (arith, f.begun)) (omega (arith, f.thin)) in
        closing_as Send sends ∙ ap (λ t. k.enc (join t v)) (sym (take_at u rest l.width lu ∙ p ∙ h)) ∙ sym is
