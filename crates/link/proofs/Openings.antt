-- A link just opened. Assumes nothing.
use Rattle.std.proofs.Common.{◌≡◌, ℕ, ◌-◌, ◌<◌, ◌≤◌, true, List, [], ◌++◌, length, drop, replicate, refl, ap, ◌∙◌, arith}
use borrow.Rule.Slice.PartMut.{post_of}
use Rattle.std.proofs.lemmas.List.{take_at, drop_at}
use Rattle.modes.specs.Machine.{state, opened, limit}
use Rattle.modes.specs.declared.Mode.{Mode}
use Rattle.modes.specs.declared.Mode.TheVariants.{Cbc, Cfb, Ofb}
use Rattle.modes.specs.declared.Direction.{Direction}
use Rattle.modes.specs.declared.Direction.TheVariants.{Send, Receive}
use Rattle.link.specs.declared.Link.{Link}
use Rattle.link.specs.Record.{view, Fits, Clear, begun}
use Rattle.link.proofs.Parts.{start_chain}

limit_some : (md : Mode) (d : Direction) (w : ℕ) → 1 ≤ w → 0 < limit md d w
limit_some Cbc Send w h = omega arith
limit_some Cbc Receive w h = omega arith
limit_some Cfb d w h = omega arith
limit_some Ofb d w h = omega arith

abbrev made : Mode → Direction → ℕ → ℕ → List ℕ → Link
made md d key w chain = record { «open» = true; mode = md; direction = d; key = key; width = w; chain = chain; held = replicate 32 0; count = 0 }

-- u is the copy of the start block
module _ (md : Mode) (d : Direction) (key : ℕ) (start u : List ℕ) (copied : u ≡ start) where
  abbrev w : ℕ
  w = length start

  pub opened_record : made md d key w (u ++ post_of 0 (w - 0) (replicate 32 0)) ≡ begun md d key w start
  opened_record = ap (made md d key w) (start_chain start u w copied)

  pub opened_state : view (made md d key w (u ++ post_of 0 (w - 0) (replicate 32 0))) ≡ opened start
  opened_state = ap (λ v. state v []) (take_at u (post_of 0 (w - 0) (replicate 32 0)) w (ap length copied) ∙ copied)

  pub opened_fits : 1 ≤ w → w ≤ 32 → Fits (made md d key w (u ++ post_of 0 (w - 0) (replicate 32 0)))
  opened_fits p q = record { some = p; thin = q; begun = limit_some md d w p }

  pub opened_clear : Clear (made md d key w (u ++ post_of 0 (w - 0) (replicate 32 0)))
  opened_clear = record { chain = ap (drop w) (start_chain start u w copied) ∙ drop_at start (replicate (32 - w) 0) w refl; held = refl }
