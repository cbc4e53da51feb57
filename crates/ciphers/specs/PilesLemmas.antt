-- Each cipher that can be named is sound as a kit, and has the width of its kind. Assumes nothing.
use Rattle.std.proofs.Common.{◌≡◌, ℕ, refl, sym, ◌∙◌}
use Rattle.kit.specs.Meaning.{Meaning, Sound}
use Rattle.aes.specs.Sound.{sound as sound_aes}
use Rattle.mkv.specs.Widths.{sound_128, sound_256}
use Rattle.layers.specs.WhitensLemmas.{sound_whitened}
use Rattle.layers.specs.CascadesLemmas.{sound_cascaded}
use Rattle.ciphers.specs.declared.plain.Narrow.{Narrow}
use Rattle.ciphers.specs.declared.plain.Narrow.TheVariants.{Aes, Mkv128}
use Rattle.ciphers.specs.declared.plain.Wide.{Wide}
use Rattle.ciphers.specs.declared.plain.Wide.TheVariants.{Mkv256}
use Rattle.ciphers.specs.declared.layered.Base.{Base}
use Rattle.ciphers.specs.declared.layered.Base.TheVariants.{One, Two}
use Rattle.ciphers.specs.declared.layered.Coat.{Coat}
use Rattle.ciphers.specs.declared.layered.Coat.TheVariants.{Bare, Whitened, TwiceWhitened}
use Rattle.ciphers.specs.declared.layered.Coated.{Coated}
use Rattle.ciphers.specs.Piles.{narrow, wide, base_meaning, coated, coated_meaning}

pub width_narrow : (k : Narrow) → (narrow k).width ≡ 16
width_narrow Aes = refl
width_narrow Mkv128 = refl

pub sound_narrow : (k : Narrow) → Sound (narrow k)
sound_narrow Aes = sound_aes
sound_narrow Mkv128 = sound_128

pub width_wide : (k : Wide) → (wide k).width ≡ 32
width_wide Mkv256 = refl

pub sound_wide : (k : Wide) → Sound (wide k)
sound_wide Mkv256 = sound_256

width_in_coat : (coat : Coat) (m : Meaning) → (coated coat m).width ≡ m.width
width_in_coat Bare m = refl
width_in_coat Whitened m = refl
width_in_coat TwiceWhitened m = refl

sound_in_coat : (coat : Coat) (m : Meaning) → Sound m → Sound (coated coat m)
sound_in_coat Bare m sound = sound
sound_in_coat Whitened m sound = sound_whitened m sound
sound_in_coat TwiceWhitened m sound = let w = sound_whitened m sound in sound_whitened _ w

-- over ciphers of one width
module _ {K : Type 0} {w : ℕ} (of : K → Meaning) (widths : (k : K) → (of k).width ≡ w) where
  pub width_base : (b : Base K) → (base_meaning of b).width ≡ w
  width_base (One cipher) = widths cipher
  width_base (Two first split second) = widths first

  pub width_coated : (c : Coated K) → (coated_meaning of c).width ≡ w
  width_coated c = width_in_coat c.coat _ ∙ width_base c.base

  module _ (sound : (k : K) → Sound (of k)) where
    pub sound_base : (b : Base K) → Sound (base_meaning of b)
    sound_base (One cipher) = sound cipher
    sound_base (Two first split second) = sound_cascaded split (of first) (of second) (sound first) (sound second) (widths second ∙ sym (widths first))

    pub sound_coated : (c : Coated K) → Sound (coated_meaning of c)
    sound_coated c = sound_in_coat c.coat _ (sound_base c.base)
