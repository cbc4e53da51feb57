-- The two widths of MKV: instances of what holds at both. Assumes nothing.
use Rattle.std.specs.Prelude.{refl}
use Rattle.std.proofs.Common.{inl, inr}
use Rattle.field.specs.Known.{m4, m4_inverse, m8, m8_inverse}
use Rattle.field.proofs.Known.{m4_left, m4_right, m8_left, m8_right}
use Rattle.kit.specs.Meaning.{Sound}
use Rattle.mkv.specs.Versions.{mkv_128, mkv_256, KeyExpansion}
use Rattle.mkv.specs.StepsLemmas.{Inverse}
use Rattle.mkv.specs.Sound.{sound, key_expansion}

inverse_4 : Inverse 4 m4 m4_inverse
unfolding m4 m4_inverse
inverse_4 = record { rows = refl; rows_back = refl; left = m4_left; right = m4_right }

inverse_8 : Inverse 8 m8 m8_inverse
unfolding m8 m8_inverse
inverse_8 = record { rows = refl; rows_back = refl; left = m8_left; right = m8_right }

pub sound_128 : Sound mkv_128
sound_128 = sound 4 m4 m4_inverse (inl refl) inverse_4

pub sound_256 : Sound mkv_256
sound_256 = sound 8 m8 m8_inverse (inr refl) inverse_8

pub keys_128 : KeyExpansion 4 m4 mkv_128
keys_128 = key_expansion 4 m4 m4_inverse (inl refl) inverse_4

pub keys_256 : KeyExpansion 8 m8 mkv_256
keys_256 = key_expansion 8 m8 m8_inverse (inr refl) inverse_8
