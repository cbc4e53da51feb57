-- The ciphers of the data files, each with the meaning that its crate proves.
use Rattle.std.specs.Prelude.{ℕ, List, codes}
use Rattle.aes.specs.Versions.{aes}
use Rattle.kit.specs.Calls.{enciphered, deciphered}
use Rattle.kit.specs.Meaning.{Meaning}
use Rattle.mkv.specs.Versions.{mkv_128, mkv_256}
use Rattle.compare.specs.declared.cipher.Cipher.{Cipher}
use Rattle.compare.specs.declared.cipher.Cipher.TheVariants.{Mkv128, Mkv256, Aes}
use Rattle.compare.specs.declared.fault.Way.{Way}
use Rattle.compare.specs.declared.fault.Way.TheVariants.{Forth, Back}

-- The name that a data file has for a cipher.
abbrev pub title : Cipher → List ℕ
title Mkv128 = codes "mkv128"
title Mkv256 = codes "mkv256"
title Aes = codes "aes"

-- What each cipher means, as its crate defines it.
abbrev pub meaning : Cipher → Meaning
meaning Mkv128 = mkv_128
meaning Mkv256 = mkv_256
meaning Aes = aes

-- What a cipher makes of a block, one way or the other.
abbrev pub ciphered : Way → Meaning → ℕ → List ℕ → List ℕ → List ℕ
ciphered Forth = enciphered
ciphered Back = deciphered
