-- Kits that agree on a key decipher alike under it. Assumes nothing.
use Rattle.std.proofs.Common.{◌≡◌, ℕ, List, length, Ok, sym, ap, ◌∙◌, subst}
use Rattle.block.specs.Bytes.{Bytes, Block}
use Rattle.kit.specs.Meaning.{Meaning, Sized, Sound, AgreeBack}

-- a key that is accepted has a schedule that fits
pub sized : (m : Meaning) → Sound m → (n : ℕ) (key b : List ℕ) → m.need (length key) ≡ Ok n → Bytes key → Block m.width b
    → Sized m (length key) (m.schedule key) b
sized m sound n key b e bk hb = record { cells = n; accepted = e; schedule = sound.scheduled n key e bk; block = hb }

pub agree_back : (a b : Meaning) → Sound a → Sound b → AgreeBack a b
agree_back a b sa sb key x bk agree hx =
    let len = length key in
    let ka = a.schedule key in
    let kb = b.schedule key in
    let y = a.dec len ka x in
    let fits = sized a sa agree.first.0 key x agree.first.1 bk hx in
    let hy : Block a.width y = sa.deciphers len ka x fits in
    let hy_b : Block b.width y = subst (λ (w : ℕ). Block w y) agree.widths hy in
    let fits_b = sized b sb agree.second.0 key y agree.second.1 bk hy_b in
    sym (ap (b.dec len kb) (sym (sa.forth len ka x fits) ∙ agree.alike y hy) ∙ sb.back len kb y fits_b)
