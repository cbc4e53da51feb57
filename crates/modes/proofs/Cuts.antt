-- Bytes are cut in blocks in one way, so that a text has one ciphertext. Assumes nothing.
use Rattle.std.proofs.Common.{◌≡◌, ℕ, ◌<◌, List, [], ◌∷◌, ◌++◌, length, take, drop, sym, refl, ap, ◌∙◌, ap₂, append-nil, arith, length-append}
use Rattle.std.proofs.lemmas.List.{take_at, drop_at}
use Rattle.modes.specs.Modes.{Cipher, onward, Sends, Chain, ends, goes, Cut, none, short, whole}
use Rattle.std.specs.List.{concat}
use Rattle.modes.specs.Laws.{OneCiphertext}
use Rattle.modes.specs.declared.Mode.{Mode}

pub cut_concat : {m : Mode} {w : ℕ} {t : List ℕ} {bs : List (List ℕ)} → Cut m w t bs → t ≡ concat bs
cut_concat none = refl
cut_concat (short st b l g) = sym (append-nil b)
cut_concat (whole b l cut) = ap (λ t. b ++ t) (cut_concat cut)

-- a block in front, against bytes that begin with one
same_front : (w : ℕ) (a b r s : List ℕ) → length a ≡ w → length b ≡ w → a ++ r ≡ b ++ s → (a ≡ b) × (r ≡ s)
same_front w a b r s la lb e = (sym (take_at a r w la) ∙ ap (take w) e ∙ take_at b s w lb, sym (drop_at a r w la) ∙ ap (drop w) e ∙ drop_at b s w lb)

pub cuts_same : {m : Mode} {w : ℕ} {t u : List ℕ} {bs cs : List (List ℕ)} → 0 < w → t ≡ u → Cut m w t bs → Cut m w u cs → bs ≡ cs
cuts_same some e none none = refl
cuts_same some e none (short st b l g) = absurd (omega (arith, ap length e))
cuts_same some e none (whole b {rest} l cut) = absurd (omega (arith, ap length e, length-append b rest))
cuts_same some e (short st a l g) none = absurd (omega (arith, ap length e))
cuts_same some e (short st a l g) (short _ b h i) = ap (λ x. x ∷ []) e
cuts_same some e (short st a l g) (whole b {rest} h cut) = absurd (omega (arith, ap length e, length-append b rest))
cuts_same some e (whole a {rest} l cut) none = absurd (omega (arith, ap length e, length-append a rest))
cuts_same some e (whole a {rest} l cut) (short st b h i) = absurd (omega (arith, ap length e, length-append a rest))
cuts_same {m} {w} some e (whole a {rest} l cut) (whole b {rest = other} h cut') =
    let f = same_front w a b rest other l h e in
    ap₂ ◌∷◌ f.0 (cuts_same some f.1 cut cut')

chains_same : {m : Mode} (k : Cipher) {v u : List ℕ} {ps qs cs ds : List (List ℕ)} → v ≡ u → ps ≡ qs → Chain m k (Sends m k) v ps cs → Chain m k (Sends m k) u qs ds → cs ≡ ds
chains_same k e f ends ends = refl
chains_same k e f ends (goes s ch) = let z : ◌≡◌ {A = ℕ} 0 1 = cc in absurd (omega arith)
chains_same k e f (goes s ch) ends = let z : ◌≡◌ {A = ℕ} 0 1 = cc in absurd (omega arith)
chains_same {m} k e f (goes {v} {p} {c} {ps} s ch) (goes {v = v'} {p = p'} {c = c'} {ps = ps'} s' ch') =
    let p_same : p ≡ p' = cc in
    let ps_same : ps ≡ ps' = cc in
    let c_same : c ≡ c' = cc in
    ap₂ ◌∷◌ c_same (chains_same k (ap₂ (onward m k) e c_same) ps_same ch ch')

pub one_ciphertext : OneCiphertext
one_ciphertext m k start text bytes bytes' some a b =
    cut_concat a.bytes_cut ∙ ap concat (chains_same k refl (cuts_same some refl a.text_cut b.text_cut) a.chain b.chain) ∙ sym (cut_concat b.bytes_cut)
