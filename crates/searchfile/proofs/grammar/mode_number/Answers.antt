use Rattle.std.proofs.Common.{◌≡◌, ◌≢◌, ℕ, ◌<◌, List, codes, Option, None, Some, Result, Ok, Err, SomeIff, ok_or, refl, ◌∙◌, subst, rules}
use Rattle.signal.specs.Figures.{Figure}
use Rattle.searchfile.specs.declared.fault.Fault.{Fault}
use Rattle.searchfile.specs.declared.fault.Fault.TheVariants.{OpensForm}
use Rattle.searchfile.specs.Lines.{Numbered, ModeNumber, cbc, cfb, ofb, written, ModeNumbered}
use Rattle.searchfile.proofs.grammar.mode_number.Goals as goal

-- a number that is told where it fits
passed : (text : List ℕ) (n : ℕ) (o : Option ℕ) → (text ≢ codes "cbc") × (text ≢ codes "cfb") × (text ≢ codes "ofb") → Numbered text (Ok n) → SomeIff o (n < 256) n
    → ModeNumbered text (ok_or {T = ℕ} o OpensForm)
passed text n None unnamed is fits = record { unnamed = unnamed; large = λ f. ((λ l. fits (rw is.1 l)), refl); no_number = λ none. absurd (none is.0) }
passed text n (Some x) unnamed is fits = written is.0 (fits.1 ∙ is.1) (rw fits.1 fits.0)

pub returns-in-cbc : goal.returns-in-cbc
returns-in-cbc c = cbc (search rules)

pub returns-in-cfb : goal.returns-in-cfb
returns-in-cfb c = cfb (search rules)

pub returns-in-ofb : goal.returns-in-ofb
returns-in-ofb c = ofb (search rules)

pub returns-in_ok-number-in_default : goal.returns-in_ok-number-in_default
returns-in_ok-number-in_default c =
    let text = c.args.text.now in
    let n = c.in_ok-number-in_default.field-0 in
    let is : Numbered text (Ok n) = subst (Numbered text) c.in_ok-number-in_default.was c.number.ensures in
    let fits : SomeIff c.ok.result (n < 256) n = search rules in
    rw c.ok_or.ensures.value (passed text n c.ok.result (search rules, search rules, search rules) is fits)
