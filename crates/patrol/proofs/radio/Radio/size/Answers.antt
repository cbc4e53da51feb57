use Rattle.std.proofs.Common.{◌≡◌, length, Ok, ap, subst, vec_items, rules}
use Rattle.ciphers.specs.Piles.{narrow, wide, coated_meaning}
use Rattle.bank_calls.specs.Calls.{Sizes}
use Rattle.patrol.specs.declared.radio.Radio.{Radio}
use Rattle.patrol.proofs.Radios.{given}
use Rattle.patrol.proofs.radio.Radio.size.Goals as goal
use Rattle.patrol.proofs.radio.Radio.size.Goals.{in-Narrow, in-Wide}

pub returns : goal.returns
returns c =
    let n = c.args.n in
    let own = vec_items c.in_ok-cells.cells in
    elim c.match-self.branch [
      | in-Narrow w ↦
          let ok : w.size.result ≡ Ok tt = search rules in
          let did = subst (λ z. Sizes w.in-Narrow.bank n z w.size.new.self) ok w.size.ensures.outcome in
          let told = did.told in
          let many : length own ≡ n = search rules in
          given n _ _ _ _ w.in-Narrow.is (ap (λ (r : Radio). r.links) w.self-is) told (ap (coated_meaning narrow) w.size.ensures.kit) (did.holds own) many
      | in-Wide w ↦
          let ok : w.size-in-Wide.result ≡ Ok tt = search rules in
          let did = subst (λ z. Sizes w.in-Wide.bank n z w.size-in-Wide.new.self) ok w.size-in-Wide.ensures.outcome in
          let told = did.told in
          let many : length own ≡ n = search rules in
          given n _ _ _ _ w.in-Wide.is (ap (λ (r : Radio). r.links) w.self-is) told (ap (coated_meaning wide) w.size-in-Wide.ensures.kit) (did.holds own) many
    ]
