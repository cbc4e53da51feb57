use Rattle.std.proofs.Common.{sym, ◌∙◌}
use Rattle.kit.proofs.Agree.{agree_back}
use Rattle.kit.proofs.same_width.Goals as goal

pub returns : goal.returns
returns g c =
    let a = c.args.a.now in
    let b = c.args.b.now in
    record {
      first = c.width.ensures ∙ sym (g.met.A.Kit.width a);
      second = c.width.ensures ∙ sym (g.met.B.Kit.width b);
      agree = agree_back (g.A.Kit.meaning a) (g.B.Kit.meaning b) (g.met.A.Kit.sound a) (g.met.B.Kit.sound b);
    }
