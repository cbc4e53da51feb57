use Rattle.link.proofs.Openings.{opened_record, opened_state, opened_fits, opened_clear}
use Rattle.link.proofs.Link.opened.Goals as goal

pub returns : goal.returns
returns c =
    let u = c.copy_from_slice.new.self in
    let start = c.args.start.now in
    record {
      «record» = opened_record c.args.mode c.args.direction c.args.key start u c.copy_from_slice.ensures.after;
      state = opened_state c.args.mode c.args.direction c.args.key start u c.copy_from_slice.ensures.after;
      fits = opened_fits c.args.mode c.args.direction c.args.key start u c.copy_from_slice.ensures.after c.requires.some c.requires.thin;
      clear = opened_clear c.args.mode c.args.direction c.args.key start u c.copy_from_slice.ensures.after;
    }
