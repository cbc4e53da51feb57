use Rattle.std.proofs.Common.{length, rules}
use Rattle.mkv.specs.Sound.{fitted}
use Rattle.mkv.proofs.tables.Version.expand.Goals as goal

pub write_schedule-requires : goal.write_schedule-requires
write_schedule-requires g c = search (rules, fitted g.row.T (length c.args.key.now) (length c.args.schedule.now) (search rules) (search rules))
