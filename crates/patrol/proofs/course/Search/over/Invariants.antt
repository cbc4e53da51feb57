use Rattle.patrol.proofs.course.Search.over.Given as goal

abbrev pub decreases-loop-channel : goal.decreases-loop-channel
decreases-loop-channel l = l.channels.len
