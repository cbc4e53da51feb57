-- The two tables of MKV lead back from one another: one test over the whole table each. Assumes nothing.
use Rattle.std.specs.Prelude.{T}
use Rattle.block.proofs.Test.{below}
use Rattle.block.proofs.Tables.{reverse_test, reverses_by}
use Rattle.mkv.specs.Tables.{s, s_inverse, Tables}

back_test : T (below (reverse_test s s_inverse) 256)
unfolding reverse_test s s_inverse
back_test = tt

forth_test : T (below (reverse_test s_inverse s) 256)
unfolding reverse_test s s_inverse
forth_test = tt

pub tables : Tables
tables = record { back = reverses_by s s_inverse back_test; forth = reverses_by s_inverse s forth_test }
