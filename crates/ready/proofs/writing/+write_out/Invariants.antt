-- Every call is on an earlier record.
use Rattle.ready.proofs.writing.+write_out.Given as goal

abbrev pub decreases-write_out : goal.decreases-write_out
decreases-write_out l = l.r
