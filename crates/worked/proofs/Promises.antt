-- What this crate promises beside its contracts: one theorem. It assumes nothing.
use Rattle.worked.specs.Examples.{table}
use Rattle.worked.specs.Holds.{Every, Holds}
use Rattle.worked.proofs.Computing

-- ---- P1 to P10 of document 01: what comes back is what the table says

pub worked_examples : Every Holds table
worked_examples = Computing.table_holds
