-- The walk with the slice lent on.
use Rattle.form.proofs.PieceLaws.{judges}
use Rattle.mmwave_records.proofs.walk.Goals as goal

pub returns : goal.returns
returns c = judges c.walk_from.ensures
