-- `units::quantity_by` meets its contract: outside 2 ^ -12 m to 1000 m a refusal's number or 0, else the nearest whole millimetre.
use Rattle.std.proofs.Common.{◌∙◌, arith, rules}
use Rattle.units.proofs.Machine.{whole_small, coordinate_inside, quantity_outside}
use Rattle.units.proofs.quantity_by.Goals as goal

pub returns-then-over : goal.returns-then-over
returns-then-over c = quantity_outside _ c.args.bits _ _ c.outside_number.ensures c.if-over.true (omega arith) (omega arith)

pub signed-requires : goal.signed-requires
signed-requires c = whole_small _ c.args.bits _ (omega arith) c.inside-whole.ensures

pub returns : goal.returns
returns c = search rules ∙ coordinate_inside _ c.args.bits _ (omega arith) c.inside-whole.ensures
