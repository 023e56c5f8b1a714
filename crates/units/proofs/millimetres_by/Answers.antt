-- `units::millimetres_by` meets its contract: inside 2 ^ -12 m to 1000 m the nearest whole millimetre, else a refusal or 0.
use Rattle.std.proofs.Common.{ap, ◌∙◌, arith, rules}
use Rattle.units.specs.Units.{quantity_of}
use Rattle.units.proofs.Machine.{whole_small, coordinate_inside, coordinate_outside}
use Rattle.units.proofs.millimetres_by.Goals as goal

pub signed-requires : goal.signed-requires
signed-requires c = whole_small _ c.args.bits _ (omega arith) c.inside-whole.ensures

pub returns-then-over : goal.returns-then-over
returns-then-over c = search rules ∙ coordinate_inside _ c.args.bits _ (omega arith) c.inside-whole.ensures

pub returns : goal.returns
returns c = ap quantity_of c.outside.ensures ∙ coordinate_outside _ _ _ (omega arith) (omega arith) c.if-over.false
