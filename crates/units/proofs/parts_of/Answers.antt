-- `units::parts_of` meets its contract: no part is lost in the shift.
use Rattle.std.proofs.Common.{lt_trans, mod-eq_of_lt, lit<}
use Rattle.units.specs.Internal.{parts}
use Rattle.units.proofs.Machine.{parts_less}
use Rattle.units.proofs.parts_of.Goals as goal

pub returns : goal.returns
unfolding parts
returns c =
    let less = parts_less c.args.bits c.args.over c.requires in
    let kept = mod-eq_of_lt (lt_trans less (lit< tt)) in
    record { exact = kept; few = rw kept less }
