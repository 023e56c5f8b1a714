-- Each return is one law: the values' own refusal, no room, room.
use Rattle.std.proofs.Common.{ap}
use Rattle.std.proofs.lemmas.Result.{err_from_is_err_and}
use Rattle.refusals.specs.Numbers.{refusal_number}
use Rattle.refusals.proofs.NumberLaws.{number_ne0}
use Rattle.digits.proofs.RefusalLaws.{refusal_given, refusal_short, refusal_none}
use Rattle.stores.proofs.with_room.Goals as goal

pub returns-in_err-value-clause-refusal : goal.returns-in_err-value-clause-refusal
returns-in_err-value-clause-refusal g c =
    let p = err_from_is_err_and c.from_residual.result c.from_residual.ensures.1 in
    rw (p.1, p.2, c.in_err-value.was) (refusal_given _ c.args.size c.args.room (number_ne0 c.in_err-value.field-0.0))

pub returns-then-size-room-clause-refusal : goal.returns-then-size-room-clause-refusal
returns-then-size-room-clause-refusal g c =
    refusal_short _ c.args.size c.args.room (ap refusal_number c.in_ok-value.was) c.if-size-room.true

pub returns-clause-refusal : goal.returns-clause-refusal
returns-clause-refusal g c = refusal_none _ c.args.size c.args.room (ap refusal_number c.in_ok-value.was) c.if-size-room.false
