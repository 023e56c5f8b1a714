-- Each return is one law: the values' own refusal, no room, room.
use Rattle.std.proofs.Common.{◌∙◌}
use Rattle.digits.proofs.RefusalLaws.{refusal_given, refusal_short, refusal_none}
use Rattle.stores.proofs.refusal_of.Goals as goal

pub returns-then-unfit-ne0 : goal.returns-then-unfit-ne0
returns-then-unfit-ne0 c = let a = c.args in refusal_given a.unfit a.size a.room c.if-unfit-ne0.true

pub returns-then-room-size : goal.returns-then-room-size
returns-then-room-size c =
    let a = c.args in
    c.number.ensures ∙ refusal_short a.unfit a.size a.room c.if-unfit-ne0.false c.if-room-size.true

pub returns : goal.returns
returns c = let a = c.args in refusal_none a.unfit a.size a.room c.if-unfit-ne0.false c.if-room-size.false
