-- Format and gain decide: the machine holds the five numbers in 16 bits.
use Rattle.std.proofs.Common.{w16}
use mir.Facts.{Fits-lt-pow}
use Rattle.sirad_fields.proofs.WritingLaws.{status_checked, digit_refused, character_none, character_refused}
use Rattle.sirad_write.proofs.check_status.Goals as goal
use Rattle.sirad_write.proofs.check_status.Goals.{else-values-lt16-via-then-values-lt16+else-is_character, else-values-lt16-via-else-values-lt16}

pub returns-then-is_character : goal.returns-then-is_character
returns-then-is_character c =
    let v = c.args.values in
    let held = c.struct_known-1.given.1.1 in
    let accuracy = Fits-lt-pow {w = w16} held.0 in
    let range = Fits-lt-pow {w = w16} held.1.0 in
    let ramp = Fits-lt-pow {w = w16} held.1.1.0 in
    let bandwidth = Fits-lt-pow {w = w16} held.1.1.1.0 in
    let time = Fits-lt-pow {w = w16} held.1.1.1.1.0 in
    status_checked v accuracy range ramp bandwidth time
    (character_none v.format v.gain c.if-values-lt16.true c.is_character.ensures c.if-is_character.true)

pub returns : goal.returns
returns c =
    let v = c.args.values in
    let held = c.struct_known-1.given.1.1 in
    let accuracy = Fits-lt-pow {w = w16} held.0 in
    let range = Fits-lt-pow {w = w16} held.1.0 in
    let ramp = Fits-lt-pow {w = w16} held.1.1.0 in
    let bandwidth = Fits-lt-pow {w = w16} held.1.1.1.0 in
    let time = Fits-lt-pow {w = w16} held.1.1.1.1.0 in
    elim c.else-values-lt16.branch [
      | else-values-lt16-via-then-values-lt16+else-is_character w ↦
          status_checked v accuracy range ramp bandwidth time
          (character_refused v.format v.gain w.if-values-lt16.true w.is_character.ensures w.if-is_character.false)
      | else-values-lt16-via-else-values-lt16 w ↦
          status_checked v accuracy range ramp bandwidth time (digit_refused v.format v.gain w.if-values-lt16.false)
    ]
