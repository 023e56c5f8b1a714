-- Start, format and gain, five numbers and stop, one behind the other.
use Rattle.std.proofs.Common.{arith}
use Rattle.sirad_fields.proofs.FrameStores.{head_stored, status_stored}
use Rattle.sirad_write.proofs.put_status.Goals as goal

pub returns : goal.returns
returns c =
    let a = c.args in
    let v = a.values in
    let l = c.put_pair-2.new.out in
    let room = c.requires in
    let head =
    head_stored a.out.now c.put_pair.new.out l 5 v.format v.gain (omega arith) c.glyph_of-digit.ensures
    c.put_pair.ensures c.put_pair-2.ensures in
    status_stored a.out.now l c.put_hex.new.out c.put_hex-2.new.out c.put_hex-3.new.out
    c.put_hex-4.new.out c.put_hex-5.new.out c.put_pair-3.new.out v.format v.gain v.accuracy v.max_range
    v.ramp_time v.bandwidth v.time_difference room head c.put_hex.ensures c.put_hex-2.ensures c.put_hex-3.ensures
    c.put_hex-4.ensures c.put_hex-5.ensures c.put_pair-3.ensures
