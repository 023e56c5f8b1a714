-- Start, size, reserved bytes, characters and stop, one behind the other.
use Rattle.sirad_fields.specs.Answers.{kind_number}
use Rattle.sirad_fields.proofs.FrameStores.{data_stored}
use Rattle.sirad_write_data.proofs.put_data.Goals as goal

pub returns : goal.returns
returns c =
    let a = c.args in
    data_stored a.out.now c.put_pair.new.out c.put_hex.new.out c.put_run.new.out
    c.put_bytes.new.out c.put_pair-2.new.out (kind_number a.kind) a.content.now c.requires.1
    c.identifier_of-id.ensures c.put_pair.ensures
    c.put_hex.ensures c.put_run.ensures c.put_bytes.ensures c.put_pair-2.ensures
