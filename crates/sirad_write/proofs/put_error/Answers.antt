-- Start, flags and stop, one behind the other.
use Rattle.sirad_fields.proofs.FrameStores.{error_stored}
use Rattle.sirad_write.proofs.put_error.Goals as goal

pub returns : goal.returns
returns c =
    error_stored c.args.out.now c.put_pair.new.out c.put_hex.new.out c.put_pair-2.new.out c.args.flags
    c.requires c.put_pair.ensures c.put_hex.ensures c.put_pair-2.ensures
