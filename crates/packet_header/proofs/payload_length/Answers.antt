-- `packet_header::payload_length` meets its contract: behind the bytes there is no word.
use Rattle.std.proofs.Common.{sym, arith}
use Rattle.digits.proofs.LittleEndianLaws.{word_missing}
use Rattle.packet_header.proofs.payload_length.Goals as goal

pub returns-then-s-p : goal.returns-then-s-p
returns-then-s-p c = sym (word_missing _ _ (omega arith))
