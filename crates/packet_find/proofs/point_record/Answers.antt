-- `packet_find::point_record` meets its contract: none where the count is over 32, else the first of the K records from 40 on.
use Rattle.packet.proofs.FieldLaws.{record_none, record_found}
use Rattle.packet_find.proofs.point_record.Goals as goal

pub returns-then-records-gt-MOST_RECORDS : goal.returns-then-records-gt-MOST_RECORDS
returns-then-records-gt-MOST_RECORDS c = record_none _ c.word_at-records.ensures c.if-records-gt-MOST_RECORDS.true

pub returns : goal.returns
returns c = record_found _ c.word_at-records.ensures c.if-records-gt-MOST_RECORDS.false c.first_of.ensures
