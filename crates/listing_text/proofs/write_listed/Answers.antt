-- `listing_text::write_listed` meets its contract: the table has a row for every frame, so its text is that of the whole closed reading.
use Rattle.std.proofs.Common.{◌≤◌, ◌≡◌, List, ℕ, length, arith, sym, subst}
use Rattle.capture.specs.declared.Dialect.{Dialect}
use Rattle.reading.specs.declared.Answer.{Answer}
use Rattle.listing.proofs.ListingLaws.{Closed, closed_whole, closed_few, writes_listed}
use Rattle.listing_text.proofs.write_listed.Goals as goal

-- the same answer, as a host in C gets it
closed_as : (d : Dialect) (bs after : List ℕ) (a b : Answer) → b ≡ a → Closed d bs a after → Closed d bs b after
closed_as d bs after a b e c = subst (λ (x : Answer). Closed d bs x after) (sym e) c

pub overflow_cast-skipped : goal.overflow_cast-skipped
overflow_cast-skipped c =
    let a = c.args in
    let h : length a.bytes.now ≤ 65536 = omega arith in
    let r = c.closed_reading-read in
    let w = closed_whole a.d a.bytes.now h _ _ _ _ c.number_of-number.ensures c.row_table-table.ensures r.ensures in
    let v = closed_as _ _ _ _ _ c.from-a.ensures w in
    omega (arith, (closed_few a.d a.bytes.now h _ _ v).1)

pub returns : goal.returns
returns c =
    let a = c.args in
    let h : length a.bytes.now ≤ 65536 = omega arith in
    let r = c.closed_reading-read in
    let w = closed_whole a.d a.bytes.now h _ _ _ _ c.number_of-number.ensures c.row_table-table.ensures r.ensures in
    let v = closed_as _ _ _ _ _ c.from-a.ensures w in
    writes_listed a.d a.bytes.now h _ _ _ _ _ v c.write_table.ensures
