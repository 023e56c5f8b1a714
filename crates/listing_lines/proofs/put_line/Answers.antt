-- `listing_lines::put_line` meets its contract: the line fits, or nothing changes.
use Rattle.std.proofs.Common.{arith}
use Rattle.listing.proofs.LineLaws.{line_unfit, line_fits}
use Rattle.listing.proofs.PutLaws.{puts_length}
use Rattle.listing_lines.proofs.put_line.Goals as goal

pub returns-then-out-at : goal.returns-then-out-at
returns-then-out-at c = let a = c.args in line_unfit a.word.now a.out.now a.at a.a a.b (omega arith)

pub returns-then-room-word : goal.returns-then-room-word
returns-then-room-word c =
    let a = c.args in
    line_unfit a.word.now a.out.now a.at a.a a.b (omega arith)

pub returns-then-room-word-2 : goal.returns-then-room-word-2
returns-then-room-word-2 c =
    let a = c.args in
    line_unfit a.word.now a.out.now a.at a.a a.b (omega (arith, c.fields_size.ensures))

pub put_fields-requires : goal.put_fields-requires
put_fields-requires c =
    let e = c.put_text-numbers.ensures in
    omega (arith, c.fields_size.ensures, e.ends, puts_length e)

pub returns : goal.returns
returns c = line_fits _ _ c.put_text-numbers.ensures c.put_fields.ensures (omega (arith, c.fields_size.ensures))
