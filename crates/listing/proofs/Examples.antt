-- The worked example of paper 01, by computing the listing.
use Rattle.std.proofs.Common.{◌≡◌, refl}
use Rattle.digits.specs.Hex.{digit}
use Rattle.form.specs.Form.{judge, ◌>>=◌}
use Rattle.sirad.specs.Rows.{characters}
use Rattle.sirad.specs.Sirad.{sirad, body, number, row, run}
use Rattle.reading.specs.Reading.{read}
use Rattle.capture.specs.Dialects.{form_of}
use Rattle.capture.specs.declared.Dialect.TheVariants.{Sirad}
use Rattle.listing.specs.Decimal.{decimals, width, decimal}
use Rattle.listing.specs.Lines.{field, fields, header_line, row_line, row_lines, end_line}
use Rattle.listing.specs.Listing.{closed_reading, listed, listing}
use Rattle.listing.specs.Example.{example_input, example_output}

-- paper 01's 25 bytes have paper 01's four lines
pub example_listed : listing Sirad example_input ≡ example_output
unfolding listing listed closed_reading header_line row_lines row_line end_line fields field decimal decimals width read judge form_of sirad
    ◌>>=◌ body number digit row run characters
example_listed = refl
