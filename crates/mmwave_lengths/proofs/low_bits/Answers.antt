-- One arm for each unit.
use mathlib.Core.Path.{sym, ap}
use Rattle.mmwave.specs.Internal.{low_bits}
use borrow.Author.Rules.{rules}
use Rattle.mmwave_lengths.proofs.low_bits.Goals as goal

pub enum_told-1 : goal.enum_told-1
enum_told-1 c = search rules

pub returns-in-Two : goal.returns-in-Two
returns-in-Two c = ap low_bits (sym c.in-Two.is)

pub returns-in-Four : goal.returns-in-Four
returns-in-Four c = ap low_bits (sym c.in-Four.is)

pub returns-in-Sixteen : goal.returns-in-Sixteen
returns-in-Sixteen c = ap low_bits (sym c.in-Sixteen.is)
