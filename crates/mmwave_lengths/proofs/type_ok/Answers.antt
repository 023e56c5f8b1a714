-- One arm for each rule.
use Rattle.mmwave.proofs.RuleLaws.{possible_never, possible_exact, possible_multiple, possible_free}
use borrow.Author.Rules.{rules}
use Rattle.mmwave_lengths.proofs.type_ok.Goals as goal

pub enum_told-1 : goal.enum_told-1
enum_told-1 c = search rules

pub returns-in-Never : goal.returns-in-Never
returns-in-Never c = possible_never _ _ _ c.in-Never.is

pub returns-in-Exact : goal.returns-in-Exact
returns-in-Exact c = possible_exact _ _ _ _ c.in-Exact.is c.payload_fits.ensures

pub returns-in-Multiple : goal.returns-in-Multiple
returns-in-Multiple c = possible_multiple _ _ _ _ c.in-Multiple.is c.some_multiple_fits.ensures

pub returns-in-Free : goal.returns-in-Free
returns-in-Free c = possible_free _ _ _ c.in-Free.is
