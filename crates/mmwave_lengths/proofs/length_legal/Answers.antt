-- One arm for each rule.
use Rattle.mmwave.proofs.RuleLaws.{legal_never, legal_exact, legal_multiple, legal_free}
use borrow.Author.Rules.{rules}
use Rattle.mmwave_lengths.proofs.length_legal.Goals as goal

pub enum_told-1 : goal.enum_told-1
enum_told-1 c = search rules

pub returns-in-Never : goal.returns-in-Never
returns-in-Never c = legal_never _ c.in-Never.is

pub returns-in-Exact : goal.returns-in-Exact
returns-in-Exact c = legal_exact _ _ c.in-Exact.is

pub returns-in-Multiple : goal.returns-in-Multiple
returns-in-Multiple c = legal_multiple _ _ c.in-Multiple.is c.beyond.ensures

pub returns-in-Free : goal.returns-in-Free
returns-in-Free c = legal_free _ c.in-Free.is
