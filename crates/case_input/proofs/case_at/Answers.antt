-- `case_input::case_at` meets its contract: a case that ends behind the offset ends within the input, and behind its length.
use native.Mathlib.Omega.{arith}
use Rattle.case_input.proofs.CaseLaws.{end_within, end_behind, slice_none, slice_there}
use Rattle.case_input.proofs.case_at.Goals as goal

pub returns-then-end-at : goal.returns-then-end-at
returns-then-end-at c =
    let a = c.args in
    slice_none a.input.now a.at (omega (arith, c.case_end-end.ensures))

pub slice_bounds-result-count : goal.slice_bounds-result-count
slice_bounds-result-count c = omega (arith, end_behind _ _ _ c.case_end-end.ensures (omega arith))

pub overflow_add-from : goal.overflow_add-from
overflow_add-from c = omega (arith, slice_bounds-result-count c)

pub slice_bounds-result-start : goal.slice_bounds-result-start
slice_bounds-result-start c = slice_bounds-result-count c

pub slice_bounds-result-end-2 : goal.slice_bounds-result-end-2
slice_bounds-result-end-2 c = end_within _ _ _ c.case_end-end.ensures

pub returns : goal.returns
returns c = slice_there _ _ _ c.case_end-end.ensures
