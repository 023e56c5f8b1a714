-- `coordinate_bounds::limit_of` meets its contract: 32, then 33, else what the search ends at.
use Rattle.std.proofs.lemmas.Result.{err_from_is_err_and}
use Rattle.coordinate_bounds.proofs.BoundLaws.{bound_no_edition, bound_too_distant, bound_found}
use Rattle.coordinate_bounds.proofs.limit_of.Goals as goal

pub returns-in_err-try_from : goal.returns-in_err-try_from
returns-in_err-try_from c =
    let p = err_from_is_err_and c.from_residual.result c.from_residual.ensures.1 in
    rw (p.1, p.2) (bound_no_edition _ _ _ c.in_err-try_from.ensures)

pub returns-then-distance-gt-MAX_DISTANCE : goal.returns-then-distance-gt-MAX_DISTANCE
returns-then-distance-gt-MAX_DISTANCE c = bound_too_distant _ _ _ c.in_ok-try_from.ensures c.if-distance-gt-MAX_DISTANCE.true

pub returns : goal.returns
returns c = bound_found _ _ _ c.in_ok-try_from.ensures _ c.if-distance-gt-MAX_DISTANCE.false c.greatest-bits.ensures
