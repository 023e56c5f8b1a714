-- `capture_lines::first_part` meets its contract.
use Rattle.std.proofs.Common.{sym, ◌∙◌}
use Rattle.capture.proofs.LineLaws.{part_asked, unknown_part, main_long, standby_long, main_first, standby_first, neither_first}
use Rattle.capture_lines.proofs.first_part.Goals as goal

pub returns-in_err-d : goal.returns-in_err-d
returns-in_err-d c =
    rw c.from_residual.ensures (part_asked _ _ _ _ _ (sym c.in_err-d.was ∙ c.dialect_of.ensures) (unknown_part _ _))

pub returns-then-main-gt-MAX_BYTES : goal.returns-then-main-gt-MAX_BYTES
returns-then-main-gt-MAX_BYTES c =
    part_asked _ _ _ _ _ (sym c.in_ok-d.was ∙ c.dialect_of.ensures) (main_long _ _ _ c.if-main-gt-MAX_BYTES.true)

pub returns-then-standby-gt-MAX_BYTES : goal.returns-then-standby-gt-MAX_BYTES
returns-then-standby-gt-MAX_BYTES c =
    part_asked _ _ _ _ _ (sym c.in_ok-d.was ∙ c.dialect_of.ensures)
    (standby_long _ _ _ c.if-main-gt-MAX_BYTES.false c.if-standby-gt-MAX_BYTES.true)

pub returns-in-Some : goal.returns-in-Some
returns-in-Some c =
    part_asked _ _ _ _ _ (sym c.in_ok-d.was ∙ c.dialect_of.ensures)
    (c.row_part.ensures ∙ main_first _ _ _ _ c.if-main-gt-MAX_BYTES.false c.if-standby-gt-MAX_BYTES.false
    (sym c.in-Some.is ∙ c.first_frame.ensures))

pub returns-in_err-s : goal.returns-in_err-s
returns-in_err-s c =
    rw c.from_residual-in_err-s.ensures
    (part_asked _ _ _ _ _ (sym c.in_ok-d.was ∙ c.dialect_of.ensures)
    (neither_first _ _ _ c.if-main-gt-MAX_BYTES.false c.if-standby-gt-MAX_BYTES.false
    (sym c.in_default.is ∙ c.first_frame.ensures) (sym c.in_err-s.was ∙ c.first_frame-2.ensures)))

pub returns : goal.returns
returns c =
    part_asked _ _ _ _ _ (sym c.in_ok-d.was ∙ c.dialect_of.ensures)
    (c.row_part-2.ensures ∙ standby_first _ _ _ _ c.if-main-gt-MAX_BYTES.false c.if-standby-gt-MAX_BYTES.false
    (sym c.in_default.is ∙ c.first_frame.ensures) (sym c.in_ok-s.was ∙ c.first_frame-2.ensures))
