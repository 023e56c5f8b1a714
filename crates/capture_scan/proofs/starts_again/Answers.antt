-- `capture_scan::starts_again` meets its contract: one law for each way out.
use native.Mathlib.Omega.{arith}
use Rattle.capture.proofs.ScanLaws.{again_none, again_last, again_second, again_third}
use Rattle.capture_scan.proofs.starts_again.Goals as goal

pub returns-then-bytes-at : goal.returns-then-bytes-at
returns-then-bytes-at c = let a = c.args in again_none a.mark a.bytes.now a.at (omega arith)

pub returns-then-left-lt2 : goal.returns-then-left-lt2
returns-then-left-lt2 c = again_none _ _ _ (omega arith)

pub returns-then-left-lt3 : goal.returns-then-left-lt3
returns-then-left-lt3 c = again_last _ _ _ (omega arith)

pub returns-then-second-mark : goal.returns-then-second-mark
returns-then-second-mark c = again_second _ _ _ (omega arith) c.if-second-mark.true

pub returns : goal.returns
returns c = again_third _ _ _ (omega arith) c.if-second-mark.false
