-- `capture_scan::misses` meets its contract. The flag is the test of the bytes passed so far.
use Rattle.capture.proofs.ScanLaws.{clear_start, clear_next}
use Rattle.capture_scan.proofs.misses.Goals as goal

pub loop-i-init : goal.loop-i-init
loop-i-init c = clear_start _ _ _

pub loop-i-preserved : goal.loop-i-preserved
loop-i-preserved c =
    let l = c.loop-i in let a = c.args in
    clear_next a.mark a.from l.i a.bytes.now l.ok c.both-ok.result l.invariant c.both-ok.ensures
