-- The part is the byte n times; without room nothing changes.
use Rattle.std.proofs.Common.{ℕ, ap, replicate, sym, ◌∙◌, arith, length-take, length-drop}
use Rattle.std.proofs.lemmas.List.{length-replicate}
use Rattle.digits.proofs.StoreLaws.{within_unfit}
use Rattle.stores.proofs.Parts.{part_stored}
use Rattle.stores.proofs.put_run.Goals.{else-at-out-via-then-at-out+else-n-out, else-at-out-via-else-at-out}
use Rattle.stores.proofs.put_run.Goals as goal

pub returns-then-n-out : goal.returns-then-n-out
returns-then-n-out c =
    let a = c.args in
    let size = length-replicate a.n a.b in
    part_stored _ a.at (replicate a.n a.b) _ _
    (c.fill.ensures.after (λ y e. e)
    ∙ ap (λ (k : ℕ). replicate k a.b) (simp (length-take, length-drop) (omega arith))) (omega arith) c.if-at-out.true (omega arith)

pub returns-else-at-out : goal.returns-else-at-out
returns-else-at-out c =
    let a = c.args in
    let size = length-replicate a.n a.b in
    elim c.else-at-out.branch [
      | else-at-out-via-then-at-out+else-n-out w ↦
          let l = w.if-at-out.true in
          let s = w.if-n-out.false in sym (within_unfit a.out.now a.at (replicate a.n a.b) (omega arith))
      | else-at-out-via-else-at-out w ↦
          let l = w.if-at-out.false in sym (within_unfit a.out.now a.at (replicate a.n a.b) (omega arith))
    ]
