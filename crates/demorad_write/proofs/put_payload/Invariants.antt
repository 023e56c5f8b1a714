use Rattle.std.proofs.Common.{◌≡◌, ◌+◌, ◌*◌, take, drop}
use Rattle.digits.specs.Stores.{stored}
use Rattle.demorad.specs.Image.{word_bytes}
use Rattle.demorad_write.proofs.put_payload.Given as goal

abbrev pub invariant-loop-i : goal.invariant-loop-i
invariant-loop-i l =
    stored l.out (4 + 4 * l.i) (word_bytes (drop l.i (take l.n l.fn.words))) ≡ stored l.initial.out 4 (word_bytes (take l.n l.fn.words))
