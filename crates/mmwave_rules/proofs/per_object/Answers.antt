-- The product of a byte and 32 bits fits 64.
use mathlib.Core.Path.{refl}
use native.Mathlib.Omega.{arith}
use native.Mathlib.Nat.{mul-le-mul}
use Rattle.mmwave.proofs.RuleLaws.{no_objects, some_objects}
use Rattle.mmwave_rules.proofs.per_object.Goals as goal

pub returns-then-objects-eq0 : goal.returns-then-objects-eq0
returns-then-objects-eq0 c = no_objects _ _ c.if-objects-eq0.true

pub overflow_mul-bytes : goal.overflow_mul-bytes
overflow_mul-bytes c =
    omega (arith, mul-le-mul {n₁ = c.args.size} {m₁ = c.args.objects} {n₂ = 255} {m₂ = 4294967295} (omega arith) (omega arith))

pub returns : goal.returns
returns c = some_objects _ _ c.if-objects-eq0.false refl
