-- The profile of the vital-signs chips' packets (paper 02, (i); document 002).
use Rattle.std.specs.Prelude.{Bool, false, cond, ◌&&◌, ℕ, ◌%◌, eqb, leb}
use Rattle.mmwave.specs.declared.Rule.{Rule}
use Rattle.mmwave.specs.declared.Rule.TheVariants.{Never, Exact, Multiple}
use Rattle.mmwave.specs.declared.Unit.TheVariants.{Four, Sixteen}
use Rattle.mmwave.specs.Profile.{Profile}

-- L is a multiple of 4 from 40 to 32,768, and not 44 (paper 02, (i))
unfoldable pub vital_total : ℕ → Bool
vital_total l = cond (eqb (l % 4) 0) (cond (eqb l 44) false (leb 40 l && leb l 32768)) false

-- payload lengths by type (paper 02, (i); document 002, tables 3 to 6)
unfoldable pub vital_rule : ℕ → Rule
vital_rule type =
    cond (eqb type 1) (Exact 24)
    (cond (eqb type 2) (Multiple Four)
    (cond (eqb type 3) (Multiple Sixteen)
    (cond (eqb type 4) (Exact 20) Never)))

-- the profile: 99 at offset 28, subframe 0; L is exactly the end of the last record, so there is no padding; every type may repeat
unfoldable pub vital_signs : Profile
vital_signs = record {
  kind = 17;
  total = vital_total;
  objects = λ n. eqb n 99;
  subframe = λ v. eqb v 0;
  rule = λ type n. vital_rule type;
  mark = λ type. 0;
  padding = 0;
  unit = 4;
}
