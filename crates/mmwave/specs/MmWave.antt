-- The profile of the mmWave demo's packets (paper 01, "mmWave"; document 004).
use Rattle.std.specs.Prelude.{Bool, false, cond, ◌&&◌, ℕ, ◌*◌, ◌%◌, ◌^◌, eqb, leb}
use Rattle.form.specs.Pieces.{any}
use Rattle.mmwave.specs.declared.Rule.{Rule}
use Rattle.mmwave.specs.declared.Rule.TheVariants.{Never, Exact, Multiple, Free}
use Rattle.mmwave.specs.declared.Unit.TheVariants.{Two, Four}
use Rattle.mmwave.specs.Profile.{Profile}

-- L is a multiple of 32 from 64 to 32,768 (paper 01, "mmWave")
unfoldable pub total_legal : ℕ → Bool
total_legal l = cond (eqb (l % 32) 0) (leb 64 l && leb l 32768) false

-- so many bytes for each of n objects, and n is not 0
unfoldable pub per_object : ℕ → ℕ → Rule
per_object size n = cond (eqb n 0) Never (Exact (size * n))

-- payload lengths by type, with n the object count (paper 01, "mmWave")
unfoldable pub payload_rule : ℕ → ℕ → Rule
payload_rule type n =
    cond (eqb type 1) (per_object 16 n)
    (cond (eqb type 2) (Multiple Two)
    (cond (eqb type 3) (Multiple Two)
    (cond (eqb type 4) (Multiple Four)
    (cond (eqb type 5) (Multiple Two)
    (cond (eqb type 6) (Exact 24)
    (cond (eqb type 7) (per_object 4 n)
    (cond (eqb type 8) (Multiple Four)
    (cond (eqb type 9) (Exact 28) Free))))))))

-- a bit of its own for each known type (1 to 9), but one for 4 and 8 (paper 02, (vii)); 0: no bit
unfoldable pub once_bit : ℕ → ℕ
once_bit type = cond (eqb type 8) 4 (cond (leb type 9) type 0)

-- the mark of a type among those seen: its bit; types with one mark exclude one another
unfoldable pub once_mark : ℕ → ℕ
once_mark type = cond (eqb (once_bit type) 0) 0 (2 ^ once_bit type)

-- the profile; L is the smallest multiple of 32 not below the end of the last record, so the padding is at most 31 bytes
unfoldable pub mm_wave : Profile
mm_wave = record {
  kind = 16;
  total = total_legal;
  objects = any;
  subframe = any;
  rule = payload_rule;
  mark = once_mark;
  padding = 31;
  unit = 1;
}
