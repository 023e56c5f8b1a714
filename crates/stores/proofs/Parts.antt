-- A part of a buffer that is overwritten as a whole, against the bytes laid over it.
use Rattle.std.proofs.Common.{◌≡◌, ℕ, ◌+◌, ◌-◌, ◌≤◌, List, length, take, drop, drop-drop, sym, append_assoc, arith}
use Rattle.std.proofs.lemmas.List.Edits.{sets-eq}
use borrow.Rule.Slice.PartMut.{put_mid}
use Rattle.digits.specs.Stores.{stored, stored_within}
use Rattle.digits.proofs.StoreLaws.{within_fits}

module _ (out : List ℕ) (at : ℕ) (bytes : List ℕ) where
  -- the part from `at` on, k bytes long, is these bytes now
  pub part_stored : (k : ℕ) (part : List ℕ) → part ≡ bytes → k ≡ length bytes → at ≤ length out → length bytes ≤ length out - at
      → put_mid at k out part ≡ stored_within out at bytes
  unfolding stored
  part_stored k part e s l f =
      rw (e, s, within_fits out at bytes (omega arith), sets-eq bytes out at (omega arith), drop-drop (length bytes) at out)
      (sym (append_assoc (take at out) bytes (drop (at + length bytes) out)))
