-- What is left to store gives what storing all gave.
use mathlib.Core.Path.{◌≡◌}
use mathlib.Core.List.{List}
use Prim.Native.Nat.{ℕ, suc, ◌+◌, ◌<◌, ◌≤◌}
use native.Mathlib.Nat.{add-zero}
use native.Mathlib.Omega.{arith}
use lib.ListN.{length, drop, get_or, set, drop_of_length-le}
use Rattle.digits.specs.Stores.{stored}
use Rattle.digits.proofs.Lists.{drop_one}

-- -- Bytes one by one, of which i are stored

-- before the first byte
pub store_start : (out bs : List ℕ) (at : ℕ) → stored out (at + 0) bs ≡ stored out at bs
store_start out bs at = rw (add-zero at)

-- the next byte
pub store_next : (out bs : List ℕ) (at i b : ℕ) → i < length bs → b ≡ get_or bs i 0
    → stored out (at + i) (drop i bs) ≡ stored (set out (at + i) b) (at + (i + 1)) (drop (i + 1) bs)
unfolding stored
store_next out bs at i b h e = let p : at + (i + 1) ≡ suc (at + i) = omega arith in rw (drop_one bs i h, p, e)

-- behind the last byte
pub store_end : (out bs : List ℕ) (at i : ℕ) → length bs ≤ i → stored out (at + i) (drop i bs) ≡ out
unfolding stored
store_end out bs at i h = rw (drop_of_length-le bs {i = i} h)
