-- No SiRad frame is longer than 65,551 bytes, so a place that waits for one has fewer.
use mathlib.Core.Path.{◌≡◌, refl}
use mathlib.Core.List.{List, [], ◌∷◌}
use mathlib.Core.Bool.{Bool, true, false, cond}
use Prim.Native.Nat.{ℕ, zero, suc, ◌+◌, ◌-◌, ◌*◌, ◌<◌}
use native.Mathlib.Omega.{arith}
use lib.Dec.{eqb}
use lib.ListN.{length}
use Rattle.digits.specs.Hex.{digit}
use Rattle.digits.proofs.HexLaws.{digit_small}
use Rattle.form.specs.Form.{◌>>=◌, judge}
use Rattle.form.specs.declared.Judgement.TheVariants.{Waiting}
use Rattle.form.proofs.Bounds.{Bounded, bounded_more, bounded_then, bounded_whole, waits_short}
use Rattle.sirad.specs.Classes.{Class, Zero}
use Rattle.sirad.specs.Rows.{Piece, hex, char, spare, slot, cr, lf, behind_number, characters, blocks}
use Rattle.sirad.specs.Rows.{data_pieces, t_pieces, u_pieces, e_pieces}
use Rattle.sirad.specs.Sirad.{lay, run, block, piece, row, number, sized, kind_of, body, sirad}
use Rattle.sirad.specs.declared.Kind.{Kind}
use Rattle.sirad.specs.declared.Kind.TheVariants.{Sized, Targets, Status, Flags, Unknown}

-- -- Pieces and rows

bounded_run : (n : ℕ) (c : Class) → Bounded (run n c) n
unfolding Bounded run
bounded_run zero c = tt
bounded_run (suc n) c = let q : suc n - 1 ≡ n = omega arith in (omega arith, λ b e. rw q (bounded_run n c))

bounded_lay : (cs : List Class) (v : ℕ) → Bounded (lay cs v) (length cs)
unfolding Bounded lay
bounded_lay [] v = tt
bounded_lay (c ∷ cs) v = let q : suc (length cs) - 1 ≡ length cs = omega arith in (omega arith, λ b e. rw q (bounded_lay cs v))

-- behind the first byte of a block, by whether it is the value 0
bounded_behind : (zeros : Bool) → Bounded (cond zeros (run 13 Zero) (lay behind_number 0)) 13
bounded_behind true = bounded_run 13 Zero
bounded_behind false = bounded_lay behind_number 0

bounded_block : Bounded block 14
unfolding Bounded block ◌>>=◌
bounded_block = (omega arith, λ b e. bounded_behind (eqb b 0))

-- the most bytes of a piece
abbrev most : Piece → ℕ
most (hex n) = n
most char = 1
most spare = 1
most slot = 14
most cr = 1
most lf = 1

-- and of a row
unfoldable most_of : List Piece → ℕ
most_of [] = 0
most_of (p ∷ ps) = most p + most_of ps

bounded_piece : (p : Piece) → Bounded (piece p) (most p)
bounded_piece (hex n) = bounded_run n _
bounded_piece char = bounded_run 1 _
bounded_piece spare = bounded_run 1 _
bounded_piece slot = bounded_block
bounded_piece cr = bounded_run 1 _
bounded_piece lf = bounded_run 1 _

bounded_row : (ps : List Piece) (kind : ℕ) → Bounded (row ps kind) (most_of ps)
unfolding row most_of
bounded_row [] kind = bounded_whole kind 0
bounded_row (p ∷ ps) kind = bounded_then (piece p) (λ _. row ps kind) (most p) (most_of ps) (bounded_piece p) (λ _. bounded_row ps kind)

-- -- The frames

most_characters : (n : ℕ) → most_of (characters n) ≡ n + 2
unfolding most_of characters
most_characters zero = refl
most_characters (suc n) = let h = most_characters n in omega arith

most_data : (n : ℕ) → most_of (data_pieces n) ≡ n + 10
unfolding most_of
most_data n = let h = most_characters n in omega arith

bounded_sized : (kind : ℕ) → Bounded (sized kind) 65549
unfolding Bounded ◌>>=◌ number
bounded_sized kind =
    (omega arith, λ a _. (omega arith, λ b _. (omega arith, λ c _. (omega arith, λ d _. behind a b c d))))
  where
    behind : (a b c d : ℕ)
        → Bounded (row (data_pieces ((((0 * 16 + digit a) * 16 + digit b) * 16 + digit c) * 16 + digit d)) kind) (65549 - 1 - 1 - 1 - 1)
    behind a b c d =
        let n = (((0 * 16 + digit a) * 16 + digit b) * 16 + digit c) * 16 + digit d in
        let m = most_data n in
        bounded_more (row (data_pieces n) kind) (most_of (data_pieces n)) (65549 - 1 - 1 - 1 - 1)
        (omega (arith, digit_small a, digit_small b, digit_small c, digit_small d)) (bounded_row (data_pieces n) kind)

most_targets : most_of t_pieces ≡ 228
unfolding most_of blocks
most_targets = refl

most_status : most_of u_pieces ≡ 24
unfolding most_of
most_status = refl

most_flags : most_of e_pieces ≡ 6
unfolding most_of
most_flags = refl

bounded_body : (k : Kind) → Bounded (body k) 65549
unfolding body
bounded_body (Sized kind) = bounded_sized kind
bounded_body Targets = let e = most_targets in bounded_more (row t_pieces 4) (most_of t_pieces) 65549 (omega arith) (bounded_row t_pieces 4)
bounded_body Status = let e = most_status in bounded_more (row u_pieces 5) (most_of u_pieces) 65549 (omega arith) (bounded_row u_pieces 5)
bounded_body Flags = let e = most_flags in bounded_more (row e_pieces 6) (most_of e_pieces) 65549 (omega arith) (bounded_row e_pieces 6)
bounded_body Unknown = bounded_whole 0 65549

bounded_sirad : Bounded sirad 65551
unfolding Bounded sirad ◌>>=◌
bounded_sirad = (omega arith, λ a e. (omega arith, λ b f. bounded_body (kind_of b)))

-- a place that waits for a frame has fewer bytes than the longest frame
pub sirad_short : (bs : List ℕ) → judge sirad 0 bs ≡ Waiting → length bs < 65551
sirad_short bs e = waits_short sirad 65551 0 bs bounded_sirad e
