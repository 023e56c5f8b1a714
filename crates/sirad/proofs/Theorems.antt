-- What holds of every form, of the SiRad wire. Each class of bytes has a member, so the form is live; it has no four-byte field, so nothing
-- is said of those.
use mathlib.Core.Bool.{Bool, true, false, cond}
use mathlib.Core.Path.{◌≡◌, refl}
use mathlib.Core.List.{List, [], ◌∷◌}
use mathlib.Core.Logic.{◌↔◌}
use Prim.Native.Nat.{ℕ, zero, suc, ◌+◌, ◌*◌, ◌^◌, ◌<◌}
use lib.Dec.{eqb, lit<}
use Rattle.digits.specs.Bytes.{Bytes}
use Rattle.digits.specs.Hex.{digit}
use Rattle.form.specs.declared.Judgement.TheVariants.{Waiting}
use Rattle.form.specs.Form.{Form, ◌>>=◌, judge, Completable, Live, Plain, Begins}
use Rattle.form.specs.Judging.{Lawful}
use Rattle.form.proofs.Lives.{live_then, plain_then, plain_outside}
use Rattle.form.proofs.Theorems.{waits_exactly, lawful}
use Rattle.sirad.specs.Classes.{Class, Hex, Char, Zero, Cr, Lf, accepts}
use Rattle.sirad.specs.declared.Kind.{Kind}
use Rattle.sirad.specs.declared.Kind.TheVariants.{Sized, Targets, Status, Flags, Unknown}
use Rattle.sirad.specs.Rows.{Piece, hex, char, spare, slot, cr, lf, behind_number, data_pieces, t_pieces, u_pieces, e_pieces}
use Rattle.sirad.specs.Sirad.{lay, run, block, piece, row, number, kind_of, body, sirad}

-- -- Live and plain

-- some bytes complete whatever has passed, and no field has four bytes
record Good (p : Form) : Type 0 where
  live : Live p
  plain : Plain p

good_then : (p : Form) (h : ℕ → Form) → Good p → ((v : ℕ) → Good (h v)) → Good (p >>= h)
good_then p h g n = record { live = live_then p h g.live (λ v. (n v).live); plain = plain_then p h g.plain (λ v. (n v).plain) }

-- some byte is of the class
abbrev Member : Class → Type 0
Member c = (b : ℕ) × (b < 2 ^ 8) × (accepts c b ≡ true)

run_good : (n : ℕ) (c : Class) → Member c → Good (run n c)
unfolding run Live Plain
run_good zero c m = record { live = tt; plain = tt }
run_good (suc n) c m = let g = run_good n c m in record { live = (m, λ b s a. g.live); plain = λ b. g.plain }

hexes : (n : ℕ) → Good (run n Hex)
hexes n = run_good n Hex (48, lit< tt, refl)

chars : (n : ℕ) → Good (run n Char)
chars n = run_good n Char (34, lit< tt, refl)

target_good : Good (lay behind_number 0)
unfolding lay run ◌>>=◌
target_good =
    let phase = good_then (run 4 Hex) (λ _. run 4 Char) (hexes 4) (λ _. chars 4) in
    let magnitude = good_then (run 1 Char) (λ _. run 4 Hex >>= (λ _. run 4 Char)) (chars 1) (λ _. phase) in
    good_then (run 4 Hex) (λ _. run 1 Char >>= (λ _. run 4 Hex >>= (λ _. run 4 Char))) (hexes 4) (λ _. magnitude)

zeros_good : Good (run 13 Zero)
zeros_good = run_good 13 Zero (0, lit< tt, refl)

-- what holds of both choices holds of a choice
chosen : (P : Form → Type 0) (t : Bool) (p q : Form) → P p → P q → P (cond t p q)
chosen P true p q x y = x
chosen P false p q x y = y

block_good : Good block
unfolding block Live Plain ◌>>=◌
block_good = record {
  live = ((48, lit< tt, refl), λ b s a. chosen Live (eqb b 0) (run 13 Zero) (lay behind_number 0) zeros_good.live target_good.live);
  plain = λ b. chosen Plain (eqb b 0) (run 13 Zero) (lay behind_number 0) zeros_good.plain target_good.plain;
}

number_good : (n v : ℕ) → Good (number n v)
unfolding number Live Plain
number_good zero v = record { live = tt; plain = tt }
number_good (suc n) v = record {
  live = ((48, lit< tt, refl), λ b s a. (number_good n (v * 16 + digit b)).live);
  plain = λ b. (number_good n (v * 16 + digit b)).plain;
}

piece_good : (p : Piece) → Good (piece p)
piece_good (hex n) = hexes n
piece_good char = chars 1
piece_good spare = chars 1
piece_good slot = block_good
piece_good cr = run_good 1 Cr (13, lit< tt, refl)
piece_good lf = run_good 1 Lf (10, lit< tt, refl)

row_good : (ps : List Piece) (kind : ℕ) → Good (row ps kind)
unfolding row Live Plain
row_good [] kind = record { live = tt; plain = tt }
row_good (p ∷ ps) kind = good_then (piece p) (λ _. row ps kind) (piece_good p) (λ _. row_good ps kind)

body_good : (k : Kind) → Good (body k)
unfolding body Live Plain
body_good (Sized kind) = good_then (number 4 0) (λ n. row (data_pieces n) kind) (number_good 4 0) (λ n. row_good (data_pieces n) kind)
body_good Targets = row_good t_pieces 4
body_good Status = row_good u_pieces 5
body_good Flags = row_good e_pieces 6
body_good Unknown = record { live = tt; plain = tt }

-- whatever has passed so far, some bytes complete it
pub sirad_live : Live sirad
unfolding sirad Live ◌>>=◌
sirad_live = ((33, lit< tt, refl), λ b s a. ((82, lit< tt, refl), λ c t h. (body_good (kind_of c)).live))

-- it has no four-byte field
pub sirad_plain : Plain sirad
unfolding sirad Plain ◌>>=◌
sirad_plain = λ b c. (body_good (kind_of c)).plain

-- no frame is empty
pub sirad_begins : Begins sirad
unfolding sirad Begins ◌>>=◌
sirad_begins = tt

-- -- The judgement

-- waiting exactly if no frame stands and some further bytes complete one
pub sirad_waits : (bs : List ℕ) → Bytes bs → (judge sirad 0 bs ≡ Waiting) ↔ Completable sirad bs
sirad_waits bs s = waits_exactly sirad bs sirad_live s (plain_outside sirad bs sirad_plain)

-- readings can go by it
pub sirad_lawful : Lawful (judge sirad 0)
sirad_lawful = lawful sirad sirad_begins
