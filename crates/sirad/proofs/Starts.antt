-- The byte 33 starts frames and stands nowhere else in one: behind the first byte every node of the form refuses it.
use mathlib.Core.Bool.{Bool, true, false, cond}
use mathlib.Core.Path.{◌≡◌, refl, sym, ap, ◌∙◌}
use mathlib.Core.List.{List, [], ◌∷◌}
use Prim.Native.Nat.{ℕ, zero, suc, ◌+◌, ◌*◌, ◌<◌, ◌≤◌}
use native.Mathlib.Omega.{arith}
use lib.Dec.{eqb}
use lib.ListN.{length, get_or, take, drop, take-append-drop}
use lib.Seq.{get_or-take, length-take-le}
use Rattle.digits.specs.Hex.{digit}
use Rattle.digits.proofs.Choices.{both_ways}
use Rattle.form.specs.declared.Judgement.TheVariants.{Bad, Waiting}
use Rattle.form.specs.Form.{Form, whole, byte, word, ◌>>=◌, judge, Frame}
use Rattle.form.proofs.Theorems.{not_both, judgement_kept}
use Rattle.sirad.specs.Classes.{Class, Hex, Char, Zero, Cr, Lf, accepts}
use Rattle.sirad.specs.declared.Kind.{Kind}
use Rattle.sirad.specs.declared.Kind.TheVariants.{Sized, Targets, Status, Flags, Unknown}
use Rattle.sirad.specs.Rows.{Piece, hex, char, spare, slot, cr, lf, behind_number, data_pieces, t_pieces, u_pieces, e_pieces}
use Rattle.sirad.specs.Sirad.{lay, run, block, piece, row, number, kind_of, known, body, sirad}
use Rattle.sirad.proofs.FrameLaws.{judge_no_start}

-- -- Forms that refuse a start marker

-- every node refuses 33
unfoldable Refuses : Form → Type 0
Refuses (whole v) = Unit {0}
Refuses (byte r t f) = (t 33 ≡ false) × ((b : ℕ) → Refuses (f b))
Refuses (word r t f) = ⊥

refuses_then : (p : Form) (h : ℕ → Form) → Refuses p → ((v : ℕ) → Refuses (h v)) → Refuses (p >>= h)
unfolding Refuses ◌>>=◌
refuses_then (whole v) h l n = n v
refuses_then (byte r t f) h l n = (l.0, λ b. refuses_then (f b) h (l.1 b) n)
refuses_then (word r t f) h l n = absurd l

class_refuses : (c : Class) → accepts c 33 ≡ false
class_refuses Hex = refl
class_refuses Char = refl
class_refuses Zero = refl
class_refuses Cr = refl
class_refuses Lf = refl

lay_refuses : (cs : List Class) (v : ℕ) → Refuses (lay cs v)
unfolding lay Refuses
lay_refuses [] v = tt
lay_refuses (c ∷ cs) v = (class_refuses c, λ b. lay_refuses cs v)

run_refuses : (n : ℕ) (c : Class) → Refuses (run n c)
unfolding run Refuses
run_refuses zero c = tt
run_refuses (suc n) c = (class_refuses c, λ b. run_refuses n c)

block_refuses : Refuses block
unfolding block Refuses ◌>>=◌
block_refuses = (refl, λ b. go (eqb b 0))
  where
    go : (t : Bool) → Refuses (cond t (run 13 Zero) (lay behind_number 0))
    go true = run_refuses 13 Zero
    go false = lay_refuses behind_number 0

piece_refuses : (p : Piece) → Refuses (piece p)
piece_refuses (hex n) = run_refuses n Hex
piece_refuses char = run_refuses 1 Char
piece_refuses spare = run_refuses 1 Char
piece_refuses slot = block_refuses
piece_refuses cr = run_refuses 1 Cr
piece_refuses lf = run_refuses 1 Lf

row_refuses : (ps : List Piece) (kind : ℕ) → Refuses (row ps kind)
unfolding row Refuses
row_refuses [] kind = tt
row_refuses (p ∷ ps) kind = refuses_then (piece p) (λ _. row ps kind) (piece_refuses p) (λ _. row_refuses ps kind)

number_refuses : (n v : ℕ) → Refuses (number n v)
unfolding number Refuses
number_refuses zero v = tt
number_refuses (suc n) v = (refl, λ b. number_refuses n (v * 16 + digit b))

body_refuses : (k : Kind) → Refuses (body k)
unfolding body Refuses
body_refuses (Sized kind) =
    refuses_then (number 4 0) (λ n. row (data_pieces n) kind) (number_refuses 4 0) (λ n. row_refuses (data_pieces n) kind)
body_refuses Targets = row_refuses t_pieces 4
body_refuses Status = row_refuses u_pieces 5
body_refuses Flags = row_refuses e_pieces 6
body_refuses Unknown = tt

-- -- Bytes that such a form has taken

taken_other : (t : ℕ → Bool) (b : ℕ) → t 33 ≡ false → t b ≡ true → b ≡ 33 → ⊥
taken_other t b r a e = both_ways (t b) a (ap t e ∙ r)

frame_none : (p : Form) (k : ℕ) (bs : List ℕ) → Refuses p → Frame p k bs → (i : ℕ) → i < length bs → get_or bs i 0 ≡ 33 → ⊥
unfolding Refuses Frame
frame_none (whole v) k [] r f i l e = omega arith
frame_none (whole v) k (b ∷ bs) r f i l e = f
frame_none (byte q t f) k [] r h i l e = h
frame_none (byte q t f) k (b ∷ bs) r h zero l e = taken_other t b r.0 h.0 e
frame_none (byte q t f) k (b ∷ bs) r h (suc i) l e = frame_none (f b) k bs (r.1 b) h.1 i (omega arith) e
frame_none (word q t f) k bs r h i l e = r

waits_none : (p : Form) (at : ℕ) (bs : List ℕ) → Refuses p → judge p at bs ≡ Waiting → (i : ℕ) → i < length bs → get_or bs i 0 ≡ 33 → ⊥
unfolding Refuses judge
waits_none (whole v) at bs r h i l e = not_both h refl
waits_none (byte q t f) at [] r h i l e = omega arith
waits_none (byte q t f) at (b ∷ bs) r h i l e = go (t b) refl h (waits_none (f b) (at + 1) bs (r.1 b)) i l e
  where
    go : (u : Bool) → t b ≡ u → cond u (judge (f b) (at + 1) bs) (Bad q) ≡ Waiting
        → (judge (f b) (at + 1) bs ≡ Waiting → (i : ℕ) → i < length bs → get_or bs i 0 ≡ 33 → ⊥)
        → (i : ℕ) → i < length (b ∷ bs) → get_or (b ∷ bs) i 0 ≡ 33 → ⊥
    go true a j s zero l e = taken_other t b r.0 a e
    go true a j s (suc i) l e = s j i (omega arith) e
    go false a j s i l e = let z : ◌≡◌ {A = ℕ} 0 1 = cc in omega arith
waits_none (word q t f) at bs r h i l e = r

-- -- The wire

-- what follows the start marker
behind : Form
behind = byte 11 (λ b. known (kind_of b)) (λ b. body (kind_of b))

behind_refuses : Refuses behind
unfolding behind Refuses
behind_refuses = (refl, λ b. body_refuses (kind_of b))

-- no other byte of a frame is 33
pub frame_starts_once : (k : ℕ) (bs : List ℕ) → Frame sirad k bs → (i : ℕ) → 1 ≤ i → i < length bs → get_or bs i 0 ≡ 33 → ⊥
unfolding sirad ◌>>=◌ Frame behind
frame_starts_once k [] f i p l e = f
frame_starts_once k (b ∷ bs) f zero p l e = omega arith
frame_starts_once k (b ∷ bs) f (suc i) p l e = frame_none behind k bs behind_refuses f.1 i (omega arith) e

-- behind the first of waiting bytes no frame starts
pub waiting_starts_once : (bs : List ℕ) → judge sirad 0 bs ≡ Waiting → (i : ℕ) → 1 ≤ i → i < length bs → get_or bs i 0 ≡ 33 → ⊥
unfolding sirad ◌>>=◌ judge behind
waiting_starts_once [] h i p l e = omega arith
waiting_starts_once (b ∷ bs) h zero p l e = omega arith
waiting_starts_once (b ∷ bs) h (suc i) p l e = go (eqb b 33) h
  where
    go : (u : Bool) → cond u (judge behind 1 bs) (Bad 10) ≡ Waiting → ⊥
    go true j = waits_none behind 1 bs behind_refuses j i (omega arith) e
    go false j = let z : ◌≡◌ {A = ℕ} 0 1 = cc in omega arith

-- a judgement looks no further than the next 33
pub stops_at_start : (bs : List ℕ) (i : ℕ) → 1 ≤ i → i < length bs → get_or bs i 0 ≡ 33 → judge sirad 0 bs ≡ judge sirad 0 (take (suc i) bs)
stops_at_start bs i p l e =
    ap (judge sirad 0) (sym (take-append-drop (suc i) bs)) ∙ judgement_kept sirad 0 (take (suc i) bs) (drop (suc i) bs) settled
  where
    settled : judge sirad 0 (take (suc i) bs) ≡ Waiting → ⊥
    settled h =
        let s : i < suc i = omega arith in
        waiting_starts_once (take (suc i) bs) h i p (rw (length-take-le (suc i) bs) (omega arith)) (rw get_or-take e)

-- bytes whose first is not 33 are refused at it
pub sirad_no_start : (bs : List ℕ) → 1 ≤ length bs → (get_or bs 0 0 ≡ 33 → ⊥) → judge sirad 0 bs ≡ Bad 10
sirad_no_start bs h e = sym (judge_no_start bs h e)
