-- Laws for the choice between two lines. The first row of a closed reading is the same for every table with room for a row, so one of
-- three numbers is enough.
use mathlib.Core.Bool.{Bool, true, false, cond}
use mathlib.Core.Path.{◌≡◌, refl, ap, subst, ◌∙◌}
use mathlib.Core.List.{List, [], ◌∷◌}
use Prim.Native.Nat.{ℕ, ◌+◌, ◌-◌, ◌<◌, ◌≤◌}
use native.Mathlib.Omega.{arith}
use native.Mathlib.Nat.{add-sub_cancel_left}
use lib.Dec.{ltb}
use lib.ListN.{length, take, drop, get_or}
use borrow.Author.Tests.{lt-ltb, le-ltb}
use denote.Ref.{Bor}
use Rattle.digits.specs.Stores.{stored}
use Rattle.form.specs.declared.Judgement.{Judgement}
use Rattle.reading.specs.Leftmost.{RowsStand}
use Rattle.reading.specs.Reading.{reading, flat}
use Rattle.reading.specs.declared.Answer.{Answer}
use Rattle.reading.specs.declared.Row.{Row}
use Rattle.reading.proofs.LeftmostLaws.{closed_begins_leftmost, leftmost_exists}
use Rattle.reading.proofs.Rows.{rows_stand}
use Rattle.capture.specs.Dialects.{dialect_of, dialect_number, judge_of}
use Rattle.capture.specs.Entries.{max_bytes, read_leaves, Reads}
use Rattle.capture.specs.Lines.{closed_rows, first_row, row_part, empty_part, chosen, part_of, line_of, RefersTo}
use Rattle.std.specs.declared.option.Option.{Option}
use Rattle.std.specs.declared.option.Option.TheVariants.{Some, None}
use Rattle.capture.specs.declared.Dialect.{Dialect}
use Rattle.capture.specs.declared.Part.{Part}
use Rattle.capture.proofs.Wires.{lawful_of, number_names}

-- the rows with some room are the first of all closed rows
pub closed_rows_first : (d : Dialect) (bs : List ℕ) (room : ℕ) → (reading (judge_of d) true room bs).rows ≡ take room (closed_rows d bs)
unfolding closed_rows
closed_rows_first d bs room = closed_begins_leftmost (judge_of d) (lawful_of d) bs room _ (leftmost_exists (judge_of d) (lawful_of d) bs)

-- every closed row is a frame that stands in the bytes
pub closed_rows_stand : (d : Dialect) (bs : List ℕ) → RowsStand (judge_of d) bs (closed_rows d bs)
unfolding closed_rows
closed_rows_stand d bs = rows_stand (judge_of d) (lawful_of d) true bs (length bs)

-- the first of the rows; zeros where there is none
abbrev pub row_or_zeros : List Row → Row
row_or_zeros [] = record { offset = 0; size = 0; kind = 0 }
row_or_zeros (w ∷ ws) = w

-- a table of three zeros at exit of the closed reading is the first row, or zeros
pub first_stored : (d : Dialect) (number : ℕ) (bs : List ℕ) (r : Answer) (after : List ℕ) → number ≡ dialect_number d
    → length bs ≤ max_bytes
    → Reads number true bs (0 ∷ 0 ∷ 0 ∷ []) r after
    → record { offset = get_or after 0 0; size = get_or after 1 0; kind = get_or after 2 0 } ≡ row_or_zeros (closed_rows d bs)
unfolding read_leaves stored flat
first_stored d number bs r after n l g =
    let k : dialect_of number ≡ Some d = ap dialect_of n ∙ number_names d in
    let s : after ≡ stored (0 ∷ 0 ∷ 0 ∷ []) 0 (flat (reading (judge_of d) true 1 bs).rows) = rw (k, le-ltb max_bytes (length bs) l) at
    g.leaves in
    by_rows (closed_rows d bs) (s ∙ ap (λ (ws : List Row). stored (0 ∷ 0 ∷ 0 ∷ []) 0 (flat ws)) (closed_rows_first d bs 1))
  where
    by_rows : (ws : List Row) → after ≡ stored (0 ∷ 0 ∷ 0 ∷ []) 0 (flat (take 1 ws))
        → record { offset = get_or after 0 0; size = get_or after 1 0; kind = get_or after 2 0 } ≡ row_or_zeros ws
    by_rows [] e = rw e
    by_rows (w ∷ ws) e = rw e

-- -- The first row of a line, by the size of what the table holds: no frame is empty

module _ (d : Dialect) (bs : List ℕ) (w : Row) (e : w ≡ row_or_zeros (closed_rows d bs)) where
  pub first_some : (w.size ≡ 0 → ⊥) → Some w ≡ first_row (closed_rows d bs)
  first_some h = by_rows (closed_rows d bs) e
    where
      by_rows : (ws : List Row) → w ≡ row_or_zeros ws → Some w ≡ first_row ws
      by_rows [] z = absurd (h (ap (λ (v : Row). v.size) z))
      by_rows (v ∷ ws) z = ap Some z

  pub first_none : w.size ≡ 0 → None ≡ first_row (closed_rows d bs)
  unfolding RowsStand
  first_none h = by_rows (closed_rows d bs) (closed_rows_stand d bs) e
    where
      by_rows : (ws : List Row) → RowsStand (judge_of d) bs ws → w ≡ row_or_zeros ws → None ≡ first_row ws
      by_rows [] s z = refl
      by_rows (v ∷ ws) s z = let p = s.0.1 in let q : w.size ≡ v.size = ap (λ (v : Row). v.size) z in absurd (omega arith)

-- -- The choice, by the two first rows

chosen_main : (ms ss : List Row) (w : Row) → Some w ≡ first_row ms → row_part false w ≡ chosen ms ss
unfolding chosen
chosen_main [] ss w e = let z : ◌≡◌ {A = ℕ} 0 1 = cc in absurd (omega arith)
chosen_main (m ∷ ms) ss w e = let q : w ≡ m = cc in ap (row_part false) q

chosen_standby : (ms ss : List Row) (w : Row) → None ≡ first_row ms → Some w ≡ first_row ss → row_part true w ≡ chosen ms ss
unfolding chosen
chosen_standby (m ∷ ms) ss w n e = let z : ◌≡◌ {A = ℕ} 0 1 = cc in absurd (omega arith)
chosen_standby [] [] w n e = let z : ◌≡◌ {A = ℕ} 0 1 = cc in absurd (omega arith)
chosen_standby [] (s ∷ ss) w n e = let q : w ≡ s = cc in ap (row_part true) q

chosen_none : (ms ss : List Row) → None ≡ first_row ms → None ≡ first_row ss → empty_part ≡ chosen ms ss
unfolding chosen
chosen_none (m ∷ ms) ss n o = let z : ◌≡◌ {A = ℕ} 0 1 = cc in absurd (omega arith)
chosen_none [] (s ∷ ss) n o = let z : ◌≡◌ {A = ℕ} 0 1 = cc in absurd (omega arith)
chosen_none [] [] n o = refl

module _ (d : Dialect) (main standby : List ℕ) where
  pub main_long : max_bytes < length main → empty_part ≡ part_of (Some d) main standby
  unfolding part_of
  main_long h = rw (lt-ltb max_bytes (length main) h)

  pub standby_long : length main ≤ max_bytes → max_bytes < length standby → empty_part ≡ part_of (Some d) main standby
  unfolding part_of
  standby_long m h = rw (le-ltb max_bytes (length main) m, lt-ltb max_bytes (length standby) h)

  -- within the limit the choice is between the two closed readings
  pub both_short : length main ≤ max_bytes → length standby ≤ max_bytes
      → chosen (closed_rows d main) (closed_rows d standby) ≡ part_of (Some d) main standby
  unfolding part_of
  both_short m s = rw (le-ltb max_bytes (length main) m, le-ltb max_bytes (length standby) s)

  pub main_first : (w : Row) → length main ≤ max_bytes → length standby ≤ max_bytes → Some w ≡ first_row (closed_rows d main)
      → row_part false w ≡ part_of (Some d) main standby
  main_first w m s e = chosen_main (closed_rows d main) (closed_rows d standby) w e ∙ both_short m s

  pub standby_first : (w : Row) → length main ≤ max_bytes → length standby ≤ max_bytes → None ≡ first_row (closed_rows d main)
      → Some w ≡ first_row (closed_rows d standby) → row_part true w ≡ part_of (Some d) main standby
  standby_first w m s n e = chosen_standby (closed_rows d main) (closed_rows d standby) w n e ∙ both_short m s

  pub neither_first : length main ≤ max_bytes → length standby ≤ max_bytes → None ≡ first_row (closed_rows d main)
      → None ≡ first_row (closed_rows d standby) → empty_part ≡ part_of (Some d) main standby
  neither_first m s n o = chosen_none (closed_rows d main) (closed_rows d standby) n o ∙ both_short m s

pub unknown_part : (main standby : List ℕ) → empty_part ≡ part_of None main standby
unfolding part_of
unknown_part main standby = refl

-- -- The part lies in its line

-- the bounds of a part
abbrev pub Inner : Part → List ℕ → List ℕ → Type 0
Inner p main standby = p.offset + p.size ≤ length (cond p.standby standby main)

inner_chosen : (judge : List ℕ → Judgement) (main standby : List ℕ) (ms ss : List Row) → RowsStand judge main ms
    → RowsStand judge standby ss → Inner (chosen ms ss) main standby
unfolding RowsStand chosen
inner_chosen judge main standby [] [] s t = omega arith
inner_chosen judge main standby [] (w ∷ ws) s t = t.0.2
inner_chosen judge main standby (w ∷ ws) ss s t = s.0.2

inner_cond : (t : Bool) (p q : Part) (main standby : List ℕ) → Inner p main standby → Inner q main standby → Inner (cond t p q) main standby
inner_cond true p q main standby h k = h
inner_cond false p q main standby h k = k

-- the chosen part lies in its line
pub inner : (asked : Option Dialect) (main standby : List ℕ) → Inner (part_of asked main standby) main standby
unfolding part_of
inner None main standby = omega arith
inner (Some d) main standby =
    let e : Inner empty_part main standby = omega arith in
    inner_cond (ltb max_bytes (length main)) empty_part _ main standby e
    (inner_cond (ltb max_bytes (length standby)) empty_part _ main standby e
    (inner_chosen (judge_of d) main standby (closed_rows d main) (closed_rows d standby) (closed_rows_stand d main)
    (closed_rows_stand d standby)))

-- -- The same of a part that is known to be the chosen one

pub part_asked : (asked asked' : Option Dialect) (main standby : List ℕ) (r : Part) → asked ≡ asked' → r ≡ part_of asked main standby
    → r ≡ part_of asked' main standby
part_asked asked asked' main standby r e h = h ∙ ap (λ (a : Option Dialect). part_of a main standby) e

-- what is seen of the chosen line is what is seen of each, chosen
line_seen : {A B : Type 0} (f : A → B) (p : Part) (main standby : A) → f (line_of p main standby) ≡ line_of p (f main) (f standby)
line_seen f p main standby = by_flag p.standby
  where
    by_flag : (t : Bool) → f (cond t standby main) ≡ cond t (f standby) (f main)
    by_flag true = refl
    by_flag false = refl

module _ (asked : Option Dialect) (main standby line : Bor (List ℕ)) (p : Part) (e : p ≡ part_of asked main.now standby.now)
    (l : line ≡ line_of p main standby) where
  line_bytes : line.now ≡ line_of p main.now standby.now
  line_bytes = ap (λ x. x.now) l ∙ line_seen (λ x. x.now) p main standby

  -- the part ends within its line
  pub ends_in : p.offset + p.size ≤ length line.now
  ends_in = rw (line_bytes, e) (inner asked main.now standby.now)

  -- a reference to that part of the line refers to the chosen part
  pub refers : (r : Bor (List ℕ)) → r.ref_ptr.0 ≡ line.ref_ptr.0 → r.ref_ptr.1 ≡ p.offset + line.ref_ptr.1
      → r.now ≡ take (p.offset + p.size - p.offset) (drop p.offset line.now)
      → RefersTo (part_of asked main.now standby.now) main standby r
  refers r b o n = subst (λ (q : Part). RefersTo q main standby r) e
      (record {
        block = b ∙ ap (λ (x : Bor (List ℕ)). x.ref_ptr.0) l;
        place = o
            ∙ ap (λ (x : Bor (List ℕ)). p.offset + x.ref_ptr.1) l;
        bytes = n ∙ rw (line_bytes, add-sub_cancel_left);
      })
