-- Bytes judged whole with a kind are `!`, its identifier and bytes that pass its row's classes, and back; with the laws of rows this
-- gives the round trips of every kind.
use mathlib.Core.Path.{◌≡◌, refl, sym, subst, ap, ◌∙◌}
use mathlib.Core.Bool.{Bool, true, false, cond}
use mathlib.Core.List.{List, [], ◌∷◌, append-nil}
use Prim.Native.Nat.{ℕ, ◌<◌, ◌≤◌}
use native.Mathlib.Omega.{arith}
use native.Mathlib.Decide.{dec_le}
use borrow.Author.Tests.{eqb-true, eq-eqb, le-leb, lt-leb}
use lib.Dec.{eqb}
use lib.ListN.{length, take, drop, get_or}
use Rattle.digits.specs.Hex.{hex_value, hex_at}
use Rattle.digits.proofs.Choices.{within_bounds}
use Rattle.digits.proofs.Lists.{drop_one}
use Rattle.form.specs.declared.Judgement.{Judgement}
use Rattle.form.specs.declared.Judgement.TheVariants.{Whole, Bad, Waiting}
use Rattle.form.specs.Form.{judge}
use Rattle.sirad.specs.Classes.{Passes}
use Rattle.sirad.specs.Rows.{Piece, hex, classes, data_pieces, row_of}
use Rattle.sirad.specs.Sirad.{sirad}
use Rattle.sirad.specs.Table.{identifier, total, RowFrame}
use Rattle.sirad.proofs.TableLaws.{whole_by_row, whole_length, total_least}
use Rattle.sirad_fields.specs.Values.{values, written, fit, distinct}
use Rattle.sirad_fields.specs.Frames.{frame_kind, row_in, numbers_in, frame_of, blank_frame}
use Rattle.sirad_fields.specs.Fields.{is_data}
use Rattle.sirad_fields.proofs.ValueLaws.{back, passes, again, fits_again, distinct_again}

-- the kinds 1 to 3
pub data_range : (k : ℕ) → is_data k ≡ true → (1 ≤ k) × (k ≤ 3)
data_range k h = within_bounds 1 3 k h

-- -- The kind that a reader goes by

-- bytes judged whole from first to last have the kind of the judgement
pub frame_kind_lem : (k : ℕ) (bs : List ℕ) → judge sirad 0 bs ≡ Whole k (length bs) → frame_kind bs ≡ k
unfolding frame_kind
frame_kind_lem k bs h = rw (h, eq-eqb (length bs) (length bs) refl)

-- bytes that have a kind are judged whole with it, from first to last
pub kind_whole : (k : ℕ) (bs : List ℕ) → 0 < k → frame_kind bs ≡ k → judge sirad 0 bs ≡ Whole k (length bs)
unfolding frame_kind
kind_whole k bs p h = go (judge sirad 0 bs) refl
  where
    found : (j n : ℕ) → judge sirad 0 bs ≡ Whole j n → (t : Bool) → eqb n (length bs) ≡ t → cond t j 0 ≡ k
        → judge sirad 0 bs ≡ Whole k (length bs)
    found j n e true t c = e ∙ rw (c, eqb-true n (length bs) t)
    found j n e false t c = absurd (omega arith)

    go : (j : Judgement) → judge sirad 0 bs ≡ j → judge sirad 0 bs ≡ Whole k (length bs)
    go (Whole j n) e = found j n e (eqb n (length bs)) refl (rw e at h)
    go (Bad r) e = let z : 0 ≡ k = rw e at h in absurd (omega arith)
    go Waiting e = let z : 0 ≡ k = rw e at h in absurd (omega arith)

-- and are a frame by its row
pub kind_row : (k : ℕ) (bs : List ℕ) → 0 < k → frame_kind bs ≡ k → RowFrame k bs
kind_row k bs p h = (whole_by_row k bs).0 (kind_whole k bs p h)

-- of the table's length
pub kind_length : (k : ℕ) (bs : List ℕ) → 0 < k → frame_kind bs ≡ k → length bs ≡ total k (hex_at 4 2 bs)
kind_length k bs p h = whole_length k (length bs) bs (kind_whole k bs p h)

-- and start with `!` and the identifier
kind_starts : (k : ℕ) (bs : List ℕ) → 0 < k → frame_kind bs ≡ k → take 2 bs ≡ 33 ∷ identifier k ∷ []
kind_starts k bs p h =
    let f = kind_row k bs p h in
    let long : 8 ≤ length bs = omega (arith, kind_length k bs p h, total_least k (hex_at 4 2 bs)) in
    ap (take 2) (drop_one bs 0 (omega arith) ∙ ap (λ (l : List ℕ). get_or bs 0 0 ∷ l) (drop_one bs 1 (omega arith)))
    ∙ rw (f.start, f.named)

-- -- The round trips, for any kind

-- the first number of a row that starts with four digits
first_number : (row ps : List Piece) (bs vs : List ℕ) → row ≡ hex 4 ∷ ps → values row bs ≡ vs → hex_value (take 4 bs) ≡ get_or vs 0 0
unfolding values
first_number row ps bs vs r e = let f : values (hex 4 ∷ ps) bs ≡ vs = rw r at e in ap (λ (l : List ℕ). get_or l 0 0) f

-- the size matters to kinds 1 to 3 only
same_row : (k m n : ℕ) → (k ≤ 3 → m ≡ n) → row_of k m ≡ row_of k n
same_row k m n e = go (dec_le k 3)
  where
    go : Dec (k ≤ 3) → row_of k m ≡ row_of k n
    go (yes l) = rw (e l)
    go (no l) = rw (lt-leb k 3 (omega arith))

-- numbers that a frame can be written for
pub record Writable (k n : ℕ) (vs : List ℕ) : Type 0 where
  pub some : 1 ≤ k
  pub most : k ≤ 6
  pub sizes : k ≤ 3 → get_or vs 0 0 ≡ n
  pub fits : fit (row_of k n) vs ≡ true
  pub differs : distinct (row_of k n) vs ≡ true

module _ (k n : ℕ) (vs : List ℕ) (w : Writable k n vs) where
  -- the numbers of a written frame are those that went in
  pub numbers_back : values (row_of k n) (written (row_of k n) vs) ≡ vs
  numbers_back = rw (append-nil (written (row_of k n) vs)) at (back (row_of k n) vs [] w.fits w.differs)

  -- a written frame's size field is its size
  pub size_back : k ≤ 3 → hex_value (take 4 (written (row_of k n) vs)) ≡ n
  size_back l = first_number (row_of k n) (data_pieces n) (written (row_of k n) vs) vs (rw (le-leb k 3 l)) numbers_back ∙ w.sizes l

  -- a written frame is judged whole over its length with its kind
  pub written_judged : judge sirad 0 (frame_of k n vs) ≡ Whole k (length (frame_of k n vs))
  written_judged =
      let bs = written (row_of k n) vs in
      let row = sym (same_row k (hex_value (take 4 bs)) n size_back) in
      let p = subst (λ (ps : List Piece). Passes (classes ps bs) bs) row (passes (row_of k n) vs w.fits) in
      (whole_by_row k (frame_of k n vs)).1 (record { some = w.some; most = w.most; start = refl; named = refl; passes = p })

  -- and has this kind for the readers
  pub written_kind : frame_kind (frame_of k n vs) ≡ k
  written_kind = frame_kind_lem k (frame_of k n vs) written_judged

-- a frame that is read and written again is the same but for reserved bytes and blocks of value 0
pub written_again : (k : ℕ) (bs : List ℕ) → 0 < k → frame_kind bs ≡ k → frame_of k (hex_at 4 2 bs) (numbers_in k bs) ≡ blank_frame k bs
written_again k bs p h = rw (again (row_in k bs) (drop 2 bs) (kind_row k bs p h).passes, kind_starts k bs p h)

-- the numbers of a frame are never refused by the writer
pub numbers_fit : (k : ℕ) (bs : List ℕ) → 0 < k → frame_kind bs ≡ k → fit (row_in k bs) (numbers_in k bs) ≡ true
numbers_fit k bs p h = fits_again (row_in k bs) (drop 2 bs) (kind_row k bs p h).passes

-- and no target of it would be written as an empty block
pub numbers_differ : (k : ℕ) (bs : List ℕ) → 0 < k → frame_kind bs ≡ k → distinct (row_in k bs) (numbers_in k bs) ≡ true
numbers_differ k bs p h = distinct_again (row_in k bs) (drop 2 bs) (kind_row k bs p h).passes
