-- When a reader refuses: refusal 0 exactly if the bytes are one frame of its kind, by the papers' table.
use mathlib.Core.Path.{◌≡◌, refl, ◌∙◌}
use mathlib.Core.Bool.{Bool, true, false, cond}
use mathlib.Core.List.{List}
use mathlib.Core.Logic.{◌↔◌}
use Prim.Native.Nat.{ℕ, ◌<◌, ◌≤◌}
use native.Mathlib.Omega.{arith}
use borrow.Author.Tests.{eqb-true, eq-eqb, le-leb}
use lib.Dec.{eqb}
use Rattle.digits.specs.Hex.{hex_at}
use lib.ListN.{drop}
use Rattle.digits.proofs.Choices.{test}
use Rattle.units.specs.Units.{is_edition, Edition}
use Rattle.units.proofs.Theorems.{edition_exactly, no_edition}
use Rattle.sirad.specs.Rows.{u_pieces}
use Rattle.sirad.specs.Table.{TableFrame}
use Rattle.sirad.proofs.TableLaws.{whole_by_table}
use Rattle.sirad_fields.specs.declared.DataFrame.{DataFrame}
use Rattle.sirad_fields.specs.declared.TargetFrame.{TargetFrame}
use Rattle.sirad_fields.specs.declared.StatusFrame.{StatusFrame}
use Rattle.sirad_fields.specs.declared.ErrorFrame.{ErrorFrame}
use Rattle.sirad_fields.specs.Values.{values}
use Rattle.sirad_fields.specs.Frames.{frame_kind}
use Rattle.sirad_fields.specs.Fields.{is_data, data_start, read_data, read_targets, status_read, read_status, read_error}
use Rattle.sirad_fields.proofs.FrameLaws.{data_range, frame_kind_lem, kind_whole}

-- -- Any kind

-- the kind that a reader goes by is k exactly if the bytes are a frame of kind k by the table
pub kind_by_table : (k : ℕ) (bs : List ℕ) → 0 < k → (frame_kind bs ≡ k) ↔ TableFrame k bs
kind_by_table k bs p = (λ h. (whole_by_table k bs).0 (kind_whole k bs p h), λ f. frame_kind_lem k bs ((whole_by_table k bs).1 f))

-- fields that are not refused: the test held
found : {A : Type 0} (refusal : A → ℕ) (t : Bool) (fields refused : A) → refusal refused ≡ 5 → refusal (cond t fields refused) ≡ 0
    → t ≡ true
found refusal true fields refused e h = refl
found refusal false fields refused e h = absurd (omega arith)

module _ {A : Type 0} (refusal : A → ℕ) (k : ℕ) (bs : List ℕ) (fields refused : A) (five : refusal refused ≡ 5) where
  -- a reader of one kind that does not refuse has found it
  kind_found : refusal (cond (eqb (frame_kind bs) k) fields refused) ≡ 0 → frame_kind bs ≡ k
  kind_found h = eqb-true (frame_kind bs) k (found refusal (eqb (frame_kind bs) k) fields refused five h)

  -- and reads exactly the frames of its kind
  reads_exactly : 0 < k → refusal fields ≡ 0 → (refusal (cond (eqb (frame_kind bs) k) fields refused) ≡ 0) ↔ TableFrame k bs
  reads_exactly p none =
      (λ h. (kind_by_table k bs p).0 (kind_found h), λ f. rw (eq-eqb (frame_kind bs) k ((kind_by_table k bs p).1 f)) none)

-- -- Each reader

-- flags that are read are of an E frame
pub error_kind : (bs : List ℕ) → (read_error bs).refusal ≡ 0 → frame_kind bs ≡ 6
unfolding read_error
error_kind bs = kind_found (λ (r : ErrorFrame). r.refusal) 6 bs _ _ refl

-- flags are read exactly if the bytes are one E frame
pub error_reads_exactly : (bs : List ℕ) → ((read_error bs).refusal ≡ 0) ↔ TableFrame 6 bs
unfolding read_error
error_reads_exactly bs = reads_exactly (λ (r : ErrorFrame). r.refusal) 6 bs _ _ refl (omega arith) refl

-- a status that is read is of a U frame
pub status_kind : (edition : ℕ) (bs : List ℕ) → (read_status edition bs).refusal ≡ 0 → frame_kind bs ≡ 5
unfolding read_status
status_kind edition bs = kind_found (λ (r : StatusFrame). r.refusal) 5 bs _ _ refl

-- by an edition that there is
pub status_edition : (edition : ℕ) (bs : List ℕ) → (read_status edition bs).refusal ≡ 0 → is_edition edition ≡ true
unfolding read_status status_read
status_edition edition bs h =
    let e : (status_read edition (values u_pieces (drop 2 bs))).refusal ≡ 0 = rw (status_kind edition bs h) at h in
    test (is_edition edition) (λ t. t) (λ f. let n : ◌≡◌ {A = ℕ} 32 0 = rw f at e in absurd (omega arith))

-- a status is read exactly if the bytes are one U frame and the edition is 1 or 2 (paper 02, (iv))
pub status_reads_exactly : (edition : ℕ) (bs : List ℕ) → ((read_status edition bs).refusal ≡ 0) ↔ (TableFrame 5 bs × Edition edition)
unfolding read_status status_read
status_reads_exactly edition bs = (
  λ h. ((kind_by_table 5 bs (omega arith)).0 (status_kind edition bs h), (edition_exactly edition).0 (status_edition edition bs h)),
  λ f. rw ((kind_by_table 5 bs (omega arith)).1 f.0, (edition_exactly edition).1 f.1) refl,
)

-- and refused with 32 exactly if they are one and it is not
pub status_unnamed_exactly : (edition : ℕ) (bs : List ℕ)
    → ((read_status edition bs).refusal ≡ 32) ↔ (TableFrame 5 bs × (Edition edition → ⊥))
unfolding read_status status_read
status_unnamed_exactly edition bs = (
  λ h.
      let k = test (eqb (frame_kind bs) 5) (λ t. eqb-true (frame_kind bs) 5 t)
      (λ f. let n : ◌≡◌ {A = ℕ} 5 32 = rw f at h in absurd (omega arith)) in
      let e : (status_read edition (values u_pieces (drop 2 bs))).refusal ≡ 32 = rw k at h in (
        (kind_by_table 5 bs (omega arith)).0 k,
        (no_edition edition).0 (test (is_edition edition) (λ t. let n : ◌≡◌ {A = ℕ} 0 32 = rw t at e in absurd (omega arith)) (λ f. f)),
      ),
  λ f. rw ((kind_by_table 5 bs (omega arith)).1 f.0, (no_edition edition).1 f.1) refl,
)

-- targets that are read are of a T frame
pub targets_kind : (bs : List ℕ) → (read_targets bs).refusal ≡ 0 → frame_kind bs ≡ 4
unfolding read_targets
targets_kind bs = kind_found (λ (r : TargetFrame). r.refusal) 4 bs _ _ refl

-- targets are read exactly if the bytes are one T frame
pub targets_read_exactly : (bs : List ℕ) → ((read_targets bs).refusal ≡ 0) ↔ TableFrame 4 bs
unfolding read_targets
targets_read_exactly bs = reads_exactly (λ (r : TargetFrame). r.refusal) 4 bs _ _ refl (omega arith) refl

-- data that is read is of a kind from 1 to 3
pub data_found : (bs : List ℕ) → (read_data bs).refusal ≡ 0 → is_data (frame_kind bs) ≡ true
unfolding read_data
data_found bs h = found (λ (r : DataFrame). r.refusal) (is_data (frame_kind bs)) _ _ refl h

-- with these fields
pub data_read : (bs : List ℕ) → is_data (frame_kind bs) ≡ true
    → read_data bs ≡ record { refusal = 0; kind = frame_kind bs; start = data_start; size = hex_at 4 2 bs }
unfolding read_data
data_read bs h = rw h

-- its kind is the frame's
pub data_kind : (bs : List ℕ) → (read_data bs).refusal ≡ 0 → frame_kind bs ≡ (read_data bs).kind
data_kind bs h = rw (data_read bs (data_found bs h))

-- data is read, as of kind k, exactly if the bytes are one frame of kind k and k is 1, 2 or 3
pub data_reads_exactly : (k : ℕ) (bs : List ℕ) → (((read_data bs).refusal ≡ 0) × ((read_data bs).kind ≡ k)) ↔ ((k ≤ 3) × TableFrame k bs)
data_reads_exactly k bs = (λ h. there (data_kind bs h.0 ∙ h.1) (data_found bs h.0), λ f. back f.0 f.1)
  where
    there : frame_kind bs ≡ k → is_data (frame_kind bs) ≡ true → (k ≤ 3) × TableFrame k bs
    there e h = let range = data_range k (rw e at h) in (range.1, (kind_by_table k bs range.0).0 e)

    back : k ≤ 3 → TableFrame k bs → ((read_data bs).refusal ≡ 0) × ((read_data bs).kind ≡ k)
    back l f =
        let e = (kind_by_table k bs f.some).1 f in
        let d : is_data (frame_kind bs) ≡ true = rw (e, le-leb 1 k f.some, le-leb k 3 l) in
        rw (data_read bs d) (refl, e)
