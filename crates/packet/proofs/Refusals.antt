-- Each field reader refuses 5 exactly if the slice is not one packet, and its other numbers exactly as the paper says: two laws over any
-- answer that stands behind the test, and for each reader what its inner answer refuses.
use mathlib.Core.Bool.{Bool, true, false, cond}
use mathlib.Core.Path.{◌≡◌, refl, sym, ap, ◌∙◌}
use mathlib.Core.Logic.Iff
use mathlib.Core.Logic.{◌↔◌}
use mathlib.Core.List.{List}
use Prim.Native.Nat.{ℕ, ◌+◌, ◌*◌, ◌^◌, ◌<◌, ◌≤◌}
use native.Mathlib.Omega.{arith}
use native.Mathlib.Decide.{dec_lt}
use lib.Dec.{eqb, ltb}
use borrow.Author.Tests.{ltb-true, ltb-false, lt-ltb, le-ltb, eq-eqb, ne_eqb, eqb-true, eqb-false}
use Rattle.digits.specs.LittleEndian.{word_at}
use Rattle.digits.proofs.Choices.{test, both_ways}
use Rattle.units.specs.declared.Quantity.{Quantity}
use Rattle.units.specs.Float.{not_finite, magnitude}
use Rattle.units.specs.Units.{is_edition, Edition, coordinate, millimetres}
use Rattle.units.proofs.Theorems.{millimetres_32}
use Rattle.std.specs.declared.option.Option.{Option}
use Rattle.std.specs.declared.option.Option.TheVariants.{Some, None}
use Rattle.packet.specs.declared.PacketHeader.{PacketHeader}
use Rattle.packet.specs.declared.PacketRecord.{PacketRecord}
use Rattle.packet.specs.declared.PacketStep.{PacketStep}
use Rattle.packet.specs.declared.Points.{Points}
use Rattle.std.specs.declared.result.Result.{Result}
use Rattle.std.specs.declared.result.Result.TheVariants.{Err}
use Rattle.refusals.specs.declared.Refusal.{Refusal}
use Rattle.refusals.specs.declared.Refusal.TheVariants.{NotOneFrame}
use Rattle.refusals.specs.Numbers.{refusal_number}
use Rattle.packet.specs.declared.PacketPoint.{PacketPoint}
use Rattle.packet.specs.Walk.{objects_of, records_of, record_at, starts_among, IsFirst}
use Rattle.packet.specs.Fields.{is_packet, no_header, header_shown, header_of}
use Rattle.packet.specs.Fields.{no_record, record_shown, record_read, record_of, no_step, step_shown, step_read, step_of}
use Rattle.packet.specs.Fields.{points_found, point_record, points_read, points_of}
use Rattle.packet.specs.Fields.{no_point, point_from, point_at, point_found, point_read, point_of}
use Rattle.packet.specs.Refusals.{PacketOf, HeaderRefusals, RecordRefusals, StepRefusals, RecordStarts, PointsRefusals, HasPoints}
use Rattle.packet.specs.Refusals.{Measured, PointThere, PointRefusals}
use Rattle.packet.proofs.Opened.{packet_exactly}
use Rattle.packet.proofs.Theorems.{found_first, missing_none, starts_exactly}

-- -- Any answer behind a test

false_exactly : {t : Bool} {T : Type 0} → (t ≡ true) ↔ T → (t ≡ false) ↔ (T → ⊥)
false_exactly {t = t} e = (λ f h. both_ways t (e.1 h) f, λ n. test t (λ y. absurd (n (e.0 y))) (λ f. f))

module _ {A : Type 0} (number : A → ℕ) (t : Bool) (yes no : A) (n : ℕ) where
  -- a number of the one answer alone says how the test went
  first_exactly : number yes ≡ n → (number no ≡ n → ⊥) → (number (cond t yes no) ≡ n) ↔ (t ≡ true)
  first_exactly e m = test t (λ y. rw y (λ h. refl, λ h. e)) (λ f. rw f (λ h. absurd (m h), λ h. both_ways false h refl))

  second_exactly : number no ≡ n → (number yes ≡ n → ⊥) → (number (cond t yes no) ≡ n) ↔ (t ≡ false)
  second_exactly e m = test t (λ y. rw y (λ h. absurd (m h), λ h. both_ways true refl h)) (λ f. rw f (λ h. refl, λ h. e))

  neither : (number yes ≡ n → ⊥) → (number no ≡ n → ⊥) → number (cond t yes no) ≡ n → ⊥
  neither a b h = test t (λ y. a (rw y at h)) (λ f. b (rw f at h))

-- -- Any answer on a slice

module _ (kind : ℕ) (bs : List ℕ) {A : Type 0} (number : A → ℕ) (read none : A) (five : number none ≡ 5) where
  -- 5 says that the slice is no packet
  pub five_exactly : (number read ≡ 5 → ⊥) → (number (cond (is_packet kind bs) read none) ≡ 5) ↔ (PacketOf kind bs → ⊥)
  five_exactly m = Iff.trans (second_exactly number (is_packet kind bs) read none 5 five m) (false_exactly (packet_exactly kind bs))

  -- any other number is the answer on a packet
  pub number_exactly : {T : Type 0} (n : ℕ) → (n ≡ 5 → ⊥) → (number read ≡ n) ↔ T
      → (number (cond (is_packet kind bs) read none) ≡ n) ↔ (PacketOf kind bs × T)
  number_exactly n m i = test (is_packet kind bs)
      (λ y. rw y (λ h. ((packet_exactly kind bs).0 y, i.0 h), λ p. i.1 p.1))
      (λ f. rw f (λ h. absurd (m (sym h ∙ five)), λ p. both_ways (is_packet kind bs) ((packet_exactly kind bs).1 p.0) f))

-- -- The header

pub header_refusals : (kind : ℕ) (bs : List ℕ) → HeaderRefusals kind bs
unfolding header_of
header_refusals kind bs = record {
  answers = Iff.trans
      (number_exactly kind bs number (header_shown bs) (no_header 5) refl 0 (λ e. omega arith) Iff.rfl)
      (λ p. p.0, λ p. (p, refl));
  no_packet = five_exactly kind bs number (header_shown bs) (no_header 5) refl (λ e. omega arith);
}
  where
    number : PacketHeader → ℕ
    number answer = answer.refusal

-- -- Records

pub record_refusals : (kind : ℕ) (bs : List ℕ) (j : ℕ) → RecordRefusals kind bs j
unfolding record_of record_read
record_refusals kind bs j = record {
  answers = number_exactly kind bs number (record_read bs j) (no_record 5) refl 0 (λ e. omega arith)
      (Iff.trans (first_exactly number below shown (no_record 6) 0 refl (λ e. omega arith)) (ltb-true j k, lt-ltb j k));
  no_packet = five_exactly kind bs number (record_read bs j) (no_record 5) refl
      (neither number below shown (no_record 6) 5 (λ e. omega arith) (λ e. omega arith));
  over = number_exactly kind bs number (record_read bs j) (no_record 5) refl 6 (λ e. omega arith)
      (Iff.trans (second_exactly number below shown (no_record 6) 6 refl (λ e. omega arith)) (ltb-false j k, le-ltb j k));
}
  where
    number : PacketRecord → ℕ
    number answer = answer.refusal

    k : ℕ
    k = records_of bs

    below : Bool
    below = ltb j k

    shown : PacketRecord
    shown = record_shown bs (record_at bs j 40)

-- -- Steps

pub step_refusals : (kind : ℕ) (bs : List ℕ) (at : ℕ) → StepRefusals kind bs at
unfolding step_of step_read
step_refusals kind bs at = record {
  answers = number_exactly kind bs number (step_read bs at) (no_step at 5) refl 0 (λ e. omega arith)
      (Iff.trans (first_exactly number here (step_shown bs at) (no_step at 6) 0 refl (λ e. omega arith)) starts);
  no_packet = five_exactly kind bs number (step_read bs at) (no_step at 5) refl
      (neither number here (step_shown bs at) (no_step at 6) 5 (λ e. omega arith) (λ e. omega arith));
  nowhere = number_exactly kind bs number (step_read bs at) (no_step at 5) refl 6 (λ e. omega arith)
      (Iff.trans (second_exactly number here (step_shown bs at) (no_step at 6) 6 refl (λ e. omega arith)) (false_exactly starts));
}
  where
    number : PacketStep → ℕ
    number answer = answer.refusal

    here : Bool
    here = starts_among bs (records_of bs) 40 at

    starts : (starts_among bs (records_of bs) 40 at ≡ true) ↔ RecordStarts bs at
    starts = starts_exactly bs (records_of bs) 40 at

-- -- The points

found_has : (bs : List ℕ) (q : ℕ) → point_record bs ≡ Some q → HasPoints bs
found_has bs q a = let f = found_first 1 bs (records_of bs) 40 q a in (f.0, f.1.below, f.1.here)

missing_lacks : (bs : List ℕ) → point_record bs ≡ None → HasPoints bs → ⊥
missing_lacks bs m h = missing_none 1 bs (records_of bs) 40 m h.0 h.1 h.2

pub points_refusals : (bs : List ℕ) → PointsRefusals bs
unfolding points_of
points_refusals bs = record {
  answers = number_exactly 16 bs refusal_number (points_read bs) refused refl 0 (λ e. omega arith) (zero_exactly (point_record bs) refl);
  no_packet = five_exactly 16 bs refusal_number (points_read bs) refused refl (not_five (point_record bs));
  none = number_exactly 16 bs refusal_number (points_read bs) refused refl 7 (λ e. omega arith) (seven_exactly (point_record bs) refl);
}
  where
    refused : Result Points Refusal
    refused = Err NotOneFrame

    zero_exactly : (f : Option ℕ) → point_record bs ≡ f → (refusal_number (points_found (objects_of bs) f) ≡ 0) ↔ HasPoints bs
    zero_exactly (Some q) a = (λ h. found_has bs q a, λ h. refl)
    zero_exactly None m = (λ h. absurd (omega arith), λ h. absurd (missing_lacks bs m h))

    seven_exactly : (f : Option ℕ) → point_record bs ≡ f → (refusal_number (points_found (objects_of bs) f) ≡ 7) ↔ (HasPoints bs → ⊥)
    seven_exactly (Some q) a = (λ h. absurd (omega arith), λ n. absurd (n (found_has bs q a)))
    seven_exactly None m = (λ h. missing_lacks bs m, λ n. refl)

    not_five : (f : Option ℕ) → refusal_number (points_found (objects_of bs) f) ≡ 5 → ⊥
    not_five (Some q) h = omega arith
    not_five None h = omega arith

-- -- A point

-- a coordinate refuses 30 or more
coordinate_number : (edition b : ℕ) → ((millimetres edition b).refusal ≡ 0 → ⊥) → 30 ≤ (millimetres edition b).refusal
unfolding millimetres coordinate
coordinate_number edition b n = test (is_edition edition)
    (λ e. test (not_finite b)
    (λ y. rw (e, y) (omega arith))
    (λ f. test (ltb (1000 * 2 ^ 150) (magnitude b)) (λ y. rw (e, f, y) (omega arith)) (λ g. absurd (n (rw (e, f, g) refl)))))
    (λ e. rw e (omega arith))

-- the coordinates of the point in the 16 bytes from p on
module _ (edition : ℕ) (bs : List ℕ) (p : ℕ) where
  abbrev x : Quantity
  x = millimetres edition (word_at bs p)

  abbrev y : Quantity
  y = millimetres edition (word_at bs (p + 4))

  abbrev z : Quantity
  z = millimetres edition (word_at bs (p + 8))

  -- a point refuses 30 or more
  point_number : ((point_at edition bs p).refusal ≡ 0 → ⊥) → 30 ≤ (point_at edition bs p).refusal
  unfolding point_at point_from
  point_number n = test (eqb x.refusal 0)
      (λ a. test (eqb y.refusal 0)
      (λ b. test (eqb z.refusal 0)
      (λ c. absurd (n (rw (a, b, c) refl)))
      (λ c. rw (a, b, c) (coordinate_number edition (word_at bs (p + 8)) (eqb-false z.refusal 0 c))))
      (λ b. rw (a, b) (coordinate_number edition (word_at bs (p + 4)) (eqb-false y.refusal 0 b))))
      (λ a. rw a (coordinate_number edition (word_at bs p) (eqb-false x.refusal 0 a)))

  -- that is, no number between
  point_not : (n : ℕ) → 0 < n → n < 30 → (point_at edition bs p).refusal ≡ n → ⊥
  point_not n a b h = let l = point_number (λ e. omega arith) in omega arith

  -- and none exactly if its three coordinates have values
  measured_exactly : ((point_at edition bs p).refusal ≡ 0) ↔ Measured edition bs p
  unfolding point_at point_from
  measured_exactly = (to, λ m. rw (eq-eqb x.refusal 0 m.x, eq-eqb y.refusal 0 m.y, eq-eqb z.refusal 0 m.z) refl)
    where
      to : (point_at edition bs p).refusal ≡ 0 → Measured edition bs p
      to h = test (eqb x.refusal 0)
          (λ a. test (eqb y.refusal 0)
          (λ b. test (eqb z.refusal 0)
          (λ c. record { x = eqb-true x.refusal 0 a; y = eqb-true y.refusal 0 b; z = eqb-true z.refusal 0 c })
          (λ c. absurd (eqb-false z.refusal 0 c (rw (a, b, c) at h))))
          (λ b. absurd (eqb-false y.refusal 0 b (rw (a, b) at h))))
          (λ a. absurd (eqb-false x.refusal 0 a (rw a at h)))

  -- 32 exactly if there is no such edition: then X is refused with it
  unnamed_exactly : ((point_at edition bs p).refusal ≡ 32) ↔ (Edition edition → ⊥)
  unfolding point_at point_from
  unnamed_exactly = (to, λ n. let e = (millimetres_32 edition (word_at bs p)).1 n in rw (ne_eqb x.refusal 0 (λ f. omega arith)) e)
    where
      to : (point_at edition bs p).refusal ≡ 32 → Edition edition → ⊥
      to h = test (eqb x.refusal 0)
          (λ a. test (eqb y.refusal 0)
          (λ b. test (eqb z.refusal 0)
          (λ c. let e : ◌≡◌ {A = ℕ} 0 32 = rw (a, b, c) at h in absurd (omega arith))
          (λ c. (millimetres_32 edition (word_at bs (p + 8))).0 (rw (a, b, c) at h)))
          (λ b. (millimetres_32 edition (word_at bs (p + 4))).0 (rw (a, b) at h)))
          (λ a. (millimetres_32 edition (word_at bs p)).0 (rw a at h))

-- one record alone is the first of a type
first_once : {type : ℕ} {bs : List ℕ} {k p i j : ℕ} → IsFirst type bs k p i → IsFirst type bs k p j → i ≡ j
first_once {i = i} {j = j} f g = go (dec_lt i j) (dec_lt j i)
  where
    go : Dec (i < j) → Dec (j < i) → i ≡ j
    go (yes l) d = absurd (g.before i l f.here)
    go (no n) (yes l) = absurd (f.before j l g.here)
    go (no n) (no m) = omega arith

module _ (edition : ℕ) (bs : List ℕ) (i : ℕ) where
  abbrev found : Option ℕ → ℕ
  found f = (point_found edition bs (objects_of bs) i f).refusal

  -- a number below 30 that only the index gives
  six_exactly : (f : Option ℕ) → point_record bs ≡ f → (found f ≡ 6) ↔ (HasPoints bs × (objects_of bs ≤ i))
  six_exactly (Some q) a = Iff.trans
      (second_exactly (λ (x : PacketPoint). x.refusal) (ltb i (objects_of bs)) (point_at edition bs (q + 8 + 16 * i)) (no_point 6) 6 refl
      (point_not edition bs (q + 8 + 16 * i) 6 (omega arith) (omega arith)))
      (λ h. (found_has bs q a, ltb-false i (objects_of bs) h), λ h. le-ltb i (objects_of bs) h.1)
  six_exactly None m = (λ h. absurd (omega arith), λ h. absurd (missing_lacks bs m h.0))

  not_of_record : (q n : ℕ) → 0 < n → n < 30 → (n ≡ 6 → ⊥) → found (Some q) ≡ n → ⊥
  not_of_record q n a b m =
      neither (λ (x : PacketPoint). x.refusal) (ltb i (objects_of bs)) (point_at edition bs (q + 8 + 16 * i)) (no_point 6) n
      (point_not edition bs (q + 8 + 16 * i) n a b) (λ e. m (sym e))

  seven_exactly : (f : Option ℕ) → point_record bs ≡ f → (found f ≡ 7) ↔ (HasPoints bs → ⊥)
  seven_exactly (Some q) a =
      (λ h. absurd (not_of_record q 7 (omega arith) (omega arith) (λ e. omega arith) h), λ n. absurd (n (found_has bs q a)))
  seven_exactly None m = (λ h. missing_lacks bs m, λ n. refl)

  not_five : (f : Option ℕ) → found f ≡ 5 → ⊥
  not_five (Some q) h = not_of_record q 5 (omega arith) (omega arith) (λ e. omega arith) h
  not_five None h = omega arith

  unnamed : (f : Option ℕ) → point_record bs ≡ f → (found f ≡ 32) ↔ (HasPoints bs × (i < objects_of bs) × (Edition edition → ⊥))
  unnamed None m = (λ h. absurd (omega arith), λ h. absurd (missing_lacks bs m h.0))
  unnamed (Some q) a = (to, from)
    where
      to : (cond (ltb i (objects_of bs)) (point_at edition bs (q + 8 + 16 * i)) (no_point 6)).refusal ≡ 32
          → HasPoints bs × (i < objects_of bs) × (Edition edition → ⊥)
      to h = test (ltb i (objects_of bs))
          (λ l. (found_has bs q a, ltb-true i (objects_of bs) l, (unnamed_exactly edition bs (q + 8 + 16 * i)).0 (rw l at h)))
          (λ n. let e : ◌≡◌ {A = ℕ} 6 32 = rw n at h in absurd (omega arith))

      from : HasPoints bs × (i < objects_of bs) × (Edition edition → ⊥)
          → (cond (ltb i (objects_of bs)) (point_at edition bs (q + 8 + 16 * i)) (no_point 6)).refusal ≡ 32
      from h = rw (lt-ltb i (objects_of bs) h.1) ((unnamed_exactly edition bs (q + 8 + 16 * i)).1 h.2)

  zero_exactly : (f : Option ℕ) → point_record bs ≡ f → (found f ≡ 0) ↔ PointThere edition bs i
  zero_exactly None m =
      (λ h. absurd (omega arith), λ t. absurd (missing_lacks bs m (t.place, t.first.below, t.first.here)))
  zero_exactly (Some q) a = (to, from)
    where
      first : (j : ℕ) × IsFirst 1 bs (records_of bs) 40 j × (q ≡ record_at bs j 40)
      first = found_first 1 bs (records_of bs) 40 q a

      to : (cond (ltb i (objects_of bs)) (point_at edition bs (q + 8 + 16 * i)) (no_point 6)).refusal ≡ 0 → PointThere edition bs i
      to h = test (ltb i (objects_of bs))
          (λ l. record {
            place = first.0;
            first = first.1;
            below = ltb-true i (objects_of bs) l;
            measured = rw first.2 at ((measured_exactly edition bs (q + 8 + 16 * i)).0 (rw l at h));
          })
          (λ n. let e : ◌≡◌ {A = ℕ} 6 0 = rw n at h in absurd (omega arith))

      from : PointThere edition bs i → (cond (ltb i (objects_of bs)) (point_at edition bs (q + 8 + 16 * i)) (no_point 6)).refusal ≡ 0
      from t =
          let e : record_at bs t.place 40 ≡ q = ap (λ (j : ℕ). record_at bs j 40) (first_once t.first first.1) ∙ sym first.2 in
          rw (lt-ltb i (objects_of bs) t.below) ((measured_exactly edition bs (q + 8 + 16 * i)).1 (rw e at t.measured))

pub point_refusals : (edition : ℕ) (bs : List ℕ) (i : ℕ) → PointRefusals edition bs i
unfolding point_of
point_refusals edition bs i = record {
  answers = number_exactly 16 bs number read (no_point 5) refl 0 (λ e. omega arith) (zero_exactly edition bs i (point_record bs) refl);
  no_packet = five_exactly 16 bs number read (no_point 5) refl (not_five edition bs i (point_record bs));
  none = number_exactly 16 bs number read (no_point 5) refl 7 (λ e. omega arith) (seven_exactly edition bs i (point_record bs) refl);
  over = number_exactly 16 bs number read (no_point 5) refl 6 (λ e. omega arith) (six_exactly edition bs i (point_record bs) refl);
  no_edition = number_exactly 16 bs number read (no_point 5) refl 32 (λ e. omega arith) (unnamed edition bs i (point_record bs) refl);
}
  where
    read : PacketPoint
    read = point_read edition bs i

    number : PacketPoint → ℕ
    number answer = answer.refusal
