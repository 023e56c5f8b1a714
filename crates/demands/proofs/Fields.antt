-- The refusals of a packet's fields (specs/Demand1.antt): 5 by the test of the slice, then those of the answer on a packet.
use mathlib.Core.Path.{◌≡◌, refl, ap, ◌∙◌}
use mathlib.Core.List.{List}
use mathlib.Core.Logic.{inl, inr}
use Prim.Native.Nat.{ℕ, ◌+◌, ◌<◌}
use lib.Dec.{eqb, ltb}
use borrow.Author.Tests.{eqb-true, eqb-false}
use Rattle.digits.specs.LittleEndian.{word_at}
use Rattle.digits.proofs.Choices.{test, both_ways}
use Rattle.units.specs.declared.Quantity.{Quantity}
use Rattle.units.specs.Units.{millimetres}
use Rattle.std.specs.declared.option.Option.{Option}
use Rattle.std.specs.declared.option.Option.TheVariants.{Some, None}
use Rattle.packet.specs.declared.PacketHeader.{PacketHeader}
use Rattle.packet.specs.declared.PacketRecord.{PacketRecord}
use Rattle.packet.specs.declared.PacketStep.{PacketStep}
use Rattle.refusals.specs.Numbers.{refusal_number}
use Rattle.packet.specs.declared.PacketPoint.{PacketPoint}
use Rattle.packet.specs.Walk.{objects_of, records_of, starts_among}
use Rattle.packet.specs.Fields.{is_packet, no_header, header_of, no_record, record_read, record_of, no_step, step_read, step_of}
use Rattle.packet.specs.Fields.{points_found, point_record, points_of, no_point, point_from, point_at}
use Rattle.packet.specs.Refusals.{RecordStarts, HasPoints}
use Rattle.packet.proofs.Opened.{packet_exactly}
use Rattle.packet.proofs.Theorems.{found_first, missing_none, starts_exactly}
use Rattle.demands.specs.Words.{Said, none, ◌when◌else◌, ◌unless◌else◌, Refuses}
use Rattle.demands.specs.Demand1 as say
use Rattle.demands.proofs.InOrder.{less_exactly, fine, zeros_beside, unless_test}

-- -- Header, records and steps

pub header_refuses : say.HeaderRefuses
unfolding header_of
header_refuses kind bs =
    unless_test no_header (λ (a : PacketHeader). a.refusal) (λ n. refl) none 5 (is_packet kind bs) (packet_exactly kind bs)
    (header_of kind bs)
    (λ f. rw f) (λ y. fine no_header (λ (a : PacketHeader). a.refusal) (λ n. refl) (header_of kind bs) (rw y))

pub record_refuses : say.RecordRefuses
unfolding record_of record_read
record_refuses kind bs j =
    unless_test no_record (λ (a : PacketRecord). a.refusal) (λ n. refl) (6 unless (j < records_of bs) else none) 5
    (is_packet kind bs) (packet_exactly kind bs) (record_of kind bs j) (λ f. rw f)
    (λ y.
    unless_test no_record (λ (a : PacketRecord). a.refusal) (λ n. refl) none 6
    (ltb j (records_of bs)) (less_exactly j (records_of bs)) (record_of kind bs j) (λ f. rw (y, f))
    (λ below. fine no_record (λ (a : PacketRecord). a.refusal) (λ n. refl) (record_of kind bs j) (rw (y, below))))

pub step_refuses : say.StepRefuses
unfolding step_of step_read
step_refuses kind bs at =
    unless_test (no_step at) (λ (a : PacketStep). a.refusal) (λ n. refl) (6 unless (RecordStarts bs at) else none) 5
    (is_packet kind bs) (packet_exactly kind bs) (step_of kind bs at) (λ f. rw f)
    (λ y.
    unless_test (no_step at) (λ (a : PacketStep). a.refusal) (λ n. refl) none 6
    (starts_among bs (records_of bs) 40 at) (starts_exactly bs (records_of bs) 40 at) (step_of kind bs at) (λ f. rw (y, f))
    (λ here. fine (no_step at) (λ (a : PacketStep). a.refusal) (λ n. refl) (step_of kind bs at) (rw (y, here))))

-- -- Points

found_has : (bs : List ℕ) (q : ℕ) → point_record bs ≡ Some q → HasPoints bs
found_has bs q a = let f = found_first 1 bs (records_of bs) 40 q a in (f.0, f.1.below, f.1.here)

missing_lacks : (bs : List ℕ) → point_record bs ≡ None → HasPoints bs → ⊥
missing_lacks bs m h = missing_none 1 bs (records_of bs) 40 m h.0 h.1 h.2

-- an answer on points: 7 where no record is found, else what is said of the record
by_record : {A : Type 0} (zeros : ℕ → A) (number : A → ℕ) (numbered : (n : ℕ) → number (zeros n) ≡ n) (others : Said) (bs : List ℕ)
    (read : Option ℕ → A) → read None ≡ zeros 7 → ((q : ℕ) → point_record bs ≡ Some q → Refuses others zeros number (read (Some q)))
    → Refuses (7 unless (HasPoints bs) else others) zeros number (read (point_record bs))
by_record {A = A} zeros number numbered others bs read lacks there = go (point_record bs) refl
  where
    go : (f : Option ℕ) → point_record bs ≡ f → Refuses (7 unless (HasPoints bs) else others) zeros number (read f)
    go (Some q) a = let r = there q a in record { in_order = inr (found_has bs q a, r.in_order); every_other_0 = r.every_other_0 }
    go None m =
        zeros_beside zeros number numbered (7 unless (HasPoints bs) else others) 7 (read None) lacks
        (inl (missing_lacks bs m, ap number lacks ∙ numbered 7))

pub points_refuse : say.PointsRefuse
unfolding points_of
points_refuse bs = test (is_packet 16 bs)
    (λ y. rw y (inr ((packet_exactly 16 bs).0 y, by_found (point_record bs) refl)))
    (λ f. rw f (inl ((λ p. both_ways (is_packet 16 bs) ((packet_exactly 16 bs).1 p) f), refl)))
  where
    by_found : (f : Option ℕ) → point_record bs ≡ f → (7 unless (HasPoints bs) else none) (refusal_number (points_found (objects_of bs) f))
    by_found (Some q) a = inr (found_has bs q a, refl)
    by_found None m = inl (missing_lacks bs m, refl)

-- -- One point

-- the coordinates of the point in the 16 bytes from p on
module _ (edition : ℕ) (bs : List ℕ) (p : ℕ) where
  abbrev x : Quantity
  x = millimetres edition (word_at bs p)

  abbrev y : Quantity
  y = millimetres edition (word_at bs (p + 4))

  abbrev z : Quantity
  z = millimetres edition (word_at bs (p + 8))

  -- what holds of a coordinate that is refused and of a point that is none holds of the point: it is one of these
  by_coordinate : (P : PacketPoint → Type 0)
      → ((x.refusal ≡ 0 → ⊥) → P (no_point x.refusal))
      → (x.refusal ≡ 0 → (y.refusal ≡ 0 → ⊥) → P (no_point y.refusal))
      → (x.refusal ≡ 0 → y.refusal ≡ 0 → (z.refusal ≡ 0 → ⊥) → P (no_point z.refusal))
      → ((a : PacketPoint) → x.refusal ≡ 0 → y.refusal ≡ 0 → z.refusal ≡ 0 → a.refusal ≡ 0 → P a)
      → P (point_at edition bs p)
  unfolding point_at point_from
  by_coordinate P at_first at_second at_third given = test (eqb x.refusal 0)
      (λ a. test (eqb y.refusal 0)
      (λ b. test (eqb z.refusal 0)
      (λ c. rw (a, b, c) (given _ (eqb-true x.refusal 0 a) (eqb-true y.refusal 0 b) (eqb-true z.refusal 0 c) refl))
      (λ c. rw (a, b, c) (at_third (eqb-true x.refusal 0 a) (eqb-true y.refusal 0 b) (eqb-false z.refusal 0 c))))
      (λ b. rw (a, b) (at_second (eqb-true x.refusal 0 a) (eqb-false y.refusal 0 b))))
      (λ a. rw a (at_first (eqb-false x.refusal 0 a)))
