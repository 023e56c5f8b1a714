-- What the readers' definitions say together: what is found is the first record of its type, and steps from 40 give the records one by one.
use mathlib.Core.Bool.{true, false}
use mathlib.Core.Path.{◌≡◌, refl, sym, ap, ◌∙◌}
use mathlib.Core.Logic.{◌↔◌}
use mathlib.Core.List.{List}
use Prim.Native.Nat.{ℕ, zero, suc, ◌+◌, ◌*◌, ◌<◌, ◌≤◌}
use native.Mathlib.Omega.{arith}
use lib.Dec.{eqb}
use borrow.Author.Tests.{lt-ltb, eq-eqb, ne_eqb, eqb-true}
use Rattle.digits.proofs.Choices.{test, both_ways}
use Rattle.std.specs.declared.option.Option.TheVariants.{Some, None}
use Rattle.packet.specs.declared.PacketStep.{PacketStep}
use Rattle.packet.specs.Steps.{step_over, cursor_after, StepsAreRecords}
use Rattle.packet.specs.Walk.{records_of, type_at, end_at, record_at, starts_among, first_of_type, IsFirst}
use Rattle.packet.specs.Fields.{is_packet, record_read, record_of, no_step, step_shown, step_read, step_of}

-- -- The first record of a type

-- what is found is the first record of the type
pub found_first : (type : ℕ) (bs : List ℕ) (k p q : ℕ) → first_of_type type bs k p ≡ Some q
    → (j : ℕ) × IsFirst type bs k p j × (q ≡ record_at bs j p)
unfolding first_of_type record_at
found_first type bs zero p q h = let z : ◌≡◌ {A = ℕ} 0 1 = cc in absurd (omega arith)
found_first type bs (suc k) p q h =
    test (eqb (type_at bs p) type) (λ y. here y (rw y at h)) (λ n. later n (found_first type bs k (end_at bs p) q (rw n at h)))
  where
    here : eqb (type_at bs p) type ≡ true → Some p ≡ Some q → (j : ℕ) × IsFirst type bs (suc k) p j × (q ≡ record_at bs j p)
    here y e = (0, record { below = omega arith; here = eqb-true (type_at bs p) type y; before = λ i l x. omega arith }, cc)

    later : eqb (type_at bs p) type ≡ false → ((j : ℕ) × IsFirst type bs k (end_at bs p) j × (q ≡ record_at bs j (end_at bs p)))
        → (j : ℕ) × IsFirst type bs (suc k) p j × (q ≡ record_at bs j p)
    later n (j, f, e) = (suc j, record { below = let b = f.below in omega arith; here = f.here; before = not_before }, e)
      where
        not_before : (i : ℕ) → i < suc j → type_at bs (record_at bs i p) ≡ type → ⊥
        not_before zero l x = both_ways (eqb (type_at bs p) type) (eq-eqb (type_at bs p) type x) n
        not_before (suc i) l x = f.before i (omega arith) x

-- where none is found, no record has the type
pub missing_none : (type : ℕ) (bs : List ℕ) (k p : ℕ) → first_of_type type bs k p ≡ None
    → (j : ℕ) → j < k → type_at bs (record_at bs j p) ≡ type → ⊥
unfolding first_of_type record_at
missing_none type bs zero p h j l x = omega arith
missing_none type bs (suc k) p h zero l x =
    let e : Some p ≡ None = rw (eq-eqb (type_at bs p) type x) at h in
    let z : ◌≡◌ {A = ℕ} 0 1 = cc in
    omega arith
missing_none type bs (suc k) p h (suc j) l x = test (eqb (type_at bs p) type)
    (λ y. let e : Some p ≡ None = rw y at h in let z : ◌≡◌ {A = ℕ} 0 1 = cc in omega arith)
    (λ n. missing_none type bs k (end_at bs p) (rw n at h) j (omega arith) x)

-- -- Steps

-- the next record starts right behind record j
pub record_behind : (bs : List ℕ) (j p : ℕ) → record_at bs (suc j) p ≡ end_at bs (record_at bs j p)
unfolding record_at
record_behind bs zero p = refl
record_behind bs (suc j) p = record_behind bs j (end_at bs p)

-- a walk never goes back
record_forward : (bs : List ℕ) (j p : ℕ) → p + 8 * j ≤ record_at bs j p
unfolding record_at
record_forward bs zero p = omega arith
record_forward bs (suc j) p = let h = record_forward bs j (end_at bs p) in omega arith

-- record j of k starts where it starts
record_starts : (bs : List ℕ) (j k p : ℕ) → j < k → starts_among bs k p (record_at bs j p) ≡ true
unfolding starts_among record_at
record_starts bs j zero p l = absurd (omega arith)
record_starts bs zero (suc k) p l = rw (eq-eqb p p refl) refl
record_starts bs (suc j) (suc k) p l = let h = record_forward bs j (end_at bs p) in
    rw (ne_eqb p (record_at bs j (end_at bs p)) (λ e. omega arith)) (record_starts bs j k (end_at bs p) (omega arith))

-- no record starts at the end of the last one
none_at_end : (bs : List ℕ) (k p : ℕ) → starts_among bs k p (record_at bs k p) ≡ false
unfolding starts_among record_at
none_at_end bs zero p = refl
none_at_end bs (suc k) p = let h = record_forward bs k (end_at bs p) in
    rw (ne_eqb p (record_at bs k (end_at bs p)) (λ e. omega arith)) (none_at_end bs k (end_at bs p))

-- where some record of the walk starts, it is record j for some j
start_is_record : (bs : List ℕ) (k p at : ℕ) → starts_among bs k p at ≡ true → (j : ℕ) × (j < k) × (at ≡ record_at bs j p)
unfolding starts_among record_at
start_is_record bs zero p at h = let z : ◌≡◌ {A = ℕ} 0 1 = cc in absurd (omega arith)
start_is_record bs (suc k) p at h =
    test (eqb p at) (λ y. (0, omega arith, sym (eqb-true p at y))) (λ n. behind (start_is_record bs k (end_at bs p) at (rw n at h)))
  where
    behind : ((j : ℕ) × (j < k) × (at ≡ record_at bs j (end_at bs p))) → (j : ℕ) × (j < suc k) × (at ≡ record_at bs j p)
    behind (j, l, e) = (suc j, omega arith, e)

-- a record of the packet starts at an offset exactly if it is 40 or the end of an earlier record, that is the start of record j for some
-- j below the count
pub starts_exactly : (bs : List ℕ) (k p at : ℕ) → (starts_among bs k p at ≡ true) ↔ ((j : ℕ) × (j < k) × (at ≡ record_at bs j p))
starts_exactly bs k p at = (start_is_record bs k p at, λ r. rw r.2 (record_starts bs r.0 k p r.1))

module _ (kind : ℕ) (bs : List ℕ) (y : is_packet kind bs ≡ true) where
  step_at : (j : ℕ) → j < records_of bs → step_of kind bs (record_at bs j 40) ≡ step_shown bs (record_at bs j 40)
  unfolding step_of step_read
  step_at j l = rw (y, record_starts bs j (records_of bs) 40 l) refl

  -- after j steps, up to the count, the cursor is at record j
  after_steps : (j : ℕ) → j ≤ records_of bs → cursor_after kind bs j ≡ record_at bs j 40
  unfolding cursor_after record_at
  after_steps zero l = refl
  after_steps (suc j) l =
      ap (λ (p : ℕ). (step_of kind bs p).next.at) (after_steps j (omega arith))
      ∙ ap (λ (s : PacketStep). s.next.at) (step_at j (omega arith))
      ∙ sym (record_behind bs j 40)

  step_each : (j : ℕ) → j < records_of bs
      → step_of kind bs (cursor_after kind bs j) ≡ step_over (record_of kind bs j) (cursor_after kind bs (suc j))
  unfolding record_of record_read
  step_each j l =
      rw (after_steps j (omega arith), after_steps (suc j) (omega arith), step_at j l, y, lt-ltb j (records_of bs) l, record_behind bs j 40)
      refl

  step_end : step_of kind bs (cursor_after kind bs (records_of bs)) ≡ no_step (cursor_after kind bs (records_of bs)) 6
  unfolding step_of step_read
  step_end = rw (after_steps (records_of bs) (omega arith), y, none_at_end bs (records_of bs) 40) refl

-- stepping from 40 gives record 0, 1, .. K - 1, and then 6
pub steps_are_records : (kind : ℕ) (bs : List ℕ) → is_packet kind bs ≡ true → StepsAreRecords kind bs
steps_are_records kind bs y = record { each = step_each kind bs y; then_refused = step_end kind bs y }
