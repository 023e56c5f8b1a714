-- T frames by the form and block by block are the same: each block is a target by its classes, or fourteen bytes of value 0.
use mathlib.Core.Bool.{Bool, true, false, cond}
use mathlib.Core.Path.{◌≡◌, refl, sym, ap, subst, ◌∙◌}
use mathlib.Core.List.{List}
use mathlib.Core.Logic.{◌↔◌, ◌⊎◌, inl, inr}
use Prim.Native.Nat.{ℕ, suc, ◌+◌, ◌-◌, ◌*◌, ◌/◌, ◌%◌, ◌<◌, ◌≤◌}
use native.Mathlib.Decide.{dec_lt, dec_le}
use native.Mathlib.Omega.{arith}
use borrow.Author.Tests.{eq-eqb, ne_eqb, eqb-true, eqb-false, ltb-true, ltb-false}
use lib.Dec.{eqb, leb, ltb}
use lib.ListN.{length, get_or}
use Rattle.digits.specs.Bytes.{is_hex, is_character}
use Rattle.digits.specs.Hex.{hex_at}
use Rattle.digits.proofs.Choices.{test, both_ways}
use Rattle.form.specs.declared.Judgement.TheVariants.{Bad}
use Rattle.form.specs.Form.{judge, Frame}
use Rattle.sirad.specs.Classes.{Class, Hex, Char, Zero, Cr, Lf, accepts, reason}
use Rattle.sirad.specs.Sirad.{sirad}
use Rattle.sirad.specs.Table.{target_class, block_start, block_class, class_at, BrokenBlock, FirstFails, Refused, no_start, no_identifier}
use Rattle.sirad.specs.Table.{no_member, total, TableFrame, ZeroBlock, TargetBlock, BlockFrame}
use Rattle.sirad.proofs.TableLaws.{block_at, table_is_form}
use Rattle.sirad.proofs.Reasons.{bad_by_table}

-- -- Places behind the identifier

-- one of the four bytes outside of the blocks: format, gain, the stop marker
abbrev Outside : ℕ → Type 0
Outside i = (i ≡ 2) ⊎ ((i ≡ 3) ⊎ ((i ≡ 228) ⊎ (i ≡ 229)))

above : (i n : ℕ) → n ≤ i → (i ≡ n → ⊥) → suc n ≤ i
above i n l d = go (dec_le i n)
  where
    go : Dec (i ≤ n) → suc n ≤ i
    go (yes k) = absurd (d (omega arith))
    go (no k) = omega arith

following : (i n : ℕ) → (i ≡ n → ⊥) → n ≤ i → i < suc (suc n) → i ≡ suc n
following i n d l h = omega (arith, above i n l d)

outside : (i : ℕ) → 2 ≤ i → i < 230 → (i < 4) ⊎ (228 ≤ i) → Outside i
outside i l h (inl a) = test (eqb i 2) (λ t. inl (eqb-true i 2 t)) (λ t. inr (inl (following i 2 (eqb-false i 2 t) l (omega arith))))
outside i l h (inr a) =
    test (eqb i 228) (λ t. inr (inr (inl (eqb-true i 228 t)))) (λ t. inr (inr (inr (following i 228 (eqb-false i 228 t) a (omega arith)))))

module _ (bs : List ℕ) where
  -- byte i is of the class that the table gives it
  abbrev Taken : ℕ → Type 0
  Taken i = accepts (class_at 4 230 bs i) (get_or bs i 0) ≡ true

  -- every byte from the format up to byte n is
  abbrev TakenUp : ℕ → Type 0
  TakenUp n = (i : ℕ) → 2 ≤ i → i < n → Taken i

  format_taken : Taken 2 ↔ (is_hex (get_or bs 2 0) ≡ true)
  unfolding class_at
  format_taken = ((λ a. a), (λ a. a))

  gain_taken : Taken 3 ↔ (is_character (get_or bs 3 0) ≡ true)
  unfolding class_at
  gain_taken = ((λ a. a), (λ a. a))

  cr_taken : Taken 228 ↔ (get_or bs 228 0 ≡ 13)
  unfolding class_at
  cr_taken = ((λ a. eqb-true (get_or bs 228 0) 13 a), (λ e. eq-eqb (get_or bs 228 0) 13 e))

  lf_taken : Taken 229 ↔ (get_or bs 229 0 ≡ 10)
  unfolding class_at
  lf_taken = ((λ a. eqb-true (get_or bs 229 0) 10 a), (λ e. eq-eqb (get_or bs 229 0) 10 e))

  -- -- One block

  -- the first byte of block q has value 0
  abbrev zero_first : ℕ → Bool
  zero_first q = eqb (get_or bs (4 + 14 * q) 0) 0

  -- byte j of block q, by the block's first byte
  taken_of : (n q j : ℕ) → TakenUp n → q < 16 → j < 14 → 4 + 14 * q + j < n
      → accepts (cond (zero_first q) Zero (target_class j)) (get_or bs (4 + 14 * q + j) 0) ≡ true
  taken_of n q j t h l k =
      ap (λ (c : Class). accepts c (get_or bs (4 + 14 * q + j) 0)) (block_at bs q j (4 + 14 * q + j) h l refl)
      ∙ t (4 + 14 * q + j) (omega arith) k

  -- a block that the table takes is of one of the two forms
  block_of : (n q : ℕ) → TakenUp n → q < 16 → 4 + 14 * q + 14 ≤ n → ZeroBlock bs q ⊎ TargetBlock bs q
  block_of n q t h k = test (zero_first q) (λ z. inl (zero z)) (λ z. inr (target z))
    where
      zero : zero_first q ≡ true → ZeroBlock bs q
      zero z j l = eqb-true (get_or bs (4 + 14 * q + j) 0) 0 (rw z at (taken_of n q j t h l (omega arith)))

      target : zero_first q ≡ false → TargetBlock bs q
      target z j l = rw z at (taken_of n q j t h l (omega arith))

  -- a target's first byte is a digit
  target_first : (q : ℕ) → TargetBlock bs q → zero_first q ≡ false
  target_first q t =
      let b = get_or bs (4 + 14 * q) 0 in
      let e : 4 + 14 * q + 0 ≡ 4 + 14 * q = omega arith in
      let h : is_hex (get_or bs (4 + 14 * q) 0) ≡ true = rw e at (t 0 (omega arith)) in
      test (eqb b 0) (λ z. both_ways (is_hex b) h (rw (eqb-true b 0 z))) (λ z. z)

  -- a byte of value 0 in a block whose first byte has it
  zero_taken : (q j i : ℕ) → q < 16 → j < 14 → i ≡ 4 + 14 * q + j → get_or bs (4 + 14 * q) 0 ≡ 0 → get_or bs i 0 ≡ 0 → Taken i
  zero_taken q j i h l e a b =
      let c : Zero ≡ class_at 4 230 bs i = rw (eq-eqb (get_or bs (4 + 14 * q) 0) 0 a) at (block_at bs q j i h l e) in
      ap (λ (c : Class). accepts c (get_or bs i 0)) (sym c) ∙ eq-eqb (get_or bs i 0) 0 b

  -- the bytes of a block of either form
  block_taken : (q j i : ℕ) → q < 16 → j < 14 → i ≡ 4 + 14 * q + j → ZeroBlock bs q ⊎ TargetBlock bs q → Taken i
  block_taken q j i h l e (inl z) =
      let o : 4 + 14 * q + 0 ≡ 4 + 14 * q = omega arith in
      zero_taken q j i h l e (rw o at (z 0 (omega arith))) (rw e (z j l))
  block_taken q j i h l e (inr t) =
      let c : target_class j ≡ class_at 4 230 bs i = rw (target_first q t) at (block_at bs q j i h l e) in
      ap (λ (c : Class). accepts c (get_or bs i 0)) (sym c) ∙ rw e (t j l)

  -- -- The whole frame

  table_blocks : TableFrame 4 bs → BlockFrame bs
  table_blocks f = record {
    size = f.size;
    start = f.start;
    named = f.named;
    format = format_taken.0 (all 2 (omega arith) (omega arith));
    gain = gain_taken.0 (all 3 (omega arith) (omega arith));
    block = λ q h. block_of 230 q all h (omega arith);
    cr = cr_taken.0 (all 228 (omega arith) (omega arith));
    lf = lf_taken.0 (all 229 (omega arith) (omega arith));
  }
    where
      all : TakenUp 230
      all i l h =
          let s : length bs ≡ 230 = f.size in
          ap (λ (n : ℕ). accepts (class_at 4 n bs i) (get_or bs i 0)) (sym s) ∙ f.each i l (omega arith)

  blocks_table : BlockFrame bs → TableFrame 4 bs
  blocks_table f = record { some = omega arith; most = omega arith; size = f.size; start = f.start; named = f.named; each = each }
    where
      fixed : (i : ℕ) → Outside i → Taken i
      fixed i (inl e) = rw e (format_taken.1 f.format)
      fixed i (inr (inl e)) = rw e (gain_taken.1 f.gain)
      fixed i (inr (inr (inl e))) = rw e (cr_taken.1 f.cr)
      fixed i (inr (inr (inr e))) = rw e (lf_taken.1 f.lf)

      taken : TakenUp 230
      taken i l h = go (dec_lt i 4) (dec_le 228 i)
        where
          go : Dec (i < 4) → Dec (228 ≤ i) → Taken i
          go (yes a) b = fixed i (outside i l h (inl a))
          go (no a) (yes b) = fixed i (outside i l h (inr b))
          go (no a) (no b) =
              block_taken ((i - 4) / 14) ((i - 4) % 14) i (omega arith) (omega arith) (omega arith) (f.block ((i - 4) / 14) (omega arith))

      each : (i : ℕ) → 2 ≤ i → i < length bs → accepts (class_at 4 (length bs) bs i) (get_or bs i 0) ≡ true
      each i l h = let s = f.size in ap (λ (n : ℕ). accepts (class_at 4 n bs i) (get_or bs i 0)) s ∙ taken i l (omega arith)

-- bytes are a T frame exactly if each of their blocks is a target or fourteen bytes of value 0
pub targets_by_blocks : (bs : List ℕ) → Frame sirad 4 bs ↔ BlockFrame bs
targets_by_blocks bs = ((λ f. table_blocks bs ((table_is_form 4 bs).0 f)), (λ f. (table_is_form 4 bs).1 (blocks_table bs f)))

-- -- Reason 17

-- the classes but the value 0
abbrev is_other : Class → Bool
is_other Hex = true
is_other Char = true
is_other Zero = false
is_other Cr = true
is_other Lf = true

not_zero : {A : Type 0} (c : Class) → is_other c ≡ true → c ≡ Zero → A
not_zero c t e = both_ways (is_other c) t (ap is_other e)

either_is : (t : Bool) (c d : Class) → is_other c ≡ true → is_other d ≡ true → is_other (cond t c d) ≡ true
either_is true c d x y = x
either_is false c d x y = y

target_is : (j : ℕ) → is_other (target_class j) ≡ true
target_is j =
    let rest = either_is (ltb j 10) Hex Char refl refl in
    either_is (ltb j 5) Hex _ refl (either_is (eqb j 5) Char _ refl rest)

-- only reason 17 is that of the value 0
reason_zero : (c : Class) → reason c ≡ 17 → c ≡ Zero
reason_zero Hex e = absurd (omega arith)
reason_zero Char e = absurd (omega arith)
reason_zero Zero e = refl
reason_zero Cr e = absurd (omega arith)
reason_zero Lf e = absurd (omega arith)

-- the value 0 is the class of bytes in T blocks whose first byte has it, and of no others
record InZeroBlock (kind size : ℕ) (bs : List ℕ) (i : ℕ) : Type 0 where
  targets : kind ≡ 4
  behind : 4 ≤ i
  before : i < size - 2
  first : get_or bs (block_start i) 0 ≡ 0

module _ (kind size : ℕ) (bs : List ℕ) (i : ℕ) where
  zero_in_blocks : eqb kind 4 ≡ true → ltb i (size - 2) ≡ true → cond (ltb i 3) Hex (cond (eqb i 3) Char (block_class bs i)) ≡ Zero
      → InZeroBlock kind size bs i
  zero_in_blocks k l h =
      test (ltb i 3) (λ t. not_zero Hex refl (rw t at h))
      (λ t. test (eqb i 3) (λ u. not_zero Char refl (rw (t, u) at h))
      (λ u. test (eqb (get_or bs (block_start i) 0) 0) (λ v. found t u v)
      (λ v. not_zero (target_class ((i - 4) % 14)) (target_is ((i - 4) % 14)) (rw (t, u, v) at h))))
    where
      found : ltb i 3 ≡ false → eqb i 3 ≡ false → eqb (get_or bs (block_start i) 0) 0 ≡ true → InZeroBlock kind size bs i
      found t u v =
          let a = ltb-false i 3 t in
          let b = eqb-false i 3 u in
          record {
            targets = eqb-true kind 4 k;
            behind = above i 3 a b;
            before = ltb-true i (size - 2) l;
            first = eqb-true (get_or bs (block_start i) 0) 0 v;
          }

  zero_class : class_at kind size bs i ≡ Zero → InZeroBlock kind size bs i
  unfolding class_at
  zero_class h =
      test (ltb i (size - 2)) inside (λ l. not_zero _ (either_is (eqb i (size - 2)) Cr Lf refl refl) (rw l at h))
    where
      inside : ltb i (size - 2) ≡ true → InZeroBlock kind size bs i
      inside l =
          test (leb kind 3) (λ a. not_zero _ (either_is (ltb i 6) Hex Char refl refl) (rw (l, a) at h))
          (λ a. test (eqb kind 4) (λ b. zero_in_blocks b l (rw (l, a, b) at h))
          (λ b. not_zero _ (either_is (eqb kind 5) _ Hex (either_is (eqb i 3) Char Hex refl refl) refl) (rw (l, a, b) at h)))

module _ (bs : List ℕ) where
  -- the first byte that fails, of the class of the value 0, breaks a block
  fails_broken : (at : ℕ) → FirstFails 4 230 at bs → get_or bs 0 0 ≡ 33 → get_or bs 1 0 ≡ 84 → InZeroBlock 4 230 bs at
      → (q : ℕ) × (j : ℕ) × BrokenBlock bs q j
  fails_broken at f s e z = (
    (at - 4) / 14,
    (at - 4) % 14,
    record {
      start = s;
      named = e;
      format = (format_taken bs).0 (up 2 (omega arith) (omega arith));
      gain = (gain_taken bs).0 (up 3 (omega arith) (omega arith));
      blocks = λ p h. block_of bs at p up (omega arith) (omega arith);
      one_of = omega arith;
      behind = above ((at - 4) % 14) 0 (omega arith) (λ o. breaks (rw o first_again));
      inside = omega arith;
      there = omega arith;
      zeros = zeros;
      breaks = breaks;
    },
  )
    where
      low : 4 ≤ at
      low = z.behind

      high : at < 228
      high = z.before

      up : TakenUp bs at
      up i l h = f.passed i l h

      place : at ≡ 4 + 14 * ((at - 4) / 14) + (at - 4) % 14
      place = omega (arith, low)

      zero_first_lem : zero_first bs ((at - 4) / 14) ≡ true
      zero_first_lem = eq-eqb (get_or bs (4 + 14 * ((at - 4) / 14)) 0) 0 z.first

      breaks : get_or bs (4 + 14 * ((at - 4) / 14) + (at - 4) % 14) 0 ≡ 0 → ⊥
      breaks o =
          let byte : get_or bs at 0 ≡ 0 = ap (λ (x : ℕ). get_or bs x 0) place ∙ o in
          let t = zero_taken bs ((at - 4) / 14) ((at - 4) % 14) at (omega (arith, high)) (omega arith) place z.first byte in
          both_ways (accepts (class_at 4 230 bs at) (get_or bs at 0)) t f.fails

      first_again : get_or bs (4 + 14 * ((at - 4) / 14) + 0) 0 ≡ 0
      first_again = let o : 4 + 14 * ((at - 4) / 14) + 0 ≡ 4 + 14 * ((at - 4) / 14) = omega arith in rw o z.first

      zeros : (i : ℕ) → i < (at - 4) % 14 → get_or bs (4 + 14 * ((at - 4) / 14) + i) 0 ≡ 0
      zeros i l =
          let t = taken_of bs at ((at - 4) / 14) i up (omega (arith, high)) (omega arith) (omega (arith, place)) in
          let u : accepts Zero (get_or bs (4 + 14 * ((at - 4) / 14) + i) 0) ≡ true = rw zero_first_lem at t in
          eqb-true (get_or bs (4 + 14 * ((at - 4) / 14) + i) 0) 0 u

  -- bytes that break a block are refused at the first that has another value
  broken_refused : (q j : ℕ) → BrokenBlock bs q j → Refused bs 17
  broken_refused q j b =
      subst (λ (c : Class). Refused bs (reason c)) (sym class)
      (no_member 4 (4 + 14 * q + j) (omega arith) (omega arith) b.start b.named fails)
    where
      first : get_or bs (4 + 14 * q) 0 ≡ 0
      first = let o : 4 + 14 * q + 0 ≡ 4 + 14 * q = omega arith in rw o at (b.zeros 0 b.behind)

      class : Zero ≡ class_at 4 230 bs (4 + 14 * q + j)
      class = rw (eq-eqb (get_or bs (4 + 14 * q) 0) 0 first) at (block_at bs q j (4 + 14 * q + j) b.one_of b.inside refl)

      passed : (i : ℕ) → 2 ≤ i → i < 4 + 14 * q + j → Taken bs i
      passed i l h = go (dec_lt i 4) (dec_lt ((i - 4) / 14) q)
        where
          go : Dec (i < 4) → Dec ((i - 4) / 14 < q) → Taken bs i
          go (yes a) d = test (eqb i 2) (λ t. let e = eqb-true i 2 t in rw e ((format_taken bs).1 b.format))
              (λ t. let e = following i 2 (eqb-false i 2 t) l (omega arith) in rw e ((gain_taken bs).1 b.gain))
          go (no a) (yes d) =
              let p = (i - 4) / 14 in
              let high = b.one_of in
              block_taken bs ((i - 4) / 14) ((i - 4) % 14) i (omega arith) (omega arith) (omega arith) (b.blocks p d)
          go (no a) (no d) =
              let inside = b.inside in
              let same : (i - 4) / 14 ≡ q = omega arith in
              let place : i ≡ 4 + 14 * q + (i - 4) % 14 = omega arith in
              let byte : get_or bs i 0 ≡ 0 = rw place (b.zeros ((i - 4) % 14) (omega arith)) in
              zero_taken bs q ((i - 4) % 14) i b.one_of (omega arith) place first byte

      fails : FirstFails 4 230 (4 + 14 * q + j) bs
      fails = record {
        behind = omega arith;
        there = b.there;
        inside = omega (arith, b.one_of, b.inside);
        passed = passed;
        fails = ap (λ (c : Class). accepts c (get_or bs (4 + 14 * q + j) 0)) (sym class) ∙ ne_eqb (get_or bs (4 + 14 * q + j) 0) 0 b.breaks;
      }

  refused_broken : (r : ℕ) → Refused bs r → r ≡ 17 → (q : ℕ) × (j : ℕ) × BrokenBlock bs q j
  refused_broken r (no_start h e) o = absurd (omega arith)
  refused_broken r (no_identifier h s n) o = absurd (omega arith)
  refused_broken r (no_member kind at l m s e f) o =
      let z = zero_class kind (total kind (hex_at 4 2 bs)) bs at (reason_zero (class_at kind (total kind (hex_at 4 2 bs)) bs at) o) in
      let k : kind ≡ 4 = z.targets in
      fails_broken at (rw k at f) s (rw k at e) (rw k at z)

-- judged bad with 17 exactly if a first byte of value 0 commits a block that a later byte of it breaks
pub judged_17 : (bs : List ℕ) → (judge sirad 0 bs ≡ Bad 17) ↔ ((q : ℕ) × (j : ℕ) × BrokenBlock bs q j)
judged_17 bs = (
  (λ h. refused_broken bs 17 ((bad_by_table bs 17).0 h) refl),
  (λ b. (bad_by_table bs 17).1 (broken_refused bs b.0 b.1 b.2)),
)
