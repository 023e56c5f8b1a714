-- The laws for a packet whose bytes are there, for any profile: it is judged by the numbers at their offsets.
use Rattle.std.proofs.Common.{[], ◌∷◌, Bool, true, false, cond, ◌≡◌, refl, sym, ap, ◌∙◌, List, ℕ, zero, suc, ◌+◌, ◌-◌, ◌*◌, ◌<◌, ◌≤◌, arith, bit_and, bit_or, eqb, length, take, get_or, ne_eqb, eqb-true, w64}
use Rattle.std.proofs.lemmas.Bool.{eqb-false}
use lib.Seq.{length-take-le}
use Rattle.std.proofs.lemmas.Nat.{le_bytes_8}
use Rattle.std.specs.Int.{from_le_bytes, to_le_bytes}
use Rattle.digits.specs.LittleEndian.{little_at}
use Rattle.form.specs.declared.Judgement.{Judgement}
use Rattle.form.specs.declared.Judgement.TheVariants.{Whole, Bad}
use Rattle.form.specs.Form.{whole, judge, judge_at}
use Rattle.form.specs.Pieces.{free}
use Rattle.form.proofs.PieceLaws.{go_on, stop, whole_there, free_whole, marker_other}
use Rattle.mmwave.specs.declared.Rule.{Rule}
use Rattle.mmwave.specs.Profile.{Profile, count_ok, fresh, type_ok, length_ok, see}
use Rattle.mmwave.specs.Packet.{magic, last, records, packet}
use Rattle.mmwave.specs.Document.{HoldsBefore, at_total, at_objects, at_count, at_subframe}
use Rattle.mmwave.specs.Internal.{settled, Settles}
use Rattle.mmwave.proofs.Marks.{unseen, seen_again, seen_with}
use Rattle.mmwave.proofs.RecordLaws.{records_none, passed_fits, type_repeats, type_unfit}
use Rattle.mmwave.proofs.EntryLaws.{type_refuses, length_refuses, entry_on}
use Rattle.mmwave.proofs.RuleLaws.{length_type}
use Rattle.mmwave.proofs.Document.{holds_magic, holds_total, holds_objects, holds_count, holds_subframe, header_on}
use Rattle.mmwave.proofs.Refusals.{bad_exactly}

-- -- The records

-- without records there is only the padding
pub settled_none : (P : Profile) (n seen k room at : ℕ) (bs : List ℕ) → k ≡ 0 → at + 8 * k + room ≤ length bs
    → Settles P n seen k room at bs 0
unfolding settled last
settled_none P n seen k room at bs e h = padding (omega arith) ∙ records_none P n seen k room at bs e
  where
    padding : at + 8 * k + room ≡ at + room → Whole P.kind (at + 8 * k + room) ≡ judge_at (last P room) at bs
    padding f =
        ap (Whole P.kind) f ∙ whole_there P.kind (at + room) bs
        ∙ sym (go_on (free room) (λ _. whole P.kind) at bs (free_whole room at bs (omega arith)) refl)

-- no reason: the packet is whole
pub settled_whole : (P : Profile) (r end l : ℕ) {v : ℕ} {j : Judgement} → v ≡ P.kind → settled P r end ≡ j → r ≡ 0 → end ≡ l
    → Whole v l ≡ j
unfolding settled
settled_whole P r end l k e h f = ap (λ (v : ℕ). Whole v l) k ∙ (rw (h, f) at e)

-- a reason: the packet is bad
pub settled_bad : (P : Profile) (r end : ℕ) {j : Judgement} → settled P r end ≡ j → (r ≡ 0 → ⊥) → Bad r ≡ j
unfolding settled
settled_bad P r end e h = rw (ne_eqb r 0 h) at e

-- what the code has read of the first record's type: the type with its mark
pub record TypeRead (P : Profile) (k at : ℕ) (bs : List ℕ) (type mark : ℕ) : Type 0 where
  pub some : k ≡ 0 → ⊥
  pub type_is : type ≡ little_at 4 at bs
  pub mark_is : mark ≡ P.mark type

-- the type's mark is among those seen
pub settled_repeat : (P : Profile) (n seen room : ℕ) {k at : ℕ} {bs : List ℕ} {type mark : ℕ} → TypeRead P k at bs type mark
    → (bit_and seen mark ≡ 0 → ⊥) → at + 4 ≤ length bs → Settles P n seen k room at bs 25
unfolding settled
settled_repeat P n seen room {k} {at} {bs} {type} {mark} t seen-it h = go k t.some
  where
    repeats : fresh P seen (little_at 4 at bs) ≡ false
    repeats = rw (← t.type_is) (seen_again P seen type t.mark_is seen-it)

    go : (k : ℕ) → (k ≡ 0 → ⊥) → Settles P n seen k room at bs 25
    go zero e = absurd (e refl)
    go (suc k) e = sym (type_refuses P n seen k room at bs h (type_repeats P n seen (suc k) room (little_at 4 at bs) repeats))

-- what the code has read of the first record: its type, which is fresh, with its rule, and its payload length with its test
pub record FirstRead (P : Profile) (n seen k room at : ℕ) (bs : List ℕ) (type mark : ℕ) (rule : Rule) (m : ℕ) (l : Bool) : Type 0 where
  pub type_read : TypeRead P k at bs type mark
  pub unseen : bit_and seen mark ≡ 0
  pub rule_is : rule ≡ P.rule type n
  pub length_is : m ≡ little_at 4 (at + 4) bs
  pub test_is : l ≡ length_ok P rule k room m

module _ (P : Profile) {n seen k room at : ℕ} {bs : List ℕ} {type mark : ℕ} {rule : Rule} {m : ℕ} {l : Bool}
    (first : FirstRead P n seen k room at bs type mark rule m l) where
  abbrev T : ℕ
  T = little_at 4 at bs

  abbrev M : ℕ
  M = little_at 4 (at + 4) bs

  is_fresh : fresh P seen T ≡ true
  is_fresh = rw (← first.type_read.type_is) (unseen P seen type first.type_read.mark_is first.unseen)

  length_says : (v : Bool) → l ≡ v → length_ok P (P.rule T n) k room M ≡ v
  length_says v e =
      ap (λ (rule : Rule). length_ok P rule k room M) (sym (first.rule_is ∙ ap (λ (i : ℕ). P.rule i n) first.type_read.type_is))
      ∙ ap (length_ok P rule k room) (sym first.length_is) ∙ sym first.test_is ∙ e

  -- the length does not pass: the type is refused, or else the length
  pub settled_refused : {r : ℕ} → l ≡ false → r ≡ cond (type_ok P n k room type) 24 23 → at + 8 ≤ length bs
      → Settles P n seen k room at bs r
  unfolding settled
  settled_refused {r} e r-is h =
      go k first.type_read.some (type_ok P n k room T) refl (length_says false e)
      (r-is ∙ ap (λ (t : ℕ). cond (type_ok P n k room t) 24 23) first.type_read.type_is)
    where
      go : (k : ℕ) → (k ≡ 0 → ⊥) → (t : Bool) → type_ok P n k room T ≡ t → length_ok P (P.rule T n) k room M ≡ false → r ≡ cond t 24 23
          → Settles P n seen k room at bs r
      go zero s t a f g = absurd (s refl)
      go (suc k) s true a f g = rw g (sym (length_refuses P n seen k room at bs is_fresh a (omega arith, f)))
      go (suc k) s false a f g =
          rw g (sym (type_refuses P n seen k room at bs (omega arith) (type_unfit P n seen (suc k) room T is_fresh a)))

  module _ (passes : l ≡ true) where
    -- the payload lies in the room
    pub length_within : m ≤ room
    length_within = rw first.length_is (passed_fits P (P.rule T n) k room M (length_says true passes))

    -- the record lies before the end of all of them, which is that of the remaining ones behind it
    pub record_within_lem : at + 8 + m ≤ at + 8 * k + room
    record_within_lem = go k first.type_read.some length_within
      where
        go : (k : ℕ) → (k ≡ 0 → ⊥) → m ≤ room → at + 8 + m ≤ at + 8 * k + room
        go zero s f = absurd (s refl)
        go (suc k) s f = omega arith

    pub same_end : at + 8 * k + room ≡ at + 8 + m + 8 * (k - 1) + (room - m)
    same_end = go k first.type_read.some length_within
      where
        go : (k : ℕ) → (k ≡ 0 → ⊥) → m ≤ room → at + 8 * k + room ≡ at + 8 + m + 8 * (k - 1) + (room - m)
        go zero s f = absurd (s refl)
        go (suc k) s f = omega arith

  module _ (passes : l ≡ true) (there : at + 8 * k + room ≤ length bs) where
    in_bytes : at + 8 + m ≤ length bs
    in_bytes = omega (arith, record_within_lem passes)

    -- the length passes, and with it the type: the remaining records are judged behind this one
    record_passed : judge_at (records P n (bit_or seen mark) (k - 1) (room - m)) (at + 8 + m) bs ≡ judge_at (records P n seen k room) at bs
    unfolding type_ok
    record_passed = rw (seen_with P seen type first.type_read.mark_is, first.type_read.type_is, first.length_is)
        (go k first.type_read.some (length_says true passes) (rw first.length_is at in_bytes))
      where
        go : (k : ℕ) → (k ≡ 0 → ⊥) → length_ok P (P.rule T n) k room M ≡ true → at + 8 + M ≤ length bs
            → judge_at (records P n (see P seen T) (k - 1) (room - M)) (at + 8 + M) bs ≡ judge_at (records P n seen k room) at bs
        go zero s f h = absurd (s refl)
        go (suc k) s f h =
            let one_less : suc k - 1 ≡ k = omega arith in
            let type-ok = length_type P (P.rule T n) (suc k) room M s f in
            ap (λ (j : ℕ). judge_at (records P n (see P seen T) j (room - M)) (at + 8 + M) bs) one_less
            ∙ sym (entry_on P n seen k room at bs is_fresh type-ok f h)

    -- so what is settled of them is settled of all
    pub settled_more : (r : ℕ) → Settles P n (bit_or seen mark) (k - 1) (room - m) (at + 8 + m) bs r → Settles P n seen k room at bs r
    settled_more r j = ap (settled P r) (same_end passes) ∙ j ∙ record_passed

-- -- The header

module _ (P : Profile) (bs : List ℕ) (there : 40 ≤ length bs) where
  -- other bytes than the magic
  pub no_magic : (take 8 bs ≡ magic → ⊥) → Bad 20 ≡ judge (packet P) 0 bs
  unfolding packet magic
  no_magic n = stop _ _ 0 bs (marker_other 20 magic 0 bs (omega arith) n)

  -- what the code has read of the header: each field with its test, and those before it passed
  module _ (met : take 8 bs ≡ magic) {l : ℕ} {t : Bool} (l-is : l ≡ little_at 4 12 bs) (t-is : t ≡ P.total l) where
    total_says : (v : Bool) → t ≡ v → P.total (little_at 4 12 bs) ≡ v
    total_says v e = ap P.total (sym l-is) ∙ sym t-is ∙ e

    -- the total length does not pass
    pub header_total : t ≡ false → Bad 21 ≡ judge (packet P) 0 bs
    header_total e = sym ((bad_exactly P bs 21).1 (at_total (holds_magic met) (omega arith) (total_says false e)))

    module _ (t-passes : t ≡ true) {n : ℕ} {o : Bool} (n-is : n ≡ little_at 4 28 bs) (o_is : o ≡ P.objects n) where
      before_objects : HoldsBefore P bs 28
      before_objects = holds_total (holds_magic met) (total_says true t-passes)

      objects_say : (v : Bool) → o ≡ v → P.objects (little_at 4 28 bs) ≡ v
      objects_say v e = ap P.objects (sym n-is) ∙ sym o_is ∙ e

      -- the object count does not pass
      pub header_objects : o ≡ false → Bad 26 ≡ judge (packet P) 0 bs
      header_objects e = sym ((bad_exactly P bs 26).1 (at_objects before_objects (omega arith) (objects_say false e)))

      module _ (o-passes : o ≡ true) {k : ℕ} {c : Bool} (k-is : k ≡ little_at 4 32 bs) (c-is : c ≡ count_ok P l k) where
        before_count : HoldsBefore P bs 32
        before_count = holds_objects before_objects (objects_say true o-passes)

        count_says : (v : Bool) → c ≡ v → count_ok P (little_at 4 12 bs) (little_at 4 32 bs) ≡ v
        count_says v e = ap (λ (i : ℕ). count_ok P i (little_at 4 32 bs)) (sym l-is) ∙ ap (count_ok P l) (sym k-is) ∙ sym c-is ∙ e

        -- the record count does not pass
        pub header_count : c ≡ false → Bad 22 ≡ judge (packet P) 0 bs
        header_count e = sym ((bad_exactly P bs 22).1 (at_count before_count (omega arith) (count_says false e)))

        module _ (c-passes : c ≡ true) {f : ℕ} {z : Bool} (f-is : f ≡ little_at 4 36 bs) (z-is : z ≡ P.subframe f) where
          before_subframe : HoldsBefore P bs 36
          before_subframe = holds_count before_count (count_says true c-passes)

          subframe_says : (v : Bool) → z ≡ v → P.subframe (little_at 4 36 bs) ≡ v
          subframe_says v e = ap P.subframe (sym f-is) ∙ sym z-is ∙ e

          -- the subframe does not pass
          pub header_subframe : z ≡ false → Bad 26 ≡ judge (packet P) 0 bs
          header_subframe e = sym ((bad_exactly P bs 26).1 (at_subframe before_subframe there (subframe_says false e)))

          -- all pass: the records are judged behind the header
          pub header_passed : z ≡ true → judge_at (records P n 0 k (l - (40 + 8 * k))) 40 bs ≡ judge (packet P) 0 bs
          header_passed e =
              ap (λ (l : ℕ). judge_at (records P n 0 k (l - (40 + 8 * k))) 40 bs) l-is
              ∙ ap (λ (n : ℕ). judge_at (records P n 0 k (little_at 4 12 bs - (40 + 8 * k))) 40 bs) n-is
              ∙ ap (λ (k : ℕ). judge_at (records P (little_at 4 28 bs) 0 k (little_at 4 12 bs - (40 + 8 * k))) 40 bs) k-is
              ∙ sym (header_on P bs (holds_subframe before_subframe (subframe_says true e)) there)

-- -- The magic

magic_small : (i : ℕ) → get_or magic i 0 < 256
unfolding magic
magic_small zero = omega arith
magic_small (suc zero) = omega arith
magic_small (suc (suc zero)) = omega arith
magic_small (suc (suc (suc zero))) = omega arith
magic_small (suc (suc (suc (suc zero)))) = omega arith
magic_small (suc (suc (suc (suc (suc zero))))) = omega arith
magic_small (suc (suc (suc (suc (suc (suc zero)))))) = omega arith
magic_small (suc (suc (suc (suc (suc (suc (suc zero))))))) = omega arith
magic_small (suc (suc (suc (suc (suc (suc (suc (suc i)))))))) = omega arith

take_small : (n : ℕ) (bs : List ℕ) → ((i : ℕ) → get_or bs i 0 < 256) → (i : ℕ) → get_or (take n bs) i 0 < 256
take_small zero bs small i = omega arith
take_small (suc n) [] small i = omega arith
take_small (suc n) (b ∷ bs) small zero = small 0
take_small (suc n) (b ∷ bs) small (suc i) = take_small n bs (λ j. small (suc j)) i

-- the first eight bytes and the magic, compared as numbers
module _ (bs first : List ℕ) (there : 8 ≤ length bs) (small : (i : ℕ) → get_or bs i 0 < 256) (is_first : first ≡ take 8 bs) {p q : ℕ}
    (p-is : p ≡ from_le_bytes w64 first) (q-is : q ≡ from_le_bytes w64 magic) where
  read : p ≡ from_le_bytes w64 (take 8 bs)
  read = p-is ∙ ap (from_le_bytes w64) is_first

  pub magic_met : eqb p q ≡ true → take 8 bs ≡ magic
  unfolding magic
  magic_met e =
      sym (le_bytes_8 (take 8 bs) p (length-take-le 8 bs there) (take_small 8 bs small) read)
      ∙ ap (to_le_bytes w64) (eqb-true p q e) ∙ le_bytes_8 magic q refl magic_small q-is

  pub magic_missed : eqb p q ≡ false → take 8 bs ≡ magic → ⊥
  magic_missed e m = eqb-false p q e (read ∙ ap (from_le_bytes w64) m ∙ sym q-is)
