-- The sentences of specs/Sentences.antt, proved: when the answer is a refusal, and what a yes and a no say.
use mathlib.Core.Bool.{Bool, true, false, cond, ◌&&◌}
use mathlib.Core.Path.{◌≡◌, refl, sym, ap, ◌∙◌}
use mathlib.Core.List.{List, [], ◌∷◌, ◌++◌}
use mathlib.Core.Logic.{◌↔◌}
use Prim.Native.Nat.{ℕ, zero, suc, ◌+◌, ◌<◌, ◌≤◌}
use native.Mathlib.Decide.{dec_lt}
use native.Mathlib.Omega.{arith}
use lib.Dec.{eqb, leb, ltb}
use lib.IntN.{nat_abs}
use lib.ListN.{length}
use lib.Seq.{take_all}
use borrow.Author.Tests.{eqb-true, eqb-false, eq-eqb, ne_eqb, leb-true, le-leb, lt-ltb, le-ltb, ltb-true, ltb-false}
use Rattle.digits.proofs.Choices.{test, both_ways, and_parts, and_both}
use Rattle.mmwave.specs.declared.PacketDialect.TheVariants.{MmWave}
use Rattle.std.specs.declared.option.Option.{Option}
use Rattle.std.specs.declared.option.Option.TheVariants.{Some, None}
use Rattle.packet.specs.declared.PacketPoint.{PacketPoint}
use Rattle.packet.specs.Fields.{is_packet, point_record, points_of, points_count, point_of}
use Rattle.packet.specs.Walk.{objects_of}
use Rattle.reading.specs.declared.Row.{Row}
use Rattle.reading.specs.Leftmost.{Leftmost}
use Rattle.reading.proofs.Rows.{rows_fit}
use Rattle.capture.specs.declared.Dialect.{Dialect}
use Rattle.capture.specs.declared.Dialect.TheVariants.{Packets}
use Rattle.capture.specs.Dialects.{judge_of}
use Rattle.capture.specs.Demands.{StandsIn}
use Rattle.capture.specs.Entries.{max_bytes}
use Rattle.capture.specs.Lines.{closed_rows}
use Rattle.capture.proofs.Demands.{closed_is_leftmost}
use Rattle.capture.proofs.LineLaws.{closed_rows_first}
use Rattle.capture.proofs.Wires.{lawful_of}
use Rattle.units.specs.Units.{is_edition}
use Rattle.units.proofs.Theorems.{edition_exactly, no_edition}
use Rattle.coordinate_bounds.specs.Bounds.{max_distance}
use Rattle.proximity.specs.declared.Closeness.{Closeness}
use Rattle.proximity.specs.Proximity.{refused, close_at, nobody, is_close, first_close, close_point}
use Rattle.proximity.specs.Proximity.{frame_of, or_later, first_in, packet_rows, closeness}
use Rattle.proximity.proofs.SearchLaws.{refusal_by, answer_by, answer_refused}
use Rattle.proximity.specs.Sentences as say
use Rattle.proximity.specs.Sentences.{Close, CloseIn, NoneClose, FirstClose, NobodyIn, FirstCloseIn}

-- -- Refusals, by four tests

-- the refusal by the tests of the dialect, the size, the edition and the distance, and the answer by them
abbrev number_by : Bool → Bool → Bool → Bool → ℕ
number_by mmwave long legal far = cond mmwave (cond long 3 (refusal_by legal far)) 1

abbrev call_by : Bool → Bool → Bool → Bool → Closeness → Closeness
call_by mmwave long legal far a = cond mmwave (cond long (refused 3) (answer_by legal far a)) (refused 1)

number_is : (m l e f : Bool) (a : Closeness) → a.refusal ≡ 0 → (call_by m l e f a).refusal ≡ number_by m l e f
number_is false l e f a h = refl
number_is true true e f a h = refl
number_is true false false f a h = refl
number_is true false true true a h = refl
number_is true false true false a h = h

zeros_else : (m l e f : Bool) (a : Closeness) → (number_by m l e f ≡ 0 → ⊥) → call_by m l e f a ≡ refused (number_by m l e f)
zeros_else false l e f a n = refl
zeros_else true true e f a n = refl
zeros_else true false e f a n = sym (answer_refused e f a n)

told_0 : (m l e f : Bool) → number_by m l e f ≡ 0 → (m ≡ true) × (l ≡ false) × (e ≡ true) × (f ≡ false)
told_0 false l e f h = absurd (omega arith)
told_0 true true e f h = absurd (omega arith)
told_0 true false false f h = absurd (omega arith)
told_0 true false true true h = absurd (omega arith)
told_0 true false true false h = (refl, refl, refl, refl)

told_1 : (m l e f : Bool) → number_by m l e f ≡ 1 → m ≡ false
told_1 false l e f h = refl
told_1 true true e f h = absurd (omega arith)
told_1 true false false f h = absurd (omega arith)
told_1 true false true true h = absurd (omega arith)
told_1 true false true false h = absurd (omega arith)

told_3 : (m l e f : Bool) → number_by m l e f ≡ 3 → (m ≡ true) × (l ≡ true)
told_3 false l e f h = absurd (omega arith)
told_3 true true e f h = (refl, refl)
told_3 true false false f h = absurd (omega arith)
told_3 true false true true h = absurd (omega arith)
told_3 true false true false h = absurd (omega arith)

told_32 : (m l e f : Bool) → number_by m l e f ≡ 32 → (m ≡ true) × (l ≡ false) × (e ≡ false)
told_32 false l e f h = absurd (omega arith)
told_32 true true e f h = absurd (omega arith)
told_32 true false false f h = (refl, refl, refl)
told_32 true false true true h = absurd (omega arith)
told_32 true false true false h = absurd (omega arith)

told_33 : (m l e f : Bool) → number_by m l e f ≡ 33 → (m ≡ true) × (l ≡ false) × (e ≡ true) × (f ≡ true)
told_33 false l e f h = absurd (omega arith)
told_33 true true e f h = absurd (omega arith)
told_33 true false false f h = absurd (omega arith)
told_33 true false true true h = (refl, refl, refl, refl)
told_33 true false true false h = absurd (omega arith)

-- what is found is no refusal
found_sure : (find : List ℕ → Option ℕ) (bs : List ℕ) (ws : List Row) → (first_in find bs ws).refusal ≡ 0
unfolding first_in
found_sure find bs [] = refl
found_sure find bs (w ∷ ws) = by_find (find (frame_of bs w)) (found_sure find bs ws)
  where
    by_find : (f : Option ℕ) → (first_in find bs ws).refusal ≡ 0 → (or_later w.offset f (first_in find bs ws)).refusal ≡ 0
    by_find (Some i) e = refl
    by_find None e = e

pub close_refuses_exactly : say.CloseRefusesExactly
unfolding closeness
close_refuses_exactly dialect edition d bs = record {
  answers = (
    λ h. let t = told_0 m l e f (sym number ∙ h) in record {
      mmwave = eqb-true dialect 1 t.0;
      short = ltb-false max_bytes (length bs) t.1;
      legal = (edition_exactly edition).0 t.2;
      near = ltb-false max_distance d t.3;
    },
    λ a. number ∙ rw (
      eq-eqb dialect 1 a.mmwave,
      le-ltb max_bytes (length bs) a.short,
      (edition_exactly edition).1 a.legal,
      le-ltb max_distance d a.near,
    ) refl,
  );
  by_dialect = (λ h. eqb-false dialect 1 (told_1 m l e f (sym number ∙ h)), λ n. number ∙ rw (ne_eqb dialect 1 n) refl);
  by_size = (
    λ h. let t = told_3 m l e f (sym number ∙ h) in (eqb-true dialect 1 t.0, ltb-true max_bytes (length bs) t.1),
    λ a. number ∙ rw (eq-eqb dialect 1 a.0, lt-ltb max_bytes (length bs) a.1) refl,
  );
  by_edition = (
    λ h. let t = told_32 m l e f (sym number ∙ h) in
        (eqb-true dialect 1 t.0, ltb-false max_bytes (length bs) t.1, (no_edition edition).0 t.2),
    λ a. number ∙ rw (eq-eqb dialect 1 a.0, le-ltb max_bytes (length bs) a.1, (no_edition edition).1 a.2) refl,
  );
  by_distance = (
    λ h. let t = told_33 m l e f (sym number ∙ h) in (
      eqb-true dialect 1 t.0,
      ltb-false max_bytes (length bs) t.1,
      (edition_exactly edition).0 t.2,
      ltb-true max_distance d t.3,
    ),
    λ a. number ∙ rw (
      eq-eqb dialect 1 a.0,
      le-ltb max_bytes (length bs) a.1,
      (edition_exactly edition).1 a.2,
      lt-ltb max_distance d a.3,
    ) refl,
  );
  zeros = λ n. zeros_else m l e f all (λ z. n (number ∙ z)) ∙ ap refused (sym number);
}
  where
    all : Closeness
    all = first_in (close_point edition d) bs (packet_rows bs)

    m : Bool
    m = eqb dialect 1

    l : Bool
    l = ltb max_bytes (length bs)

    e : Bool
    e = is_edition edition

    f : Bool
    f = ltb max_distance d

    number : (closeness dialect edition d bs).refusal ≡ number_by m l e f
    number = number_is m l e f all (found_sure (close_point edition d) bs (packet_rows bs))

-- -- A point and a packet

-- the test of a point says that it is close
close_exactly : (d : ℕ) (p : PacketPoint) → (is_close d p ≡ true) ↔ Close d p
close_exactly d p = (
  λ h.
      let sure = and_parts (eqb p.refusal 0) (x && (y && z)) h in
      let first = and_parts x (y && z) sure.1 in
      let second = and_parts y z first.1 in
      record {
        given = eqb-true p.refusal 0 sure.0;
        x = leb-true (nat_abs p.x) d first.0;
        y = leb-true (nat_abs p.y) d second.0;
        z = leb-true (nat_abs p.z) d second.1;
      },
  λ c.
      let last = and_both y z (le-leb (nat_abs p.y) d c.y) (le-leb (nat_abs p.z) d c.z) in
      let all = and_both x (y && z) (le-leb (nat_abs p.x) d c.x) last in
      and_both (eqb p.refusal 0) (x && (y && z)) (eq-eqb p.refusal 0 c.given) all,
)
  where
    x : Bool
    x = leb (nat_abs p.x) d

    y : Bool
    y = leb (nat_abs p.y) d

    z : Bool
    z = leb (nat_abs p.z) d

module _ (edition d : ℕ) (bs : List ℕ) where
  abbrev close : ℕ → Bool
  close i = is_close d (point_of edition bs i)

  not_close : (i : ℕ) → close i ≡ false → CloseIn edition d bs i → ⊥
  not_close i f c = both_ways (close i) ((close_exactly d _).1 c) f

  -- no point is given from the count on
  none_from_count : (i : ℕ) → points_count (points_of bs) ≤ i → CloseIn edition d bs i → ⊥
  unfolding points_of point_of
  none_from_count i l c = test (is_packet 16 bs) (λ y. by_record y (point_record bs) refl) (λ n. absurd (told_5 (rw n at c.given)))
    where
      told_5 : ◌≡◌ {A = ℕ} 5 0 → ⊥
      told_5 e = omega arith

      by_record : is_packet 16 bs ≡ true → (f : Option ℕ) → point_record bs ≡ f → ⊥
      by_record y (Some p) e =
          let below : objects_of bs ≤ i = rw (y, e) at l in
          let z : ◌≡◌ {A = ℕ} 6 0 = rw (y, e, le-ltb i (objects_of bs) below) at c.given in
          omega arith
      by_record y None e = let z : ◌≡◌ {A = ℕ} 7 0 = rw (y, e) at c.given in omega arith

  -- what the search from index i on finds is close, and none before it is
  from_found : (n i j : ℕ) → first_close edition d bs n i ≡ Some j
      → (i ≤ j) × CloseIn edition d bs j × ((k : ℕ) → i ≤ k → k < j → CloseIn edition d bs k → ⊥)
  unfolding first_close
  from_found zero i j h = let z : ◌≡◌ {A = ℕ} 0 1 = cc in absurd (omega arith)
  from_found (suc n) i j h = test (close i) (λ y. here y (rw y at h)) (λ f. later f (from_found n (i + 1) j (rw f at h)))
    where
      here : close i ≡ true → Some i ≡ Some j → (i ≤ j) × CloseIn edition d bs j × ((k : ℕ) → i ≤ k → k < j → CloseIn edition d bs k → ⊥)
      here y e = let s : i ≡ j = cc in (
        omega arith,
        rw s at ((close_exactly d (point_of edition bs i)).0 y),
        λ k p q c. absurd
            (omega arith),
      )

      later : close i ≡ false → (i + 1 ≤ j) × CloseIn edition d bs j × ((k : ℕ) → i + 1 ≤ k → k < j → CloseIn edition d bs k → ⊥)
          → (i ≤ j) × CloseIn edition d bs j × ((k : ℕ) → i ≤ k → k < j → CloseIn edition d bs k → ⊥)
      later f g = let l = g.0 in (omega arith, g.1, λ k p q c. by_index k q c (dec_lt i k) p)
        where
          by_index : (k : ℕ) → k < j → CloseIn edition d bs k → Dec (i < k) → i ≤ k → ⊥
          by_index k q c (yes b) p = g.2 k (omega arith) q c
          by_index k q c (no b) p = let s : k ≡ i = omega arith in not_close i f (rw s at c)

  -- where it finds none, none is
  from_missing : (n i : ℕ) → first_close edition d bs n i ≡ None → (k : ℕ) → i ≤ k → k < i + n → CloseIn edition d bs k → ⊥
  unfolding first_close
  from_missing zero i h k p q c = omega arith
  from_missing (suc n) i h k p q c =
      test (close i) (λ y. let z : Some i ≡ None = rw y at h in let o : ◌≡◌ {A = ℕ} 0 1 = cc in omega arith)
      (λ f. by_index f (from_missing n (i + 1) (rw f at h) k) (dec_lt i k))
    where
      by_index : close i ≡ false → (i + 1 ≤ k → k < i + 1 + n → CloseIn edition d bs k → ⊥) → Dec (i < k) → ⊥
      by_index f g (yes b) = g (omega arith) (omega arith) c
      by_index f g (no b) = let s : k ≡ i = omega arith in not_close i f (rw s at c)

  -- the first close point of a packet is its first
  point_first : (j : ℕ) → close_point edition d bs ≡ Some j → FirstClose edition d bs j
  point_first j h = let f = from_found (points_count (points_of bs)) 0 j h in record { close = f.1; before = λ k l. f.2 k (omega arith) l }

  -- where it has none, none is close
  point_none : close_point edition d bs ≡ None → NoneClose edition d bs
  point_none h i c = by_index (dec_lt i (points_count (points_of bs)))
    where
      by_index : Dec (i < points_count (points_of bs)) → ⊥
      by_index (yes l) = from_missing (points_count (points_of bs)) 0 h i (omega arith) (omega arith) c
      by_index (no l) = none_from_count i (omega arith) c

  -- there is one first
  first_once : (i j : ℕ) → FirstClose edition d bs i → FirstClose edition d bs j → i ≡ j
  first_once i j f g = by_order (dec_lt i j) (dec_lt j i)
    where
      by_order : Dec (i < j) → Dec (j < i) → i ≡ j
      by_order (yes l) m = absurd (g.before i l f.close)
      by_order (no l) (yes m) = absurd (f.before j m g.close)
      by_order (no l) (no m) = omega arith

-- -- The rows

-- a yes is no no
yes_is_no : {offset index : ℕ} → close_at offset index ≡ nobody → ⊥
yes_is_no e = let z : ◌≡◌ {A = ℕ} 1 0 = ap (λ (c : Closeness). c.close) e in omega arith

module _ (edition d : ℕ) (bs : List ℕ) where
  abbrev answer : List Row → Closeness
  answer ws = first_in (close_point edition d) bs ws

  no_forth : (ws : List Row) → answer ws ≡ nobody → NobodyIn edition d bs ws
  unfolding first_in NobodyIn
  no_forth [] h = tt
  no_forth (w ∷ ws) h = by_find (close_point edition d (frame_of bs w)) refl (no_forth ws) h
    where
      by_find : (f : Option ℕ) → close_point edition d (frame_of bs w) ≡ f → (answer ws ≡ nobody → NobodyIn edition d bs ws)
          → or_later w.offset f (answer ws) ≡ nobody → NoneClose edition d (frame_of bs w) × NobodyIn edition d bs ws
      by_find (Some i) e go h = absurd (yes_is_no h)
      by_find None e go h = (point_none edition d (frame_of bs w) e, go h)

  -- a packet without a close point answers nothing
  passes : (w : Row) (later : Closeness) → NoneClose edition d (frame_of bs w)
      → or_later w.offset (close_point edition d (frame_of bs w)) later ≡ later
  passes w later n = by_find (close_point edition d (frame_of bs w)) refl
    where
      by_find : (f : Option ℕ) → close_point edition d (frame_of bs w) ≡ f → or_later w.offset f later ≡ later
      by_find (Some i) e = absurd (n i (point_first edition d (frame_of bs w) i e).close)
      by_find None e = refl

  no_back : (ws : List Row) → NobodyIn edition d bs ws → answer ws ≡ nobody
  unfolding first_in NobodyIn
  no_back [] n = refl
  no_back (w ∷ ws) n = passes w (answer ws) n.0 ∙ no_back ws n.1

  yes_forth : (ws : List Row) (offset index : ℕ) → answer ws ≡ close_at offset index → FirstCloseIn edition d bs ws offset index
  unfolding first_in NobodyIn
  yes_forth [] offset index h = absurd (yes_is_no (sym h))
  yes_forth (w ∷ ws) offset index h = by_find (close_point edition d (frame_of bs w)) refl (yes_forth ws offset index) h
    where
      by_find : (f : Option ℕ) → close_point edition d (frame_of bs w) ≡ f
          → (answer ws ≡ close_at offset index → FirstCloseIn edition d bs ws offset index)
          → or_later w.offset f (answer ws) ≡ close_at offset index → FirstCloseIn edition d bs (w ∷ ws) offset index
      by_find (Some i) e go h =
          let s : i ≡ index = ap (λ (c : Closeness). c.index) h in
          record {
            before = [];
            packet = w;
            behind = ws;
            rows = refl;
            none_before = tt;
            place = ap (λ (c : Closeness). c.offset) h;
            first = rw s at (point_first edition d (frame_of bs w) i e);
          }
      by_find None e go h = let g = go h in record {
        before = w ∷ g.before;
        packet = g.packet;
        behind = g.behind;
        rows = ap (λ (vs : List Row). w ∷ vs) g.rows;
        none_before = (point_none edition d (frame_of bs w) e, g.none_before);
        place = g.place;
        first = g.first;
      }

  -- the packet answers
  answers_here : (w : Row) (later : Closeness) (index : ℕ) → FirstClose edition d (frame_of bs w) index
      → or_later w.offset (close_point edition d (frame_of bs w)) later ≡ close_at w.offset index
  answers_here w later index f = by_find (close_point edition d (frame_of bs w)) refl
    where
      by_find : (g : Option ℕ) → close_point edition d (frame_of bs w) ≡ g → or_later w.offset g later ≡ close_at w.offset index
      by_find (Some i) e =
          ap (close_at w.offset) (first_once edition d (frame_of bs w) i index (point_first edition d (frame_of bs w) i e) f)
      by_find None e = absurd (point_none edition d (frame_of bs w) e index f.close)

  yes_behind : (before behind : List Row) (w : Row) (index : ℕ) → NobodyIn edition d bs before → FirstClose edition d (frame_of bs w) index
      → answer (before ++ w ∷ behind) ≡ close_at w.offset index
  unfolding first_in NobodyIn
  yes_behind [] behind w index n f = answers_here w (answer behind) index f
  yes_behind (v ∷ before) behind w index n f =
      passes v (answer (before ++ w ∷ behind)) n.0 ∙ yes_behind before behind w index n.1 f

  yes_back : (ws : List Row) (offset index : ℕ) → FirstCloseIn edition d bs ws offset index → answer ws ≡ close_at offset index
  yes_back ws offset index f =
      ap answer f.rows ∙ yes_behind f.before f.behind f.packet index f.none_before f.first
      ∙ ap (λ (o : ℕ). close_at o index) f.place

-- the rows of the closed reading with room for all are those of the leftmost reading
rows_are : (d : Dialect) (bs : List ℕ) (ws : List Row) → Leftmost (StandsIn d bs) 0 ws → closed_rows d bs ≡ ws
unfolding closed_rows
rows_are d bs ws l =
    let room = length ws + length bs in
    let fit = rows_fit (judge_of d) (lawful_of d) true bs (length bs) in
    sym (take_all room _ (omega arith)) ∙ sym (closed_rows_first d bs room) ∙ (closed_is_leftmost d bs room ws l (omega arith)).0

pub close_packets_first : say.ClosePacketsFirst
unfolding closeness
close_packets_first dialect edition d bs asks ws l = record {
  yes = λ offset index. (
    λ h. yes_forth edition d bs ws offset index (sym is ∙ h),
    λ f. is ∙ yes_back edition d bs ws offset index f,
  );
  no = (λ h. no_forth edition d bs ws (sym is ∙ h), λ n. is ∙ no_back edition d bs ws n);
}
  where
    is : closeness dialect edition d bs ≡ first_in (close_point edition d) bs ws
    is =
        rw (
          eq-eqb dialect 1 asks.mmwave,
          le-ltb max_bytes (length bs) asks.short,
          (edition_exactly edition).1 asks.legal,
          le-ltb max_distance d asks.near,
        ) (ap (first_in (close_point edition d) bs) (rows_are (Packets MmWave) bs ws l))
