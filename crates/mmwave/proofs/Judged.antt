-- Each reason of the whole judgement, and where the bytes end inside a field, in the papers' words, for any sound profile that says them.
-- The idea: the room that the form carries is what L leaves behind the headers of the records left.
use mathlib.Core.Bool.{Bool, true, false}
use mathlib.Core.Path.{◌≡◌, refl}
use mathlib.Core.List.{List, ◌∷◌}
use mathlib.Core.Logic.{◌↔◌, ◌⊎◌, inl, inr}
use Prim.Native.Nat.{ℕ, suc, ◌+◌, ◌-◌, ◌*◌, ◌≤◌}
use native.Mathlib.Omega.{arith}
use lib.Dec.{eqb}
use borrow.Author.Tests.{eqb-true}
use Rattle.digits.specs.Bytes.{Bytes}
use Rattle.digits.specs.LittleEndian.{little_at}
use Rattle.digits.proofs.Choices.{and_left}
use Rattle.form.specs.declared.Judgement.TheVariants.{Bad, Waiting}
use Rattle.form.specs.Form.{judge, Inside, Completable}
use Rattle.form.specs.Pieces.{Broken}
use Rattle.mmwave.specs.Profile.{Profile, legal, fits, fresh, type_ok, length_ok, seen_in, Sound, Fair}
use Rattle.mmwave.specs.Packet.{magic, packet}
use Rattle.mmwave.specs.Document.{HoldsBefore, Reached, first, next, EndsInside, in_header, in_type, in_length, Refused}
use Rattle.mmwave.specs.Document.{at_magic, at_total, at_objects, at_count, at_subframe, at_repeat, at_type, at_length}
use Rattle.mmwave.specs.Paper.{Sentences, magic_bytes, NoneExcludes, LengthFits, TypeFits, ChecksBefore, Passed, header, behind}
use Rattle.mmwave.specs.Paper.{TotalRefused, ObjectsRefused, CountRefused, SubframeRefused, RepeatRefused, TypeRefused}
use Rattle.mmwave.specs.Paper.{LengthRefused, Choose, Due}
use Rattle.mmwave.specs.Paper.{EndsInField, header_field, type_field_lem, length_field}
use Rattle.mmwave.proofs.RecordLaws.{count_room, passed_fits}
use Rattle.mmwave.proofs.Sounds.{fair_start, fair_less}
use Rattle.mmwave.proofs.Theorems.{packet_waits, packet_inside}
use Rattle.mmwave.proofs.Paper.{Says, fresh_exactly}
use Rattle.mmwave.proofs.Reasons.{reason_22, count_exactly, type_exactly, length_exactly, fails_exactly}
use Rattle.mmwave.proofs.Refusals.{bad_exactly}
use Rattle.mmwave.proofs.Insides.{inside_exactly}

-- the room is what a legal total length leaves behind the headers of the records left, and it is fair
record Roomed (P : Profile) (bs : List ℕ) (k p room : ℕ) : Type 0 where
  total : P.total (little_at 4 12 bs) ≡ true
  headers : p + 8 * k ≤ little_at 4 12 bs
  is_room : room ≡ little_at 4 12 bs - (p + 8 * k)
  fair : Fair P room

module _ (P : Profile) (S : Sound P) (W : Sentences) (says : Says P W) (bs : List ℕ) where
  abbrev L : ℕ
  L = little_at 4 12 bs

  abbrev N : ℕ
  N = little_at 4 28 bs

  abbrev K : ℕ
  K = little_at 4 32 bs

  abbrev type_at : ℕ → ℕ
  type_at p = little_at 4 p bs

  abbrev length_at : ℕ → ℕ
  length_at p = little_at 4 (p + 4) bs

  -- -- The header

  -- the profile's tests before an offset are the papers' checks
  pub checks_forth : (at : ℕ) → HoldsBefore P bs at → ChecksBefore W bs at
  unfolding magic
  checks_forth at b = record {
    starts = b.starts;
    total = λ i. (says.total_says L).0 (b.total i);
    objects = λ i. (says.objects_says N).0 (b.objects i);
    count = λ i. (count_exactly P S W says N L K (b.total (omega arith))).0 (b.count i);
    subframe = λ i. (says.subframe_says (little_at 4 36 bs)).0 (b.subframe i);
  }

  pub checks_back : (at : ℕ) → ChecksBefore W bs at → HoldsBefore P bs at
  unfolding magic
  checks_back at b = record {
    starts = b.starts;
    total = λ i. (says.total_says L).1 (b.total i);
    objects = λ i. (says.objects_says N).1 (b.objects i);
    count = λ i. (count_exactly P S W says N L K ((says.total_says L).1 (b.total (omega arith)))).1 (b.count i);
    subframe = λ i. (says.subframe_says (little_at 4 36 bs)).1 (b.subframe i);
  }

  -- -- The records

  reached_room : {ts : List ℕ} {k p room : ℕ} → Reached P bs ts k p room → Roomed P bs k p room
  unfolding length_ok
  reached_room (first b h) = let t = b.total (omega arith) in let c = count_room P L K (b.count (omega arith)) in
      record { total = t; headers = c; is_room = refl; fair = fair_start P S L K t c }
  reached_room (next {k = k} {p = p} {room = room} r f t l w) =
      let g = reached_room r in let m = length_at p in let rule = P.rule (type_at p) N in
      let i = passed_fits P rule (suc k) room m l in
      record {
        total = g.total;
        headers = omega (arith, g.headers, g.is_room, i);
        is_room = omega (arith, g.headers, g.is_room, i);
        fair = fair_less P S N (type_at p) m room g.fair (and_left (legal rule m) (fits P (suc k) room m) l) i;
      }

  fresh_words : (ts : List ℕ) (p : ℕ) → (fresh P (seen_in P ts) (type_at p) ≡ true) ↔ NoneExcludes W ts (type_at p)
  fresh_words ts p = fresh_exactly P S W says ts (type_at p)

  type_words : (ts : List ℕ) (k p room : ℕ) → Roomed P bs (suc k) p room
      → (type_ok P N (suc k) room (type_at p) ≡ true) ↔ TypeFits W N L p ts k (type_at p)
  type_words ts k p room g =
      rw g.is_room (type_exactly P S W says N L p ts k g.total g.headers (rw g.is_room at g.fair) (type_at p))

  length_words : (ts : List ℕ) (k p room : ℕ) → Roomed P bs (suc k) p room
      → (length_ok P (P.rule (type_at p) N) (suc k) room (length_at p) ≡ true)
      ↔ (W.Legal N (type_at p) (length_at p) × LengthFits W N L p (type_at p ∷ ts) k (length_at p))
  length_words ts k p room g =
      rw g.is_room (length_exactly P S W says N L p ts k g.total g.headers (rw g.is_room at g.fair) (type_at p) (length_at p))

  -- where the form's checks have come to, the papers' have
  pub passed_forth : {ts : List ℕ} {k p room : ℕ} → Reached P bs ts k p room → Passed W bs ts k p
  passed_forth (first b h) = header (checks_forth 40 b) h
  passed_forth (next {ts = ts} {k = k} {p = p} {room = room} r f t l w) = let g = (length_words ts k p room (reached_room r)).0 l in
      behind {ts = ts} {k = k} {p = p} (passed_forth r) ((fresh_words ts p).0 f) g.0 g.1 w

  -- where the papers' checks have come to, the form's have, with the room that L leaves
  pub passed_back : {ts : List ℕ} {k p : ℕ} → Passed W bs ts k p → (room : ℕ) × Reached P bs ts k p room
  passed_back (header b h) = (L - (40 + 8 * K), first (checks_back 40 b) h)
  passed_back (behind {ts = ts} {k = k} {p = p} r f a b w) =
      let g = passed_back r in let q = reached_room g.1 in let m = length_at p in
      let type-ok = (type_words ts k p g.0 q).1 (m, a, b) in let length-ok = (length_words ts k p g.0 q).1 (a, b) in
      (g.0 - m, next {ts = ts} {k = k} {p = p} {room = g.0} g.1 ((fresh_words ts p).1 f) type-ok length-ok w)

  -- -- The reasons

  total_fails : (P.total L ≡ false) ↔ (W.Total L → ⊥)
  total_fails = fails_exactly (P.total L) (says.total_says L)

  objects_fails : (P.objects N ≡ false) ↔ (W.Objects N → ⊥)
  objects_fails = fails_exactly (P.objects N) (says.objects_says N)

  subframe_fails : (P.subframe (little_at 4 36 bs) ≡ false) ↔ (W.Subframe (little_at 4 36 bs) → ⊥)
  subframe_fails = fails_exactly (P.subframe (little_at 4 36 bs)) (says.subframe_says (little_at 4 36 bs))

  fresh_fails : (ts : List ℕ) (p : ℕ) → (fresh P (seen_in P ts) (type_at p) ≡ false) ↔ (NoneExcludes W ts (type_at p) → ⊥)
  fresh_fails ts p = fails_exactly (fresh P (seen_in P ts) (type_at p)) (fresh_words ts p)

  type_fails : (ts : List ℕ) (k p room : ℕ) → Roomed P bs (suc k) p room
      → (type_ok P N (suc k) room (type_at p) ≡ false) ↔ (TypeFits W N L p ts k (type_at p) → ⊥)
  type_fails ts k p room q = fails_exactly (type_ok P N (suc k) room (type_at p)) (type_words ts k p room q)

  length_fails : (ts : List ℕ) (k p room : ℕ) → Roomed P bs (suc k) p room
      → (length_ok P (P.rule (type_at p) N) (suc k) room (length_at p) ≡ false)
      ↔ (W.Legal N (type_at p) (length_at p) × LengthFits W N L p (type_at p ∷ ts) k (length_at p) → ⊥)
  length_fails ts k p room q =
      fails_exactly (length_ok P (P.rule (type_at p) N) (suc k) room (length_at p)) (length_words ts k p room q)

  due : {r : ℕ} → Refused P bs r → Due W bs r
  unfolding magic
  due (at_magic b) = b
  due (at_total b h t) = record { before = checks_forth 12 b; there = h; lacks = total_fails.0 t }
  due (at_objects b h t) = inl (record { before = checks_forth 28 b; there = h; lacks = objects_fails.0 t })
  due (at_count b h t) =
      record { before = checks_forth 32 b; there = h; lacks = (reason_22 P S W says N L K (b.total (omega arith))).0 t }
  due (at_subframe b h t) = inr (record { before = checks_forth 36 b; there = h; lacks = subframe_fails.0 t })
  due (at_repeat {ts = ts} {k = k} {p = p} c h f) =
      record { types = ts; left = k; offset = p; passed = passed_forth c; there = h; lacks = (fresh_fails ts p).0 f }
  due (at_type {ts = ts} {k = k} {p = p} {room = room} c h f t) = record {
    types = ts;
    left = k;
    offset = p;
    passed = passed_forth c;
    there = h;
    fresh = (fresh_words ts p).0 f;
    lacks = (type_fails ts k p room (reached_room c)).0 t;
  }
  due (at_length {ts = ts} {k = k} {p = p} {room = room} c h f t l) = let q = reached_room c in record {
    types = ts;
    left = k;
    offset = p;
    passed = passed_forth c;
    there = h;
    fresh = (fresh_words ts p).0 f;
    type_fits = (type_words ts k p room q).0 t;
    lacks = (length_fails ts k p room q).0 l;
  }

  total_due : TotalRefused W bs → Refused P bs 21
  total_due f = at_total (checks_back 12 f.before) f.there (total_fails.1 f.lacks)

  count_due : CountRefused W bs → Refused P bs 22
  count_due f = let b = checks_back 32 f.before in
      at_count b f.there ((reason_22 P S W says N L K (b.total (omega arith))).1 f.lacks)

  repeat_due : RepeatRefused W bs → Refused P bs 25
  repeat_due f = let ts = f.types in let p = f.offset in let g = passed_back f.passed in
      at_repeat {ts = ts} {k = f.left} {p = p} {room = g.0} g.1 f.there ((fresh_fails ts p).1 f.lacks)

  type_due : TypeRefused W bs → Refused P bs 23
  type_due f = let ts = f.types in let k = f.left in let p = f.offset in let g = passed_back f.passed in
      at_type {ts = ts} {k = k} {p = p} {room = g.0} g.1 f.there ((fresh_words ts p).1 f.fresh)
      ((type_fails ts k p g.0 (reached_room g.1)).1 f.lacks)

  length_due : LengthRefused W bs → Refused P bs 24
  length_due f =
      let ts = f.types in let k = f.left in let p = f.offset in let g = passed_back f.passed in let q = reached_room g.1 in
      at_length {ts = ts} {k = k} {p = p} {room = g.0} g.1 f.there ((fresh_words ts p).1 f.fresh)
      ((type_words ts k p g.0 q).1 f.type_fits) ((length_fails ts k p g.0 q).1 f.lacks)

  fixed_due : ObjectsRefused W bs ⊎ SubframeRefused W bs → Refused P bs 26
  fixed_due (inl f) = at_objects (checks_back 28 f.before) f.there (objects_fails.1 f.lacks)
  fixed_due (inr f) = at_subframe (checks_back 36 f.before) f.there (subframe_fails.1 f.lacks)

  refused : (r : ℕ) → Due W bs r → Refused P bs r
  unfolding magic
  refused r =
      one 20 (Broken magic_bytes bs) _ at_magic
      (one 21 (TotalRefused W bs) _ total_due
      (one 22 (CountRefused W bs) _ count_due
      (one 23 (TypeRefused W bs) _ type_due
      (one 24 (LengthRefused W bs) _ length_due
      (one 25 (RepeatRefused W bs) _ repeat_due
      (one 26 (ObjectsRefused W bs ⊎ SubframeRefused W bs) ⊥ fixed_due (λ z. absurd z)))))))
    where
      one : (i : ℕ) (A B : Type 0) → (A → Refused P bs i) → (B → Refused P bs r) → Choose (eqb r i) A B → Refused P bs r
      one i A B f g = go (eqb r i) refl
        where
          go : (b : Bool) → eqb r i ≡ b → Choose b A B → Refused P bs r
          go true e a = let h = f a in rw (eqb-true r i e) h
          go false e a = g a

  -- judged bad with a reason exactly if the reason is due, in the papers' words
  pub judged_bad : (r : ℕ) → (judge (packet P) 0 bs ≡ Bad r) ↔ Due W bs r
  judged_bad r = let f = bad_exactly P bs r in (λ w. due (f.0 w), λ d. f.1 (refused r d))

  -- 20: a byte that is there is another than the magic's, and those before it are as in the magic
  pub judged_20 : (judge (packet P) 0 bs ≡ Bad 20) ↔ Broken magic_bytes bs
  judged_20 = judged_bad 20

  -- 21: the total length is not legal
  pub judged_21 : (judge (packet P) 0 bs ≡ Bad 21) ↔ TotalRefused W bs
  judged_21 = judged_bad 21

  -- 22: the record count is over 32, or no so many records can end so that L fits
  pub judged_22 : (judge (packet P) 0 bs ≡ Bad 22) ↔ CountRefused W bs
  judged_22 = judged_bad 22

  -- 23: no legal payload length of this type lets the records end so that L fits
  pub judged_23 : (judge (packet P) 0 bs ≡ Bad 23) ↔ TypeRefused W bs
  judged_23 = judged_bad 23

  -- 24: the payload length is not legal for its type or does not let the records end so that L fits
  pub judged_24 : (judge (packet P) 0 bs ≡ Bad 24) ↔ LengthRefused W bs
  judged_24 = judged_bad 24

  -- 25: the type of a record before excludes this one
  pub judged_25 : (judge (packet P) 0 bs ≡ Bad 25) ↔ RepeatRefused W bs
  judged_25 = judged_bad 25

  -- 26: the object count or the subframe is not legal
  pub judged_26 : (judge (packet P) 0 bs ≡ Bad 26) ↔ (ObjectsRefused W bs ⊎ SubframeRefused W bs)
  judged_26 = judged_bad 26

  -- -- Ending inside a four-byte field

  ends_forth : EndsInside P bs → EndsInField W bs
  ends_forth (in_header i h b c) = header_field i h (checks_forth (8 + 4 * i) b) c
  ends_forth (in_type {ts = ts} {k = k} {p = p} r c) = type_field_lem {ts = ts} {k = k} {p = p} (passed_forth r) c
  ends_forth (in_length {ts = ts} {k = k} {p = p} {room = room} r f t c) =
      length_field {ts = ts} {k = k} {p = p} (passed_forth r) ((fresh_words ts p).0 f) ((type_words ts k p room (reached_room r)).0 t) c

  ends_back : EndsInField W bs → EndsInside P bs
  ends_back (header_field i h b c) = in_header i h (checks_back (8 + 4 * i) b) c
  ends_back (type_field_lem {ts = ts} {k = k} {p = p} r c) = let g = passed_back r in
      in_type {ts = ts} {k = k} {p = p} {room = g.0} g.1 c
  ends_back (length_field {ts = ts} {k = k} {p = p} r f t c) = let g = passed_back r in
      in_length {ts = ts} {k = k} {p = p} {room = g.0} g.1 ((fresh_words ts p).1 f)
      ((type_words ts k p g.0 (reached_room g.1)).1 t) c

  -- the form's bytes end inside a field exactly if the packet's do, in the papers' words
  pub ends_exactly : Inside (packet P) bs ↔ EndsInField W bs
  ends_exactly = let e = inside_exactly P bs in (λ i. ends_forth (e.0 i), λ f. e.1 (ends_back f))

  -- bytes that do not end inside a four-byte field wait exactly if no packet stands and some further bytes complete one
  pub waits_outside : Bytes bs → (EndsInField W bs → ⊥) → (judge (packet P) 0 bs ≡ Waiting) ↔ Completable (packet P) bs
  waits_outside b o = packet_waits P S bs b (λ i. o (ends_exactly.0 i))

  -- bytes that end inside a four-byte field wait
  pub waits_inside : EndsInField W bs → judge (packet P) 0 bs ≡ Waiting
  waits_inside e = packet_inside P bs (ends_exactly.1 e)
