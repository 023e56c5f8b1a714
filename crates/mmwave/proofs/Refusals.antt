-- The judgement is bad with a reason exactly if the check of that reason is the first to fail. The idea: what the checks have passed moves
-- the judgement on to the rest, from its offset.
use mathlib.Core.Path.{◌≡◌, refl, ◌∙◌}
use mathlib.Core.List.{List, [], ◌∷◌}
use mathlib.Core.Logic.{◌↔◌, inl, inr}
use Prim.Native.Nat.{ℕ, zero, suc, ◌+◌, ◌-◌, ◌≤◌}
use native.Mathlib.Omega.{arith}
use lib.ListN.{length}
use Rattle.digits.specs.LittleEndian.{little_at}
use Rattle.digits.proofs.Choices.{either}
use Rattle.form.specs.declared.Judgement.TheVariants.{Bad}
use Rattle.form.specs.Form.{◌>>=◌, judge, judge_at}
use Rattle.form.specs.Pieces.{always, four, marker}
use Rattle.form.proofs.PieceLaws.{marker_inverse}
use Rattle.form.proofs.Refusals.{seq_refused, refuses_first, four_refuses, marker_refused}
use Rattle.form.proofs.FieldLaws.{field_refused, frees_refused}
use Rattle.mmwave.specs.Profile.{Profile, count_ok, seen_in}
use Rattle.mmwave.specs.Packet.{magic, last, records, counted, packet}
use Rattle.mmwave.specs.Document.{HoldsBefore, Reached, first, next, Refused}
use Rattle.mmwave.specs.Document.{at_magic, at_total, at_objects, at_count, at_subframe, at_repeat, at_type, at_length}
use Rattle.mmwave.proofs.RecordLaws.{TypeFailed, type_passed, type_repeats, type_unfit}
use Rattle.mmwave.proofs.EntryLaws.{rest_not_refused, entry_refused, type_refuses, length_refuses, entry_on}
use Rattle.mmwave.proofs.Document.{reached_next, holds_magic, holds_total, holds_objects, holds_count, holds_subframe}
use Rattle.mmwave.proofs.Document.{behind_objects, behind_count, records_behind, total_on, objects_on, count_on, subframe_on, header_on}

-- -- From the checks to the judgement

module _ (P : Profile) (bs : List ℕ) where
  -- where the checks have come to, the records left are judged
  pub reached_on : {ts : List ℕ} {k p room : ℕ} → Reached P bs ts k p room
      → judge (packet P) 0 bs ≡ judge_at (records P (little_at 4 28 bs) (seen_in P ts) k room) p bs
  unfolding seen_in
  reached_on (first b h) = header_on P bs b h
  reached_on (next {ts = ts} {k = k} {p = p} {room = room} r f t l w) =
      reached_on r ∙ entry_on P (little_at 4 28 bs) (seen_in P ts) k room p bs f t l w

  refused_back : {r : ℕ} → Refused P bs r → judge (packet P) 0 bs ≡ Bad r
  unfolding packet
  refused_back (at_magic b) = refuses_first (marker 20 magic) _ 0 bs 20 ((marker_refused 20 magic 0 bs 20).1 (refl, b))
  refused_back (at_total b h t) =
      total_on P bs b (omega arith) ∙ refuses_first (four (always 21) P.total) _ 12 bs 21 (four_refuses (always 21) P.total 12 bs h t)
  refused_back (at_objects b h t) =
      objects_on P bs b (omega arith)
      ∙ refuses_first (four (always 26) P.objects) _ 28 bs 26 (four_refuses (always 26) P.objects 28 bs h t)
  refused_back (at_count b h t) = let test = count_ok P (little_at 4 12 bs) in
      count_on P bs b (omega arith) ∙ refuses_first (four (always 22) test) _ 32 bs 22 (four_refuses (always 22) test 32 bs h t)
  refused_back (at_subframe b h t) =
      subframe_on P bs b (omega arith)
      ∙ refuses_first (four (always 26) P.subframe) _ 36 bs 26 (four_refuses (always 26) P.subframe 36 bs h t)
  refused_back (at_repeat {ts = ts} {k = k} {p = p} {room = room} r h f) = let n = little_at 4 28 bs in
      reached_on r
      ∙ type_refuses P n (seen_in P ts) k room p bs h (type_repeats P n (seen_in P ts) (suc k) room (little_at 4 p bs) f)
  refused_back (at_type {ts = ts} {k = k} {p = p} {room = room} r h f t) = let n = little_at 4 28 bs in
      reached_on r
      ∙ type_refuses P n (seen_in P ts) k room p bs h (type_unfit P n (seen_in P ts) (suc k) room (little_at 4 p bs) f t)
  refused_back (at_length {ts = ts} {k = k} {p = p} {room = room} r h f t l) =
      reached_on r ∙ length_refuses P (little_at 4 28 bs) (seen_in P ts) k room p bs f t (omega arith, l)

-- -- From the judgement to the checks

module _ (P : Profile) (bs : List ℕ) (r : ℕ) where
  refused_as : (q : ℕ) → r ≡ q → Refused P bs q → Refused P bs r
  refused_as q e f = rw e f

  type_at : {ts : List ℕ} {k p room : ℕ} → Reached P bs ts (suc k) p room → p + 4 ≤ length bs
      → TypeFailed P (little_at 4 28 bs) (seen_in P ts) (suc k) room (little_at 4 p bs) r → Refused P bs r
  type_at {ts} {k} {p} {room} c h (inl f) = refused_as 25 f.0 (at_repeat {ts = ts} {k = k} {p = p} {room = room} c h f.1)
  type_at {ts} {k} {p} {room} c h (inr f) = refused_as 23 f.0 (at_type {ts = ts} {k = k} {p = p} {room = room} c h f.1 f.2)

  records_refused : (ts : List ℕ) (k p room : ℕ) → Reached P bs ts k p room
      → judge_at (records P (little_at 4 28 bs) (seen_in P ts) k room) p bs ≡ Bad r → Refused P bs r
  unfolding records last seen_in
  records_refused ts zero p room c w = absurd (rest_not_refused room P.kind p bs r w)
  records_refused ts (suc k) p room c w = let n = little_at 4 28 bs in let type = little_at 4 p bs in
      either (entry_refused P n (seen_in P ts) k room p bs r w)
      (λ f. type_at {ts = ts} {k = k} {p = p} {room = room} c f.0 f.1)
      (λ g. either g
      (λ f. let t = type_passed P n (seen_in P ts) (suc k) room type f.1.1 in
      refused_as 24 f.0 (at_length {ts = ts} {k = k} {p = p} {room = room} c (omega (arith, f.2.0)) t.0 t.1 f.2.1))
      (λ i. records_refused (type ∷ ts) k i.1 (room - i.0) (reached_next c i.2) i.3))

  -- the header, field by field
  subframe_refused : HoldsBefore P bs 36 → judge_at (behind_count P bs (little_at 4 28 bs) (little_at 4 32 bs)) 36 bs ≡ Bad r
      → Refused P bs r
  unfolding seen_in
  subframe_refused b w = either (field_refused (always 26) P.subframe (λ _. records_behind P bs) 36 bs r w)
      (λ f. refused_as 26 f.0 (at_subframe b f.1.0 f.1.1))
      (λ g. records_refused [] (little_at 4 32 bs) 40 _ (first (holds_subframe b g.0.1) g.0.0) g.1)

  count_refused : HoldsBefore P bs 32 → judge_at (behind_objects P bs (little_at 4 28 bs)) 32 bs ≡ Bad r → Refused P bs r
  count_refused b w = either (field_refused (always 22) (count_ok P (little_at 4 12 bs)) (behind_count P bs (little_at 4 28 bs)) 32 bs r w)
      (λ f. refused_as 22 f.0 (at_count b f.1.0 f.1.1))
      (λ g. subframe_refused (holds_count b g.0.1) g.1)

  objects_refused : HoldsBefore P bs 28 → judge_at (four (always 26) P.objects >>= behind_objects P bs) 28 bs ≡ Bad r → Refused P bs r
  objects_refused b w = either (field_refused (always 26) P.objects (behind_objects P bs) 28 bs r w)
      (λ f. refused_as 26 f.0 (at_objects b f.1.0 f.1.1))
      (λ g. count_refused (holds_objects b g.0.1) g.1)

  total_refused : HoldsBefore P bs 12 → judge_at (four (always 21) P.total >>= counted P) 12 bs ≡ Bad r → Refused P bs r
  unfolding counted
  total_refused b w = either (field_refused (always 21) P.total (counted P) 12 bs r w)
      (λ f. refused_as 21 f.0 (at_total b f.1.0 f.1.1))
      (λ g. objects_refused (holds_total b g.0.1) (frees_refused 3 _ 16 bs r g.1))

  refused_forth : judge_at (packet P) 0 bs ≡ Bad r → Refused P bs r
  unfolding packet magic
  refused_forth w = either (seq_refused (marker 20 magic) _ 0 bs r w)
      (λ h. let g = (marker_refused 20 magic 0 bs r).0 h in refused_as 20 g.0 (at_magic g.1))
      (λ h. let f = marker_inverse 20 magic 0 bs h.0 h.1 h.2 in
      total_refused (holds_magic f.2) (frees_refused 1 (four (always 21) P.total >>= counted P) 8 bs r (rw f.1 at h.3)))

-- the judgement is bad with a reason exactly if the check of that reason is the first to fail
pub bad_exactly : (P : Profile) (bs : List ℕ) (r : ℕ) → (judge (packet P) 0 bs ≡ Bad r) ↔ Refused P bs r
bad_exactly P bs r = (refused_forth P bs r, λ f. refused_back P bs f)
