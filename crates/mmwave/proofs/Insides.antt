-- Where a packet's bytes end inside a four-byte field, by offsets, for any profile.
use mathlib.Core.Path.{◌≡◌, sym}
use mathlib.Core.List.{List, [], ◌∷◌}
use mathlib.Core.Logic.{◌↔◌, ◌⊎◌, inl, inr}
use Prim.Native.Nat.{ℕ, zero, suc, ◌+◌, ◌-◌, ◌*◌, ◌<◌, ◌≤◌}
use native.Mathlib.Omega.{arith}
use lib.ListN.{length, take}
use Rattle.digits.specs.LittleEndian.{little_at}
use Rattle.digits.proofs.Choices.{either}
use Rattle.form.specs.Form.{◌>>=◌, Inside}
use Rattle.form.specs.Pieces.{always, four, marker, frees, Cut}
use Rattle.form.proofs.PieceLaws.{marker_inverse, frees_whole, marker_whole}
use Rattle.form.proofs.Insides.{InsideAt, seq_inside, inside_then, four_first, frees_first, marker_outside}
use Rattle.form.proofs.FieldLaws.{field_inside, field_then, frees_parted}
use Rattle.mmwave.specs.Profile.{Profile, count_ok, seen_in}
use Rattle.mmwave.specs.Packet.{magic, last, records, counted, packet}
use Rattle.mmwave.specs.Document.{HoldsBefore, Reached, first, next, EndsInside, in_header, in_type, in_length}
use Rattle.mmwave.proofs.RecordLaws.{type_passed}
use Rattle.mmwave.proofs.EntryLaws.{rest_outside, entry_inside, type_cut, length_cut, entry_then}
use Rattle.mmwave.proofs.Document.{reached_next, fewer, holds_magic, holds_total, holds_objects, holds_count}
use Rattle.mmwave.proofs.Document.{holds_subframe, behind_objects, behind_count, records_behind}

-- -- From the form to the offsets

module _ (P : Profile) (bs : List ℕ) where
  records_inside : (ts : List ℕ) (k p room : ℕ) → Reached P bs ts k p room
      → InsideAt (records P (little_at 4 28 bs) (seen_in P ts) k room) p bs → EndsInside P bs
  unfolding records last seen_in
  records_inside ts zero p room c i = absurd (rest_outside room P.kind p bs i)
  records_inside ts (suc k) p room c i = let n = little_at 4 28 bs in let type = little_at 4 p bs in
      either (entry_inside P n (seen_in P ts) k room p bs i)
      (λ h. in_type {ts = ts} {k = k} {p = p} {room = room} c h)
      (λ g. either g
      (λ h. let t = type_passed P n (seen_in P ts) (suc k) room type h.0.1 in
      in_length {ts = ts} {k = k} {p = p} {room = room} c t.0 t.1 h.1)
      (λ h. records_inside (type ∷ ts) k h.1 (room - h.0) (reached_next c h.2) h.3))

  -- the header, field by field
  subframe_inside : HoldsBefore P bs 36 → InsideAt (behind_count P bs (little_at 4 28 bs) (little_at 4 32 bs)) 36 bs → EndsInside P bs
  unfolding seen_in
  subframe_inside b i = either (field_inside (always 26) P.subframe (λ _. records_behind P bs) 36 bs i)
      (λ c. in_header 7 (omega arith) b c)
      (λ g. records_inside [] (little_at 4 32 bs) 40 _ (first (holds_subframe b g.0.1) g.0.0) g.1)

  count_inside : HoldsBefore P bs 32 → InsideAt (behind_objects P bs (little_at 4 28 bs)) 32 bs → EndsInside P bs
  count_inside b i = either (field_inside (always 22) (count_ok P (little_at 4 12 bs)) (behind_count P bs (little_at 4 28 bs)) 32 bs i)
      (λ c. in_header 6 (omega arith) b c)
      (λ g. subframe_inside (holds_count b g.0.1) g.1)

  objects_inside : HoldsBefore P bs 28 → InsideAt (four (always 26) P.objects >>= behind_objects P bs) 28 bs → EndsInside P bs
  objects_inside b i = either (field_inside (always 26) P.objects (behind_objects P bs) 28 bs i)
      (λ c. in_header 5 (omega arith) b c)
      (λ g. count_inside (holds_objects b g.0.1) g.1)

  total_inside : HoldsBefore P bs 12 → InsideAt (four (always 21) P.total >>= counted P) 12 bs → EndsInside P bs
  unfolding counted
  total_inside b i = either (field_inside (always 21) P.total (counted P) 12 bs i)
      (λ c. in_header 1 (omega arith) b c)
      (λ g. free_inside (holds_total b g.0.1) (frees_parted 3 _ 16 bs g.1))
    where
      free_inside : HoldsBefore P bs 28
          → ((i : ℕ) × (i < 3) × Cut (16 + 4 * i) bs) ⊎ InsideAt (four (always 26) P.objects >>= behind_objects P bs) 28 bs
          → EndsInside P bs
      free_inside b (inl f) =
          let e : 16 + 4 * f.0 ≡ 8 + 4 * (f.0 + 2) = omega arith in
          in_header (f.0 + 2) (omega (arith, f.1)) (fewer (8 + 4 * (f.0 + 2)) (omega (arith, f.1)) b) (rw e at f.2)
      free_inside b (inr j) = objects_inside b j

  inside_forth : InsideAt (packet P) 0 bs → EndsInside P bs
  unfolding packet magic
  inside_forth i = either (seq_inside (marker 20 magic) _ 0 bs i)
      (λ x. absurd (marker_outside 20 magic 0 bs x))
      (λ x. let f = marker_inverse 20 magic 0 bs x.0 x.1 x.2 in
      version_inside (holds_magic f.2) (frees_parted 1 (four (always 21) P.total >>= counted P) 8 bs (rw f.1 at x.3)))
    where
      version_inside : HoldsBefore P bs 12
          → ((i : ℕ) × (i < 1) × Cut (8 + 4 * i) bs) ⊎ InsideAt (four (always 21) P.total >>= counted P) 12 bs → EndsInside P bs
      version_inside b (inl f) = in_header f.0 (omega (arith, f.1)) (fewer (8 + 4 * f.0) (omega (arith, f.1)) b) f.2
      version_inside b (inr j) = total_inside b j

-- -- From the offsets to the form

module _ (P : Profile) (bs : List ℕ) where
  version_back : take 8 bs ≡ magic → InsideAt (frees 1 >>= (λ _. four (always 21) P.total >>= counted P)) 8 bs → InsideAt (packet P) 0 bs
  unfolding packet magic
  version_back s i = inside_then (marker 20 magic) _ 0 bs 0 8 (sym (marker_whole 20 magic 0 bs s)) i

  total_back : HoldsBefore P bs 12 → 12 ≤ length bs → InsideAt (four (always 21) P.total >>= counted P) 12 bs → InsideAt (packet P) 0 bs
  total_back b h i = version_back b.starts (inside_then (frees 1) _ 8 bs 0 12 (sym (frees_whole 1 8 bs h)) i)

  free_back : HoldsBefore P bs 16 → 16 ≤ length bs → InsideAt (counted P (little_at 4 12 bs)) 16 bs → InsideAt (packet P) 0 bs
  free_back b h i =
      total_back (fewer 12 (omega arith) b) (omega arith)
      (field_then (always 21) P.total (counted P) 12 bs (h, b.total (omega arith)) i)

  objects_back : HoldsBefore P bs 28 → 28 ≤ length bs → InsideAt (four (always 26) P.objects >>= behind_objects P bs) 28 bs
      → InsideAt (packet P) 0 bs
  unfolding counted
  objects_back b h i =
      free_back (fewer 16 (omega arith) b) (omega arith) (inside_then (frees 3) _ 16 bs 0 28 (sym (frees_whole 3 16 bs h)) i)

  count_back : HoldsBefore P bs 32 → 32 ≤ length bs → InsideAt (behind_objects P bs (little_at 4 28 bs)) 32 bs → InsideAt (packet P) 0 bs
  count_back b h i =
      objects_back (fewer 28 (omega arith) b) (omega arith)
      (field_then (always 26) P.objects (behind_objects P bs) 28 bs (h, b.objects (omega arith)) i)

  subframe_back : HoldsBefore P bs 36 → 36 ≤ length bs → InsideAt (behind_count P bs (little_at 4 28 bs) (little_at 4 32 bs)) 36 bs
      → InsideAt (packet P) 0 bs
  subframe_back b h i =
      count_back (fewer 32 (omega arith) b) (omega arith)
      (field_then (always 22) (count_ok P (little_at 4 12 bs)) (behind_count P bs (little_at 4 28 bs)) 32 bs (h, b.count (omega arith)) i)

  reached_back : {ts : List ℕ} {k p room : ℕ} → Reached P bs ts k p room
      → InsideAt (records P (little_at 4 28 bs) (seen_in P ts) k room) p bs → InsideAt (packet P) 0 bs
  unfolding seen_in
  reached_back (first b h) i =
      subframe_back (fewer 36 (omega arith) b) (omega arith)
      (field_then (always 26) P.subframe (λ _. records_behind P bs) 36 bs (h, b.subframe (omega arith)) i)
  reached_back (next {ts = ts} {k = k} {p = p} {room = room} r f t l w) i =
      reached_back r (entry_then P (little_at 4 28 bs) (seen_in P ts) k room p bs f t l w i)

  header_back : (i : ℕ) → i < 8 → HoldsBefore P bs (8 + 4 * i) → Cut (8 + 4 * i) bs → InsideAt (packet P) 0 bs
  unfolding counted
  header_back zero h b c = version_back b.starts (frees_first 1 _ 8 bs 0 (omega arith) c)
  header_back (suc zero) h b c = total_back b (omega (arith, c.0)) (four_first (always 21) P.total _ 12 bs c)
  header_back (suc (suc zero)) h b c = free_back b (omega (arith, c.0)) (frees_first 3 _ 16 bs 0 (omega arith) c)
  header_back (suc (suc (suc zero))) h b c =
      free_back (fewer 16 (omega arith) b) (omega (arith, c.0)) (frees_first 3 _ 16 bs 1 (omega arith) c)
  header_back (suc (suc (suc (suc zero)))) h b c =
      free_back (fewer 16 (omega arith) b) (omega (arith, c.0)) (frees_first 3 _ 16 bs 2 (omega arith) c)
  header_back (suc (suc (suc (suc (suc zero))))) h b c =
      objects_back b (omega (arith, c.0)) (four_first (always 26) P.objects _ 28 bs c)
  header_back (suc (suc (suc (suc (suc (suc zero)))))) h b c =
      count_back b (omega (arith, c.0)) (four_first (always 22) (count_ok P (little_at 4 12 bs)) _ 32 bs c)
  header_back (suc (suc (suc (suc (suc (suc (suc zero))))))) h b c =
      subframe_back b (omega (arith, c.0)) (four_first (always 26) P.subframe _ 36 bs c)
  header_back (suc (suc (suc (suc (suc (suc (suc (suc i)))))))) h b c = absurd (omega arith)

  inside_back : EndsInside P bs → InsideAt (packet P) 0 bs
  inside_back (in_header i h b c) = header_back i h b c
  inside_back (in_type {ts = ts} {k = k} {p = p} {room = room} r c) =
      reached_back r (type_cut P (little_at 4 28 bs) (seen_in P ts) k room p bs c)
  inside_back (in_length {ts = ts} {k = k} {p = p} {room = room} r f t c) =
      reached_back r (length_cut P (little_at 4 28 bs) (seen_in P ts) k room p bs f t c)

-- the form's bytes end inside a field exactly if the packet's do, by offsets
pub inside_exactly : (P : Profile) (bs : List ℕ) → Inside (packet P) bs ↔ EndsInside P bs
inside_exactly P bs = (inside_forth P bs, inside_back P bs)
