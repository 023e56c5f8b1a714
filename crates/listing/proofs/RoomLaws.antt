-- The table of a listing has room for every row: no frame is shorter than 8 bytes, so n bytes hold at most n / 8 frames,
-- and a reading that has room for its rows does not depend on how much.
use Rattle.std.proofs.Common.{◌≡◌, ℕ, zero, suc, ◌+◌, ◌-◌, ◌*◌, ◌≤◌, Bool, true, List, [], ◌∷◌, length, drop, sym, refl, ap, ◌∙◌, arith}
use Rattle.digits.specs.Hex.{hex_at}
use Rattle.form.specs.Form.{judge}
use Rattle.form.specs.declared.Judgement.{Judgement}
use Rattle.form.specs.declared.Judgement.TheVariants.{Whole, Bad, Waiting}
use Rattle.form.proofs.PieceLaws.{seq_inverse, marker_inverse}
use Rattle.form.proofs.Theorems.{whole_read}
use Rattle.sirad.proofs.TableLaws.{total_least, whole_length}
use Rattle.mmwave.specs.Profile.{Profile}
use Rattle.mmwave.specs.Packet.{packet, magic}
use Rattle.mmwave.specs.Dialects.{profile_of}
use Rattle.reading.specs.Reading.{Reading, read, reading, on_place, found, skip, lengths, state_full, state_end}
use Rattle.reading.specs.Leftmost.{RowsStand}
use Rattle.reading.specs.declared.Row.{Row}
use Rattle.reading.proofs.Rows.{rows_fit, rows_stand, lengths_and_skips_are_next, next_within}
use Rattle.reading.proofs.LeftmostLaws.{leftmost_exists, room_is_end}
use Rattle.capture.specs.Dialects.{judge_of, form_of}
use Rattle.capture.specs.declared.Dialect.{Dialect}
use Rattle.capture.specs.declared.Dialect.TheVariants.{Sirad, Packets}
use Rattle.capture.proofs.Wires.{lawful_of}
use Rattle.listing.specs.Listing.{closed_reading}

-- -- The shortest frame

packet_least : (P : Profile) (k n : ℕ) (bs : List ℕ) → judge (packet P) 0 bs ≡ Whole k n → 8 ≤ n
unfolding packet magic
packet_least P k n bs h =
    let s = seq_inverse _ _ 0 bs k n h in
    let m = marker_inverse _ _ 0 bs s.0 s.1 s.2 in
    let r = whole_read _ k s.1 n (drop s.1 bs) s.3 in
    omega (arith, m.1, r.end)

-- no frame is shorter than 8 bytes
pub frame_least : (d : Dialect) (k n : ℕ) (bs : List ℕ) → judge_of d bs ≡ Whole k n → 8 ≤ n
unfolding form_of
frame_least Sirad k n bs h = omega (arith, whole_length k n bs h, total_least k (hex_at 4 2 bs))
frame_least (Packets d) k n bs h = packet_least (profile_of d) k n bs h

-- -- Rows and bytes

rows_least : (d : Dialect) (bs : List ℕ) (ws : List Row) → RowsStand (judge_of d) bs ws → 8 * length ws ≤ lengths ws
unfolding RowsStand lengths
rows_least d bs [] h = omega arith
rows_least d bs (w ∷ ws) (h, hs) =
    let a = frame_least d w.kind w.size (drop w.offset bs) h.0 in
    let b = rows_least d bs ws hs in
    omega arith

-- every row takes 8 bytes at least
pub rows_in_bytes : (d : Dialect) (closed : Bool) (room : ℕ) (bs : List ℕ)
    → 8 * length (reading (judge_of d) closed room bs).rows ≤ length bs
rows_in_bytes d closed room bs =
    let r = reading (judge_of d) closed room bs in
    let a = rows_least d bs r.rows (rows_stand (judge_of d) (lawful_of d) closed bs room) in
    let b = lengths_and_skips_are_next (judge_of d) (lawful_of d) closed bs room in
    let e = next_within (judge_of d) (lawful_of d) closed bs room in
    omega arith

-- -- Enough room

place_roomy : (j : Judgement) (at m n : ℕ) (go : ℕ → ℕ → Reading) → ((on_place true j at m go).state ≡ state_full → ⊥) → m ≤ n
    → ((pass m n : ℕ) → ((go pass m).state ≡ state_full → ⊥) → m ≤ n → go pass m ≡ go pass n)
    → on_place true j at m go ≡ on_place true j at n go
place_roomy (Whole k s) at zero n go h l f = absurd (h refl)
place_roomy (Whole k s) at (suc m) zero go h l f = absurd (omega arith)
place_roomy (Whole k s) at (suc m) (suc n) go h l f =
    ap (found (record { offset = at; size = s; kind = k })) (f (s - 1) m n h (omega arith))
place_roomy (Bad r) at m n go h l f = ap skip (f 0 m n h l)
place_roomy Waiting at m n go h l f = ap skip (f 0 m n h l)

read_roomy : (judge : List ℕ → Judgement) (pass at m n : ℕ) (bs : List ℕ) → ((read judge true pass at m bs).state ≡ state_full → ⊥) → m ≤ n
    → read judge true pass at m bs ≡ read judge true pass at n bs
unfolding read
read_roomy judge pass at m n [] h l = refl
read_roomy judge zero at m n (b ∷ bs) h l =
    place_roomy (judge (b ∷ bs)) at m n (λ pass left. read judge true pass (at + 1) left bs) h l
    (λ pass m n. read_roomy judge pass (at + 1) m n bs)
read_roomy judge (suc pass) at m n (b ∷ bs) h l = read_roomy judge pass (at + 1) m n bs h l

module _ (d : Dialect) (bs : List ℕ) where
  ends : (room : ℕ) → length (reading (judge_of d) true (length bs) bs).rows ≤ room
      → (reading (judge_of d) true room bs).state ≡ state_full → ⊥
  ends room h f =
      let e = room_is_end (judge_of d) (lawful_of d) bs room _ (leftmost_exists (judge_of d) (lawful_of d) bs) h in
      let z : ◌≡◌ {A = ℕ} state_full state_end = sym f ∙ e in
      omega arith

  -- with a row for every 8 bytes the closed reading is whole
  pub room_enough : (room : ℕ) → length bs ≤ 8 * room → reading (judge_of d) true room bs ≡ closed_reading d bs
  unfolding closed_reading
  room_enough room h =
      let a = rows_in_bytes d true (length bs) bs in
      let b = rows_fit (judge_of d) (lawful_of d) true bs (length bs) in
      read_roomy (judge_of d) 0 0 room (room + length bs) bs (ends room (omega arith)) (omega arith)
      ∙ sym (read_roomy (judge_of d) 0 0 (length bs) (room + length bs) bs (ends (length bs) b) (omega arith))
