-- No packet of either dialect is longer than 32,768 bytes, so a place that waits for one has fewer; and none is shorter than 40.
use mathlib.Core.Bool.{true}
use mathlib.Core.Path.{◌≡◌}
use mathlib.Core.List.{List}
use Prim.Native.Nat.{ℕ, zero, suc, ◌+◌, ◌-◌, ◌*◌, ◌<◌, ◌≤◌}
use native.Mathlib.Omega.{arith}
use lib.ListN.{length, take}
use lib.Seq.{length-take-le}
use Rattle.form.specs.Form.{whole, ◌>>=◌, ◌>>◌, judge}
use Rattle.form.specs.Pieces.{always, free, frees, marker}
use Rattle.form.specs.declared.Judgement.TheVariants.{Whole, Waiting}
use Rattle.form.proofs.Bounds.{Bounded, bounded_more, bounded_then, bounded_four, bounded_whole, bounded_free, bounded_frees}
use Rattle.form.proofs.Bounds.{bounded_marker, waits_short}
use Rattle.form.proofs.Theorems.{judged_stands}
use Rattle.mmwave.specs.Dialects.{profile_of, sentences_of}
use Rattle.mmwave.specs.Packet.{magic, payload, last, records, counted, packet}
use Rattle.mmwave.specs.Profile.{Profile, count_ok, length_ok, see}
use Rattle.mmwave.specs.declared.PacketDialect.{PacketDialect}
use Rattle.mmwave.proofs.Dialects.{sound_of, says_of, least_of}
use Rattle.mmwave.proofs.Paper.{frame_exactly_if_packet}
use Rattle.mmwave.proofs.RecordLaws.{count_room, passed_fits}

module _ (P : Profile) where
  -- a payload of m bytes, and then what follows it
  bounded_payload : (m v n seen k room j : ℕ) → Bounded (records P n seen k (room - v)) j
      → Bounded (free m >> whole v >>= (λ m. records P n seen k (room - m))) (m + j)
  unfolding Bounded ◌>>=◌ free
  bounded_payload zero v n seen k room j b = let e : 0 + j ≡ j = omega arith in rw e b
  bounded_payload (suc m) v n seen k room j b =
      let q : suc m + j - 1 ≡ m + j = omega arith in
      (omega arith, λ _ e. rw q (bounded_payload m v n seen k room j b))

  -- behind a payload length that passed
  bounded_behind : (n seen k room type m : ℕ) → length_ok P (P.rule type n) (suc k) room m ≡ true
      → Bounded (records P n seen k (room - m)) (8 * k + (room - m))
      → Bounded (free m >> whole m >>= (λ m. records P n seen k (room - m))) (8 * suc k + room - 4 - 4)
  bounded_behind n seen k room type m f b =
      let g = passed_fits P (P.rule type n) (suc k) room m f in
      let q : 8 * suc k + room - 4 - 4 ≡ m + (8 * k + (room - m)) = omega arith in
      rw q (bounded_payload m m n seen k room (8 * k + (room - m)) b)

  bounded_records : (n seen k room : ℕ) → Bounded (records P n seen k room) (8 * k + room)
  unfolding records payload last Bounded ◌>>=◌
  bounded_records n seen zero room =
      let e : 8 * 0 + room ≡ room + 0 = omega arith in
      rw e (bounded_then (free room) (λ _. whole P.kind) room 0 (bounded_free room) (λ _. bounded_whole P.kind 0))
  bounded_records n seen (suc k) room = (
    omega arith,
    λ type _. (
      omega arith,
      λ m f.
          bounded_behind n (see P seen type) k room type m f (bounded_records n (see P seen type) k (room - m)),
    ),
  )

  -- behind the total length l
  bounded_counted : (l : ℕ) → 40 ≤ l → Bounded (counted P l) (12 + (4 + (4 + (4 + (l - 40)))))
  unfolding counted
  bounded_counted l h =
      bounded_then (frees 3) _ 12 _ (bounded_frees 3)
      (λ _. bounded_four (always 26) P.objects _ _ (λ n _. bounded_four (always 22) (count_ok P l) _ _
      (λ k c. bounded_four (always 26) P.subframe _ _ (λ _ _. behind n k (count_room P l k c)))))
    where
      behind : (n k : ℕ) → 40 + 8 * k ≤ l → Bounded (records P n 0 k (l - (40 + 8 * k))) (l - 40)
      behind n k r = let q : l - 40 ≡ 8 * k + (l - (40 + 8 * k)) = omega arith in rw q (bounded_records n 0 k (l - (40 + 8 * k)))

  bounded_packet : ((l : ℕ) → P.total l ≡ true → (40 ≤ l) × (l ≤ 32768)) → Bounded (packet P) 32768
  unfolding packet magic
  bounded_packet totals =
      bounded_then (marker 20 magic) _ 8 32760 (bounded_marker 20 magic)
      (λ _. bounded_then (frees 1) _ 4 32756 (bounded_frees 1)
      (λ _. bounded_four (always 21) P.total _ 32752 (λ l t. behind l (totals l t))))
    where
      behind : (l : ℕ) → (40 ≤ l) × (l ≤ 32768) → Bounded (counted P l) 32752
      behind l t = let a = t.0 in let b = t.1 in bounded_more (counted P l) _ 32752 (omega arith) (bounded_counted l a)

-- a place that waits for a packet has fewer bytes than the longest one
pub packet_short : (d : PacketDialect) (bs : List ℕ) → judge (packet (profile_of d)) 0 bs ≡ Waiting → length bs < 32768
packet_short d bs e =
    waits_short (packet (profile_of d)) 32768 0 bs
    (bounded_packet (profile_of d) (λ l t. ((sound_of d).total_least l t, ((says_of d).bounds l t).1))) e

-- no packet is shorter than its header
pub packet_least : (d : PacketDialect) (bs : List ℕ) (k n : ℕ) → judge (packet (profile_of d)) 0 bs ≡ Whole k n → 40 ≤ n
packet_least d bs k n e =
    let s = judged_stands (packet (profile_of d)) k n bs e in
    let p = ((frame_exactly_if_packet (profile_of d) (sound_of d) (sentences_of d) (says_of d) k (take n bs)).0 s.frame).1 in
    let l = length-take-le n bs s.within in
    let m = least_of d (length (take n bs)) p.at_least in
    omega arith
