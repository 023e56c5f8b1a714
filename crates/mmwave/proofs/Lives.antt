-- The packet's form is live for every sound profile: each test leaves only what some further records can fill.
use mathlib.Core.Bool.{true}
use mathlib.Core.Path.{◌≡◌, refl, sym}
use Prim.Native.Nat.{ℕ, zero, suc, ◌+◌, ◌-◌, ◌*◌, ◌^◌, ◌<◌}
use native.Mathlib.Omega.{arith}
use Rattle.digits.specs.Bytes.{Below, Bytes}
use Rattle.digits.proofs.Choices.{and_left}
use Rattle.form.specs.Form.{Form, whole, ◌>>=◌, Live, Begins}
use Rattle.form.specs.Pieces.{always, marker, free}
use Rattle.form.proofs.Lives.{live_four, live_free, live_frees, live_marker}
use Rattle.mmwave.specs.Profile.{Profile, legal, count_ok, fits, type_ok, type_passes, length_ok, see, Sound, Fair}
use Rattle.mmwave.specs.Packet.{magic, payload, last, records, counted, packet}
use Rattle.mmwave.proofs.RecordLaws.{count_room, passed_fits, length_both, type_passes_lem, type_passed}
use Rattle.mmwave.proofs.Marks.{fresh_unmarked}
use Rattle.mmwave.proofs.Sounds.{fair_start, fair_less, filler_possible, some_count}
use Rattle.mmwave.proofs.Tests.{fits_exactly, possible_exactly}

-- a payload of m free bytes with the value v, and then what follows
live_payload : (m v : ℕ) (h : ℕ → Form) → Live (h v) → Live (free m >>= (λ _. whole v) >>= h)
unfolding Live ◌>>=◌ free
live_payload zero v h l = l
live_payload (suc m) v h l = ((0, omega arith, refl), λ b s a. live_payload m v h l)

-- the filler passes in a fair room, whatever has been seen
filler_passes : (P : Profile) (S : Sound P) (n seen k room : ℕ) → Fair P room → type_passes P n seen (suc k) room S.filler ≡ true
unfolding type_ok
filler_passes P S n seen k room f =
    type_passes_lem P n seen (suc k) room S.filler (fresh_unmarked P seen S.filler S.filler_repeats) (filler_possible P S n k room f)

-- the records of a fair room, whatever has been seen: the filler may repeat
pub live_records : (P : Profile) (S : Sound P) (n seen k room : ℕ) → room < 2 ^ 32 → Fair P room → Live (records P n seen k room)
unfolding records payload last Live ◌>>=◌ length_ok type_ok
live_records P S n seen zero room s f = live_free room (λ _. whole P.kind) tt
live_records P S n seen (suc k) room s f = (
  (S.filler, S.filler_small, filler_passes P S n seen k room f),
  λ type i a. let rule = P.rule type n in
      let g = (possible_exactly P k room rule).0 (type_passed P n seen (suc k) room type a).1 in (
        (
          g.0,
          omega (arith, g.2.0),
          sym (length_both P rule (suc k) room g.0 (sym g.1) refl (sym ((fits_exactly P k room g.0).1 g.2))),
        ),
        λ m j b. let h = passed_fits P rule (suc k) room m b in
            let l = and_left (legal rule m) (fits P (suc k) room m) b in
            live_payload m m (λ m. records P n (see P seen type) k (room - m))
            (live_records P S n (see P seen type) k (room - m) (omega arith) (fair_less P S n type m room f l h)),
      ),
)

-- what follows a legal total length
live_counted : (P : Profile) → Sound P → (l : ℕ) → l < 2 ^ 32 → P.total l ≡ true → Live (counted P l)
unfolding counted
live_counted P S l s t = let o = S.some_objects in let c = some_count P S l t in let u = S.some_subframe in
    live_frees 3 _
    (live_four (always 26) P.objects _ o.0 o.1 o.2 λ n i a.
    live_four (always 22) (count_ok P l) _ c.0 c.1 c.2 λ k j b.
    live_four (always 26) P.subframe _ u.0 u.1 u.2 λ v e q.
    live_records P S n 0 k (l - (40 + 8 * k)) (omega arith) (fair_start P S l k t (count_room P l k b)))

magic_bytes_lem : Bytes magic
unfolding magic Below
magic_bytes_lem = (omega arith, (omega arith, (omega arith, (omega arith, (omega arith, (omega arith, (omega arith, (omega arith, tt))))))))

-- the packet of a sound profile is live
pub live_packet : (P : Profile) → Sound P → Live (packet P)
unfolding packet
live_packet P S = let l = S.some_total in
    live_marker 20 magic _ magic_bytes_lem (live_frees 1 _ (live_four (always 21) P.total _ l.0 l.1 l.2 (live_counted P S)))

-- the packet does not begin empty
pub begins_packet : (P : Profile) → Begins (packet P)
unfolding packet magic marker ◌>>=◌ Begins
begins_packet P = tt
