-- A packet by its offsets, for any profile: what stands between the form and the papers' own sentences
-- (`frame_exactly_if_laid`, `bad_exactly`, `inside_exactly`).
use Rattle.std.specs.Prelude.{true, false, ◌≡◌, List, [], ◌∷◌, ℕ, suc, ◌+◌, ◌-◌, ◌*◌, ◌<◌, ◌≤◌, length, take}
use Rattle.digits.specs.LittleEndian.{little_at}
use Rattle.form.specs.Pieces.{Broken, Cut}
use Rattle.mmwave.specs.Profile.{Profile, legal, count_ok, fresh, type_ok, length_ok, seen_in}
use Rattle.mmwave.specs.Packet.{magic}

-- behind records of types ts, the last one first, k records stand right behind one another from offset p to e, each of a type that those
-- before it leave and of a payload length that is legal for its type
pub data Records (P : Profile) (bs : List ℕ) (n : ℕ) : List ℕ → ℕ → ℕ → ℕ → Type 0 where
  none : {ts : List ℕ} {p : ℕ} → Records P bs n ts 0 p p
  more : {ts : List ℕ} {k p e : ℕ} → fresh P (seen_in P ts) (little_at 4 p bs) ≡ true
      → legal (P.rule (little_at 4 p bs) n) (little_at 4 (p + 4) bs) ≡ true
      → Records P bs n (little_at 4 p bs ∷ ts) k (p + 8 + little_at 4 (p + 4) bs) e → Records P bs n ts (suc k) p e

-- the bytes are one packet: the header's fields at their offsets, the records from offset 40 on, and the padding
pub record Laid (P : Profile) (bs : List ℕ) : Type 0 where
  pub starts : take 8 bs ≡ magic
  pub says : little_at 4 12 bs ≡ length bs
  pub total : P.total (length bs) ≡ true
  pub objects : P.objects (little_at 4 28 bs) ≡ true
  pub count : little_at 4 32 bs ≤ 32
  pub subframe : P.subframe (little_at 4 36 bs) ≡ true
  pub end : ℕ
  pub records : Records P bs (little_at 4 28 bs) [] (little_at 4 32 bs) 40 end
  pub above : end ≤ length bs
  pub padding : length bs - end ≤ P.padding

-- -- How far the checks have come

-- the magic holds, and so does the test of each header field before the offset
pub record HoldsBefore (P : Profile) (bs : List ℕ) (at : ℕ) : Type 0 where
  pub starts : take 8 bs ≡ magic
  pub total : 12 < at → P.total (little_at 4 12 bs) ≡ true
  pub objects : 28 < at → P.objects (little_at 4 28 bs) ≡ true
  pub count : 32 < at → count_ok P (little_at 4 12 bs) (little_at 4 32 bs) ≡ true
  pub subframe : 36 < at → P.subframe (little_at 4 36 bs) ≡ true

-- every check before offset p holds, the records before it are there with the types ts, the last one first, and k records with this room
-- are left
pub data Reached (P : Profile) (bs : List ℕ) : List ℕ → ℕ → ℕ → ℕ → Type 0 where
  first : HoldsBefore P bs 40 → 40 ≤ length bs
      → Reached P bs [] (little_at 4 32 bs) 40 (little_at 4 12 bs - (40 + 8 * little_at 4 32 bs))
  next : {ts : List ℕ} {k p room : ℕ} → Reached P bs ts (suc k) p room → fresh P (seen_in P ts) (little_at 4 p bs) ≡ true
      → type_ok P (little_at 4 28 bs) (suc k) room (little_at 4 p bs) ≡ true
      → length_ok P (P.rule (little_at 4 p bs) (little_at 4 28 bs)) (suc k) room (little_at 4 (p + 4) bs) ≡ true
      → p + 8 + little_at 4 (p + 4) bs ≤ length bs
      → Reached P bs (little_at 4 p bs ∷ ts) k (p + 8 + little_at 4 (p + 4) bs) (room - little_at 4 (p + 4) bs)

-- a check that is due fails and every check before it holds: the first that fails gives the reason (paper 01, "Judging a place")
pub data Refused (P : Profile) (bs : List ℕ) : ℕ → Type 0 where
  at_magic : Broken magic bs → Refused P bs 20
  at_total : HoldsBefore P bs 12 → 16 ≤ length bs → P.total (little_at 4 12 bs) ≡ false → Refused P bs 21
  at_objects : HoldsBefore P bs 28 → 32 ≤ length bs → P.objects (little_at 4 28 bs) ≡ false → Refused P bs 26
  at_count : HoldsBefore P bs 32 → 36 ≤ length bs → count_ok P (little_at 4 12 bs) (little_at 4 32 bs) ≡ false → Refused P bs 22
  at_subframe : HoldsBefore P bs 36 → 40 ≤ length bs → P.subframe (little_at 4 36 bs) ≡ false → Refused P bs 26
  at_repeat : {ts : List ℕ} {k p room : ℕ} → Reached P bs ts (suc k) p room → p + 4 ≤ length bs
      → fresh P (seen_in P ts) (little_at 4 p bs) ≡ false → Refused P bs 25
  at_type : {ts : List ℕ} {k p room : ℕ} → Reached P bs ts (suc k) p room → p + 4 ≤ length bs
      → fresh P (seen_in P ts) (little_at 4 p bs) ≡ true
      → type_ok P (little_at 4 28 bs) (suc k) room (little_at 4 p bs) ≡ false → Refused P bs 23
  at_length : {ts : List ℕ} {k p room : ℕ} → Reached P bs ts (suc k) p room → p + 8 ≤ length bs
      → fresh P (seen_in P ts) (little_at 4 p bs) ≡ true → type_ok P (little_at 4 28 bs) (suc k) room (little_at 4 p bs) ≡ true
      → length_ok P (P.rule (little_at 4 p bs) (little_at 4 28 bs)) (suc k) room (little_at 4 (p + 4) bs) ≡ false → Refused P bs 24

-- the bytes end inside a four-byte field, by the profile's tests; the papers' own words are `EndsInField`.
-- The fields are the eight of the header behind the magic, at 8, 12, .. 36, and those of the record at p
pub data EndsInside (P : Profile) (bs : List ℕ) : Type 0 where
  in_header : (i : ℕ) → i < 8 → HoldsBefore P bs (8 + 4 * i) → Cut (8 + 4 * i) bs → EndsInside P bs
  in_type : {ts : List ℕ} {k p room : ℕ} → Reached P bs ts (suc k) p room → Cut p bs → EndsInside P bs
  in_length : {ts : List ℕ} {k p room : ℕ} → Reached P bs ts (suc k) p room → fresh P (seen_in P ts) (little_at 4 p bs) ≡ true
      → type_ok P (little_at 4 28 bs) (suc k) room (little_at 4 p bs) ≡ true → Cut (p + 4) bs → EndsInside P bs
