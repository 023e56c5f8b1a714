-- The form's frame is the packet by its offsets. Each way is a chain along the header's fields and an induction on the record count.
use mathlib.Core.Bool.{true}
use mathlib.Core.Path.{◌≡◌, refl, sym, ap, ◌∙◌}
use mathlib.Core.List.{List, [], ◌∷◌}
use mathlib.Core.Logic.{◌↔◌}
use Prim.Native.Nat.{ℕ, zero, suc, ◌+◌, ◌-◌, ◌*◌, ◌≤◌}
use native.Mathlib.Omega.{arith}
use lib.ListN.{length, take}
use Rattle.digits.specs.LittleEndian.{little_at}
use Rattle.digits.proofs.Choices.{and_left, and_right}
use Rattle.form.specs.declared.Judgement.TheVariants.{Whole}
use Rattle.form.specs.Form.{Form, whole, ◌>>=◌, judge, judge_at, Frame}
use Rattle.form.specs.Pieces.{always, four, marker, free, frees}
use Rattle.form.proofs.PieceLaws.{seq_inverse, free_inverse, marker_inverse, go_on, whole_there}
use Rattle.form.proofs.PieceLaws.{free_whole, frees_whole, marker_whole}
use Rattle.form.proofs.FieldLaws.{field_on, field_read, frees_read}
use Rattle.form.proofs.Theorems.{frame_whole, judged_frame}
use Rattle.mmwave.specs.Profile.{Profile, legal, count_ok, fits, type_ok, length_ok, seen_in, Leaves}
use Rattle.mmwave.specs.Packet.{magic, last, records, counted, packet}
use Rattle.mmwave.specs.Document.{Records, none, more, Laid, HoldsBefore, Reached, next}
use Rattle.mmwave.proofs.RecordLaws.{length_both}
use Rattle.mmwave.proofs.EntryLaws.{EntryRead, entry_read, entry_on}
use Rattle.mmwave.proofs.Tests.{fits_exactly, count_tested, possible_exactly}

-- -- From the judgement to the bytes

-- what k records and the padding, judged whole up to z, have
record RecordsRead (P : Profile) (n : ℕ) (ts : List ℕ) (k room p : ℕ) (bs : List ℕ) (v z : ℕ) : Type 0 where
  kind_is : v ≡ P.kind
  end : ℕ
  laid : Records P bs n ts k p end
  above : end ≤ z
  padding : z - end ≤ P.padding
  stop : z ≡ p + 8 * k + room
  within : z ≤ length bs

last_read : (P : Profile) (n : ℕ) (ts : List ℕ) (room p : ℕ) (bs : List ℕ) (v z : ℕ) → p ≤ length bs → room ≤ P.padding
    → judge_at (last P room) p bs ≡ Whole v z → RecordsRead P n ts 0 room p bs v z
unfolding last judge
last_read P n ts room p bs v z h q w = go (seq_inverse (free room) (λ _. whole P.kind) p bs v z w)
  where
    go : (u : ℕ) × (d : ℕ) × (judge_at (free room) p bs ≡ Whole u d) × (judge_at (whole P.kind) d bs ≡ Whole v z)
        → RecordsRead P n ts 0 room p bs v z
    go g = let f = free_inverse room p bs g.0 g.1 g.2 in let there : g.1 ≡ z = cc in record {
      kind_is = cc;
      end = p;
      laid = none;
      above = omega (arith, f.1);
      padding = omega (arith, f.1);
      stop = omega (arith, f.1);
      within = omega (arith, f.1, f.2 h);
    }

more_read : (P : Profile) (n : ℕ) (ts : List ℕ) (k room p : ℕ) (bs : List ℕ) (v z m d : ℕ)
    → EntryRead P n (seen_in P ts) (suc k) room p bs m d → m ≤ room → RecordsRead P n (little_at 4 p bs ∷ ts) k (room - m) d bs v z
    → RecordsRead P n ts (suc k) room p bs v z
unfolding length_ok
more_read P n ts k room p bs v z m d g i r = record {
  kind_is = r.kind_is;
  end = r.end;
  laid = more {ts = ts} {k = k} {p = p} {e = r.end} g.fresh_passed legal_there (rw next at r.laid);
  above = r.above;
  padding = r.padding;
  stop = omega (arith, r.stop, g.end);
  within = r.within;
}
  where
    next : d ≡ p + 8 + little_at 4 (p + 4) bs
    next = omega (arith, g.end, g.length_is)

    legal_there : legal (P.rule (little_at 4 p bs) n) (little_at 4 (p + 4) bs) ≡ true
    legal_there = rw g.length_is at (and_left (legal (P.rule (little_at 4 p bs) n) m) (fits P (suc k) room m) g.length_passed)

records_read : (P : Profile) (n : ℕ) (ts : List ℕ) (k room p : ℕ) (bs : List ℕ) (v z : ℕ) → p ≤ length bs → (k ≡ 0 → room ≤ P.padding)
    → judge_at (records P n (seen_in P ts) k room) p bs ≡ Whole v z → RecordsRead P n ts k room p bs v z
unfolding records length_ok seen_in
records_read P n ts zero room p bs v z h f w = last_read P n ts room p bs v z h (f refl) w
records_read P n ts (suc k) room p bs v z h f w =
    let g = entry_read P n (seen_in P ts) k room p bs v z w in let m = g.0 in let r = g.2 in
    let f = and_right (legal (P.rule (little_at 4 p bs) n) m) (fits P (suc k) room m) r.length_passed in
    let d = (fits_exactly P k room m).0 f in
    more_read P n ts k room p bs v z m g.1 r d.0
    (records_read P n (little_at 4 p bs ∷ ts) k (room - m) g.1 bs v z r.within d.1 g.3)

-- the header's tests that a whole judgement has passed, and the records behind them
record PacketRead (P : Profile) (bs : List ℕ) (v z : ℕ) : Type 0 where
  before : HoldsBefore P bs 40
  within : 40 ≤ length bs
  rest : judge_at (records P (little_at 4 28 bs) 0 (little_at 4 32 bs) (little_at 4 12 bs - (40 + 8 * little_at 4 32 bs))) 40 bs ≡ Whole v z

packet_read : (P : Profile) (bs : List ℕ) (v z : ℕ) → judge_at (packet P) 0 bs ≡ Whole v z → PacketRead P bs v z
unfolding packet counted magic
packet_read P bs v z w =
    let g₀ = seq_inverse (marker 20 magic) _ 0 bs v z w in
    let f₀ = marker_inverse 20 magic 0 bs g₀.0 g₀.1 g₀.2 in
    let w₀ = frees_read 1 (four (always 21) P.total >>= counted P) 8 bs v z (rw f₀.1 at g₀.3) in
    let g₁ = field_read (always 21) P.total (counted P) 12 bs v z w₀ in
    let g₂ = field_read (always 26) P.objects _ 28 bs v z (frees_read 3 _ 16 bs v z g₁.1) in
    let g₃ = field_read (always 22) (count_ok P (little_at 4 12 bs)) _ 32 bs v z g₂.1 in
    let g₄ = field_read (always 26) P.subframe _ 36 bs v z g₃.1 in
    record {
      before = record {
        starts = f₀.2;
        total = λ i. g₁.0.1;
        objects = λ i. g₂.0.1;
        count = λ i. g₃.0.1;
        subframe = λ i. g₄.0.1;
      };
      within = g₄.0.0;
      rest = g₄.1;
    }

-- bytes that are judged whole from first to last are laid out as a packet
pub judged_laid : (P : Profile) (bs : List ℕ) (v : ℕ) → judge (packet P) 0 bs ≡ Whole v (length bs) → (v ≡ P.kind) × Laid P bs
unfolding seen_in
judged_laid P bs v w =
    let n = little_at 4 28 bs in let l = little_at 4 12 bs in let k = little_at 4 32 bs in
    let g = packet_read P bs v (length bs) w in let b = g.before in
    let c = (count_tested P l k).0 (b.count (omega arith)) in
    let r = records_read P n [] k (l - (40 + 8 * k)) 40 bs v (length bs) g.within (λ e. omega (arith, c.2 e)) g.rest in
    let e : l ≡ length bs = omega (arith, r.stop, c.1) in (
      r.kind_is,
      record {
        starts = b.starts;
        says = e;
        total = rw e at (b.total (omega arith));
        objects = b.objects (omega arith);
        count = c.0;
        subframe = b.subframe (omega arith);
        end = r.end;
        records = r.laid;
        above = r.above;
        padding = r.padding;
      },
    )

-- -- From the bytes to the judgement

-- k records have at least their headers
pub records_least : {P : Profile} {bs : List ℕ} {n : ℕ} {ts : List ℕ} {k p e : ℕ} → Records P bs n ts k p e → p + 8 * k ≤ e
records_least none = omega arith
records_least (more f l r) = omega (arith, records_least r)

-- no records end where they start
pub records_end : {P : Profile} {bs ts : List ℕ} {n k p e : ℕ} → Records P bs n ts k p e → k ≡ 0 → e ≡ p
records_end none h = refl
records_end (more f l r) h = absurd (omega arith)

records_whole : (P : Profile) (bs : List ℕ) (n z : ℕ) {ts : List ℕ} {k p e : ℕ} → Records P bs n ts k p e → e ≤ z → z ≤ length bs
    → z - e ≤ P.padding → judge_at (records P n (seen_in P ts) k (z - (p + 8 * k))) p bs ≡ Whole P.kind z
unfolding records last type_ok seen_in
records_whole P bs n z {p = p} none h i q =
    let s : p + (z - (p + 8 * 0)) ≡ z = omega arith in
    go_on (free (z - (p + 8 * 0))) _ p bs (free_whole (z - (p + 8 * 0)) p bs (omega arith)) refl
    ∙ sym (whole_there P.kind (p + (z - (p + 8 * 0))) bs) ∙ ap (Whole P.kind) s
records_whole P bs n z {ts = ts} {p = p} {e = e} (more {k = k} f l r) h i q =
    let m = little_at 4 (p + 4) bs in let rule = P.rule (little_at 4 p bs) n in
    let b = records_least r in let room = z - (p + 8 * suc k) in
    let s : z - (p + 8 + m + 8 * k) ≡ room - m = omega arith in
    let leaves : Leaves P k room m = (omega arith, λ o. omega (arith, o, records_end r o)) in
    let type-ok = (possible_exactly P k room rule).1 (m, l, leaves) in
    let length-ok = sym (length_both P rule (suc k) room m (sym l) refl (sym ((fits_exactly P k room m).1 leaves))) in
    entry_on P n (seen_in P ts) k room p bs f type-ok length-ok (omega arith)
    ∙ ap (λ (o : ℕ). judge_at (records P n (seen_in P (little_at 4 p bs ∷ ts)) k o) (p + 8 + m) bs) (sym s)
    ∙ records_whole P bs n z r h i q

-- -- How far the checks have come

module _ {P : Profile} {bs : List ℕ} where
  -- the tests before an offset are among those before a later one
  pub fewer : (at : ℕ) {to : ℕ} → at ≤ to → HoldsBefore P bs to → HoldsBefore P bs at
  fewer at h b = record {
    starts = b.starts;
    total = λ i. b.total (omega arith);
    objects = λ i. b.objects (omega arith);
    count = λ i. b.count (omega arith);
    subframe = λ i. b.subframe (omega arith);
  }

  -- the magic holds
  pub holds_magic : take 8 bs ≡ magic → HoldsBefore P bs 12
  holds_magic s = record {
    starts = s;
    total = λ i. absurd (omega arith);
    objects = λ i. absurd (omega arith);
    count = λ i. absurd (omega arith);
    subframe = λ i. absurd (omega arith);
  }

  -- so does the test of one field more
  pub holds_total : HoldsBefore P bs 12 → P.total (little_at 4 12 bs) ≡ true → HoldsBefore P bs 28
  holds_total b t = record {
    starts = b.starts;
    total = λ i. t;
    objects = λ i. absurd (omega arith);
    count = λ i. absurd (omega arith);
    subframe = λ i. absurd (omega arith);
  }

  pub holds_objects : HoldsBefore P bs 28 → P.objects (little_at 4 28 bs) ≡ true → HoldsBefore P bs 32
  holds_objects b t = record {
    starts = b.starts;
    total = λ i. b.total (omega arith);
    objects = λ i. t;
    count = λ i. absurd (omega arith);
    subframe = λ i. absurd (omega arith);
  }

  pub holds_count : HoldsBefore P bs 32 → count_ok P (little_at 4 12 bs) (little_at 4 32 bs) ≡ true → HoldsBefore P bs 36
  holds_count b t = record {
    starts = b.starts;
    total = λ i. b.total (omega arith);
    objects = λ i. b.objects (omega arith);
    count = λ i. t;
    subframe = λ i. absurd (omega arith);
  }

  pub holds_subframe : HoldsBefore P bs 36 → P.subframe (little_at 4 36 bs) ≡ true → HoldsBefore P bs 40
  holds_subframe b t = record {
    starts = b.starts;
    total = λ i. b.total (omega arith);
    objects = λ i. b.objects (omega arith);
    count = λ i. b.count (omega arith);
    subframe = λ i. t;
  }

-- a whole record behind: one less is left
pub reached_next : {P : Profile} {bs ts : List ℕ} {k p room m d : ℕ} → Reached P bs ts (suc k) p room
    → EntryRead P (little_at 4 28 bs) (seen_in P ts) (suc k) room p bs m d → Reached P bs (little_at 4 p bs ∷ ts) k d (room - m)
reached_next {bs = bs} {ts = ts} {k = k} {p = p} {room = room} {d = d} c g =
    let e : d ≡ p + 8 + little_at 4 (p + 4) bs = omega (arith, g.end, g.length_is) in
    rw (e, g.length_is) (next {ts = ts} {k = k} {p = p} {room = room} c g.fresh_passed g.type_passed
    (rw g.length_is at g.length_passed) (omega (arith, g.within)))

module _ (P : Profile) (bs : List ℕ) where
  -- the records, what is judged behind the record count, and behind the object count
  abbrev pub records_behind : Form
  records_behind = records P (little_at 4 28 bs) 0 (little_at 4 32 bs) (little_at 4 12 bs - (40 + 8 * little_at 4 32 bs))

  abbrev pub behind_count : ℕ → ℕ → Form
  behind_count n k = four (always 26) P.subframe >>= (λ _. records P n 0 k (little_at 4 12 bs - (40 + 8 * k)))

  abbrev pub behind_objects : ℕ → Form
  behind_objects n = four (always 22) (count_ok P (little_at 4 12 bs)) >>= (λ k. behind_count n k)

  -- behind the magic the total length is judged
  pub total_on : HoldsBefore P bs 12 → 12 ≤ length bs → judge (packet P) 0 bs ≡ judge_at (four (always 21) P.total >>= counted P) 12 bs
  unfolding packet magic
  total_on b h =
      go_on (marker 20 magic) _ 0 bs (marker_whole 20 magic 0 bs b.starts) refl
      ∙ go_on (frees 1) _ 8 bs (frees_whole 1 8 bs (omega arith)) refl

  -- behind a legal total length the object count is judged
  pub objects_on : HoldsBefore P bs 28 → 28 ≤ length bs
      → judge (packet P) 0 bs ≡ judge_at (four (always 26) P.objects >>= behind_objects) 28 bs
  unfolding counted
  objects_on b h =
      total_on (fewer 12 (omega arith) b) (omega arith)
      ∙ field_on (always 21) P.total (counted P) 12 bs (omega arith, b.total (omega arith))
      ∙ go_on (frees 3) _ 16 bs (frees_whole 3 16 bs (omega arith)) refl

  -- behind a legal object count the record count is judged
  pub count_on : HoldsBefore P bs 32 → 32 ≤ length bs → judge (packet P) 0 bs ≡ judge_at (behind_objects (little_at 4 28 bs)) 32 bs
  count_on b h =
      objects_on (fewer 28 (omega arith) b) (omega arith)
      ∙ field_on (always 26) P.objects behind_objects 28 bs (h, b.objects (omega arith))

  -- behind a legal record count the subframe is judged
  pub subframe_on : HoldsBefore P bs 36 → 36 ≤ length bs
      → judge (packet P) 0 bs ≡ judge_at (behind_count (little_at 4 28 bs) (little_at 4 32 bs)) 36 bs
  subframe_on b h =
      count_on (fewer 32 (omega arith) b) (omega arith)
      ∙ field_on (always 22) (count_ok P (little_at 4 12 bs)) (behind_count (little_at 4 28 bs)) 32 bs (h, b.count (omega arith))

  -- behind a legal header the records are judged
  pub header_on : HoldsBefore P bs 40 → 40 ≤ length bs → judge (packet P) 0 bs ≡ judge_at records_behind 40 bs
  header_on b h =
      subframe_on (fewer 36 (omega arith) b) (omega arith)
      ∙ field_on (always 26) P.subframe (λ _. records_behind) 36 bs (h, b.subframe (omega arith))

-- bytes that are laid out as a packet are judged whole from first to last
pub laid_judged : (P : Profile) (bs : List ℕ) → Laid P bs → judge (packet P) 0 bs ≡ Whole P.kind (length bs)
unfolding seen_in
laid_judged P bs g =
    let l = length bs in let n = little_at 4 28 bs in let k = little_at 4 32 bs in
    let b = records_least g.records in
    let c = (count_tested P l k).1 (g.count, omega (arith, g.above), λ e. omega (arith, g.padding, records_end g.records e)) in
    header_on P bs (record {
      starts = g.starts;
      total = λ i. ap P.total g.says ∙ g.total;
      objects = λ i. g.objects;
      count = λ i. ap (λ (o : ℕ). count_ok P o k) g.says ∙ c;
      subframe = λ i. g.subframe;
    }) (omega (arith, g.above))
    ∙ ap (λ (i : ℕ). judge_at (records P n 0 k (i - (40 + 8 * k))) 40 bs) g.says
    ∙ records_whole P bs n l g.records g.above (omega arith) g.padding

-- bytes are a frame of the packet's form exactly if they are laid out as a packet
pub frame_exactly_if_laid : (P : Profile) (v : ℕ) (bs : List ℕ) → Frame (packet P) v bs ↔ ((v ≡ P.kind) × Laid P bs)
frame_exactly_if_laid P v bs = (
  λ f. judged_laid P bs v (frame_whole (packet P) v bs f),
  λ g. judged_frame (packet P) v bs (laid_judged P bs g.1 ∙ ap (λ (k : ℕ). Whole k (length bs)) (sym g.0)),
)
