-- The papers' packet is the form's frame, for any sound profile whose tests say the papers' sentences.
use mathlib.Core.Bool.{true}
use mathlib.Core.Path.{◌≡◌, sym, ap, ◌∙◌}
use mathlib.Core.List.{List, [], ◌∷◌}
use mathlib.Core.Logic.{◌↔◌}
use Prim.Native.Nat.{ℕ, ◌+◌, ◌-◌, ◌*◌, ◌%◌, ◌≤◌}
use native.Mathlib.Nat.{zero-mod}
use native.Mathlib.Omega.{arith}
use lib.ListN.{length}
use Rattle.digits.specs.LittleEndian.{little_at}
use Rattle.form.specs.Form.{Frame}
use Rattle.mmwave.specs.Profile.{Profile, legal, fresh, seen_in, Sound, Fair}
use Rattle.mmwave.specs.Packet.{magic, packet}
use Rattle.mmwave.specs.Document.{Records, none, more, Laid}
use Rattle.mmwave.specs.Paper.{Sentences, RecordsTo, types_from, Packet, NoneExcludes}
use Rattle.mmwave.specs.Paper.{none as none_paper, more as more_paper}
use Rattle.mmwave.proofs.Marks.{Apart, fresh_first, fresh_more}
use Rattle.mmwave.proofs.Together.{NoneAgain}
use Rattle.mmwave.proofs.Sounds.{fair_more}
use Rattle.mmwave.proofs.Document.{frame_exactly_if_laid, records_least, records_end}

-- the tests of a profile say a dialect's sentences; marks that share a bit are of types that exclude one another; without records L is the
-- least; and an L within the bounds is legal where records of whole units end so that it fits
pub record Says (P : Profile) (W : Sentences) : Type 0 where
  pub kind_is : P.kind ≡ W.kind
  pub legal_says : (n type m : ℕ) → (legal (P.rule type n) m ≡ true) ↔ W.Legal n type m
  pub marks_say : (s t : ℕ) → Apart (P.mark s) (P.mark t) ↔ (W.Excludes s t → ⊥)
  pub together_says : (types : List ℕ) → W.Together types ↔ NoneAgain W [] types
  pub total_says : (l : ℕ) → (P.total l ≡ true) ↔ W.Total l
  pub objects_says : (n : ℕ) → (P.objects n ≡ true) ↔ W.Objects n
  pub subframe_says : (v : ℕ) → (P.subframe v ≡ true) ↔ W.Subframe v
  pub fits_near : (e l : ℕ) → W.Fits e l → (e ≤ l) × (l - e ≤ P.padding)
  pub near_fits : (e l : ℕ) → P.total l ≡ true → e ≤ l → l - e ≤ P.padding → W.Fits e l
  pub bounds : (l : ℕ) → P.total l ≡ true → (W.least ≤ l) × (l ≤ 32768)
  pub alone : (l : ℕ) → P.total l ≡ true → (l - 40 ≤ P.padding) ↔ (l ≡ W.least)
  pub total_follows : (k e l : ℕ) → W.least ≤ l → l ≤ 32768 → W.Fits (40 + e) l → Fair P e → 8 * k ≤ e → (k ≡ 0 → e ≡ 0)
      → P.total l ≡ true

-- records take whole units
records_fair : (P : Profile) (S : Sound P) (bs : List ℕ) (n : ℕ) {ts : List ℕ} {k p e : ℕ} → Records P bs n ts k p e → Fair P (e - p)
records_fair P S bs n {p = p} none = ap (λ (x : ℕ). x % P.unit) nothing ∙ zero-mod P.unit
  where
    nothing : p - p ≡ 0
    nothing = omega arith
records_fair P S bs n {p = p} {e = e} (more {k = k} f l r) =
    ap (λ (x : ℕ). x % P.unit) (parts k (records_least r))
    ∙ fair_more P S n (little_at 4 p bs) (little_at 4 (p + 4) bs) (e - (p + 8 + little_at 4 (p + 4) bs)) l (records_fair P S bs n r)
  where
    parts : (k : ℕ) → p + 8 + little_at 4 (p + 4) bs + 8 * k ≤ e
        → e - p ≡ 8 + little_at 4 (p + 4) bs + (e - (p + 8 + little_at 4 (p + 4) bs))
    parts k h = omega arith

module _ (P : Profile) (S : Sound P) (W : Sentences) (says : Says P W) where
  -- a type is fresh behind others exactly if none of them excludes it
  pub fresh_exactly : (ts : List ℕ) (t : ℕ) → (fresh P (seen_in P ts) t ≡ true) ↔ NoneExcludes W ts t
  unfolding seen_in NoneExcludes
  fresh_exactly [] t = (λ h. tt, λ h. fresh_first P t)
  fresh_exactly (s ∷ ts) t = let m = fresh_more P (seen_in P ts) s t in let r = fresh_exactly ts t in let x = says.marks_say s t in
      (λ h. let g = m.0 h in (x.0 g.1, r.0 g.0), λ g. m.1 (r.1 g.1, x.1 g.0))

  words_forth : {bs : List ℕ} {n : ℕ} {ts : List ℕ} {k p e : ℕ} → Records P bs n ts k p e → RecordsTo W bs n k p e
  words_forth none = none_paper
  words_forth {bs = bs} {n = n} (more {p = p} f l r) =
      more_paper ((says.legal_says n (little_at 4 p bs) (little_at 4 (p + 4) bs)).0 l) (words_forth r)

  none_again : {bs : List ℕ} {n : ℕ} {ts : List ℕ} {k p e : ℕ} → Records P bs n ts k p e → NoneAgain W ts (types_from bs k p)
  unfolding NoneAgain types_from
  none_again none = tt
  none_again {bs = bs} {ts = ts} (more {p = p} f l r) = ((fresh_exactly ts (little_at 4 p bs)).0 f, none_again r)

  words_back : {bs : List ℕ} {n : ℕ} {ts : List ℕ} {k p e : ℕ} → RecordsTo W bs n k p e → NoneAgain W ts (types_from bs k p)
      → Records P bs n ts k p e
  unfolding NoneAgain types_from
  words_back none_paper a = none
  words_back {bs = bs} {n = n} {ts = ts} (more_paper {p = p} l r) a =
      more ((fresh_exactly ts (little_at 4 p bs)).1 a.0) ((says.legal_says n (little_at 4 p bs) (little_at 4 (p + 4) bs)).1 l)
      (words_back {ts = little_at 4 p bs ∷ ts} r a.1)

  -- the records of the papers' packet are the profile's
  pub packet_records : (bs : List ℕ) (g : Packet W bs) → Records P bs (little_at 4 28 bs) [] (little_at 4 32 bs) 40 g.end
  packet_records bs g = words_back g.records ((says.together_says (types_from bs (little_at 4 32 bs) 40)).0 g.once)

  laid_packet : (bs : List ℕ) → Laid P bs → Packet W bs
  unfolding magic
  laid_packet bs g = let b = says.bounds (length bs) g.total in record {
    starts = g.starts;
    total = g.says;
    at_least = b.0;
    at_most = b.1;
    objects = (says.objects_says (little_at 4 28 bs)).0 g.objects;
    count = g.count;
    subframe = (says.subframe_says (little_at 4 36 bs)).0 g.subframe;
    end = g.end;
    records = words_forth g.records;
    once = (says.together_says (types_from bs (little_at 4 32 bs) 40)).1 (none_again g.records);
    fits = says.near_fits g.end (length bs) g.total g.above g.padding;
  }

  -- the total length of a packet is legal: it follows from the rest
  pub packet_total : (bs : List ℕ) → Packet W bs → P.total (length bs) ≡ true
  packet_total bs g =
      let r = packet_records bs g in let k = little_at 4 32 bs in
      let e : g.end ≡ 40 + (g.end - 40) = omega (arith, records_least r) in
      says.total_follows k (g.end - 40) (length bs) g.at_least g.at_most (rw e at g.fits)
      (records_fair P S bs (little_at 4 28 bs) r) (omega (arith, records_least r)) (λ z. omega (arith, records_end r z))

  packet_laid : (bs : List ℕ) → Packet W bs → Laid P bs
  unfolding magic
  packet_laid bs g = let n = says.fits_near g.end (length bs) g.fits in record {
    starts = g.starts;
    says = g.total;
    total = packet_total bs g;
    objects = (says.objects_says (little_at 4 28 bs)).1 g.objects;
    count = g.count;
    subframe = (says.subframe_says (little_at 4 36 bs)).1 g.subframe;
    end = g.end;
    records = packet_records bs g;
    above = n.0;
    padding = n.1;
  }

  -- bytes are a frame of the form exactly if they are a packet in the papers' words, with its kind
  pub frame_exactly_if_packet : (v : ℕ) (bs : List ℕ) → Frame (packet P) v bs ↔ ((v ≡ W.kind) × Packet W bs)
  frame_exactly_if_packet v bs = let f = frame_exactly_if_laid P v bs in (
    λ h. let g = f.0 h in (g.0 ∙ says.kind_is, laid_packet bs g.1),
    λ g. f.1 (g.0 ∙ sym says.kind_is, packet_laid bs g.1),
  )
