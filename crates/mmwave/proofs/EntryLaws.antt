-- The first of the records that are left, and what follows it: where they are judged whole, where they are refused, and where the bytes end
-- inside a field.
use mathlib.Core.Bool.{true, false}
use mathlib.Core.Path.{◌≡◌, refl, sym, ap, ◌∙◌}
use mathlib.Core.List.{List}
use mathlib.Core.Logic.{◌⊎◌, inl, inr}
use Prim.Native.Nat.{ℕ, suc, ◌+◌, ◌-◌, ◌≤◌}
use native.Mathlib.Omega.{arith}
use lib.ListN.{length}
use Rattle.digits.specs.LittleEndian.{little_at}
use Rattle.digits.proofs.Choices.{either}
use Rattle.form.specs.declared.Judgement.{Judgement}
use Rattle.form.specs.declared.Judgement.TheVariants.{Whole, Bad}
use Rattle.form.specs.Form.{Form, whole, ◌>>=◌, judge, judge_at, Inside}
use Rattle.form.specs.Pieces.{always, free, Cut}
use Rattle.form.proofs.PieceLaws.{seq_inverse, free_inverse, free_whole, go_on, whole_there}
use Rattle.form.proofs.Refusals.{seq_refused, refuses_first, four_refuses, free_not_refused}
use Rattle.form.proofs.Insides.{InsideAt, seq_inside, inside_first, inside_then, four_first, free_outside}
use Rattle.form.proofs.FieldLaws.{Taken, NotTaken, field_on, field_read, field_refused, field_inside, field_then}
use Rattle.mmwave.specs.declared.Rule.{Rule}
use Rattle.mmwave.specs.Profile.{Profile, fresh, type_ok, type_passes, type_reason, length_ok, see}
use Rattle.mmwave.specs.Packet.{payload, records}
use Rattle.mmwave.proofs.RecordLaws.{type_passes_lem, type_passed, TypeFailed, type_failed, passed_fits}

-- -- Free bytes and an end

-- they are never refused
pub rest_not_refused : (m v p : ℕ) (bs : List ℕ) (r : ℕ) → judge_at (free m >>= (λ _. whole v)) p bs ≡ Bad r → ⊥
unfolding judge
rest_not_refused m v p bs r w = either (seq_refused (free m) (λ _. whole v) p bs r w)
    (λ h. free_not_refused m p r bs h) (λ h. let g = h.3 in let z : ◌≡◌ {A = ℕ} 0 1 = cc in omega arith)

-- they are no four-byte fields
pub rest_outside : (m v p : ℕ) (bs : List ℕ) → InsideAt (free m >>= (λ _. whole v)) p bs → ⊥
unfolding Inside
rest_outside m v p bs i = either (seq_inside (free m) (λ _. whole v) p bs i) (λ j. free_outside m p bs j) (λ g. g.3)

-- back from a whole judgement of them to their bytes
rest_read : (l p : ℕ) (bs : List ℕ) (m e : ℕ) → p ≤ length bs → judge_at (free l >>= (λ _. whole l)) p bs ≡ Whole m e
    → (l ≡ m) × (e ≡ p + l) × (e ≤ length bs)
unfolding judge
rest_read l p bs m e h w = go (seq_inverse (free l) (λ _. whole l) p bs m e w)
  where
    go : (u : ℕ) × (d : ℕ) × (judge_at (free l) p bs ≡ Whole u d) × (judge_at (whole l) d bs ≡ Whole m e)
        → (l ≡ m) × (e ≡ p + l) × (e ≤ length bs)
    go g = let f = free_inverse l p bs g.0 g.1 g.2 in let there : g.1 ≡ e = cc in
        (cc, omega (arith, f.1, there), omega (arith, f.1, f.2 h, there))

-- -- The payload of a record

module _ (P : Profile) (rule : Rule) (k room at : ℕ) (bs : List ℕ) where
  -- a payload length that passes and a payload that is there are whole
  payload_whole : length_ok P rule k room (little_at 4 at bs) ≡ true → at + 4 + little_at 4 at bs ≤ length bs
      → judge_at (payload P rule k room) at bs ≡ Whole (little_at 4 at bs) (at + 4 + little_at 4 at bs)
  unfolding payload
  payload_whole l h = let m = little_at 4 at bs in
      field_on (always 24) (length_ok P rule k room) _ at bs (omega arith, l)
      ∙ go_on (free m) (λ _. whole m) (at + 4) bs (free_whole m (at + 4) bs h) refl
      ∙ sym (whole_there m (at + 4 + m) bs)

  -- back from a whole payload to its bytes
  payload_read : (m e : ℕ) → judge_at (payload P rule k room) at bs ≡ Whole m e
      → (m ≡ little_at 4 at bs) × (length_ok P rule k room m ≡ true) × (e ≡ at + 4 + m) × (e ≤ length bs)
  unfolding payload
  payload_read m e w =
      let g = field_read (always 24) (length_ok P rule k room) _ at bs m e w in
      let r = rest_read (little_at 4 at bs) (at + 4) bs m e g.0.0 g.1 in
      (sym r.0, rw r.0 at g.0.1, omega (arith, r.1, r.0), r.2)

  -- a payload is refused for its length alone
  payload_refused : (r : ℕ) → judge_at (payload P rule k room) at bs ≡ Bad r → (r ≡ 24) × NotTaken (length_ok P rule k room) at bs
  unfolding payload
  payload_refused r w = let m = little_at 4 at bs in either (field_refused (always 24) (length_ok P rule k room) _ at bs r w)
      (λ f. f) (λ g. absurd (rest_not_refused m m (at + 4) bs r g.1))

  payload_refuses : NotTaken (length_ok P rule k room) at bs → judge_at (payload P rule k room) at bs ≡ Bad 24
  unfolding payload
  payload_refuses f =
      refuses_first _ _ at bs 24 (four_refuses (always 24) (length_ok P rule k room) at bs f.0 f.1)

  -- bytes that end inside a field of it end inside its length
  payload_inside : InsideAt (payload P rule k room) at bs → Cut at bs
  unfolding payload
  payload_inside i = let m = little_at 4 at bs in either (field_inside (always 24) (length_ok P rule k room) _ at bs i)
      (λ c. c) (λ g. absurd (rest_outside m m (at + 4) bs g.1))

  payload_cut : Cut at bs → InsideAt (payload P rule k room) at bs
  unfolding payload
  payload_cut c = four_first (always 24) (length_ok P rule k room) _ at bs c

-- a whole payload lies in the room
pub payload_fits : (P : Profile) (rule : Rule) (k room at : ℕ) (bs : List ℕ) (m e : ℕ) {r : Judgement}
    → r ≡ judge_at (payload P rule k room) at bs → r ≡ Whole m e → m ≤ room
payload_fits P rule k room at bs m e a b = passed_fits P rule k room m (payload_read P rule k room at bs m e (sym a ∙ b)).1

-- -- A record, and what follows it

-- what a whole record has: its fields passed, and its payload is there
pub record EntryRead (P : Profile) (n seen k room at : ℕ) (bs : List ℕ) (m e : ℕ) : Type 0 where
  pub length_is : m ≡ little_at 4 (at + 4) bs
  pub fresh_passed : fresh P seen (little_at 4 at bs) ≡ true
  pub type_passed : type_ok P n k room (little_at 4 at bs) ≡ true
  pub length_passed : length_ok P (P.rule (little_at 4 at bs) n) k room m ≡ true
  pub end : e ≡ at + 8 + m
  pub within : e ≤ length bs

module _ (P : Profile) (n seen k room p : ℕ) (bs : List ℕ) where
  abbrev T : ℕ
  T = little_at 4 p bs

  abbrev M : ℕ
  M = little_at 4 (p + 4) bs

  abbrev types : ℕ → Type 0
  types r = TypeFailed P n seen (suc k) room T r

  -- the records behind this one
  abbrev remaining : ℕ → Form
  remaining m = records P n (see P seen T) k (room - m)

  entry_of : (m e : ℕ) → Taken (type_passes P n seen (suc k) room) p bs
      → judge_at (payload P (P.rule T n) (suc k) room) (p + 4) bs ≡ Whole m e → EntryRead P n seen (suc k) room p bs m e
  entry_of m e t w =
      let both = type_passed P n seen (suc k) room T t.1 in
      let g = payload_read P (P.rule T n) (suc k) room (p + 4) bs m e w in
      record {
        length_is = g.0;
        fresh_passed = both.0;
        type_passed = both.1;
        length_passed = g.1;
        end = omega (arith, g.2);
        within = g.3;
      }

  -- a whole judgement read the record, and the rest is whole
  pub entry_read : (v z : ℕ) → judge_at (records P n seen (suc k) room) p bs ≡ Whole v z
      → (m : ℕ) × (d : ℕ) × EntryRead P n seen (suc k) room p bs m d × (judge_at (remaining m) d bs ≡ Whole v z)
  unfolding records
  entry_read v z w =
      let g = field_read (type_reason P seen) (type_passes P n seen (suc k) room) _ p bs v z w in
      let i = seq_inverse (payload P (P.rule T n) (suc k) room) _ (p + 4) bs v z g.1 in
      (i.0, i.1, entry_of i.0 i.1 g.0 i.2, i.3)

  -- a refusal is that of the type or of the payload length, or the record was read and the rest is refused
  pub entry_refused : (r : ℕ) → judge_at (records P n seen (suc k) room) p bs ≡ Bad r
      → ((p + 4 ≤ length bs) × types r)
      ⊎ (((r ≡ 24) × Taken (type_passes P n seen (suc k) room) p bs × NotTaken (length_ok P (P.rule T n) (suc k) room) (p + 4) bs)
      ⊎ ((m : ℕ) × (d : ℕ) × EntryRead P n seen (suc k) room p bs m d × (judge_at (remaining m) d bs ≡ Bad r)))
  unfolding records
  entry_refused r w = either (field_refused (type_reason P seen) (type_passes P n seen (suc k) room) _ p bs r w)
      (λ f. inl (f.1.0, type_failed P n seen (suc k) room T r f.1.1 f.0))
      (λ g. either (seq_refused (payload P (P.rule T n) (suc k) room) _ (p + 4) bs r g.1)
      (λ h. let f = payload_refused P (P.rule T n) (suc k) room (p + 4) bs r h in inr (inl (f.0, g.0, f.1)))
      (λ i. inr (inr (i.0, i.1, entry_of i.0 i.1 g.0 i.2, i.3))))

  -- bytes that end inside a field end inside the type or the payload length, or the record was read and they end inside the rest
  pub entry_inside : InsideAt (records P n seen (suc k) room) p bs
      → Cut p bs
      ⊎ ((Taken (type_passes P n seen (suc k) room) p bs × Cut (p + 4) bs)
      ⊎ ((m : ℕ) × (d : ℕ) × EntryRead P n seen (suc k) room p bs m d × InsideAt (remaining m) d bs))
  unfolding records
  entry_inside x = either (field_inside (type_reason P seen) (type_passes P n seen (suc k) room) _ p bs x)
      (λ c. inl c)
      (λ g. either (seq_inside (payload P (P.rule T n) (suc k) room) _ (p + 4) bs g.1)
      (λ h. inr (inl (g.0, payload_inside P (P.rule T n) (suc k) room (p + 4) bs h)))
      (λ i. inr (inr (i.0, i.1, entry_of i.0 i.1 g.0 i.2, i.3))))

  -- a type that is refused
  pub type_refuses : p + 4 ≤ length bs → {r : ℕ} → (type_passes P n seen (suc k) room T ≡ false) × (type_reason P seen T ≡ r)
      → judge_at (records P n seen (suc k) room) p bs ≡ Bad r
  unfolding records
  type_refuses h {r} f = refuses_first _ _ p bs r
      (four_refuses (type_reason P seen) (type_passes P n seen (suc k) room) p bs h f.0 ∙ ap Bad f.1)

  -- bytes that end inside the type
  pub type_cut : Cut p bs → InsideAt (records P n seen (suc k) room) p bs
  unfolding records
  type_cut c = four_first (type_reason P seen) (type_passes P n seen (suc k) room) _ p bs c

  -- behind a type that passes
  module _ (fresh-passes : fresh P seen T ≡ true) (type-ok : type_ok P n (suc k) room T ≡ true) where
    passes : type_passes P n seen (suc k) room T ≡ true
    passes = type_passes_lem P n seen (suc k) room T fresh-passes type-ok

    -- a payload length that is refused
    pub length_refuses : NotTaken (length_ok P (P.rule T n) (suc k) room) (p + 4) bs
        → judge_at (records P n seen (suc k) room) p bs ≡ Bad 24
    unfolding records
    length_refuses f = let h = f.0 in
        field_on (type_reason P seen) (type_passes P n seen (suc k) room) _ p bs (omega arith, passes)
        ∙ refuses_first _ _ (p + 4) bs 24 (payload_refuses P (P.rule T n) (suc k) room (p + 4) bs f)

    -- bytes that end inside the payload length
    pub length_cut : Cut (p + 4) bs → InsideAt (records P n seen (suc k) room) p bs
    unfolding records
    length_cut c =
        field_then (type_reason P seen) (type_passes P n seen (suc k) room) _ p bs (omega (arith, c.0), passes)
        (inside_first (payload P (P.rule T n) (suc k) room) _ (p + 4) bs (payload_cut P (P.rule T n) (suc k) room (p + 4) bs c))

    -- behind a payload length that passes and a payload that is there
    module _ (length-ok : length_ok P (P.rule T n) (suc k) room M ≡ true) (there : p + 8 + M ≤ length bs) where
      whole_payload : judge_at (payload P (P.rule T n) (suc k) room) (p + 4) bs ≡ Whole M (p + 8 + M)
      whole_payload = payload_whole P (P.rule T n) (suc k) room (p + 4) bs length-ok (omega arith) ∙ ap (Whole M) (omega arith)

      -- the rest is judged
      pub entry_on : judge_at (records P n seen (suc k) room) p bs ≡ judge_at (remaining M) (p + 8 + M) bs
      unfolding records
      entry_on =
          field_on (type_reason P seen) (type_passes P n seen (suc k) room) _ p bs (omega arith, passes)
          ∙ go_on (payload P (P.rule T n) (suc k) room) _ (p + 4) bs (sym whole_payload) refl

      -- bytes end inside the rest
      pub entry_then : InsideAt (remaining M) (p + 8 + M) bs → InsideAt (records P n seen (suc k) room) p bs
      unfolding records
      entry_then i =
          field_then (type_reason P seen) (type_passes P n seen (suc k) room) _ p bs (omega arith, passes)
          (inside_then (payload P (P.rule T n) (suc k) room) _ (p + 4) bs M (p + 8 + M) whole_payload i)
