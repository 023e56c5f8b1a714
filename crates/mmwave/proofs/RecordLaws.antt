-- The laws by which the packet's code is proved, for any profile: one for each case of a definition.
use Rattle.std.proofs.Common.{Bool, true, false, cond, ◌&&◌, ◌||◌, ◌≡◌, refl, sym, ap, ◌∙◌, List, ◌⊎◌, inl, inr, ℕ, zero, suc, ◌+◌, ◌-◌, ◌*◌, ◌≤◌, arith, bit_and, bit_or, leb, ltb, leb-true}
use Rattle.digits.proofs.Choices.{and_left, and_right, and_parts, and_both}
use Rattle.form.specs.declared.Judgement.{Judgement}
use Rattle.form.specs.declared.Judgement.TheVariants.{Whole, Bad}
use Rattle.form.specs.Form.{Form, whole, ◌>>=◌, judge_at}
use Rattle.form.specs.Pieces.{any, always, four, free}
use Rattle.form.proofs.PieceLaws.{four_inverse, go_on, whole_there, taken, refused}
use Rattle.mmwave.specs.declared.Rule.{Rule}
use Rattle.mmwave.specs.Profile.{Profile, legal, count_ok, fits, possible, fresh, type_ok, type_passes, type_reason, length_ok, see}
use Rattle.mmwave.specs.Packet.{type_field, payload, last, records}
use Rattle.mmwave.proofs.Marks.{unseen, seen_with}

-- -- The tests

-- the test of a type, by its rule
pub type_test : (P : Profile) (n k room type : ℕ) {rule : Rule} {b : Bool} → rule ≡ P.rule type n → b ≡ possible P k room rule
    → b ≡ type_ok P n k room type
unfolding type_ok
type_test P n k room type e h = h ∙ ap (possible P k room) e

-- a legal length is tested for its fit
pub length_both : (P : Profile) (rule : Rule) (k room m : ℕ) {a b : Bool} → a ≡ legal rule m → a ≡ true → b ≡ fits P k room m
    → b ≡ length_ok P rule k room m
unfolding length_ok
length_both P rule k room m h t f = f ∙ ap (λ (x : Bool). x && fits P k room m) (sym t ∙ h)

-- a length that is not legal
pub length_not : (P : Profile) (rule : Rule) (k room m : ℕ) {a : Bool} → a ≡ legal rule m → a ≡ false → false ≡ length_ok P rule k room m
unfolding length_ok
length_not P rule k room m h t = ap (λ (x : Bool). x && fits P k room m) (sym t ∙ h)

-- a type passes both tests
pub type_passes_lem : (P : Profile) (n seen k room type : ℕ) → fresh P seen type ≡ true → type_ok P n k room type ≡ true
    → type_passes P n seen k room type ≡ true
unfolding type_passes
type_passes_lem P n seen k room type f t = and_both (fresh P seen type) (type_ok P n k room type) f t

-- a type that passes passed both
pub type_passed : (P : Profile) (n seen k room type : ℕ) → type_passes P n seen k room type ≡ true
    → (fresh P seen type ≡ true) × (type_ok P n k room type ≡ true)
unfolding type_passes
type_passed P n seen k room type h = and_parts (fresh P seen type) (type_ok P n k room type) h

-- a type that is refused failed one, and the reason says which
abbrev pub TypeFailed : Profile → ℕ → ℕ → ℕ → ℕ → ℕ → ℕ → Type 0
TypeFailed P n seen k room type r =
    ((r ≡ 25) × (fresh P seen type ≡ false)) ⊎ ((r ≡ 23) × (fresh P seen type ≡ true) × (type_ok P n k room type ≡ false))

pub type_failed : (P : Profile) (n seen k room type r : ℕ) → type_passes P n seen k room type ≡ false → r ≡ type_reason P seen type
    → TypeFailed P n seen k room type r
unfolding type_passes type_reason
type_failed P n seen k room type r h e = go (fresh P seen type) refl h e
  where
    go : (f : Bool) → fresh P seen type ≡ f → (f && type_ok P n k room type) ≡ false → r ≡ cond f 23 25 → TypeFailed P n seen k room type r
    go true f t i = inr (i, f, t)
    go false f t i = inl (i, f)

-- and the other way round
pub type_repeats : (P : Profile) (n seen k room type : ℕ) → fresh P seen type ≡ false
    → (type_passes P n seen k room type ≡ false) × (type_reason P seen type ≡ 25)
unfolding type_passes type_reason
type_repeats P n seen k room type f = rw f (refl, refl)

pub type_unfit : (P : Profile) (n seen k room type : ℕ) → fresh P seen type ≡ true → type_ok P n k room type ≡ false
    → (type_passes P n seen k room type ≡ false) × (type_reason P seen type ≡ 23)
unfolding type_passes type_reason
type_unfit P n seen k room type f t = rw (f, t) (refl, refl)

-- a type that is there, by its tests
module _ (P : Profile) (n seen k room at : ℕ) (bs : List ℕ) {j : Judgement} {v e : ℕ} (a : j ≡ judge_at (four (always 0) any) at bs)
    (b : j ≡ Whole v e) where
  pub type_repeated : fresh P seen v ≡ false → Bad 25 ≡ judge_at (type_field P n seen k room) at bs
  type_repeated f = let g = type_repeats P n seen k room v f in
      ap Bad (sym g.1) ∙ refused (type_reason P seen) (type_passes P n seen k room) at bs a b g.0

  pub type_not : fresh P seen v ≡ true → type_ok P n k room v ≡ false → Bad 23 ≡ judge_at (type_field P n seen k room) at bs
  type_not f t = let g = type_unfit P n seen k room v f t in
      ap Bad (sym g.1) ∙ refused (type_reason P seen) (type_passes P n seen k room) at bs a b g.0

  pub type_taken : fresh P seen v ≡ true → type_ok P n k room v ≡ true → Whole v e ≡ judge_at (type_field P n seen k room) at bs
  type_taken f t = taken (type_reason P seen) (type_passes P n seen k room) at bs a b (type_passes_lem P n seen k room v f t)

  -- by what the code has found of it: its mark is not among those seen, and some length of its rule fits
  pub type_found : {mark : ℕ} {rule : Rule} {t : Bool} → mark ≡ P.mark v → bit_and seen mark ≡ 0 → rule ≡ P.rule v n
      → t ≡ possible P k room rule → t ≡ true → Whole v e ≡ judge_at (type_field P n seen k room) at bs
  type_found m u r t h = type_taken (unseen P seen v m u) (sym (type_test P n k room v r t) ∙ h)

-- a payload judged by the rule of its type
pub payload_by : (P : Profile) (n k room type at : ℕ) (bs : List ℕ) {rule : Rule} {r : Judgement} → rule ≡ P.rule type n
    → r ≡ judge_at (payload P rule k room) at bs → r ≡ judge_at (payload P (P.rule type n) k room) at bs
payload_by P n k room type at bs e h = h ∙ ap (λ (rule : Rule). judge_at (payload P rule k room) at bs) e

-- -- The records

-- a record count that passed leaves room for the records' headers
pub count_room : (P : Profile) (l k : ℕ) → count_ok P l k ≡ true → 40 + 8 * k ≤ l
unfolding count_ok
count_room P l k h = let r = ltb 0 k || leb (l - 40) P.padding in
    leb-true (40 + 8 * k) l (and_left (leb (40 + 8 * k) l) r (and_right (leb k 32) (leb (40 + 8 * k) l && r) h))

-- the same where it was read
pub count_leaves : (P : Profile) (l at : ℕ) (bs : List ℕ) {k e : ℕ} {r : Judgement} → r ≡ judge_at (four (always 22) (count_ok P l)) at bs
    → r ≡ Whole k e → 40 + 8 * k ≤ l
count_leaves P l at bs {k} {e} a b = count_room P l k (four_inverse (always 22) (count_ok P l) at bs k e (sym a ∙ b)).2

-- the padding is there: the packet ends behind it, with its kind
pub last_whole : (P : Profile) (room at : ℕ) (bs : List ℕ) {v u e : ℕ} {r : Judgement} → v ≡ P.kind → r ≡ judge_at (free room) at bs
    → r ≡ Whole u e → Whole v e ≡ judge_at (last P room) at bs
unfolding last
last_whole P room at bs {v} {u} {e} k a b =
    ap (λ (v : ℕ). Whole v e) k ∙ whole_there P.kind e bs ∙ sym (go_on (free room) (λ _. whole P.kind) at bs a b)

-- no record is left
pub records_none : (P : Profile) (n seen k room at : ℕ) (bs : List ℕ) → k ≡ 0
    → judge_at (last P room) at bs ≡ judge_at (records P n seen k room) at bs
unfolding records
records_none P n seen k room at bs h = rw h

-- the records behind one of a type with this mark
pub records_behind_lem : (P : Profile) (n seen k room type at : ℕ) (bs : List ℕ) {mark : ℕ} {r : Judgement} → mark ≡ P.mark type
    → r ≡ judge_at (records P n (bit_or seen mark) k room) at bs → r ≡ judge_at (records P n (see P seen type) k room) at bs
records_behind_lem P n seen k room type at bs e h =
    h ∙ ap (λ (seen : ℕ). judge_at (records P n seen k room) at bs) (seen_with P seen type e)

-- what follows the type of the first of k records: its payload length and payload, and the remaining records
abbrev pub behind_type : Profile → ℕ → ℕ → ℕ → ℕ → ℕ → Form
behind_type P n seen k room type = payload P (P.rule type n) k room >>= (λ m. records P n (see P seen type) (k - 1) (room - m))

-- the first one, then the remaining ones right behind it
records_more : (P : Profile) (n seen k room : ℕ) → (k ≡ 0 → ⊥)
    → records P n seen k room ≡ type_field P n seen k room >>= behind_type P n seen k room
unfolding records
records_more P n seen zero room h = absurd (h refl)
records_more P n seen (suc k) room h = ap (λ (j : ℕ). type_field P n seen (suc k) room >>= (λ type. behind type j)) e
  where
    behind : ℕ → ℕ → Form
    behind type j = payload P (P.rule type n) (suc k) room >>= (λ m. records P n (see P seen type) j (room - m))

    e : k ≡ suc k - 1
    e = omega arith

pub records_first : (P : Profile) (n seen k room at : ℕ) (bs : List ℕ) {r : Judgement} → (k ≡ 0 → ⊥)
    → r ≡ judge_at (type_field P n seen k room >>= behind_type P n seen k room) at bs → r ≡ judge_at (records P n seen k room) at bs
records_first P n seen k room at bs s h = h ∙ sym (ap (λ (p : Form). judge_at p at bs) (records_more P n seen k room s))

-- a payload length that passed lies in the room
pub passed_fits : (P : Profile) (rule : Rule) (k room m : ℕ) → length_ok P rule k room m ≡ true → m ≤ room
unfolding length_ok fits
passed_fits P rule k room m a = let r = ltb 1 k || leb (room - m) P.padding in
    leb-true m room (and_left (leb m room) r (and_right (legal rule m) (leb m room && r) a))
