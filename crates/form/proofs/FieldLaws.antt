-- A form that begins with four-byte fields, taken apart behind the first: where it is judged whole, where it is refused, and where
-- the bytes end inside a field.
use mathlib.Core.Bool.{Bool, true, false}
use mathlib.Core.Path.{◌≡◌, refl, sym}
use mathlib.Core.List.{List}
use mathlib.Core.Logic.{◌⊎◌, inl, inr}
use Prim.Native.Nat.{ℕ, ◌+◌, ◌*◌, ◌<◌, ◌≤◌}
use lib.ListN.{length}
use Rattle.digits.specs.LittleEndian.{little_at}
use Rattle.digits.proofs.Choices.{either}
use Rattle.form.specs.declared.Judgement.TheVariants.{Whole, Bad}
use Rattle.form.specs.Form.{Form, ◌>>=◌, judge_at}
use Rattle.form.specs.Pieces.{four, frees, Cut}
use Rattle.form.proofs.PieceLaws.{go_on, seq_inverse, four_inverse, four_whole, frees_inverse}
use Rattle.form.proofs.Refusals.{seq_refused, four_refused, frees_not_refused}
use Rattle.form.proofs.Insides.{InsideAt, seq_inside, inside_then, four_inside, frees_inside}

-- -- A field with a test

-- the field is there, and its number passes
abbrev pub Taken : (ℕ → Bool) → ℕ → List ℕ → Type 0
Taken t at bs = (at + 4 ≤ length bs) × (t (little_at 4 at bs) ≡ true)

-- the field is there, and its number does not pass
abbrev pub NotTaken : (ℕ → Bool) → ℕ → List ℕ → Type 0
NotTaken t at bs = (at + 4 ≤ length bs) × (t (little_at 4 at bs) ≡ false)

module _ (r : ℕ → ℕ) (t : ℕ → Bool) (next : ℕ → Form) (at : ℕ) (bs : List ℕ) where
  -- behind a field that passes the rest is judged
  pub field_on : Taken t at bs → judge_at (four r t >>= next) at bs ≡ judge_at (next (little_at 4 at bs)) (at + 4) bs
  field_on k = go_on (four r t) next at bs (four_whole r t at bs k.0 k.1) refl

  taken : (u d : ℕ) → judge_at (four r t) at bs ≡ Whole u d → (Taken t at bs) × (u ≡ little_at 4 at bs) × (d ≡ at + 4)
  taken u d w = let f = four_inverse r t at bs u d w in ((f.3, rw f.0 at f.2), f.0, f.1)

  -- a whole judgement took the field, and the rest is whole
  pub field_read : (v z : ℕ) → judge_at (four r t >>= next) at bs ≡ Whole v z
      → Taken t at bs × (judge_at (next (little_at 4 at bs)) (at + 4) bs ≡ Whole v z)
  field_read v z w =
      let g = seq_inverse (four r t) next at bs v z w in let f = taken g.0 g.1 g.2 in
      (f.0, rw (f.1, f.2) at g.3)

  -- a refusal is the field's, or the field was taken and the rest is refused
  pub field_refused : (q : ℕ) → judge_at (four r t >>= next) at bs ≡ Bad q
      → ((q ≡ r (little_at 4 at bs)) × NotTaken t at bs) ⊎ (Taken t at bs × (judge_at (next (little_at 4 at bs)) (at + 4) bs ≡ Bad q))
  field_refused q w = either (seq_refused (four r t) next at bs q w)
      (λ h. let f = four_refused r t at bs q h in inl (f.0, (f.1, f.2)))
      (λ g. let f = taken g.0 g.1 g.2 in inr (f.0, rw (f.1, f.2) at g.3))

  -- bytes that end inside a field end inside this one, or it was taken and they end inside the rest
  pub field_inside : InsideAt (four r t >>= next) at bs → Cut at bs ⊎ (Taken t at bs × InsideAt (next (little_at 4 at bs)) (at + 4) bs)
  field_inside i = either (seq_inside (four r t) next at bs i)
      (λ h. inl (four_inside r t at bs h))
      (λ g. let f = taken g.0 g.1 g.2 in inr (f.0, rw (f.1, f.2) at g.3))

  -- behind a field that passes they end inside the rest
  pub field_then : Taken t at bs → InsideAt (next (little_at 4 at bs)) (at + 4) bs → InsideAt (four r t >>= next) at bs
  field_then k i = inside_then (four r t) next at bs (little_at 4 at bs) (at + 4) (sym (four_whole r t at bs k.0 k.1)) i

-- -- Free fields

module _ (n : ℕ) (q : Form) (at : ℕ) (bs : List ℕ) where
  -- a whole judgement is whole behind them
  pub frees_read : (v z : ℕ) → judge_at (frees n >>= (λ _. q)) at bs ≡ Whole v z → judge_at q (at + 4 * n) bs ≡ Whole v z
  frees_read v z w = let g = seq_inverse (frees n) (λ _. q) at bs v z w in rw (frees_inverse n at bs g.0 g.1 g.2).1 at g.3

  -- a refusal comes behind them
  pub frees_refused : (r : ℕ) → judge_at (frees n >>= (λ _. q)) at bs ≡ Bad r → judge_at q (at + 4 * n) bs ≡ Bad r
  frees_refused r w = either (seq_refused (frees n) (λ _. q) at bs r w)
      (λ h. absurd (frees_not_refused n at r bs h))
      (λ g. rw (frees_inverse n at bs g.0 g.1 g.2).1 at g.3)

  -- bytes that end inside a field end inside one of them, or behind them
  pub frees_parted : InsideAt (frees n >>= (λ _. q)) at bs → ((i : ℕ) × (i < n) × Cut (at + 4 * i) bs) ⊎ InsideAt q (at + 4 * n) bs
  frees_parted i = either (seq_inside (frees n) (λ _. q) at bs i)
      (λ h. inl (frees_inside n at bs h))
      (λ g. inr (rw (frees_inverse n at bs g.0 g.1 g.2).1 at g.3))
