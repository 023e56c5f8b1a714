-- The laws by which code that follows a form is proved: one for each way in which a piece can go, and back from a whole piece to what its
-- bytes were.
use mathlib.Core.Bool.{Bool, true, false, cond}
use mathlib.Core.Path.{◌≡◌, refl, sym, ap, ◌∙◌}
use mathlib.Core.List.{List, [], ◌∷◌}
use Prim.Native.Nat.{ℕ, zero, suc, ◌+◌, ◌*◌, ◌<◌, ◌≤◌}
use native.Mathlib.Omega.{arith}
use native.Mathlib.Decide.{dec_lt, dec_le}
use lib.Dec.{eqb}
use lib.ListN.{length, take, drop, get_or, length-drop, drop_of_length-le}
use borrow.Author.Tests.{eq-eqb, ne_eqb, eqb-true}
use Rattle.digits.specs.LittleEndian.{from_little, little_at}
use Rattle.digits.proofs.Lists.{drop_one, drop_four}
use Rattle.form.specs.declared.Judgement.{Judgement}
use Rattle.form.specs.declared.Judgement.TheVariants.{Whole, Bad, Waiting}
use Rattle.form.specs.Form.{Form, whole, byte, word, ◌>>=◌, judge, judge_at}
use Rattle.form.specs.Numbers.{numbers_of, judgement_of, Judges}
use Rattle.form.specs.declared.Parsed.{Parsed}
use Rattle.form.specs.declared.Unparsed.{Unparsed}
use Rattle.form.specs.declared.Unparsed.TheVariants as unparsed
use Rattle.std.specs.Result.{IsErrAnd}
use Rattle.std.specs.declared.result.Result.{Result}
use Rattle.std.specs.declared.result.Result.TheVariants.{Ok, Err}
use Rattle.form.specs.Pieces.{any, always, four, marker, free, frees}

-- the promise of a judgement is its equation
pub judges : {p : Form} {at : ℕ} {bs : List ℕ} {r : Judgement} → r ≡ judge_at p at bs → Judges p at bs r
judges e = record { answers = e; numbers = ap numbers_of e }

-- -- One node

-- a byte node at a byte that is there
pub byte_step : (r : ℕ) (t : ℕ → Bool) (f : ℕ → Form) (at : ℕ) (bs : List ℕ) → at < length bs
    → judge_at (byte r t f) at bs ≡ cond (t (get_or bs at 0)) (judge_at (f (get_or bs at 0)) (at + 1) bs) (Bad r)
unfolding judge
byte_step r t f at bs h = rw (drop_one bs at h)

-- a byte node behind the last byte
pub byte_ends : (r : ℕ) (t : ℕ → Bool) (f : ℕ → Form) (at : ℕ) (bs : List ℕ) → length bs ≤ at → judge_at (byte r t f) at bs ≡ Waiting
unfolding judge
byte_ends r t f at bs h = rw (drop_of_length-le bs {i = at} h)

-- a four-byte node whose bytes are there
pub word_step : (r : ℕ → ℕ) (t : ℕ → Bool) (f : ℕ → Form) (at : ℕ) (bs : List ℕ) → at + 4 ≤ length bs
    → judge_at (word r t f) at bs ≡ cond (t (little_at 4 at bs)) (judge_at (f (little_at 4 at bs)) (at + 4) bs)
    (Bad (r (little_at 4 at bs)))
unfolding judge
word_step r t f at bs h = rw (drop_four bs at h)

word_short : (r : ℕ → ℕ) (t : ℕ → Bool) (f : ℕ → Form) (at : ℕ) (xs : List ℕ) → length xs < 4 → judge (word r t f) at xs ≡ Waiting
unfolding judge
word_short r t f at [] h = refl
word_short r t f at (a ∷ []) h = refl
word_short r t f at (a ∷ b ∷ []) h = refl
word_short r t f at (a ∷ b ∷ c ∷ []) h = refl
word_short r t f at (a ∷ b ∷ c ∷ d ∷ xs) h = absurd (omega arith)

-- a four-byte node whose fourth byte is not there
pub word_ends : (r : ℕ → ℕ) (t : ℕ → Bool) (f : ℕ → Form) (at : ℕ) (bs : List ℕ) → length bs < at + 4
    → judge_at (word r t f) at bs ≡ Waiting
word_ends r t f at bs h = word_short r t f at (drop at bs) (simp length-drop (omega arith))

-- -- A piece, and then another

-- what comes of a judged piece: its value and end go on, anything else stays
abbrev pub after : Judgement → (ℕ → ℕ → Judgement) → Judgement
after (Whole v e) h = h v e
after (Bad r) h = Bad r
after Waiting h = Waiting

after_cond : (t : Bool) (x : Judgement) (r : ℕ) (h : ℕ → ℕ → Judgement) (y : Judgement) → y ≡ after x h
    → cond t y (Bad r) ≡ after (cond t x (Bad r)) h
after_cond true x r h y e = e
after_cond false x r h y e = refl

-- what the judgement of two pieces is: that of the first and then of the second, from the end of the first
Seq : Form → (ℕ → Form) → ℕ → List ℕ → Type 0
Seq p h at bs = judge_at (p >>= h) at bs ≡ after (judge_at p at bs) (λ v e. judge_at (h v) e bs)

module _ (r : ℕ) (t : ℕ → Bool) (f : ℕ → Form) (h : ℕ → Form) (at : ℕ) (bs : List ℕ) where
  seq_byte : Seq (f (get_or bs at 0)) h (at + 1) bs → Seq (byte r t f) h at bs
  unfolding Seq ◌>>=◌
  seq_byte s = go (dec_lt at (length bs))
    where
      go : Dec (at < length bs) → judge_at (byte r t f >>= h) at bs ≡ after (judge_at (byte r t f) at bs) (λ v e. judge_at (h v) e bs)
      go (yes l) = byte_step r t (λ b. f b >>= h) at bs l
          ∙ after_cond (t (get_or bs at 0)) (judge_at (f (get_or bs at 0)) (at + 1) bs) r (λ v e. judge_at (h v) e bs)
          (judge_at (f (get_or bs at 0) >>= h) (at + 1) bs) s
          ∙ sym (ap (λ (j : Judgement). after j (λ v e. judge_at (h v) e bs)) (byte_step r t f at bs l))
      go (no n) =
          byte_ends r t (λ b. f b >>= h) at bs (omega arith)
          ∙ sym (ap (λ (j : Judgement). after j (λ v e. judge_at (h v) e bs)) (byte_ends r t f at bs (omega arith)))

module _ (r : ℕ → ℕ) (t : ℕ → Bool) (f : ℕ → Form) (h : ℕ → Form) (at : ℕ) (bs : List ℕ) where
  seq_word : Seq (f (little_at 4 at bs)) h (at + 4) bs → Seq (word r t f) h at bs
  unfolding Seq ◌>>=◌
  seq_word s = go (dec_le (at + 4) (length bs))
    where
      go : Dec (at + 4 ≤ length bs) → judge_at (word r t f >>= h) at bs ≡ after (judge_at (word r t f) at bs) (λ v e. judge_at (h v) e bs)
      go (yes l) = word_step r t (λ b. f b >>= h) at bs l
          ∙ after_cond (t (little_at 4 at bs)) (judge_at (f (little_at 4 at bs)) (at + 4) bs) (r (little_at 4 at bs))
          (λ v e. judge_at (h v) e bs) (judge_at (f (little_at 4 at bs) >>= h) (at + 4) bs) s
          ∙ sym (ap (λ (j : Judgement). after j (λ v e. judge_at (h v) e bs)) (word_step r t f at bs l))
      go (no n) =
          word_ends r t (λ b. f b >>= h) at bs (omega arith)
          ∙ sym (ap (λ (j : Judgement). after j (λ v e. judge_at (h v) e bs)) (word_ends r t f at bs (omega arith)))

seq_any : (p : Form) (h : ℕ → Form) (at : ℕ) (bs : List ℕ) → Seq p h at bs
unfolding Seq ◌>>=◌ judge
seq_any (whole v) h at bs = refl
seq_any (byte r t f) h at bs = seq_byte r t f h at bs (seq_any (f (get_or bs at 0)) h (at + 1) bs)
seq_any (word r t f) h at bs = seq_word r t f h at bs (seq_any (f (little_at 4 at bs)) h (at + 4) bs)

-- the judgement of two pieces is that of the first and then of the second, from the end of the first
pub seq : (p : Form) (h : ℕ → Form) (at : ℕ) (bs : List ℕ) → judge_at (p >>= h) at bs
    ≡ after (judge_at p at bs) (λ v e. judge_at (h v) e bs)
unfolding Seq
seq p h at bs = seq_any p h at bs

-- the first piece is whole: the rest is judged from its end
pub go_on : (p : Form) (h : ℕ → Form) (at : ℕ) (bs : List ℕ) {r : Judgement} {v e : ℕ} → r ≡ judge_at p at bs → r ≡ Whole v e
    → judge_at (p >>= h) at bs ≡ judge_at (h v) e bs
go_on p h at bs a b = seq p h at bs ∙ ap (λ (j : Judgement). after j (λ v e. judge_at (h v) e bs)) (sym a ∙ b)

-- nothing more: the value, and the offset that was come to
pub whole_there : (v at : ℕ) (bs : List ℕ) → Whole v at ≡ judge_at (whole v) at bs
unfolding judge
whole_there v at bs = refl

-- what the else of `let Judgement::Whole(..) = r else` knows of r
abbrev pub Halted : Judgement → Type 0
Halted r = (v e : ℕ) → r ≡ Whole v e → ⊥

halted : (r : Judgement) (h : ℕ → ℕ → Judgement) → Halted r → after r h ≡ r
halted (Whole v e) h o = absurd (o v e refl)
halted (Bad r) h o = refl
halted Waiting h o = refl

-- the first piece is not whole: its judgement is that of both
pub halt : (p : Form) (h : ℕ → Form) (at : ℕ) (bs : List ℕ) {r : Judgement} → r ≡ judge_at p at bs → Halted r → r ≡ judge_at (p >>= h) at bs
halt p h at bs {r} a o =
    sym (seq p h at bs ∙ ap (λ (j : Judgement). after j (λ v e. judge_at (h v) e bs)) (sym a) ∙ halted r (λ v e. judge_at (h v) e bs) o)

-- the first piece is bad: so are both
pub stop : (p : Form) (h : ℕ → Form) (at : ℕ) (bs : List ℕ) {r : ℕ} → Bad r ≡ judge_at p at bs → Bad r ≡ judge_at (p >>= h) at bs
stop p h at bs a = sym (seq p h at bs ∙ ap (λ (j : Judgement). after j (λ v e. judge_at (h v) e bs)) (sym a))

-- -- A four-byte field

-- a field whose fourth byte is not there waits
pub four_waits : (r : ℕ → ℕ) (t : ℕ → Bool) (at : ℕ) (bs : List ℕ) → length bs < at + 4 → Waiting ≡ judge_at (four r t) at bs
four_waits r t at bs h = sym (word_ends r t whole at bs h)

-- a field that is there and passes is whole
pub four_whole : (r : ℕ → ℕ) (t : ℕ → Bool) (at : ℕ) (bs : List ℕ) → at + 4 ≤ length bs → t (little_at 4 at bs) ≡ true
    → Whole (little_at 4 at bs) (at + 4) ≡ judge_at (four r t) at bs
unfolding judge
four_whole r t at bs h a = sym (word_step r t whole at bs h ∙ rw a)

-- the number of four bytes that are there, by the bytes
pub little_there : (at : ℕ) (bs : List ℕ) → at + 4 ≤ length bs
    → from_little (get_or bs at 0 ∷ get_or bs (at + 1) 0 ∷ get_or bs (at + 2) 0 ∷ get_or bs (at + 3) 0 ∷ []) ≡ little_at 4 at bs
little_there at bs h = rw (drop_four bs at h)

-- the free field as its bytes give it
pub number_there : (at : ℕ) (bs : List ℕ) {v : ℕ} → at + 4 ≤ length bs
    → v ≡ from_little (get_or bs at 0 ∷ get_or bs (at + 1) 0 ∷ get_or bs (at + 2) 0 ∷ get_or bs (at + 3) 0 ∷ [])
    → Whole v (at + 4) ≡ judge_at (four (always 0) any) at bs
number_there at bs h e = ap (λ (v : ℕ). Whole v (at + 4)) (e ∙ little_there at bs h) ∙ four_whole (always 0) any at bs h refl

-- a field with a test is the free field, and then the test
pub tested : (r : ℕ → ℕ) (t : ℕ → Bool) (at : ℕ) (bs : List ℕ)
    → judge_at (four r t) at bs ≡ after (judge_at (four (always 0) any) at bs) (λ v e. cond (t v) (Whole v e) (Bad (r v)))
unfolding judge
tested r t at bs = go (dec_le (at + 4) (length bs))
  where
    go : Dec (at + 4 ≤ length bs)
        → judge_at (four r t) at bs ≡ after (judge_at (four (always 0) any) at bs) (λ v e. cond (t v) (Whole v e) (Bad (r v)))
    go (yes l) =
        word_step r t whole at bs l ∙ ap (λ (j : Judgement). after j (λ v e. cond (t v) (Whole v e) (Bad (r v))))
        (four_whole (always 0) any at bs l refl)
    go (no n) =
        word_ends r t whole at bs (omega arith)
        ∙ ap (λ (j : Judgement). after j (λ v e. cond (t v) (Whole v e) (Bad (r v)))) (four_waits (always 0) any at bs (omega arith))

-- the field's bytes are not there
pub unread : (r : ℕ → ℕ) (t : ℕ → Bool) (at : ℕ) (bs : List ℕ) {j : Judgement} → j ≡ judge_at (four (always 0) any) at bs → Halted j
    → j ≡ judge_at (four r t) at bs
unread r t at bs {j} a o =
    sym (tested r t at bs ∙ ap (λ (j : Judgement). after j (λ v e. cond (t v) (Whole v e) (Bad (r v)))) (sym a)
    ∙ halted j (λ v e. cond (t v) (Whole v e) (Bad (r v))) o)

module _ (r : ℕ → ℕ) (t : ℕ → Bool) (at : ℕ) (bs : List ℕ) {j : Judgement} {v e : ℕ} (a : j ≡ judge_at (four (always 0) any) at bs)
    (b : j ≡ Whole v e) where
  read_then : judge_at (four r t) at bs ≡ cond (t v) (Whole v e) (Bad (r v))
  read_then = tested r t at bs ∙ ap (λ (j : Judgement). after j (λ v e. cond (t v) (Whole v e) (Bad (r v)))) (sym a ∙ b)

  -- the field is there and passes
  pub taken : t v ≡ true → Whole v e ≡ judge_at (four r t) at bs
  taken h = sym (read_then ∙ rw h)

  -- the field is there and is refused
  pub refused : t v ≡ false → Bad (r v) ≡ judge_at (four r t) at bs
  refused h = sym (read_then ∙ rw h)

-- -- Free bytes

free_all : (n : ℕ) (at : ℕ) (xs : List ℕ) → n ≤ length xs → Whole 0 (at + n) ≡ judge (free n) at xs
unfolding judge free
free_all zero at xs h = ap (Whole 0) (omega arith)
free_all (suc n) at [] h = absurd (omega arith)
free_all (suc n) at (b ∷ xs) h = ap (Whole 0) (omega arith) ∙ free_all n (at + 1) xs (omega arith)

free_few : (n : ℕ) (at : ℕ) (xs : List ℕ) → length xs < n → Waiting ≡ judge (free n) at xs
unfolding judge free
free_few zero at xs h = absurd (omega arith)
free_few (suc n) at [] h = refl
free_few (suc n) at (b ∷ xs) h = free_few n (at + 1) xs (omega arith)

-- n bytes that are there
pub free_whole : (n at : ℕ) (bs : List ℕ) → at + n ≤ length bs → Whole 0 (at + n) ≡ judge_at (free n) at bs
free_whole n at bs h = free_all n at (drop at bs) (simp length-drop (omega arith))

-- n bytes of which the last is not there
pub free_waits : (n at : ℕ) (bs : List ℕ) → 0 < n → length bs < at + n → Waiting ≡ judge_at (free n) at bs
free_waits n at bs p h = free_few n at (drop at bs) (simp length-drop (omega arith))

-- no byte at all, at any offset
pub free_none : (n at : ℕ) (bs : List ℕ) → n ≡ 0 → Whole 0 at ≡ judge_at (free n) at bs
unfolding judge free
free_none n at bs h = rw h

frees_step : (n at : ℕ) (xs : List ℕ) → ((ys : List ℕ) → judge (frees n) (at + 4) ys ≡ judge (free (4 * n)) (at + 4) ys)
    → judge (frees (suc n)) at xs ≡ judge (free (suc (suc (suc (suc (4 * n)))))) at xs
unfolding judge free frees
frees_step n at [] s = refl
frees_step n at (a ∷ []) s = refl
frees_step n at (a ∷ b ∷ []) s = refl
frees_step n at (a ∷ b ∷ c ∷ []) s = refl
frees_step n at (a ∷ b ∷ c ∷ d ∷ xs) s = s xs ∙ ap (λ (i : ℕ). judge (free (4 * n)) i xs) f
  where
    f : at + 4 ≡ at + 1 + 1 + 1 + 1
    f = omega arith

-- four free bytes at a time
pub frees_free : (n at : ℕ) (xs : List ℕ) → judge (frees n) at xs ≡ judge (free (4 * n)) at xs
unfolding judge free frees
frees_free zero at xs = refl
frees_free (suc n) at xs = frees_step n at xs (frees_free n (at + 4)) ∙ ap (λ (m : ℕ). judge (free m) at xs) e
  where
    e : suc (suc (suc (suc (4 * n)))) ≡ 4 * suc n
    e = omega arith

-- n fields that are there
pub frees_whole : (n at : ℕ) (bs : List ℕ) → at + 4 * n ≤ length bs → Whole 0 (at + 4 * n) ≡ judge_at (frees n) at bs
frees_whole n at bs h = free_whole (4 * n) at bs h ∙ sym (frees_free n at (drop at bs))

-- -- The given bytes

module _ (r : ℕ) (ms : List ℕ) (i at : ℕ) (bs : List ℕ) where
  -- the next byte is as given
  pub marker_hit : i < length ms → at < length bs → get_or bs at 0 ≡ get_or ms i 0
      → judge_at (marker r (drop i ms)) at bs ≡ judge_at (marker r (drop (i + 1) ms)) (at + 1) bs
  unfolding judge marker
  marker_hit h l e = rw (drop_one ms i h, drop_one bs at l, eq-eqb (get_or bs at 0) (get_or ms i 0) e)

  -- the next byte is another
  pub marker_miss : i < length ms → at < length bs → (get_or bs at 0 ≡ get_or ms i 0 → ⊥) → Bad r ≡ judge_at (marker r (drop i ms)) at bs
  unfolding judge marker
  marker_miss h l e = rw (drop_one ms i h, drop_one bs at l, ne_eqb (get_or bs at 0) (get_or ms i 0) e)

  -- the next byte is not there
  pub marker_ends : i < length ms → length bs ≤ at → Waiting ≡ judge_at (marker r (drop i ms)) at bs
  unfolding judge marker
  marker_ends h l = rw (drop_one ms i h, drop_of_length-le bs {i = at} l)

  -- all of them have been met
  pub marker_over : length ms ≤ i → Whole 0 at ≡ judge_at (marker r (drop i ms)) at bs
  unfolding judge marker
  marker_over h = rw (drop_of_length-le ms {i = i} h)

-- -- Back from a whole piece

-- two whole pieces
pub seq_inverse : (p : Form) (h : ℕ → Form) (at : ℕ) (bs : List ℕ) (v e : ℕ) → judge_at (p >>= h) at bs ≡ Whole v e
    → (u : ℕ) × (d : ℕ) × (judge_at p at bs ≡ Whole u d) × (judge_at (h u) d bs ≡ Whole v e)
seq_inverse p h at bs v e w = go (judge_at p at bs) refl (sym (seq p h at bs) ∙ w)
  where
    go : (j : Judgement) → judge_at p at bs ≡ j → after j (λ v e. judge_at (h v) e bs) ≡ Whole v e
        → (u : ℕ) × (d : ℕ) × (judge_at p at bs ≡ Whole u d) × (judge_at (h u) d bs ≡ Whole v e)
    go (Whole u d) a b = (u, d, a, b)
    go (Bad r) a b = let z : ◌≡◌ {A = ℕ} 0 1 = cc in absurd (omega arith)
    go Waiting a b = let z : ◌≡◌ {A = ℕ} 0 1 = cc in absurd (omega arith)

-- a four-byte field: its bytes are there, its number passes
pub four_inverse : (r : ℕ → ℕ) (t : ℕ → Bool) (at : ℕ) (bs : List ℕ) (v e : ℕ) → judge_at (four r t) at bs ≡ Whole v e
    → (v ≡ little_at 4 at bs) × (e ≡ at + 4) × (t v ≡ true) × (at + 4 ≤ length bs)
unfolding judge
four_inverse r t at bs v e w = go (dec_le (at + 4) (length bs))
  where
    passed : (u : Bool) → t (little_at 4 at bs) ≡ u → cond u (Whole (little_at 4 at bs) (at + 4)) (Bad (r (little_at 4 at bs))) ≡ Whole v e
        → (v ≡ little_at 4 at bs) × (e ≡ at + 4) × (t v ≡ true)
    passed true a b = let x : v ≡ little_at 4 at bs = cc in (x, cc, ap t x ∙ a)
    passed false a b = let z : ◌≡◌ {A = ℕ} 0 1 = cc in absurd (omega arith)

    go : Dec (at + 4 ≤ length bs) → (v ≡ little_at 4 at bs) × (e ≡ at + 4) × (t v ≡ true) × (at + 4 ≤ length bs)
    go (yes l) = let g = passed (t (little_at 4 at bs)) refl (sym (word_step r t whole at bs l) ∙ w) in (g.0, g.1, g.2, l)
    go (no n) = let h : Waiting ≡ Whole v e = four_waits r t at bs (omega arith) ∙ w in let z : ◌≡◌ {A = ℕ} 0 1 = cc in absurd (omega arith)

-- n free bytes: they are there, unless n is 0
pub free_inverse : (n at : ℕ) (bs : List ℕ) (v e : ℕ) → judge_at (free n) at bs ≡ Whole v e
    → (v ≡ 0) × (e ≡ at + n) × (at ≤ length bs → at + n ≤ length bs)
unfolding judge free
free_inverse zero at bs v e w = (cc, omega (arith, same), λ h. omega arith)
  where
    same : at ≡ e
    same = cc
free_inverse (suc n) at bs v e w = go (dec_le (at + suc n) (length bs))
  where
    go : Dec (at + suc n ≤ length bs) → (v ≡ 0) × (e ≡ at + suc n) × (at ≤ length bs → at + suc n ≤ length bs)
    go (yes l) = let h : Whole 0 (at + suc n) ≡ Whole v e = free_whole (suc n) at bs l ∙ w in (cc, cc, λ _. l)
    go (no m) = let h : Waiting ≡ Whole v e = free_waits (suc n) at bs (omega arith) (omega arith) ∙ w in let z : ◌≡◌ {A = ℕ} 0 1 = cc in
        absurd (omega arith)

-- n free four-byte fields: they are there, unless n is 0
pub frees_inverse : (n at : ℕ) (bs : List ℕ) (v e : ℕ) → judge_at (frees n) at bs ≡ Whole v e
    → (v ≡ 0) × (e ≡ at + 4 * n) × (at ≤ length bs → at + 4 * n ≤ length bs)
frees_inverse n at bs v e w = free_inverse (4 * n) at bs v e (sym (frees_free n at (drop at bs)) ∙ w)

marker_read : (r : ℕ) (ms : List ℕ) (at : ℕ) (xs : List ℕ) (v e : ℕ) → judge (marker r ms) at xs ≡ Whole v e
    → (v ≡ 0) × (e ≡ at + length ms) × (take (length ms) xs ≡ ms) × (length ms ≤ length xs)
unfolding judge marker
marker_read r [] at xs v e w = (cc, omega (arith, same), refl, omega arith)
  where
    same : at ≡ e
    same = cc
marker_read r (m ∷ ms) at [] v e w = let z : ◌≡◌ {A = ℕ} 0 1 = cc in absurd (omega arith)
marker_read r (m ∷ ms) at (b ∷ xs) v e w = go (eqb b m) refl w (marker_read r ms (at + 1) xs v e)
  where
    go : (u : Bool) → eqb b m ≡ u → cond u (judge (marker r ms) (at + 1) xs) (Bad r) ≡ Whole v e
        → (judge (marker r ms) (at + 1) xs ≡ Whole v e
        → (v ≡ 0) × (e ≡ at + 1 + length ms) × (take (length ms) xs ≡ ms) × (length ms ≤ length xs))
        → (v ≡ 0) × (e ≡ at + suc (length ms)) × (b ∷ take (length ms) xs ≡ m ∷ ms) × (suc (length ms) ≤ suc (length xs))
    go true a j s = let g = s j in let x = eqb-true b m a in let l = g.2 in (g.0, omega (arith, g.1), cc, omega (arith, g.3))
    go false a j s = let z : ◌≡◌ {A = ℕ} 0 1 = cc in absurd (omega arith)

-- the given bytes: they are there
pub marker_inverse : (r : ℕ) (ms : List ℕ) (at : ℕ) (bs : List ℕ) (v e : ℕ) → judge_at (marker r ms) at bs ≡ Whole v e
    → (v ≡ 0) × (e ≡ at + length ms) × (take (length ms) (drop at bs) ≡ ms) × (length ms ≤ length (drop at bs))
marker_inverse r ms at bs v e w = marker_read r ms at (drop at bs) v e w

marker_met : (r : ℕ) (ms : List ℕ) (at : ℕ) (xs : List ℕ) → take (length ms) xs ≡ ms → Whole 0 (at + length ms) ≡ judge (marker r ms) at xs
unfolding judge marker
marker_met r [] at xs h = ap (Whole 0) (omega arith)
marker_met r (m ∷ ms) at [] h = let z : ◌≡◌ {A = ℕ} 0 1 = cc in absurd (omega arith)
marker_met r (m ∷ ms) at (b ∷ xs) h = ap (Whole 0) (omega arith) ∙ marker_met r ms (at + 1) xs (cc) ∙ rw (eq-eqb b m (cc))

-- the given bytes, where they are there
pub marker_whole : (r : ℕ) (ms : List ℕ) (at : ℕ) (bs : List ℕ) → take (length ms) (drop at bs) ≡ ms
    → Whole 0 (at + length ms) ≡ judge_at (marker r ms) at bs
marker_whole r ms at bs h = marker_met r ms at (drop at bs) h

marker_missed : (r : ℕ) (ms : List ℕ) (at : ℕ) (xs : List ℕ) → length ms ≤ length xs → (take (length ms) xs ≡ ms → ⊥)
    → Bad r ≡ judge (marker r ms) at xs
unfolding judge marker
marker_missed r [] at xs h n = absurd (n refl)
marker_missed r (m ∷ ms) at [] h n = absurd (omega arith)
marker_missed r (m ∷ ms) at (b ∷ xs) h n = go (eqb b m) refl (λ f. marker_missed r ms (at + 1) xs (omega arith) f)
  where
    same : b ≡ m → take (length ms) xs ≡ ms → b ∷ take (length ms) xs ≡ m ∷ ms
    same x e = cc

    go : (u : Bool) → eqb b m ≡ u → ((take (length ms) xs ≡ ms → ⊥) → Bad r ≡ judge (marker r ms) (at + 1) xs)
        → Bad r ≡ cond (eqb b m) (judge (marker r ms) (at + 1) xs) (Bad r)
    go true a s = s (λ e. n (same (eqb-true b m a) e)) ∙ rw a
    go false a s = rw a

-- other bytes than the given ones, as many
pub marker_other : (r : ℕ) (ms : List ℕ) (at : ℕ) (bs : List ℕ) → length ms ≤ length (drop at bs) → (take (length ms) (drop at bs) ≡ ms → ⊥)
    → Bad r ≡ judge_at (marker r ms) at bs
marker_other r ms at bs h n = marker_missed r ms at (drop at bs) h n

-- -- Pieces in a row, each taken by `?`

-- what is left of a form that was judged from an offset on: another, from where its first pieces end
pub record Left (q : Form) (from : ℕ) (p : Form) (at : ℕ) (bs : List ℕ) : Type 0 where
  pub same : judge_at q from bs ≡ judge_at p at bs

-- all of it, as the form says it
pub all_left : {q p : Form} {from : ℕ} {bs : List ℕ} → q ≡ p → Left q from p from bs
all_left {from = from} {bs = bs} e = record { same = ap (λ (p : Form). judge_at p from bs) e }

-- what is left, as the form says it
pub left_by : {q p p' : Form} {from at : ℕ} {bs : List ℕ} → p ≡ p' → Left q from p at bs → Left q from p' at bs
left_by {at = at} {bs = bs} e l = record { same = l.same ∙ ap (λ (p : Form). judge_at p at bs) e }

-- the next piece stands: the others are left
pub left_ok : {q p : Form} (h : ℕ → Form) {from at v e : ℕ} {bs : List ℕ} → Left q from (p >>= h) at bs → Judges p at bs (Whole v e)
    → Left q from (h v) e bs
left_ok h l j = record { same = l.same ∙ go_on _ _ _ _ j.answers refl }

handed_on : (r : Result Parsed Unparsed) (u : Unparsed) → IsErrAnd r (λ v. v ≡ u) → judgement_of r ≡ judgement_of (Err u)
handed_on (Ok a) u i = absurd i
handed_on (Err v) u i = ap (λ (w : Unparsed). judgement_of (Err w)) i

not_whole : (u : Unparsed) → Halted (judgement_of (Err u))
not_whole (unparsed.Bad r) v e w = let z : ◌≡◌ {A = ℕ} 0 1 = cc in absurd (omega arith)
not_whole unparsed.Waiting v e w = let z : ◌≡◌ {A = ℕ} 0 1 = cc in absurd (omega arith)

-- the next piece does not stand: `?` hands its answer on, and it is that of all
pub left_err : {q p : Form} (h : ℕ → Form) {from at : ℕ} {bs : List ℕ} (u : Unparsed) (r : Result Parsed Unparsed)
    → Left q from (p >>= h) at bs → Judges p at bs (judgement_of (Err u)) → IsErrAnd r (λ v. v ≡ u) → Judges q from bs (judgement_of r)
left_err h u r l j i = judges (handed_on r u i ∙ halt _ _ _ _ j.answers (not_whole u) ∙ sym l.same)

-- the last piece's answer is that of all
pub left_is : {q p : Form} {from at : ℕ} {bs : List ℕ} {r : Judgement} → Left q from p at bs → Judges p at bs r → Judges q from bs r
left_is l j = judges (j.answers ∙ sym l.same)

-- no piece is left: the value, and the offset that was come to
pub left_none : {q : Form} {from at v : ℕ} {bs : List ℕ} → Left q from (whole v) at bs → Judges q from bs (Whole v at)
left_none l = left_is l (judges (whole_there _ _ _))
