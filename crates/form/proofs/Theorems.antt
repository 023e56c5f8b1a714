-- What holds of the judgement by every form (paper 01, "Judging a place"). Each proof goes down the form and the bytes together.
use mathlib.Core.Bool.{Bool, true, false, cond}
use mathlib.Core.Path.{◌≡◌, refl, sym, ap, ◌∙◌}
use mathlib.Core.List.{List, [], ◌∷◌, ◌++◌, append-nil}
use mathlib.Core.Logic.{◌↔◌}
use Prim.Native.Nat.{ℕ, zero, suc, ◌+◌, ◌/◌, ◌%◌, ◌^◌, ◌<◌, ◌≤◌}
use native.Mathlib.Nat.{zero-add, min-le_left}
use native.Mathlib.Omega.{arith}
use lib.ListN.{length, take, drop, take-append-drop, length-take}
use lib.Seq.{take_all, length-take-le}
use Rattle.digits.specs.Bytes.{Below, Bytes}
use Rattle.digits.specs.LittleEndian.{from_little}
use Rattle.form.specs.declared.Judgement.{Judgement}
use Rattle.form.specs.declared.Judgement.TheVariants.{Whole, Bad, Waiting}
use Rattle.form.specs.Form.{Form, whole, byte, word, joined, judge, Frame, Stands, SomeStands, Completable, Inside, Live, Begins}
use Rattle.form.specs.Judging.{Lawful}

-- no two cases of a judgement are equal
pub not_both : {A : Type 0} {j : Judgement} {k n : ℕ} → j ≡ Waiting → j ≡ Whole k n → A
not_both a b = let z : ◌≡◌ {A = ℕ} 0 1 = cc in absurd (omega arith)

bad_whole : {A : Type 0} {j : Judgement} {r k n : ℕ} → j ≡ Bad r → j ≡ Whole k n → A
bad_whole a b = let z : ◌≡◌ {A = ℕ} 0 1 = cc in absurd (omega arith)

pub bad_waits : {A : Type 0} {j : Judgement} {r : ℕ} → j ≡ Bad r → j ≡ Waiting → A
bad_waits a b = let z : ◌≡◌ {A = ℕ} 0 1 = cc in absurd (omega arith)

-- -- Whole exactly if a frame stands

-- a frame, whatever is behind it, is judged whole with its kind and its length
pub frame_judged : (p : Form) (k at : ℕ) (xs ys : List ℕ) → Frame p k xs → judge p at (xs ++ ys) ≡ Whole k (at + length xs)
unfolding judge Frame
frame_judged (whole v) k at [] ys h = rw h (ap (Whole k) (omega arith))
frame_judged (whole v) k at (b ∷ xs) ys h = absurd h
frame_judged (byte r t f) k at [] ys h = absurd h
frame_judged (byte r t f) k at (b ∷ xs) ys h = rw h.0 (frame_judged (f b) k (at + 1) xs ys h.1 ∙ ap (Whole k) (omega arith))
frame_judged (word r t f) k at [] ys h = absurd h
frame_judged (word r t f) k at (a ∷ []) ys h = absurd h
frame_judged (word r t f) k at (a ∷ b ∷ []) ys h = absurd h
frame_judged (word r t f) k at (a ∷ b ∷ c ∷ []) ys h = absurd h
frame_judged (word r t f) k at (a ∷ b ∷ c ∷ d ∷ xs) ys h =
    rw h.0 (frame_judged (f (joined a b c d)) k (at + 4) xs ys h.1 ∙ ap (Whole k) (omega arith))

-- the frame that a whole judgement has read
pub record Read (p : Form) (k at e : ℕ) (xs : List ℕ) : Type 0 where
  pub size : ℕ
  pub end : e ≡ at + size
  pub within : size ≤ length xs
  pub frame : Frame p k (take size xs)

-- a whole judgement has read a frame
pub whole_read : (p : Form) (k at e : ℕ) (xs : List ℕ) → judge p at xs ≡ Whole k e → Read p k at e xs
unfolding judge Frame
whole_read (whole v) k at e xs h = let s : at ≡ e = cc in record { size = 0; end = omega arith; within = omega arith; frame = cc }
whole_read (byte r t f) k at e [] h = not_both refl h
whole_read (byte r t f) k at e (b ∷ xs) h = go (t b) refl h (whole_read (f b) k (at + 1) e xs)
  where
    go : (u : Bool) → t b ≡ u → cond u (judge (f b) (at + 1) xs) (Bad r) ≡ Whole k e
        → (judge (f b) (at + 1) xs ≡ Whole k e → Read (f b) k (at + 1) e xs) → Read (byte r t f) k at e (b ∷ xs)
    go true a j s = let g = s j in
        record { size = suc g.size; end = omega (arith, g.end); within = omega (arith, g.within); frame = (a, g.frame) }
    go false a j s = bad_whole refl j
whole_read (word r t f) k at e [] h = not_both refl h
whole_read (word r t f) k at e (a ∷ []) h = not_both refl h
whole_read (word r t f) k at e (a ∷ b ∷ []) h = not_both refl h
whole_read (word r t f) k at e (a ∷ b ∷ c ∷ []) h = not_both refl h
whole_read (word r t f) k at e (a ∷ b ∷ c ∷ d ∷ xs) h = go (t (joined a b c d)) refl h (whole_read (f (joined a b c d)) k (at + 4) e xs)
  where
    go : (u : Bool) → t (joined a b c d) ≡ u → cond u (judge (f (joined a b c d)) (at + 4) xs) (Bad (r (joined a b c d))) ≡ Whole k e
        → (judge (f (joined a b c d)) (at + 4) xs ≡ Whole k e → Read (f (joined a b c d)) k (at + 4) e xs)
        → Read (word r t f) k at e (a ∷ b ∷ c ∷ d ∷ xs)
    go true i j s = let g = s j in
        record {
          size = suc (suc (suc (suc g.size)));
          end = omega (arith, g.end);
          within = omega (arith, g.within);
          frame = (i, g.frame);
        }
    go false i j s = bad_whole refl j

-- a frame that stands is judged whole
pub stands_judged : (p : Form) (k n : ℕ) (bs : List ℕ) → Stands p k n bs → judge p 0 bs ≡ Whole k n
stands_judged p k n bs s = ap (judge p 0) (sym (take-append-drop n bs)) ∙ frame_judged p k 0 (take n bs) (drop n bs) s.frame
    ∙ ap (Whole k) (zero-add _ ∙ length-take-le n bs s.within)

-- a whole judgement has a frame that stands
pub judged_stands : (p : Form) (k n : ℕ) (bs : List ℕ) → judge p 0 bs ≡ Whole k n → Stands p k n bs
judged_stands p k n bs h = go (whole_read p k 0 n bs h)
  where
    go : Read p k 0 n bs → Stands p k n bs
    go g = let e : g.size ≡ n = omega (arith, g.end) in record { within = omega (arith, g.within, g.end); frame = rw e at g.frame }

-- a place is judged whole exactly if a frame stands there, with that frame's kind and length
pub whole_exactly_if_stands : (p : Form) (k n : ℕ) (bs : List ℕ) → (judge p 0 bs ≡ Whole k n) ↔ Stands p k n bs
whole_exactly_if_stands p k n bs = (judged_stands p k n bs, stands_judged p k n bs)

-- at most one frame stands at a place
pub stands_once : (p : Form) (k₁ n₁ k₂ n₂ : ℕ) (bs : List ℕ) → Stands p k₁ n₁ bs → Stands p k₂ n₂ bs → (k₁ ≡ k₂) × (n₁ ≡ n₂)
stands_once p k₁ n₁ k₂ n₂ bs a b = let x = stands_judged p k₁ n₁ bs a in let y = stands_judged p k₂ n₂ bs b in (cc, cc)

-- bytes are a frame exactly if they are judged whole from first to last
pub judged_frame : (p : Form) (k : ℕ) (bs : List ℕ) → judge p 0 bs ≡ Whole k (length bs) → Frame p k bs
judged_frame p k bs h = rw (take_all (length bs) bs (omega arith)) at (judged_stands p k (length bs) bs h).frame

-- a frame, and nothing behind it, is judged whole from first to last
pub frame_whole : (p : Form) (k : ℕ) (bs : List ℕ) → Frame p k bs → judge p 0 bs ≡ Whole k (length bs)
frame_whole p k bs h = ap (judge p 0) (sym (append-nil bs)) ∙ frame_judged p k 0 bs [] h ∙ ap (Whole k) (zero-add _)

-- a whole frame lies within the bytes
pub whole_fits : (p : Form) (k n : ℕ) (bs : List ℕ) → judge p 0 bs ≡ Whole k n → n ≤ length bs
whole_fits p k n bs h = (judged_stands p k n bs h).within

-- a whole frame is not empty
pub whole_not_empty : (p : Form) (k n : ℕ) (bs : List ℕ) → Begins p → judge p 0 bs ≡ Whole k n → 0 < n
unfolding judge Frame Begins
whole_not_empty (whole v) k n bs b h = absurd b
whole_not_empty (byte r t f) k zero bs b h = absurd (judged_stands (byte r t f) k 0 bs h).frame
whole_not_empty (byte r t f) k (suc n) bs b h = omega arith
whole_not_empty (word r t f) k zero bs b h = absurd (judged_stands (word r t f) k 0 bs h).frame
whole_not_empty (word r t f) k (suc n) bs b h = omega arith

-- the bytes at the very end wait
pub empty_waits : (p : Form) (at : ℕ) → Begins p → judge p at [] ≡ Waiting
unfolding judge Begins
empty_waits (whole v) at b = absurd b
empty_waits (byte r t f) at b = refl
empty_waits (word r t f) at b = refl

-- -- Kept under further bytes

kept_cond : (t : Bool) (r : ℕ) (x y : Judgement) → ((x ≡ Waiting → ⊥) → y ≡ x) → (cond t x (Bad r) ≡ Waiting → ⊥)
    → cond t y (Bad r) ≡ cond t x (Bad r)
kept_cond true r x y s n = s n
kept_cond false r x y s n = refl

-- whole and bad judgements are kept, with kind and length or reason, when any bytes are appended
pub judgement_kept : (p : Form) (at : ℕ) (xs ys : List ℕ) → (judge p at xs ≡ Waiting → ⊥) → judge p at (xs ++ ys) ≡ judge p at xs
unfolding judge
judgement_kept (whole v) at xs ys n = refl
judgement_kept (byte r t f) at [] ys n = absurd (n refl)
judgement_kept (byte r t f) at (b ∷ xs) ys n =
    kept_cond (t b) r (judge (f b) (at + 1) xs) (judge (f b) (at + 1) (xs ++ ys)) (judgement_kept (f b) (at + 1) xs ys) n
judgement_kept (word r t f) at [] ys n = absurd (n refl)
judgement_kept (word r t f) at (a ∷ []) ys n = absurd (n refl)
judgement_kept (word r t f) at (a ∷ b ∷ []) ys n = absurd (n refl)
judgement_kept (word r t f) at (a ∷ b ∷ c ∷ []) ys n = absurd (n refl)
judgement_kept (word r t f) at (a ∷ b ∷ c ∷ d ∷ xs) ys n =
    kept_cond (t (joined a b c d)) (r (joined a b c d)) (judge (f (joined a b c d)) (at + 4) xs)
    (judge (f (joined a b c d)) (at + 4) (xs ++ ys)) (judgement_kept (f (joined a b c d)) (at + 4) xs ys) n

-- -- No further than the frame, or the refused byte

-- a whole judgement depends on the frame's own bytes only
pub whole_looks_no_further : (p : Form) (k n : ℕ) (bs more : List ℕ) → judge p 0 bs ≡ Whole k n → judge p 0 (take n bs ++ more) ≡ Whole k n
whole_looks_no_further p k n bs more h = let s = judged_stands p k n bs h in
    frame_judged p k 0 (take n bs) more s.frame ∙ ap (Whole k) (zero-add _ ∙ length-take-le n bs s.within)

-- the bytes up to and with the refused one: they settle the judgement whatever is behind, and fewer of them wait
pub record Refusal (p : Form) (at r : ℕ) (xs : List ℕ) : Type 0 where
  pub size : ℕ
  pub within : size ≤ length xs
  pub settles : (more : List ℕ) → judge p at (take size xs ++ more) ≡ Bad r
  pub before : (j : ℕ) → j < size → judge p at (take j xs) ≡ Waiting

-- a bad judgement depends on the bytes up to and with the refused one only
pub bad_looks_no_further : (p : Form) (at r : ℕ) (xs : List ℕ) → judge p at xs ≡ Bad r → Refusal p at r xs
unfolding judge
bad_looks_no_further (whole v) at q xs h = bad_whole h refl
bad_looks_no_further (byte r t f) at q [] h = bad_waits h refl
bad_looks_no_further (byte r t f) at q (b ∷ xs) h = go (t b) refl h (bad_looks_no_further (f b) (at + 1) q xs)
  where
    sooner : (n : ℕ) → t b ≡ true → ((j : ℕ) → j < n → judge (f b) (at + 1) (take j xs) ≡ Waiting) → (j : ℕ) → j < suc n
        → judge (byte r t f) at (take j (b ∷ xs)) ≡ Waiting
    sooner n a s zero l = refl
    sooner n a s (suc j) l = rw a (s j (omega arith))

    only : (j : ℕ) → j < 1 → judge (byte r t f) at (take j (b ∷ xs)) ≡ Waiting
    only zero l = refl
    only (suc j) l = absurd (omega arith)

    go : (u : Bool) → t b ≡ u → cond u (judge (f b) (at + 1) xs) (Bad r) ≡ Bad q
        → (judge (f b) (at + 1) xs ≡ Bad q → Refusal (f b) (at + 1) q xs) → Refusal (byte r t f) at q (b ∷ xs)
    go true a j s = let g = s j in
        record {
          size = suc g.size;
          within = omega (arith, g.within);
          settles = λ more. rw a (g.settles more);
          before = sooner g.size a g.before;
        }
    go false a j s = record { size = 1; within = omega arith; settles = λ more. rw a j; before = only }
bad_looks_no_further (word r t f) at q [] h = bad_waits h refl
bad_looks_no_further (word r t f) at q (a ∷ []) h = bad_waits h refl
bad_looks_no_further (word r t f) at q (a ∷ b ∷ []) h = bad_waits h refl
bad_looks_no_further (word r t f) at q (a ∷ b ∷ c ∷ []) h = bad_waits h refl
bad_looks_no_further (word r t f) at q (a ∷ b ∷ c ∷ d ∷ xs) h =
    go (t (joined a b c d)) refl h (bad_looks_no_further (f (joined a b c d)) (at + 4) q xs)
  where
    sooner : (n : ℕ) → t (joined a b c d) ≡ true → ((j : ℕ) → j < n → judge (f (joined a b c d)) (at + 4) (take j xs) ≡ Waiting) → (j : ℕ)
        → j < suc (suc (suc (suc n)))
        → judge (word r t f) at (take j (a ∷ b ∷ c ∷ d ∷ xs)) ≡ Waiting
    sooner n i s zero l = refl
    sooner n i s (suc zero) l = refl
    sooner n i s (suc (suc zero)) l = refl
    sooner n i s (suc (suc (suc zero))) l = refl
    sooner n i s (suc (suc (suc (suc j)))) l = rw i (s j (omega arith))

    only : (j : ℕ) → j < 4 → judge (word r t f) at (take j (a ∷ b ∷ c ∷ d ∷ xs)) ≡ Waiting
    only zero l = refl
    only (suc zero) l = refl
    only (suc (suc zero)) l = refl
    only (suc (suc (suc zero))) l = refl
    only (suc (suc (suc (suc j)))) l = absurd (omega arith)

    go : (u : Bool) → t (joined a b c d) ≡ u → cond u (judge (f (joined a b c d)) (at + 4) xs) (Bad (r (joined a b c d))) ≡ Bad q
        → (judge (f (joined a b c d)) (at + 4) xs ≡ Bad q → Refusal (f (joined a b c d)) (at + 4) q xs)
        → Refusal (word r t f) at q (a ∷ b ∷ c ∷ d ∷ xs)
    go true i j s = let g = s j in
        record {
          size = suc (suc (suc (suc g.size)));
          within = omega (arith, g.within);
          settles = λ more. rw i (g.settles more);
          before = sooner g.size i g.before;
        }
    go false i j s = record { size = 4; within = omega arith; settles = λ more. rw i j; before = only }

-- fewer bytes than a whole frame has wait
pub whole_waits_before : (p : Form) (k n : ℕ) (bs : List ℕ) → judge p 0 bs ≡ Whole k n → (j : ℕ) → j < n → judge p 0 (take j bs) ≡ Waiting
whole_waits_before p k n bs h j l = go (judge p 0 (take j bs)) refl
  where
    same : (judge p 0 (take j bs) ≡ Waiting → ⊥) → judge p 0 bs ≡ judge p 0 (take j bs)
    same d = ap (judge p 0) (sym (take-append-drop j bs)) ∙ judgement_kept p 0 (take j bs) (drop j bs) d

    short : length (take j bs) ≤ j
    short = simp length-take (omega (arith, min-le_left j (length bs)))

    go : (w : Judgement) → judge p 0 (take j bs) ≡ w → judge p 0 (take j bs) ≡ Waiting
    go (Whole k' n') e = let g : judge p 0 (take j bs) ≡ Whole k n = sym (same (λ z. not_both z e)) ∙ h in
        absurd (omega (arith, whole_fits p k n (take j bs) g, short))
    go (Bad r) e = bad_whole (same (λ z. bad_waits e z) ∙ e) h
    go Waiting e = e

-- the first bytes by which a place is judged: they settle it whatever is behind, and fewer of them wait
pub record Settled (p : Form) (bs : List ℕ) : Type 0 where
  pub size : ℕ
  pub within : size ≤ length bs
  pub settles : (more : List ℕ) → judge p 0 (take size bs ++ more) ≡ judge p 0 bs
  pub before : (j : ℕ) → j < size → judge p 0 (take j bs) ≡ Waiting

-- a judgement looks at no byte behind the frame or behind the byte that it refuses
pub looks_no_further : (p : Form) (bs : List ℕ) → (judge p 0 bs ≡ Waiting → ⊥) → Settled p bs
looks_no_further p bs d = go (judge p 0 bs) refl
  where
    go : (w : Judgement) → judge p 0 bs ≡ w → Settled p bs
    go (Whole k n) e = record {
      size = n;
      within = whole_fits p k n bs e;
      settles = λ more. whole_looks_no_further p k n bs more e ∙ sym e;
      before = whole_waits_before p k n bs e;
    }
    go (Bad r) e = let g = bad_looks_no_further p 0 r bs e in
        record { size = g.size; within = g.within; settles = λ more. g.settles more ∙ sym e; before = g.before }
    go Waiting e = absurd (d e)

-- -- Waiting exactly if it can be completed

-- bytes that end inside a four-byte field wait
pub inside_waits : (p : Form) (at : ℕ) (xs : List ℕ) → Inside p xs → judge p at xs ≡ Waiting
unfolding judge Inside
inside_waits (whole v) at xs i = absurd i
inside_waits (byte r t f) at [] i = absurd i
inside_waits (byte r t f) at (b ∷ xs) i = rw i.0 (inside_waits (f b) (at + 1) xs i.1)
inside_waits (word r t f) at [] i = absurd i
inside_waits (word r t f) at (a ∷ []) i = refl
inside_waits (word r t f) at (a ∷ b ∷ []) i = refl
inside_waits (word r t f) at (a ∷ b ∷ c ∷ []) i = refl
inside_waits (word r t f) at (a ∷ b ∷ c ∷ d ∷ xs) i = rw i.0 (inside_waits (f (joined a b c d)) (at + 4) xs i.1)

-- further bytes with which the bytes are a frame
pub record Completion (p : Form) (xs : List ℕ) : Type 0 where
  pub more : List ℕ
  pub more_bytes : Bytes more
  pub kind : ℕ
  pub frame : Frame p kind (xs ++ more)

-- four bytes give a number below 2 ^ 32
joined_small : (a b c d : ℕ) → a < 2 ^ 8 → b < 2 ^ 8 → c < 2 ^ 8 → d < 2 ^ 8 → joined a b c d < 2 ^ 32
unfolding from_little
joined_small a b c d h i j k = omega arith

-- every number below 2 ^ 32 has its four bytes
joined_of : (v : ℕ) → v < 2 ^ 32 → joined (v % 256) (v / 256 % 256) (v / 65536 % 256) (v / 16777216) ≡ v
unfolding from_little
joined_of v h = omega arith

-- a live form has a frame
live_frame : (p : Form) → Live p → Completion p []
unfolding Live Frame Below
live_frame (whole v) l = record { more = []; more_bytes = tt; kind = v; frame = refl }
live_frame (byte r t f) l = let b = l.0.0 in let g = live_frame (f b) (l.1 b l.0.1 l.0.2) in
    record { more = b ∷ g.more; more_bytes = (l.0.1, g.more_bytes); kind = g.kind; frame = (l.0.2, g.frame) }
live_frame (word r t f) l = let v = l.0.0 in let s = l.0.1 in let g = live_frame (f v) (l.1 v s l.0.2) in
    record {
      more = v % 256 ∷ v / 256 % 256 ∷ v / 65536 % 256 ∷ v / 16777216 ∷ g.more;
      more_bytes = (omega arith, (omega arith, (omega arith, (omega arith, g.more_bytes))));
      kind = g.kind;
      frame = framed v s l.0.2 g.kind g.more g.frame;
    }
  where
    framed : (v : ℕ) → v < 2 ^ 32 → t v ≡ true → (k : ℕ) (more : List ℕ) → Frame (f v) k more
        → (t (joined (v % 256) (v / 256 % 256) (v / 65536 % 256) (v / 16777216)) ≡ true)
        × Frame (f (joined (v % 256) (v / 256 % 256) (v / 65536 % 256) (v / 16777216))) k more
    framed v s a k more g = rw (joined_of v s) (a, g)

-- bytes of a live form that wait, and not inside a four-byte field, can be completed
waiting_completes : (p : Form) (at : ℕ) (xs : List ℕ) → Live p → Bytes xs → (Inside p xs → ⊥) → judge p at xs ≡ Waiting → Completion p xs
unfolding judge Inside Live Frame Below
waiting_completes (whole v) at xs l s o h = not_both h refl
waiting_completes (byte r t f) at [] l s o h = live_frame (byte r t f) l
waiting_completes (byte r t f) at (b ∷ xs) l s o h =
    go (t b) refl h (λ a. waiting_completes (f b) (at + 1) xs (l.1 b s.0 a) s.1 (λ i. o (a, i)))
  where
    go : (u : Bool) → t b ≡ u → cond u (judge (f b) (at + 1) xs) (Bad r) ≡ Waiting
        → (t b ≡ true → judge (f b) (at + 1) xs ≡ Waiting → Completion (f b) xs) → Completion (byte r t f) (b ∷ xs)
    go true a j c = let g = c a j in record { more = g.more; more_bytes = g.more_bytes; kind = g.kind; frame = (a, g.frame) }
    go false a j c = bad_waits refl j
waiting_completes (word r t f) at [] l s o h = live_frame (word r t f) l
waiting_completes (word r t f) at (a ∷ []) l s o h = absurd (o tt)
waiting_completes (word r t f) at (a ∷ b ∷ []) l s o h = absurd (o tt)
waiting_completes (word r t f) at (a ∷ b ∷ c ∷ []) l s o h = absurd (o tt)
waiting_completes (word r t f) at (a ∷ b ∷ c ∷ d ∷ xs) l s o h =
    go (t (joined a b c d)) refl h
    (λ e. waiting_completes (f (joined a b c d)) (at + 4) xs
    (l.1 (joined a b c d) (joined_small a b c d s.0 s.1.0 s.1.1.0 s.1.1.1.0) e) s.1.1.1.1 (λ i. o (e, i)))
  where
    go : (u : Bool) → t (joined a b c d) ≡ u → cond u (judge (f (joined a b c d)) (at + 4) xs) (Bad (r (joined a b c d))) ≡ Waiting
        → (t (joined a b c d) ≡ true → judge (f (joined a b c d)) (at + 4) xs ≡ Waiting → Completion (f (joined a b c d)) xs)
        → Completion (word r t f) (a ∷ b ∷ c ∷ d ∷ xs)
    go true e j c = let g = c e j in record { more = g.more; more_bytes = g.more_bytes; kind = g.kind; frame = (e, g.frame) }
    go false e j c = bad_waits refl j

none_stands : (p : Form) (xs : List ℕ) → judge p 0 xs ≡ Waiting → SomeStands p xs → ⊥
none_stands p xs h s = not_both h (stands_judged p s.kind s.size xs s.stands)

completes : (p : Form) (xs : List ℕ) → judge p 0 xs ≡ Waiting → Completion p xs → Completable p xs
completes p xs h g = record {
  none_yet = none_stands p xs h;
  more = g.more;
  more_bytes = g.more_bytes;
  completed = record {
    kind = g.kind;
    size = length (xs ++ g.more);
    stands = judged_stands p g.kind (length (xs ++ g.more)) (xs ++ g.more) (frame_whole p g.kind (xs ++ g.more) g.frame);
  };
}

-- what can be completed waits, for any form
pub completable_waits : (p : Form) (xs : List ℕ) → Completable p xs → judge p 0 xs ≡ Waiting
completable_waits p xs c = go (judge p 0 xs) refl
  where
    w : judge p 0 (xs ++ c.more) ≡ Whole c.completed.kind c.completed.size
    w = stands_judged p c.completed.kind c.completed.size (xs ++ c.more) c.completed.stands

    go : (j : Judgement) → judge p 0 xs ≡ j → judge p 0 xs ≡ Waiting
    go (Whole k n) e = absurd (c.none_yet (record { kind = k; size = n; stands = judged_stands p k n xs e }))
    go (Bad r) e = bad_whole (judgement_kept p 0 xs c.more (λ z. bad_waits e z) ∙ e) w
    go Waiting e = e

-- bytes of a live form that do not end inside a four-byte field wait exactly if no frame stands and some further bytes complete one
pub waits_exactly : (p : Form) (xs : List ℕ) → Live p → Bytes xs → (Inside p xs → ⊥) → (judge p 0 xs ≡ Waiting) ↔ Completable p xs
waits_exactly p xs l s o = ((λ h. completes p xs h (waiting_completes p 0 xs l s o h)), completable_waits p xs)

-- -- For the readings

-- a form that does not begin empty gives a judgement that readings can go by
pub lawful : (p : Form) → Begins p → Lawful (judge p 0)
lawful p b = record {
  fits = λ bs k n h. whole_fits p k n bs h;
  filled = λ bs k n h. whole_not_empty p k n bs b h;
  stays = judgement_kept p 0;
  ends = empty_waits p 0 b;
}
