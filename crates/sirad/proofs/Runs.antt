-- The laws of single bytes and runs of bytes: a run is judged by its first bytes and then by what is left of it.
use Rattle.std.proofs.Common.{Bool, true, false, cond, ◌≡◌, refl, sym, ap, ◌∙◌, List, [], ◌∷◌, length, get_or, take, drop, length-drop}
use Rattle.std.proofs.Common.{ℕ, zero, suc, ◌+◌, ◌-◌, ◌<◌, ◌≤◌, arith}
use Rattle.std.specs.List.{list_all, slice_range}
use Rattle.digits.proofs.Choices.{and_left, and_right}
use Rattle.form.specs.declared.Judgement.{Judgement}
use Rattle.form.specs.declared.Judgement.TheVariants.{Whole, Bad, Waiting}
use Rattle.form.specs.Form.{Form, whole, byte, ◌>>=◌, judge, judge_at}
use Rattle.form.specs.Pieces.{one}
use Rattle.form.proofs.PieceLaws.{byte_step, byte_ends, halt, Halted}
use Rattle.sirad.specs.Classes.{Class, accepts, reason}
use Rattle.sirad.specs.Sirad.{run}

-- -- One byte

module _ (r : ℕ) (t : ℕ → Bool) (at : ℕ) (s : List ℕ) where
  -- no byte is there
  pub one_ends : length s ≤ at → Waiting ≡ judge_at (one r t) at s
  one_ends h = sym (byte_ends r t whole at s h)

  module _ {b : ℕ} (l : at < length s) (e : b ≡ get_or s at 0) where
    step : judge_at (one r t) at s ≡ cond (t b) (Whole b (at + 1)) (Bad r)
    unfolding judge
    step = byte_step r t whole at s l ∙ ap (λ (x : ℕ). cond (t x) (Whole x (at + 1)) (Bad r)) (sym e)

    -- the byte b passes
    pub one_hit : t b ≡ true → Whole b (at + 1) ≡ judge_at (one r t) at s
    one_hit i = sym (step ∙ rw i)

    -- the byte b is refused
    pub one_miss : t b ≡ false → Bad r ≡ judge_at (one r t) at s
    one_miss i = sym (step ∙ rw i)

-- a byte that stands has passed
pub one_passed : (r : ℕ) (t : ℕ → Bool) (at : ℕ) (s : List ℕ) (v e : ℕ) → Whole v e ≡ judge_at (one r t) at s → t v ≡ true
unfolding judge
one_passed r t at s v e w = by (drop at s) w
  where
    tested : (b : ℕ) (u : Bool) → t b ≡ u → Whole v e ≡ cond u (Whole b (at + 1)) (Bad r) → t v ≡ true
    tested b true a w = let x : v ≡ b = cc in ap t x ∙ a
    tested b false a w = let z : ◌≡◌ {A = ℕ} 0 1 = cc in absurd (omega arith)

    by : (xs : List ℕ) → Whole v e ≡ judge (one r t) at xs → t v ≡ true
    by [] w = let z : ◌≡◌ {A = ℕ} 0 1 = cc in absurd (omega arith)
    by (b ∷ xs) w = tested b (t b) refl w

-- -- Runs

-- behind i bytes of a run the next one is judged, and then what is left
pub run_next : (i n : ℕ) (c : Class) → i < n → run (n - i) c ≡ (one (reason c) (accepts c) >>= (λ _. run (n - (i + 1)) c))
unfolding run ◌>>=◌
run_next i n c h = let e : n - i ≡ suc (n - (i + 1)) = omega arith in rw e

module _ (n : ℕ) (c : Class) (at : ℕ) (s : List ℕ) where
  -- the next byte does not pass: its judgement is that of the run
  pub run_halts : {r : Judgement} → 0 < n → r ≡ judge_at (one (reason c) (accepts c)) at s → Halted r → r ≡ judge_at (run n c) at s
  run_halts h a o =
      let e : n - 0 ≡ n = omega arith in
      halt _ _ _ _ a o ∙ sym (ap (λ (p : Form). judge_at p at s) (rw e at (run_next 0 n c h)))

run_split : (m n : ℕ) (c : Class) → m ≤ n → run n c ≡ (run m c >>= (λ _. run (n - m) c))
unfolding run ◌>>=◌
run_split zero n c h = let e : n - 0 ≡ n = omega arith in rw e
run_split (suc m) zero c h = absurd (omega arith)
run_split (suc m) (suc n) c h =
    let e : suc n - suc m ≡ n - m = omega arith in
    ap (λ (p : Form). byte (reason c) (accepts c) (λ _. p)) (run_split m n c (omega arith)) ∙ rw e

-- behind i bytes of a run the m up to byte k are judged, and then what is left
pub run_part : (m i k n : ℕ) (c : Class) → i + m ≡ k → k ≤ n → run (n - i) c ≡ (run m c >>= (λ _. run (n - k) c))
run_part m i k n c e h = run_split m (n - i) c (omega arith) ∙ (let d : n - i - m ≡ n - k = omega arith in rw d)

module _ (m n : ℕ) (c : Class) (at : ℕ) (s : List ℕ) (h : m ≤ n) where
  -- one of the first m bytes does not pass
  pub part_halts : {r : Judgement} → r ≡ judge_at (run m c) at s → Halted r → r ≡ judge_at (run n c) at s
  part_halts a o = halt _ _ _ _ a o ∙ sym (ap (λ (p : Form). judge_at p at s) (run_split m n c h))

-- behind all of them nothing is left
pub run_over : (i n : ℕ) (c : Class) → n ≤ i → run (n - i) c ≡ whole 0
unfolding run
run_over i n c h = let e : n - i ≡ 0 = omega arith in rw e

all_judged : (n : ℕ) (c : Class) (at : ℕ) (xs : List ℕ) → n ≤ length xs → list_all (accepts c) (take n xs) ≡ true
    → judge (run n c) at xs ≡ Whole 0 (at + n)
unfolding run judge
all_judged zero c at xs h t = ap (Whole 0) (omega arith)
all_judged (suc n) c at [] h t = absurd (omega arith)
all_judged (suc n) c at (x ∷ xs) h t =
    let a : accepts c x ≡ true = and_left (accepts c x) (list_all (accepts c) (take n xs)) t in
    let b = and_right (accepts c x) (list_all (accepts c) (take n xs)) t in
    rw a (all_judged n c (at + 1) xs (omega arith) b ∙ ap (Whole 0) (omega arith))

-- n bytes of the class
pub run_all : (n : ℕ) (c : Class) (at end : ℕ) (s : List ℕ) → at + n ≡ end → end ≤ length s
    → list_all (accepts c) (slice_range s at end) ≡ true → judge_at (run n c) at s ≡ Whole 0 end
run_all n c at end s e h t =
    let d : end - at ≡ n = omega arith in
    let u : list_all (accepts c) (take n (drop at s)) ≡ true = ap (λ (m : ℕ). list_all (accepts c) (take m (drop at s))) (sym d) ∙ t in
    all_judged n c at (drop at s) (simp length-drop (omega arith)) u ∙ ap (Whole 0) e
