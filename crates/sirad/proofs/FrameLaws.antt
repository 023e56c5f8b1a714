-- The laws of the frames' parts: each row is judged as the parts that the code judges one after the other, and a frame by its start marker
-- and identifier and then its body.
use Rattle.std.proofs.Common.{Bool, true, false, cond, ◌&&◌, ◌||◌, ◌≡◌, refl, sym, ap, ◌∙◌, List, [], ◌∷◌, length, get_or}
use Rattle.std.proofs.Common.{ℕ, zero, suc, ◌+◌, ◌-◌, ◌<◌, ◌≤◌, eqb, eq-eqb, ne_eqb, eqb-true, arith}
use Rattle.std.specs.List.{list_all, slice_range}
use Rattle.digits.specs.Bytes.{is_hex, is_character}
use Rattle.digits.proofs.Choices.{test, both_ways, and_left, and_right}
use Rattle.form.specs.declared.Judgement.{Judgement}
use Rattle.form.specs.declared.Judgement.TheVariants.{Whole, Bad, Waiting}
use Rattle.form.specs.Form.{Form, whole, byte, ◌>>=◌, judge, judge_at}
use Rattle.form.specs.Pieces.{one}
use Rattle.form.proofs.PieceLaws.{byte_step, byte_ends, go_on, halt, Halted}
use Rattle.sirad.proofs.Runs.{run_all}
use Rattle.sirad.specs.Classes.{Hex, Char, Zero, Cr, Lf, accepts, reason}
use Rattle.sirad.specs.declared.Kind.{Kind}
use Rattle.sirad.specs.declared.Kind.TheVariants.{Unknown}
use Rattle.sirad.specs.Rows.{ending, behind_number, characters, blocks, data_pieces, t_pieces, u_pieces, e_pieces}
use Rattle.sirad.specs.Sirad.{lay, row, run, head, target, behind_first, block, kind_of, known, body, sirad}

-- -- The rows

-- the stop marker is its two bytes
pub stop_form : (kind : ℕ) → row ending kind
    ≡ (one (reason Cr) (accepts Cr) >>= (λ _. one (reason Lf) (accepts Lf) >>= (λ _. whole kind)))
unfolding row run ◌>>=◌
stop_form kind = refl

-- format and gain are a digit and a character
pub head_form : head ≡ (one (reason Hex) (accepts Hex) >>= (λ _. one (reason Char) (accepts Char) >>= (λ _. whole 0)))
unfolding lay ◌>>=◌
head_form = refl

-- format and gain, 20 digits, the stop marker
pub status_form : row u_pieces 5 ≡ (head >>= (λ _. run 20 Hex >>= (λ _. row ending 5)))
unfolding lay row run ◌>>=◌
status_form = refl

-- 4 digits, the stop marker
pub error_form : row e_pieces 6 ≡ (run 4 Hex >>= (λ _. row ending 6))
unfolding row run ◌>>=◌
error_form = refl

-- format and gain, 16 blocks, the stop marker
pub targets_form : row t_pieces 4 ≡ (head >>= (λ _. row (blocks 16) 4))
unfolding lay row run ◌>>=◌
targets_form = refl

-- number and distance, magnitude, phase, reserved
pub target_form : target ≡ (run 5 Hex >>= (λ _. run 1 Char >>= (λ _. run 4 Hex >>= (λ _. run 4 Char))))
unfolding lay run target ◌>>=◌
target_form = refl

-- distance, magnitude, phase, reserved
behind_form : lay behind_number 0 ≡ (run 4 Hex >>= (λ _. run 1 Char >>= (λ _. run 4 Hex >>= (λ _. run 4 Char))))
unfolding lay run ◌>>=◌
behind_form = refl

-- the four runs behind a target's number
pub behind_seen : (p : ℕ) (s : List ℕ) {a b c d : Bool} → p + 14 ≤ length s
    → a ≡ list_all is_hex (slice_range s (p + 1) (p + 5)) → b ≡ list_all is_character (slice_range s (p + 5) (p + 6))
    → c ≡ list_all is_hex (slice_range s (p + 6) (p + 10)) → d ≡ list_all is_character (slice_range s (p + 10) (p + 14))
    → (a && b && c && d) ≡ true → judge_at (lay behind_number 0) (p + 1) s ≡ Whole 0 (p + 14)
behind_seen p s h distance magnitude phase reserved t =
    let k = and_left _ _ t in
    let m = and_left _ _ k in
    ap (λ (q : Form). judge_at q (p + 1) s) behind_form
    ∙ go_on (run 4 Hex) (λ _. run 1 Char >>= (λ _. run 4 Hex >>= (λ _. run 4 Char))) (p + 1) s refl
    (run_all 4 Hex (p + 1) (p + 5) s (omega arith) (omega arith) (sym distance ∙ and_left _ _ m))
    ∙ go_on (run 1 Char) (λ _. run 4 Hex >>= (λ _. run 4 Char)) (p + 5) s refl
    (run_all 1 Char (p + 5) (p + 6) s (omega arith) (omega arith) (sym magnitude ∙ and_right _ _ m))
    ∙ go_on (run 4 Hex) (λ _. run 4 Char) (p + 6) s refl
    (run_all 4 Hex (p + 6) (p + 10) s (omega arith) (omega arith) (sym phase ∙ and_right _ _ k))
    ∙ run_all 4 Char (p + 10) (p + 14) s (omega arith) (omega arith) (sym reserved ∙ and_right _ _ t)

characters_form : (n kind : ℕ) → row (characters n) kind ≡ (run n Char >>= (λ _. row ending kind))
unfolding row run characters ◌>>=◌
characters_form zero kind = refl
characters_form (suc n) kind = ap (λ (p : Form). byte 13 (accepts Char) (λ _. p)) (characters_form n kind)

-- reserved bytes and data are one run of characters
pub data_form : (n kind : ℕ) → row (data_pieces n) kind ≡ (run (n + 8) Char >>= (λ _. row ending kind))
unfolding row run ◌>>=◌
data_form n kind =
    let e : n + 8 ≡ suc (suc (suc (suc (suc (suc (suc (suc n))))))) = omega arith in
    rw (e, characters_form n kind)

-- -- One block

bad_whole : {A : Type 0} {j : Judgement} {r k n : ℕ} → j ≡ Bad r → j ≡ Whole k n → A
bad_whole a b = let z : ◌≡◌ {A = ℕ} 0 1 = cc in absurd (omega arith)

module _ (at : ℕ) (s : List ℕ) where
  block_step : at < length s → judge_at block at s ≡ cond (eqb (get_or s at 0) 0 || is_hex (get_or s at 0))
      (judge_at (behind_first (get_or s at 0)) (at + 1) s) (Bad 12)
  unfolding block ◌>>=◌
  block_step l = byte_step 12 (λ b. eqb b 0 || is_hex b) behind_first at s l

  -- no byte is there
  pub block_ends : length s ≤ at → Waiting ≡ judge_at block at s
  unfolding block ◌>>=◌
  block_ends h = sym (byte_ends 12 (λ b. eqb b 0 || is_hex b) behind_first at s h)

  zeros_step : at < length s → judge_at (run 14 Zero) at s ≡ cond (eqb (get_or s at 0) 0) (judge_at (run 13 Zero) (at + 1) s) (Bad 17)
  unfolding run
  zeros_step l = byte_step 17 (accepts Zero) (λ _. run 13 Zero) at s l

  target_step : at < length s → judge_at target at s ≡ cond (is_hex (get_or s at 0)) (judge_at (lay behind_number 0) (at + 1) s) (Bad 12)
  unfolding target lay
  target_step l = byte_step 12 is_hex (λ _. lay behind_number 0) at s l

  -- a first byte 0: fourteen of them
  pub block_zeros : at < length s → get_or s at 0 ≡ 0 → judge_at block at s ≡ judge_at (run 14 Zero) at s
  block_zeros l e =
      let t = eq-eqb (get_or s at 0) 0 e in
      let a : judge_at block at s ≡ judge_at (run 13 Zero) (at + 1) s = rw t at (block_step l) in
      let b : judge_at (run 14 Zero) at s ≡ judge_at (run 13 Zero) (at + 1) s = rw t at (zeros_step l) in
      a ∙ sym b

  -- any other: a target
  pub block_target : at < length s → (get_or s at 0 ≡ 0 → ⊥) → judge_at block at s ≡ judge_at target at s
  block_target l n =
      let t = ne_eqb (get_or s at 0) 0 n in
      let a : judge_at block at s ≡ cond (is_hex (get_or s at 0)) (judge_at (lay behind_number 0) (at + 1) s) (Bad 12) = rw t at
      (block_step l) in
      a ∙ sym (target_step l)

  -- fourteen bytes of value 0 are one
  pub zeros_block : at + 14 ≤ length s → judge_at (run 14 Zero) at s ≡ Whole 0 (at + 14) → judge_at block at s ≡ Whole 0 (at + 14)
  zeros_block l h =
      test (eqb (get_or s at 0) 0) (λ t. block_zeros (omega arith) (eqb-true (get_or s at 0) 0 t) ∙ h) (λ t. bad_whole (broken t) h)
    where
      broken : eqb (get_or s at 0) 0 ≡ false → judge_at (run 14 Zero) at s ≡ Bad 17
      broken t = rw t at (zeros_step (omega arith))

  -- so are a digit and a target's other bytes
  pub held_block : at + 14 ≤ length s → is_hex (get_or s at 0) ≡ true → judge_at (lay behind_number 0) (at + 1) s ≡ Whole 0 (at + 14)
      → judge_at block at s ≡ Whole 0 (at + 14)
  held_block l t h =
      let held : judge_at target at s ≡ judge_at (lay behind_number 0) (at + 1) s = rw t at (target_step (omega arith)) in
      block_target (omega arith) (λ e. both_ways (is_hex (get_or s at 0)) t (rw e)) ∙ held ∙ h

-- -- Blocks

-- behind i blocks of n the next one is judged, and then the others
pub blocks_next : (i n : ℕ) → i < n → row (blocks (n - i)) 4 ≡ (block >>= (λ _. row (blocks (n - (i + 1))) 4))
unfolding row blocks
blocks_next i n h = let e : n - i ≡ suc (n - (i + 1)) = omega arith in rw e

module _ (n at : ℕ) (s : List ℕ) where
  -- the next block does not stand: its judgement is that of all
  pub blocks_halt : {r : Judgement} → 0 < n → r ≡ judge_at block at s → Halted r → r ≡ judge_at (row (blocks n) 4) at s
  blocks_halt h a o =
      let e : n - 0 ≡ n = omega arith in
      halt _ _ _ _ a o ∙ sym (ap (λ (p : Form). judge_at p at s) (rw e at (blocks_next 0 n h)))

-- behind all blocks: the stop marker
pub blocks_over : (i n : ℕ) → n ≤ i → row (blocks (n - i)) 4 ≡ row ending 4
unfolding blocks
blocks_over i n h = let e : n - i ≡ 0 = omega arith in rw e

-- -- The start of a frame

-- no byte is there
pub judge_none : (bs : List ℕ) → length bs < 1 → Waiting ≡ judge sirad 0 bs
unfolding sirad ◌>>=◌ judge
judge_none [] h = refl
judge_none (b ∷ bs) h = absurd (omega arith)

-- the first byte is no start marker
pub judge_no_start : (bs : List ℕ) → 1 ≤ length bs → (get_or bs 0 0 ≡ 33 → ⊥) → Bad 10 ≡ judge sirad 0 bs
unfolding sirad ◌>>=◌ judge
judge_no_start [] h e = absurd (omega arith)
judge_no_start (b ∷ bs) h e = rw (ne_eqb b 33 e)

-- the start marker alone
pub judge_start : (bs : List ℕ) → 1 ≤ length bs → get_or bs 0 0 ≡ 33 → length bs < 2 → Waiting ≡ judge sirad 0 bs
unfolding sirad ◌>>=◌ judge
judge_start [] h e l = absurd (omega arith)
judge_start (b ∷ []) h e l = rw (eq-eqb b 33 e)
judge_start (b ∷ c ∷ bs) h e l = absurd (omega arith)

second : (b c : ℕ) (bs : List ℕ) → b ≡ 33 → judge sirad 0 (b ∷ c ∷ bs) ≡ cond (known (kind_of c)) (judge (body (kind_of c)) 2 bs) (Bad 11)
unfolding sirad ◌>>=◌ judge
second b c bs e = rw (eq-eqb b 33 e)

module _ (bs : List ℕ) (h : 2 ≤ length bs) (e : get_or bs 0 0 ≡ 33) where
  judge_second : judge sirad 0 bs ≡ cond (known (kind_of (get_or bs 1 0))) (judge_at (body (kind_of (get_or bs 1 0))) 2 bs) (Bad 11)
  judge_second = by bs h e
    where
      by : (bs : List ℕ) → 2 ≤ length bs → get_or bs 0 0 ≡ 33
          → judge sirad 0 bs ≡ cond (known (kind_of (get_or bs 1 0))) (judge_at (body (kind_of (get_or bs 1 0))) 2 bs) (Bad 11)
      by [] h e = absurd (omega arith)
      by (b ∷ []) h e = absurd (omega arith)
      by (b ∷ c ∷ bs) h e = second b c bs e

  -- the identifier announces a body
  pub judge_body : (k : Kind) → kind_of (get_or bs 1 0) ≡ k → known k ≡ true → judge sirad 0 bs ≡ judge_at (body k) 2 bs
  judge_body k f t = judge_second ∙ ap (λ (k : Kind). cond (known k) (judge_at (body k) 2 bs) (Bad 11)) f ∙ rw t

  -- no identifier
  pub judge_unknown : kind_of (get_or bs 1 0) ≡ Unknown → Bad 11 ≡ judge sirad 0 bs
  judge_unknown f = sym (judge_second ∙ ap (λ (k : Kind). cond (known k) (judge_at (body k) 2 bs) (Bad 11)) f)
