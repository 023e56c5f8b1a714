-- Each case of the reading. `Framing` is the case distinction of 40 to 43; the laws of the payload and of the answers are for the code.
use Rattle.std.proofs.Common.{◌≡◌, sym, ap, ◌∙◌, Bool, List, ℕ, suc, ◌+◌, ◌-◌, ◌*◌, ◌<◌, ◌≤◌, arith, lt-ltb, le-ltb, eq-eqb, ne_eqb, length}
use Rattle.std.proofs.Common.{drop, set, replicate, refl, Option, Some, None, Result, Ok, Err}
use Rattle.std.specs.Prelude.{⊤}
use Rattle.std.specs.Result.{result_and}
use native.Mathlib.Decide.{dec_le, ℕ_discrete}
use lib.Seq.{sets}
use Rattle.refusals.specs.declared.Refusal.{Refusal}
use Rattle.refusals.specs.declared.Refusal.TheVariants.{CommandTooShort, RestBitSet, LengthZero, WrongSize}
use Rattle.digits.specs.LittleEndian.{word_at}
use Rattle.demorad.specs.Rules.{rule_of, chosen, judged, checked}
use Rattle.demorad.specs.Reading.{rd_of, rest_of, length_of, code_of, header_of, count_of, words_of}
use Rattle.demorad.specs.Reading.{payload_of, padded, framed, command, read_command}
use Rattle.demorad.specs.declared.Rule.{Rule}
use Rattle.demorad.specs.declared.Selection.{Selection}
use Rattle.demorad.proofs.WordLaws.{words_more, length_words, padded_sets, get_d_padded}

-- -- The framing: 40 to 43

module _ (bs : List ℕ) where
  -- what the framing says
  pub data Framing : Result ⊤ Refusal → Type 0 where
    short : length bs < 4 → Framing (Err CommandTooShort)
    rest : 4 ≤ length bs → (rest_of (header_of bs) ≡ 0 → ⊥) → Framing (Err RestBitSet)
    empty : 4 ≤ length bs → rest_of (header_of bs) ≡ 0 → length_of (header_of bs) ≡ 0 → Framing (Err LengthZero)
    size : 4 ≤ length bs → rest_of (header_of bs) ≡ 0 → (length_of (header_of bs) ≡ 0 → ⊥) → (length bs ≡ 4 * length_of (header_of bs) → ⊥)
        → Framing (Err WrongSize)
    whole : 4 ≤ length bs → rest_of (header_of bs) ≡ 0 → (length_of (header_of bs) ≡ 0 → ⊥) → length bs ≡ 4 * length_of (header_of bs)
        → Framing (Ok tt)

  -- nothing is refused
  pub framing_fine : 4 ≤ length bs → rest_of (header_of bs) ≡ 0 → (length_of (header_of bs) ≡ 0 → ⊥) → length bs
      ≡ 4 * length_of (header_of bs)
      → framed bs ≡ Ok tt
  unfolding framed
  framing_fine l r n s =
      rw (
        le-ltb (length bs) 4 l,
        eq-eqb (rest_of (header_of bs)) 0 r,
        ne_eqb (length_of (header_of bs)) 0 n,
        eq-eqb (length bs) (4 * length_of (header_of bs)) s,
      )

  by_tests : Dec (4 ≤ length bs) → Dec (rest_of (header_of bs) ≡ 0) → Dec (length_of (header_of bs) ≡ 0)
      → Dec (length bs ≡ 4 * length_of (header_of bs)) → Framing (framed bs)
  unfolding framed
  by_tests (no l) r n s = rw (lt-ltb (length bs) 4 (omega arith)) (short (omega arith))
  by_tests (yes l) (no r) n s = rw (le-ltb (length bs) 4 l, ne_eqb (rest_of (header_of bs)) 0 r) (rest l r)
  by_tests (yes l) (yes r) (yes n) s =
      rw (le-ltb (length bs) 4 l, eq-eqb (rest_of (header_of bs)) 0 r, eq-eqb (length_of (header_of bs)) 0 n) (empty l r n)
  by_tests (yes l) (yes r) (no n) (no s) =
      rw (
        le-ltb (length bs) 4 l,
        eq-eqb (rest_of (header_of bs)) 0 r,
        ne_eqb (length_of (header_of bs)) 0 n,
        ne_eqb (length bs) (4 * length_of (header_of bs)) s,
      )
      (size l r n s)
  by_tests (yes l) (yes r) (no n) (yes s) = rw (framing_fine l r n s) (whole l r n s)

  -- all bytes have one
  pub framing_view : Framing (framed bs)
  framing_view =
      by_tests (dec_le 4 (length bs)) (ℕ_discrete (rest_of (header_of bs)) 0) (ℕ_discrete (length_of (header_of bs)) 0)
      (ℕ_discrete (length bs) (4 * length_of (header_of bs)))

-- what well-framed bytes are
pub record Framed (bs : List ℕ) : Type 0 where
  pub there : 4 ≤ length bs
  pub rest : rest_of (header_of bs) ≡ 0
  pub some : 1 ≤ length_of (header_of bs)
  pub size : length bs ≡ 4 * length_of (header_of bs)

-- bytes without a refusal of 40 to 43 are well-framed
pub is_framed : (bs : List ℕ) {u : ⊤} → framed bs ≡ Ok u → Framed bs
is_framed bs h = go (framing_view bs) h
  where
    go : {f : Result ⊤ Refusal} {u : ⊤} → Framing bs f → f ≡ Ok u → Framed bs
    go (short l) e = cc
    go (rest l r) e = cc
    go (empty l r n) e = cc
    go (size l r n s) e = cc
    go (whole l r n s) e = record { there = l; rest = r; some = omega arith; size = s }

-- -- The payload loop: what is stored, then the words that are left

-- the start
pub payload_starts : (n : ℕ) (bs : List ℕ) → n ≤ 30 → sets (replicate 30 0) 0 (words_of (n - 0) bs) ≡ padded (words_of n bs)
payload_starts n bs h =
    let e : n - 0 ≡ n = omega arith in
    let l = length_words n bs in
    rw e (padded_sets (words_of n bs) (omega arith))

-- a turn
pub payload_turns : (n i w : ℕ) (bs words all : List ℕ) → i < n → 4 + 4 * i + 4 ≤ length bs → w ≡ word_at bs (4 + 4 * i)
    → sets words i (words_of (n - i) (drop (4 + 4 * i) bs)) ≡ all
    → sets (set words i w) (i + 1) (words_of (n - (i + 1)) (drop (4 + 4 * (i + 1)) bs)) ≡ all
payload_turns n i w bs words all h l e inv =
    let m : n - i ≡ suc (n - (i + 1)) = omega arith in
    let s : i + 1 ≡ suc i = omega arith in
    let a : 4 + 4 * (i + 1) ≡ 4 + 4 * i + 4 = omega arith in
    rw (e, a, s) (rw (m, words_more (n - (i + 1)) (4 + 4 * i) bs l, s) at inv)

-- the end
pub payload_ends : (n i at : ℕ) (bs words all : List ℕ) → i ≡ n → sets words i (words_of (n - i) (drop at bs)) ≡ all → words ≡ all
unfolding words_of
payload_ends n i at bs words all e inv = let z : n - i ≡ 0 = omega arith in rw z at inv

-- -- The answers

-- the unused words do not count
pub checked_padded : (code count : ℕ) (ws : List ℕ) → checked code count (padded ws) ≡ checked code count ws
unfolding checked
checked_padded code count ws = by_rule (rule_of code)
  where
    by_selection : (o : Option Selection) → chosen o (padded ws) ≡ chosen o ws
    by_selection None = refl
    by_selection (Some s) = rw (get_d_padded ws s.index)

    by_rule : (o : Option Rule) → judged o count (padded ws) ≡ judged o count ws
    by_rule None = refl
    by_rule (Some rule) = rw (by_selection rule.selection)

-- refused by 40 to 43
pub read_unframed : (bs : List ℕ) {r : Refusal} → framed bs ≡ Err r → read_command bs ≡ Err r
unfolding read_command
read_unframed bs e = rw e

-- well-framed: what the code, the count and the words say, at their values at hand
module _ (bs : List ℕ) (header code count : ℕ) (words : List ℕ) {u : ⊤}
    (well : framed bs ≡ Ok u) (head : header ≡ header_of bs) (coded : code ≡ code_of header) (counted : count ≡ length_of header - 1)
    (paid : words ≡ padded (words_of count (drop 4 bs))) where
  read_framed : read_command bs ≡ result_and (checked code count words) (Ok (command (rd_of header) code count words))
  unfolding read_command
  read_framed =
      let c : count ≡ count_of bs = counted ∙ ap (λ (h : ℕ). length_of h - 1) head in
      let p : words ≡ padded (payload_of bs) = paid ∙ ap (λ (n : ℕ). padded (words_of n (drop 4 bs))) c in
      rw (well, p, c, coded, head, checked_padded (code_of (header_of bs)) (count_of bs) (payload_of bs))

  -- refused by 44 to 46
  pub read_illegal : {r : Refusal} → checked code count words ≡ Err r → read_command bs ≡ Err r
  read_illegal e = read_framed ∙ rw e

  -- a command
  pub read_done : {v : ⊤} → checked code count words ≡ Ok v → (rd : Bool) → rd ≡ rd_of header
      → Ok (command rd code count words) ≡ read_command bs
  read_done e rd f = sym (read_framed ∙ rw (e, f))
