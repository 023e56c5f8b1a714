-- A command is refused with the first number whose condition holds. The two case distinctions, `Framing` and `Verdict`, give the condition
-- that holds; every earlier one contradicts a fact of the same case.
use Rattle.std.proofs.Common.{◌≡◌, refl, sym, ap, ◌∙◌, subst, Bool, cond, List, ℕ, zero, suc, ◌+◌, ◌-◌, ◌*◌, ◌/◌, ◌%◌, ◌^◌, ◌<◌, ◌≤◌}
use Rattle.std.proofs.Common.{add-one, arith, eq-eqb, ne_eqb, le-leb, eqb, shr-shr, length, Option, Some, Result}
use Rattle.std.specs.Prelude.{⊤}
use native.Mathlib.Nat.{zero-div}
use native.Mathlib.Decide.{dec_le, ℕ_discrete}
use borrow.Author.Tests.{lt-leb}
use lib.Pow.{mod-pow-add, field}
use Rattle.refusals.specs.Numbers.{refusal_number}
use Rattle.refusals.specs.declared.Refusal.{Refusal}
use Rattle.digits.specs.Stores.{Writes, writer_answer}
use Rattle.digits.specs.declared.Written.{Written}
use Rattle.demorad.specs.Rules.{rules, rule_of, selected, checked, legality}
use Rattle.demorad.specs.Image.{command_bytes}
use Rattle.demorad.specs.Reading.{bits, rest_of, length_of, code_of, header_of, count_of, payload_of, read_refusal, read_command}
use Rattle.demorad.specs.Refusals.{Listed, First}
use Rattle.demorad.specs.Refusals.{Illegal, unknown_code, too_few, too_many, over_thirty, wrong_selection}
use Rattle.demorad.specs.Refusals.{Unreadable, too_short, rest_bit, no_length, wrong_size, illegal_read}
use Rattle.demorad.specs.Refusals.{Unwritable, illegal_write, no_room}
use Rattle.demorad.specs.declared.Rule.{Rule}
use Rattle.demorad.specs.declared.Selection.{Selection}
use Rattle.demorad.proofs.RuleLaws.{tabled, known_listed, listed_rule, absent_unknown, unknown_absent}
use Rattle.demorad.proofs.RuleLaws.{Verdict, unknown, few, many, out, fine, verdict}
use Rattle.demorad.proofs.ReadingLaws.{Framing, short, rest, empty, size, whole, framing_view}
use Rattle.demorad.proofs.RoundTrips.{refusal_read}

-- -- The rest bits, one by one

-- bit i of half a number is its bit i + 1
half_bit : (v i : ℕ) → bits i 1 (v / 2) ≡ bits (suc i) 1 v
half_bit v i =
    let e : 1 + i ≡ suc i = omega arith in
    let s : v / 2 / 2 ^ i ≡ v / 2 ^ (1 + i) = shr-shr v 1 i in
    rw (s, e)

-- a number whose lowest n bits are not all 0 has a bit set among them
some_bit : (n v : ℕ) → (v % 2 ^ n ≡ 0 → ⊥) → (i : ℕ) × (i < n) × (bits i 1 v ≡ 1)
some_bit zero v h = absurd (h (omega arith))
some_bit (suc n) v h = go (ℕ_discrete (v % 2) 1) (λ k. some_bit n (v / 2) k)
  where
    upper : v % 2 ^ suc n ≡ v / 2 % 2 ^ n * 2 + v % 2
    upper = rw (add-one n) at (mod-pow-add v n 1)

    next : (i : ℕ) × (i < n) × (bits i 1 (v / 2) ≡ 1) → (i : ℕ) × (i < suc n) × (bits i 1 v ≡ 1)
    next (i, l, e) = (suc i, omega arith, sym (half_bit v i) ∙ e)

    go : Dec (v % 2 ≡ 1) → ((v / 2 % 2 ^ n ≡ 0 → ⊥) → (i : ℕ) × (i < n) × (bits i 1 (v / 2) ≡ 1)) → (i : ℕ) × (i < suc n) × (bits i 1 v ≡ 1)
    go (yes e) more = (0, omega arith, omega arith)
    go (no e) more = next (more (λ z. h (let m = upper in omega arith)))

-- a number whose lowest n bits are all 0 has none set among them
clear_bit : (n v i : ℕ) → v % 2 ^ n ≡ 0 → i < n → bits i 1 v ≡ 0
clear_bit n v i z h =
    let e : n ≡ (n - (1 + i)) + (1 + i) = omega arith in
    let m : v % 2 ^ ((n - (1 + i)) + (1 + i)) ≡ 0 = rw e at z in
    let p = mod-pow-add v (n - (1 + i)) (1 + i) in
    let q : v % 2 ^ (1 + i) ≡ 0 = omega arith in
    sym (field v 1 i) ∙ rw q (zero-div (2 ^ i))

-- a rest bit is set exactly if the rest is not 0
some_rest_bit : (h : ℕ) → (rest_of h ≡ 0 → ⊥) → (i : ℕ) × (21 ≤ i) × (i ≤ 30) × (bits i 1 h ≡ 1)
some_rest_bit h n =
    let r = some_bit 10 (h / 2 ^ 21) n in
    (21 + r.0, omega arith, omega arith, ap (λ (k : ℕ). k % 2) (sym (shr-shr h 21 r.0)) ∙ r.2)

rest_clear : (h i : ℕ) → rest_of h ≡ 0 → 21 ≤ i → i ≤ 30 → bits i 1 h ≡ 1 → ⊥
rest_clear h i z l u e =
    let c : bits (i - 21) 1 (h / 2 ^ 21) ≡ 0 = clear_bit 10 (h / 2 ^ 21) (i - 21) z (omega arith) in
    let s : h / 2 ^ 21 / 2 ^ (i - 21) ≡ h / 2 ^ i = shr-shr h 21 (i - 21) ∙ ap (λ (k : ℕ). h / 2 ^ k) (omega arith) in
    let b = ap (λ (k : ℕ). k % 2) s in
    omega arith

-- -- Code, payload count and selection

module _ (code count : ℕ) (words : List ℕ) where
  -- an illegal command's number is 44 to 46
  illegal_from : {n : ℕ} → Illegal code count words n → 44 ≤ n
  illegal_from (unknown_code a) = omega arith
  illegal_from (too_few rule l h) = omega arith
  illegal_from (too_many rule l h) = omega arith
  illegal_from (over_thirty h) = omega arith
  illegal_from (wrong_selection rule s l e h) = omega arith

  illegal_to : {n : ℕ} → Illegal code count words n → n ≤ 46
  illegal_to (unknown_code a) = omega arith
  illegal_to (too_few rule l h) = omega arith
  illegal_to (too_many rule l h) = omega arith
  illegal_to (over_thirty h) = omega arith
  illegal_to (wrong_selection rule s l e h) = omega arith

  -- a listed rule is the code's
  same_rule : (rule r : Rule) → rule_of code ≡ Some rule → Listed code r rules → rule ≡ r
  same_rule rule r k p = let e = listed_rule code r p in cc

  -- no condition below n holds once the facts of the code's rule that come before n do
  legal_below : (n : ℕ) (rule : Rule) → rule_of code ≡ Some rule → (45 < n → rule.least ≤ count) → (45 < n → count ≤ rule.most)
      → (46 < n → (s : Selection) → rule.selection ≡ Some s → selected s words ≤ s.top)
      → (m : ℕ) → m < n → Illegal code count words m → ⊥
  unfolding rule_of
  legal_below n rule k l u s m h (unknown_code a) = let e = absent_unknown code rules a in cc
  legal_below n rule k l u s m h (too_few r p q) =
      let e = ap (λ (r : Rule). r.least) (same_rule rule r k p) in
      let f = l h in
      omega arith
  legal_below n rule k l u s m h (too_many r p q) =
      let e = ap (λ (r : Rule). r.most) (same_rule rule r k p) in
      let f = u h in
      omega arith
  legal_below n rule k l u s m h (over_thirty q) = let b = (tabled code rule k).most in let f = u h in omega arith
  legal_below n rule k l u s m h (wrong_selection r t p e q) =
      let f = s h t (ap (λ (r : Rule). r.selection) (same_rule rule r k p) ∙ e) in omega arith

  -- the verdict is the first condition that holds
  verdict_first : {o : Option Rule} {v : Result ⊤ Refusal} → Verdict count words o v → rule_of code ≡ o
      → First (Illegal code count words) (refusal_number v)
  unfolding rule_of
  verdict_first unknown k =
      record {
        none = λ z. absurd (omega arith);
        holds = λ z. unknown_code (unknown_absent code rules k);
        least = λ m h i. let f = illegal_from i in omega arith;
      }
  verdict_first (few rule l) k =
      record {
        none = λ z. absurd (omega arith);
        holds = λ z. too_few rule (known_listed code rule rules k) l;
        least = legal_below 45 rule k (λ h. absurd (omega arith)) (λ h. absurd (omega arith)) (λ h. absurd (omega arith));
      }
  verdict_first (many rule l) k =
      record {
        none = λ z. absurd (omega arith);
        holds = λ z. too_many rule (known_listed code rule rules k) l;
        least = legal_below 45 rule k (λ h. absurd (omega arith)) (λ h. absurd (omega arith)) (λ h. absurd (omega arith));
      }
  verdict_first (out rule s l u e q) k =
      record {
        none = λ z. absurd (omega arith);
        holds = λ z. wrong_selection rule s (known_listed code rule rules k) e q;
        least = legal_below 46 rule k (λ h. l) (λ h. u) (λ h. absurd (omega arith));
      }
  verdict_first (fine rule l u s) k =
      record {
        none = λ z n i. legal_below (n + 47) rule k (λ h. l) (λ h. u) (λ h. s) n (omega arith) i;
        holds = λ z. absurd (z refl);
        least = λ n h. absurd (omega arith);
      }

  -- a command's legality is the first of 44 to 46 whose condition holds
  pub legality_first : First (Illegal code count words) (legality code count words)
  unfolding checked
  legality_first = verdict_first (verdict count words (rule_of code)) refl

-- -- Reading

module _ (bs : List ℕ) where
  abbrev Illegal-read : ℕ → Type 0
  Illegal-read n = Illegal (code_of (header_of bs)) (count_of bs) (payload_of bs) n

  -- no condition below n holds once the facts that come before n do, and no illegal command is below n
  framed_below : (n : ℕ) → (40 < n → 4 ≤ length bs) → (41 < n → rest_of (header_of bs) ≡ 0) → (42 < n → length_of (header_of bs) ≡ 0 → ⊥)
      → (43 < n → length bs ≡ 4 * length_of (header_of bs)) → ((m : ℕ) → m < n → Illegal-read m → ⊥) → (m : ℕ) → m < n → Unreadable bs m → ⊥
  framed_below n a b c d e m h (too_short k) = let f = a h in omega arith
  framed_below n a b c d e m h (rest_bit i l u k) = rest_clear (header_of bs) i (b h) l u k
  framed_below n a b c d e m h (no_length k) = c h k
  framed_below n a b c d e m h (wrong_size k) = k (d h)
  framed_below n a b c d e m h (illegal_read k) = e m h k

  -- a command of 44 to 46 is not below a number of 40 to 43
  not_yet : (n : ℕ) → n ≤ 44 → (m : ℕ) → m < n → Illegal-read m → ⊥
  not_yet n l m h i = let f = illegal_from (code_of (header_of bs)) (count_of bs) (payload_of bs) i in omega arith

  -- framing first, then legality
  framing_first : {f : Result ⊤ Refusal} → Framing bs f
      → First (Unreadable bs)
      (cond (eqb (refusal_number f) 0) (legality (code_of (header_of bs)) (count_of bs) (payload_of bs)) (refusal_number f))
  framing_first (short l) =
      record {
        none = λ z. absurd (omega arith);
        holds = λ z. too_short l;
        least =
            framed_below 40 (λ h. absurd (omega arith)) (λ h. absurd (omega arith)) (λ h. absurd (omega arith)) (λ h. absurd (omega arith))
            (not_yet 40 (omega arith));
      }
  framing_first (rest l r) =
      record {
        none = λ z. absurd (omega arith);
        holds = λ z. let b = some_rest_bit (header_of bs) r in rest_bit b.0 b.1 b.2 b.3;
        least =
            framed_below 41 (λ h. l) (λ h. absurd (omega arith)) (λ h. absurd (omega arith)) (λ h. absurd (omega arith))
            (not_yet 41 (omega arith));
      }
  framing_first (empty l r z) =
      record {
        none = λ z. absurd (omega arith);
        holds = λ y. no_length z;
        least = framed_below 42 (λ h. l) (λ h. r) (λ h. absurd (omega arith)) (λ h. absurd (omega arith)) (not_yet 42 (omega arith));
      }
  framing_first (size l r z s) =
      record {
        none = λ z. absurd (omega arith);
        holds = λ y. wrong_size s;
        least = framed_below 43 (λ h. l) (λ h. r) (λ h. z) (λ h. absurd (omega arith)) (not_yet 43 (omega arith));
      }
  framing_first (whole l r z s) =
      let f = legality_first (code_of (header_of bs)) (count_of bs) (payload_of bs) in
      record {
        none = λ y n. framed_below (suc n) (λ h. l) (λ h. r) (λ h. z) (λ h. s) (λ m h. f.none y m) n (omega arith);
        holds = λ y. illegal_read (f.holds y);
        least = framed_below (legality (code_of (header_of bs)) (count_of bs) (payload_of bs)) (λ h. l) (λ h. r) (λ h. z) (λ h. s) f.least;
      }

  -- bytes are refused with the first of 40 to 46 whose condition holds, and with 0 exactly if none holds
  pub refused_first : First (Unreadable bs) (refusal_number (read_command bs))
  unfolding read_refusal
  refused_first = subst (λ (n : ℕ). First (Unreadable bs) n) (sym (refusal_read bs)) (framing_first (framing_view bs))

-- -- Writing

module _ (rd : Bool) (code count : ℕ) (words out : List ℕ) where
  abbrev Fails : ℕ → Type 0
  Fails n = Unwritable rd code count words out n

  abbrev answer : Written
  answer = writer_answer (legality code count words) (command_bytes rd code count words) out

  refused_values : (legality code count words ≡ 0 → ⊥) → First Fails (legality code count words)
  refused_values d =
      let f = legality_first code count words in
      record {
        none =
            λ z. absurd (d z);
        holds = λ z. illegal_write (f.holds d);
        least = below f.least (illegal_to code count words (f.holds d));
      }
    where
      below : ((m : ℕ) → m < legality code count words → Illegal code count words m → ⊥) → legality code count words ≤ 46
          → (m : ℕ) → m < legality code count words → Fails m → ⊥
      below f u m h (illegal_write i) = f m h i
      below f u m h (no_room k) = omega arith

  no_output : legality code count words ≡ 0 → length out < length (command_bytes rd code count words) → First Fails 51
  no_output d l =
      record { none = λ z. absurd (omega arith); holds = λ z. no_room l; least = below ((legality_first code count words).none d) }
    where
      below : ((m : ℕ) → Illegal code count words m → ⊥) → (m : ℕ) → m < 51 → Fails m → ⊥
      below f m h (illegal_write i) = f m i
      below f m h (no_room k) = omega arith

  nothing_fails : legality code count words ≡ 0 → length (command_bytes rd code count words) ≤ length out → First Fails 0
  nothing_fails d l =
      record {
        none = λ z. never ((legality_first code count words).none d);
        holds = λ z. absurd (z refl);
        least = λ m h. absurd (omega arith);
      }
    where
      never : ((m : ℕ) → Illegal code count words m → ⊥) → (m : ℕ) → Fails m → ⊥
      never f m (illegal_write i) = f m i
      never f m (no_room k) = omega arith

  answer_first : First Fails answer.refusal
  answer_first = go (ℕ_discrete (legality code count words) 0) (dec_le (length (command_bytes rd code count words)) (length out))
    where
      go : Dec (legality code count words ≡ 0) → Dec (length (command_bytes rd code count words) ≤ length out)
          → First Fails answer.refusal
      go (no d) l = rw (ne_eqb (legality code count words) 0 d) (refused_values d)
      go (yes d) (yes l) =
          rw (eq-eqb (legality code count words) 0 d, le-leb (length (command_bytes rd code count words)) (length out) l)
          (nothing_fails d l)
      go (yes d) (no l) =
          rw (eq-eqb (legality code count words) 0 d, lt-leb (length (command_bytes rd code count words)) (length out) (omega arith))
          (no_output d (omega arith))

  -- a command is refused for writing with the first of 44, 45, 46, 51 whose condition holds, and with 0 exactly if none holds
  pub write_refused_first : (r : Written) (after : List ℕ)
      → Writes (legality code count words) (command_bytes rd code count words) out r after
      → First (Unwritable rd code count words out) r.refusal
  write_refused_first r after w = subst (λ (a : Written). First Fails a.refusal) (sym w.answers) answer_first

-- -- The first number is one

-- the conditions determine the number
pub first_unique : (condition : ℕ → Type 0) (a b : ℕ) → First condition a → First condition b → a ≡ b
first_unique condition a b f g = go (ℕ_discrete a 0) (ℕ_discrete b 0) (dec_le a b) (dec_le b a)
  where
    go : Dec (a ≡ 0) → Dec (b ≡ 0) → Dec (a ≤ b) → Dec (b ≤ a) → a ≡ b
    go (yes p) (yes q) l m = p ∙ sym q
    go (yes p) (no q) l m = absurd (f.none p b (g.holds q))
    go (no p) (yes q) l m = absurd (g.none q a (f.holds p))
    go (no p) (no q) (yes l) (yes m) = omega arith
    go (no p) (no q) (no l) m = absurd (f.least b (omega arith) (g.holds q))
    go (no p) (no q) (yes l) (no m) = absurd (g.least a (omega arith) (f.holds p))
