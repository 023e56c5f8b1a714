-- What the table of rules says of every code, and each case of a command's legality. `Verdict` is the one case distinction that all later
-- proofs go by.
use Rattle.std.proofs.Common.{◌≡◌, refl, sym, ap, ◌∙◌, Bool, true, false, cond, List, [], ◌∷◌, ◌⊎◌, inl, inr, ℕ, ◌<◌, ◌≤◌, arith}
use Rattle.std.proofs.Common.{le-leb, lt-ltb, le-ltb, eqb-true, ne_eqb, eqb, take, get_or-take, Option, Some, None, IfSome, Result, Ok, Err}
use Rattle.std.specs.Prelude.{⊤}
use native.Mathlib.Decide.{dec_le}
use borrow.Author.Tests.{lt-leb, eqb-false}
use Rattle.refusals.specs.Numbers.{refusal_number}
use Rattle.refusals.specs.declared.Refusal.{Refusal}
use Rattle.refusals.specs.declared.Refusal.TheVariants.{UnknownCode, WrongCount, WrongSelection}
use Rattle.demorad.specs.Rules.{rules, lookup, rule_of, selected, chosen, judged, checked, legality}
use Rattle.demorad.specs.Refusals.{Absent, Listed}
use Rattle.demorad.specs.declared.Rule.{Rule}
use Rattle.demorad.specs.declared.Selection.{Selection}

-- -- The table

-- a code that has a rule has its row
pub known_listed : (code : ℕ) (rule : Rule) (rows : List (ℕ × Rule)) → lookup code rows ≡ Some rule → Listed code rule rows
unfolding Listed
known_listed code rule [] h = cc
known_listed code rule (row ∷ rows) h = go (eqb code row.0) refl h (λ k. known_listed code rule rows k)
  where
    go : (t : Bool) → eqb code row.0 ≡ t → cond t (Some row.1) (lookup code rows) ≡ Some rule
        → (lookup code rows ≡ Some rule → Listed code rule rows)
        → ((code ≡ row.0) × (rule ≡ row.1)) ⊎ Listed code rule rows
    go true e k more = inl (eqb-true code row.0 e, cc)
    go false e k more = inr (more k)

-- what the table says of a code and its rule: a 16-bit code, at most 30 payload words, and a selection by one of the first two that is
-- among the fewest
pub record Tabled (code : ℕ) (rule : Rule) : Type 0 where
  pub is : lookup code rules ≡ Some rule
  pub small : code < 65536
  pub most : rule.most ≤ 30
  pub by : IfSome rule.selection (λ s. (s.index < 2) × (s.index < rule.least))

-- every row does
table : (code : ℕ) (rule : Rule) → Listed code rule rules → Tabled code rule
unfolding Listed
table code rule (inl (e, q)) = rw (e, q) (record { is = refl; small = omega arith; most = omega arith; by = tt })
table code rule (inr (inl (e, q))) =
    rw (e, q) (record { is = refl; small = omega arith; most = omega arith; by = (omega arith, omega arith) })
table code rule (inr (inr (inl (e, q)))) =
    rw (e, q) (record { is = refl; small = omega arith; most = omega arith; by = (omega arith, omega arith) })
table code rule (inr (inr (inr (inl (e, q))))) = rw (e, q) (record { is = refl; small = omega arith; most = omega arith; by = tt })
table code rule (inr (inr (inr (inr (inl (e, q)))))) = rw (e, q) (record { is = refl; small = omega arith; most = omega arith; by = tt })
table code rule (inr (inr (inr (inr (inr (inl (e, q))))))) =
    rw (e, q) (record { is = refl; small = omega arith; most = omega arith; by = tt })
table code rule (inr (inr (inr (inr (inr (inr (inl (e, q)))))))) =
    rw (e, q) (record { is = refl; small = omega arith; most = omega arith; by = (omega arith, omega arith) })
table code rule (inr (inr (inr (inr (inr (inr (inr z))))))) = absurd z

-- a row of the table is the rule of its code
pub listed_rule : (code : ℕ) (rule : Rule) → Listed code rule rules → rule_of code ≡ Some rule
unfolding rule_of
listed_rule code rule l = (table code rule l).is

-- the table has every code's rule
pub tabled : (code : ℕ) (rule : Rule) → rule_of code ≡ Some rule → Tabled code rule
unfolding rule_of
tabled code rule e = table code rule (known_listed code rule rules e)

-- a selection is by one of the first two payload words
pub index_small : (code : ℕ) (rule : Rule) → rule_of code ≡ Some rule → (s : Selection) → rule.selection ≡ Some s → s.index < 2
index_small code rule e s f = let h = (tabled code rule e).by in (rw f at h).0

-- a selection is among the fewest words of its code
pub index_counted : (code : ℕ) (rule : Rule) → rule_of code ≡ Some rule → (s : Selection) → rule.selection ≡ Some s → s.index < rule.least
index_counted code rule e s f = let h = (tabled code rule e).by in (rw f at h).1

-- a code in no row has no rule
pub absent_unknown : (code : ℕ) (rows : List (ℕ × Rule)) → Absent code rows → lookup code rows ≡ None
unfolding Absent
absent_unknown code [] h = refl
absent_unknown code (row ∷ rows) (h, hs) = rw (ne_eqb code row.0 h) (absent_unknown code rows hs)

-- a code without a rule is in no row
pub unknown_absent : (code : ℕ) (rows : List (ℕ × Rule)) → lookup code rows ≡ None → Absent code rows
unfolding Absent
unknown_absent code [] h = tt
unknown_absent code (row ∷ rows) h = go (eqb code row.0) refl h (λ u. unknown_absent code rows u)
  where
    go : (t : Bool) → eqb code row.0 ≡ t → cond t (Some row.1) (lookup code rows) ≡ None
        → (lookup code rows ≡ None → Absent code rows) → (code ≡ row.0 → ⊥) × Absent code rows
    go true e u more = cc
    go false e u more = (eqb-false code row.0 e, more u)

-- -- The cases of a command's legality

module _ (count : ℕ) (words : List ℕ) where
  -- what a verdict says of a rule
  pub data Verdict : Option Rule → Result ⊤ Refusal → Type 0 where
    unknown : Verdict None (Err UnknownCode)
    few : (rule : Rule) → count < rule.least → Verdict (Some rule) (Err WrongCount)
    many : (rule : Rule) → rule.most < count → Verdict (Some rule) (Err WrongCount)
    out : (rule : Rule) (s : Selection) → rule.least ≤ count → count ≤ rule.most → rule.selection ≡ Some s → s.top < selected s words
        → Verdict (Some rule) (Err WrongSelection)
    fine : (rule : Rule) → rule.least ≤ count → count ≤ rule.most
        → ((s : Selection) → rule.selection ≡ Some s → selected s words ≤ s.top)
        → Verdict (Some rule) (Ok tt)

  -- every rule has one
  pub verdict : (rule : Option Rule) → Verdict rule (judged rule count words)
  verdict None = unknown
  verdict (Some rule) = counted (dec_le rule.least count) (dec_le count rule.most)
    where
      picked : rule.least ≤ count → count ≤ rule.most → (s : Selection) → rule.selection ≡ Some s → Dec (selected s words ≤ s.top)
          → Verdict (Some rule) (chosen (Some s) words)
      picked l m s e (yes o) =
          rw (le-ltb s.top (selected s words) o)
          (fine rule l m (λ t f. let same : s ≡ t = cc in rw (← same) o))
      picked l m s e (no o) = rw (lt-ltb s.top (selected s words) (omega arith)) (out rule s l m e (omega arith))

      any : rule.least ≤ count → count ≤ rule.most → (o : Option Selection) → rule.selection ≡ o
          → Verdict (Some rule) (chosen o words)
      any l m None e = fine rule l m (λ s f. cc)
      any l m (Some s) e = picked l m s e (dec_le (selected s words) s.top)

      counted : Dec (rule.least ≤ count) → Dec (count ≤ rule.most) → Verdict (Some rule) (judged (Some rule) count words)
      counted (no l) m = rw (lt-leb rule.least count (omega arith)) (few rule (omega arith))
      counted (yes l) (no m) = rw (le-leb rule.least count l, lt-leb count rule.most (omega arith)) (many rule (omega arith))
      counted (yes l) (yes m) = rw (le-leb rule.least count l, le-leb count rule.most m) (any l m rule.selection refl)

-- -- A legal command

-- what a command that is not refused is
pub record Legal (code count : ℕ) (words : List ℕ) : Type 0 where
  pub rule : Rule
  pub known : rule_of code ≡ Some rule
  pub small : code < 65536
  pub least : rule.least ≤ count
  pub most : count ≤ rule.most
  pub few : count ≤ 30
  pub chosen : (s : Selection) → rule.selection ≡ Some s → selected s words ≤ s.top

-- a command that is not refused is legal
pub is_legal : (code count : ℕ) (words : List ℕ) → legality code count words ≡ 0 → Legal code count words
unfolding checked
is_legal code count words h = go (verdict count words (rule_of code)) refl h
  where
    go : {v : Result ⊤ Refusal} {o : Option Rule} → Verdict count words o v → rule_of code ≡ o → refusal_number v ≡ 0
        → Legal code count words
    go unknown k e = absurd (omega arith)
    go (few rule l) k e = absurd (omega arith)
    go (many rule l) k e = absurd (omega arith)
    go (out rule s l m q o) k e = absurd (omega arith)
    go (fine rule l m s) k e =
        let b = (tabled code rule k).most in
        record { rule = rule; known = k; small = (tabled code rule k).small; least = l; most = m; few = omega arith; chosen = s }

-- a legal command is not refused
pub legal_is : (code count : ℕ) (words : List ℕ) → Legal code count words → checked code count words ≡ Ok tt
unfolding checked
legal_is code count words l = rw (l.known, le-leb l.rule.least count l.least, le-leb count l.rule.most l.most) (any l.rule.selection refl)
  where
    any : (o : Option Selection) → l.rule.selection ≡ o → chosen o words ≡ Ok tt
    any None e = refl
    any (Some s) e = rw (le-ltb s.top (selected s words) (l.chosen s e))

-- a command without a refusal number has no refusal
pub legal_checked : (code count : ℕ) (words : List ℕ) → legality code count words ≡ 0 → checked code count words ≡ Ok tt
legal_checked code count words h = legal_is code count words (is_legal code count words h)

-- a command that was checked and not refused is legal
pub legal_at : {code count : ℕ} {words : List ℕ} {v : Result ⊤ Refusal} {u : ⊤} → v ≡ checked code count words → v ≡ Ok u
    → Legal code count words
legal_at {code} {count} {words} e o = is_legal code count words (ap refusal_number (sym e ∙ o))

-- words behind the count do not matter
pub legal_take : (code count : ℕ) (words : List ℕ) → legality code count words ≡ 0 → legality code count (take count words) ≡ 0
legal_take code count words h =
    let l = is_legal code count words h in
    ap refusal_number
    (legal_is code count (take count words)
    (record {
      rule = l.rule;
      known = l.known;
      small = l.small;
      least = l.least;
      most = l.most;
      few = l.few;
      chosen = λ s e.
          let p = index_counted code l.rule l.known s e in
          let q = l.least in
          rw (get_or-take count words s.index 0 (omega arith)) (l.chosen s e);
    }))
