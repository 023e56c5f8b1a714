-- The laws for code that takes a judged piece with `?`: what goes on from a piece that stands, and what is handed on from one that does
-- not.
use Rattle.std.proofs.Common.{◌≡◌, ℕ, suc, ◌+◌, Bool, true, false, cond, List, [], ◌∷◌, length, refl, sym, ap, ◌∙◌, eqb, nat_eq, arith, eq-eqb, ne_eqb, eqb-true}
use Rattle.std.proofs.lemmas.Bool.{eqb-false}
use Rattle.std.specs.List.{starts_with}
use Rattle.std.specs.Result.{IsErrAnd}
use Rattle.std.proofs.lemmas.Result.{err_from_is_err_and}
use Rattle.std.specs.declared.result.Result.{Result}
use Rattle.std.specs.declared.result.Result.TheVariants.{Ok, Err}
use Rattle.form.specs.declared.Judgement.{Judgement}
use Rattle.form.specs.declared.Judgement.TheVariants.{Whole, Bad, Waiting}
use Rattle.form.specs.declared.Parsed.{Parsed}
use Rattle.form.specs.declared.Unparsed.{Unparsed}
use Rattle.form.specs.declared.Unparsed.TheVariants as unparsed
use Rattle.form.specs.Form.{Form, ◌>>=◌, judge, judge_at}
use Rattle.form.specs.Numbers.{judgement_of}
use Rattle.form.specs.Pieces.{any, always, four, marker}
use Rattle.form.proofs.PieceLaws.{Halted, go_on, halt, unread, taken, refused}

-- a piece that does not stand is not whole
unparsed_halted : (u : Unparsed) → Halted (judgement_of (Err u))
unparsed_halted (unparsed.Bad r) v e w = cc
unparsed_halted unparsed.Waiting v e w = cc

-- what the exit of a `?` returns: the same again
abbrev pub HandedOn : Result Parsed Unparsed → Unparsed → Type 0
HandedOn out u = IsErrAnd out (λ e. e ≡ u)

handed_on : (out : Result Parsed Unparsed) {r : Result Parsed Unparsed} {u : Unparsed} → r ≡ Err u → HandedOn out u
    → (judgement_of out ≡ judgement_of r) × Halted (judgement_of out)
handed_on out {r} {u} e h = let g = err_from_is_err_and out h in
    (cc, rw (g.1) (unparsed_halted g.0))

-- -- A piece, and then another

module _ (p : Form) (h : ℕ → Form) (at : ℕ) (bs : List ℕ) {r : Result Parsed Unparsed} (judged : judgement_of r ≡ judge_at p at bs) where
  -- the first piece stands: the rest is judged from its end
  pub parsed_on : {q : Parsed} → r ≡ Ok q → judge_at (p >>= h) at bs ≡ judge_at (h q.value) q.end bs
  parsed_on e = go_on p h at bs judged (ap judgement_of e)

  -- it does not: its judgement is that of both
  pub parsed_halt : (out : Result Parsed Unparsed) {u : Unparsed} → r ≡ Err u → HandedOn out u → judgement_of out ≡ judge_at (p >>= h) at bs
  parsed_halt out e i = let g = handed_on out e i in halt p h at bs (g.0 ∙ judged) g.1

-- -- A field with a test

module _ (reason : ℕ → ℕ) (test : ℕ → Bool) (at : ℕ) (bs : List ℕ) {r : Result Parsed Unparsed}
    (judged : judgement_of r ≡ judge_at (four (always 0) any) at bs) where
  -- its bytes are not there
  pub parsed_unread : (out : Result Parsed Unparsed) {u : Unparsed} → r ≡ Err u → HandedOn out u
      → judgement_of out ≡ judge_at (four reason test) at bs
  parsed_unread out e i = let g = handed_on out e i in unread reason test at bs (g.0 ∙ judged) g.1

  -- it is there and passes
  pub parsed_taken : {q : Parsed} → r ≡ Ok q → test q.value ≡ true → Whole q.value q.end ≡ judge_at (four reason test) at bs
  parsed_taken e h = taken reason test at bs judged (ap judgement_of e) h

  -- it is there and is refused
  pub parsed_refused : {q : Parsed} → r ≡ Ok q → test q.value ≡ false → Bad (reason q.value) ≡ judge_at (four reason test) at bs
  parsed_refused e h = refused reason test at bs judged (ap judgement_of e) h

  -- its bytes are not there, and more would follow
  pub parsed_absent : (h : ℕ → Form) (out : Result Parsed Unparsed) {u : Unparsed} → r ≡ Err u → HandedOn out u
      → judgement_of out ≡ judge_at (four reason test >>= h) at bs
  parsed_absent h out e i = halt (four reason test) h at bs (parsed_unread out e i) (handed_on out e i).1

-- -- The given bytes

-- by whether the bytes start with them, or they with the bytes
marker_told : (r : ℕ) (ms : List ℕ) (at : ℕ) (xs : List ℕ)
    → judge (marker r ms) at xs
    ≡ cond (starts_with nat_eq xs ms) (Whole 0 (at + length ms)) (cond (starts_with nat_eq ms xs) Waiting (Bad r))
unfolding judge marker
marker_told r [] at xs = ap (Whole 0) (omega arith)
marker_told r (m ∷ ms) at [] = refl
marker_told r (m ∷ ms) at (b ∷ xs) = go (eqb b m) refl (marker_told r ms (at + 1) xs)
  where
    later : at + 1 + length ms ≡ at + suc (length ms)
    later = omega arith

    told : ℕ → Judgement
    told e = cond (starts_with nat_eq xs ms) (Whole 0 e) (cond (starts_with nat_eq ms xs) Waiting (Bad r))

    go : (t : Bool) → eqb b m ≡ t → judge (marker r ms) (at + 1) xs ≡ told (at + 1 + length ms)
        → cond (eqb b m) (judge (marker r ms) (at + 1) xs) (Bad r)
        ≡ cond (starts_with nat_eq (b ∷ xs) (m ∷ ms)) (Whole 0 (at + suc (length ms)))
        (cond (starts_with nat_eq (m ∷ ms) (b ∷ xs)) Waiting (Bad r))
    go true e i = rw (e, eq-eqb m b (sym (eqb-true b m e))) (i ∙ ap told later)
    go false e i = rw (e, ne_eqb m b (λ f. eqb-false b m e (sym f))) refl

module _ (r : ℕ) (ms : List ℕ) (at : ℕ) (xs : List ℕ) where
  -- the bytes start with them
  pub marker_starts : starts_with nat_eq xs ms ≡ true → Whole 0 (at + length ms) ≡ judge (marker r ms) at xs
  marker_starts h = sym (marker_told r ms at xs ∙ rw h refl)

  -- the bytes end before them
  pub marker_ends_in : starts_with nat_eq xs ms ≡ false → starts_with nat_eq ms xs ≡ true → Waiting ≡ judge (marker r ms) at xs
  marker_ends_in h i = sym (marker_told r ms at xs ∙ rw (h, i) refl)

  -- another byte is there
  pub marker_parts : starts_with nat_eq xs ms ≡ false → starts_with nat_eq ms xs ≡ false → Bad r ≡ judge (marker r ms) at xs
  marker_parts h i = sym (marker_told r ms at xs ∙ rw (h, i) refl)
