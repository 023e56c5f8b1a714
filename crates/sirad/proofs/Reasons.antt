-- Behind the identifier the judgement is a walk along the row of the kind, so a bad judgement is the first byte that is not of the table's
-- class, with the reason of that class.
use mathlib.Core.Bool.{Bool, true, false, cond}
use mathlib.Core.Path.{◌≡◌, refl, sym, ap, subst, ◌∙◌}
use mathlib.Core.List.{List, [], ◌∷◌}
use mathlib.Core.Logic.{◌↔◌}
use Prim.Native.Nat.{ℕ, zero, suc, ◌+◌, ◌<◌, ◌≤◌}
use native.Mathlib.Nat.{add-zero}
use native.Mathlib.Omega.{arith}
use borrow.Author.Tests.{eqb-true, eqb-false}
use lib.Dec.{eqb}
use lib.ListN.{length, get_or, take}
use Rattle.digits.specs.Hex.{hex_from, hex_at}
use Rattle.digits.proofs.Choices.{test}
use Rattle.form.specs.declared.Judgement.TheVariants.{Bad, Waiting}
use Rattle.form.specs.Form.{judge}
use Rattle.sirad.specs.Classes.{Class, accepts, reason}
use Rattle.sirad.specs.Sirad.{lay, sirad}
use Rattle.sirad.specs.Table.{identifier, total, class_at, FirstFails, Refused, no_start, no_identifier, no_member}
use Rattle.sirad.proofs.FrameLaws.{judge_none, judge_no_start, judge_start, judge_unknown}
use Rattle.sirad.proofs.RowLaws.{along, not_identifier, identify, unknown, named_there}
use Rattle.sirad.proofs.TableLaws.{column, Shape, shape}

-- -- The first byte that fails along a column of the table

record Fails (f : ℕ → Class) (i n : ℕ) (bs : List ℕ) (r : ℕ) : Type 0 where
  at : ℕ
  there : at < length bs
  inside : at < n
  passed : (j : ℕ) → j < at → accepts (f (i + j)) (get_or bs j 0) ≡ true
  fails : accepts (f (i + at)) (get_or bs at 0) ≡ false
  why : r ≡ reason (f (i + at))

same_bad : (r q : ℕ) → Bad r ≡ Bad q → q ≡ r
same_bad r q h = cc

column_fails : (f : ℕ → Class) (i n v at : ℕ) (bs : List ℕ) (r : ℕ) → judge (lay (column f i n) v) at bs ≡ Bad r → Fails f i n bs r
unfolding column lay judge
column_fails f i zero v at bs r h = let z : ◌≡◌ {A = ℕ} 0 1 = cc in absurd (omega arith)
column_fails f i (suc n) v at [] r h = let z : ◌≡◌ {A = ℕ} 0 1 = cc in absurd (omega arith)
column_fails f i (suc n) v at (b ∷ bs) r h = go (accepts (f i) b) refl h (column_fails f (suc i) n v (at + 1) bs r)
  where
    here : f (i + 0) ≡ f i
    here = ap f (add-zero i)

    on : (j : ℕ) → f (i + suc j) ≡ f (suc i + j)
    on j = let e : i + suc j ≡ suc i + j = omega arith in ap f e

    first : (a : ℕ) → accepts (f i) b ≡ true → ((j : ℕ) → j < a → accepts (f (suc i + j)) (get_or bs j 0) ≡ true) → (j : ℕ) → j < suc a
        → accepts (f (i + j)) (get_or (b ∷ bs) j 0) ≡ true
    first a t p zero l = ap (λ (c : Class). accepts c b) here ∙ t
    first a t p (suc j) l = ap (λ (c : Class). accepts c (get_or bs j 0)) (on j) ∙ p j (omega arith)

    no_one : (j : ℕ) → j < 0 → accepts (f (i + j)) (get_or (b ∷ bs) j 0) ≡ true
    no_one j l = absurd (omega arith)

    go : (u : Bool) → accepts (f i) b ≡ u → cond u (judge (lay (column f (suc i) n) v) (at + 1) bs) (Bad (reason (f i))) ≡ Bad r
        → (judge (lay (column f (suc i) n) v) (at + 1) bs ≡ Bad r → Fails f (suc i) n bs r) → Fails f i (suc n) (b ∷ bs) r
    go true t j s = let g = s j in record {
      at = suc g.at;
      there = omega (arith, g.there);
      inside = omega (arith, g.inside);
      passed = first g.at t g.passed;
      fails = ap (λ (c : Class). accepts c (get_or bs g.at 0)) (on g.at) ∙ g.fails;
      why = g.why ∙ sym (ap reason (on g.at));
    }
    go false t j s = record {
      at = 0;
      there = omega arith;
      inside = omega arith;
      passed = no_one;
      fails = ap (λ (c : Class). accepts c b) here ∙ t;
      why = same_bad (reason (f i)) r j ∙ sym (ap reason here);
    }

fails_column : (f : ℕ → Class) (i n v at a : ℕ) (bs : List ℕ) → a < length bs → a < n
    → ((j : ℕ) → j < a → accepts (f (i + j)) (get_or bs j 0) ≡ true) → accepts (f (i + a)) (get_or bs a 0) ≡ false
    → judge (lay (column f i n) v) at bs ≡ Bad (reason (f (i + a)))
unfolding column lay judge
fails_column f i zero v at a bs l m p t = absurd (omega arith)
fails_column f i (suc n) v at a [] l m p t = absurd (omega arith)
fails_column f i (suc n) v at zero (b ∷ bs) l m p t =
    let e : i + 0 ≡ i = add-zero i in
    let u : accepts (f i) b ≡ false = ap (λ (x : ℕ). accepts (f x) b) (sym e) ∙ t in
    ap (λ (u : Bool). cond u (judge (lay (column f (suc i) n) v) (at + 1) bs) (Bad (reason (f i)))) u
    ∙ ap (λ (x : ℕ). Bad (reason (f x))) (sym e)
fails_column f i (suc n) v at (suc a) (b ∷ bs) l m p t =
    let e : i + 0 ≡ i = add-zero i in
    let d : suc i + a ≡ i + suc a = omega arith in
    let u : accepts (f i) b ≡ true = ap (λ (x : ℕ). accepts (f x) b) (sym e) ∙ p 0 (omega arith) in
    let rest = fails_column f (suc i) n v (at + 1) a bs (omega arith) (omega arith)
    (λ j k. let c : suc i + j ≡ i + suc j = omega arith in ap (λ (x : ℕ). accepts (f x) (get_or bs j 0)) c ∙ p (suc j) (omega arith))
    (ap (λ (x : ℕ). accepts (f x) (get_or bs a 0)) d ∙ t) in
    ap (λ (u : Bool). cond u (judge (lay (column f (suc i) n) v) (at + 1) bs) (Bad (reason (f i)))) u ∙ rest
    ∙ ap (λ (x : ℕ). Bad (reason (f x))) d

-- -- Bad exactly if the table refuses

module _ (kind b c : ℕ) (bs : List ℕ) (l : 1 ≤ kind) (m : kind ≤ 6) (s : b ≡ 33) (e : c ≡ identifier kind) where
  columned : (h : Shape kind (hex_from 0 (take 4 bs)) (b ∷ c ∷ bs))
      → judge sirad 0 (b ∷ c ∷ bs) ≡ judge (lay (column (class_at kind (suc (suc h.bytes)) (b ∷ c ∷ bs)) 2 h.bytes) kind) 2 bs
  columned h = along kind b c bs l m s e ∙ ap (λ (cs : List Class). judge (lay cs kind) 2 bs) h.column_is

  member : (r : ℕ) → judge sirad 0 (b ∷ c ∷ bs) ≡ Bad r → Refused (b ∷ c ∷ bs) r
  member r j = go (shape kind (hex_from 0 (take 4 bs)) (b ∷ c ∷ bs) l m)
    where
      two : (f : ℕ → Class) (i : ℕ) → f (2 + i) ≡ f (suc (suc i))
      two f i = let d : 2 + i ≡ suc (suc i) = omega arith in ap f d

      from : (size : ℕ) → size ≡ total kind (hex_at 4 2 (b ∷ c ∷ bs)) → (n : ℕ) → size ≡ suc (suc n)
          → Fails (class_at kind size (b ∷ c ∷ bs)) 2 n bs r → Refused (b ∷ c ∷ bs) r
      from size w n q g =
          subst (Refused (b ∷ c ∷ bs))
          (sym (g.why ∙ ap reason (two (class_at kind size (b ∷ c ∷ bs)) g.at)
          ∙ ap (λ (t : ℕ). reason (class_at kind t (b ∷ c ∷ bs) (suc (suc g.at)))) w))
          (no_member kind (suc (suc g.at)) l m s e (subst (λ (t : ℕ). FirstFails kind t (suc (suc g.at)) (b ∷ c ∷ bs)) w first))
        where
          passes : (i : ℕ) → 2 ≤ i → i < suc (suc g.at) → accepts (class_at kind size (b ∷ c ∷ bs) i) (get_or (b ∷ c ∷ bs) i 0) ≡ true
          passes zero h k = absurd (omega arith)
          passes (suc zero) h k = absurd (omega arith)
          passes (suc (suc i)) h k = ap (λ (x : Class). accepts x (get_or bs i 0)) (sym (two (class_at kind size (b ∷ c ∷ bs)) i))
              ∙ g.passed i (omega arith)

          first : FirstFails kind size (suc (suc g.at)) (b ∷ c ∷ bs)
          first = record {
            behind = omega arith;
            there = omega (arith, g.there);
            inside = omega (arith, g.inside);
            passed = passes;
            fails = ap (λ (x : Class). accepts x (get_or bs g.at 0)) (sym (two (class_at kind size (b ∷ c ∷ bs)) g.at)) ∙ g.fails;
          }

      go : Shape kind (hex_from 0 (take 4 bs)) (b ∷ c ∷ bs) → Refused (b ∷ c ∷ bs) r
      go h = from (suc (suc h.bytes)) (sym h.whole_size) h.bytes refl
          (column_fails (class_at kind (suc (suc h.bytes)) (b ∷ c ∷ bs)) 2 h.bytes kind 2 bs r (sym (columned h) ∙ j))

  refuses : (at : ℕ) → FirstFails kind (total kind (hex_at 4 2 (b ∷ c ∷ bs))) at (b ∷ c ∷ bs)
      → judge sirad 0 (b ∷ c ∷ bs) ≡ Bad (reason (class_at kind (total kind (hex_at 4 2 (b ∷ c ∷ bs))) (b ∷ c ∷ bs) at))
  refuses at f = go (shape kind (hex_from 0 (take 4 bs)) (b ∷ c ∷ bs) l m)
    where
      by : (h : Shape kind (hex_from 0 (take 4 bs)) (b ∷ c ∷ bs)) (a : ℕ) → FirstFails kind (suc (suc h.bytes)) a (b ∷ c ∷ bs)
          → judge sirad 0 (b ∷ c ∷ bs) ≡ Bad (reason (class_at kind (suc (suc h.bytes)) (b ∷ c ∷ bs) a))
      by h zero g = absurd (omega (arith, g.behind))
      by h (suc zero) g = absurd (omega (arith, g.behind))
      by h (suc (suc a)) g =
          let d : 2 + a ≡ suc (suc a) = omega arith in
          columned h
          ∙ fails_column (class_at kind (suc (suc h.bytes)) (b ∷ c ∷ bs)) 2 h.bytes kind 2 a bs
          (omega (arith, g.there)) (omega (arith, g.inside))
          (λ j k. let d : 2 + j ≡ suc (suc j) = omega arith in
          ap (λ (x : ℕ). accepts (class_at kind (suc (suc h.bytes)) (b ∷ c ∷ bs) x) (get_or bs j 0)) d
          ∙ g.passed (suc (suc j)) (omega arith) (omega arith))
          (ap (λ (x : ℕ). accepts (class_at kind (suc (suc h.bytes)) (b ∷ c ∷ bs) x) (get_or bs a 0)) d ∙ g.fails)
          ∙ ap (λ (x : ℕ). Bad (reason (class_at kind (suc (suc h.bytes)) (b ∷ c ∷ bs) x))) d

      go : Shape kind (hex_from 0 (take 4 bs)) (b ∷ c ∷ bs)
          → judge sirad 0 (b ∷ c ∷ bs) ≡ Bad (reason (class_at kind (total kind (hex_at 4 2 (b ∷ c ∷ bs))) (b ∷ c ∷ bs) at))
      go h = by h at (subst (λ (t : ℕ). FirstFails kind t at (b ∷ c ∷ bs)) h.whole_size f)
          ∙ ap (λ (t : ℕ). Bad (reason (class_at kind t (b ∷ c ∷ bs) at))) (sym h.whole_size)

refused_bad : (bs : List ℕ) (r : ℕ) → Refused bs r → judge sirad 0 bs ≡ Bad r
refused_bad bs r (no_start h e) = sym (judge_no_start bs h e)
refused_bad bs r (no_identifier h s n) = sym (judge_unknown bs h s (unknown (get_or bs 1 0) n))
refused_bad [] r (no_member kind at l m s e f) = let z : ◌≡◌ {A = ℕ} 0 33 = s in absurd (omega arith)
refused_bad (b ∷ []) r (no_member kind at l m s e f) = absurd (named_there kind l m e)
refused_bad (b ∷ c ∷ bs) r (no_member kind at l m s e f) = refuses kind b c bs l m s e at f

bad_refused : (bs : List ℕ) (r : ℕ) → judge sirad 0 bs ≡ Bad r → Refused bs r
bad_refused [] r j = let w : Waiting ≡ judge sirad 0 [] = judge_none [] (omega arith) in let z : ◌≡◌ {A = ℕ} 0 1 = cc in
    absurd (omega arith)
bad_refused (b ∷ bs) r j = test (eqb b 33) (λ h. started bs (eqb-true b 33 h) j) (λ h. other (eqb-false b 33 h))
  where
    other : (b ≡ 33 → ⊥) → Refused (b ∷ bs) r
    other n = subst (Refused (b ∷ bs)) (sym (same_bad 10 r (judge_no_start (b ∷ bs) (omega arith) n ∙ j))) (no_start (omega arith) n)

    started : (bs : List ℕ) → b ≡ 33 → judge sirad 0 (b ∷ bs) ≡ Bad r → Refused (b ∷ bs) r
    started [] s j = let w = judge_start (b ∷ []) (omega arith) s (omega arith) in let z : ◌≡◌ {A = ℕ} 0 1 = cc in absurd (omega arith)
    started (c ∷ bs) s j =
        identify c (λ kind l m e. member kind b c bs l m s e r j)
        (λ u. subst (Refused (b ∷ c ∷ bs)) (sym (same_bad 11 r (judge_unknown (b ∷ c ∷ bs) (omega arith) s u ∙ j)))
        (no_identifier (omega arith) s (not_identifier c u)))

-- judged bad with a reason exactly if the table refuses the bytes with it: the first byte that fails gives the reason
pub bad_by_table : (bs : List ℕ) (r : ℕ) → (judge sirad 0 bs ≡ Bad r) ↔ Refused bs r
bad_by_table bs r = (bad_refused bs r, refused_bad bs r)
