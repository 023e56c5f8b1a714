-- Refusals in their order, one by one: each is decided by a test, and what it leaves is said of the answer behind it.
use mathlib.Core.Bool.{Bool, true, false}
use mathlib.Core.Path.{◌≡◌, sym, ap, ◌∙◌}
use mathlib.Core.Logic.{◌↔◌, inl, inr}
use Prim.Native.Nat.{ℕ, ◌<◌}
use lib.Dec.{ltb}
use borrow.Author.Tests.{ltb-true, lt-ltb}
use Rattle.digits.proofs.Choices.{test, both_ways}
use Rattle.demands.specs.Words.{Said, none, ◌when◌else◌, ◌unless◌else◌, Refuses}

-- a test that fails says that its words don't apply
pub fails_exactly : {t : Bool} {Words : Type 0} → (t ≡ true) ↔ Words → (t ≡ false) ↔ (Words → ⊥)
fails_exactly {t = t} e = (λ f w. both_ways t (e.1 w) f, λ n. test t (λ y. absurd (n (e.0 y))) (λ f. f))

-- the test of an order
pub less_exactly : (a b : ℕ) → (ltb a b ≡ true) ↔ (a < b)
less_exactly a b = (ltb-true a b, lt-ltb a b)

-- a number by whether the words of the first refusal apply
pub by_words : {Words : Type 0} {n number : ℕ} (others : Said) → Dec Words → (Words → number ≡ n) → ((Words → ⊥) → others number)
    → (n when Words else others) number
by_words others (yes w) first rest = inl (w, first w)
by_words others (no w) first rest = inr (w, rest w)

-- -- Answers

module _ {A : Type 0} (zeros : ℕ → A) (number : A → ℕ) (numbered : (n : ℕ) → number (zeros n) ≡ n) where
  -- nothing is refused
  pub fine : (answer : A) → number answer ≡ 0 → Refuses none zeros number answer
  fine answer e = record { in_order = e; every_other_0 = λ n. absurd (n e) }

  -- zeros beside a number that is as said
  pub zeros_beside : (said : Said) (n : ℕ) (answer : A) → answer ≡ zeros n → said (number answer) → Refuses said zeros number answer
  zeros_beside said n answer z s =
      record { in_order = s; every_other_0 = λ some. z ∙ ap zeros (sym (ap number z ∙ numbered n)) }

  module _ (others : Said) (n : ℕ) {Words : Type 0} (t : Bool) (e : (t ≡ true) ↔ Words) (answer : A) where
    -- refused with n where the test holds
    pub when_test : (t ≡ true → answer ≡ zeros n) → (t ≡ false → Refuses others zeros number answer)
        → Refuses (n when Words else others) zeros number answer
    when_test refused rest = test t
        (λ y. let z = refused y in zeros_beside (n when Words else others) n answer z (inl (e.0 y, ap number z ∙ numbered n)))
        (λ f. let r = rest f in record { in_order = inr ((fails_exactly e).0 f, r.in_order); every_other_0 = r.every_other_0 })

    -- refused with n where it fails
    pub unless_test : (t ≡ false → answer ≡ zeros n) → (t ≡ true → Refuses others zeros number answer)
        → Refuses (n unless Words else others) zeros number answer
    unless_test refused rest = test t
        (λ y. let r = rest y in record { in_order = inr (e.0 y, r.in_order); every_other_0 = r.every_other_0 })
        (λ f.
        let z = refused f in
        zeros_beside (n unless Words else others) n answer z (inl ((fails_exactly e).0 f, ap number z ∙ numbered n)))
