-- What a sound profile keeps: every room is a multiple of the unit, and one type takes each of them.
use mathlib.Core.Bool.{true}
use mathlib.Core.Path.{◌≡◌, ap, ◌∙◌}
use mathlib.Core.Logic.{◌⊎◌, inl, inr}
use Prim.Native.Nat.{ℕ, suc, ◌+◌, ◌-◌, ◌*◌, ◌%◌, ◌^◌, ◌<◌, ◌≤◌}
use native.Mathlib.Omega.{arith}
use Rattle.mmwave.specs.Profile.{Profile, legal, count_ok, possible, Sound, Fair}
use Rattle.mmwave.proofs.Tests.{less_multiple, more_multiple, times_multiple, count_tested, possible_exactly}

module _ (P : Profile) (S : Sound P) where
  abbrev unit : ℕ
  unit = P.unit

  -- what a legal header leaves is fair
  pub fair_start : (l k : ℕ) → P.total l ≡ true → 40 + 8 * k ≤ l → Fair P (l - (40 + 8 * k))
  fair_start l k t h = ap (λ (x : ℕ). x % unit) parts
      ∙ less_multiple unit (l - 40) (8 * k) (times_multiple unit 8 k S.header_fair) (omega arith)
      ∙ S.total_fair l t
    where
      parts : l - (40 + 8 * k) ≡ l - 40 - 8 * k
      parts = omega arith

  -- what a legal payload leaves is fair
  pub fair_less : (n type m room : ℕ) → Fair P room → legal (P.rule type n) m ≡ true → m ≤ room → Fair P (room - m)
  fair_less n type m room f l h = less_multiple unit room m (S.length_fair n type m l) h ∙ f

  -- a record with a legal payload and what follows it are fair
  pub fair_more : (n type m e : ℕ) → legal (P.rule type n) m ≡ true → Fair P e → Fair P (8 + m + e)
  fair_more n type m e l f = more_multiple unit (8 + m) e (more_multiple unit 8 m S.header_fair (S.length_fair n type m l)) f

  -- the filler passes in every fair room
  pub filler_possible : (n k room : ℕ) → Fair P room → possible P (suc k) room (P.rule S.filler n) ≡ true
  filler_possible n k room f =
      (possible_exactly P k room (P.rule S.filler n)).1 (room, S.filler_takes n room f, (omega arith, λ e. omega arith))

  -- some record count passes
  pub some_count : (l : ℕ) → P.total l ≡ true → (k : ℕ) × (k < 2 ^ 32) × (count_ok P l k ≡ true)
  some_count l t = go (S.total_some l t)
    where
      go : (l ≤ 40 + P.padding) ⊎ (48 ≤ l) → (k : ℕ) × (k < 2 ^ 32) × (count_ok P l k ≡ true)
      go (inl h) = (0, omega arith, (count_tested P l 0).1 (omega arith, S.total_least l t, λ e. omega arith))
      go (inr h) = (1, omega arith, (count_tested P l 1).1 (omega arith, h, λ e. absurd (omega arith)))
