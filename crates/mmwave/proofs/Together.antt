-- The types of a packet's records, one behind the other: none is excluded by one before it. For mmWave that is each kind once.
use mathlib.Core.Path.{◌≡◌}
use mathlib.Core.List.{List, [], ◌∷◌}
use mathlib.Core.Logic.{◌↔◌, inl, inr}
use Prim.Native.Nat.{ℕ, zero, suc, ◌<◌}
use native.Mathlib.Omega.{arith}
use native.Mathlib.Decide.{dec_lt}
use lib.ListN.{length, get_or}
use Rattle.mmwave.specs.Paper.{Sentences, EachOnce, KnownAgain, mm_wave_says, NoneExcludes}

-- none of the types us is excluded by one before it among them, or by one of ts, which stand before them, the last one first
unfoldable pub NoneAgain : Sentences → List ℕ → List ℕ → Type 0
NoneAgain W ts [] = Unit {0}
NoneAgain W ts (u ∷ us) = NoneExcludes W ts u × NoneAgain W (u ∷ ts) us

module _ (W : Sentences) where
  -- none before them excludes one of them
  none_before : (ts us : List ℕ) → NoneAgain W ts us → (j : ℕ) → j < length us → NoneExcludes W ts (get_or us j 0)
  unfolding NoneAgain NoneExcludes
  none_before ts [] h j l = absurd (omega arith)
  none_before ts (u ∷ us) h zero l = h.0
  none_before ts (u ∷ us) h (suc j) l = (none_before (u ∷ ts) us h.1 j (omega arith)).1

  -- none of them excludes a later one
  pairs_apart : (ts us : List ℕ) → NoneAgain W ts us → (i j : ℕ) → i < j → j < length us → W.Excludes (get_or us i 0) (get_or us j 0) → ⊥
  unfolding NoneAgain NoneExcludes
  pairs_apart ts [] h i j b l = absurd (omega arith)
  pairs_apart ts (u ∷ us) h i zero b l = absurd (omega arith)
  pairs_apart ts (u ∷ us) h zero (suc j) b l = (none_before (u ∷ ts) us h.1 j (omega arith)).0
  pairs_apart ts (u ∷ us) h (suc i) (suc j) b l = pairs_apart (u ∷ ts) us h.1 i j (omega arith) (omega arith)

  -- and the other way round
  apart_again : (ts us : List ℕ) → ((j : ℕ) → j < length us → NoneExcludes W ts (get_or us j 0))
      → ((i j : ℕ) → i < j → j < length us → W.Excludes (get_or us i 0) (get_or us j 0) → ⊥) → NoneAgain W ts us
  unfolding NoneAgain NoneExcludes
  apart_again ts [] before pairs = tt
  apart_again ts (u ∷ us) before pairs = (
    before 0 (omega arith),
    apart_again (u ∷ ts) us (λ j l. (pairs 0 (suc j) (omega arith) (omega arith), before (suc j) (omega arith)))
        (λ i j b l. pairs (suc i) (suc j) (omega arith) (omega arith)),
  )

-- each kind of record once: none of the types excludes a later one
pub each_once : (types : List ℕ) → EachOnce types ↔ NoneAgain mm_wave_says [] types
unfolding NoneExcludes
each_once types = (λ h. apart_again mm_wave_says [] types (λ j l. tt) (apart h), λ h. once (pairs_apart mm_wave_says [] types h))
  where
    apart : EachOnce types → (i j : ℕ) → i < j → j < length types → KnownAgain (get_or types i 0) (get_or types j 0) → ⊥
    apart h i j b l (inl x) = h.known i j b l x.0 x.1 x.2
    apart h i j b l (inr (inl x)) = h.heatmaps i j (omega arith) l x.0 x.1
    apart h i j b l (inr (inr x)) = h.heatmaps j i l (omega arith) x.1 x.0

    maps : ((i j : ℕ) → i < j → j < length types → KnownAgain (get_or types i 0) (get_or types j 0) → ⊥) → (i j : ℕ)
        → Dec (i < j) → Dec (j < i) → i < length types → j < length types → get_or types i 0 ≡ 4 → get_or types j 0 ≡ 8 → ⊥
    maps h i j (yes b) d l m x y = h i j b m (inr (inl (x, y)))
    maps h i j (no b) (yes d) l m x y = h j i d l (inr (inr (y, x)))
    maps h i j (no b) (no d) l m x y = let e : i ≡ j = omega arith in omega (arith, x, rw (← e) at y)

    once : ((i j : ℕ) → i < j → j < length types → KnownAgain (get_or types i 0) (get_or types j 0) → ⊥) → EachOnce types
    once h = record {
      known = λ i j b l x y e. h i j b l (inl (x, y, e));
      heatmaps = λ i j. maps h i j (dec_lt i j) (dec_lt j i);
    }
