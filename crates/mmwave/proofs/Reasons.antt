-- The tests behind reasons 21 to 24 are the existences by which the papers word them. The idea: one type takes any room, so records can
-- follow unless none is left and the room is more than padding.
use mathlib.Core.Bool.{Bool, true, false}
use mathlib.Core.Path.{◌≡◌, refl, sym, ap, ◌∙◌}
use mathlib.Core.List.{List, [], ◌∷◌}
use mathlib.Core.Logic.{◌↔◌, ◌⊎◌, inl, inr}
use Prim.Native.Nat.{ℕ, zero, suc, ◌+◌, ◌-◌, ◌*◌, ◌%◌, ◌<◌, ◌≤◌}
use native.Mathlib.Nat.{zero-mod}
use native.Mathlib.Omega.{arith}
use native.Mathlib.Decide.{dec_le}
use Rattle.digits.proofs.Choices.{and_parts}
use Rattle.mmwave.specs.Profile.{Profile, legal, count_ok, fits, type_ok, length_ok, Leaves, seen_in, Sound, Fair}
use Rattle.mmwave.specs.Paper.{Sentences, NoneExcludes, Later, nothing, later, CountFits, LengthFits, TypeFits}
use Rattle.mmwave.proofs.RecordLaws.{length_both}
use Rattle.mmwave.proofs.Tests.{Counts, fits_exactly, count_tested, possible_exactly}
use Rattle.mmwave.proofs.Sounds.{fair_start, fair_less, fair_more, some_count}
use Rattle.mmwave.proofs.Marks.{fresh_unmarked}
use Rattle.mmwave.proofs.Paper.{Says, fresh_exactly}

-- -- A test that fails

-- a test fails exactly if what it says does not hold
pub fails_exactly : {A : Type 0} (b : Bool) → ((b ≡ true) ↔ A) → (b ≡ false) ↔ (A → ⊥)
fails_exactly true f = (λ e a. let z : ◌≡◌ {A = ℕ} 0 1 = cc in omega arith, λ n. absurd (n (f.0 refl)))
fails_exactly false f = (λ e a. let g = f.1 a in let z : ◌≡◌ {A = ℕ} 0 1 = cc in omega arith, λ n. refl)

-- -- Records that could follow

later_least : {W : Sentences} {n : ℕ} {ts : List ℕ} {k e : ℕ} → Later W n ts k e → 8 * k ≤ e
later_least nothing = omega arith
later_least (later type m s f w r) = omega (arith, later_least r)

later_none : {W : Sentences} {ts : List ℕ} {n k e : ℕ} → Later W n ts k e → k ≡ 0 → e ≡ 0
later_none nothing h = refl
later_none (later type m s f w r) h = absurd (omega arith)

module _ (P : Profile) (S : Sound P) (W : Sentences) (says : Says P W) where
  later_fair : (n : ℕ) {ts : List ℕ} {k e : ℕ} → Later W n ts k e → Fair P e
  later_fair n nothing = zero-mod P.unit
  later_fair n (later {e = e} type m s f w r) = fair_more P S n type m e ((says.legal_says n type m).1 w) (later_fair n r)

  -- no type excludes the filler
  filler_fresh : (ts : List ℕ) → NoneExcludes W ts S.filler
  filler_fresh ts =
      (fresh_exactly P S W says ts S.filler).0 (fresh_unmarked P (seen_in P ts) S.filler S.filler_repeats)

  -- records can follow so that l fits, behind whatever types: "a free type can always fill the rest" (paper 02, (vii))
  follow : (n : ℕ) (ts : List ℕ) (k l p : ℕ) → P.total l ≡ true → p + 8 * k ≤ l → Fair P (l - (p + 8 * k)) → (k ≡ 0 → l - p ≤ P.padding)
      → (e : ℕ) × Later W n ts k e × W.Fits (p + e) l
  follow n ts zero l p t h f z = (0, nothing, says.near_fits (p + 0) l t (omega arith) (omega (arith, z refl)))
  follow n ts (suc k) l p t h f z =
      let m = l - (p + 8 * suc k) in
      let empty : l - (p + 8 + m + 8 * k) ≡ 0 = omega arith in
      let fair = ap (λ (x : ℕ). x % P.unit) empty ∙ zero-mod P.unit in
      let r = follow n (S.filler ∷ ts) k l (p + 8 + m) t (omega arith) fair (λ e. omega arith) in
      let q : p + 8 + m + r.0 ≡ p + (8 + m + r.0) = omega arith in
      let fills = (says.legal_says n S.filler m).0 (S.filler_takes n m f) in
      (8 + m + r.0, later S.filler m S.filler_small (filler_fresh ts) fills r.1, rw q at r.2)

  -- records that end so that l fits leave no more than padding
  followed : (n l p : ℕ) {ts : List ℕ} {k e : ℕ} → Later W n ts k e → W.Fits (p + e) l → (p + 8 * k ≤ l) × (k ≡ 0 → l - p ≤ P.padding)
  followed n l p {ts} {k} {e} r s = let g = says.fits_near (p + e) l s in
      (omega (arith, later_least r, g.0), λ z. omega (arith, later_none r z, g.1))

  -- -- Reason 22

  -- a record count passes exactly if it is at most 32 and so many records can end so that l fits, whatever the object count; that each kind
  -- of record comes once moves nothing here, since the filler may repeat
  pub count_exactly : (n l k : ℕ) → P.total l ≡ true → (count_ok P l k ≡ true) ↔ ((k ≤ 32) × CountFits W n l k)
  count_exactly n l k t = let c = count_tested P l k in (
    λ h. let g = c.0 h in (g.0, follow n [] k l 40 t g.1 (fair_start P S l k t g.1) g.2),
    λ g. let f = followed n l 40 g.1.1 g.1.2 in c.1 (g.0, f.0, f.1),
  )

  -- a record count is refused exactly if it is over 32 or no so many records can end so that l fits
  pub reason_22 : (n l k : ℕ) → P.total l ≡ true → (count_ok P l k ≡ false) ↔ ((32 < k) ⊎ (CountFits W n l k → ⊥))
  reason_22 n l k t = let f = fails_exactly (count_ok P l k) (count_exactly n l k t) in
      (λ h. forth (dec_le k 32) (f.0 h), λ s. f.1 (back s))
    where
      forth : Dec (k ≤ 32) → ((k ≤ 32) × CountFits W n l k → ⊥) → (32 < k) ⊎ (CountFits W n l k → ⊥)
      forth (yes h) d = inr (λ c. d (h, c))
      forth (no h) d = inl (omega arith)

      back : (32 < k) ⊎ (CountFits W n l k → ⊥) → (k ≤ 32) × CountFits W n l k → ⊥
      back (inl h) g = omega (arith, g.0)
      back (inr h) g = h g.1

  -- the row of the paper's table: over 32, or 8K over L - 40, or K = 0 with L not the least, which is 64 (paper 01) or 40 (paper 02, (i))
  abbrev pub CountRow : ℕ → ℕ → Type 0
  CountRow l k = (32 < k) ⊎ ((l - 40 < 8 * k) ⊎ ((k ≡ 0) × (l ≡ W.least → ⊥)))

  -- a record count is refused exactly by that row
  pub reason_22_row : (l k : ℕ) → P.total l ≡ true → (count_ok P l k ≡ false) ↔ CountRow l k
  reason_22_row l k t = let f = fails_exactly (count_ok P l k) (count_tested P l k) in
      (λ h. forth (dec_le k 32) (dec_le (40 + 8 * k) l) (f.0 h), λ s. f.1 (back s))
    where
      none : (k : ℕ) → k ≤ 32 → 40 + 8 * k ≤ l → (Counts P l k → ⊥) → k ≡ 0
      none zero h i d = refl
      none (suc k) h i d = absurd (d (h, i, λ z. absurd (omega arith)))

      forth : Dec (k ≤ 32) → Dec (40 + 8 * k ≤ l) → (Counts P l k → ⊥) → CountRow l k
      forth (no h) i d = inl (omega arith)
      forth (yes h) (no i) d = inr (inl (omega (arith, S.total_least l t)))
      forth (yes h) (yes i) d = inr (inr (none k h i d, λ e. d (h, i, λ z. (says.alone l t).1 e)))

      back : CountRow l k → Counts P l k → ⊥
      back (inl h) g = omega (arith, g.0)
      back (inr (inl h)) g = omega (arith, g.1)
      back (inr (inr h)) g = h.1 ((says.alone l t).0 (g.2 h.0))

  -- -- Reason 21

  -- a total length passes exactly if it lies within the bounds and some number of records can end so that it fits
  pub total_exactly : (n l : ℕ)
      → (P.total l ≡ true) ↔ ((W.least ≤ l) × (l ≤ 32768) × ((k : ℕ) × (k ≤ 32) × CountFits W n l k))
  total_exactly n l = (
    λ t. let b = says.bounds l t in let c = some_count P S l t in let g = (count_exactly n l c.0 t).0 c.2 in
        (b.0, b.1, (c.0, g.0, g.1)),
    λ g. let r = g.2.2.1 in
        says.total_follows g.2.0 g.2.2.0 l g.0 g.1 g.2.2.2 (later_fair n r) (later_least r) (later_none r),
  )

  -- -- Reasons 23 and 24, at a record at offset p, behind records of types ts and with k records behind it

  module _ (n l p : ℕ) (ts : List ℕ) (k : ℕ) (legal-total : P.total l ≡ true) (headers : p + 8 * suc k ≤ l)
      (fair : Fair P (l - (p + 8 * suc k))) where
    leaves_forth : (type m : ℕ) → legal (P.rule type n) m ≡ true → Leaves P k (l - (p + 8 * suc k)) m
        → LengthFits W n l p (type ∷ ts) k m
    leaves_forth type m w g =
        let room = l - (p + 8 * suc k) in let i = g.0 in
        let parts : l - (p + 8 + m + 8 * k) ≡ l - (p + 8 * suc k) - m = omega arith in
        let rest-fair = ap (λ (x : ℕ). x % P.unit) parts ∙ fair_less P S n type m room fair w i in
        follow n (type ∷ ts) k l (p + 8 + m) legal-total (omega arith) rest-fair (λ z. omega (arith, g.1 z))

    leaves_back : (type m : ℕ) → LengthFits W n l p (type ∷ ts) k m → Leaves P k (l - (p + 8 * suc k)) m
    leaves_back type m g = let f = followed n l (p + 8 + m) g.1 g.2 in (omega (arith, f.0), λ z. omega (arith, f.1 z))

    -- a type passes exactly if some legal payload length of this type lets the records end so that l fits
    pub type_exactly : (type : ℕ) → (type_ok P n (suc k) (l - (p + 8 * suc k)) type ≡ true) ↔ TypeFits W n l p ts k type
    unfolding type_ok
    type_exactly type = let f = possible_exactly P k (l - (p + 8 * suc k)) (P.rule type n) in (
      λ h. let g = f.0 h in (g.0, (says.legal_says n type g.0).0 g.1, leaves_forth type g.0 g.1 g.2),
      λ g. f.1 (g.0, (says.legal_says n type g.0).1 g.1, leaves_back type g.0 g.2),
    )

    -- a payload length passes exactly if it is legal for the type and lets the records end so that l fits
    pub length_exactly : (type m : ℕ) → (length_ok P (P.rule type n) (suc k) (l - (p + 8 * suc k)) m ≡ true)
        ↔ (W.Legal n type m × LengthFits W n l p (type ∷ ts) k m)
    unfolding length_ok
    length_exactly type m = let room = l - (p + 8 * suc k) in let rule = P.rule type n in let f = fits_exactly P k room m in (
      λ h. let b = and_parts (legal rule m) (fits P (suc k) room m) h in
          ((says.legal_says n type m).0 b.0, leaves_forth type m b.0 (f.0 b.1)),
      λ g. let fitting = f.1 (leaves_back type m g.1) in
          sym (length_both P rule (suc k) room m (sym ((says.legal_says n type m).1 g.0)) refl (sym fitting)),
    )
