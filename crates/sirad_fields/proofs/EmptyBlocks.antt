-- Which blocks of a T frame are read as empty: exactly those of fourteen bytes of value 0, and those with `0` in front of the reserved
-- bytes.
use mathlib.Core.Path.{◌≡◌, refl, sym, ap, ◌∙◌}
use mathlib.Core.Bool.{true, false}
use mathlib.Core.List.{List, [], ◌∷◌}
use mathlib.Core.Logic.{◌↔◌, ◌⊎◌, inl, inr}
use Prim.Native.Nat.{ℕ, zero, suc, ◌+◌, ◌*◌, ◌<◌, ◌≤◌}
use native.Mathlib.Omega.{arith}
use borrow.Author.Tests.{eqb-true, eq-eqb}
use lib.Dec.{eqb}
use lib.ListN.{length, drop, get_or, length-drop}
use lib.Seq.{drop-drop, get_or-drop}
use Rattle.digits.specs.Bytes.{is_hex}
use Rattle.digits.proofs.Choices.{test, and_left, and_right, and_both, or_right, both_ways}
use Rattle.digits.proofs.Lists.{drop_first}
use Rattle.form.proofs.Theorems.{judged_frame}
use Rattle.sirad.specs.Rows.{blocks}
use Rattle.sirad.specs.Sirad.{sirad}
use Rattle.sirad.specs.Table.{ZeroBlock, TargetBlock, BlockFrame}
use Rattle.sirad.proofs.BlockLaws.{targets_by_blocks}
use Rattle.sirad_fields.specs.Values.{zeroed, is_empty, values}
use Rattle.sirad_fields.specs.Fields.{no_target, empty_target, targets_of, VacantBlock, read_targets}
use Rattle.sirad_fields.specs.Internal.{target_at}
use Rattle.sirad_fields.proofs.FrameLaws.{kind_whole}
use Rattle.sirad_fields.proofs.ReadsExactly.{targets_kind}
use Rattle.sirad_fields.proofs.ReadingLaws.{block_target}

-- -- Bytes that are `0`, one by one

zeroed_each : (n : ℕ) (xs : List ℕ) → zeroed n xs ≡ true → (j : ℕ) → j < n → get_or xs j 0 ≡ 48
unfolding zeroed
zeroed_each zero xs h j l = absurd (omega arith)
zeroed_each (suc n) [] h j l = both_ways false h refl
zeroed_each (suc n) (x ∷ xs) h zero l = eqb-true x 48 (and_left (eqb x 48) (zeroed n xs) h)
zeroed_each (suc n) (x ∷ xs) h (suc j) l = zeroed_each n xs (and_right (eqb x 48) (zeroed n xs) h) j (omega arith)

each_zeroed : (n : ℕ) (xs : List ℕ) → n ≤ length xs → ((j : ℕ) → j < n → get_or xs j 0 ≡ 48) → zeroed n xs ≡ true
unfolding zeroed
each_zeroed zero xs l h = refl
each_zeroed (suc n) [] l h = absurd (omega arith)
each_zeroed (suc n) (x ∷ xs) l h =
    and_both (eqb x 48) (zeroed n xs) (eq-eqb x 48 (h 0 (omega arith))) (each_zeroed n xs (omega arith) (λ j k. h (suc j) (omega arith)))

-- -- One block

module _ (bs : List ℕ) (q : ℕ) (h : q < 16) (f : BlockFrame bs) where
  -- a block whose first byte has value 0 is fourteen of them
  committed : get_or bs (4 + 14 * q) 0 ≡ 0 → ZeroBlock bs q
  committed e = go (f.block q h)
    where
      go : ZeroBlock bs q ⊎ TargetBlock bs q → ZeroBlock bs q
      go (inl z) = z
      go (inr t) =
          let o : 4 + 14 * q + 0 ≡ 4 + 14 * q = omega arith in
          let x : is_hex (get_or bs (4 + 14 * q) 0) ≡ true = rw o at (t 0 (omega arith)) in
          both_ways (is_hex (get_or bs (4 + 14 * q) 0)) x (rw e)

  vacant : zeroed 10 (drop (4 + 14 * q) bs) ≡ true → VacantBlock bs q
  vacant z j l = sym (get_or-drop (4 + 14 * q) bs j 0) ∙ zeroed_each 10 (drop (4 + 14 * q) bs) z j l

  empty_block : is_empty (drop (4 + 14 * q) bs) ≡ true → ZeroBlock bs q ⊎ VacantBlock bs q
  empty_block e = test (eqb (get_or (drop (4 + 14 * q) bs) 0 0) 0) zeros others
    where
      zeros : eqb (get_or (drop (4 + 14 * q) bs) 0 0) 0 ≡ true → ZeroBlock bs q ⊎ VacantBlock bs q
      zeros t = inl (committed (sym (drop_first bs (4 + 14 * q)) ∙ eqb-true (get_or (drop (4 + 14 * q) bs) 0 0) 0 t))

      others : eqb (get_or (drop (4 + 14 * q) bs) 0 0) 0 ≡ false → ZeroBlock bs q ⊎ VacantBlock bs q
      others t = let z : zeroed 10 (drop (4 + 14 * q) bs) ≡ true = rw t at e in inr (vacant z)

  block_empty : ZeroBlock bs q ⊎ VacantBlock bs q → is_empty (drop (4 + 14 * q) bs) ≡ true
  block_empty (inl z) =
      let o : 4 + 14 * q + 0 ≡ 4 + 14 * q = omega arith in
      let e : get_or bs (4 + 14 * q) 0 ≡ 0 = rw o at (z 0 (omega arith)) in
      let t = eq-eqb (get_or (drop (4 + 14 * q) bs) 0 0) 0 (drop_first bs (4 + 14 * q) ∙ e) in
      rw t
  block_empty (inr v) =
      let size = f.size in
      let long : 10 ≤ length (drop (4 + 14 * q) bs) = simp length-drop (omega arith) in
      or_right (eqb (get_or (drop (4 + 14 * q) bs) 0 0) 0) (zeroed 10 (drop (4 + 14 * q) bs))
      (each_zeroed 10 (drop (4 + 14 * q) bs) long (λ j l. get_or-drop (4 + 14 * q) bs j 0 ∙ v j l))

-- -- The target read of it

-- target q is that of block q
target_of : (n q at : ℕ) (s : List ℕ) → q < n → get_or (targets_of n (values (blocks n) (drop at s))) q no_target
    ≡ target_at (at + 14 * q) s
target_of zero q at s h = absurd (omega arith)
target_of (suc n) zero at s h = let e : at + 14 * 0 ≡ at = omega arith in rw (block_target n at s, e)
target_of (suc n) (suc q) at s h =
    let e : at + 14 + 14 * q ≡ at + 14 * suc q = omega arith in
    rw (block_target n at s) (rw e at (target_of n q (at + 14) s (omega arith)))

empty_told : (at : ℕ) (s : List ℕ) → target_at at s ≡ empty_target → is_empty (drop at s) ≡ true
empty_told at s e =
    test (is_empty (drop at s)) (λ t. t) (λ t. let z : ◌≡◌ {A = ℕ} 0 1 = ap (λ x. x.empty) (rw t at e) in absurd (omega arith))

-- of a frame that is read, block q comes back as empty, every other field 0, exactly if its fourteen bytes have value 0 or its first ten
-- are `0`
pub empty_exactly : (bs : List ℕ) (q : ℕ) → (read_targets bs).refusal ≡ 0 → q < 16
    → (get_or (read_targets bs).targets q no_target ≡ empty_target) ↔ (ZeroBlock bs q ⊎ VacantBlock bs q)
unfolding read_targets values
empty_exactly bs q r h =
    let k = targets_kind bs r in
    let f = (targets_by_blocks bs).0 (judged_frame sirad 4 bs (kind_whole 4 bs (omega arith) k)) in
    let read : get_or (targets_of 16 (values (blocks 16) (drop 4 bs))) q no_target ≡ target_at (4 + 14 * q) bs = target_of 16 q 4 bs h in
    let same : get_or (read_targets bs).targets q no_target ≡ target_at (4 + 14 * q) bs = rw
    (k, drop-drop 1 2 bs, drop-drop 1 3 bs) read in (
      (λ e. empty_block bs q h f (empty_told (4 + 14 * q) bs (sym same ∙ e))),
      (λ z. same ∙ rw (block_empty bs q h f z)),
    )
