-- Frames by the form and by the paper's table are the same: the classes of a row are the table's, byte by byte.
use mathlib.Core.Bool.{Bool, true, false, cond}
use mathlib.Core.Path.{◌≡◌, refl, sym, ap, subst, ◌∙◌}
use mathlib.Core.List.{List, [], ◌∷◌, ◌++◌}
use mathlib.Core.Logic.{◌↔◌}
use Prim.Native.Nat.{ℕ, zero, suc, ◌+◌, ◌-◌, ◌*◌, ◌/◌, ◌%◌, ◌<◌, ◌≤◌}
use native.Mathlib.Nat.{add-zero, zero-add}
use native.Mathlib.Omega.{arith}
use borrow.Author.Tests.{lt-ltb, le-ltb, le-leb, eq-eqb, ne_eqb}
use lib.Dec.{eqb, leb}
use lib.ListN.{length, get_or, take, drop, replicate}
use lib.Seq.{length-take-le, drop-drop}
use Rattle.digits.specs.Hex.{hex_at}
use Rattle.digits.proofs.Choices.{test}
use Rattle.digits.proofs.Lists.{drop_first}
use Rattle.form.specs.declared.Judgement.TheVariants.{Whole}
use Rattle.form.specs.Form.{judge, Frame, Stands}
use Rattle.form.proofs.Theorems.{judged_frame, judged_stands, frame_whole}
use Rattle.sirad.specs.Classes.{Class, Hex, Char, Zero, Cr, Lf, accepts, Passes}
use Rattle.sirad.specs.Rows.{target_classes, block_classes, classes, characters, blocks, r_pieces, t_pieces, row_of}
use Rattle.sirad.specs.Sirad.{sirad}
use Rattle.sirad.specs.Table.{total, target_class, class_at, TableFrame, RowFrame}
use Rattle.sirad.proofs.RowLaws.{form_row, row_form, named_there}

-- -- The rows and the table

-- the classes of n bytes from byte i on
unfoldable pub column : (ℕ → Class) → ℕ → ℕ → List Class
column f i zero = []
column f i (suc n) = f i ∷ column f (suc i) n

column_length : (f : ℕ → Class) (i n : ℕ) (bs : List ℕ) → Passes (column f i n) bs → length bs ≡ n
unfolding column Passes
column_length f i zero [] p = refl
column_length f i zero (b ∷ bs) p = absurd p
column_length f i (suc n) [] p = absurd p
column_length f i (suc n) (b ∷ bs) p = ap suc (column_length f (suc i) n bs p.1)

column_each : (f : ℕ → Class) (i n : ℕ) (bs : List ℕ) → Passes (column f i n) bs → (j : ℕ) → j < length bs
    → accepts (f (i + j)) (get_or bs j 0) ≡ true
unfolding column Passes
column_each f i zero [] p j l = absurd (omega arith)
column_each f i zero (b ∷ bs) p j l = absurd p
column_each f i (suc n) [] p j l = absurd p
column_each f i (suc n) (b ∷ bs) p zero l = ap (λ (x : ℕ). accepts (f x) b) (add-zero i) ∙ p.0
column_each f i (suc n) (b ∷ bs) p (suc j) l =
    let e : i + suc j ≡ suc i + j = omega arith in
    ap (λ (x : ℕ). accepts (f x) (get_or bs j 0)) e ∙ column_each f (suc i) n bs p.1 j (omega arith)

each_column : (f : ℕ → Class) (i n : ℕ) (bs : List ℕ) → length bs ≡ n
    → ((j : ℕ) → j < length bs → accepts (f (i + j)) (get_or bs j 0) ≡ true)
    → Passes (column f i n) bs
unfolding column Passes
each_column f i zero [] l h = tt
each_column f i zero (b ∷ bs) l h = absurd (omega arith)
each_column f i (suc n) [] l h = absurd (omega arith)
each_column f i (suc n) (b ∷ bs) l h =
    (ap (λ (x : ℕ). accepts (f x) b) (sym (add-zero i)) ∙ h 0 (omega arith), each_column f (suc i) n bs (omega arith) next)
  where
    next : (j : ℕ) → j < length bs → accepts (f (suc i + j)) (get_or bs j 0) ≡ true
    next j s = let e : suc i + j ≡ i + suc j = omega arith in ap (λ (x : ℕ). accepts (f x) (get_or bs j 0)) e ∙ h (suc j) (omega arith)

-- a column goes on behind its first m classes
column_append : (f : ℕ → Class) (i m n : ℕ) → column f i (m + n) ≡ column f i m ++ column f (i + m) n
unfolding column
column_append f i zero n = rw (zero-add n, add-zero i)
column_append f i (suc m) n =
    let more : suc m + n ≡ suc (m + n) = omega arith in
    let on : i + suc m ≡ suc i + m = omega arith in
    rw (more, on) (ap (λ (cs : List Class). f i ∷ cs) (column_append f (suc i) m n))

-- columns of the same classes
column_same : (f g : ℕ → Class) (i k n : ℕ) → ((j : ℕ) → j < n → f (i + j) ≡ g (k + j)) → column f i n ≡ column g k n
unfolding column
column_same f g i k zero h = refl
column_same f g i k (suc n) h =
    let here : f i ≡ g k = sym (ap f (add-zero i)) ∙ h 0 (omega arith) ∙ ap g (add-zero k) in
    let rest = column_same f g (suc i) (suc k) n next in
    λ t. here t ∷ rest t
  where
    next : (j : ℕ) → j < n → f (suc i + j) ≡ g (suc k + j)
    next j l =
        let a : suc i + j ≡ i + suc j = omega arith in
        let b : k + suc j ≡ suc k + j = omega arith in
        ap f a ∙ h (suc j) (omega arith) ∙ ap g b

characters_column : (f : ℕ → Class) (i m : ℕ) (bs : List ℕ) → ((j : ℕ) → i ≤ j → j < i + m → f j ≡ Char) → f (i + m) ≡ Cr
    → f (suc (i + m)) ≡ Lf → classes (characters m) bs ≡ column f i (suc (suc m))
unfolding column classes characters
characters_column f i zero bs h c l = ends
  where
    e : i + 0 ≡ i
    e = add-zero i

    ends : (Cr ∷ Lf ∷ []) ≡ (f i ∷ f (suc i) ∷ [])
    ends = λ t. (sym c ∙ ap f e) t ∷ (sym l ∙ ap (λ (x : ℕ). f (suc x)) e) t ∷ []
characters_column f i (suc m) bs h c l =
    let e : i + suc m ≡ suc i + m = omega arith in
    let rest : classes (characters m) (drop 1 bs) ≡ column f (suc i) (suc (suc m)) =
    characters_column f (suc i) m (drop 1 bs) (λ j a b. h j (omega arith) (omega arith))
    (sym (ap f e) ∙ c) (sym (ap (λ (x : ℕ). f (suc x)) e) ∙ l) in
    λ t. sym (h i (omega arith) (omega arith)) t ∷ rest t

module _ (kind n : ℕ) (all : List ℕ) (k : kind ≤ 3) where
  size : ℕ
  size = suc (suc (suc (suc (suc (suc (suc (suc (suc (suc (suc (suc (suc (suc (suc (suc n)))))))))))))))

  digits_at : (i : ℕ) → i < 6 → Hex ≡ class_at kind size all i
  unfolding size class_at
  digits_at i h = rw (lt-ltb i (size - 2) (omega arith), le-leb kind 3 k, lt-ltb i 6 h)

  characters_at : (i : ℕ) → 6 ≤ i → i < 14 + n → class_at kind size all i ≡ Char
  unfolding size class_at
  characters_at i h l = rw (lt-ltb i (size - 2) (omega arith), le-leb kind 3 k, le-ltb i 6 h)

  cr_at : class_at kind size all (14 + n) ≡ Cr
  unfolding size class_at
  cr_at = rw (le-ltb (14 + n) (size - 2) (omega arith), eq-eqb (14 + n) (size - 2) (omega arith))

  lf_at : class_at kind size all (suc (14 + n)) ≡ Lf
  unfolding size class_at
  lf_at = rw (le-ltb (suc (14 + n)) (size - 2) (omega arith), ne_eqb (suc (14 + n)) (size - 2) (λ e. omega arith))

  character_at : (i : ℕ) → 6 ≤ i → i < 14 → Char ≡ class_at kind size all i
  character_at i h l = sym (characters_at i h (omega arith))

  sized_column : (bs : List ℕ) → classes (r_pieces n) bs ≡ column (class_at kind size all) 2 (size - 2)
  unfolding column classes size
  sized_column bs = first ∙ ap (column (class_at kind size all) 2) (sym e)
    where
      e : size - 2 ≡ suc (suc (suc (suc (suc (suc (suc (suc (suc (suc (suc (suc (suc (suc n)))))))))))))
      e = omega arith

      rest : (bs : List ℕ) → classes (characters n) bs ≡ column (class_at kind size all) 14 (suc (suc n))
      rest bs = characters_column (class_at kind size all) 14 n bs (λ j a b. characters_at j (omega arith) b) cr_at lf_at

      first : classes (r_pieces n) bs ≡ column (class_at kind size all) 2
          (suc (suc (suc (suc (suc (suc (suc (suc (suc (suc (suc (suc (suc (suc n))))))))))))))
      first = λ t. digits_at 2 (omega arith) t ∷ digits_at 3 (omega arith) t ∷ digits_at 4 (omega arith) t ∷ digits_at 5 (omega arith) t
          ∷ character_at 6 (omega arith) (omega arith) t ∷ character_at 7 (omega arith) (omega arith) t
          ∷ character_at 8 (omega arith) (omega arith) t ∷ character_at 9 (omega arith) (omega arith) t
          ∷ character_at 10 (omega arith) (omega arith) t ∷ character_at 11 (omega arith) (omega arith) t
          ∷ character_at 12 (omega arith) (omega arith) t ∷ character_at 13 (omega arith) (omega arith) t
          ∷ rest (drop 1 (drop 1 (drop 1 (drop 1 (drop 1 (drop 1 (drop 1 (drop 1 (drop 4 bs))))))))) t

-- -- The blocks of a T frame

-- byte j of block q
pub block_at : (all : List ℕ) (q j i : ℕ) → q < 16 → j < 14 → i ≡ 4 + 14 * q + j
    → cond (eqb (get_or all (4 + 14 * q) 0) 0) Zero (target_class j) ≡ class_at 4 230 all i
unfolding class_at
block_at all q j i h l e =
    let a : (i - 4) % 14 ≡ j = omega arith in
    let b : 4 + 14 * ((i - 4) / 14) ≡ 4 + 14 * q = omega arith in
    rw (lt-ltb i 228 (omega arith), le-ltb i 3 (omega arith), ne_eqb i 3 (λ z. omega arith), a, b)

-- a block's classes are a column of fourteen
block_each : (t : Bool) → cond t (replicate 14 Zero) target_classes ≡ column (λ j. cond t Zero (target_class j)) 0 14
unfolding column
block_each true = refl
block_each false = refl

block_column : (all : List ℕ) (q : ℕ) → q < 16 → block_classes (get_or all (4 + 14 * q) 0) ≡ column (class_at 4 230 all) (4 + 14 * q) 14
block_column all q h =
    block_each (eqb (get_or all (4 + 14 * q) 0) 0)
    ∙ column_same (λ j. cond (eqb (get_or all (4 + 14 * q) 0) 0) Zero (target_class j)) (class_at 4 230 all) 0 (4 + 14 * q) 14
    (λ j l. rw (zero-add j) (block_at all q j (4 + 14 * q + j) h l refl))

stop_column : (all : List ℕ) → (Cr ∷ Lf ∷ []) ≡ column (class_at 4 230 all) 228 2
unfolding class_at column
stop_column all = refl

-- the blocks behind the first q
blocks_column : (all : List ℕ) (n q : ℕ) → n + q ≡ 16
    → classes (blocks n) (drop (4 + 14 * q) all) ≡ column (class_at 4 230 all) (4 + 14 * q) (14 * n + 2)
unfolding classes blocks
blocks_column all zero q e = let d : q ≡ 16 = omega arith in rw d (stop_column all)
blocks_column all (suc n) q e =
    let next : 4 + 14 * q + 14 ≡ 4 + 14 * suc q = omega arith in
    let more : 14 * suc n + 2 ≡ 14 + (14 * n + 2) = omega arith in
    let rest : classes (blocks n) (drop 14 (drop (4 + 14 * q) all)) ≡ column (class_at 4 230 all) (4 + 14 * q + 14) (14 * n + 2) =
    rw (drop-drop 14 (4 + 14 * q) all, next) (blocks_column all n (suc q) (omega arith)) in
    rw (drop_first all (4 + 14 * q), rest, block_column all q (omega arith), more)
    (sym (column_append (class_at 4 230 all) (4 + 14 * q) 14 (14 * n + 2)))

targets_start : (all : List ℕ) → (Hex ≡ class_at 4 230 all 2) × (Char ≡ class_at 4 230 all 3)
unfolding class_at
targets_start all = (refl, refl)

targets_column : (all : List ℕ) → classes t_pieces (drop 2 all) ≡ column (class_at 4 230 all) 2 228
unfolding classes column
targets_column all = λ t. (targets_start all).0 t ∷ (targets_start all).1 t ∷ rest t
  where
    rest : classes (blocks 16) (drop 1 (drop 1 (drop 2 all))) ≡ column (class_at 4 230 all) 4 226
    rest = rw (drop-drop 1 2 all, drop-drop 1 3 all) (blocks_column all 16 0 refl)

-- the classes of a kind's row, in these bytes, are the table's
pub record Shape (kind n : ℕ) (all : List ℕ) : Type 0 where
  pub bytes : ℕ
  pub many : 1 ≤ bytes
  pub whole_size : total kind n ≡ suc (suc bytes)
  pub column_is : classes (row_of kind n) (drop 2 all) ≡ column (class_at kind (suc (suc bytes)) all) 2 bytes

sized_shape : (kind n : ℕ) (all : List ℕ) → kind ≤ 3 → Shape kind n all
unfolding size
sized_shape kind n all k =
    let e : suc (suc (14 + n)) ≡ size kind n all k = omega arith in
    let d : size kind n all k - 2 ≡ 14 + n = omega arith in
    record {
      bytes = 14 + n;
      many = omega arith;
      whole_size = rw (le-leb kind 3 k) (omega arith);
      column_is = rw (le-leb kind 3 k, e) (sized_column kind n all k (drop 2 all)
          ∙ ap (column (class_at kind (size kind n all k) all) 2) d);
    }

-- every kind has one
pub shape : (kind n : ℕ) (all : List ℕ) → 1 ≤ kind → kind ≤ 6 → Shape kind n all
unfolding column classes characters class_at
shape zero n all l m = absurd (omega arith)
shape (suc zero) n all l m = sized_shape 1 n all (omega arith)
shape (suc (suc zero)) n all l m = sized_shape 2 n all (omega arith)
shape (suc (suc (suc zero))) n all l m = sized_shape 3 n all (omega arith)
shape (suc (suc (suc (suc zero)))) n all l m = record { bytes = 228; many = omega arith; whole_size = refl; column_is = targets_column all }
shape (suc (suc (suc (suc (suc zero))))) n all l m = record { bytes = 24; many = omega arith; whole_size = refl; column_is = refl }
shape (suc (suc (suc (suc (suc (suc zero)))))) n all l m = record { bytes = 6; many = omega arith; whole_size = refl; column_is = refl }
shape (suc (suc (suc (suc (suc (suc (suc k))))))) n all l m = absurd (omega arith)

row_table : (k : ℕ) (bs : List ℕ) → RowFrame k bs → TableFrame k bs
row_table k [] r = let z : ◌≡◌ {A = ℕ} 0 33 = r.start in absurd (omega arith)
row_table k (b ∷ []) r = absurd (named_there k r.some r.most r.named)
row_table k (b ∷ c ∷ bs) r = go (shape k (hex_at 4 2 (b ∷ c ∷ bs)) (b ∷ c ∷ bs) r.some r.most)
  where
    go : Shape k (hex_at 4 2 (b ∷ c ∷ bs)) (b ∷ c ∷ bs) → TableFrame k (b ∷ c ∷ bs)
    go s = record {
      some = r.some;
      most = r.most;
      size = ap (λ (n : ℕ). suc (suc n)) long ∙ sym s.whole_size;
      start = r.start;
      named = r.named;
      each = each;
    }
      where
        p : Passes (column (class_at k (suc (suc s.bytes)) (b ∷ c ∷ bs)) 2 s.bytes) bs
        p = subst (λ (cs : List Class). Passes cs bs) s.column_is r.passes

        long : length bs ≡ s.bytes
        long = column_length (class_at k (suc (suc s.bytes)) (b ∷ c ∷ bs)) 2 s.bytes bs p

        each : (i : ℕ) → 2 ≤ i → i < length (b ∷ c ∷ bs)
            → accepts (class_at k (length (b ∷ c ∷ bs)) (b ∷ c ∷ bs) i) (get_or (b ∷ c ∷ bs) i 0) ≡ true
        each zero l h = absurd (omega arith)
        each (suc zero) l h = absurd (omega arith)
        each (suc (suc j)) l h =
            let e : suc (suc j) ≡ 2 + j = omega arith in
            ap (λ (n : ℕ). accepts (class_at k (suc (suc n)) (b ∷ c ∷ bs) (suc (suc j))) (get_or bs j 0)) long
            ∙ ap (λ (i : ℕ). accepts (class_at k (suc (suc s.bytes)) (b ∷ c ∷ bs) i) (get_or bs j 0)) e
            ∙ column_each (class_at k (suc (suc s.bytes)) (b ∷ c ∷ bs)) 2 s.bytes bs p j (omega arith)

table_row : (k : ℕ) (bs : List ℕ) → TableFrame k bs → RowFrame k bs
table_row k [] f = let z : ◌≡◌ {A = ℕ} 0 33 = f.start in absurd (omega arith)
table_row k (b ∷ []) f = absurd (named_there k f.some f.most f.named)
table_row k (b ∷ c ∷ bs) f = go (shape k (hex_at 4 2 (b ∷ c ∷ bs)) (b ∷ c ∷ bs) f.some f.most)
  where
    go : Shape k (hex_at 4 2 (b ∷ c ∷ bs)) (b ∷ c ∷ bs) → RowFrame k (b ∷ c ∷ bs)
    go s = record {
      some = f.some;
      most = f.most;
      start = f.start;
      named = f.named;
      passes = subst (λ (cs : List Class). Passes cs bs) (sym s.column_is) p;
    }
      where
        long : length bs ≡ s.bytes
        long = omega (arith, f.size, s.whole_size)

        each : (j : ℕ) → j < length bs → accepts (class_at k (suc (suc s.bytes)) (b ∷ c ∷ bs) (2 + j)) (get_or bs j 0) ≡ true
        each j h =
            let e : 2 + j ≡ suc (suc j) = omega arith in
            ap (λ (n : ℕ). accepts (class_at k (suc (suc n)) (b ∷ c ∷ bs) (2 + j)) (get_or bs j 0)) (sym long)
            ∙ ap (λ (i : ℕ). accepts (class_at k (suc (suc (length bs))) (b ∷ c ∷ bs) i) (get_or bs j 0)) e
            ∙ f.each (suc (suc j)) (omega arith) (omega arith)

        p : Passes (column (class_at k (suc (suc s.bytes)) (b ∷ c ∷ bs)) 2 s.bytes) bs
        p = each_column (class_at k (suc (suc s.bytes)) (b ∷ c ∷ bs)) 2 s.bytes bs long each

-- bytes are a frame of the form exactly if they are one of the table, with the same kind
pub table_is_form : (k : ℕ) (bs : List ℕ) → Frame sirad k bs ↔ TableFrame k bs
table_is_form k bs = ((λ f. row_table k bs (form_row k bs f)), (λ f. row_form k bs (table_row k bs f)))

-- -- What field readers go by

-- whole exactly if the bytes pass the row of pieces of their kind
pub whole_by_row : (k : ℕ) (bs : List ℕ) → (judge sirad 0 bs ≡ Whole k (length bs)) ↔ RowFrame k bs
whole_by_row k bs = ((λ h. form_row k bs (judged_frame sirad k bs h)), (λ r. frame_whole sirad k bs (row_form k bs r)))

-- a frame has the length that the table gives
pub frame_length : (k : ℕ) (bs : List ℕ) → Frame sirad k bs → length bs ≡ total k (hex_at 4 2 bs)
frame_length k bs f = ((table_is_form k bs).0 f).size

-- byte i of a frame is of the class that the table gives
pub frame_class : (k : ℕ) (bs : List ℕ) → Frame sirad k bs → (i : ℕ) → 2 ≤ i → i < length bs
    → accepts (class_at k (length bs) bs i) (get_or bs i 0) ≡ true
frame_class k bs f = ((table_is_form k bs).0 f).each

-- every frame is of one of the six kinds
pub frame_kind_lem : (k : ℕ) (bs : List ℕ) → Frame sirad k bs → (1 ≤ k) × (k ≤ 6)
frame_kind_lem k bs f = let r = form_row k bs f in (r.some, r.most)

-- no frame is shorter than 8 bytes
pub total_least : (k n : ℕ) → 8 ≤ total k n
total_least k n =
    test (leb k 3) (λ h. rw h (omega arith))
    (λ h. test (eqb k 4) (λ g. rw (h, g) (omega arith))
    (λ g. test (eqb k 5) (λ f. rw (h, g, f) (omega arith)) (λ f. rw (h, g, f) (omega arith))))

size_kept : (n : ℕ) (bs : List ℕ) → 6 ≤ n → hex_at 4 2 (take n bs) ≡ hex_at 4 2 bs
size_kept n bs h = let e : n ≡ suc (suc (suc (suc (suc (suc (n - 6)))))) = omega arith in rw e (kept bs)
  where
    kept : (bs : List ℕ) → hex_at 4 2 (take (suc (suc (suc (suc (suc (suc (n - 6))))))) bs) ≡ hex_at 4 2 bs
    kept ([]) = refl
    kept (a ∷ []) = refl
    kept (a ∷ b ∷ []) = refl
    kept (a ∷ b ∷ c ∷ []) = refl
    kept (a ∷ b ∷ c ∷ d ∷ []) = refl
    kept (a ∷ b ∷ c ∷ d ∷ e ∷ []) = refl
    kept (a ∷ b ∷ c ∷ d ∷ e ∷ f ∷ bs) = refl

-- the judgement's length is the table's
pub whole_length : (k n : ℕ) (bs : List ℕ) → judge sirad 0 bs ≡ Whole k n → n ≡ total k (hex_at 4 2 bs)
whole_length k n bs h = go (judged_stands sirad k n bs h)
  where
    go : Stands sirad k n bs → n ≡ total k (hex_at 4 2 bs)
    go s =
        let e : n ≡ total k (hex_at 4 2 (take n bs)) = sym (length-take-le n bs s.within) ∙ frame_length k (take n bs) s.frame in
        e ∙ ap (total k) (size_kept n bs (omega (arith, total_least k (hex_at 4 2 (take n bs)))))

-- bytes that are judged whole from first to last are a frame of the table, and only those
pub whole_by_table : (k : ℕ) (bs : List ℕ) → (judge sirad 0 bs ≡ Whole k (length bs)) ↔ TableFrame k bs
whole_by_table k bs =
    (λ h. (table_is_form k bs).0 (judged_frame sirad k bs h), λ f. frame_whole sirad k bs ((table_is_form k bs).1 f))
