-- The judgement goes along the classes of a row, which the bytes themselves choose; so frames by the form and by the rows of pieces are the
-- same.
use mathlib.Core.Bool.{Bool, true, false, cond}
use mathlib.Core.Path.{◌≡◌, refl, sym, ap, subst, ◌∙◌}
use mathlib.Core.List.{List, [], ◌∷◌, ◌++◌}
use Prim.Native.Nat.{ℕ, zero, suc, ◌+◌, ◌*◌, ◌≤◌}
use native.Mathlib.Omega.{arith}
use borrow.Author.Tests.{eqb-true}
use lib.Dec.{eqb}
use lib.ListN.{length, take, drop, get_or, replicate, length-replicate}
use Rattle.digits.specs.Bytes.{is_hex}
use Rattle.digits.specs.Hex.{digit, hex_from}
use Rattle.digits.proofs.Choices.{test, both_ways}
use Rattle.form.specs.declared.Judgement.{Judgement}
use Rattle.form.specs.declared.Judgement.TheVariants.{Whole, Bad}
use Rattle.form.specs.Form.{Form, byte, ◌>>=◌, judge, Frame}
use Rattle.form.proofs.Theorems.{judged_frame, frame_whole}
use Rattle.sirad.specs.Classes.{Class, Hex, Char, Zero, Cr, Lf, accepts, reason, Passes}
use Rattle.sirad.specs.declared.Kind.TheVariants.{Sized, Targets, Status, Flags, Unknown}
use Rattle.sirad.specs.Rows.{Piece, hex, char, spare, slot, cr, lf, target_classes, block_classes, piece_classes, width}
use Rattle.sirad.specs.Rows.{classes, data_pieces, r_pieces, t_pieces, u_pieces, e_pieces, row_of}
use Rattle.sirad.specs.Sirad.{lay, run, block, piece, row, number, sized, kind_of, known, body, sirad}
use Rattle.sirad.specs.Table.{identifier, RowFrame}
use Rattle.sirad.proofs.FrameLaws.{judge_body}

-- -- The judgement along the classes of a row

-- a piece has as many bytes as classes
pub length_classes : (p : Piece) (bs : List ℕ) → length (piece_classes p bs) ≡ width p bs
length_classes (hex n) bs = length-replicate n Hex
length_classes char bs = refl
length_classes spare bs = refl
length_classes slot bs = go (eqb (get_or bs 0 0) 0)
  where
    go : (t : Bool) → length (cond t (replicate 14 Zero) target_classes) ≡ 14
    go true = refl
    go false = refl
length_classes cr bs = refl
length_classes lf bs = refl

run_lay : (n : ℕ) (c : Class) → run n c ≡ lay (replicate n c) 0
unfolding run lay
run_lay zero c = refl
run_lay (suc n) c = ap (λ (p : Form). byte (reason c) (accepts c) (λ _. p)) (run_lay n c)

-- a piece, and then q, is judged along the piece's classes
Laid : Piece → Form → ℕ → List ℕ → Type 0
Laid p q at bs = judge (piece p >>= (λ _. q)) at bs ≡ judge (lay (piece_classes p bs) 0 >>= (λ _. q)) at bs

run_laid : (n : ℕ) (c : Class) (q : Form) (at : ℕ) (bs : List ℕ)
    → judge (run n c >>= (λ _. q)) at bs ≡ judge (lay (replicate n c) 0 >>= (λ _. q)) at bs
run_laid n c q at bs = ap (λ (p : Form). judge (p >>= (λ _. q)) at bs) (run_lay n c)

block_laid : (q : Form) (at : ℕ) (bs : List ℕ) → Laid slot q at bs
unfolding Laid block lay run judge ◌>>=◌
block_laid q at [] = refl
block_laid q at (b ∷ bs) = go (eqb b 0) refl
  where
    go : (t : Bool) → eqb b 0 ≡ t → judge (block >>= (λ _. q)) at (b ∷ bs) ≡ judge (lay (block_classes b) 0 >>= (λ _. q)) at (b ∷ bs)
    go true e = rw (e, e)
    go false e = rw e

piece_laid : (p : Piece) (q : Form) (at : ℕ) (bs : List ℕ) → Laid p q at bs
unfolding Laid
piece_laid (hex n) q at bs = run_laid n Hex q at bs
piece_laid char q at bs = run_laid 1 Char q at bs
piece_laid spare q at bs = run_laid 1 Char q at bs
piece_laid slot q at bs = block_laid q at bs
piece_laid cr q at bs = run_laid 1 Cr q at bs
piece_laid lf q at bs = run_laid 1 Lf q at bs

-- classes, and then those that the bytes behind them choose
lay_then : (cs : List Class) (q : Form) (ds : List ℕ → List Class) (k at : ℕ) (bs : List ℕ)
    → ((at : ℕ) (xs : List ℕ) → judge q at xs ≡ judge (lay (ds xs) k) at xs)
    → judge (lay cs 0 >>= (λ _. q)) at bs ≡ judge (lay (cs ++ ds (drop (length cs) bs)) k) at bs
unfolding lay judge ◌>>=◌
lay_then [] q ds k at bs h = h at bs
lay_then (c ∷ cs) q ds k at [] h = refl
lay_then (c ∷ cs) q ds k at (b ∷ bs) h = ap (λ (j : Judgement). cond (accepts c b) j (Bad (reason c))) (lay_then cs q ds k (at + 1) bs h)

-- a row is judged along its classes
pub row_laid : (ps : List Piece) (k at : ℕ) (bs : List ℕ) → judge (row ps k) at bs ≡ judge (lay (classes ps bs) k) at bs
unfolding row classes lay Laid
row_laid [] k at bs = refl
row_laid (p ∷ ps) k at bs =
    piece_laid p (row ps k) at bs
    ∙ lay_then (piece_classes p bs) (row ps k) (classes ps) k at bs (row_laid ps k)
    ∙ ap (λ (n : ℕ). judge (lay (piece_classes p bs ++ classes ps (drop n bs)) k) at bs) (length_classes p bs)

number_laid : (w : ℕ) (h : ℕ → Form) (ds : ℕ → List ℕ → List Class)
    → ((m at : ℕ) (xs : List ℕ) → judge (h m) at xs ≡ judge (lay (ds m xs) w) at xs)
    → (n v at : ℕ) (bs : List ℕ)
    → judge (number n v >>= h) at bs ≡ judge (lay (replicate n Hex ++ ds (hex_from v (take n bs)) (drop n bs)) w) at bs
unfolding number lay judge hex_from ◌>>=◌
number_laid w h ds l zero v at bs = l v at bs
number_laid w h ds l (suc n) v at [] = refl
number_laid w h ds l (suc n) v at (b ∷ bs) =
    ap (λ (j : Judgement). cond (is_hex b) j (Bad 12)) (number_laid w h ds l n (v * 16 + digit b) (at + 1) bs)

sized_laid : (kind at : ℕ) (bs : List ℕ) → judge (sized kind) at bs
    ≡ judge (lay (classes (r_pieces (hex_from 0 (take 4 bs))) bs) kind) at bs
unfolding classes
sized_laid kind at bs =
    number_laid kind (λ n. row (data_pieces n) kind) (λ n. classes (data_pieces n)) (λ n. row_laid (data_pieces n) kind) 4 0 at bs

-- bytes with the start marker and the identifier of a kind are judged along the row of that kind
pub along : (kind b c : ℕ) (bs : List ℕ) → 1 ≤ kind → kind ≤ 6 → b ≡ 33 → c ≡ identifier kind
    → judge sirad 0 (b ∷ c ∷ bs) ≡ judge (lay (classes (row_of kind (hex_from 0 (take 4 bs))) bs) kind) 2 bs
unfolding body
along zero b c bs l m s e = absurd (omega arith)
along (suc zero) b c bs l m s e = judge_body (b ∷ c ∷ bs) (omega arith) s (Sized 1) (ap kind_of e) refl ∙ sized_laid 1 2 bs
along (suc (suc zero)) b c bs l m s e = judge_body (b ∷ c ∷ bs) (omega arith) s (Sized 2) (ap kind_of e) refl ∙ sized_laid 2 2 bs
along (suc (suc (suc zero))) b c bs l m s e = judge_body (b ∷ c ∷ bs) (omega arith) s (Sized 3) (ap kind_of e) refl ∙ sized_laid 3 2 bs
along (suc (suc (suc (suc zero)))) b c bs l m s e = judge_body (b ∷ c ∷ bs) (omega arith) s Targets (ap kind_of e) refl
    ∙ row_laid t_pieces 4 2 bs
along (suc (suc (suc (suc (suc zero))))) b c bs l m s e = judge_body (b ∷ c ∷ bs) (omega arith) s Status (ap kind_of e) refl
    ∙ row_laid u_pieces 5 2 bs
along (suc (suc (suc (suc (suc (suc zero)))))) b c bs l m s e = judge_body (b ∷ c ∷ bs) (omega arith) s Flags (ap kind_of e) refl
    ∙ row_laid e_pieces 6 2 bs
along (suc (suc (suc (suc (suc (suc (suc k))))))) b c bs l m s e = absurd (omega arith)

-- -- The identifier

known_identifier : (kind : ℕ) → 1 ≤ kind → kind ≤ 6 → known (kind_of (identifier kind)) ≡ true
known_identifier zero l m = absurd (omega arith)
known_identifier (suc zero) l m = refl
known_identifier (suc (suc zero)) l m = refl
known_identifier (suc (suc (suc zero))) l m = refl
known_identifier (suc (suc (suc (suc zero)))) l m = refl
known_identifier (suc (suc (suc (suc (suc zero))))) l m = refl
known_identifier (suc (suc (suc (suc (suc (suc zero)))))) l m = refl
known_identifier (suc (suc (suc (suc (suc (suc (suc k))))))) l m = absurd (omega arith)

-- an unknown byte is no identifier
pub not_identifier : (c : ℕ) → kind_of c ≡ Unknown → (kind : ℕ) → 1 ≤ kind → kind ≤ 6 → c ≡ identifier kind → ⊥
not_identifier c u kind l m e = both_ways (known (kind_of c)) (ap (λ (x : ℕ). known (kind_of x)) e ∙ known_identifier kind l m) (ap known u)

-- a byte is one of the six identifiers, or unknown
pub identify : {A : Type 0} (c : ℕ) → ((kind : ℕ) → 1 ≤ kind → kind ≤ 6 → c ≡ identifier kind → A) → (kind_of c ≡ Unknown → A) → A
identify {A} c f g =
    test (eqb c 82) (λ h. f 1 (omega arith) (omega arith) (eqb-true c 82 h))
    (λ h₁. test (eqb c 80) (λ h. f 2 (omega arith) (omega arith) (eqb-true c 80 h))
    (λ h₂. test (eqb c 67) (λ h. f 3 (omega arith) (omega arith) (eqb-true c 67 h))
    (λ h₃. test (eqb c 84) (λ h. f 4 (omega arith) (omega arith) (eqb-true c 84 h))
    (λ h₄. test (eqb c 85) (λ h. f 5 (omega arith) (omega arith) (eqb-true c 85 h))
    (λ h₅. test (eqb c 69) (λ h. f 6 (omega arith) (omega arith) (eqb-true c 69 h))
    (λ h₆. none h₁ h₂ h₃ h₄ h₅ h₆))))))
  where
    none : eqb c 82 ≡ false → eqb c 80 ≡ false → eqb c 67 ≡ false → eqb c 84 ≡ false → eqb c 85 ≡ false → eqb c 69 ≡ false → A
    none h₁ h₂ h₃ h₄ h₅ h₆ = g (rw (h₁, h₂, h₃, h₄, h₅, h₆))

-- a byte that is no identifier is unknown
pub unknown : (c : ℕ) → ((kind : ℕ) → 1 ≤ kind → kind ≤ 6 → c ≡ identifier kind → ⊥) → kind_of c ≡ Unknown
unknown c n = identify c (λ kind l m e. absurd (n kind l m e)) (λ u. u)

-- judged whole along classes: every byte is of its class
lay_passes : (cs : List Class) (v k at : ℕ) (bs : List ℕ) → judge (lay cs v) at bs ≡ Whole k (at + length bs) → Passes cs bs × (v ≡ k)
unfolding lay judge Passes
lay_passes [] v k at [] h = (tt, cc)
lay_passes [] v k at (b ∷ bs) h = let e : at ≡ at + suc (length bs) = cc in absurd (omega arith)
lay_passes (c ∷ cs) v k at [] h = let z : ◌≡◌ {A = ℕ} 0 1 = cc in absurd (omega arith)
lay_passes (c ∷ cs) v k at (b ∷ bs) h = go (accepts c b) refl (h ∙ ap (Whole k) long) (lay_passes cs v k (at + 1) bs)
  where
    long : at + suc (length bs) ≡ at + 1 + length bs
    long = omega arith

    go : (t : Bool) → accepts c b ≡ t → cond t (judge (lay cs v) (at + 1) bs) (Bad (reason c)) ≡ Whole k (at + 1 + length bs)
        → (judge (lay cs v) (at + 1) bs ≡ Whole k (at + 1 + length bs) → Passes cs bs × (v ≡ k)) → Passes (c ∷ cs) (b ∷ bs) × (v ≡ k)
    go true a j s = let r = s j in ((a, r.0), r.1)
    go false a j s = let z : ◌≡◌ {A = ℕ} 0 1 = cc in absurd (omega arith)

passes_lay : (cs : List Class) (v at : ℕ) (bs : List ℕ) → Passes cs bs → judge (lay cs v) at bs ≡ Whole v (at + length bs)
unfolding lay judge Passes
passes_lay [] v at [] p = let e : at ≡ at + 0 = omega arith in ap (Whole v) e
passes_lay [] v at (b ∷ bs) p = absurd p
passes_lay (c ∷ cs) v at [] p = absurd p
passes_lay (c ∷ cs) v at (b ∷ bs) p =
    let e : at + 1 + length bs ≡ at + suc (length bs) = omega arith in
    rw p.0 (passes_lay cs v (at + 1) bs p.1 ∙ ap (Whole v) e)

-- -- The form and the rows

-- a frame of the form follows its row
pub form_row : (k : ℕ) (bs : List ℕ) → Frame sirad k bs → RowFrame k bs
unfolding sirad ◌>>=◌ Frame
form_row k [] f = absurd f
form_row k (b ∷ []) f = absurd f.1
form_row k (b ∷ c ∷ bs) f = identify c by (λ u. both_ways (known (kind_of c)) f.1.0 (ap known u))
  where
    by : (kind : ℕ) → 1 ≤ kind → kind ≤ 6 → c ≡ identifier kind → RowFrame k (b ∷ c ∷ bs)
    by kind l m e =
        let s : b ≡ 33 = eqb-true b 33 f.0 in
        let long : suc (suc (length bs)) ≡ 2 + length bs = omega arith in
        let judged = sym (along kind b c bs l m s e) ∙ frame_whole sirad k (b ∷ c ∷ bs) f ∙ ap (Whole k) long in
        let p = lay_passes (classes (row_of kind (hex_from 0 (take 4 bs))) bs) kind k 2 bs judged in
        subst (λ (k : ℕ). RowFrame k (b ∷ c ∷ bs)) p.1 (record { some = l; most = m; start = s; named = e; passes = p.0 })

-- no kind from 1 to 6 has the identifier 0
pub named_there : (k : ℕ) → 1 ≤ k → k ≤ 6 → 0 ≡ identifier k → ⊥
named_there zero l m e = omega arith
named_there (suc zero) l m e = let z : ◌≡◌ {A = ℕ} 0 82 = e in omega arith
named_there (suc (suc zero)) l m e = let z : ◌≡◌ {A = ℕ} 0 80 = e in omega arith
named_there (suc (suc (suc zero))) l m e = let z : ◌≡◌ {A = ℕ} 0 67 = e in omega arith
named_there (suc (suc (suc (suc zero)))) l m e = let z : ◌≡◌ {A = ℕ} 0 84 = e in omega arith
named_there (suc (suc (suc (suc (suc zero))))) l m e = let z : ◌≡◌ {A = ℕ} 0 85 = e in omega arith
named_there (suc (suc (suc (suc (suc (suc zero)))))) l m e = let z : ◌≡◌ {A = ℕ} 0 69 = e in omega arith
named_there (suc (suc (suc (suc (suc (suc (suc k))))))) l m e = omega arith

-- bytes that follow a row are a frame of the form
pub row_form : (k : ℕ) (bs : List ℕ) → RowFrame k bs → Frame sirad k bs
row_form k [] r = let z : ◌≡◌ {A = ℕ} 0 33 = r.start in absurd (omega arith)
row_form k (b ∷ []) r = absurd (named_there k r.some r.most r.named)
row_form k (b ∷ c ∷ bs) r =
    let long : 2 + length bs ≡ suc (suc (length bs)) = omega arith in
    judged_frame sirad k (b ∷ c ∷ bs)
    (along k b c bs r.some r.most r.start r.named
    ∙ passes_lay (classes (row_of k (hex_from 0 (take 4 bs))) bs) k 2 bs r.passes
    ∙ ap (Whole k) long)
