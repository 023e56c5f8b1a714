-- A reading goes on where it stopped: the rows so far, then the reading of the bytes from its next offset on, shifted by that offset.
-- Up to the stop both readings go the same way; from there on the second one starts anew.
use mathlib.Core.Bool.{Bool, true, false}
use mathlib.Core.Path.{◌≡◌, refl, sym, ap, ◌∙◌}
use mathlib.Core.List.{List, [], ◌∷◌, ◌++◌, append-nil}
use Prim.Native.Nat.{ℕ, zero, suc, ◌+◌, ◌-◌, ◌≤◌}
use native.Mathlib.Nat.{zero-add, add-zero, sub_self, sub-zero}
use native.Mathlib.Omega.{arith}
use lib.ListN.{length, drop}
use Rattle.form.specs.declared.Judgement.{Judgement}
use Rattle.form.specs.declared.Judgement.TheVariants.{Whole, Bad, Waiting}
use Rattle.form.specs.Judging.{Lawful}
use Rattle.reading.specs.Reading.{Reading, read, reading, stop, skip, found, on_place, at_end, state_waiting, state_full}
use Rattle.reading.specs.Resuming.{joined, shifted}
use Rattle.reading.proofs.CourseLaws.{true_false}
use Rattle.reading.proofs.Prefix.{bad_waits, whole_waits}

-- -- Readings that start n bytes further on

shifted_place : (closed : Bool) (j : Judgement) (n at room : ℕ) (go go' : ℕ → ℕ → Reading)
    → ((pass left : ℕ) → go pass left ≡ shifted n (go' pass left))
    → on_place closed j (n + at) room go ≡ shifted n (on_place closed j at room go')
shifted_place closed (Whole k m) n at zero go go' same = refl
shifted_place closed (Whole k m) n at (suc room) go go' same = ap (found (record { offset = n + at; size = m; kind = k }))
    (same (m - 1) room)
shifted_place closed (Bad r) n at room go go' same = ap skip (same 0 room)
shifted_place false Waiting n at room go go' same = refl
shifted_place true Waiting n at room go go' same = ap skip (same 0 room)

-- the offsets of a reading count from that of its first byte
pub shifted_read : (judge : List ℕ → Judgement) (closed : Bool) (n pass at room : ℕ) (bs : List ℕ)
    → read judge closed pass (n + at) room bs ≡ shifted n (read judge closed pass at room bs)
unfolding read
shifted_read judge closed n pass at room [] = refl
shifted_read judge closed n zero at room (b ∷ bs) =
    let e : n + at + 1 ≡ n + (at + 1) = omega arith in
    shifted_place closed (judge (b ∷ bs)) n at room _ _
    (λ pass left. ap (λ (i : ℕ). read judge closed pass i left bs) e ∙ shifted_read judge closed n pass (at + 1) left bs)
shifted_read judge closed n (suc pass) at room (b ∷ bs) =
    let e : n + at + 1 ≡ n + (at + 1) = omega arith in
    ap (λ (i : ℕ). read judge closed pass i room bs) e ∙ shifted_read judge closed n pass (at + 1) room bs

-- the same from the start of the bytes
pub shifted_start : (judge : List ℕ → Judgement) (closed : Bool) (n room : ℕ) (bs : List ℕ)
    → read judge closed 0 n room bs ≡ shifted n (reading judge closed room bs)
shifted_start judge closed n room bs = ap (λ (i : ℕ). read judge closed 0 i room bs) (sym (add-zero n))
    ∙ shifted_read judge closed n 0 0 room bs

-- -- Joined readings

joined_stop : (at state : ℕ) (s : Reading) → s ≡ joined (stop at state) s
joined_stop at state s = λ i. record { rows = s.rows; skipped = sym (zero-add s.skipped) i; next = s.next; state = s.state }

joined_skip : (r s : Reading) → skip (joined r s) ≡ joined (skip r) s
joined_skip r s =
    let e : suc (r.skipped + s.skipped) ≡ suc r.skipped + s.skipped = omega arith in
    λ i. record { rows = r.rows ++ s.rows; skipped = e i; next = s.next; state = s.state }

behind_place : (closed : Bool) (j : Judgement) (at room : ℕ) (go : ℕ → ℕ → Reading) → ((pass left : ℕ) → at + 1 ≤ (go pass left).next)
    → at ≤ (on_place closed j at room go).next
behind_place closed (Whole k n) at zero go h = omega arith
behind_place closed (Whole k n) at (suc room) go h = omega (arith, h (n - 1) room)
behind_place closed (Bad r) at room go h = omega (arith, h 0 room)
behind_place false Waiting at room go h = omega arith
behind_place true Waiting at room go h = omega (arith, h 0 room)

-- a reading never stops before it starts
stops_behind : (judge : List ℕ → Judgement) (closed : Bool) (pass at room : ℕ) (bs : List ℕ) → at ≤ (read judge closed pass at room bs).next
unfolding read
stops_behind judge closed pass at room [] = omega arith
stops_behind judge closed zero at room (b ∷ bs) =
    behind_place closed (judge (b ∷ bs)) at room _ (λ pass left. stops_behind judge closed pass (at + 1) left bs)
stops_behind judge closed (suc pass) at room (b ∷ bs) = let h = stops_behind judge closed pass (at + 1) room bs in omega arith

-- what is left behind an offset further on, with and without the byte before
drop_behind : (at next : ℕ) (b : ℕ) (bs : List ℕ) → at + 1 ≤ next → drop (next - (at + 1)) bs ≡ drop (next - at) (b ∷ bs)
drop_behind at next b bs h = let e : next - at ≡ suc (next - (at + 1)) = omega arith in rw e

drop_none : (at : ℕ) (bs : List ℕ) → bs ≡ drop (at - at) bs
drop_none at bs = rw (sub_self at)

-- -- The resume laws

-- the reading of the bytes, the first of which is at offset at, from offset next on
abbrev pub rest : (List ℕ → Judgement) → Bool → ℕ → ℕ → List ℕ → ℕ → Reading
rest judge closed at more bs next = read judge closed 0 next more (drop (next - at) bs)

-- a reading that stops at once is followed by the whole reading
rest_stop : (judge : List ℕ → Judgement) (closed : Bool) (at more state : ℕ) (bs : List ℕ)
    → read judge closed 0 at more bs ≡ joined (stop at state) (rest judge closed at more bs at)
rest_stop judge closed at more state bs = ap (read judge closed 0 at more) (drop_none at bs) ∙ joined_stop at state _

-- what comes behind a reading from the byte behind b on, seen from b
rest_behind : (judge : List ℕ → Judgement) (closed : Bool) (pass at room more b : ℕ) (cs bs : List ℕ)
    → let next = (read judge closed pass (at + 1) room cs).next in rest judge closed (at + 1) more bs next ≡ rest judge closed at more
    (b ∷ bs) next
rest_behind judge closed pass at room more b cs bs =
    let next = (read judge closed pass (at + 1) room cs).next in
    ap (read judge closed 0 next more) (drop_behind at next b bs (stops_behind judge closed pass (at + 1) room cs))

-- at one place: go reads the first bytes behind it, far the first and the further ones, behind what comes from an offset on
resumes_place : (closed : Bool) (j j' : Judgement) (at room more : ℕ) (go far : ℕ → ℕ → Reading) (behind : ℕ → Reading)
    → ((state : ℕ) → on_place closed j' at more far ≡ joined (stop at state) (behind at))
    → ((j ≡ Waiting → closed ≡ true) → j' ≡ j)
    → ((k n left : ℕ) → j ≡ Whole k n → let r = go (n - 1) left in far (n - 1) (length r.rows + more) ≡ joined r (behind r.next))
    → ((left : ℕ) → let r = go 0 left in far 0 (length r.rows + more) ≡ joined r (behind r.next))
    → let r = on_place closed j at room go in on_place closed j' at (length r.rows + more) far ≡ joined r (behind r.next)
resumes_place closed (Whole k n) j' at zero more go far behind stops same over on = rw (zero-add more) (stops state_full)
resumes_place closed (Whole k n) j' at (suc room) more go far behind stops same over on =
    let e : suc (length (go (n - 1) room).rows) + more ≡ suc (length (go (n - 1) room).rows + more) = omega arith in
    rw (same (λ w. absurd (whole_waits refl w)), e) (ap (found (record { offset = at; size = n; kind = k })) (over k n room refl))
resumes_place closed (Bad r) j' at room more go far behind stops same over on =
    rw (same (λ w. absurd (bad_waits refl w))) (ap skip (on room) ∙ joined_skip (go 0 room) (behind (go 0 room).next))
resumes_place false Waiting j' at room more go far behind stops same over on = rw (zero-add more) (stops state_waiting)
resumes_place true Waiting j' at room more go far behind stops same over on =
    rw (same (λ w. refl)) (ap skip (on room) ∙ joined_skip (go 0 room) (behind (go 0 room).next))

module _ (judge : List ℕ → Judgement) (L : Lawful judge) (closed : Bool) (B : List ℕ) (ends : closed ≡ true → B ≡ []) where
  -- a judgement that the reading does not stop at is that of the longer bytes
  same_judged : (bs : List ℕ) → (judge bs ≡ Waiting → closed ≡ true) → judge (bs ++ B) ≡ judge bs
  same_judged bs h = by_flag closed refl
    where
      by_flag : (c : Bool) → closed ≡ c → judge (bs ++ B) ≡ judge bs
      by_flag true c = rw (ends c, append-nil bs)
      by_flag false c = L.stays bs B (λ w. true_false (h w) c)

  -- the reading of A followed by B goes on where that of A stopped
  pub resumes : (pass at room more : ℕ) (A : List ℕ) → pass ≤ length A
      → let r = read judge closed pass at room A in
      read judge closed pass at (length r.rows + more) (A ++ B) ≡ joined r (rest judge closed at more (A ++ B) r.next)
  unfolding read
  resumes pass at room more [] h = let z : pass ≡ 0 = omega arith in
      rw (z, zero-add more) (rest_stop judge closed at more (at_end closed) B)
  resumes zero at room more (b ∷ A) h =
      resumes_place closed (judge (b ∷ A)) (judge (b ∷ A ++ B)) at room more _ _ (rest judge closed at more (b ∷ A ++ B))
      (λ state. rest_stop judge closed at more state (b ∷ A ++ B))
      (same_judged (b ∷ A))
      (λ k n left e. let f = L.fits (b ∷ A) k n e in
      resumes (n - 1) (at + 1) left more A (omega arith)
      ∙ ap (joined (read judge closed (n - 1) (at + 1) left A)) (rest_behind judge closed (n - 1) at left more b A (A ++ B)))
      (λ left. resumes 0 (at + 1) left more A (omega arith)
      ∙ ap (joined (read judge closed 0 (at + 1) left A)) (rest_behind judge closed 0 at left more b A (A ++ B)))
  resumes (suc pass) at room more (b ∷ A) h =
      resumes pass (at + 1) room more A (omega arith)
      ∙ ap (joined (read judge closed pass (at + 1) room A)) (rest_behind judge closed pass at room more b A (A ++ B))

  -- the same from the start, with the offsets of what comes behind shifted
  resumes_start : (room more : ℕ) (A : List ℕ) → let r = reading judge closed room A in
      reading judge closed (length r.rows + more) (A ++ B) ≡ joined r
      (shifted r.next (reading judge closed more (drop r.next (A ++ B))))
  resumes_start room more A =
      let r = reading judge closed room A in
      resumes 0 0 room more A (omega arith)
      ∙ ap (joined r) (rw sub-zero (shifted_start judge closed r.next more (drop r.next (A ++ B))))

-- the open reading of A followed by B is that of A, and then the open reading from its next offset on, shifted: whether A's stopped to
-- wait or for want of a row
pub open_resumes : (judge : List ℕ → Judgement) → Lawful judge → (room more : ℕ) (A B : List ℕ) → let r = reading judge false room A in
    reading judge false (length r.rows + more) (A ++ B) ≡ joined r
    (shifted r.next (reading judge false more (drop r.next (A ++ B))))
open_resumes judge L room more A B = resumes_start judge L false B (λ e. absurd (true_false e refl)) room more A

-- a closed reading that stopped for want of a row goes on in the same way with more room, on the same bytes
pub closed_resumes : (judge : List ℕ → Judgement) → Lawful judge → (room more : ℕ) (bs : List ℕ) → let r = reading judge true room bs in
    reading judge true (length r.rows + more) bs ≡ joined r (shifted r.next (reading judge true more (drop r.next bs)))
closed_resumes judge L room more bs = rw (append-nil bs) at (resumes_start judge L true [] (λ e. refl) room more bs)
