-- Start marker, identifier, then the body that it announces.
use Rattle.std.proofs.Common.{◌≡◌, ℕ, ◌<◌, true, List, length, get_or, refl, sym, ap, ◌∙◌, ltb-false, arith}
use Rattle.form.specs.declared.Judgement.{Judgement}
use Rattle.form.specs.Numbers.{Judges}
use Rattle.form.proofs.PieceLaws.{judges}
use Rattle.sirad.specs.declared.Kind.{Kind}
use Rattle.sirad.specs.Sirad.{body, kind_of, known, sirad}
use Rattle.sirad.proofs.FrameLaws.{judge_none, judge_no_start, judge_start, judge_body, judge_unknown}
use Rattle.sirad_judge.proofs.frame.Goals as goal

-- the first two bytes as `get` finds them, and the kind that the second announces
record Announced (bs : List ℕ) (k : Kind) : Type 0 where
  there : 1 < length bs
  start : get_or bs 0 0 ≡ 33
  kind : kind_of (get_or bs 1 0) ≡ k

announced : {bs : List ℕ} {first second : ℕ} {k told : Kind} → first ≡ get_or bs 0 0 → first ≡ 33 → 1 < length bs → second ≡ get_or bs 1 0
    → told ≡ kind_of second → told ≡ k → Announced bs k
announced a b l d e f = record { there = l; start = sym a ∙ b; kind = ap kind_of (sym d) ∙ sym e ∙ f }

-- the judgement of the body is that of the frame
framed : {bs : List ℕ} {k : Kind} {r : Judgement} → Announced bs k → known k ≡ true → Judges (body k) 2 bs r → Judges sirad 0 bs r
framed {bs} {k} a t j = judges (j.answers ∙ sym (judge_body bs (omega (arith, a.there)) a.start k a.kind t))

pub returns-in_default : goal.returns-in_default
returns-in_default c =
    let none = ltb-false 0 (length c.args.bytes.now) (sym c.in_default.ensures.item.0) in
    judges (judge_none _ (omega arith))

pub returns-then-first-ne-START_MARKER : goal.returns-then-first-ne-START_MARKER
returns-then-first-ne-START_MARKER c =
    let there = c.in-Some.ensures.item.3 in
    judges (judge_no_start _ there.0 (λ e. c.if-first-ne-START_MARKER.true (there.1 0 ∙ e)))

pub returns-in_default-get : goal.returns-in_default-get
returns-in_default-get c =
    let there = c.in-Some.ensures.item.3 in
    let one = ltb-false 1 (length c.args.bytes.now) (sym c.in_default-get.ensures.lookup.0) in
    judges (judge_start _ there.0 (sym (there.1 0) ∙ c.if-first-ne-START_MARKER.false) (omega arith))

pub returns-in-Sized : goal.returns-in-Sized
unfolding body
returns-in-Sized c =
    let second = c.in-Some-get.ensures.lookup.3 in
    framed (announced (c.in-Some.ensures.item.3.1 0) c.if-first-ne-START_MARKER.false second.0 (second.1 0) c.kind_of.ensures
    c.in-Sized.is) refl c.data_frame.ensures

pub returns-in-Targets : goal.returns-in-Targets
unfolding body
returns-in-Targets c =
    let second = c.in-Some-get.ensures.lookup.3 in
    framed (announced (c.in-Some.ensures.item.3.1 0) c.if-first-ne-START_MARKER.false second.0 (second.1 0) c.kind_of.ensures
    c.in-Targets.is) refl c.target_list.ensures

pub returns-in-Status : goal.returns-in-Status
unfolding body
returns-in-Status c =
    let second = c.in-Some-get.ensures.lookup.3 in
    framed (announced (c.in-Some.ensures.item.3.1 0) c.if-first-ne-START_MARKER.false second.0 (second.1 0) c.kind_of.ensures
    c.in-Status.is) refl c.status_update.ensures

pub returns-in-Flags : goal.returns-in-Flags
unfolding body
returns-in-Flags c =
    let second = c.in-Some-get.ensures.lookup.3 in
    framed (announced (c.in-Some.ensures.item.3.1 0) c.if-first-ne-START_MARKER.false second.0 (second.1 0) c.kind_of.ensures
    c.in-Flags.is) refl c.error_flags.ensures

pub returns-in-Unknown : goal.returns-in-Unknown
returns-in-Unknown c =
    let second = c.in-Some-get.ensures.lookup.3 in
    let a = announced (c.in-Some.ensures.item.3.1 0) c.if-first-ne-START_MARKER.false second.0 (second.1 0) c.kind_of.ensures
    c.in-Unknown.is in
    judges (judge_unknown c.args.bytes.now (omega (arith, a.there)) a.start a.kind)
