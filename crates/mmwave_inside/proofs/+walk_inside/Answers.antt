-- The first record, and then the remaining ones right behind it, one fewer; all of them lie within the bytes.
use Rattle.std.proofs.Common.{◌≡◌, ℕ, zero, suc, ◌+◌, ◌*◌, ◌≤◌, refl, arith}
use Rattle.mmwave.specs.Dialects.{profile_of}
use Rattle.mmwave.proofs.Within.{FirstRead, TypeRead, settled_none, settled_repeat, settled_more, settled_refused}
use Rattle.mmwave.proofs.Within.{length_within, same_end}
use Rattle.mmwave_inside.proofs.+walk_inside.Goals.{Then-length_ok}
use Rattle.mmwave_inside.proofs.+walk_inside.Goals as goal

-- a record that is left has its eight bytes
first_there : (k at room n : ℕ) → (k ≡ 0 → ⊥) → at + 8 * k + room ≤ n → at + 8 ≤ n
first_there zero at room n s h = absurd (s refl)
first_there (suc k) at room n s h = omega arith

-- what is known of a first record whose payload length passes
first_read : (t : ℕ) (c : Then-length_ok t) →
    FirstRead (profile_of c.args.d) c.args.objects c.args.seen c.args.k c.args.room c.args.at c.args.s.now.now
    c.field-tag.result c.mark_of-mark.result c.rule_of-rule.result c.field-m.result c.length_ok.result
first_read t c =
    record {
      type_read = record { some = c.if-k-eq0.false; type_is = c.field-tag.ensures; mark_is = c.mark_of-mark.ensures };
      unseen = c.if-seen-mark-ne0.false;
      rule_is = c.rule_of-rule.ensures;
      length_is = c.field-m.ensures;
      test_is = c.length_ok.ensures;
    }

pub returns-then-k-eq0 : goal.returns-then-k-eq0
returns-then-k-eq0 t c =
    let a = c.args in
    settled_none (profile_of a.d) a.objects a.seen a.k a.room a.at a.s.now.now c.if-k-eq0.true c.requires.0

pub returns-then-seen-mark-ne0 : goal.returns-then-seen-mark-ne0
returns-then-seen-mark-ne0 t c =
    let there = first_there _ _ _ _ c.if-k-eq0.false c.requires.0 in
    let a = c.args in
    let read : TypeRead (profile_of a.d) a.k a.at a.s.now.now c.field-tag.result c.mark_of-mark.result =
    record { some = c.if-k-eq0.false; type_is = c.field-tag.ensures; mark_is = c.mark_of-mark.ensures } in
    settled_repeat _ _ _ _ read c.if-seen-mark-ne0.true (omega arith)

pub overflow_sub-room : goal.overflow_sub-room
overflow_sub-room t c = length_within _ (first_read t c) c.if-length_ok.true

pub walk_inside-requires : goal.walk_inside-requires
walk_inside-requires t c =
    let same = same_end _ (first_read t c) c.if-length_ok.true in (
      omega (arith, c.decreases, c.if-k-eq0.false),
      (omega (arith, same, c.requires.0), omega (arith, same, c.requires.1)),
    )

pub returns-then-length_ok : goal.returns-then-length_ok
returns-then-length_ok t c = settled_more _ (first_read t c.before) c.if-length_ok.true c.requires.0 _ c.walk_inside.ensures

pub returns : goal.returns
returns t c =
    let a = c.args in
    let read : FirstRead (profile_of a.d) a.objects a.seen a.k a.room a.at a.s.now.now
    c.field-tag.result c.mark_of-mark.result c.rule_of-rule.result c.field-m.result c.length_ok.result =
    record {
      type_read = record { some = c.if-k-eq0.false; type_is = c.field-tag.ensures; mark_is = c.mark_of-mark.ensures };
      unseen = c.if-seen-mark-ne0.false;
      rule_is = c.rule_of-rule.ensures;
      length_is = c.field-m.ensures;
      test_is = c.length_ok.ensures;
    } in
    settled_refused _ read c.if-length_ok.false c.refusal_of.ensures (first_there _ _ _ _ c.if-k-eq0.false c.requires.0)
