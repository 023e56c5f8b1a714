-- The numbers at the header's offsets, tested in byte order.
use Rattle.std.proofs.Common.{sym, ◌∙◌}
use Rattle.mmwave.specs.Dialects.{profile_of}
use Rattle.mmwave.proofs.RecordLaws.{count_room}
use Rattle.mmwave.proofs.Within.{no_magic, header_total, header_objects, header_count, header_subframe, header_passed}
use Rattle.mmwave_judge.proofs.judge_header.Goals as goal

pub behind_header-requires : goal.behind_header-requires
behind_header-requires c = count_room _ _ _ (sym c.count_ok.ensures ∙ c.if-count_ok.true)

pub returns-then-subframe_ok : goal.returns-then-subframe_ok
returns-then-subframe_ok c =
    let bs = c.args.s.now in
    c.behind_header.ensures
    ∙ header_passed (profile_of c.args.d) bs c.requires (c.has_magic.ensures.0 c.if-has_magic.true)
    c.number-l.ensures c.total_ok.ensures c.if-total_ok.true
    c.number-objects.ensures c.objects_ok.ensures c.if-objects_ok.true
    c.number-k.ensures c.count_ok.ensures c.if-count_ok.true
    c.number.ensures c.subframe_ok.ensures c.if-subframe_ok.true

pub returns-then-count_ok : goal.returns-then-count_ok
returns-then-count_ok c =
    let bs = c.args.s.now in
    header_subframe (profile_of c.args.d) bs c.requires (c.has_magic.ensures.0 c.if-has_magic.true)
    c.number-l.ensures c.total_ok.ensures c.if-total_ok.true
    c.number-objects.ensures c.objects_ok.ensures c.if-objects_ok.true
    c.number-k.ensures c.count_ok.ensures c.if-count_ok.true
    c.number.ensures c.subframe_ok.ensures c.if-subframe_ok.false

pub returns-then-objects_ok : goal.returns-then-objects_ok
returns-then-objects_ok c =
    let bs = c.args.s.now in
    header_count (profile_of c.args.d) bs c.requires (c.has_magic.ensures.0 c.if-has_magic.true)
    c.number-l.ensures c.total_ok.ensures c.if-total_ok.true
    c.number-objects.ensures c.objects_ok.ensures c.if-objects_ok.true
    c.number-k.ensures c.count_ok.ensures c.if-count_ok.false

pub returns-then-total_ok : goal.returns-then-total_ok
returns-then-total_ok c =
    let bs = c.args.s.now in
    header_objects (profile_of c.args.d) bs c.requires (c.has_magic.ensures.0 c.if-has_magic.true)
    c.number-l.ensures c.total_ok.ensures c.if-total_ok.true
    c.number-objects.ensures c.objects_ok.ensures c.if-objects_ok.false

pub returns-then-has_magic : goal.returns-then-has_magic
returns-then-has_magic c =
    let bs = c.args.s.now in
    header_total (profile_of c.args.d) bs c.requires (c.has_magic.ensures.0 c.if-has_magic.true)
    c.number-l.ensures c.total_ok.ensures c.if-total_ok.false

pub returns : goal.returns
returns c = no_magic (profile_of c.args.d) c.args.s.now c.requires (c.has_magic.ensures.1 c.if-has_magic.false)
