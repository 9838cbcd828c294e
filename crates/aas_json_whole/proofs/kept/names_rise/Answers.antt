use Rattle.std.proofs.Common.{◌≡◌, ◌<◌, length, is_lt, not, true, ap, ap₂, sym, ◌∙◌, arith}
use Rattle.std.specs.Cmp.Lexicographic.{slice_cmp}
use Rattle.std.specs.Ordering.{nat_cmp}
use Rattle.aas_json_whole.specs.KeptData.{name_of}
use Rattle.aas_json_whole.proofs.KeptData.{lt_from_ge, names_next}
use Rattle.aas_json_whole.proofs.kept.names_rise.Goals as goal

pub loop-pair-preserved : goal.loop-pair-preserved
loop-pair-preserved c =
    let before = c.loop-pair.before.now in
    let pair = c.pair-item.result in
    let below : c.loop-pair.pair-index < length c.in-Some.rest.now = omega arith in
    let names = ap₂ (slice_cmp nat_cmp) c.as_str.ensures.bytes c.as_str-in-loop-pair.ensures.bytes in
    let lt : is_lt (slice_cmp nat_cmp (name_of before) (name_of pair)) ≡ true =
    ap is_lt (sym names) ∙ lt_from_ge _ c.ge.result c.ge.ensures ∙ ap not c.if-ge.false in
    sym (names_next before pair c.in-Some.rest.now c.loop-pair.pair-index below c.pair-item.is lt)
    ∙ c.loop-pair.invariant
