use Rattle.std.proofs.Common.{ℕ, List, get_or, slice_set, arith, ap, ◌∙◌}
use Rattle.std.proofs.lemmas.List.{get_or_default}
use Rattle.std.proofs.lemmas.List.Edits.{map_over_more}
use Rattle.aas_sheet_index.specs.Moving.{moved}
use Rattle.aas_sheet_index.proofs.moving.move_all.Goals as goal

pub loop-i-preserved : goal.loop-i-preserved
loop-i-preserved c =
    let l = c.loop-i in
    let xs : List ℕ = c.args.ranks.now in
    let x : ℕ = get_or l.ranks l.i 0 in
    let long = c.loop-i.auto.ranks in
    let inside = c.loop-i-test.true in
    ap (slice_set l.ranks l.i) c.moved_rank.ensures
    ∙ map_over_more (moved c.args.first c.args.end c.args.count c.args.total) xs l.ranks l.i x
    (omega arith) l.invariant (get_or_default l.ranks l.i 0 x (omega arith))
