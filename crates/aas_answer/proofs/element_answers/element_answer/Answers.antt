use Rattle.std.proofs.Common.{◌≡◌, List, Some, Ok, ℕ, inr, sym, ap, ◌∙◌, subst}
use Rattle.std.specs.FinMap as map
use Rattle.aas_store.specs.Edited.{Holds}
use Rattle.aas_store.specs.Spots.{rank_at}
use Rattle.aas_answer.proofs.Ranked.{row_there, row_told}
use Rattle.aas_answer.proofs.Stored.{HasLines, has_lines, low_lines, storable}
use Rattle.aas_answer.proofs.element_answers.element_answer.Goals as goal

pub row_in_memory-requires-clause-low : goal.row_in_memory-requires-clause-low
row_in_memory-requires-clause-low g c =
    let d = g.S.Store.documents c.args.store.now in
    let found = map.get d.submodels c.as_str.result.now in
    low_lines found c.new-rows.result (storable d c.as_str.result.now c.valid_submodels_are_storable.ensures c.requires)
    (has_lines found (g.S.Table.Table.kept c.in-Some.table.now) c.new-rows.result c.in-Some.ensures c.new-rows.ensures)

pub row_in_memory-requires-clause-there : goal.row_in_memory-requires-clause-there
row_in_memory-requires-clause-there g c =
    let found = map.get (g.S.Store.documents c.args.store.now).submodels c.as_str.result.now in
    row_there found c.new-rows.result c.args.path.now.steps c.in_ok-rank.rank
    (has_lines found (g.S.Table.Table.kept c.in-Some.table.now) c.new-rows.result c.in-Some.ensures c.new-rows.ensures)
    (subst (λ (b : List ℕ).
    Holds (g.S.Store.documents c.args.store.now) b (λ s. rank_at s c.args.path.now.steps ≡ Some c.in_ok-rank.rank))
    (sym c.as_str.ensures.bytes) c.in_ok-rank.ensures.ranked)

pub returns : goal.returns
returns g c =
    let d = g.S.Store.documents c.args.store.now in
    let found = map.get d.submodels c.as_str.result.now in
    let has =
    has_lines found (g.S.Table.Table.kept c.in-Some.table.now) c.new-rows.result c.in-Some.ensures c.new-rows.ensures in
    inr
    (ap Ok c.in_ok-row_in_memory.ensures
    ∙ sym (row_told d c.args.id.now c.args.path.now.steps c.in_ok-rank.rank c.new-rows.result c.args.level c.args.extent
    (low_lines found c.new-rows.result
    (storable d c.as_str.result.now c.valid_submodels_are_storable.ensures c.requires) has)
    (subst (λ (b : List ℕ). HasLines (map.get d.submodels b) c.new-rows.result) c.as_str.ensures.bytes has)
    c.in_ok-rank.ensures.ranked))
