use Rattle.std.proofs.Common.{List, ℕ, Err, inr, ap, ◌∙◌}
use Rattle.std.specs.FinMap as map
use Rattle.std.specs.Option.{option_map_or}
use Rattle.aas_command.specs.declared.refusal.Absent.TheVariants as absent
use Rattle.aas_command.specs.declared.refusal.Refusal.TheVariants.{NotFound}
use Rattle.aas_answer.proofs.Children.{children_told}
use Rattle.aas_answer.proofs.Stored.{has_lines, low_lines, storable}
use Rattle.aas_answer.proofs.place_pages.children_answer.Goals as goal
use Rattle.aas_answer.specs.Answers.{places_page}
use Rattle.aas_answer.specs.Listed.{child_text}

pub children_page-requires : goal.children_page-requires
children_page-requires g c =
    let d = g.S.Store.documents c.args.store.now in
    let id = c.as_str.result.now in
    let found = map.get d.submodels id in
    low_lines found c.new-rows.result (storable d id c.valid_submodels_are_storable.ensures c.requires)
    (has_lines found (g.S.Table.Table.kept c.in-Some.table.now) c.new-rows.result c.in-Some.ensures c.new-rows.ensures)

pub returns : goal.returns
returns g c =
    let m = (g.S.Store.documents c.args.store.now).submodels in
    let found = map.get m c.as_str.result.now in
    let none = Err (NotFound absent.Submodel) in
    let there = c.in-Some in
    inr
    (children_told c.args.form c.head.result.now
    (g.S.Table.Table.kept there.table.now) c.args.span c.in_ok-children_page.field-0 none found
    c.new-rows.result c.child_count.result there.ensures c.head.ensures
    c.child_count.ensures c.new-rows.ensures c.in_ok-children_page.ensures
    ∙ ap (λ (id : List ℕ).
    option_map_or (λ s. places_page (child_text c.args.form s) c.args.span s.kids) (map.get m id) none)
    c.as_str.ensures.bytes)
