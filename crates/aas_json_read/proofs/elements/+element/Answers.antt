use Rattle.std.proofs.Common.{◌≡◌, ◌∙◌, ◌≤◌, ◌+◌, IfSome, drop, option_map, ap, sym, subst, arith}
use Rattle.aas_lemmas.proofs.Lists.{drop_at}
use Rattle.serde_json.specs.Data.{object, depth, items_depth}
use Rattle.serde_json.specs.View.{view, items_view, members_view}
use Rattle.serde_json.proofs.Views.{view-Object}
use Rattle.aas_json_table.specs.Table.{MemberType, one, operation_variable}
use Rattle.aas_json_table.specs.Rows.{rows_of}
use Rattle.aas_json_table.specs.Canonical.{canonical, canonical_items, canonical_member, add_item}
use Rattle.aas_model.specs.Payload.{kind_of}
use Rattle.aas_json_read.specs.Own.{sort_under, spell_own}
use Rattle.aas_json_read.specs.Children.{AddsItems}
use Rattle.aas_json_read.proofs.Kids.{item_depth, adds_one, variable_under, variable_sort}
use Rattle.aas_json_read.proofs.KidsRead.{annotations_read, statements_read, members_read, variables_read}
use Rattle.aas_json_read.proofs.Levels.{element_is}
use Rattle.aas_json_read.proofs.elements.+element.Goals as goal

pub items_after-child_of-requires : goal.items_after-child_of-requires
items_after-child_of-requires t c =
    let xs = c.deref-item-items.result.now in
    let low : depth (view c.item-item.result) ≤ items_depth (items_view xs) = item_depth xs c.loop-item.item-index c.item-item.result (omega arith) c.item-item.is in
    let all = ap (λ ys. items_depth (items_view ys)) c.deref-item-items.ensures.value in
    omega (arith, low, all)

pub element_in-returns-clause-says : goal.element_in-returns-clause-says
element_in-returns-clause-says t c =
    element_is (canonical_member (members_view c.args.members.now.entries)) c.args.role c.in_ok-common.common c.in-Some.payload c.in_ok-kids.kids c.args.kind
    (subst (λ o. IfSome o (λ p. kind_of p ≡ c.args.kind)) c.in-Some.is c.in_ok-payload.ensures.kind) c.in_ok-common.ensures c.requires.name
    (ap (option_map spell_own) (sym c.in-Some.is) ∙ c.in_ok-payload.ensures.says) c.in_ok-kids.ensures.says

pub items_after-loop-item-preserved : goal.items_after-loop-item-preserved
items_after-loop-item-preserved t c =
    let f : MemberType = one (sort_under c.args.role) in
    let xs = c.deref-item-items.result.now in
    let i = c.loop-item.item-index in
    let o = c.in_ok-child_of.field-0 in
    let split : canonical_items (items_view (drop i xs)) f ≡ add_item (canonical f (view c.item-item.result)) (canonical_items (items_view (drop (i + 1) xs)) f) =
    ap (λ vs. canonical_items (items_view vs) f) (drop_at xs i c.item-item.result (omega arith) c.item-item.is) in
    subst (λ all. AddsItems c.args.role c.args.before all (canonical_items (items_view (drop (i + 1) xs)) f) (canonical_items (items_view xs) f)) (sym c.in_ok-add_found.ensures)
    (adds_one c.args.role c.args.before c.loop-item.all o (canonical f (view c.item-item.result)) (canonical_items (items_view (drop (i + 1) xs)) f) (canonical_items (items_view xs) f)
    (subst (λ rest. AddsItems c.args.role c.args.before c.loop-item.all rest (canonical_items (items_view xs) f)) split c.loop-item.invariant) c.in_ok-child_of.ensures.says c.in_ok-child_of.ensures.place)

pub child_of-returns-in_ok-variable_in-in-Object-clause-says : goal.child_of-returns-in_ok-variable_in-in-Object-clause-says
unfolding rows_of
child_of-returns-in_ok-variable_in-in-Object-clause-says t c =
    let ms = members_view c.in-Object.members.entries in
    let seen : view c.args.value.now ≡ object ms = ap view c.in-Object.is ∙ view-Object c.in-Object.members in
    variable_under c.args.role c.in_ok-variable_in-in-Object.field-0 (canonical (one (sort_under c.args.role)) (view c.args.value.now)) c.in-Input.is
    (c.in_ok-variable_in-in-Object.ensures.says ∙ ap (canonical (one operation_variable)) (sym seen) ∙ ap (λ s. canonical (one s) (view c.args.value.now)) (variable_sort c.args.role c.in-Input.is))

pub kids_in-returns-in_ok-children_after-in-AnnotatedRelationshipElement : goal.kids_in-returns-in_ok-children_after-in-AnnotatedRelationshipElement
kids_in-returns-in_ok-children_after-in-AnnotatedRelationshipElement t c =
    annotations_read (canonical_member (members_view c.args.members.now.entries)) c.args.kind c.new-none.result
    c.in_ok-children_after-in-AnnotatedRelationshipElement.field-0 c.in-AnnotatedRelationshipElement.is c.new-none.ensures c.in_ok-children_after-in-AnnotatedRelationshipElement.ensures

pub kids_in-returns-in_ok-children_after-in-Entity : goal.kids_in-returns-in_ok-children_after-in-Entity
kids_in-returns-in_ok-children_after-in-Entity t c =
    statements_read (canonical_member (members_view c.args.members.now.entries)) c.args.kind c.new-none.result
    c.in_ok-children_after-in-Entity.field-0 c.in-Entity.is c.new-none.ensures c.in_ok-children_after-in-Entity.ensures

pub kids_in-returns-in_ok-children_after-in-SubmodelElementCollection : goal.kids_in-returns-in_ok-children_after-in-SubmodelElementCollection
kids_in-returns-in_ok-children_after-in-SubmodelElementCollection t c =
    members_read (canonical_member (members_view c.args.members.now.entries)) c.args.kind c.new-none.result
    c.in_ok-children_after-in-SubmodelElementCollection.field-0 c.in-SubmodelElementCollection.is c.new-none.ensures c.in_ok-children_after-in-SubmodelElementCollection.ensures

pub variables_in-returns : goal.variables_in-returns
variables_in-returns t c =
    variables_read (canonical_member (members_view c.args.members.now.entries)) c.new.result c.in_ok-input.input c.in_ok-output.output
    c.in_ok-all.all c.new.ensures c.in_ok-input.ensures c.in_ok-output.ensures c.in_ok-all.ensures
