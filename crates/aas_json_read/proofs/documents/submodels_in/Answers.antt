use Rattle.std.proofs.Common.{◌≡◌, ◌∙◌, ◌+◌, drop, map, ap, sym, subst, arith}
use Rattle.aas_lemmas.proofs.Lists.{drop_at}
use Rattle.serde_json.specs.View.{view, items_view}
use Rattle.aas_json_table.specs.Table.{MemberType, one, submodel}
use Rattle.aas_json_table.specs.Canonical.{canonical, canonical_items, add_item}
use Rattle.aas_json_table.specs.Spelled.{onto}
use Rattle.aas_json_spelling.specs.Lists.{Each}
use Rattle.aas_json_mapping.specs.Documents.{spell_submodel}
use Rattle.aas_json_mapping.specs.Shape.{IsShapedSubmodel}
use Rattle.aas_json_read.proofs.Kids.{one_more, each_more}
use Rattle.aas_json_read.proofs.documents.submodels_in.Goals as goal

pub loop-item-preserved : goal.loop-item-preserved
loop-item-preserved c =
    let f : MemberType = one submodel in
    let xs = c.deref-item-items.result.now in
    let i = c.loop-item.item-index in
    let o = c.in_ok-submodel_of.field-0 in
    let rest = canonical_items (items_view (drop (i + 1) xs)) f in
    let split : canonical_items (items_view (drop i xs)) f ≡ add_item (canonical f (view c.item-item.result)) rest =
    ap (λ vs. canonical_items (items_view vs) f) (drop_at xs i c.item-item.result (omega arith) c.item-item.is) in
    record {
      says =
          ap (λ all. onto (map spell_submodel all) rest) c.in_ok-add_found.ensures ∙ one_more spell_submodel c.loop-item.found o (canonical f (view c.item-item.result)) rest c.in_ok-submodel_of.ensures.says
          ∙ ap (onto (map spell_submodel c.loop-item.found)) (sym split) ∙ c.loop-item.invariant.says;
      shape = subst (Each IsShapedSubmodel) (sym c.in_ok-add_found.ensures) (each_more IsShapedSubmodel c.loop-item.found o c.loop-item.invariant.shape c.in_ok-submodel_of.ensures.shape);
    }
