use Rattle.std.proofs.Common.{◌≡◌, ◌∙◌, None, Some, rules}
use Rattle.serde_json.specs.View.{members_view}
use Rattle.aas_json_table.proofs.RowsByName.{rows_by_name}
use Rattle.aas_json_table.proofs.table.class_rows.Goals as goal

pub returns-in_ok-model_type-in-DataElement : goal.returns-in_ok-model_type-in-DataElement
returns-in_ok-model_type-in-DataElement c =
    rw c.in-DataElement.is (c.data_element_rows.ensures ∙ rows_by_name (members_view c.args.members.now.entries) (Some c.in_ok-model_type-in-DataElement.field-0.now) c.in_ok-model_type-in-DataElement.ensures)

pub returns-in_err-model_type-in-DataElement : goal.returns-in_err-model_type-in-DataElement
returns-in_err-model_type-in-DataElement c =
    let nothing : c.from_residual-in_err-model_type-in-DataElement.result ≡ None = search rules in
    rw (c.in-DataElement.is, nothing) (rows_by_name (members_view c.args.members.now.entries) None c.in_err-model_type-in-DataElement.ensures)
