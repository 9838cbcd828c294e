use Rattle.std.proofs.Common.{◌≡◌, ◌∙◌, Some, None, ap, sym}
use Rattle.serde_json.specs.Data.{object}
use Rattle.serde_json.specs.View.{view, members_view}
use Rattle.serde_json.proofs.Views.{view-Object}
use Rattle.aas_model_names.specs.KindNames.{name_of}
use Rattle.aas_json_table.specs.Canonical.{canonical}
use Rattle.aas_json_table.specs.Rows.{sorted}
use Rattle.aas_json_table.specs.Table.{one, element_metadata}
use Rattle.aas_json_mapping.specs.Elements.{rows_for}
use Rattle.aas_json_read.proofs.Forms.{says_form}
use Rattle.aas_json_read.proofs.metadata.form_of.Goals as goal

pub returns-in_ok-form_in-in-Some-clause-says : goal.returns-in_ok-form_in-in-Some-clause-says
returns-in_ok-form_in-in-Some-clause-says c =
    let ms = members_view c.in-Object.members.entries in
    let seen : view c.args.value.now ≡ object ms = ap view c.in-Object.is ∙ view-Object c.in-Object.members in
    c.in_ok-form_in-in-Some.ensures.says ∙ says_form ms (Some (sorted (rows_for (name_of c.in-Some.kind)))) c.in-Some.ensures.rows ∙ ap (canonical (one element_metadata)) (sym seen)

pub returns-in-None-clause-says : goal.returns-in-None-clause-says
returns-in-None-clause-says c =
    let ms = members_view c.in-Object.members.entries in
    let seen : view c.args.value.now ≡ object ms = ap view c.in-Object.is ∙ view-Object c.in-Object.members in
    says_form ms None c.in-None.ensures.rows ∙ ap (canonical (one element_metadata)) (sym seen)
