use Rattle.std.proofs.Common.{◌≡◌, List, Some, IfSome, option_map, ap, sym, ◌∙◌, subst}
use Rattle.serde_json.specs.View.{members_view}
use Rattle.aas_model_names.specs.KindNames.{name_of}
use Rattle.aas_json_table.specs.Canonical.{canonical_member, canonical_object}
use Rattle.aas_json_table.specs.Rows.{sorted}
use Rattle.aas_json_table.specs.Table.{shown}
use Rattle.aas_json_mapping.specs.Elements.{rows_for, spell_element}
use Rattle.aas_json_mapping.specs.Metadata.{IsMetadata}
use Rattle.aas_json_mapping.proofs.Elements.{made}
use Rattle.aas_json_mapping.proofs.MetadataFound.{made_is_form}
use Rattle.aas_model.specs.declared.element.Element.{Element}
use Rattle.aas_model.specs.declared.element.Role.TheVariants as role
use Rattle.aas_json_read.specs.Shown.{IsShown, spell_shown}
use Rattle.aas_json_read.proofs.Forms.{form_is, no_form}
use Rattle.aas_json_read.proofs.metadata.form_in.Goals as goal

pub returns-clause-says : goal.returns-clause-says
returns-clause-says c =
    let find = canonical_member (members_view c.args.members.now.entries) in
    let shown_own = subst (λ o. IfSome o (IsShown c.args.kind)) c.in-Some.is c.in_ok-payload.ensures.shown in
    subst (λ (ks : List Element). Some (spell_element (made role.Member c.in_ok-common.common c.in-Some.payload ks)) ≡ canonical_object (Some (shown (sorted (rows_for (name_of c.args.kind))))) find) (sym c.new.ensures)
    (form_is find c.in_ok-common.common c.in-Some.payload c.args.kind shown_own.kind shown_own.bare c.in_ok-common.ensures c.requires
    (ap (option_map spell_shown) (sym c.in-Some.is) ∙ c.in_ok-payload.ensures.says))

pub returns-clause-shape : goal.returns-clause-shape
returns-clause-shape c =
    let shown_own = subst (λ o. IfSome o (IsShown c.args.kind)) c.in-Some.is c.in_ok-payload.ensures.shown in
    subst (λ (ks : List Element). IsMetadata (made role.Member c.in_ok-common.common c.in-Some.payload ks)) (sym c.new.ensures) (made_is_form c.in_ok-common.common c.in-Some.payload shown_own.bare)

pub returns-in_default-clause-says : goal.returns-in_default-clause-says
returns-in_default-clause-says c =
    no_form (canonical_member (members_view c.args.members.now.entries)) c.args.kind c.requires (ap (option_map spell_shown) (sym c.in_default.is) ∙ c.in_ok-payload.ensures.says)
