use Rattle.std.proofs.Common.{refl, []}
use Rattle.serde_json.specs.View.{members_view}
use Rattle.aas_model_names.specs.declared.kind.Kind.TheVariants as kind
use Rattle.aas_json_table.specs.Canonical.{canonical_member}
use Rattle.aas_json_mapping.specs.Elements.{own_attributes}
use Rattle.aas_json_members.proofs.Objects.{spelled_as}
use Rattle.aas_model.specs.declared.payload.Payload.TheVariants as p
use Rattle.aas_json_read.specs.Own.{own_rows}
use Rattle.aas_json_read.proofs.payload.element_list_in.Goals as goal

pub returns-clause-says : goal.returns-clause-says
returns-clause-says c =
    spelled_as (own_rows kind.SubmodelElementList)
    (own_attributes (p.SubmodelElementList c.flag_member.result c.in_ok-one_member.field-0 c.in-Some.type_value_list_element c.word_member-2.result) [])
    (canonical_member (members_view c.args.members.now.entries)) refl
    (c.flag_member.ensures, (c.in_ok-one_member.ensures, (c.in-Some.ensures, (c.word_member-2.ensures, tt))))
