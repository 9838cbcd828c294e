use Rattle.std.proofs.Common.{refl, sym, ap, ◌∙◌, option_map}
use Rattle.serde_json.specs.View.{members_view}
use Rattle.aas_json_table.specs.Canonical.{canonical_member}
use Rattle.aas_json_table.specs.Spelled.{text_of}
use Rattle.aas_json_table.specs.Table.{specific_asset_id, parts}
use Rattle.aas_json_mapping.specs.Parts.{specific_asset_id_attributes}
use Rattle.aas_json_members.proofs.Objects.{spelled_as}
use Rattle.aas_json_parts.proofs.read.specific_asset_id_in.Goals as goal

pub returns : goal.returns
returns c =
    let external = c.in_ok-external_subject_id.external_subject_id in
    let semantics = c.in_ok-semantics.semantics in
    spelled_as (parts specific_asset_id)
    (specific_asset_id_attributes record { name = c.in-Some.name; value = c.in-Some-2.value; external_subject_id = external; semantics = semantics })
    (canonical_member (members_view c.args.members.now.entries)) refl (
      c.in_ok-external_subject_id.ensures,
      (
        ap (option_map text_of) (sym c.in-Some.is) ∙ c.in_ok-name.ensures,
        (
          c.in_ok-semantics.ensures.semantic_id,
          (
            c.in_ok-semantics.ensures.supplemental,
            (ap (option_map text_of) (sym c.in-Some-2.is) ∙ c.in_ok-value.ensures, tt),
          ),
        ),
      ),
    )
