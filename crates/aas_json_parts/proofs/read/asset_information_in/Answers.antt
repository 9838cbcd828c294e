use Rattle.std.proofs.Common.{refl, sym, ap, ◌∙◌, option_map}
use Rattle.serde_json.specs.Data.{string}
use Rattle.serde_json.specs.View.{members_view}
use Rattle.aas_model_names.specs.AssetKindNames.{name_of}
use Rattle.aas_json_table.specs.Canonical.{canonical_member}
use Rattle.aas_json_table.specs.Table.{asset_information, parts}
use Rattle.aas_json_mapping.specs.Parts.{asset_information_attributes}
use Rattle.aas_json_members.proofs.Objects.{spelled_as}
use Rattle.aas_json_parts.proofs.read.asset_information_in.Goals as goal

pub returns : goal.returns
returns c =
    let global = c.in_ok-global_asset_id.global_asset_id in
    let specific = c.in_ok-specific_asset_ids.specific_asset_ids in
    let type = c.in_ok-asset_type.asset_type in
    let thumbnail = c.in_ok-default_thumbnail.default_thumbnail in
    spelled_as (parts asset_information)
    (asset_information_attributes record { asset_kind = c.in-Some.asset_kind; global_asset_id = global; specific_asset_ids = specific; asset_type = type; default_thumbnail = thumbnail })
    (canonical_member (members_view c.args.members.now.entries)) refl (
      ap (option_map (λ v. string (name_of v))) (sym c.in-Some.is) ∙ c.word_member.ensures,
      (
        c.in_ok-asset_type.ensures,
        (
          c.in_ok-default_thumbnail.ensures,
          (
            c.in_ok-global_asset_id.ensures,
            (c.in_ok-specific_asset_ids.ensures, tt),
          ),
        ),
      ),
    )
