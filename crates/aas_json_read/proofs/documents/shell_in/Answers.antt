use Rattle.std.proofs.Common.{◌≡◌, ◌∙◌, ◌++◌, Some, None, MatchOption, codes, option_map, ap, refl, sym, subst, rules, IsTrue}
use Rattle.serde_json.specs.Data.{string}
use Rattle.serde_json.specs.View.{members_view}
use Rattle.aas_json_table.specs.Canonical.{canonical_member}
use Rattle.aas_json_table.specs.Table.{shell, required, text, one, asset_information}
use Rattle.aas_json_read.specs.Found.{FindsHead}
use Rattle.aas_json_read.proofs.DocumentLevels.{document_is, document_lacks, no_document}
use Rattle.aas_json_read.proofs.documents.shell_in.Goals as goal
use Rattle.aas_json_mapping.specs.Documents.{typed, head_attributes, shell_attributes}
use Rattle.aas_json_mapping.specs.Parts.{spell_asset_information}

pub returns-then-not-has_model_type : goal.returns-then-not-has_model_type
returns-then-not-has_model_type c =
    no_document shell (codes "AssetAdministrationShell") _ refl (members_view c.args.members.now.entries) (λ e. let is : IsTrue c.has_model_type.result = c.has_model_type.ensures.1 e in search rules)

pub returns-in_default : goal.returns-in_default
returns-in_default c =
    let ms = members_view c.args.members.now.entries in
    document_lacks shell (codes "AssetAdministrationShell") _ refl ms (c.has_model_type.ensures.0 (search rules)) (required (codes "id") text) refl refl
    (subst (λ o. MatchOption o (canonical_member ms (codes "id") text ≡ None) (FindsHead (canonical_member ms))) c.in_default.is c.in_ok-head.ensures)

pub returns-in_default-2 : goal.returns-in_default-2
returns-in_default-2 c =
    let ms = members_view c.args.members.now.entries in
    document_lacks shell (codes "AssetAdministrationShell") _ refl ms (c.has_model_type.ensures.0 (search rules)) (required (codes "assetInformation") (one asset_information)) refl refl
    (sym (ap (option_map spell_asset_information) (sym c.in_default-2.is) ∙ c.in_ok-asset.ensures))

pub returns : goal.returns
returns c =
    let ms = members_view c.args.members.now.entries in
    let named : canonical_member ms (codes "modelType") text ≡ Some (string (codes "AssetAdministrationShell")) = c.has_model_type.ensures.0 (search rules) in
    let h = subst (λ o. MatchOption o (canonical_member ms (codes "id") text ≡ None) (FindsHead (canonical_member ms))) c.in-Some.is c.in_ok-head.ensures in
    document_is shell (codes "AssetAdministrationShell") _ refl ms named
    (typed (codes "AssetAdministrationShell") (head_attributes c.in-Some.head ++ shell_attributes (record { head = c.in-Some.head; asset = c.in-Some-2.asset; derived_from = c.in_ok-one_member.field-0; submodels = c.in_ok-list_member.field-0 })))
    (record { agree = (h.category, (h.description, (h.display_name, (h.extensions, (h.id_short, (sym named, (h.specifications, (h.id, (h.administration, (ap (option_map spell_asset_information) (sym c.in-Some-2.is) ∙ c.in_ok-asset.ensures, (c.in_ok-one_member.ensures, (c.in_ok-list_member.ensures, tt)))))))))))); there = refl })
