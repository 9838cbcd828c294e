use Rattle.std.proofs.Common.{refl, sym, ap, ◌∙◌, option_map}
use Rattle.serde_json.specs.View.{members_view}
use Rattle.aas_json_table.specs.Canonical.{canonical_member}
use Rattle.aas_json_table.specs.Spelled.{text_of}
use Rattle.aas_json_table.specs.Table.{lang_text, parts}
use Rattle.aas_json_mapping.specs.Parts.{lang_text_attributes}
use Rattle.aas_json_members.proofs.Objects.{spelled_as}
use Rattle.aas_json_parts.proofs.read.lang_text_in.Goals as goal

pub returns : goal.returns
returns c =
    spelled_as (parts lang_text) (lang_text_attributes record { language = c.in-Some.language; text = c.in-Some-2.text }) (canonical_member (members_view c.args.members.now.entries)) refl (
      ap (option_map text_of) (sym c.in-Some.is) ∙ c.in_ok-language.ensures,
      (ap (option_map text_of) (sym c.in-Some-2.is) ∙ c.in_ok-text.ensures, tt),
    )
