use Rattle.std.proofs.Common.{refl, sym, ap, ◌∙◌, [], Some, option_map}
use Rattle.serde_json.specs.View.{members_view}
use Rattle.aas_model_names.specs.declared.kind.Kind.TheVariants as kind
use Rattle.aas_json_table.specs.Canonical.{canonical_member}
use Rattle.aas_reference.specs.Spelling.{spell_reference}
use Rattle.aas_json_mapping.specs.Elements.{own_attributes}
use Rattle.aas_json_members.proofs.Objects.{spelled_as}
use Rattle.aas_model.specs.declared.payload.Payload.TheVariants as p
use Rattle.aas_json_read.specs.Own.{own_rows}
use Rattle.aas_json_read.proofs.payload.event_in.Goals as goal

pub returns-clause-says : goal.returns-clause-says
returns-clause-says c =
    spelled_as (own_rows kind.BasicEventElement)
    (own_attributes (p.BasicEventElement (Some c.in-Some-2.observed) c.in-Some.direction c.in-Some-word_member.state c.in_ok-string_member.field-0 c.in_ok-one_member.field-0 c.in_ok-string_member-2.field-0 c.in_ok-string_member-3.field-0 c.in_ok-string_member-4.field-0) [])
    (canonical_member (members_view c.args.members.now.entries)) refl (
      c.in-Some.ensures,
      (
        c.in_ok-string_member-2.ensures,
        (
          c.in_ok-string_member-4.ensures,
          (
            c.in_ok-one_member.ensures,
            (
              c.in_ok-string_member.ensures,
              (
                c.in_ok-string_member-3.ensures,
                (
                  ap (option_map spell_reference) (sym c.in-Some-2.is) ∙ c.in_ok-observed.ensures,
                  (c.in-Some-word_member.ensures, tt),
                ),
              ),
            ),
          ),
        ),
      ),
    )
