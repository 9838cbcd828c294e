use Rattle.std.proofs.Common.{◌≡◌, Some, ap, sym, ◌∙◌}
use Rattle.serde_json.specs.Data.{object}
use Rattle.serde_json.specs.View.{view, members_view}
use Rattle.serde_json.proofs.Views.{view-Object}
use Rattle.aas_json_table.specs.Table.{plain}
use Rattle.aas_json_table.specs.Canonical.{canonical, canonical_all}
use Rattle.aas_json_members.proofs.Pairs.{spell_map}
use Rattle.aas_json_members.proofs.kept.+plain.Goals as goal

pub plain_of-returns-in_ok-pairs_in-in-Object : goal.plain_of-returns-in_ok-pairs_in-in-Object
plain_of-returns-in_ok-pairs_in-in-Object t c =
    let pairs = c.in_ok-pairs_in-in-Object in
    let said : canonical plain (view c.args.value.now) ≡ Some (object (canonical_all (members_view c.in-Object.members.entries))) =
    ap (λ v. canonical plain (view v)) c.in-Object.is ∙ ap (canonical plain) (view-Object c.in-Object.members) in
    ap Some (spell_map pairs.field-0 ∙ ap object pairs.ensures) ∙ sym said
