use Rattle.std.proofs.Common.{◌++◌, ap, sym, ◌∙◌}
use Rattle.serde_json.specs.Written.{comma_if}
use Rattle.aas_json_write_members.proofs.Keys.{behind_comma, key_parts, named}
use Rattle.aas_json_write_members.proofs.pen.text_of_key.Goals as goal

pub returns-then-later : goal.returns-then-later
returns-then-later c =
    key_parts c.args.key.now c.requires ∙ ap (λ later. comma_if later ++ named c.args.key.now) (sym c.if-later.true)

pub returns-else-later : goal.returns-else-later
returns-else-later c =
    c.range_from.ensures.value ∙ behind_comma c.args.key.now c.requires
    ∙ ap (λ later. comma_if later ++ named c.args.key.now) (sym c.if-later.false)
