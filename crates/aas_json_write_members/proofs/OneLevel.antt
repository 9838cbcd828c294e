-- A reference as the object of its own level.
use Rattle.std.proofs.Common.{◌≡◌, option_map, ap, sym, ◌∙◌}
use Rattle.aas_json_table.specs.Spelled.{spelled}
use Rattle.aas_json_table.specs.Table.{parts, reference}
use Rattle.aas_model.specs.declared.reference.Reference.{Reference, out-Reference}
use Rattle.aas_reference.specs.Spelling.{spell_reference}
use Rattle.aas_reference.proofs.Levels.{attributes_at, made_out, spell_at}

pub spelled_out : (r : Reference)
    → spell_reference r ≡ spelled (parts reference) (attributes_at (out-Reference r).ref_type
    (out-Reference r).keys (option_map spell_reference (out-Reference r).referred))
spelled_out r = let y = out-Reference r in ap spell_reference (sym (made_out r)) ∙ spell_at y.ref_type y.keys y.referred
