-- References as the trees of their sort.
use Rattle.std.specs.Prelude.{◌≡◌, true}
use Rattle.aas_json_table.specs.Table.{reference}
use Rattle.aas_json_spelling.specs.Spells.{Trees}
use Rattle.aas_model.specs.declared.reference.Reference.{Reference}
use Rattle.aas_reference.specs.Spelling.{spell_reference}
use Rattle.aas_reference.specs.Whole.{is_whole}

abbrev pub references : Trees Reference
references = record { sort = reference; spell = spell_reference; IsWhole = λ left r. is_whole left r ≡ true }
