-- Trees of which the spelling is known, and that children stand where they may, but not yet that they are whole.
use Rattle.serde_json.specs.Data.{Data}
use Rattle.aas_json_table.specs.Table.{Sort}
use Rattle.aas_json_spelling.specs.Spells.{Trees}

-- all trees of a sort that have a shape
abbrev pub shaped : {A : Type 0} → Sort → (A → Data) → (A → Type 0) → Trees A
shaped sort spell IsShaped = record { sort = sort; spell = spell; IsWhole = λ levels t. IsShaped t }
