use Rattle.std.proofs.Common.{arith, ◌≡◌, List, [], ◌∷◌, ◌==◌, length, not, Some, refl}
use Rattle.serde_json.specs.Data.{array}
use Rattle.serde_json.specs.View.{items_view}
use Rattle.serde_json.specs.declared.value.Value.{Value}
use Rattle.aas_json_table.specs.Rows.{is_there}

-- an array is there where it has items
pub is_there_list : (vs : List Value) → is_there (Some (array (items_view vs))) ≡ not (length vs == 0)
is_there_list [] = refl
is_there_list (v ∷ vs) = grind arith
