-- What a `Value` stands for has UTF-8 strings and names, and is a JSON value where it was read.
use Rattle.std.proofs.Common.{◌≡◌, ℕ, List, [], ◌∷◌, map, String, Global, Some, sym, subst}
use Rattle.std.proofs.lemmas.Str.{IsUtf8-string_bytes}
use Rattle.serde_json.specs.Data.{Data}
use Rattle.serde_json.specs.View.{view, view_step, items_of, members_of}
use Rattle.serde_json.specs.declared.value.Value.{Value, roll-Value, fold-roll-Value, ind-Value, map-Value}
use Rattle.serde_json.specs.declared.value.Value.TheOpen.{Value-F}
use Rattle.aas_json_spelling.specs.Values.{IsText, AreTexts, HasTexts, IsValue}
use Rattle.aas_json_spelling.specs.Reading.{reading}
use Rattle.aas_json_spelling.proofs.Reading.{reading_ordered}

abbrev HasText : Value → Type 0
HasText v = IsText (view v)

items_text : (vs : List ((v : Value) × HasText v)) → AreTexts (items_of (map view (map (λ e. e.0) vs)))
items_text [] = tt
items_text (v ∷ vs) = (v.1, items_text vs)

members_text : (ms : List (String Global × ((v : Value) × HasText v))) → HasTexts (members_of (map (λ (m : String Global × Value). (m.0, view m.1)) (map (λ (m : String Global × ((v : Value) × HasText v)). (m.0, m.1.0)) ms)))
members_text [] = tt
members_text (m ∷ ms) = (IsUtf8-string_bytes m.0, m.1.1, members_text ms)

level : (y : Value-F ((v : Value) × HasText v)) → IsText (view_step (map-Value Value Data view (map-Value ((v : Value) × HasText v) Value (λ e. e.0) y)))
level Value-F.Null = tt
level (Value-F.Bool b) = tt
level (Value-F.Number n) = tt
level (Value-F.String s) = IsUtf8-string_bytes s
level (Value-F.Array v) = items_text v.items
level (Value-F.Object m) = members_text m.entries

-- What a value stands for has UTF-8 strings and names.
pub view_text : (v : Value) → IsText (view v)
view_text = ind-Value HasText (λ x y is.
    subst (λ z. HasText (roll-Value z)) is (subst IsText (sym (fold-roll-Value Data view_step (map-Value ((v : Value) × HasText v) Value (λ e. e.0) y))) (level y)))

-- What was read is a JSON value.
pub value_read : (bytes : List ℕ) (v : Value) → reading bytes ≡ Some (view v) → IsValue (view v)
value_read bytes v is = record { text = view_text v; order = reading_ordered bytes (view v) is }
