-- What an array stands for.
use Rattle.std.specs.Prelude.{List, map}
use Rattle.serde_json.specs.Data.{Data}
use Rattle.serde_json.specs.View.{view}
use Rattle.aas_json_members.specs.declared.array.Array.{Array}

abbrev pub items_of : Array → List Data
items_of a = map view a.values.items
