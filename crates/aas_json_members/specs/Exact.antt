-- What an exact value stands for.
use Rattle.serde_json.specs.Data.{Data}
use Rattle.serde_json.specs.View.{view}
use Rattle.aas_json_members.specs.declared.exact.Exact.{Exact}

abbrev pub data_of : Exact → Data
data_of exact = view exact.value
