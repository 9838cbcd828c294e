-- The rows of a data element, by the modelType that is found.
use Rattle.std.proofs.Common.{◌≡◌, ℕ, List, codes, ap, Option, option_map, option_and_then}
use Rattle.serde_json.specs.Data.{Members}
use Rattle.serde_json.specs.Find.{get_member, as_str}
use Rattle.aas_json_table.specs.Table.{model_types, data_element}
use Rattle.aas_json_table.specs.Rows.{find, sorted, rows_of}

pub rows_by_name : (ms : Members) (name : Option (List ℕ)) → name ≡ option_and_then as_str (get_member (codes "modelType") ms)
    → option_map sorted (option_and_then (λ n. find n (model_types data_element)) name) ≡ rows_of data_element ms
unfolding rows_of
rows_by_name ms name is = ap (λ o. option_map sorted (option_and_then (λ n. find n (model_types data_element)) o)) is
