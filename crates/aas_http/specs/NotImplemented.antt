-- Which requests this profile leaves out.
use Rattle.std.specs.Prelude.{ℕ, Bool, ◌||◌, nat_lt, bytes_eq, List, length, codes}
use Rattle.http1.specs.Fields.{Header, values_named}

-- those with a Transfer-Encoding, and the methods HEAD and CONNECT
unfoldable pub is_not_implemented : List ℕ → List Header → Bool
is_not_implemented method fields =
    nat_lt 0 (length (values_named (codes "transfer-encoding") fields))
    || (bytes_eq method (codes "HEAD") || bytes_eq method (codes "CONNECT"))
