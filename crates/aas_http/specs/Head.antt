-- The head of a request that this profile admits. HTTP/1.1 (RFC 9112).
use Rattle.std.specs.Prelude.{◌≤◌, ℕ, List, map, length}
use Rattle.httparse.specs.Grammar.{RequestHead, ReadsRequest, print_request}
use Rattle.httparse.specs.Spans.{name_and_value}
use Rattle.http1.specs.Fields.{Header}

-- the most bytes of a head
abbrev pub head_limit : ℕ
head_limit = 16384

-- The bytes are a head of at most 64 fields in 16,384 bytes, and then the rest.
pub record Admits (bytes : List ℕ) (head : RequestHead) (rest : List ℕ) : Type 0 where
  pub reads : ReadsRequest bytes head rest
  pub fields : length head.fields ≤ 64
  pub size : length (print_request head) ≤ head_limit

-- They begin with no such head.
abbrev pub AdmitsNone : List ℕ → Type 0
AdmitsNone bytes = (head : RequestHead) (rest : List ℕ) → ¬ (Admits bytes head rest)

-- the names and values of the fields, without the white space around a value
abbrev pub fields_of : RequestHead → List Header
fields_of head = map name_and_value head.fields
