-- When a request asks to close the connection behind its reply. HTTP/1.1 (RFC 9112, section 9).
use Rattle.std.specs.Prelude.{ℕ, Bool, ◌||◌, ◌==◌, List, codes}
use Rattle.http1.specs.Fields.{Header, elements_named, has_option}

-- where it is HTTP/1.0, or one of the elements of its Connection fields is `close`, in any case
unfoldable pub asks_to_close : ℕ → List Header → Bool
asks_to_close minor fields = (minor == 0) || has_option (codes "close") (elements_named (codes "connection") fields)
