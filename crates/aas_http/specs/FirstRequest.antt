-- The first request of some bytes. HTTP/1.1 (RFC 9112), within the limits of this profile.
use Rattle.std.specs.Prelude.{◌≡◌, ◌<◌, ◌⊎◌, ℕ, Bool, ◌||◌, ◌==◌, nat_lt, nat_le, List, take, drop, length, Option}
use Rattle.std.specs.Prelude.{Some, None, true, if◌then◌else◌}
use Rattle.std.specs.List.{list_all}
use Rattle.httparse.specs.Grammar.{RequestHead}
use Rattle.aas_http.specs.BodyLength.{body_limit, body_length}
use Rattle.aas_http.specs.Close.{asks_to_close}
use Rattle.aas_http.specs.Head.{head_limit, Admits, AdmitsNone, fields_of}
use Rattle.aas_http.specs.NotImplemented.{is_not_implemented}

pub record Message : Type 0 where
  pub method : List ℕ
  pub target : List ℕ
  pub body : List ℕ
  -- the request asks to close the connection behind its reply
  pub close : Bool

-- a request and the bytes behind it, or why there is none
pub data FirstRequest : Type 0 where
  Nothing Bad TooLarge NotImplemented : FirstRequest
  Whole : Message → List ℕ → FirstRequest

-- CR or LF
abbrev pub ends_line : ℕ → Bool
ends_line byte = (byte == 13) || (byte == 10)

-- Only CR and LF, and fewer than a head may have.
pub record IsBlank (bytes : List ℕ) : Type 0 where
  pub lines : list_all ends_line bytes ≡ true
  pub short : length bytes < head_limit

abbrev pub message : RequestHead → List ℕ → Message
message head body = record {
  method = head.method;
  target = head.target;
  body = body;
  close = asks_to_close head.minor (fields_of head);
}

-- behind a head with a body of n bytes: the request and the rest, if the body is whole
abbrev pub first_with_body : RequestHead → ℕ → List ℕ → FirstRequest
first_with_body head n rest = if nat_le n (length rest) then Whole (message head (take n rest)) (drop n rest) else Bad

-- by the length of the body
abbrev pub first_by_length : RequestHead → Option ℕ → List ℕ → FirstRequest
first_by_length head None rest = Bad
first_by_length head (Some n) rest =
    if nat_lt body_limit n then TooLarge
    else (if is_not_implemented head.method (fields_of head) then NotImplemented else first_with_body head n rest)

-- by the head and what follows it
abbrev pub first_of_head : RequestHead → List ℕ → FirstRequest
first_of_head head rest = first_by_length head (body_length (fields_of head)) rest

-- What the bytes, which are the whole input, begin with: nothing where they are blank; bad where they begin with no
-- admitted head; else what the head and the bytes behind it say.
unfoldable pub IsFirstRequest : List ℕ → FirstRequest → Type 0
IsFirstRequest bytes first =
    (IsBlank bytes × (first ≡ Nothing))
    ⊎ ((¬ (IsBlank bytes) × AdmitsNone bytes × (first ≡ Bad))
    ⊎ ((head : RequestHead) × (rest : List ℕ) × ¬ (IsBlank bytes)
    × Admits bytes head rest × (first ≡ first_of_head head rest)))
