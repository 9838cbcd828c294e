-- How long the body of a request is, by its Content-Length.
-- HTTP/1.1 (RFC 9112, section 6), within the limits of this profile.
use Rattle.std.specs.Prelude.{ℕ, Bool, ◌&&◌, nat_lt, nat_le, List, [], ◌∷◌, length, Option, Some, None}
use Rattle.std.specs.Prelude.{codes, if◌then◌else◌}
use Rattle.std.specs.List.{list_all}
use Rattle.std.specs.Char.{is_ascii_digit}
use Rattle.std.specs.Str.Parse.{digits_value}
use Rattle.http1.specs.Fields.{Header, values_named}

-- the most bytes of a body
abbrev pub body_limit : ℕ
body_limit = 4194304

-- 1 to 19 digits
abbrev pub is_length : List ℕ → Bool
is_length value = nat_lt 0 (length value) && (nat_le (length value) 19 && list_all is_ascii_digit value)

unfoldable pub length_value : List ℕ → Option ℕ
length_value value = if is_length value then Some (digits_value 10 value) else None

abbrev pub length_of_values : List (List ℕ) → Option ℕ
length_of_values [] = Some 0
length_of_values (value ∷ []) = length_value value
length_of_values (value ∷ second ∷ more) = None

-- how many bytes of body there are: 0 where no field says so, none where a field says it again or not in 1 to 19 digits
unfoldable pub body_length : List Header → Option ℕ
body_length fields = length_of_values (values_named (codes "content-length") fields)
