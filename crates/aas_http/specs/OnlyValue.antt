-- What is found of the values of the fields of one name.
use Rattle.std.specs.Prelude.{◌≡◌, ◌<◌, ℕ, List, [], ◌∷◌, length, Option, Some, None}
use Rattle.http1.specs.declared.fields.ContentLength.{ContentLength}
use Rattle.http1.specs.declared.fields.ContentLength.TheVariants as Length
use Rattle.aas_http.specs.declared.fields.OnlyValue.{OnlyValue}
use Rattle.aas_http.specs.declared.fields.OnlyValue.TheVariants.{Absent, One, Several}

abbrev pub IsOnlyValue : OnlyValue → List (List ℕ) → Type 0
IsOnlyValue Absent values = values ≡ []
IsOnlyValue (One value) values = values ≡ value.now ∷ []
IsOnlyValue Several values = 1 < length values

-- the number, where there is one
abbrev pub number_of : ContentLength → Option ℕ
number_of (Length.Value n) = Some n
number_of Length.Absent = None
number_of Length.Invalid = None
