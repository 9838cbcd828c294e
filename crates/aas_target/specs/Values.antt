-- The forms of the values of parameters (IDTA-01002-3-0, HTTP/REST API: serialization modifiers Level and Extent, pagination, queries).
-- That base64url has all of its padding or none, and the bounds of numbers, are this profile's own rules.
use Rattle.std.specs.Prelude.{Bool, true, false, ◌≡◌, ◌<◌, ◌≤◌, ◌^◌, ℕ, List, codes, decimal, bytes_eq, if◌then◌else◌, Option, Some, None, Ok}
use Rattle.base64.specs.GeneralPurpose.{IsBytes}
use Rattle.aas_json_table.specs.TooDeep.{limits}
use Rattle.aas_json_spelling.specs.Reads.{ReadsBytes}
use Rattle.aas_json_spelling.specs.Spells.{Trees}
use Rattle.aas_model_names.specs.declared.modifiers.Extent.{Extent}
use Rattle.aas_model_names.specs.declared.modifiers.Extent.TheVariants.{WithoutBlobValue, WithBlobValue}
use Rattle.aas_model_names.specs.declared.modifiers.Level.{Level}
use Rattle.aas_model_names.specs.declared.modifiers.Level.TheVariants.{Deep, Core}
use Rattle.aas_page.specs.Segment.{IsBase64Url}

-- the text is base64url of a JSON text that spells the tree
abbrev pub IsTreeCode : {A : Type 0} → Trees A → List ℕ → A → Type 0
IsTreeCode trees text tree = (json : List ℕ) × IsBytes json × IsBase64Url text json × ReadsBytes trees limits (Ok tree) json

-- the most entries of a page, in digits without a leading zero
abbrev pub IsLimit : List ℕ → ℕ → Type 0
IsLimit text n = (text ≡ decimal n) × (1 ≤ n) × (n ≤ 1000)

-- a place of a child or a reference, but not the first, in 1 to 19 digits without a leading zero
abbrev pub IsPlaceCursor : List ℕ → ℕ → Type 0
IsPlaceCursor text n = (text ≡ decimal n) × (1 ≤ n) × (n < 10 ^ 19)

-- the value that has this name, of two that are named
abbrev pub one_named : {A : Type 0} → List ℕ → List ℕ × A → List ℕ × A → Option A
one_named text one other =
    if bytes_eq text one.0 then Some one.1 else (if bytes_eq text other.0 then Some other.1 else None)

abbrev pub level_named : List ℕ → Option Level
level_named text = one_named text (codes "deep", Deep) (codes "core", Core)

abbrev pub extent_named : List ℕ → Option Extent
extent_named text = one_named text (codes "withoutBlobValue", WithoutBlobValue) (codes "withBlobValue", WithBlobValue)

abbrev pub flag_named : List ℕ → Option Bool
flag_named text = one_named text (codes "true", true) (codes "false", false)
