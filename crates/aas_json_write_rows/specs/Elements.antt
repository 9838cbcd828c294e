-- The elements of a document, by its rows.
use Rattle.std.specs.Prelude.{◌≡◌, ℕ, ◌+◌, ◌≤◌, List, [], ◌∷◌, drop, map, Option, Some, None}
use Rattle.aas_rows.specs.Rows.{Line}
use Rattle.aas_json_write_members.specs.declared.members.Show.{Show}
use Rattle.aas_json_write_rows.specs.Poured.{HasRow, text_at, voices}

-- the texts of a document's elements, or of those from a rank on
abbrev pub elements_of : Show → List Line → List (List ℕ)
elements_of w rows = map (λ v. v.text) (voices w 0 rows)

abbrev pub elements_from : Show → List Line → ℕ → List (List ℕ)
elements_from w rows n = elements_of w (drop n rows)

-- the first element of a document from a rank on
unfoldable pub IsNextElement : Show → List Line → ℕ → Option ℕ → Type 0
IsNextElement w rows from None = elements_from w rows from ≡ []
IsNextElement w rows from (Some m) =
    HasRow rows m × (from ≤ m) × (elements_from w rows from ≡ text_at w rows m ∷ elements_from w rows (m + 1))
