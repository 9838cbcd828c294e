-- The text of the elements that rows in preorder list. What a row's children say stands in the rows behind it.
use Rattle.std.specs.Prelude.{◌≡◌, ℕ, ◌+◌, ◌<◌, ◌≤◌, nat_lt, List, [], ◌∷◌, drop, map, slice_get, if◌then◌else◌, Option}
use Rattle.std.specs.Prelude.{Some, None}
use Rattle.aas_model.specs.declared.element.Element.{Element}
use Rattle.aas_rows.specs.Rows.{Line, rows_of_all}
use Rattle.aas_json_write_members.specs.Script.{Spoken, element_text}
use Rattle.aas_json_write_members.specs.Texts.{spoken}
use Rattle.aas_json_write_members.specs.declared.members.Show.{Show}

-- the elements one level below k from here on, up to the first row that stands no deeper than k
abbrev pub voices : Show → ℕ → List Line → List Spoken
voices w k [] = []
voices w k (r ∷ rs) =
    if nat_lt k r.level then
    (if nat_lt (k + 1) r.level then voices w k rs
    else record { role = r.role; text = element_text w r (voices w r.level rs) } ∷ voices w k rs)
    else []

-- the elements below the one of rank n, whose row is r
abbrev pub kids_at : Show → List Line → Line → ℕ → List Spoken
kids_at w rows r n = voices w r.level (drop (n + 1) rows)

abbrev pub if_row : {A : Type 0} → Option Line → (Line → List A) → List A
if_row None f = []
if_row (Some r) f = f r

-- the whole text of the element of rank n
abbrev pub text_at : Show → List Line → ℕ → List ℕ
text_at w rows n = if_row (slice_get rows n) (λ r. element_text w r (kids_at w rows r n))

-- no row stands deeper than the level 30
abbrev pub AreLow : List Line → Type 0
AreLow rows = (n : ℕ) (r : Line) → slice_get rows n ≡ Some r → r.level ≤ 30

-- there is a row of this rank, and it stands below the document
abbrev pub HasRow : List Line → ℕ → Type 0
HasRow rows n = (r : Line) × (slice_get rows n ≡ Some r) × (0 < r.level)

-- The rows of trees give the texts of the trees.
abbrev pub RowsGiveTheTexts : Type 0
RowsGiveTheTexts =
    (w : Show) (es : List Element) (k : ℕ) → voices w k (rows_of_all es (k + 1)) ≡ map (λ e. spoken w e (k + 1)) es
