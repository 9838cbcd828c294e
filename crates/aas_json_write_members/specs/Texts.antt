-- That the text of an element, made of its members and of the texts of its children,
-- is the canonical text of what the mapping spells.
use Rattle.std.specs.Prelude.{◌≡◌, ℕ, ◌+◌, nat_lt, List, [], map, if◌then◌else◌}
use Rattle.serde_json.specs.Written.{compact_text}
use Rattle.aas_json_table.specs.Spelled.{spelled}
use Rattle.aas_json_mapping.specs.Elements.{Child, element_attributes, model_type_of, rows_for, spelled_child}
use Rattle.aas_model.specs.declared.element.Element.{Element, fold-Element, roll-Element}
use Rattle.aas_model.specs.declared.element.Element.TheOpen.{Element-F}
use Rattle.aas_rows.specs.Rows.{Line}
use Rattle.aas_json_write_members.specs.Members.{shown_payload}
use Rattle.aas_json_write_members.specs.Script.{Spoken, element_text}
use Rattle.aas_json_write_members.specs.declared.members.Show.{Show}

-- ---- the canonical text

-- a child that is spelled, as its role and text
abbrev pub said : Child → Spoken
said c = record { role = c.role; text = compact_text c.spelling }

-- the children that are shown below an element that stands at a level
abbrev pub shown_kids : Show → ℕ → List Child → List Child
shown_kids w k cs = if nat_lt k w.cut then cs else []

-- The text of an element is the canonical one of its attributes,
-- those of its payload and its children as they are shown.
abbrev pub RowsGiveTheCanonicalText : Type 0
RowsGiveTheCanonicalText = (w : Show) (r : Line) (cs : List Child)
    → element_text w r (map said cs)
    ≡ compact_text (spelled (rows_for (model_type_of r.payload))
    (element_attributes r.common (shown_payload w.blobs r.payload) (shown_kids w r.level cs)))

-- ---- trees

abbrev pub Leveled : Type 0 → Type 0
Leveled A = ℕ → A

abbrev pub spoken_over : Show → Element-F (Leveled Spoken) → Leveled Spoken
spoken_over w e k = record {
  role = e.role;
  text =
      element_text w (record { level = k; common = e.common; payload = e.payload; role = e.role })
      (map (λ f. f (k + 1)) e.kids);
}

-- an element that stands at a level: its role and text
unfoldable pub spoken : Show → Element → ℕ → Spoken
spoken w = fold-Element (Leveled Spoken) (spoken_over w)

abbrev pub shown_over : Show → Element-F (Leveled Element) → Leveled Element
shown_over w e k = roll-Element (record {
  common = e.common;
  payload = shown_payload w.blobs e.payload;
  role = e.role;
  kids = if nat_lt k w.cut then map (λ f. f (k + 1)) e.kids else [];
})

-- what is shown of an element that stands at a level: no child below the
-- last level that has some, and Blobs with or without their values
unfoldable pub shown : Show → Element → ℕ → Element
shown w = fold-Element (Leveled Element) (shown_over w)

-- The text of a tree is the canonical one of what is shown of it.
abbrev pub TreesHaveTheCanonicalText : Type 0
TreesHaveTheCanonicalText = (w : Show) (e : Element) (k : ℕ) → spoken w e k ≡ said (spelled_child (shown w e k))
