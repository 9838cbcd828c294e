-- The text of an element, made of its members and of the texts of its children.
use Rattle.std.specs.Prelude.{ℕ, ◌&&◌, ◌||◌, nat_lt, List, [], ◌∷◌, ◌++◌, Bool, true, false, map, filter, Some, None}
use Rattle.aas_model.specs.declared.element.Role.{Role}
use Rattle.aas_rows.specs.Rows.{Line}
use Rattle.aas_json_write_members.specs.Members.{all_stops, field_text, fields_text, later_after, part, stop_name}
use Rattle.aas_json_write_members.specs.Members.{has_stop, role_fits, opening, closing}
use Rattle.aas_json_write_members.specs.declared.members.Show.{Show}
use Rattle.aas_json_write_members.specs.declared.stops.Stop.{Stop}

-- the texts of children, with commas before them and the bracket behind
abbrev pub more_text : List (List ℕ) → List ℕ
more_text [] = 93 ∷ []
more_text (t ∷ ts) = 44 ∷ (t ++ more_text ts)

-- a member that is an array; without items it isn't there
abbrev pub listed_text : Bool → List ℕ → List (List ℕ) → List ℕ
listed_text later name [] = []
listed_text later name (t ∷ ts) = field_text later name (91 ∷ []) ++ (t ++ more_text ts)

abbrev pub is_any : List (List ℕ) → Bool
is_any [] = false
is_any (t ∷ ts) = true

-- a child's role and text
pub record Spoken : Type 0 where
  pub role : Role
  pub text : List ℕ

-- the texts of the children that are shown at a stop
abbrev pub at_stop : Show → Line → Stop → List Spoken → List (List ℕ)
at_stop w r s vs =
    map (λ v. opening s ++ (v.text ++ closing s))
    (filter (λ v. nat_lt r.level w.cut && (has_stop s r.payload && role_fits s v.role)) vs)

-- what is left of an element's text before these last stops: at each the part before it and the children there,
-- and the part behind them all
abbrev pub script : Show → Line → List Spoken → List Stop → Bool → List ℕ
script w r vs [] later = fields_text later (part w r None) ++ 125 ∷ []
script w r vs (s ∷ ss) later =
    fields_text later (part w r (Some s))
    ++ (listed_text (later_after later (part w r (Some s))) (stop_name s) (at_stop w r s vs)
    ++ script w r vs ss (later_after later (part w r (Some s)) || is_any (at_stop w r s vs)))

-- an element's row and its children give its text
abbrev pub element_text : Show → Line → List Spoken → List ℕ
element_text w r vs = 123 ∷ script w r vs all_stops false
