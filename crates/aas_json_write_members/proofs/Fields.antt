-- Members with commas between them.
use Rattle.std.proofs.Common.{◌≡◌, ℕ, Bool, true, List, [], ◌∷◌, ◌++◌, Option, Some, None, option_map, refl, sym, ap}
use Rattle.std.proofs.Common.{◌∙◌, append_assoc}
use Rattle.json.specs.Print.{quoted}
use Rattle.serde_json.specs.Data.{Data}
use Rattle.serde_json.specs.Written.{comma_if, compact_text, members_text}
use Rattle.aas_json_table.specs.Canonical.{add, members_by}
use Rattle.aas_json_table.specs.Table.{MemberType, Row}
use Rattle.aas_json_write_members.specs.Members.{Field, field_text, fields_text, later_after}
use Rattle.aas_json_write_members.specs.Puts.{fields_by}

-- where a member stands before, one does
later_true : (fs : List Field) → later_after true fs ≡ true
later_true [] = refl
later_true ((n, None) ∷ fs) = later_true fs
later_true ((n, Some v) ∷ fs) = refl

pub fields_text-append : (later : Bool) (fs gs : List Field)
    → fields_text later (fs ++ gs) ≡ fields_text later fs ++ fields_text (later_after later fs) gs
fields_text-append later [] gs = refl
fields_text-append later ((n, None) ∷ fs) gs = fields_text-append later fs gs
fields_text-append later ((n, Some v) ∷ fs) gs =
    ap (λ t. field_text later n v ++ t)
    (fields_text-append true fs gs ∙ ap (λ b. fields_text true fs ++ fields_text b gs) (later_true fs))
    ∙ sym (append_assoc (field_text later n v) (fields_text true fs) (fields_text true gs))

pub later_after-append : (later : Bool) (fs gs : List Field)
    → later_after later (fs ++ gs) ≡ later_after (later_after later fs) gs
later_after-append later [] gs = refl
later_after-append later ((n, None) ∷ fs) gs = later_after-append later fs gs
later_after-append later ((n, Some v) ∷ fs) gs = sym (later_true gs)

pub regroup : (a q v f e : List ℕ) → ((a ++ (q ++ 58 ∷ v)) ++ f) ++ e ≡ a ++ (q ++ 58 ∷ (v ++ (f ++ e)))
regroup a q v f e =
    append_assoc (a ++ (q ++ 58 ∷ v)) f e ∙ append_assoc a (q ++ 58 ∷ v) (f ++ e)
    ∙ ap (λ t. a ++ t) (append_assoc q (58 ∷ v) (f ++ e))

-- The text of an object's members is that of its fields, with the brace behind.
pub members_are_fields : (rows : List Row) (get : List ℕ → MemberType → Option Data) (later : Bool)
    → members_text later (members_by rows get) ≡ fields_text later (fields_by rows get) ++ 125 ∷ []
members_are_fields [] get later = refl
members_are_fields (r ∷ rs) get later = by_value (get r.name r.member_type) (members_are_fields rs get)
  where
    by_value : (o : Option Data)
        → ((b : Bool) → members_text b (members_by rs get) ≡ fields_text b (fields_by rs get) ++ 125 ∷ [])
        → members_text later (add r.name o (members_by rs get))
        ≡ fields_text later ((r.name, option_map compact_text o) ∷ fields_by rs get) ++ 125 ∷ []
    by_value None rest = rest later
    by_value (Some d) rest =
        ap (λ t. comma_if later ++ (quoted r.name ++ 58 ∷ (compact_text d ++ t))) (rest true)
        ∙ sym
        (regroup (comma_if later) (quoted r.name) (compact_text d) (fields_text true (fields_by rs get)) (125 ∷ []))
