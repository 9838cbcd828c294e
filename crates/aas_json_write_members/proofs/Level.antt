-- One level of an element: what is put is the canonical text of its attributes, kind by kind.
use Rattle.std.proofs.Common.{◌≡◌, ℕ, nat_lt, Bool, true, false, List, [], ◌∷◌, ◌++◌, map, Option, Some, None}
use Rattle.std.proofs.Common.{option_map, refl, sym, ap, ◌∙◌, append_assoc}
use Rattle.serde_json.specs.Data.{Data, no_items}
use Rattle.serde_json.specs.Written.{compact_text}
use Rattle.aas_json_table.specs.Canonical.{listed}
use Rattle.aas_json_table.specs.Rows.{sorted}
use Rattle.aas_json_table.specs.Spelled.{attribute, spelled, onto}
use Rattle.aas_json_table.specs.Table.{text}
use Rattle.aas_json_mapping.specs.Elements.{Child, is_input, is_output, is_inoutput, element_attributes}
use Rattle.aas_json_mapping.specs.Elements.{model_type_of, rows_for}
use Rattle.aas_model.specs.declared.common.Common.{Common}
use Rattle.aas_model.specs.declared.payload.Payload.{Payload}
use Rattle.aas_model.specs.declared.payload.Payload.TheVariants as p
use Rattle.aas_rows.specs.Rows.{Line}
use Rattle.aas_json_write_members.specs.Members.{Field, all_stops, fields_text, later_after, names, part, shown_payload}
use Rattle.aas_json_write_members.specs.Members.{stop_name, has_stop, role_fits, opening, closing}
use Rattle.aas_json_write_members.specs.declared.members.Show.{Show}
use Rattle.aas_json_write_members.specs.declared.stops.Stop.{Stop}
use Rattle.aas_json_write_members.specs.declared.stops.Stop.TheVariants as stop
use Rattle.aas_json_write_members.specs.Script.{Spoken, at_stop, script}
use Rattle.aas_json_write_members.specs.Texts.{said, shown_kids, RowsGiveTheCanonicalText}
use Rattle.aas_json_write_members.proofs.Covered.{Slot, fields_in, taken, left_over, AreAbsent, taken_are_all}
use Rattle.aas_json_write_members.specs.Puts.{fields_by}
use Rattle.aas_json_write_members.proofs.Fields.{fields_text-append, members_are_fields}
use Rattle.aas_json_write_members.proofs.Children.{array_of, array_text, listed_is_field, plain_kids, plain_stop}
use Rattle.aas_json_write_members.proofs.Children.{wrapped_kids, wrapped_stop}

-- ---- the script as fields

-- the fields of the parts, with one for each stop between them
abbrev between : (Option Stop → List Field) → (Stop → Option (List ℕ)) → List Stop → List Field
between parts values [] = parts None
between parts values (s ∷ ss) = parts (Some s) ++ (stop_name s, values s) ∷ between parts values ss

script_is_fields : (w : Show) (r : Line) (vs : List Spoken) (ss : List Stop) (later : Bool)
    → script w r vs ss later ≡ fields_text later (between (part w r) (λ s. array_of (at_stop w r s vs)) ss) ++ 125 ∷ []
script_is_fields w r vs [] later = refl
script_is_fields w r vs (s ∷ ss) later =
    let now = later_after later (part w r (Some s)) in
    let rest = between (part w r) (λ s. array_of (at_stop w r s vs)) ss in
    let here : Field = (stop_name s, array_of (at_stop w r s vs)) in
    ap (λ t. fields_text later (part w r (Some s)) ++ t)
    (listed_is_field now (stop_name s) (at_stop w r s vs) rest (script w r vs ss) (script_is_fields w r vs ss))
    ∙ sym (append_assoc (fields_text later (part w r (Some s))) (fields_text now (here ∷ rest)) (125 ∷ []))
    ∙ ap (λ t. t ++ 125 ∷ []) (sym (fields_text-append later (part w r (Some s)) (here ∷ rest)))

-- ---- the stops as attributes

-- the children that stand at a stop
abbrev kids_at : Stop → Bool → List Child → List Data
kids_at stop.OutputVariables has cs = wrapped_kids is_output has cs
kids_at stop.InputVariables has cs = wrapped_kids is_input has cs
kids_at stop.InoutputVariables has cs = wrapped_kids is_inoutput has cs
kids_at s has cs = plain_kids has cs

abbrev stop_value : Stop → Payload → List Child → Option (List ℕ)
stop_value s x cs = option_map compact_text (listed (onto (kids_at s (has_stop s x) cs) no_items))

at_stops : (w : Show) (r : Line) (cs : List Child) (s : Stop)
    → at_stop w r s (map said cs) ≡ map compact_text (kids_at s (has_stop s r.payload) (shown_kids w r.level cs))
unfolding role_fits opening closing
at_stops w r cs stop.OutputVariables =
    wrapped_stop is_output (nat_lt r.level w.cut) (has_stop stop.OutputVariables r.payload) cs
at_stops w r cs stop.InputVariables =
    wrapped_stop is_input (nat_lt r.level w.cut) (has_stop stop.InputVariables r.payload) cs
at_stops w r cs stop.InoutputVariables =
    wrapped_stop is_inoutput (nat_lt r.level w.cut) (has_stop stop.InoutputVariables r.payload) cs
at_stops w r cs s = plain_stop (nat_lt r.level w.cut) (has_stop s r.payload) cs

has_shown : (s : Stop) (b : Bool) (x : Payload) → has_stop s x ≡ has_stop s (shown_payload b x)
unfolding has_stop
has_shown s true x = refl
has_shown s false p.Capability = refl
has_shown stop.Annotations false x = refl
has_shown stop.InoutputVariables false x = refl
has_shown stop.InputVariables false x = refl
has_shown stop.OutputVariables false x = refl
has_shown stop.Statements false x = refl
has_shown stop.Value false x = refl

pub same_type : (b : Bool) (x : Payload) → model_type_of x ≡ model_type_of (shown_payload b x)
same_type true x = refl
same_type false p.Capability = refl
same_type false x = refl

stops_are_values : (w : Show) (r : Line) (cs : List Child) (s : Stop)
    → array_of (at_stop w r s (map said cs)) ≡ stop_value s (shown_payload w.blobs r.payload) (shown_kids w r.level cs)
stops_are_values w r cs s =
    let kids = shown_kids w r.level cs in
    ap array_of (at_stops w r cs s) ∙ sym (array_text (kids_at s (has_stop s r.payload) kids))
    ∙ ap (λ b. option_map compact_text (listed (onto (kids_at s b kids) no_items))) (has_shown s w.blobs r.payload)

same_between : (parts : Option Stop → List Field) (a b : Stop → Option (List ℕ)) (ss : List Stop)
    → ((s : Stop) → a s ≡ b s) → between parts a ss ≡ between parts b ss
same_between parts a b [] same = refl
same_between parts a b (s ∷ ss) same =
    ap (λ o. parts (Some s) ++ (stop_name s, o) ∷ between parts a ss) (same s)
    ∙ ap (λ fs. parts (Some s) ++ (stop_name s, b s) ∷ fs) (same_between parts a b ss same)

-- ---- the kinds

-- the fields of an element, each with whether its kind may have it at that place
abbrev member_slots : Common → Payload → Option Stop → List Slot
member_slots c x next =
    map (λ n. (true, (n, option_map compact_text (attribute (element_attributes c x []) n text)))) (names next)

abbrev slots : Common → Payload → List Child → List Stop → List Slot
slots c x cs [] = member_slots c x None
slots c x cs (s ∷ ss) = member_slots c x (Some s) ++ (has_stop s x, (stop_name s, stop_value s x cs)) ∷ slots c x cs ss

abbrev names_for : Payload → List (List ℕ)
names_for x = map (λ row. row.name) (sorted (rows_for (model_type_of x)))

-- the fields of what the table gives
abbrev spelled_fields : Common → Payload → List Child → List Field
spelled_fields c x cs = fields_by (sorted (rows_for (model_type_of x))) (attribute (element_attributes c x cs))

covered : (c : Common) (x : Payload) (cs : List Child) → AreAbsent (left_over (slots c x cs all_stops) (names_for x))
    → fields_text false (fields_in (slots c x cs all_stops))
    ≡ fields_text false (taken (slots c x cs all_stops) (names_for x))
covered c x cs absent = taken_are_all (slots c x cs all_stops) (names_for x) absent false

each_kind : (c : Common) (x : Payload) (cs : List Child)
    → fields_text false (fields_in (slots c x cs all_stops)) ≡ fields_text false (spelled_fields c x cs)
unfolding has_stop
each_kind c p.Capability cs = covered c p.Capability cs tt
each_kind c x cs = covered c x cs tt

-- ---- the law

fields_are_slots : (w : Show) (r : Line) (cs : List Child)
    → between (part w r) (λ s. stop_value s (shown_payload w.blobs r.payload) cs) all_stops
    ≡ fields_in (slots r.common (shown_payload w.blobs r.payload) cs all_stops)
unfolding part
fields_are_slots w r cs = refl

pub canonical : RowsGiveTheCanonicalText
canonical w r cs =
    let x = shown_payload w.blobs r.payload in
    let kids = shown_kids w r.level cs in
    ap (λ t. 123 ∷ t)
    (script_is_fields w r (map said cs) all_stops false
    ∙ ap (λ fs. fields_text false fs ++ 125 ∷ [])
    (same_between (part w r) (λ s. array_of (at_stop w r s (map said cs)))
    (λ s. stop_value s x kids) all_stops (stops_are_values w r cs)
    ∙ fields_are_slots w r kids)
    ∙ ap (λ t. t ++ 125 ∷ []) (each_kind r.common x kids)
    ∙ sym
    (members_are_fields (sorted (rows_for (model_type_of x))) (attribute (element_attributes r.common x kids)) false))
    ∙ ap (λ n. compact_text (spelled (rows_for n) (element_attributes r.common x kids)))
    (sym (same_type w.blobs r.payload))
