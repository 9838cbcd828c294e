-- The children at the stops, as attributes.
use Rattle.std.proofs.Common.{◌≡◌, ℕ, ◌&&◌, ◌||◌, Bool, true, false, List, [], ◌∷◌, ◌++◌, map, filter, Option, Some}
use Rattle.std.proofs.Common.{None, option_map, cond, if◌then◌else◌, codes, refl, sym, ap, ap₂, ◌∙◌, append_assoc}
use Rattle.std.proofs.Math.Bool.{or-false, or-true}
use Rattle.std.proofs.lemmas.List.{append-nil}
use Rattle.json.specs.Print.{quoted, escape_byte}
use Rattle.serde_json.specs.Data.{Data, no_items}
use Rattle.serde_json.specs.Written.{comma_if, compact_text, items_text}
use Rattle.aas_json_table.specs.Canonical.{listed}
use Rattle.aas_json_table.specs.Spelled.{onto}
use Rattle.aas_json_mapping.specs.Elements.{Child, spell_variable}
use Rattle.aas_model.specs.declared.element.Role.{Role}
use Rattle.aas_json_write_members.specs.Members.{Field, field_text, fields_text}
use Rattle.aas_json_write_members.specs.Script.{more_text, listed_text, is_any}
use Rattle.aas_json_write_members.specs.Texts.{said}

-- ---- arrays

-- the text of an array; without items there is none
abbrev pub array_of : List (List ℕ) → Option (List ℕ)
array_of [] = None
array_of (t ∷ ts) = Some (91 ∷ (t ++ more_text ts))

more_items : (ds : List Data) → items_text true (onto ds no_items) ≡ more_text (map compact_text ds)
more_items [] = refl
more_items (d ∷ ds) = ap (λ t. 44 ∷ (compact_text d ++ t)) (more_items ds)

pub array_text : (ds : List Data) → option_map compact_text (listed (onto ds no_items)) ≡ array_of (map compact_text ds)
array_text [] = refl
array_text (d ∷ ds) = ap (λ t. Some (91 ∷ (compact_text d ++ t))) (more_items ds)

-- the array that stands at a stop is a field, and what follows it
pub listed_is_field : (now : Bool) (n : List ℕ) (ts : List (List ℕ)) (rest : List Field) (s : Bool → List ℕ)
    → ((b : Bool) → s b ≡ fields_text b rest ++ 125 ∷ [])
    → listed_text now n ts ++ s (now || is_any ts) ≡ fields_text now ((n, array_of ts) ∷ rest) ++ 125 ∷ []
listed_is_field now n [] rest s same = ap s (or-false now) ∙ same now
listed_is_field now n (t ∷ ts) rest s same =
    ap (λ b. (field_text now n (91 ∷ []) ++ (t ++ more_text ts)) ++ s b) (or-true now)
    ∙ ap (λ x. (field_text now n (91 ∷ []) ++ (t ++ more_text ts)) ++ x) (same true)
    ∙ ap (λ x. x ++ (fields_text true rest ++ 125 ∷ [])) (joined (comma_if now) (quoted n) (t ++ more_text ts))
    ∙ sym (append_assoc (field_text now n (91 ∷ (t ++ more_text ts))) (fields_text true rest) (125 ∷ []))
  where
    joined : (a q v : List ℕ) → (a ++ (q ++ 58 ∷ 91 ∷ [])) ++ v ≡ a ++ (q ++ 58 ∷ 91 ∷ v)
    joined a q v = append_assoc a (q ++ 58 ∷ 91 ∷ []) v ∙ ap (λ t. a ++ t) (append_assoc q (58 ∷ 91 ∷ []) v)

-- ---- children

-- those that are shown, if any are
abbrev pub kids_if : Bool → List Child → List Child
kids_if shown cs = if shown then cs else []

pub none_kept : {X : Type 0} (xs : List X) → filter (λ x. false) xs ≡ []
none_kept [] = refl
none_kept (x ∷ xs) = none_kept xs

-- children that stand in the array themselves
abbrev pub plain_kids : Bool → List Child → List Data
plain_kids has cs = if has then map (λ c. c.spelling) cs else []

all_plain : (cs : List Child)
    → map (λ v. [] ++ (v.text ++ [])) (filter (λ v. true) (map said cs)) ≡ map compact_text (map (λ c. c.spelling) cs)
all_plain [] = refl
all_plain (c ∷ cs) = ap₂ (λ t ts. t ∷ ts) (append-nil (compact_text c.spelling)) (all_plain cs)

pub plain_stop : (shown has : Bool) (cs : List Child)
    → map (λ v. [] ++ (v.text ++ [])) (filter (λ v. shown && (has && true)) (map said cs))
    ≡ map compact_text (plain_kids has (kids_if shown cs))
plain_stop true true cs = all_plain cs
plain_stop true false cs = ap (map (λ v. [] ++ (v.text ++ []))) (none_kept (map said cs))
plain_stop false true cs = ap (map (λ v. [] ++ (v.text ++ []))) (none_kept (map said cs))
plain_stop false false cs = ap (map (λ v. [] ++ (v.text ++ []))) (none_kept (map said cs))

-- children that are variables of an Operation
abbrev pub wrapped_kids : (Role → Bool) → Bool → List Child → List Data
wrapped_kids fits has cs = if has then map spell_variable (filter (λ c. fits c.role) cs) else []

variable_text : (c : Child)
    → codes "{\"value\":" ++ (compact_text c.spelling ++ codes "}") ≡ compact_text (spell_variable c)
unfolding escape_byte
variable_text c = refl

all_wrapped : (fits : Role → Bool) (cs : List Child)
    → map (λ v. codes "{\"value\":" ++ (v.text ++ codes "}")) (filter (λ v. fits v.role) (map said cs))
    ≡ map compact_text (map spell_variable (filter (λ c. fits c.role) cs))
all_wrapped fits [] = refl
all_wrapped fits (c ∷ cs) = by_role (fits c.role) (all_wrapped fits cs)
  where
    by_role : (b : Bool)
        → map (λ v. codes "{\"value\":" ++ (v.text ++ codes "}")) (filter (λ v. fits v.role) (map said cs))
        ≡ map compact_text (map spell_variable (filter (λ c. fits c.role) cs))
        → map (λ v. codes "{\"value\":" ++ (v.text ++ codes "}"))
        (cond b (said c ∷ filter (λ v. fits v.role) (map said cs)) (filter (λ v. fits v.role) (map said cs)))
        ≡ map compact_text
        (map spell_variable (cond b (c ∷ filter (λ c. fits c.role) cs) (filter (λ c. fits c.role) cs)))
    by_role true rest = ap₂ (λ t ts. t ∷ ts) (variable_text c) rest
    by_role false rest = rest

pub wrapped_stop : (fits : Role → Bool) (shown has : Bool) (cs : List Child)
    → map (λ v. codes "{\"value\":" ++ (v.text ++ codes "}"))
    (filter (λ v. shown && (has && fits v.role)) (map said cs))
    ≡ map compact_text (wrapped_kids fits has (kids_if shown cs))
wrapped_stop fits true true cs = all_wrapped fits cs
wrapped_stop fits true false cs = ap (map (λ v. codes "{\"value\":" ++ (v.text ++ codes "}"))) (none_kept (map said cs))
wrapped_stop fits false true cs = ap (map (λ v. codes "{\"value\":" ++ (v.text ++ codes "}"))) (none_kept (map said cs))
wrapped_stop fits false false cs =
    ap (map (λ v. codes "{\"value\":" ++ (v.text ++ codes "}"))) (none_kept (map said cs))
