-- What spells a reference or a specific asset id has no empty list: an empty list isn't spelled.
use Rattle.std.proofs.Common.{◌≡◌, ℕ, ◌||◌, Bool, false, List, [], ◌∷◌, map, Option, Some, None, option_map, refl, ap}
use Rattle.std.proofs.Common.{ap₂, ◌∙◌}
use Rattle.serde_json.specs.Data.{Data, no_items, Members}
use Rattle.aas_json_table.specs.Canonical.{members_by, add}
use Rattle.aas_json_table.specs.Rows.{sorted}
use Rattle.aas_json_table.specs.Spelled.{attribute, onto, list_of}
use Rattle.aas_json_table.specs.Table.{MemberType, Row, parts, reference, key, specific_asset_id}
use Rattle.aas_json_mapping.specs.Parts.{spell_specific_asset_id, specific_asset_id_attributes}
use Rattle.aas_model.specs.declared.parts.SpecificAssetId.{SpecificAssetId}
use Rattle.aas_model.specs.declared.reference.Key.{Key}
use Rattle.aas_model.specs.declared.reference.Reference.{Reference}
use Rattle.aas_reference.specs.Spelling.{spell_key, key_attributes, spell_reference}
use Rattle.aas_reference.proofs.Levels.{Within, by_levels, attributes_at, spell_at}
use Rattle.aas_value.specs.Json.{has_empty_list, some_has_empty_list, member_has_empty_list}

-- what may be there has no empty list
abbrev IsFull : Option Data → Type 0
IsFull None = Unit {0}
IsFull (Some d) = has_empty_list d ≡ false

abbrev AreFull : List Row → (List ℕ → MemberType → Option Data) → Type 0
AreFull [] g = Unit {0}
AreFull (r ∷ rs) g = IsFull (g r.name r.member_type) × AreFull rs g

neither : (b c : Bool) → b ≡ false → c ≡ false → b || c ≡ false
neither b c e f = ap₂ (λ x y. x || y) e f

add_full : (n : List ℕ) (o : Option Data) (ms : Members) → IsFull o → member_has_empty_list ms ≡ false
    → member_has_empty_list (add n o ms) ≡ false
add_full n None ms full more = more
add_full n (Some d) ms full more = neither _ _ full more

members_full : (rows : List Row) (g : List ℕ → MemberType → Option Data) → AreFull rows g
    → member_has_empty_list (members_by rows g) ≡ false
members_full [] g full = refl
members_full (r ∷ rs) g full =
    add_full r.name (g r.name r.member_type) (members_by rs g) full.0 (members_full rs g full.1)

items_full : {A : Type 0} (spell : A → Data) → ((x : A) → has_empty_list (spell x) ≡ false) → (xs : List A)
    → some_has_empty_list (onto (map spell xs) no_items) ≡ false
items_full spell each [] = refl
items_full spell each (x ∷ xs) = neither _ _ (each x) (items_full spell each xs)

list_full : {A : Type 0} (spell : A → Data) → ((x : A) → has_empty_list (spell x) ≡ false) → (xs : List A)
    → IsFull (list_of spell xs)
list_full spell each [] = tt
list_full spell each (x ∷ xs) = neither _ _ (each x) (items_full spell each xs)

-- ---- references

key_full : (k : Key) → has_empty_list (spell_key k) ≡ false
key_full k = members_full (sorted (parts key)) (attribute (key_attributes k)) (refl, (refl, tt))

abbrev HasNone : Reference → Type 0
HasNone r = has_empty_list (spell_reference r) ≡ false

within_full : (o : Option Reference) → Within HasNone o → IsFull (option_map spell_reference o)
within_full None each = tt
within_full (Some r) each = each r refl

pub no_empty_reference : (r : Reference) → has_empty_list (spell_reference r) ≡ false
no_empty_reference = by_levels HasNone (λ t ks o each.
    ap has_empty_list (spell_at t ks o)
    ∙ members_full (sorted (parts reference)) (attribute (attributes_at t ks (option_map spell_reference o)))
    (list_full spell_key key_full ks, (within_full o each, (refl, tt))))

reference_full : (o : Option Reference) → IsFull (option_map spell_reference o)
reference_full None = tt
reference_full (Some r) = no_empty_reference r

-- ---- specific asset ids

pub no_empty_specific_id : (a : SpecificAssetId) → has_empty_list (spell_specific_asset_id a) ≡ false
no_empty_specific_id a =
    members_full (sorted (parts specific_asset_id)) (attribute (specific_asset_id_attributes a)) (
      reference_full a.external_subject_id,
      (
        refl,
        (
          reference_full a.semantics.semantic_id,
          (list_full spell_reference no_empty_reference a.semantics.supplemental_semantic_ids, (refl, tt)),
        ),
      ),
    )
