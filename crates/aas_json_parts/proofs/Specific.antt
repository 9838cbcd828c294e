-- What a value says as a specific asset identifier is whole, whatever the order of names in it: it has no kept data.
use Rattle.std.proofs.Common.{◌≡◌, ℕ, ◌+◌, List, [], ◌∷◌, true, Option, Some, None, option_map, map, codes, Result, Ok, Err, refl, ap, ◌∙◌}
use Rattle.std.proofs.lemmas.Bool.{and_from}
use Rattle.std.specs.List.{list_all}
use Rattle.serde_json.specs.Data.{Data, null, boolean, number, string, array, object, Items, no_items, item, Members}
use Rattle.aas_json_table.specs.Table.{Row, optional, one, many, reference, specific_asset_id, parts}
use Rattle.aas_json_table.specs.Rows.{rows_of, sorted, row_named, in_item}
use Rattle.aas_json_table.specs.TooDeep.{Levels, too_deep, too_deep_items, too_deep_members}
use Rattle.aas_json_table.specs.Canonical.{canonical, canonical_items, canonical_member, add_item, listed}
use Rattle.aas_json_table.specs.Spelled.{list_of, onto}
use Rattle.aas_json_spelling.specs.Reads.{Reads}
use Rattle.aas_json_spelling.proofs.Fits.{first_none, map_none}
use Rattle.aas_reference.specs.Spelling.{spell_reference}
use Rattle.aas_reference.specs.Whole.{is_whole, whole_if_there}
use Rattle.aas_reference.proofs.Facts.{whole_where_fits}
use Rattle.aas_reference.proofs.Said.{says, found, member_shallow}
use Rattle.aas_reference.proofs.Whole.{said_whole}
use Rattle.aas_json_mapping.specs.Parts.{spell_specific_asset_id, specific_asset_id_attributes}
use Rattle.aas_json_mapping.specs.Trees.{specific_asset_ids}
use Rattle.aas_json_mapping.specs.Whole.{whole_specific_asset_id}
use Rattle.aas_json_input.specs.Said.{said}
use Rattle.aas_model.specs.declared.parts.SpecificAssetId.{SpecificAssetId}
use Rattle.aas_model.specs.declared.reference.Reference.{Reference}
use Rattle.aas_model.specs.declared.read_fault.ReadFault.{ReadFault}
use Rattle.aas_model.specs.declared.read_fault.ReadFault.TheVariants.{NotJson, NotMapping, TooDeep, NoMemory}

reference_whole : (l : Levels) (j : Data) (r : Reference) → too_deep (one reference) j l ≡ None → canonical (one reference) j ≡ Some (spell_reference r) → is_whole l r ≡ true
reference_whole l j r low e = whole_where_fits l r (said_whole r l j low e)

-- the reference under a name
one_whole : (l : Levels) (ms : Members) (rows : List Row) (n : List ℕ) (o : Option Reference) → too_deep_members ms rows l ≡ None → row_named n rows ≡ Some (optional n (one reference))
    → canonical_member ms n (one reference) ≡ option_map spell_reference o → whole_if_there l o ≡ true
one_whole l ms rows n None low named e = refl
one_whole l ms rows n (Some r) low named e =
    let inner = found ms n (one reference) (spell_reference r) e in
    reference_whole l inner.value r (member_shallow ms rows l n (optional n (one reference)) inner.value low named inner.there) inner.says

-- references that items say
items_whole : (l : Levels) (ds : Items) (k : ℕ) (rs : List Reference) → too_deep_items ds (one reference) k l ≡ None → canonical_items ds (one reference) ≡ onto (map spell_reference rs) no_items
    → list_all (is_whole l) rs ≡ true
items_whole l no_items k [] low e = refl
items_whole l no_items k (r ∷ rs) low e = cc
items_whole l (item d ds) k rs low e =
    let split = first_none (option_map (λ p. in_item k ∷ p) (too_deep (one reference) d l)) (too_deep_items ds (one reference) (k + 1) l) low in
    by_first (canonical (one reference) d) rs refl e (λ qs. items_whole l ds (k + 1) qs split.1) (λ r. reference_whole l d r (map_none (λ p. in_item k ∷ p) (too_deep (one reference) d l) split.0))
  where
    by_first : (o : Option Data) (qs : List Reference) → canonical (one reference) d ≡ o → add_item o (canonical_items ds (one reference)) ≡ onto (map spell_reference qs) no_items
        → ((qs : List Reference) → canonical_items ds (one reference) ≡ onto (map spell_reference qs) no_items → list_all (is_whole l) qs ≡ true)
        → ((r : Reference) → canonical (one reference) d ≡ Some (spell_reference r) → is_whole l r ≡ true) → list_all (is_whole l) qs ≡ true
    by_first None qs is e later first = later qs e
    by_first (Some x) [] is e later first = cc
    by_first (Some x) (r ∷ qs) is e later first =
        let same : x ≡ spell_reference r = cc in
        let rest : canonical_items ds (one reference) ≡ onto (map spell_reference qs) no_items = cc in
        and_from (is_whole l r) (list_all (is_whole l) qs) (first r (is ∙ ap Some same)) (later qs rest)

same_items : (ds es : Items) → listed ds ≡ Some (array es) → ds ≡ es
same_items no_items es e = cc
same_items (item d ds) es e = cc

list_whole : (l : Levels) (d : Data) (r : Reference) (rs : List Reference) → too_deep (many reference) d l ≡ None → canonical (many reference) d ≡ list_of spell_reference (r ∷ rs) → list_all (is_whole l) (r ∷ rs) ≡ true
list_whole l (array ds) r rs low e = items_whole l ds 0 (r ∷ rs) low (same_items (canonical_items ds (one reference)) (onto (map spell_reference (r ∷ rs)) no_items) e)
list_whole l null r rs low e = cc
list_whole l (boolean b) r rs low e = cc
list_whole l (number n) r rs low e = cc
list_whole l (string s) r rs low e = cc
list_whole l (object ms) r rs low e = cc

-- the references under a name
many_whole : (l : Levels) (ms : Members) (rows : List Row) (n : List ℕ) (rs : List Reference) → too_deep_members ms rows l ≡ None → row_named n rows ≡ Some (optional n (many reference))
    → canonical_member ms n (many reference) ≡ list_of spell_reference rs → list_all (is_whole l) rs ≡ true
many_whole l ms rows n [] low named e = refl
many_whole l ms rows n (r ∷ rs) low named e =
    let inner = found ms n (many reference) (array (onto (map spell_reference (r ∷ rs)) no_items)) e in
    list_whole l inner.value r rs (member_shallow ms rows l n (optional n (many reference)) inner.value low named inner.there) inner.says

object_whole : (l : Levels) (ms : Members) (a : SpecificAssetId) → too_deep (one specific_asset_id) (object ms) l ≡ None → canonical (one specific_asset_id) (object ms) ≡ Some (spell_specific_asset_id a)
    → whole_specific_asset_id l a ≡ true
unfolding rows_of
object_whole l ms a low e =
    let rows = sorted (parts specific_asset_id) in
    let agree = (says specific_asset_id (parts specific_asset_id) (specific_asset_id_attributes a) ms refl refl e).agree in
    and_from (whole_if_there l a.external_subject_id) _ (one_whole l ms rows (codes "externalSubjectId") a.external_subject_id low refl agree.0)
    (and_from (whole_if_there l a.semantics.semantic_id) _ (one_whole l ms rows (codes "semanticId") a.semantics.semantic_id low refl agree.1.1.0)
    (many_whole l ms rows (codes "supplementalSemanticIds") a.semantics.supplemental_semantic_ids low refl agree.1.1.1.0))

value_whole : (l : Levels) (j : Data) (a : SpecificAssetId) → too_deep (one specific_asset_id) j l ≡ None → canonical (one specific_asset_id) j ≡ Some (spell_specific_asset_id a) → whole_specific_asset_id l a ≡ true
value_whole l (object ms) a low e = object_whole l ms a low e
value_whole l null a low e = cc
value_whole l (boolean b) a low e = cc
value_whole l (number n) a low e = cc
value_whole l (string s) a low e = cc
value_whole l (array ds) a low e = cc

-- What is read as a specific asset identifier is whole.
pub reads_specific : (l : Levels) (result : Result SpecificAssetId ReadFault) (j : Data) → Reads (said specific_asset_id spell_specific_asset_id) l result j → Reads specific_asset_ids l result j
reads_specific l (Ok a) j r = record { fits = r.fits; shallow = r.shallow; says = r.says; whole = value_whole l j a r.shallow r.says }
reads_specific l (Err NotJson) j r = r
reads_specific l (Err (NotMapping p)) j r = r
reads_specific l (Err (TooDeep p)) j r = r
reads_specific l (Err NoMemory) j r = r
