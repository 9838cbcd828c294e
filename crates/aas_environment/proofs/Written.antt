-- The text of an environment, as far as it is put.
use Rattle.std.proofs.Common.{◌≡◌, ◌≢◌, ℕ, Bool, true, false, ◌||◌, List, [], ◌∷◌, ◌++◌, map, length, Option, Some}
use Rattle.std.proofs.Common.{None, refl, sym, ap, ◌∙◌, append_assoc}
use Rattle.std.specs.Prelude.{codes, get_or, is_some}
use Rattle.std.specs.FinMap as fin
use Rattle.std.specs.FinMap.{entries_sorted, get-entries, len-entries}
use Rattle.std.specs.List.{All}
use Rattle.std.specs.Option.{option_map_or}
use Rattle.std.proofs.lemmas.List.{nil_from_length}
use Rattle.std.proofs.lemmas.Option.{slice_get-get_or}
use Rattle.std.proofs.lemmas.Simd.{map-map}
use Rattle.aas_lemmas.proofs.Lists.{map_same}
use Rattle.json.specs.Print.{escape_byte}
use Rattle.serde_json.specs.Data.{Data, Members, array, no_items, no_members}
use Rattle.serde_json.specs.Written.{comma_if, compact_text, items_text, members_text}
use Rattle.aas_json_mapping.specs.Documents.{spell_concept, spell_shell, spell_submodel}
use Rattle.aas_json_mapping.specs.Trees.{environments}
use Rattle.aas_json_spelling.specs.Spells.{canonical_text}
use Rattle.aas_json_table.specs.Canonical.{add, listed}
use Rattle.aas_json_table.specs.Spelled.{onto}
use Rattle.aas_model_names.specs.declared.collection.Collection.{Collection}
use Rattle.aas_model_names.specs.declared.collection.Collection.TheVariants.{Concepts, Shells, Submodels}
use Rattle.aas_model_names.specs.declared.modifiers.Extent.TheVariants.{WithBlobValue}
use Rattle.aas_model_names.specs.declared.modifiers.Level.TheVariants.{Deep}
use Rattle.aas_model.specs.declared.documents.Environment.{Environment}
use Rattle.aas_store.proofs.Ordered.{found_at}
use Rattle.aas_store.specs.Documents.{Documents, Identifier, Map, count, first_above, ids}
use Rattle.aas_environment.specs.Environments.{environment_of}
use Rattle.aas_answer.specs.Shown.{document_shown}
use Rattle.aas_environment.specs.Members.{has_member, member_text, name_of, name_text, spellings}
use Rattle.aas_store.proofs.Above.{above, all_above_none, ids_rise, next, none_above}

-- ---- the array of a collection

-- its rest, from some texts on
pub rest_of : Bool → List (List ℕ) → List ℕ
rest_of later [] = codes "]"
rest_of later (t ∷ ts) = comma_if later ++ (t ++ rest_of true ts)

of_items : {X : Type 0} (spell : X → Data) (later : Bool) (xs : List X)
    → items_text later (onto (map spell xs) no_items) ≡ rest_of later (map (λ x. compact_text (spell x)) xs)
unfolding rest_of
of_items spell later [] = refl
of_items spell later (x ∷ xs) = ap (λ t. comma_if later ++ (compact_text (spell x) ++ t)) (of_items spell true xs)

module _ {X : Type 0} (m : Map X) (text : X → List ℕ) where
  found : Identifier → List ℕ
  found id = option_map_or text (fin.get m id) []

  each_found : All (λ (e : Identifier × X). found e.0 ≡ text e.1) (fin.entries m)
  unfolding found
  each_found k e within =
      let x = get_or (fin.entries m) k e in
      ap (λ o. option_map_or text o [])
      (get-entries m x.0
      ∙ found_at (fin.entries m) k x.0 x.1 (entries_sorted m) (slice_get-get_or (fin.entries m) k e within))

  all_found : map (λ id. option_map_or text (fin.get m id) []) (fin.keys m) ≡ map text (fin.values m)
  unfolding found
  all_found =
      map-map _ _ (fin.entries m)
      ∙ map_same (λ (e : Identifier × X). found e.0) (λ (e : Identifier × X). text e.1) (fin.entries m) each_found
      ∙ sym (map-map _ _ (fin.entries m))

-- all of a document
abbrev pub document_text : Collection → Documents → Identifier → List ℕ
document_text c d id = document_shown c Deep WithBlobValue id d

whole : (c : Collection) (d : Documents)
    → items_text false (spellings c (environment_of d)) ≡ rest_of false (map (document_text c d) (ids c d))
whole Shells d =
    of_items spell_shell false (fin.values d.shells)
    ∙ ap (rest_of false) (sym (all_found d.shells (λ s. compact_text (spell_shell s))))
whole Submodels d =
    of_items spell_submodel false (fin.values d.submodels)
    ∙ ap (rest_of false) (sym (all_found d.submodels (λ s. compact_text (spell_submodel s))))
whole Concepts d =
    of_items spell_concept false (fin.values d.concepts)
    ∙ ap (rest_of false) (sym (all_found d.concepts (λ s. compact_text (spell_concept s))))

-- so far, up to the document of an identifier
abbrev pub UpTo : Collection → Documents → List ℕ → List ℕ → Bool → Option Identifier → Type 0
UpTo c d start now later after =
    start ++ items_text false (spellings c (environment_of d))
    ≡ now ++ rest_of later (map (document_text c d) (above after (ids c d)))

pub at_first : (c : Collection) (d : Documents) (start : List ℕ) → UpTo c d start start false None
at_first c d start =
    ap (λ t. start ++ t)
    (whole c d ∙ ap (λ all. rest_of false (map (document_text c d) all)) (sym (all_above_none (ids c d))))

pub one_more : (c : Collection) (d : Documents) (start now comma new : List ℕ)
    (later : Bool) (after : Option Identifier) (id : Identifier)
    → first_above after (ids c d) ≡ Some id
    → comma ≡ now ++ comma_if later → new ≡ comma ++ document_text c d id
    → UpTo c d start now later after → UpTo c d start new true (Some id)
unfolding rest_of
one_more c d start now comma new later after id is separated told so_far =
    let text = document_text c d id in
    let rest = rest_of true (map (document_text c d) (above (Some id) (ids c d))) in
    so_far ∙ ap (λ all. now ++ rest_of later (map (document_text c d) all)) (next after id (ids c d) (ids_rise c d) is)
    ∙ sym (append_assoc now (comma_if later) (text ++ rest)) ∙ ap (λ t. t ++ (text ++ rest)) (sym separated)
    ∙ sym (append_assoc comma text rest) ∙ ap (λ t. t ++ rest) (sym told)

pub all_done : (c : Collection) (d : Documents) (old start now new : List ℕ) (later : Bool) (after : Option Identifier)
    → first_above after (ids c d) ≡ None
    → start ≡ old ++ codes "[" → new ≡ now ++ codes "]" → UpTo c d start now later after
    → new ≡ old ++ compact_text (array (spellings c (environment_of d)))
unfolding rest_of
all_done c d old start now new later after is begun closed so_far =
    let items = items_text false (spellings c (environment_of d)) in
    closed
    ∙ ap (λ all. now ++ rest_of later (map (document_text c d) all)) (sym (none_above after (ids c d) is)) ∙ sym so_far
    ∙ ap (λ t. t ++ items) begun ∙ append_assoc old (codes "[") items

-- ---- the members

none_listed : {X : Type 0} (spell : X → Data) (m : Map X)
    → fin.len m ≡ 0 → listed (onto (map spell (fin.values m)) no_items) ≡ None
none_listed spell m none =
    ap (λ (es : List (Identifier × _)). listed (onto (map spell (map (λ e. e.1) es)) no_items))
    (nil_from_length (fin.entries m) (sym (len-entries m) ∙ none))

some_listed : {X : Type 0} (spell : X → Data) (m : Map X) → fin.len m ≢ 0
    → listed (onto (map spell (fin.values m)) no_items) ≡ Some (array (onto (map spell (fin.values m)) no_items))
some_listed {X = X} spell m some = by (fin.entries m) (λ none. some (len-entries m ∙ none))
  where
    by : (es : List (Identifier × X)) → length es ≢ 0
        → listed (onto (map spell (map (λ e. e.1) es)) no_items)
        ≡ Some (array (onto (map spell (map (λ e. e.1) es)) no_items))
    by [] some = absurd (some refl)
    by (e ∷ es) some = refl

pub not_there : (c : Collection) (d : Documents) → count c d ≡ 0 → listed (spellings c (environment_of d)) ≡ None
not_there Shells d none = none_listed spell_shell d.shells none
not_there Submodels d none = none_listed spell_submodel d.submodels none
not_there Concepts d none = none_listed spell_concept d.concepts none

pub there : (c : Collection) (d : Documents)
    → count c d ≢ 0 → listed (spellings c (environment_of d)) ≡ Some (array (spellings c (environment_of d)))
there Shells d some = some_listed spell_shell d.shells some
there Submodels d some = some_listed spell_submodel d.submodels some
there Concepts d some = some_listed spell_concept d.concepts some

-- whether a member stands before what follows
pub still : (later : Bool) (c : Collection) (d : Documents)
    → count c d ≡ 0 → later ≡ (later || has_member c (environment_of d))
still true c d none = refl
still false c d none = ap is_some (sym (not_there c d none))

pub from_now : (later : Bool) (c : Collection) (d : Documents)
    → count c d ≢ 0 → true ≡ (later || has_member c (environment_of d))
from_now true c d some = refl
from_now false c d some = ap is_some (sym (there c d some))

-- the names have nothing to escape
pub plain_name : (c : Collection) (name : List ℕ) → name ≡ name_of c → codes "\"" ++ (name ++ codes "\":") ≡ name_text c
unfolding escape_byte
plain_name Shells name is = ap (λ name. codes "\"" ++ (name ++ codes "\":")) is
plain_name Submodels name is = ap (λ name. codes "\"" ++ (name ++ codes "\":")) is
plain_name Concepts name is = ap (λ name. codes "\"" ++ (name ++ codes "\":")) is

-- the member of a collection before others
abbrev with_member : Collection → Environment → Members → Members
with_member c e others = add (name_of c) (listed (spellings c e)) others

before : (later : Bool) (c : Collection) (e : Environment) (others : Members)
    → members_text later (with_member c e others)
    ≡ member_text later c e ++ members_text (later || has_member c e) others
before later c e others = by later (listed (spellings c e))
  where
    by : (later : Bool) (o : Option Data) → members_text later (add (name_of c) o others)
        ≡ option_map_or (λ list. comma_if later ++ (name_text c ++ compact_text list)) o []
        ++ members_text (later || is_some o) others
    by true None = refl
    by false None = refl
    by true (Some list) = sym (simp append_assoc)
    by false (Some list) = sym (simp append_assoc)

-- the text of the members, one after another
pub text_whole : (e : Environment) (shells concepts : Bool)
    → shells ≡ has_member Shells e → concepts ≡ (shells || has_member Concepts e)
    → codes "{" ++ (member_text false Shells e
    ++ (member_text shells Concepts e ++ (member_text concepts Submodels e ++ codes "}")))
    ≡ canonical_text environments e
text_whole e shells concepts is then =
    let last = with_member Submodels e no_members in
    let later = with_member Concepts e last in
    sym (ap (λ t. codes "{" ++ t)
    (before false Shells e later
    ∙ ap (λ (b : Bool). member_text false Shells e ++ members_text b later) (sym is)
    ∙ ap (λ t. member_text false Shells e ++ t)
    (before shells Concepts e last
    ∙ ap (λ (b : Bool). member_text shells Concepts e ++ members_text b last) (sym then)
    ∙ ap (λ t. member_text shells Concepts e ++ t) (before concepts Submodels e no_members))))
