-- The member of an environment that lists documents, put document by document.
use Rattle.std.proofs.Common.{◌≡◌, ℕ, Bool, true, false, ◌||◌, List, [], ◌∷◌, ◌++◌, map, flat_map, Option, Some, None}
use Rattle.std.proofs.Common.{option_map, refl, sym, ap, ◌∙◌, append_assoc}
use Rattle.std.specs.Prelude.{codes, is_some}
use Rattle.std.specs.FinMap as fin
use Rattle.std.specs.List.{cons_option, filter_map}
use Rattle.std.specs.Option.{option_map_or, option_to_list}
use Rattle.std.proofs.lemmas.List.{append-nil}
use Rattle.json.specs.Print.{escape_byte, quoted}
use Rattle.serde_json.specs.Data.{Data, no_items}
use Rattle.serde_json.specs.Written.{comma_if, compact_text, items_text}
use Rattle.aas_json_mapping.specs.Documents.{spell_concept, spell_shell, spell_submodel}
use Rattle.aas_json_table.specs.Spelled.{list_of, onto}
use Rattle.aas_json_write_members.specs.Members.{fields_text, later_after}
use Rattle.aas_json_write_members.specs.Puts.{PutsFields}
use Rattle.aas_json_write_members.specs.Script.{is_any}
use Rattle.aas_json_write_members.specs.declared.members.Pen.{Pen}
use Rattle.aas_model_names.specs.declared.collection.Collection.{Collection}
use Rattle.aas_model_names.specs.declared.collection.Collection.TheVariants.{Concepts, Shells, Submodels}
use Rattle.aas_out.specs.Adds.{Adds}
use Rattle.aas_out.specs.Told.{Told}
use Rattle.aas_out.specs.declared.pouring.Pouring.{Pouring}
use Rattle.aas_out.proofs.Adding.{adds_both, adds_nothing, adds_same}
use Rattle.aas_serialization.specs.Chosen.{documents_of}
use Rattle.aas_serialization.specs.Reaches.{Set}
use Rattle.aas_serialization.proofs.Walked.{left, nothing_left, left_next, all_left}
use Rattle.aas_store.specs.Documents.{Documents, Identifier, Map, first_above, has}
use Rattle.aas_model_names.specs.declared.modifiers.Extent.TheVariants.{WithBlobValue}
use Rattle.aas_model_names.specs.declared.modifiers.Level.TheVariants.{Deep}
use Rattle.aas_answer.specs.Shown.{document_shown}
use Rattle.aas_answer.specs.Arrays.{array_end, array_text, before_entry, entry_text, listed_documents}
use Rattle.aas_answer.specs.Arrays.{name_of, texts_at}

or_false : (b : Bool) → b ≡ (b || false)
or_false true = refl
or_false false = refl

or_true : (b : Bool) → true ≡ (b || true)
or_true true = refl
or_true false = refl

or_assoc : (a b c : Bool) → (a || (b || c)) ≡ ((a || b) || c)
or_assoc true b c = refl
or_assoc false b c = refl

-- ---- one entry more

module _ (later : Bool) (name : List ℕ) where
  array_next : (any : Bool) (o : Option (List ℕ)) (rest : List (List ℕ))
      → array_text later name any (option_to_list o ++ rest)
      ≡ entry_text later name any (option_to_list o) ++ array_text later name (any || is_some o) rest
  array_next any None rest = ap (λ b. array_text later name b rest) (or_false any)
  array_next any (Some t) rest =
      ap (λ b. before_entry later name any ++ (t ++ array_text later name b rest)) (or_true any)
      ∙ sym (append_assoc (before_entry later name any) t (array_text later name (any || true) rest))

  any_next : (any : Bool) (o : Option (List ℕ)) (rest : List (List ℕ))
      → (any || is_any (option_to_list o ++ rest)) ≡ ((any || is_some o) || is_any rest)
  any_next any None rest = ap (λ b. b || is_any rest) (or_false any)
  any_next any (Some t) rest = sym (or_true any) ∙ ap (λ b. b || is_any rest) (or_true any)

-- ---- the texts of documents

-- the text of the document of an identifier
text_at : Collection → Documents → Identifier → Option (List ℕ)
text_at Shells d id = option_map (λ s. compact_text (spell_shell s)) (fin.get d.shells id)
text_at Submodels d id = option_map (λ s. compact_text (spell_submodel s)) (fin.get d.submodels id)
text_at Concepts d id = option_map (λ c. compact_text (spell_concept c)) (fin.get d.concepts id)

texts_are : (c : Collection) (d : Documents) (id : Identifier) → texts_at c d id ≡ option_to_list (text_at c d id)
unfolding text_at
texts_are Shells d id = refl
texts_are Submodels d id = refl
texts_are Concepts d id = refl

some_mapped : {A B : Type 0} (f : A → B) (o : Option A) → is_some o ≡ is_some (option_map f o)
some_mapped f None = refl
some_mapped f (Some x) = refl

there : (c : Collection) (d : Documents) (id : Identifier) → has c id d ≡ is_some (text_at c d id)
unfolding text_at
there Shells d id = some_mapped (λ s. compact_text (spell_shell s)) (fin.get d.shells id)
there Submodels d id = some_mapped (λ s. compact_text (spell_submodel s)) (fin.get d.submodels id)
there Concepts d id = some_mapped (λ c. compact_text (spell_concept c)) (fin.get d.concepts id)

-- ---- as far as it is put

abbrev pub texts : Collection → Documents → List Identifier → List (List ℕ)
texts c d ids = flat_map (texts_at c d) ids

pub record HasListed {K : Type 0} (c : Collection) (d : Documents) (s : Set) (later : Bool) (name : List ℕ)
    (start now : Pouring) (told told_now : Told K) (any : Bool) (after : Option Identifier) : Type 0 where
  pub poured : List ℕ
  pub adds : Adds start now told told_now poured
  pub up_to : array_text later name false (texts c d (fin.keys s))
      ≡ poured ++ array_text later name any (texts c d (left after s))
  pub has_any : is_any (texts c d (fin.keys s)) ≡ (any || is_any (texts c d (left after s)))

module _ {K : Type 0} (c : Collection) (d : Documents) (s : Set)
    (later : Bool) (name : List ℕ) (start : Pouring) (told : Told K) where
  pub listed_begun : HasListed c d s later name start start told told false None
  listed_begun = record {
    poured = [];
    adds = adds_nothing start told;
    up_to = ap (λ ids. array_text later name false (texts c d ids)) (sym (nothing_left s));
    has_any = ap (λ ids. is_any (texts c d ids)) (sym (nothing_left s));
  }

  pub listed_next : (now new : Pouring) (told_now told_new : Told K)
      (any any_new : Bool) (after : Option Identifier) (id : Identifier)
      → first_above after (fin.keys s) ≡ Some id
      → Adds now new told_now told_new (entry_text later name any (texts_at c d id)) → any_new ≡ (any || has c id d)
      → HasListed c d s later name start now told told_now any after
      → HasListed c d s later name start new told told_new any_new (Some id)
  listed_next now new told_now told_new any any_new after id is put any_is so_far =
      let rest = texts c d (left (Some id) s) in
      let o = text_at c d id in
      let passed : texts c d (left after s) ≡ option_to_list o ++ rest =
      ap (texts c d) (left_next s after id is) ∙ ap (λ ts. ts ++ rest) (texts_are c d id) in
      let entry : entry_text later name any (texts_at c d id) ≡ entry_text later name any (option_to_list o) =
      ap (entry_text later name any) (texts_are c d id) in
      let more : (any || is_some o) ≡ any_new = ap (λ b. any || b) (sym (there c d id)) ∙ sym any_is in record {
        poured = so_far.poured ++ entry_text later name any (texts_at c d id);
        adds =
            adds_both start now new told told_now told_new so_far.poured
            (entry_text later name any (texts_at c d id)) so_far.adds put;
        up_to =
            so_far.up_to ∙ ap (λ ts. so_far.poured ++ array_text later name any ts) passed
            ∙ ap (λ t. so_far.poured ++ t) (array_next later name any o rest)
            ∙ ap (λ b. so_far.poured ++ (entry_text later name any (option_to_list o) ++ array_text later name b rest))
            more
            ∙ ap (λ t. so_far.poured ++ (t ++ array_text later name any_new rest)) (sym entry)
            ∙ sym (append_assoc so_far.poured (entry_text later name any (texts_at c d id))
            (array_text later name any_new rest));
        has_any =
            so_far.has_any ∙ ap (λ ts. any || is_any ts) passed
            ∙ any_next later name any o rest ∙ ap (λ b. b || is_any rest) more;
      }

  whole_listed : (now new : Pouring) (told_now told_new : Told K) (any : Bool) (after : Option Identifier)
      → first_above after (fin.keys s) ≡ None
      → Adds now new told_now told_new (array_end any) → HasListed c d s later name start now told told_now any after
      → Adds start new told told_new (array_text later name false (texts c d (fin.keys s)))
  whole_listed now new told_now told_new any after is put so_far =
      adds_same start new told told_new (so_far.poured ++ array_end any)
      (array_text later name false (texts c d (fin.keys s)))
      (adds_both start now new told told_now told_new so_far.poured (array_end any) so_far.adds put)
      (sym (so_far.up_to
      ∙ ap (λ ids. so_far.poured ++ array_text later name any (texts c d ids)) (all_left s after is)))

  any_listed : (now : Pouring) (told_now : Told K) (any : Bool) (after : Option Identifier)
      → first_above after (fin.keys s) ≡ None
      → HasListed c d s later name start now told told_now any after → any ≡ is_any (texts c d (fin.keys s))
  any_listed now told_now any after is so_far =
      or_false any ∙ sym (so_far.has_any ∙ ap (λ ids. any || is_any (texts c d ids)) (all_left s after is))

-- ---- the member

module _ {X : Type 0} (spell : X → Data) where
  abbrev text : X → List ℕ
  text x = compact_text (spell x)

  texts_found : (m : Map X) (ids : List Identifier)
      → flat_map (λ id. option_to_list (option_map text (fin.get m id))) ids ≡ map text (filter_map (fin.get m) ids)
  texts_found m [] = refl
  texts_found m (id ∷ ids) = by (fin.get m id) (texts_found m ids)
    where
      by : (o : Option X)
          → flat_map (λ id. option_to_list (option_map text (fin.get m id))) ids ≡ map text (filter_map (fin.get m) ids)
          → option_to_list (option_map text o) ++ flat_map (λ id. option_to_list (option_map text (fin.get m id))) ids
          ≡ map text (cons_option o (filter_map (fin.get m) ids))
      by None rest = rest
      by (Some x) rest = ap (λ ts. text x ∷ ts) rest

  items_are : (later : Bool) (name : List ℕ) (xs : List X)
      → array_text later name true (map text xs) ≡ items_text true (onto (map spell xs) no_items)
  items_are later name [] = refl
  items_are later name (x ∷ xs) = ap (λ t. 44 ∷ (text x ++ t)) (items_are later name xs)

  fields_are : (later : Bool) (name : List ℕ) (xs : List X)
      → array_text later name false (map text xs)
      ≡ fields_text later ((name, option_map compact_text (list_of spell xs)) ∷ [])
  fields_are later name [] = refl
  fields_are later name (x ∷ xs) =
      let items = text x ++ array_text later name true (map text xs) in
      append_assoc (comma_if later ++ (quoted name ++ 58 ∷ [])) (91 ∷ []) items
      ∙ append_assoc (comma_if later) (quoted name ++ 58 ∷ []) (91 ∷ items)
      ∙ ap (λ t. comma_if later ++ t) (append_assoc (quoted name) (58 ∷ []) (91 ∷ items))
      ∙ ap (λ t. comma_if later ++ (quoted name ++ 58 ∷ (91 ∷ (text x ++ t)))) (items_are later name xs)
      ∙ sym (append-nil
      (comma_if later ++ (quoted name ++ 58 ∷ (91 ∷ (text x ++ items_text true (onto (map spell xs) no_items))))))

  later_is : (later : Bool) (name : List ℕ) (xs : List X)
      → (later || is_any (map text xs)) ≡ later_after later ((name, option_map compact_text (list_of spell xs)) ∷ [])
  later_is true name [] = refl
  later_is false name [] = refl
  later_is true name (x ∷ xs) = refl
  later_is false name (x ∷ xs) = refl

member_is : (c : Collection) (d : Documents) (s : Set) (later : Bool) (name : List ℕ)
    → array_text later name false (texts c d (fin.keys s)) ≡ fields_text later ((name, listed_documents c d s) ∷ [])
member_is Shells d s later name =
    ap (array_text later name false) (texts_found spell_shell d.shells (fin.keys s))
    ∙ fields_are spell_shell later name (documents_of d.shells s)
member_is Submodels d s later name =
    ap (array_text later name false) (texts_found spell_submodel d.submodels (fin.keys s))
    ∙ fields_are spell_submodel later name (documents_of d.submodels s)
member_is Concepts d s later name =
    ap (array_text later name false) (texts_found spell_concept d.concepts (fin.keys s))
    ∙ fields_are spell_concept later name (documents_of d.concepts s)

later_with : (c : Collection) (d : Documents) (s : Set) (later : Bool) (name : List ℕ)
    → (later || is_any (texts c d (fin.keys s))) ≡ later_after later ((name, listed_documents c d s) ∷ [])
later_with Shells d s later name =
    ap (λ ts. later || is_any ts) (texts_found spell_shell d.shells (fin.keys s))
    ∙ later_is spell_shell later name (documents_of d.shells s)
later_with Submodels d s later name =
    ap (λ ts. later || is_any ts) (texts_found spell_submodel d.submodels (fin.keys s))
    ∙ later_is spell_submodel later name (documents_of d.submodels s)
later_with Concepts d s later name =
    ap (λ ts. later || is_any ts) (texts_found spell_concept d.concepts (fin.keys s))
    ∙ later_is spell_concept later name (documents_of d.concepts s)

pub listed_ended : {K : Type 0} (c : Collection) (d : Documents) (s : Set) (pen : Pen) (name : List ℕ)
    (now new : Pouring) (told told_now told_new : Told K) (any behind : Bool) (after : Option Identifier)
    → first_above after (fin.keys s) ≡ None → Adds now new told_now told_new (array_end any)
    → behind ≡ (pen.later || any) → HasListed c d s pen.later name pen.state now told told_now any after
    → PutsFields pen (record { state = new; later = behind }) told told_new ((name, listed_documents c d s) ∷ [])
listed_ended c d s pen name now new told told_now told_new any behind after is put later_is so_far = record {
  text =
      adds_same pen.state new told told_new (array_text pen.later name false (texts c d (fin.keys s)))
      (fields_text pen.later ((name, listed_documents c d s) ∷ []))
      (whole_listed c d s pen.later name pen.state told now new told_now told_new any after is put so_far)
      (member_is c d s pen.later name);
  later = later_is
      ∙ ap (λ b. pen.later || b) (any_listed c d s pen.later name pen.state told now told_now any after is so_far)
      ∙ later_with c d s pen.later name;
}

-- ---- one entry

-- a document that isn't there
pub entry_absent : {K : Type 0} (c : Collection) (d : Documents) (id : Identifier)
    (later : Bool) (name : List ℕ) (any : Bool) (now : Pouring) (told : Told K)
    → has c id d ≡ false
    → Adds now now told told (entry_text later name any (texts_at c d id))
entry_absent c d id later name any now told none =
    adds_same now now told told [] (entry_text later name any (texts_at c d id)) (adds_nothing now told)
    (sym (ap (entry_text later name any) (texts_are c d id) ∙ by (text_at c d id) (sym (there c d id) ∙ none)))
  where
    by : (o : Option (List ℕ)) → is_some o ≡ false → entry_text later name any (option_to_list o) ≡ []
    by None is = refl
    by (Some t) is = absurd (cc)

-- one that is, which is put behind what stands before it
pub entry_present : {K : Type 0} (c : Collection) (d : Documents) (id : Identifier) (later : Bool)
    (name : List ℕ) (any : Bool) (now mid new : Pouring) (t u v : Told K) (shown : List ℕ)
    → has c id d ≡ true
    → Adds now mid t u (before_entry later name any) → Adds mid new u v shown
    → ((text : List ℕ) → texts_at c d id ≡ text ∷ [] → shown ≡ text)
    → Adds now new t v (entry_text later name any (texts_at c d id))
entry_present c d id later name any now mid new t u v shown some begun told same =
    by (text_at c d id) (sym (there c d id) ∙ some) (texts_are c d id)
  where
    by : (o : Option (List ℕ)) → is_some o ≡ true → texts_at c d id ≡ option_to_list o
        → Adds now new t v (entry_text later name any (texts_at c d id))
    by None is are = absurd (cc)
    by (Some text) is are =
        adds_same now new t v (before_entry later name any ++ shown) (entry_text later name any (texts_at c d id))
        (adds_both now mid new t u v (before_entry later name any) shown begun told)
        (ap (λ t. before_entry later name any ++ t) (same text are) ∙ ap (entry_text later name any) (sym are))

shown_of : {X : Type 0} (o : Option X) (f : X → List ℕ) (text : List ℕ)
    → option_to_list (option_map f o) ≡ text ∷ [] → option_map_or f o [] ≡ text
shown_of None f text is = absurd (cc)
shown_of (Some x) f text is = cc

-- what is shown of a document that is there is its text
pub shown_is : (c : Collection) (d : Documents) (id : Identifier) (text : List ℕ)
    → texts_at c d id ≡ text ∷ [] → document_shown c Deep WithBlobValue id d ≡ text
shown_is Shells d id text is = shown_of (fin.get d.shells id) (λ s. compact_text (spell_shell s)) text is
shown_is Submodels d id text is = shown_of (fin.get d.submodels id) (λ s. compact_text (spell_submodel s)) text is
shown_is Concepts d id text is = shown_of (fin.get d.concepts id) (λ s. compact_text (spell_concept s)) text is

begun_as : (later : Bool) (name named : List ℕ) → name ≡ named
    → codes "\"" ++ (named ++ codes "\":[") ≡ (quoted named ++ 58 ∷ []) ++ 91 ∷ []
    → comma_if later ++ (codes "\"" ++ (name ++ codes "\":[")) ≡ before_entry later named false
begun_as later name named is plain =
    ap (λ name. comma_if later ++ (codes "\"" ++ (name ++ codes "\":["))) is ∙ ap (λ t. comma_if later ++ t) plain
    ∙ sym (append_assoc (comma_if later) (quoted named ++ 58 ∷ []) (91 ∷ []))

-- the names have nothing to escape
pub begun_is : (c : Collection) (later : Bool) (name : List ℕ)
    → name ≡ name_of c → comma_if later ++ (codes "\"" ++ (name ++ codes "\":[")) ≡ before_entry later (name_of c) false
unfolding escape_byte
begun_is Shells later name is = begun_as later name (name_of Shells) is refl
begun_is Submodels later name is = begun_as later name (name_of Submodels) is refl
begun_is Concepts later name is = begun_as later name (name_of Concepts) is refl
