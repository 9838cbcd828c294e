-- The rows of the attribute table: their names rise in byte order, so that none stands twice, and no row is of kept data itself.
use Rattle.std.proofs.Common.{◌≡◌, ℕ, List, [], ◌∷◌, ◌&&◌, Bool, true, false, Option, Some, None, option_map, option_and_then, if◌then◌else◌, Ordering, Less, Equal, Greater, nat_cmp, is_eq, is_lt, not, codes, bytes_eq, refl, sym, ap, ◌∙◌, true≢false}
use Rattle.std.specs.Cmp.Lexicographic.{slice_cmp}
use Rattle.std.proofs.lemmas.Slice.Eq.{bytes_eq-Decides}
use Rattle.std.proofs.lemmas.Map.Text.{is_eq-slice_cmp}
use Rattle.aas_lemmas.proofs.Truth.{and_left, and_right}
use Rattle.serde_json.specs.Data.{Data, Members}
use Rattle.serde_json.specs.Find.{get_member, as_str}
use Rattle.aas_json_table.specs.Table.{Sort, reference, key, lang_text, extension, qualifier, specific_asset_id, administration, asset_information, resource, operation_variable, environment, shell, submodel, concept, element, data_element, submodel_metadata, element_metadata, MemberType, text, flag, word, one, many, kept, plain, Row, parts, model_types}
use Rattle.aas_json_table.specs.Rows.{find, sorted, row_named, choose, rows_of}

-- ---- names that rise

-- n is below each row's name
abbrev pub is_below : List ℕ → List Row → Bool
is_below n [] = true
is_below n (r ∷ rs) = is_lt (slice_cmp nat_cmp n r.name) && is_below n rs

abbrev pub rising : List Row → Bool
rising [] = true
rising (r ∷ rs) = is_below r.name rs && rising rs

pub same_text : (a b : List ℕ) → slice_cmp nat_cmp a b ≡ Equal → a ≡ b
same_text a b e = (bytes_eq-Decides a b).0 (sym (is_eq-slice_cmp a b) ∙ ap is_eq e)

pub itself : (n : List ℕ) → is_eq (slice_cmp nat_cmp n n) ≡ true
itself n = is_eq-slice_cmp n n ∙ (bytes_eq-Decides n n).1 refl

less : (o : Ordering) → is_lt o ≡ true → not (is_eq o) ≡ true
less Less e = refl
less Equal e = absurd (true≢false (sym e))
less Greater e = refl

-- a lesser name is another one
pub other : (l n : List ℕ) → is_lt (slice_cmp nat_cmp l n) ≡ true → not (is_eq (slice_cmp nat_cmp l n)) ≡ true
other l n e = less (slice_cmp nat_cmp l n) e

pub other_name : (l n : List ℕ) → is_lt (slice_cmp nat_cmp l n) ≡ true → bytes_eq n l ≡ false
other_name l n e = by_bytes (bytes_eq n l) refl
  where
    by_bytes : (b : Bool) → bytes_eq n l ≡ b → bytes_eq n l ≡ false
    by_bytes false d = d
    by_bytes true d =
        let same : n ≡ l = (bytes_eq-Decides n l).0 d in
        absurd (true≢false (sym (other l n e) ∙ ap (λ x. not (is_eq (slice_cmp nat_cmp l x))) same ∙ ap not (itself l)))

pub other_back : (l n : List ℕ) → is_lt (slice_cmp nat_cmp l n) ≡ true → not (is_eq (slice_cmp nat_cmp n l)) ≡ true
other_back l n e = ap not (is_eq-slice_cmp n l ∙ other_name l n e)

-- ---- each row is the one of its name

abbrev pub AllNamed : List Row → List Row → Type 0
AllNamed rows [] = Unit {0}
AllNamed rows (r ∷ rs) = (row_named r.name rows ≡ Some r) × AllNamed rows rs

named_past : (x : Row) (all rows : List Row) → is_below x.name rows ≡ true → AllNamed all rows → AllNamed (x ∷ all) rows
named_past x all [] e n = tt
named_past x all (r ∷ rs) e n = (
  ap (λ b. if b then Some x else row_named r.name all) (other_name x.name r.name (and_left _ _ e)) ∙ n.0,
  named_past x all rs (and_right _ _ e) n.1,
)

pub named : (rows : List Row) → rising rows ≡ true → AllNamed rows rows
named [] e = tt
named (r ∷ rs) e = (
  ap (λ b. if b then Some r else row_named r.name rs) ((bytes_eq-Decides r.name r.name).1 refl),
  named_past r rs rs (and_left _ _ e) (named rs (and_right _ _ e)),
)

-- ---- what holds of the rows of every object

-- not kept data itself, of which an empty list is not as if absent
abbrev pub is_attribute : MemberType → Bool
is_attribute plain = false
is_attribute f = true

abbrev pub are_attributes : List Row → Bool
are_attributes [] = true
are_attributes (r ∷ rs) = is_attribute r.member_type && are_attributes rs

abbrev is_text : MemberType → Bool
is_text text = true
is_text f = false

abbrev is_text_row : Option Row → Bool
is_text_row None = false
is_text_row (Some r) = is_text r.member_type

abbrev are_sound : List Row → Bool
are_sound rows = rising rows && are_attributes rows

-- one of the rows is the modelType
abbrev has_model : List Row → Bool
has_model rows = is_text_row (row_named (codes "modelType") rows)

-- p holds of the rows of each modelType
abbrev pub each_model : (List Row → Bool) → List (List ℕ × List Row) → Bool
each_model p [] = true
each_model p (k ∷ ks) = p (sorted k.1) && each_model p ks

-- p holds of the rows of each object of a sort
abbrev pub each_rows : (List Row → Bool) → Sort → Bool
each_rows p s = each_model p (model_types s) && p (sorted (parts s))

found : (p : List Row → Bool) (ks : List (List ℕ × List Row)) → each_model p ks ≡ true → (n : List ℕ) (rows : List Row) → option_map sorted (find n ks) ≡ Some rows → p rows ≡ true
found p [] h n rows e = cc
found p (k ∷ ks) h n rows e = by_name (bytes_eq n k.0) e (found p ks (and_right (p (sorted k.1)) _ h) n rows)
  where
    by_name : (b : Bool) → option_map sorted (if b then Some k.1 else find n ks) ≡ Some rows → (option_map sorted (find n ks) ≡ Some rows → p rows ≡ true) → p rows ≡ true
    by_name true e later = let same : sorted k.1 ≡ rows = cc in ap p (sym same) ∙ and_left _ _ h
    by_name false e later = later e

some_found : (p : List Row → Bool) (n : Option (List ℕ)) (ks : List (List ℕ × List Row)) → each_model p ks ≡ true → (rows : List Row) → option_map sorted (option_and_then (λ x. find x ks) n) ≡ Some rows → p rows ≡ true
some_found p None ks h rows e = cc
some_found p (Some x) ks h rows e = found p ks h x rows e

chosen : (p : List Row → Bool) (ks : List (List ℕ × List Row)) (mine : List Row) (d : Option Data) (rows : List Row) → each_model p ks ≡ true → p (sorted mine) ≡ true
    → option_map sorted (choose ks mine d) ≡ Some rows → p rows ≡ true
chosen p [] mine d rows h own e = let same : sorted mine ≡ rows = cc in ap p (sym same) ∙ own
chosen p (k ∷ ks) mine d rows h own e = some_found p (option_and_then as_str d) (k ∷ ks) h rows e

-- What holds of all rows of a sort holds of an object's.
pub every : (p : List Row → Bool) (s : Sort) → each_rows p s ≡ true → (ms : Members) (rows : List Row) → rows_of s ms ≡ Some rows → p rows ≡ true
unfolding rows_of
every p s h ms rows e = chosen p (model_types s) (parts s) (get_member (codes "modelType") ms) rows (and_left _ _ h) (and_right (each_model p (model_types s)) _ h) e

-- another modelType of the same text chooses the same rows
chosen_again : (ks : List (List ℕ × List Row)) (mine : List Row) (d e : Option Data) (rows : List Row) → each_model has_model ks ≡ true → option_map sorted (choose ks mine d) ≡ Some rows
    → (has_model rows ≡ true → option_and_then as_str e ≡ option_and_then as_str d) → option_map sorted (choose ks mine e) ≡ Some rows
chosen_again [] mine d e rows h is same = is
chosen_again (k ∷ ks) mine d e rows h is same =
    ap (λ n. option_map sorted (option_and_then (λ x. find x (k ∷ ks)) n)) (same (some_found has_model (option_and_then as_str d) (k ∷ ks) h rows is)) ∙ is

table_sound : (s : Sort) → each_rows are_sound s ≡ true
table_sound reference = refl
table_sound key = refl
table_sound lang_text = refl
table_sound extension = refl
table_sound qualifier = refl
table_sound specific_asset_id = refl
table_sound administration = refl
table_sound asset_information = refl
table_sound resource = refl
table_sound operation_variable = refl
table_sound environment = refl
table_sound shell = refl
table_sound submodel = refl
table_sound concept = refl
table_sound element = refl
table_sound data_element = refl
table_sound submodel_metadata = refl
table_sound element_metadata = refl

table_models : (s : Sort) → each_model has_model (model_types s) ≡ true
table_models reference = refl
table_models key = refl
table_models lang_text = refl
table_models extension = refl
table_models qualifier = refl
table_models specific_asset_id = refl
table_models administration = refl
table_models asset_information = refl
table_models resource = refl
table_models operation_variable = refl
table_models environment = refl
table_models shell = refl
table_models submodel = refl
table_models concept = refl
table_models element = refl
table_models data_element = refl
table_models submodel_metadata = refl
table_models element_metadata = refl

sound : (s : Sort) (ms : Members) (rows : List Row) → rows_of s ms ≡ Some rows → are_sound rows ≡ true
sound s ms rows e = every are_sound s (table_sound s) ms rows e

-- The names of an object's rows rise.
pub rows_rise : (s : Sort) (ms : Members) (rows : List Row) → rows_of s ms ≡ Some rows → rising rows ≡ true
rows_rise s ms rows e = and_left (rising rows) (are_attributes rows) (sound s ms rows e)

-- No row of an object is of kept data itself.
pub rows_attributes : (s : Sort) (ms : Members) (rows : List Row) → rows_of s ms ≡ Some rows → are_attributes rows ≡ true
rows_attributes s ms rows e = and_right (rising rows) (are_attributes rows) (sound s ms rows e)

text_type : (f : MemberType) → is_text f ≡ true → f ≡ text
text_type text e = refl
text_type flag e = absurd (true≢false (sym e))
text_type (word ws) e = absurd (true≢false (sym e))
text_type (one s) e = absurd (true≢false (sym e))
text_type (many s) e = absurd (true≢false (sym e))
text_type kept e = absurd (true≢false (sym e))
text_type plain e = absurd (true≢false (sym e))

text_row : (o : Option Row) → is_text_row o ≡ true → (r : Row) × (o ≡ Some r) × (r.member_type ≡ text)
text_row None e = absurd (true≢false (sym e))
text_row (Some r) e = (r, refl, text_type r.member_type e)

-- An object with the same text as its modelType has the same rows.
pub rows_again : (s : Sort) (ms ns : Members) (rows : List Row) → rows_of s ms ≡ Some rows
    → ((r : Row) → row_named (codes "modelType") rows ≡ Some r → r.member_type ≡ text → option_and_then as_str (get_member (codes "modelType") ns) ≡ option_and_then as_str (get_member (codes "modelType") ms))
    → rows_of s ns ≡ Some rows
unfolding rows_of
rows_again s ms ns rows e same =
    chosen_again (model_types s) (parts s) (get_member (codes "modelType") ms) (get_member (codes "modelType") ns) rows (table_models s) e
    (λ t. let r = text_row (row_named (codes "modelType") rows) t in same r.0 r.1 r.2)
