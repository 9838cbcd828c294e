-- The rows of an object in the order in which the table lists them: what holds of each of them there holds of each as they are sorted, and back.
use Rattle.std.proofs.Common.{◌≡◌, ℕ, List, [], ◌∷◌, ◌++◌, ◌&&◌, Bool, true, false, Option, Some, None, option_map, is_some, filter, cond, if◌then◌else◌, Ordering, Less, Equal, Greater, nat_cmp, map, codes, bytes_eq, refl, sym, ap, ◌∙◌, subst, true≢false}
use Rattle.std.proofs.lemmas.Bool.{and_from}
use Rattle.std.proofs.lemmas.Option.{same_Some}
use Rattle.std.specs.Cmp.Lexicographic.{slice_cmp}
use Rattle.std.specs.Ordering.{match_ordering}
use Rattle.serde_json.specs.Data.{Data, null, boolean, number, string, array, object, no_items, item, Members, no_members, member}
use Rattle.serde_json.specs.Find.{get_member}
use Rattle.aas_json_table.specs.Table.{Sort, MemberType, text, flag, word, one, many, kept, plain, Row, parts, referable, model_types, is_shown, shown}
use Rattle.aas_json_table.specs.Rows.{find, insert_row, sorted, choose, rows_of, is_there}
use Rattle.aas_json_table.specs.TooDeep.{Levels, enter}
use Rattle.aas_json_table.specs.Canonical.{are_there, members_by, canonical, canonical_member}
use Rattle.aas_json_table.specs.Spelled.{Attributes, attribute, spelled}
use Rattle.aas_json_spelling.specs.Lists.{Each, is_any}
use Rattle.aas_json_spelling.specs.Good.{Good}
use Rattle.aas_lemmas.proofs.Truth.{and_left, and_right}
use Rattle.aas_json_spelling.proofs.Rows.{rising, is_attribute, are_attributes, rows_rise, rows_attributes}
use Rattle.aas_json_spelling.proofs.Fits.{one_there}
use Rattle.aas_json_spelling.proofs.Objects.{Agree, AreGood, are_full, finds, same_attributes, same_members, object_good, object_back}
use Rattle.aas_json_spelling.proofs.Exists.{IsSpelled, Object, Model, part_tree, model_tree}

-- ---- each row, in and_from orders

insert_each : (P : Row → Type 0) (r : Row) (rows : List Row) → P r → Each P rows → Each P (insert_row r rows)
insert_each P r [] p each = (p, tt)
insert_each P r (s ∷ ss) p each = by_order (slice_cmp nat_cmp r.name s.name) (insert_each P r ss p each.1)
  where
    by_order : (o : Ordering) → Each P (insert_row r ss) → Each P (match_ordering o (r ∷ s ∷ ss) (r ∷ s ∷ ss) (s ∷ insert_row r ss))
    by_order Less later = (p, each)
    by_order Equal later = (p, each)
    by_order Greater later = (each.0, later)

pub sorted_each : (P : Row → Type 0) (rows : List Row) → Each P rows → Each P (sorted rows)
sorted_each P [] each = tt
sorted_each P (r ∷ rs) each = insert_each P r (sorted rs) each.0 (sorted_each P rs each.1)

insert_back : (P : Row → Type 0) (r : Row) (rows : List Row) → Each P (insert_row r rows) → P r × Each P rows
insert_back P r [] each = (each.0, tt)
insert_back P r (s ∷ ss) each = by_order (slice_cmp nat_cmp r.name s.name) (insert_back P r ss) each
  where
    by_order : (o : Ordering) → (Each P (insert_row r ss) → P r × Each P ss) → Each P (match_ordering o (r ∷ s ∷ ss) (r ∷ s ∷ ss) (s ∷ insert_row r ss)) → P r × Each P (s ∷ ss)
    by_order Less later each = each
    by_order Equal later each = each
    by_order Greater later each = let back = later each.1 in (back.0, (each.0, back.1))

pub sorted_back : (P : Row → Type 0) (rows : List Row) → Each P (sorted rows) → Each P rows
sorted_back P [] each = tt
sorted_back P (r ∷ rs) each = let back = insert_back P r (sorted rs) each in (back.0, sorted_back P rs back.1)

pub each_filtered : {A : Type 0} (P : A → Type 0) (t : A → Bool) (xs : List A) → Each P xs → Each P (filter t xs)
each_filtered P t [] each = tt
each_filtered P t (x ∷ xs) each = by_test (t x) (each_filtered P t xs each.1)
  where
    by_test : (b : Bool) → Each P (filter t xs) → Each P (cond b (x ∷ filter t xs) (filter t xs))
    by_test true rest = (each.0, rest)
    by_test false rest = rest

-- ---- attributes that are good, that agree, and that are there

abbrev IsGoodAt : Levels → (List ℕ → MemberType → Option Data) → Row → Type 0
IsGoodAt l g r = Good l r.member_type (g r.name r.member_type)

each_good : (l : Levels) (rows : List Row) (g : List ℕ → MemberType → Option Data) → AreGood l rows g → Each (IsGoodAt l g) rows
each_good l [] g good = tt
each_good l (r ∷ rs) g good = (good.0, each_good l rs g good.1)

good_each : (l : Levels) (rows : List Row) (g : List ℕ → MemberType → Option Data) → Each (IsGoodAt l g) rows → AreGood l rows g
good_each l [] g each = tt
good_each l (r ∷ rs) g each = (each.0, good_each l rs g each.1)

pub good_before : (l : Levels) (xs ys : List Row) (g : List ℕ → MemberType → Option Data) → AreGood l (xs ++ ys) g → AreGood l xs g × AreGood l ys g
good_before l [] ys g good = (tt, good)
good_before l (x ∷ xs) ys g good = let rest = good_before l xs ys g good.1 in ((good.0, rest.0), rest.1)

pub good_with : (l : Levels) (xs ys : List Row) (g : List ℕ → MemberType → Option Data) → AreGood l xs g → AreGood l ys g → AreGood l (xs ++ ys) g
good_with l [] ys g a b = b
good_with l (x ∷ xs) ys g a b = (a.0, good_with l xs ys g a.1 b)

abbrev AgreeAt : (List ℕ → MemberType → Option Data) → (List ℕ → MemberType → Option Data) → Row → Type 0
AgreeAt g h r = g r.name r.member_type ≡ h r.name r.member_type

each_agrees : (rows : List Row) (g h : List ℕ → MemberType → Option Data) → Agree rows g h → Each (AgreeAt g h) rows
each_agrees [] g h agree = tt
each_agrees (r ∷ rs) g h agree = (agree.0, each_agrees rs g h agree.1)

agree_each : (rows : List Row) (g h : List ℕ → MemberType → Option Data) → Each (AgreeAt g h) rows → Agree rows g h
agree_each [] g h each = tt
agree_each (r ∷ rs) g h each = (each.0, agree_each rs g h each.1)

pub agree_before : (xs ys : List Row) (g h : List ℕ → MemberType → Option Data) → Agree (xs ++ ys) g h → Agree xs g h × Agree ys g h
agree_before [] ys g h agree = (tt, agree)
agree_before (x ∷ xs) ys g h agree = let rest = agree_before xs ys g h agree.1 in ((agree.0, rest.0), rest.1)

pub agree_with : (xs ys : List Row) (g h : List ℕ → MemberType → Option Data) → Agree xs g h → Agree ys g h → Agree (xs ++ ys) g h
agree_with [] ys g h a b = b
agree_with (x ∷ xs) ys g h a b = (a.0, agree_with xs ys g h a.1 b)

abbrev IsThereAt : (List ℕ → MemberType → Option Data) → Row → Type 0
IsThereAt g r = r.required ≡ true → is_some (g r.name r.member_type) ≡ true

there_first : (b t rest : Bool) → (if b then t && rest else rest) ≡ true → (b ≡ true → t ≡ true) × (rest ≡ true)
there_first true t rest e = (λ h. and_left t rest e, and_right t rest e)
there_first false t rest e = (λ h. absurd (true≢false (sym h)), e)

first_there : (b t rest : Bool) → (b ≡ true → t ≡ true) → rest ≡ true → (if b then t && rest else rest) ≡ true
first_there true t rest h e = and_from t rest (h refl) e
first_there false t rest h e = e

each_there : (rows : List Row) (g : List ℕ → MemberType → Option Data) → are_there rows g ≡ true → Each (IsThereAt g) rows
each_there [] g e = tt
each_there (r ∷ rs) g e = let back = there_first r.required (is_some (g r.name r.member_type)) (are_there rs g) e in (back.0, each_there rs g back.1)

there_each : (rows : List Row) (g : List ℕ → MemberType → Option Data) → Each (IsThereAt g) rows → are_there rows g ≡ true
there_each [] g each = refl
there_each (r ∷ rs) g each = first_there r.required (is_some (g r.name r.member_type)) (are_there rs g) each.0 (there_each rs g each.1)

pub shown_there : (rows : List Row) (g : List ℕ → MemberType → Option Data) → are_there rows g ≡ true
    → are_there (shown rows) g ≡ true
shown_there rows g e = there_each (shown rows) g (each_filtered (IsThereAt g) is_shown rows (each_there rows g e))

-- ---- no required attribute that is good is an empty list

full_value : (l : Levels) (f : MemberType) (d : Data) → is_attribute f ≡ true → Good l f (Some d) → is_there (Some d) ≡ true
full_value l f null a good = refl
full_value l f (boolean b) a good = refl
full_value l f (number n) a good = refl
full_value l f (string s) a good = refl
full_value l f (object ms) a good = refl
full_value l f (array (item d ds)) a good = refl
full_value l (one s) (array no_items) a good = one_there s (array no_items) good.fits
full_value l (many s) (array no_items) a good = let e : ◌≡◌ {A = Option Data} None (Some (array no_items)) = good.again in cc
full_value l kept (array no_items) a good = let e : ◌≡◌ {A = Option Data} None (Some (array no_items)) = good.again in cc
full_value l text (array no_items) a good = let e : ◌≡◌ {A = Option Data} None (Some (array no_items)) = good.again in cc
full_value l flag (array no_items) a good = let e : ◌≡◌ {A = Option Data} None (Some (array no_items)) = good.again in cc
full_value l (word ws) (array no_items) a good = let e : ◌≡◌ {A = Option Data} None (Some (array no_items)) = good.again in cc
full_value l plain (array no_items) a good = absurd (true≢false (sym a))

full_attribute : (l : Levels) (f : MemberType) (o : Option Data) → is_attribute f ≡ true → Good l f o → is_some o ≡ true → is_there o ≡ true
full_attribute l f None a good e = absurd (true≢false (sym e))
full_attribute l f (Some d) a good e = full_value l f d a good

all_full : (l : Levels) (rows : List Row) (g : List ℕ → MemberType → Option Data) → are_attributes rows ≡ true → are_there rows g ≡ true → AreGood l rows g → are_full rows g ≡ true
all_full l [] g a e good = refl
all_full l (r ∷ rs) g a e good =
    let there = there_first r.required (is_some (g r.name r.member_type)) (are_there rs g) e in
    first_there r.required (is_there (g r.name r.member_type)) (are_full rs g) (λ h. full_attribute l r.member_type (g r.name r.member_type) (and_left (is_attribute r.member_type) (are_attributes rs) a) good.0 (there.0 h))
    (all_full l rs g (and_right (is_attribute r.member_type) (are_attributes rs) a) there.1 good.1)

-- ---- objects

-- An object of good attributes, with all that is required, is good.
pub object_made : (s : Sort) (l inner : Levels) (rows : List Row) (g : List ℕ → MemberType → Option Data) → enter s l ≡ Some inner → rows_of s (members_by (sorted rows) g) ≡ Some (sorted rows)
    → are_there rows g ≡ true → AreGood inner rows g → Good l (one s) (Some (object (members_by (sorted rows) g)))
object_made s l inner rows g entered is e good =
    let there = there_each (sorted rows) g (sorted_each (IsThereAt g) rows (each_there rows g e)) in
    let all = good_each inner (sorted rows) g (sorted_each (IsGoodAt inner g) rows (each_good inner rows g good)) in
    let ms = members_by (sorted rows) g in
    object_good s l inner (sorted rows) g entered is (rows_rise s ms (sorted rows) is) there (all_full inner (sorted rows) g (rows_attributes s ms (sorted rows) is) there all) all

-- what is known of a good object
pub record Within (s : Sort) (l : Levels) (rows : List Row) (g : List ℕ → MemberType → Option Data) : Type 0 where
  pub inner : Levels
  pub entered : enter s l ≡ Some inner
  pub there : are_there rows g ≡ true
  pub good : AreGood inner rows g

pub object_within : (s : Sort) (l : Levels) (rows : List Row) (g : List ℕ → MemberType → Option Data) → rows_of s (members_by (sorted rows) g) ≡ Some (sorted rows)
    → Good l (one s) (Some (object (members_by (sorted rows) g))) → Within s l rows g
object_within s l rows g is good =
    let back = object_back s l (sorted rows) g is (rows_rise s (members_by (sorted rows) g) (sorted rows) is) good in record {
      inner = back.inner;
      entered = back.entered;
      there = there_each rows g (sorted_back (IsThereAt g) rows (each_there (sorted rows) g back.there));
      good = good_each back.inner rows g (sorted_back (IsGoodAt back.inner g) rows (each_good back.inner (sorted rows) g back.good));
    }

-- What stands in a good object is good, where so much is left inside of it.
pub object_inside : (s : Sort) (l inner : Levels) (rows : List Row) (g : List ℕ → MemberType → Option Data)
    → enter s l ≡ Some inner → rows_of s (members_by (sorted rows) g) ≡ Some (sorted rows)
    → Good l (one s) (Some (object (members_by (sorted rows) g))) → AreGood inner rows g
object_inside s l inner rows g entered is good =
    let within = object_within s l rows g is good in
    subst (λ left. AreGood left rows g) (same_Some within.inner inner (sym within.entered ∙ entered)) within.good

-- Spellings that are the same have the same attribute under each row.
pub same_rows : (rows : List Row) (as_ bs : Attributes) → rising (sorted rows) ≡ true → spelled rows as_ ≡ spelled rows bs → Agree rows (attribute as_) (attribute bs)
same_rows rows as_ bs rise e =
    agree_each rows (attribute as_) (attribute bs) (sorted_back (AgreeAt (attribute as_) (attribute bs)) rows (each_agrees (sorted rows) (attribute as_) (attribute bs) (same_attributes rows as_ bs rise e)))

-- what is found under each row, and what spells it
pub record Made {A : Type 0} (spell : A → Data) (rows : List Row) (g : List ℕ → MemberType → Option Data) : Type 0 where
  pub tree : A
  pub attributes : Attributes
  pub agree : Agree rows g (attribute attributes)
  pub spells : spelled rows attributes ≡ spell tree

pub object_of : {A : Type 0} (spell : A → Data) (rows : List Row) (g : List ℕ → MemberType → Option Data) → (are_there rows g ≡ true → Made spell rows g) → Object spell (sorted rows) g
object_of spell rows g build e =
    let made = build (there_each rows g (sorted_back (IsThereAt g) rows (each_there (sorted rows) g e))) in
    let h = attribute made.attributes in
    (made.tree, ap object (same_members (sorted rows) g h (agree_each (sorted rows) g h (sorted_each (AgreeAt g h) rows (each_agrees rows g h made.agree)))) ∙ made.spells)

-- What a part says is spelled, where it is by what is found under its rows.
pub part_made : {A : Type 0} (spell : A → Data) (s : Sort) (ms : Members) → model_types s ≡ []
    → (are_there (parts s) (canonical_member ms) ≡ true → Made spell (parts s) (canonical_member ms))
    → IsSpelled spell (canonical (one s) (object ms))
part_made spell s ms part build =
    part_tree spell s ms part (object_of spell (parts s) (canonical_member ms) build)

-- What an object with a modelType says is spelled, where it is under each modelType of its sort.
pub models_tree : {A : Type 0} (spell : A → Data) (s : Sort) (ms : Members) (ks : List (List ℕ × List Row)) → model_types s ≡ ks → is_any ks ≡ true → Each (Model spell (canonical_member ms)) ks
    → IsSpelled spell (canonical (one s) (object ms))
models_tree spell s ms [] models e each = absurd (true≢false (sym e))
models_tree spell s ms (k ∷ ks) models e each = model_tree spell s ms k ks models each

-- the same where there is one modelType
pub document_made : {A : Type 0} (spell : A → Data) (s : Sort) (ms : Members) (n : List ℕ) (rows : List Row)
    → model_types s ≡ (n, rows) ∷ []
    → (canonical_member ms (codes "modelType") text ≡ Some (string n) → are_there rows (canonical_member ms) ≡ true
    → Made spell rows (canonical_member ms))
    → IsSpelled spell (canonical (one s) (object ms))
document_made spell s ms n rows models build =
    models_tree spell s ms ((n, rows) ∷ []) models refl
    ((λ model. object_of spell rows (canonical_member ms) (build model)), tt)

-- ---- the rows of an object

pub part_rows : (s : Sort) → model_types s ≡ [] → (ms : Members) → rows_of s ms ≡ Some (sorted (parts s))
unfolding rows_of
part_rows s part ms = ap (λ ks. option_map sorted (choose ks (parts s) (get_member (codes "modelType") ms))) part

-- the rows under a modelType
pub model_rows : (s : Sort) (k : List ℕ × List Row) (ks : List (List ℕ × List Row)) → model_types s ≡ k ∷ ks → (n : List ℕ) (rows : List Row) → find n (model_types s) ≡ Some rows
    → (ms : Members) → get_member (codes "modelType") ms ≡ Some (string n) → rows_of s ms ≡ Some (sorted rows)
unfolding rows_of
model_rows s k ks models n rows found ms is =
    ap (λ xs. option_map sorted (choose xs (parts s) (get_member (codes "modelType") ms))) models
    ∙ ap (λ d. option_map sorted (choose (k ∷ ks) (parts s) d)) is
    ∙ ap (λ xs. option_map sorted (find n xs)) (sym models)
    ∙ ap (option_map sorted) found

-- rows under a modelType have rising names when they are sorted
pub model_rise : (s : Sort) (k : List ℕ × List Row) (ks : List (List ℕ × List Row)) → model_types s ≡ k ∷ ks → (n : List ℕ) (rows : List Row) → find n (model_types s) ≡ Some rows → rising (sorted rows) ≡ true
model_rise s k ks models n rows found =
    let ms = member (codes "modelType") (string n) no_members in rows_rise s ms (sorted rows) (model_rows s k ks models n rows found ms refl)

-- the attribute under a row is found again in what is spelled
pub found_again : (rows : List Row) (g : List ℕ → MemberType → Option Data) → rising (sorted rows) ≡ true → Agree rows (λ n f. get_member n (members_by (sorted rows) g)) g
found_again rows g rise =
    let h : List ℕ → MemberType → Option Data = λ n f. get_member n (members_by (sorted rows) g) in
    agree_each rows h g (sorted_back (AgreeAt h g) rows (each_agrees (sorted rows) h g (finds (sorted rows) g rise)))

-- ---- objects with a modelType, which have the rows of Referable

-- the rows of a sort under a modelType
pub record IsModel (s : Sort) (n : List ℕ) (rows : List Row) : Type 0 where
  pub first : List ℕ × List Row
  pub rest : List (List ℕ × List Row)
  pub models : model_types s ≡ first ∷ rest
  pub found : find n (model_types s) ≡ Some (referable ++ rows)

module _ (s : Sort) (n : List ℕ) (rows : List Row) (model : IsModel s n rows) where
  pub typed_rise : rising (sorted (referable ++ rows)) ≡ true
  typed_rise = model_rise s model.first model.rest model.models n (referable ++ rows) model.found

  -- what stands under modelType
  pub typed_name : (g : List ℕ → MemberType → Option Data)
      → get_member (codes "modelType") (members_by (sorted (referable ++ rows)) g) ≡ g (codes "modelType") text
  typed_name g = (found_again (referable ++ rows) g typed_rise).1.1.1.1.1.0

  pub typed_rows : (g : List ℕ → MemberType → Option Data) → g (codes "modelType") text ≡ Some (string n)
      → rows_of s (members_by (sorted (referable ++ rows)) g) ≡ Some (sorted (referable ++ rows))
  typed_rows g named =
      let ms = members_by (sorted (referable ++ rows)) g in
      model_rows s model.first model.rest model.models n (referable ++ rows) model.found ms (typed_name g ∙ named)

-- what is found where each value is changed
pub find_changed : {A B : Type 0} (f : A → B) (n : List ℕ) (ps : List (List ℕ × A))
    → find n (map (λ p. (p.0, f p.1)) ps) ≡ option_map f (find n ps)
find_changed f n [] = refl
find_changed f n (p ∷ ps) = by_name (bytes_eq n p.0) (find_changed f n ps)
  where
    by_name : (b : Bool) → find n (map (λ q. (q.0, f q.1)) ps) ≡ option_map f (find n ps)
        → (if b then Some (f p.1) else find n (map (λ q. (q.0, f q.1)) ps)) ≡ option_map f (if b then Some p.1 else find n ps)
    by_name true rest = refl
    by_name false rest = rest
