-- What a value of UTF-8 says as a member of a type is spelled by something: by induction over the value, given that this holds of the objects of each sort.
use Rattle.std.proofs.Common.{◌≡◌, ℕ, List, [], ◌∷◌, Bool, true, false, Option, Some, None, option_map, option_and_then, is_some, if◌then◌else◌, Ordering, Less, Equal, Greater, nat_cmp, map, codes, bytes_eq, refl, sym, ap, ap₂, ◌∙◌, subst, true≢false}
use Rattle.std.specs.Str.{chars, encode_utf8_all}
use Rattle.std.specs.Ordering.{match_ordering}
use Rattle.std.specs.Cmp.Lexicographic.{slice_cmp}
use Rattle.std.proofs.lemmas.Str.{encodes-chars}
use Rattle.std.proofs.lemmas.Slice.Eq.{bytes_eq-Decides}
use Rattle.serde_json.specs.Data.{Data, null, boolean, number, string, array, object, Items, no_items, item, Members, no_members, member}
use Rattle.serde_json.specs.Find.{get_member, as_str}
use Rattle.aas_model_names.specs.Names.{names_of}
use Rattle.aas_json_table.specs.Names.{has}
use Rattle.aas_json_table.specs.Table.{Sort, MemberType, text, flag, word, one, many, kept, plain, Row, parts, model_types}
use Rattle.aas_json_table.specs.Rows.{find, sorted, choose, rows_of}
use Rattle.aas_json_table.specs.Canonical.{canonical, canonical_items, canonical_member, canonical_object, canonical_all, are_there, members_by, listed, add_item, add}
use Rattle.aas_json_table.specs.Spelled.{list_of, onto, text_of}
use Rattle.aas_model.specs.declared.plain.Plain.{Plain, roll-Plain}
use Rattle.aas_model.specs.declared.plain.Plain.TheOpen.{Plain-F}
use Rattle.aas_model.specs.declared.plain.PlainPair.{PlainPair}
use Rattle.aas_json_spelling.specs.Values.{IsText, AreTexts, HasTexts}
use Rattle.aas_json_spelling.specs.Lists.{Each}
use Rattle.aas_json_spelling.specs.Kept.{spell_plain}
use Rattle.aas_json_spelling.proofs.Objects.{canonical_member_is}
use Rattle.aas_json_spelling.proofs.Kept.{Level, spelled_at, spell_at, spell_members}

-- ---- what is spelled by something

-- something of A spells o, if o is there
abbrev pub IsSpelled : {A : Type 0} → (A → Data) → Option Data → Type 0
IsSpelled {A = A} spell o = (t : Option A) × (o ≡ option_map spell t)

-- a list of A spells o
abbrev pub IsListed : {A : Type 0} → (A → Data) → Option Data → Type 0
IsListed {A = A} spell o = (ts : List A) × (o ≡ list_of spell ts)

abbrev pub IsWord : List (List ℕ) → Option Data → Type 0
IsWord ws None = Unit {0}
IsWord ws (Some d) = (w : List ℕ) × (has ws w ≡ true) × (d ≡ string w)

-- the trees of each sort, and how they are spelled
pub record Kinds : Type 1 where
  pub Tree : Sort → Type 0
  pub spell : (s : Sort) → Tree s → Data

-- o is spelled by something as a member of a type
abbrev pub IsTree : Kinds → MemberType → Option Data → Type 0
IsTree kinds text o = IsSpelled text_of o
IsTree kinds flag o = IsSpelled boolean o
IsTree kinds (word ws) o = IsWord ws o
IsTree kinds (one s) o = IsSpelled (kinds.spell s) o
IsTree kinds (many s) o = IsListed (kinds.spell s) o
IsTree kinds kept o = IsListed spell_plain o
IsTree kinds plain o = IsSpelled spell_plain o

-- what is found under each name is spelled by something
abbrev pub Gives : Kinds → (List ℕ → MemberType → Option Data) → Type 0
Gives kinds g = (n : List ℕ) (f : MemberType) → IsTree kinds f (g n f)

-- what an object of each sort says is spelled by something, where what its members say is
abbrev pub Builds : Kinds → Type 0
Builds kinds = (s : Sort) (ms : Members) → HasTexts ms → Gives kinds (canonical_member ms) → IsTree kinds (one s) (canonical (one s) (object ms))

-- ---- attributes

-- what is there is spelled by something
pub there : {A : Type 0} (spell : A → Data) (o : Option Data) → IsSpelled spell o → is_some o ≡ true → (t : A) × (o ≡ Some (spell t))
there spell o t e = by_tree t.0 t.1
  where
    by_tree : (t : Option _) → o ≡ option_map spell t → (t : _) × (o ≡ Some (spell t))
    by_tree None is = absurd (true≢false (sym e ∙ ap is_some is))
    by_tree (Some x) is = (x, is)

first_or_later : {V : Type 0} (name : V → List ℕ) (x : V) (w : List ℕ) (b rest : Bool) → bytes_eq w (name x) ≡ b → (rest ≡ true → (v : V) × (name v ≡ w)) → (if b then true else rest) ≡ true → (v : V) × (name v ≡ w)
first_or_later name x w true rest d later h = (x, sym ((bytes_eq-Decides w (name x)).0 d))
first_or_later name x w false rest d later h = later h

named_by : {V : Type 0} (name : V → List ℕ) (all : List V) (w : List ℕ) → has (names_of name all) w ≡ true → (v : V) × (name v ≡ w)
named_by name [] w e = absurd (true≢false (sym e))
named_by name (x ∷ xs) w e = first_or_later name x w (bytes_eq w (name x)) (has (names_of name xs) w) refl (named_by name xs w) e

-- a word that may be there is the name of a value
pub named_if : {V : Type 0} (name : V → List ℕ) (all : List V) (o : Option Data) → IsWord (names_of name all) o → IsSpelled (λ v. string (name v)) o
named_if name all None t = (None, refl)
named_if name all (Some x) t = let found = named_by name all t.0 t.1 in (Some found.0, ap Some (t.2 ∙ ap string (sym found.1)))

pub named_there : {V : Type 0} (name : V → List ℕ) (all : List V) (o : Option Data) → IsWord (names_of name all) o → is_some o ≡ true → (v : V) × (o ≡ Some (string (name v)))
named_there name all o t e = there (λ v. string (name v)) o (named_if name all o t) e

-- what is its own spelling
pub as_itself : (o : Option Data) → IsSpelled (λ d. d) o
as_itself None = (None, refl)
as_itself (Some d) = (Some d, refl)

-- with nothing more shown of it
pub and_nothing : {A : Type 0} (spell : A → Data) (o : Option Data) → IsSpelled spell o → IsSpelled (λ (t : (t : A) × Unit {0}). spell t.0) o
and_nothing spell o t = (option_map (λ x. (x, tt)) t.0, by_tree t.0 t.1)
  where
    by_tree : (x : Option _) → o ≡ option_map spell x → o ≡ option_map (λ (t : (t : _) × Unit {0}). spell t.0) (option_map (λ y. (y, tt)) x)
    by_tree None e = e
    by_tree (Some y) e = e

-- ---- objects

abbrev pub Object : {A : Type 0} → (A → Data) → List Row → (List ℕ → MemberType → Option Data) → Type 0
Object {A = A} spell rows g = are_there rows g ≡ true → (t : A) × (object (members_by rows g) ≡ spell t)

object_there : {A : Type 0} (spell : A → Data) (rows : List Row) (g : List ℕ → MemberType → Option Data) (b : Bool) → are_there rows g ≡ b → Object spell rows g
    → IsSpelled spell (if b then Some (object (members_by rows g)) else None)
object_there spell rows g true e build = let t = build e in (Some t.0, ap Some t.1)
object_there spell rows g false e build = (None, refl)

-- What an object says is spelled, where it is under each of the rows that the object may have.
pub object_tree : {A : Type 0} (spell : A → Data) (s : Sort) (ms : Members) → ((rows : List Row) → rows_of s ms ≡ Some rows → Object spell rows (canonical_member ms)) → IsSpelled spell (canonical (one s) (object ms))
object_tree spell s ms build = by_rows (rows_of s ms) refl
  where
    by_rows : (o : Option (List Row)) → rows_of s ms ≡ o → IsSpelled spell (canonical_object o (canonical_member ms))
    by_rows None e = (None, refl)
    by_rows (Some rows) e = object_there spell rows (canonical_member ms) (are_there rows (canonical_member ms)) refl (build rows e)

-- the same for a part, which has no modelType
pub part_tree : {A : Type 0} (spell : A → Data) (s : Sort) (ms : Members) → model_types s ≡ [] → Object spell (sorted (parts s)) (canonical_member ms) → IsSpelled spell (canonical (one s) (object ms))
unfolding rows_of
part_tree spell s ms part build = object_tree spell s ms (λ rows e.
    let same : sorted (parts s) ≡ rows = same_rows rows (sym (ap (λ ks. option_map sorted (choose ks (parts s) (get_member (codes "modelType") ms))) part) ∙ e) in
    subst (λ rs. Object spell rs (canonical_member ms)) same build)
  where
    same_rows : (rows : List Row) → Some (sorted (parts s)) ≡ Some rows → sorted (parts s) ≡ rows
    same_rows rows e = cc

-- under a modelType
abbrev pub Model : {A : Type 0} → (A → Data) → (List ℕ → MemberType → Option Data) → List ℕ × List Row → Type 0
Model spell g k = g (codes "modelType") text ≡ Some (string k.0) → Object spell (sorted k.1) g

pick : {A : Type 0} (spell : A → Data) (g : List ℕ → MemberType → Option Data) (ks : List (List ℕ × List Row)) → Each (Model spell g) ks → (n : List ℕ) (rows : List Row) → option_map sorted (find n ks) ≡ Some rows
    → g (codes "modelType") text ≡ Some (string n) → Object spell rows g
pick spell g [] h n rows e m = cc
pick spell g (k ∷ ks) h n rows e m = by_name (bytes_eq n k.0) refl e (λ later. pick spell g ks h.1 n rows later m)
  where
    by_name : (b : Bool) → bytes_eq n k.0 ≡ b → option_map sorted (if b then Some k.1 else find n ks) ≡ Some rows → (option_map sorted (find n ks) ≡ Some rows → Object spell rows g) → Object spell rows g
    by_name true d e later =
        let same : sorted k.1 ≡ rows = cc in
        subst (λ rs. Object spell rs g) same (h.0 (m ∙ ap (λ x. Some (string x)) ((bytes_eq-Decides n k.0).0 d)))
    by_name false d e later = later e

-- where the text of a value is found, the value is that text
text_found : (d : Option Data) (ks : List (List ℕ × List Row)) (rows : List Row) → option_map sorted (option_and_then (λ n. find n ks) (option_and_then as_str d)) ≡ Some rows
    → (n : List ℕ) × (option_and_then (canonical text) d ≡ Some (string n)) × (option_map sorted (find n ks) ≡ Some rows)
text_found None ks rows e = cc
text_found (Some null) ks rows e = cc
text_found (Some (boolean b)) ks rows e = cc
text_found (Some (number n)) ks rows e = cc
text_found (Some (string s)) ks rows e = (s, refl, e)
text_found (Some (array ds)) ks rows e = cc
text_found (Some (object ms)) ks rows e = cc

-- What an object with a modelType says is spelled, where it is under each modelType of its sort.
pub model_tree : {A : Type 0} (spell : A → Data) (s : Sort) (ms : Members) (k : List ℕ × List Row) (ks : List (List ℕ × List Row)) → model_types s ≡ k ∷ ks → Each (Model spell (canonical_member ms)) (k ∷ ks)
    → IsSpelled spell (canonical (one s) (object ms))
unfolding rows_of
model_tree spell s ms k ks models each = object_tree spell s ms (λ rows e.
    let found = text_found (get_member (codes "modelType") ms) (k ∷ ks) rows (sym (ap (λ xs. option_map sorted (choose xs (parts s) (get_member (codes "modelType") ms))) models) ∙ e) in
    pick spell (canonical_member ms) (k ∷ ks) each found.0 rows found.2 (canonical_member_is (codes "modelType") text ms ∙ found.1))

-- ---- the induction

none_tree : (kinds : Kinds) (f : MemberType) → IsTree kinds f None
none_tree kinds text = (None, refl)
none_tree kinds flag = (None, refl)
none_tree kinds (word ws) = tt
none_tree kinds (one s) = (None, refl)
none_tree kinds (many s) = ([], refl)
none_tree kinds kept = ([], refl)
none_tree kinds plain = (None, refl)

word_tree : (ws : List (List ℕ)) (s : List ℕ) (b : Bool) → has ws s ≡ b → IsWord ws (if b then Some (string s) else None)
word_tree ws s true e = (s, e, refl)
word_tree ws s false e = tt

abbrev ItemTrees : {A : Type 0} → (A → Data) → Items → Type 0
ItemTrees {A = A} spell ds = (ts : List A) × (ds ≡ onto (map spell ts) no_items)

add_tree : {A : Type 0} (spell : A → Data) (o : Option Data) (ds : Items) → IsSpelled spell o → ItemTrees spell ds → ItemTrees spell (add_item o ds)
add_tree spell o ds t ts = by_tree t.0 t.1
  where
    by_tree : (t : Option _) → o ≡ option_map spell t → ItemTrees spell (add_item o ds)
    by_tree None is = (ts.0, ap (λ x. add_item x ds) is ∙ ts.1)
    by_tree (Some x) is = (x ∷ ts.0, ap₂ add_item is ts.1)

listed_tree : {A : Type 0} (spell : A → Data) (ds : Items) → ItemTrees spell ds → IsListed spell (listed ds)
listed_tree spell ds ts = (ts.0, ap listed ts.1)

member_tree : (kinds : Kinds) (o : Ordering) (f : MemberType) (a b : Option Data) → IsTree kinds f a → IsTree kinds f b → IsTree kinds f (match_ordering o a b a)
member_tree kinds Less f a b s t = s
member_tree kinds Equal f a b s t = t
member_tree kinds Greater f a b s t = s

-- one level of kept data spells d
plain_is : (x : Level) (d : Data) → d ≡ spelled_at x → IsSpelled spell_plain (Some d)
plain_is x d e = (Some (roll-Plain x), ap Some (e ∙ sym (spell_at x)))

abbrev Pairs : Members → Type 0
Pairs ms = (ps : List PlainPair) × (ms ≡ spell_members ps)

add_pair : (k cs : List ℕ) (o : Option Data) (ms : Members) → encode_utf8_all cs ≡ k → IsSpelled spell_plain o → Pairs ms → Pairs (add k o ms)
add_pair k cs o ms e t ps = by_tree t.0 t.1
  where
    by_tree : (t : Option Plain) → o ≡ option_map spell_plain t → Pairs (add k o ms)
    by_tree None is = (ps.0, ap (λ x. add k x ms) is ∙ ps.1)
    by_tree (Some p) is = (record { name = cs; value = p } ∷ ps.0, ap₂ (λ x xs. add k x xs) is ps.1 ∙ ap (λ n. member n (spell_plain p) (spell_members ps.0)) (sym e))

mutual
  -- What a value of UTF-8 says as a member of a type is spelled by something.
  pub tree : (kinds : Kinds) → Builds kinds → (d : Data) (f : MemberType) → IsText d → IsTree kinds f (canonical f d)
  tree kinds build (string s) text u = (Some (chars s), ap (λ x. Some (string x)) (sym (encodes-chars s u)))
  tree kinds build (boolean b) flag u = (Some b, refl)
  tree kinds build (string s) (word ws) u = word_tree ws s (has ws s) refl
  tree kinds build (object ms) (one s) u = build s ms u (λ n f. tree_in kinds build ms n f u)
  tree kinds build (array ds) (many s) u = listed_tree (kinds.spell s) (canonical_items ds (one s)) (trees kinds build ds s u)
  tree kinds build (array ds) kept u = listed_tree spell_plain (canonical_items ds plain) (plains kinds build ds u)
  tree kinds build null plain u = plain_is Plain-F.Null null refl
  tree kinds build (boolean b) plain u = plain_is (Plain-F.Bool b) (boolean b) refl
  tree kinds build (string s) plain u = plain_is (Plain-F.Str (chars s)) (string s) (ap string (sym (encodes-chars s u)))
  tree kinds build (array ds) plain u = let ps = plains kinds build ds u in plain_is (Plain-F.List ps.0) (array (canonical_items ds plain)) (ap array ps.1)
  tree kinds build (object ms) plain u = let ps = pairs kinds build ms u in plain_is (Plain-F.Map ps.0) (object (canonical_all ms)) (ap object ps.1)
  tree kinds build null text u = (None, refl)
  tree kinds build null flag u = (None, refl)
  tree kinds build null (word ws) u = tt
  tree kinds build null (one s) u = (None, refl)
  tree kinds build null (many s) u = ([], refl)
  tree kinds build null kept u = ([], refl)
  tree kinds build (number n) text u = (None, refl)
  tree kinds build (number n) flag u = (None, refl)
  tree kinds build (number n) (word ws) u = tt
  tree kinds build (number n) (one s) u = (None, refl)
  tree kinds build (number n) (many s) u = ([], refl)
  tree kinds build (number n) kept u = ([], refl)
  tree kinds build (number n) plain u = (None, refl)
  tree kinds build d (word ws) u = tt
  tree kinds build d (many s) u = ([], refl)
  tree kinds build d kept u = ([], refl)
  tree kinds build d f u = (None, refl)

  trees : (kinds : Kinds) → Builds kinds → (ds : Items) (s : Sort) → AreTexts ds → ItemTrees (kinds.spell s) (canonical_items ds (one s))
  trees kinds build no_items s u = ([], refl)
  trees kinds build (item d ds) s u = add_tree (kinds.spell s) (canonical (one s) d) (canonical_items ds (one s)) (tree kinds build d (one s) u.0) (trees kinds build ds s u.1)

  plains : (kinds : Kinds) → Builds kinds → (ds : Items) → AreTexts ds → ItemTrees spell_plain (canonical_items ds plain)
  plains kinds build no_items u = ([], refl)
  plains kinds build (item d ds) u = add_tree spell_plain (canonical plain d) (canonical_items ds plain) (tree kinds build d plain u.0) (plains kinds build ds u.1)

  tree_in : (kinds : Kinds) → Builds kinds → (ms : Members) (n : List ℕ) (f : MemberType) → HasTexts ms → IsTree kinds f (canonical_member ms n f)
  tree_in kinds build no_members n f u = none_tree kinds f
  tree_in kinds build (member k d ms) n f u = member_tree kinds (slice_cmp nat_cmp n k) f (canonical_member ms n f) (canonical f d) (tree_in kinds build ms n f u.2) (tree kinds build d f u.1)

  pairs : (kinds : Kinds) → Builds kinds → (ms : Members) → HasTexts ms → Pairs (canonical_all ms)
  pairs kinds build no_members u = ([], refl)
  pairs kinds build (member k d ms) u = add_pair k (chars k) (canonical plain d) (canonical_all ms) (encodes-chars k u.0) (tree kinds build d plain u.1) (pairs kinds build ms u.2)

-- ---- kept data alone

abbrev itself : Kinds
itself = record { Tree = λ s. Data; spell = λ s d. d }

-- What a value of UTF-8 says as kept data is spelled by a list of kept data.
pub kept_tree : (d : Data) → IsText d → IsListed spell_plain (canonical kept d)
kept_tree d u = tree itself (λ s ms u each. as_itself (canonical (one s) (object ms))) d kept u
