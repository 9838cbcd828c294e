-- What is spelled as each type of member is good, and spelled from one thing.
use Rattle.std.proofs.Common.{◌≡◌, ℕ, ◌+◌, List, [], ◌∷◌, Bool, true, Option, Some, None, option_map, if◌then◌else◌, map, refl, sym, ap, ap₂, ◌∙◌, bytes_eq, is_some, true≢false}
use Rattle.std.specs.List.{find}
use Rattle.std.specs.Str.{encode_utf8_all}
use Rattle.std.proofs.lemmas.Str.{encodes_same}
use Rattle.serde_json.specs.Data.{Data, boolean, string, array, Items, no_items, item}
use Rattle.aas_model_names.specs.Names.{names_of}
use Rattle.aas_json_table.specs.Names.{has}
use Rattle.aas_json_table.proofs.NameLemmas.{has_found}
use Rattle.aas_json_table.specs.Table.{Sort, MemberType, text, flag, word, one, many, kept, plain}
use Rattle.aas_json_table.specs.Rows.{in_item, first_of}
use Rattle.aas_json_table.specs.Misfit.{misfit, misfit_items}
use Rattle.aas_json_table.specs.TooDeep.{Levels, too_deep, too_deep_items, within, enter_kept}
use Rattle.aas_json_table.specs.Canonical.{canonical, canonical_items, listed, add_item}
use Rattle.aas_json_table.specs.Spelled.{list_of, onto, text_of}
use Rattle.aas_json_spelling.specs.Values.{AreOrdered}
pub use Rattle.aas_json_spelling.specs.Lists.{Each}
use Rattle.aas_json_spelling.specs.Good.{Good}
pub use Rattle.aas_json_spelling.proofs.Lists.{each_of}
use Rattle.aas_json_spelling.proofs.Fits.{first_none, map_none, fits_one, fits_any}

pub none_good : (l : Levels) (f : MemberType) → Good l f None
none_good l f = record { again = refl; fits = refl; low = refl; order = tt }

pub text_good : (l : Levels) (o : Option (List ℕ)) → Good l text (option_map text_of o)
text_good l None = none_good l text
text_good l (Some s) = record { again = refl; fits = refl; low = refl; order = tt }

-- a text of known bytes, as a modelType
pub string_good : (l : Levels) (s : List ℕ) → Good l text (Some (string s))
string_good l s = record { again = refl; fits = refl; low = refl; order = tt }

pub flag_good : (l : Levels) (o : Option Bool) → Good l flag (option_map boolean o)
flag_good l None = none_good l flag
flag_good l (Some b) = record { again = refl; fits = refl; low = refl; order = tt }

-- ---- names of an enumeration

-- each value is the first that has its name
abbrev pub Found : {V : Type 0} → (V → List ℕ) → List V → Type 0
Found {V = V} name all = (v : V) → find (λ u. bytes_eq (name u) (name v)) all ≡ Some v

pub word_good : (l : Levels) (ws : List (List ℕ)) (s : List ℕ) → has ws s ≡ true → Good l (word ws) (Some (string s))
word_good l ws s e = record { again = ap (λ b. if b then Some (string s) else None) e; fits = ap (λ b. if b then None else Some []) e; low = refl; order = tt }

-- The name of a value of an enumeration is good.
pub named_good : {V : Type 0} (l : Levels) (name : V → List ℕ) (all : List V) → Found name all → (v : V) → Good l (word (names_of name all)) (Some (string (name v)))
named_good l name all found v = word_good l (names_of name all) (name v) (has_found name (name v) v all (found v))

pub named_if_good : {V : Type 0} (l : Levels) (name : V → List ℕ) (all : List V) → Found name all → (o : Option V) → Good l (word (names_of name all)) (option_map (λ v. string (name v)) o)
named_if_good l name all found None = none_good l (word (names_of name all))
named_if_good l name all found (Some v) = named_good l name all found v

-- ---- lists

-- each of the list spells what is good
abbrev pub EachGood : {A : Type 0} → Levels → MemberType → (A → Data) → List A → Type 0
EachGood l f spell xs = Each (λ x. Good l f (Some (spell x))) xs

items_again : {A : Type 0} (l : Levels) (f : MemberType) (spell : A → Data) (xs : List A) → EachGood l f spell xs → canonical_items (onto (map spell xs) no_items) f ≡ onto (map spell xs) no_items
items_again l f spell [] e = refl
items_again l f spell (x ∷ xs) e = ap₂ add_item e.0.again (items_again l f spell xs e.1)

items_fit : {A : Type 0} (l : Levels) (f : MemberType) (spell : A → Data) (xs : List A) (n : ℕ) → EachGood l f spell xs → misfit_items (onto (map spell xs) no_items) f n ≡ None
items_fit l f spell [] n e = refl
items_fit l f spell (x ∷ xs) n e = ap₂ first_of (ap (option_map (λ p. in_item n ∷ p)) e.0.fits) (items_fit l f spell xs (n + 1) e.1)

items_low : {A : Type 0} (l : Levels) (f : MemberType) (spell : A → Data) (xs : List A) (n : ℕ) → EachGood l f spell xs → too_deep_items (onto (map spell xs) no_items) f n l ≡ None
items_low l f spell [] n e = refl
items_low l f spell (x ∷ xs) n e = ap₂ first_of (ap (option_map (λ p. in_item n ∷ p)) e.0.low) (items_low l f spell xs (n + 1) e.1)

items_ordered : {A : Type 0} (l : Levels) (f : MemberType) (spell : A → Data) (xs : List A) → EachGood l f spell xs → AreOrdered (onto (map spell xs) no_items)
items_ordered l f spell [] e = tt
items_ordered l f spell (x ∷ xs) e = (e.0.order, items_ordered l f spell xs e.1)

-- A list of objects of a sort that are good is good.
pub list_good : {A : Type 0} (l : Levels) (spell : A → Data) (s : Sort) (xs : List A) → EachGood l (one s) spell xs → Good l (many s) (list_of spell xs)
list_good l spell s [] e = none_good l (many s)
list_good l spell s (x ∷ xs) e = record {
  again = ap listed (items_again l (one s) spell (x ∷ xs) e);
  fits = items_fit l (one s) spell (x ∷ xs) 0 e;
  low = items_low l (one s) spell (x ∷ xs) 0 e;
  order = items_ordered l (one s) spell (x ∷ xs) e;
}

-- A list of kept data that is good inside is good.
pub kept_good : {A : Type 0} (l inner : Levels) (spell : A → Data) (xs : List A) → enter_kept l ≡ Some inner → EachGood inner plain spell xs → Good l kept (list_of spell xs)
kept_good l inner spell [] n e = none_good l kept
kept_good l inner spell (x ∷ xs) n e = record {
  again = ap listed (items_again inner plain spell (x ∷ xs) e);
  fits = items_fit inner plain spell (x ∷ xs) 0 e;
  low = ap (λ o. within o (too_deep_items (onto (map spell (x ∷ xs)) no_items) plain 0)) n ∙ items_low inner plain spell (x ∷ xs) 0 e;
  order = items_ordered inner plain spell (x ∷ xs) e;
}

-- An array of kept data that is good inside is good as kept data.
pub array_good : {A : Type 0} (l inner : Levels) (spell : A → Data) (xs : List A) → enter_kept l ≡ Some inner → EachGood inner plain spell xs → Good l plain (Some (array (onto (map spell xs) no_items)))
array_good l inner spell xs n e = record {
  again = ap (λ ds. Some (array ds)) (items_again inner plain spell xs e);
  fits = items_fit inner plain spell xs 0 e;
  low = ap (λ o. within o (too_deep_items (onto (map spell xs) no_items) plain 0)) n ∙ items_low inner plain spell xs 0 e;
  order = items_ordered inner plain spell xs e;
}

-- ---- and back

added : (o : Option Data) (d : Data) (xs ys : Items) → is_some o ≡ true → add_item o xs ≡ item d ys → (o ≡ Some d) × (xs ≡ ys)
added None d xs ys t e = absurd (true≢false (sym t))
added (Some c) d xs ys t e = (same_first, same_rest)
  where
    same_first : ◌≡◌ {A = Option Data} (Some c) (Some d)
    same_first = cc

    same_rest : xs ≡ ys
    same_rest = cc

-- what fits a form is read in it
abbrev IsRead : MemberType → Type 0
IsRead f = (d : Data) → misfit f d ≡ None → is_some (canonical f d) ≡ true

items_back : {A : Type 0} (l : Levels) (f : MemberType) → IsRead f → (spell : A → Data) (xs : List A) (n : ℕ) → canonical_items (onto (map spell xs) no_items) f ≡ onto (map spell xs) no_items
    → misfit_items (onto (map spell xs) no_items) f n ≡ None → too_deep_items (onto (map spell xs) no_items) f n l ≡ None → AreOrdered (onto (map spell xs) no_items) → EachGood l f spell xs
items_back l f read spell [] n a b c o = tt
items_back l f read spell (x ∷ xs) n a b c o =
    let fit = first_none (option_map (λ p. in_item n ∷ p) (misfit f (spell x))) (misfit_items (onto (map spell xs) no_items) f (n + 1)) b in
    let low = first_none (option_map (λ p. in_item n ∷ p) (too_deep f (spell x) l)) (too_deep_items (onto (map spell xs) no_items) f (n + 1) l) c in
    let fits = map_none (λ p. in_item n ∷ p) (misfit f (spell x)) fit.0 in
    let again = added (canonical f (spell x)) (spell x) (canonical_items (onto (map spell xs) no_items) f) (onto (map spell xs) no_items) (read (spell x) fits) a in (
      record { again = again.0; fits = fits; low = map_none (λ p. in_item n ∷ p) (too_deep f (spell x) l) low.0; order = o.0 },
      items_back l f read spell xs (n + 1) again.1 fit.1 low.1 o.1,
    )

same_listed : (ds es : Items) → listed ds ≡ listed es → ds ≡ es
same_listed no_items no_items e = refl
same_listed no_items (item d es) e = cc
same_listed (item c ds) no_items e = cc
same_listed (item c ds) (item d es) e = cc

-- Each of a good list is good.
pub list_back : {A : Type 0} (l : Levels) (spell : A → Data) (s : Sort) (xs : List A) → Good l (many s) (list_of spell xs) → EachGood l (one s) spell xs
list_back l spell s [] g = tt
list_back l spell s (x ∷ xs) g = items_back l (one s) (fits_one s) spell (x ∷ xs) 0 (same_listed _ _ g.again) g.fits g.low g.order

-- a level of kept data is left, and each of the list is good inside
abbrev pub KeptInside : {A : Type 0} → Levels → (A → Data) → List A → Type 0
KeptInside l spell xs = (inner : Levels) × (enter_kept l ≡ Some inner) × EachGood inner plain spell xs

kept_inside : {A : Type 0} (l : Levels) (spell : A → Data) (xs : List A) (o : Option Levels) → enter_kept l ≡ o → within o (too_deep_items (onto (map spell xs) no_items) plain 0) ≡ None
    → canonical_items (onto (map spell xs) no_items) plain ≡ onto (map spell xs) no_items → misfit_items (onto (map spell xs) no_items) plain 0 ≡ None → AreOrdered (onto (map spell xs) no_items) → KeptInside l spell xs
kept_inside l spell xs None n low again fits order = cc
kept_inside l spell xs (Some inner) n low again fits order = (inner, n, items_back inner plain fits_any spell xs 0 again fits low order)

-- Each of a good list of kept data is good inside.
pub kept_back : {A : Type 0} (l : Levels) (spell : A → Data) (x : A) (xs : List A) → Good l kept (list_of spell (x ∷ xs)) → KeptInside l spell (x ∷ xs)
kept_back l spell x xs g = kept_inside l spell (x ∷ xs) (enter_kept l) refl g.low (same_listed _ _ g.again) g.fits g.order

same_array : (ds es : Items) → ◌≡◌ {A = Option Data} (Some (array ds)) (Some (array es)) → ds ≡ es
same_array ds es e = cc

pub array_back : {A : Type 0} (l : Levels) (spell : A → Data) (xs : List A) → Good l plain (Some (array (onto (map spell xs) no_items))) → KeptInside l spell xs
array_back l spell xs g = kept_inside l spell xs (enter_kept l) refl g.low (same_array _ _ g.again) g.fits g.order

-- ---- the same spelling

pub same_texts : (a b : List ℕ) → ◌≡◌ {A = Option Data} (Some (text_of a)) (Some (text_of b)) → a ≡ b
same_texts a b e = let same : encode_utf8_all a ≡ encode_utf8_all b = cc in encodes_same a b same

pub same_flags : (a b : Bool) → boolean a ≡ boolean b → a ≡ b
same_flags a b e = cc

-- a name is one value's
pub same_named : {V : Type 0} (name : V → List ℕ) (all : List V) → Found name all → (v w : V) → name v ≡ name w → v ≡ w
same_named name all found v w e = let same : Some v ≡ Some w = sym (found v) ∙ ap (λ n. find (λ u. bytes_eq (name u) n) all) e ∙ found w in cc

pub same_words : {V : Type 0} (name : V → List ℕ) (all : List V) → Found name all → (v w : V) → ◌≡◌ {A = Option Data} (Some (string (name v))) (Some (string (name w))) → v ≡ w
same_words name all found v w e = let same : name v ≡ name w = cc in same_named name all found v w same

pub same_options : {A : Type 0} (spell : A → Data) (o p : Option A) → ((x y : A) → o ≡ Some x → p ≡ Some y → spell x ≡ spell y → x ≡ y) → option_map spell o ≡ option_map spell p → o ≡ p
same_options spell None None h e = refl
same_options spell None (Some y) h e = cc
same_options spell (Some x) None h e = cc
same_options spell (Some x) (Some y) h e = let same : spell x ≡ spell y = cc in ap Some (h x y refl refl same)

pub same_texts_if : (o p : Option (List ℕ)) → option_map text_of o ≡ option_map text_of p → o ≡ p
same_texts_if o p e = same_options text_of o p (λ x y i j same. same_texts x y (ap Some same)) e

pub same_flags_if : (o p : Option Bool) → option_map boolean o ≡ option_map boolean p → o ≡ p
same_flags_if o p e = same_options boolean o p (λ x y i j same. same_flags x y same) e

pub same_words_if : {V : Type 0} (name : V → List ℕ) (all : List V) → Found name all → (o p : Option V) → option_map (λ v. string (name v)) o ≡ option_map (λ v. string (name v)) p → o ≡ p
same_words_if name all found o p e = same_options (λ v. string (name v)) o p (λ x y i j same. same_words name all found x y (ap Some same)) e

pub same_items : {A : Type 0} (Q : A → Type 0) (spell : A → Data) (xs ys : List A) → Each (λ x. (y : A) → Q y → spell x ≡ spell y → x ≡ y) xs → Each Q ys
    → onto (map spell xs) no_items ≡ onto (map spell ys) no_items → xs ≡ ys
same_items Q spell [] [] h q e = refl
same_items Q spell [] (y ∷ ys) h q e = cc
same_items Q spell (x ∷ xs) [] h q e = cc
same_items Q spell (x ∷ xs) (y ∷ ys) h q e =
    let first : spell x ≡ spell y = cc in
    let rest : onto (map spell xs) no_items ≡ onto (map spell ys) no_items = cc in
    ap₂ (λ a b. a ∷ b) (h.0 y q.0 first) (same_items Q spell xs ys h.1 q.1 rest)

-- lists of those of which Q holds
pub same_lists_of : {A : Type 0} (Q : A → Type 0) (spell : A → Data) (xs ys : List A) → Each (λ x. (y : A) → Q y → spell x ≡ spell y → x ≡ y) xs → Each Q ys
    → list_of spell xs ≡ list_of spell ys → xs ≡ ys
same_lists_of Q spell xs ys h q e = same_items Q spell xs ys h q (same_listed _ _ e)

abbrev Always : {A : Type 0} → A → Type 0
Always x = Unit {0}

pub same_lists : {A : Type 0} (spell : A → Data) (xs ys : List A) → ((x y : A) → spell x ≡ spell y → x ≡ y) → list_of spell xs ≡ list_of spell ys → xs ≡ ys
same_lists {A = A} spell xs ys h e =
    same_lists_of Always spell xs ys (each_of (λ x. (y : A) → Always y → spell x ≡ spell y → x ≡ y) (λ x y u. h x y) xs) (each_of Always (λ x. tt) ys) e
