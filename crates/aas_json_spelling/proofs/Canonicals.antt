-- What a value says as a member of a type is good, where nothing in the value is too deep.
use Rattle.std.proofs.Common.{◌≡◌, ℕ, ◌+◌, List, [], ◌∷◌, ◌&&◌, Bool, true, false, Option, Some, None, option_map, option_and_then, is_some, if◌then◌else◌, Ordering, Less, Equal, Greater, nat_cmp, codes, bytes_eq, refl, sym, ap, ap₂, ◌∙◌, subst, true≢false}
use Rattle.std.specs.Cmp.Lexicographic.{slice_cmp}
use Rattle.std.specs.Ordering.{match_ordering}
use Rattle.std.proofs.lemmas.Slice.Eq.{bytes_eq-Decides}
use Rattle.serde_json.specs.Data.{Data, null, boolean, number, string, array, object, Items, no_items, item, Members, no_members, member}
use Rattle.serde_json.specs.Find.{get_member, as_str}
use Rattle.aas_json_table.specs.Names.{has}
use Rattle.aas_json_table.specs.Table.{Sort, MemberType, text, flag, word, one, many, kept, plain, Row}
use Rattle.aas_json_table.specs.Rows.{in_member, in_item, first_of, row_named, rows_of, is_there}
use Rattle.aas_json_table.specs.Misfit.{misfit_items}
use Rattle.aas_json_table.specs.TooDeep.{Levels, too_deep, too_deep_items, too_deep_members, too_deep_member, too_deep_object, too_deep_all, within, enter, enter_kept}
use Rattle.aas_json_table.specs.Canonical.{canonical, canonical_items, canonical_member, canonical_object, canonical_all, are_there, members_by, listed, add_item, add}
use Rattle.aas_json_spelling.specs.Values.{IsOrdered, AreOrdered, HasOrder, AreAbove}
use Rattle.aas_json_spelling.specs.Good.{Good}
use Rattle.aas_lemmas.proofs.Truth.{and_left, and_right}
use Rattle.aas_json_spelling.proofs.Rows.{rising, rows_rise, rows_attributes, rows_again, AllNamed, named, same_text, is_attribute, are_attributes}
use Rattle.aas_json_spelling.proofs.Fits.{first_none, map_none}
use Rattle.aas_json_spelling.proofs.Objects.{Agree, AreGood, are_full, object_good, finds, canonical_member_is}
use Rattle.aas_json_spelling.proofs.Members.{entered, GoodMembers, none_members, one_member, map_good}
use Rattle.aas_json_spelling.proofs.MemberTypes.{none_good, string_good, word_good}

-- ---- what the table says of an object, it says of its canonical form

same_row : (n : List ℕ) (r : Row) (rows : List Row) → row_named n rows ≡ Some r → n ≡ r.name
same_row n r [] e = cc
same_row n r (x ∷ xs) e = by_name (bytes_eq n x.name) refl e (same_row n r xs)
  where
    by_name : (b : Bool) → bytes_eq n x.name ≡ b → (if b then Some x else row_named n xs) ≡ Some r → (row_named n xs ≡ Some r → n ≡ r.name) → n ≡ r.name
    by_name true d e later = let same : x ≡ r = cc in (bytes_eq-Decides n x.name).0 d ∙ ap (λ y. y.name) same
    by_name false d e later = later e

agreed : (rows : List Row) (g h : List ℕ → MemberType → Option Data) (n : List ℕ) (r : Row) → Agree rows g h → row_named n rows ≡ Some r → g r.name r.member_type ≡ h r.name r.member_type
agreed [] g h n r a e = cc
agreed (x ∷ xs) g h n r a e = by_name (bytes_eq n x.name) e (agreed xs g h n r a.1)
  where
    by_name : (b : Bool) → (if b then Some x else row_named n xs) ≡ Some r → (row_named n xs ≡ Some r → g r.name r.member_type ≡ h r.name r.member_type) → g r.name r.member_type ≡ h r.name r.member_type
    by_name true e later = let same : x ≡ r = cc in subst (λ y. g y.name y.member_type ≡ h y.name y.member_type) same a.0
    by_name false e later = later e

same_str : (o : Option Data) → option_and_then as_str (option_and_then (canonical text) o) ≡ option_and_then as_str o
same_str None = refl
same_str (Some null) = refl
same_str (Some (boolean b)) = refl
same_str (Some (number n)) = refl
same_str (Some (string s)) = refl
same_str (Some (array ds)) = refl
same_str (Some (object ms)) = refl

-- what the canonical form has under a text row is the text that the object has
text_again : (rows : List Row) (ms : Members) (n : List ℕ) (r : Row) → rising rows ≡ true → row_named n rows ≡ Some r → r.member_type ≡ text
    → option_and_then as_str (get_member n (members_by rows (canonical_member ms))) ≡ option_and_then as_str (get_member n ms)
text_again rows ms n r d e t =
    let name = same_row n r rows e in
    let found = agreed rows (λ n f. get_member n (members_by rows (canonical_member ms))) (canonical_member ms) n r (finds rows (canonical_member ms) d) e in
    ap (option_and_then as_str) (ap (λ x. get_member x (members_by rows (canonical_member ms))) name ∙ found ∙ canonical_member_is r.name r.member_type ms ∙ ap (λ f. option_and_then (canonical f) (get_member r.name ms)) t)
    ∙ same_str (get_member r.name ms) ∙ ap (λ x. option_and_then as_str (get_member x ms)) (sym name)

canonical_rows : (s : Sort) (ms : Members) (rows : List Row) → rows_of s ms ≡ Some rows → rows_of s (members_by rows (canonical_member ms)) ≡ Some rows
canonical_rows s ms rows e = rows_again s ms (members_by rows (canonical_member ms)) rows e (λ r named t. text_again rows ms (codes "modelType") r (rows_rise s ms rows e) named t)

-- ---- what is there in a canonical form is no empty list

listed_there : (ds : Items) → is_some (listed ds) ≡ is_there (listed ds)
listed_there no_items = refl
listed_there (item d ds) = refl

there_canonical : (f : MemberType) (d : Data) → is_attribute f ≡ true → is_some (canonical f d) ≡ is_there (canonical f d)
there_canonical text (string s) a = refl
there_canonical flag (boolean b) a = refl
there_canonical (word ws) (string s) a = by_word (has ws s)
  where
    by_word : (b : Bool) → is_some (if b then Some (string s) else None) ≡ is_there (if b then Some (string s) else None)
    by_word true = refl
    by_word false = refl
there_canonical (one s) (object ms) a = by_rows (rows_of s ms)
  where
    by_there : (b : Bool) (ns : Members) → is_some (if b then Some (object ns) else None) ≡ is_there (if b then Some (object ns) else None)
    by_there true ns = refl
    by_there false ns = refl

    by_rows : (o : Option (List Row)) → is_some (canonical_object o (canonical_member ms)) ≡ is_there (canonical_object o (canonical_member ms))
    by_rows None = refl
    by_rows (Some rows) = by_there (are_there rows (canonical_member ms)) (members_by rows (canonical_member ms))
there_canonical (many s) (array ds) a = listed_there (canonical_items ds (one s))
there_canonical kept (array ds) a = listed_there (canonical_items ds plain)
there_canonical plain d a = absurd (true≢false (sym a))
there_canonical text null a = refl
there_canonical flag null a = refl
there_canonical (word ws) null a = refl
there_canonical (one s) null a = refl
there_canonical (many s) null a = refl
there_canonical kept null a = refl
there_canonical text (number n) a = refl
there_canonical flag (number n) a = refl
there_canonical (word ws) (number n) a = refl
there_canonical (one s) (number n) a = refl
there_canonical (many s) (number n) a = refl
there_canonical kept (number n) a = refl
there_canonical f d a = refl

there_member : (o : Option Data) (f : MemberType) → is_attribute f ≡ true → is_some (option_and_then (canonical f) o) ≡ is_there (option_and_then (canonical f) o)
there_member None f a = refl
there_member (Some d) f a = there_canonical f d a

full_as_there : (rows : List Row) (ms : Members) → are_attributes rows ≡ true → are_full rows (canonical_member ms) ≡ are_there rows (canonical_member ms)
full_as_there [] ms a = refl
full_as_there (r ∷ rs) ms a =
    let there = ap is_there (canonical_member_is r.name r.member_type ms) ∙ sym (there_member (get_member r.name ms) r.member_type (and_left _ _ a)) ∙ ap is_some (sym (canonical_member_is r.name r.member_type ms)) in
    ap₂ (λ x y. if r.required then x && y else y) there (full_as_there rs ms (and_right (is_attribute r.member_type) _ a))

-- ---- the induction

record GoodItems (l : Levels) (f : MemberType) (ds : Items) : Type 0 where
  again : canonical_items ds f ≡ ds
  fit : (n : ℕ) → misfit_items ds f n ≡ None
  low : (n : ℕ) → too_deep_items ds f n l ≡ None
  order : AreOrdered ds

one_more : (l : Levels) (f : MemberType) (o : Option Data) (ds : Items) → Good l f o → GoodItems l f ds → GoodItems l f (add_item o ds)
one_more l f None ds g h = h
one_more l f (Some d) ds g h = record {
  again = ap₂ add_item g.again h.again;
  fit = λ n. ap₂ first_of (ap (option_map (λ p. in_item n ∷ p)) g.fits) (h.fit (n + 1));
  low = λ n. ap₂ first_of (ap (option_map (λ p. in_item n ∷ p)) g.low) (h.low (n + 1));
  order = (g.order, h.order);
}

listed_good : (l : Levels) (s : Sort) (ds : Items) → GoodItems l (one s) ds → Good l (many s) (listed ds)
listed_good l s no_items h = none_good l (many s)
listed_good l s (item d ds) h = record { again = ap listed h.again; fits = h.fit 0; low = h.low 0; order = h.order }

listed_kept : (l inner : Levels) (ds : Items) → enter_kept l ≡ Some inner → GoodItems inner plain ds → Good l kept (listed ds)
listed_kept l inner no_items n h = none_good l kept
listed_kept l inner (item d ds) n h = record { again = ap listed h.again; fits = h.fit 0; low = ap (λ o. within o (too_deep_items (item d ds) plain 0)) n ∙ h.low 0; order = h.order }

array_kept : (l inner : Levels) (ds : Items) → enter_kept l ≡ Some inner → GoodItems inner plain ds → Good l plain (Some (array ds))
array_kept l inner ds n h = record { again = ap (λ x. Some (array x)) h.again; fits = h.fit 0; low = ap (λ o. within o (too_deep_items ds plain 0)) n ∙ h.low 0; order = h.order }

added_above : (k l : List ℕ) (o : Option Data) (ms : Members) → slice_cmp nat_cmp k l ≡ Less → AreAbove k ms → AreAbove k (add l o ms)
added_above k l None ms e a = a
added_above k l (Some d) ms e a = (e, a)

canonical_above : (k : List ℕ) (ms : Members) → AreAbove k ms → AreAbove k (canonical_all ms)
canonical_above k no_members a = tt
canonical_above k (member l d ms) a = added_above k l (canonical plain d) (canonical_all ms) a.0 (canonical_above k ms a.1)

each_good : (rows all : List Row) (l : Levels) (ms : Members) → AllNamed all rows → ((n : List ℕ) (r : Row) → row_named n all ≡ Some r → Good l r.member_type (canonical_member ms n r.member_type)) → AreGood l rows (canonical_member ms)
each_good [] all l ms n each = tt
each_good (r ∷ rs) all l ms n each = (each r.name r n.0, each_good rs all l ms n.1 each)

entered_good : (s : Sort) (l : Levels) (ms : Members) (rows : List Row) (o : Option Levels) (there : Bool) → enter s l ≡ o → are_there rows (canonical_member ms) ≡ there → rows_of s ms ≡ Some rows
    → within o (too_deep_object (Some rows) (too_deep_members ms)) ≡ None
    → ((inner : Levels) → too_deep_members ms rows inner ≡ None → (n : List ℕ) (r : Row) → row_named n rows ≡ Some r → Good inner r.member_type (canonical_member ms n r.member_type))
    → Good l (one s) (if there then Some (object (members_by rows (canonical_member ms))) else None)
entered_good s l ms rows o false i t k e each = none_good l (one s)
entered_good s l ms rows None true i t k e each = cc
entered_good s l ms rows (Some inner) true i t k e each =
    let rise = rows_rise s ms rows k in
    object_good s l inner rows (canonical_member ms) i (canonical_rows s ms rows k) rise t (full_as_there rows ms (rows_attributes s ms rows k) ∙ t) (each_good rows rows inner ms (named rows rise) (each inner e))

object_canonical : (s : Sort) (l : Levels) (ms : Members) (o : Option (List Row)) → rows_of s ms ≡ o → within (enter s l) (too_deep_object o (too_deep_members ms)) ≡ None
    → ((rows : List Row) (inner : Levels) → too_deep_members ms rows inner ≡ None → (n : List ℕ) (r : Row) → row_named n rows ≡ Some r → Good inner r.member_type (canonical_member ms n r.member_type))
    → Good l (one s) (canonical_object o (canonical_member ms))
object_canonical s l ms None i e each = none_good l (one s)
object_canonical s l ms (Some rows) i e each = entered_good s l ms rows (enter s l) (are_there rows (canonical_member ms)) refl refl i e (each rows)

member_canonical : (o : Ordering) (k n : List ℕ) (d : Data) (ms : Members) (rows : List Row) (l : Levels) (r : Row) → slice_cmp nat_cmp n k ≡ o
    → too_deep_member k (row_named k rows) (λ f. too_deep f d l) ≡ None → row_named n rows ≡ Some r
    → ((f : MemberType) → too_deep f d l ≡ None → Good l f (canonical f d)) → Good l r.member_type (canonical_member ms n r.member_type)
    → Good l r.member_type (match_ordering o (canonical_member ms n r.member_type) (canonical r.member_type d) (canonical_member ms n r.member_type))
member_canonical Less k n d ms rows l r c e named here later = later
member_canonical Greater k n d ms rows l r c e named here later = later
member_canonical Equal k n d ms rows l r c e named here later =
    let found : row_named k rows ≡ Some r = ap (λ x. row_named x rows) (sym (same_text n k c)) ∙ named in
    here r.member_type (map_none (λ p. in_member k ∷ p) (too_deep r.member_type d l) (sym (ap (λ x. too_deep_member k x (λ f. too_deep f d l)) found) ∙ e))

word_canonical : (l : Levels) (ws : List (List ℕ)) (s : List ℕ) (b : Bool) → has ws s ≡ b → Good l (word ws) (if b then Some (string s) else None)
word_canonical l ws s true e = word_good l ws s e
word_canonical l ws s false e = none_good l (word ws)

mutual
  -- What a value says as a member of a type is good.
  pub canonical_good : (d : Data) (f : MemberType) (l : Levels) → IsOrdered d → too_deep f d l ≡ None → Good l f (canonical f d)
  canonical_good (string s) text l o e = string_good l s
  canonical_good (boolean b) flag l o e = record { again = refl; fits = refl; low = refl; order = tt }
  canonical_good (string s) (word ws) l o e = word_canonical l ws s (has ws s) refl
  canonical_good (object ms) (one s) l o e = object_canonical s l ms (rows_of s ms) refl e (λ rows inner. members_good ms rows inner o)
  canonical_good (array ds) (many s) l o e = listed_good l s (canonical_items ds (one s)) (items_good ds (one s) l 0 o e)
  canonical_good (array ds) kept l o e = let i = entered l (too_deep_items ds plain 0) e in listed_kept l i.0 (canonical_items ds plain) i.1 (items_good ds plain i.0 0 o i.2)
  canonical_good null plain l o e = record { again = refl; fits = refl; low = e; order = tt }
  canonical_good (boolean b) plain l o e = record { again = refl; fits = refl; low = e; order = tt }
  canonical_good (string s) plain l o e = record { again = refl; fits = refl; low = e; order = tt }
  canonical_good (array ds) plain l o e = let i = entered l (too_deep_items ds plain 0) e in array_kept l i.0 (canonical_items ds plain) i.1 (items_good ds plain i.0 0 o i.2)
  canonical_good (object ms) plain l o e = let i = entered l (too_deep_all ms) e in map_good l i.0 (canonical_all ms) i.1 (all_good ms i.0 o i.2)
  canonical_good null text l o e = none_good l text
  canonical_good null flag l o e = none_good l flag
  canonical_good null (word ws) l o e = none_good l (word ws)
  canonical_good null (one s) l o e = none_good l (one s)
  canonical_good null (many s) l o e = none_good l (many s)
  canonical_good null kept l o e = none_good l kept
  canonical_good (number n) text l o e = none_good l text
  canonical_good (number n) flag l o e = none_good l flag
  canonical_good (number n) (word ws) l o e = none_good l (word ws)
  canonical_good (number n) (one s) l o e = none_good l (one s)
  canonical_good (number n) (many s) l o e = none_good l (many s)
  canonical_good (number n) kept l o e = none_good l kept
  canonical_good d f l o e = none_good l f

  items_good : (ds : Items) (f : MemberType) (l : Levels) (n : ℕ) → AreOrdered ds → too_deep_items ds f n l ≡ None → GoodItems l f (canonical_items ds f)
  items_good no_items f l n o e = record { again = refl; fit = λ n. refl; low = λ n. refl; order = tt }
  items_good (item d ds) f l n o e =
      let both = first_none (option_map (λ p. in_item n ∷ p) (too_deep f d l)) (too_deep_items ds f (n + 1) l) e in
      one_more l f (canonical f d) (canonical_items ds f) (canonical_good d f l o.0 (map_none (λ p. in_item n ∷ p) (too_deep f d l) both.0)) (items_good ds f l (n + 1) o.1 both.1)

  members_good : (ms : Members) (rows : List Row) (l : Levels) → HasOrder ms → too_deep_members ms rows l ≡ None → (n : List ℕ) (r : Row) → row_named n rows ≡ Some r → Good l r.member_type (canonical_member ms n r.member_type)
  members_good no_members rows l o e n r named = none_good l r.member_type
  members_good (member k d ms) rows l o e n r named =
      let both = first_none (too_deep_member k (row_named k rows) (λ f. too_deep f d l)) (too_deep_members ms rows l) e in
      member_canonical (slice_cmp nat_cmp n k) k n d ms rows l r refl both.0 named (λ f. canonical_good d f l o.1) (members_good ms rows l o.2 both.1 n r named)

  all_good : (ms : Members) (l : Levels) → HasOrder ms → too_deep_all ms l ≡ None → GoodMembers l (canonical_all ms)
  all_good no_members l o e = none_members l
  all_good (member k d ms) l o e =
      let both = first_none (option_map (λ p. in_member k ∷ p) (too_deep plain d l)) (too_deep_all ms l) e in
      one_member l k (canonical plain d) (canonical_all ms) (canonical_good d plain l o.1 (map_none (λ p. in_member k ∷ p) (too_deep plain d l) both.0)) (canonical_above k ms o.0) (all_good ms l o.2 both.1)
