-- What fits the table is read: it has a canonical form.
use Rattle.std.proofs.Common.{◌≡◌, ℕ, ◌+◌, List, [], ◌∷◌, ◌&&◌, Bool, true, false, Option, Some, None, option_map, is_some, if◌then◌else◌, Ordering, Less, Equal, Greater, nat_cmp, refl, sym, ap, ◌∙◌, true≢false}
use Rattle.std.specs.Cmp.Lexicographic.{slice_cmp}
use Rattle.std.specs.Ordering.{match_ordering}
use Rattle.serde_json.specs.Data.{Data, null, boolean, number, string, array, object, Items, no_items, item, Members, no_members, member}
use Rattle.serde_json.specs.Find.{get_member}
use Rattle.aas_json_table.specs.Names.{has}
use Rattle.aas_json_table.specs.Table.{Sort, MemberType, text, flag, word, one, many, kept, plain, Row}
use Rattle.aas_json_table.specs.Rows.{Pointer, in_member, in_item, first_of, row_named, rows_of, is_there}
use Rattle.aas_json_table.specs.Misfit.{misfit, misfit_items, misfit_members, misfit_member, misfit_object, missing}
use Rattle.aas_json_table.specs.Canonical.{canonical, canonical_items, canonical_member, canonical_object, are_there, members_by, listed, add_item}
use Rattle.aas_json_spelling.proofs.Rows.{AllNamed, named, rows_rise, same_text}

pub first_none : {A : Type 0} (a b : Option A) → first_of a b ≡ None → (a ≡ None) × (b ≡ None)
first_none None b e = (refl, e)
first_none (Some x) b e = cc

pub map_none : {A B : Type 0} (f : A → B) (o : Option A) → option_map f o ≡ None → o ≡ None
map_none f None e = refl
map_none f (Some x) e = cc

-- what a required row finds is read
all_there : (ms : Members) (all rows : List Row) → AllNamed all rows → missing rows ms ≡ None
    → ((n : List ℕ) (r : Row) → row_named n all ≡ Some r → is_there (get_member n ms) ≡ true → is_some (canonical_member ms n r.member_type) ≡ true) → are_there rows (canonical_member ms) ≡ true
all_there ms all [] named e each = refl
all_there ms all (r ∷ rs) named e each = row_there r.required (is_there (get_member r.name ms)) refl e (λ m. all_there ms all rs named.1 m each)
  where
    row_there : (b t : Bool) → is_there (get_member r.name ms) ≡ t → (if b then (if t then missing rs ms else Some (in_member r.name ∷ [])) else missing rs ms) ≡ None
        → (missing rs ms ≡ None → are_there rs (canonical_member ms) ≡ true)
        → (if b then is_some (canonical_member ms r.name r.member_type) && are_there rs (canonical_member ms) else are_there rs (canonical_member ms)) ≡ true
    row_there true true h m later = rw (each r.name r named.0 h) (later m)
    row_there true false h m later = cc
    row_there false t h m later = later m

-- ---- the induction

abbrev pub no_fault : Option Pointer
no_fault = None

word_fits : (b : Bool) (s : List ℕ) → (if b then no_fault else Some []) ≡ no_fault → is_some (if b then Some (string s) else None) ≡ true
word_fits true s e = refl
word_fits false s e = cc

pub one_there : (s : Sort) (d : Data) → misfit (one s) d ≡ None → is_there (Some d) ≡ true
one_there s (object ms) e = refl
one_there s null e = cc
one_there s (boolean b) e = cc
one_there s (number n) e = cc
one_there s (string x) e = cc
one_there s (array ds) e = cc

first_listed : (o : Option Data) (ds : Items) → is_some o ≡ true → is_some (listed (add_item o ds)) ≡ true
first_listed (Some d) ds e = refl
first_listed None ds e = absurd (true≢false (sym e))

object_fits : (s : Sort) (ms : Members) (o : Option (List Row)) → ((rows : List Row) → o ≡ Some rows → AllNamed rows rows) → misfit_object o (misfit_members ms) ms ≡ None
    → ((rows : List Row) → misfit_members ms rows ≡ None → (n : List ℕ) (r : Row) → row_named n rows ≡ Some r → is_there (get_member n ms) ≡ true → is_some (canonical_member ms n r.member_type) ≡ true)
    → is_some (canonical_object o (canonical_member ms)) ≡ true
object_fits s ms None named e each = cc
object_fits s ms (Some rows) named e each =
    let both = first_none (misfit_members ms rows) (missing rows ms) e in
    ap (λ b. is_some (if b then Some (object (members_by rows (canonical_member ms))) else None)) (all_there ms rows rows (named rows refl) both.1 (each rows both.0))

member_fits : (o : Ordering) (k n : List ℕ) (d : Data) (ms : Members) (rows : List Row) (r : Row) → slice_cmp nat_cmp n k ≡ o
    → misfit_member k (row_named k rows) (λ f. misfit f d) ≡ None → row_named n rows ≡ Some r
    → ((f : MemberType) → misfit f d ≡ None → is_there (Some d) ≡ true → is_some (canonical f d) ≡ true)
    → (is_there (get_member n ms) ≡ true → is_some (canonical_member ms n r.member_type) ≡ true)
    → is_there (match_ordering o (get_member n ms) (Some d) (get_member n ms)) ≡ true → is_some (match_ordering o (canonical_member ms n r.member_type) (canonical r.member_type d) (canonical_member ms n r.member_type)) ≡ true
member_fits Less k n d ms rows r c e named here later t = later t
member_fits Greater k n d ms rows r c e named here later t = later t
member_fits Equal k n d ms rows r c e named here later t =
    let found : row_named k rows ≡ Some r = ap (λ x. row_named x rows) (sym (same_text n k c)) ∙ named in
    let inner : misfit_member k (Some r) (λ f. misfit f d) ≡ None = ap (λ x. misfit_member k x (λ f. misfit f d)) (sym found) ∙ e in
    here r.member_type (map_none (λ p. in_member k ∷ p) (misfit r.member_type d) inner) t

-- Kept data that fits is read.
pub fits_any : (d : Data) → misfit plain d ≡ None → is_some (canonical plain d) ≡ true
fits_any null e = refl
fits_any (boolean b) e = refl
fits_any (number n) e = cc
fits_any (string s) e = refl
fits_any (array ds) e = refl
fits_any (object ms) e = refl

kept_items : (ds : Items) → misfit_items ds plain 0 ≡ None → is_there (Some (array ds)) ≡ true → is_some (listed (canonical_items ds plain)) ≡ true
kept_items no_items e t = t
kept_items (item d ds) e t =
    let here = map_none (λ p. in_item 0 ∷ p) (misfit plain d) (first_none (option_map (λ p. in_item 0 ∷ p) (misfit plain d)) (misfit_items ds plain (0 + 1)) e).0 in
    first_listed (canonical plain d) (canonical_items ds plain) (fits_any d here)

mutual
  fits : (d : Data) (f : MemberType) → misfit f d ≡ None → is_there (Some d) ≡ true → is_some (canonical f d) ≡ true
  fits (string s) text e t = refl
  fits (boolean b) flag e t = refl
  fits (string s) (word ws) e t = word_fits (has ws s) s e
  fits (object ms) (one s) e t = object_fits s ms (rows_of s ms) (λ rows is. named rows (rows_rise s ms rows is)) e (fits_members ms)
  fits (array ds) (many s) e t = fits_items ds s 0 e t
  fits (array ds) kept e t = kept_items ds e t
  fits d plain e t = fits_any d e
  fits null text e t = cc
  fits null flag e t = cc
  fits null (word ws) e t = cc
  fits null (one s) e t = cc
  fits null (many s) e t = cc
  fits null kept e t = cc
  fits (number n) text e t = cc
  fits (number n) flag e t = cc
  fits (number n) (word ws) e t = cc
  fits (number n) (one s) e t = cc
  fits (number n) (many s) e t = cc
  fits (number n) kept e t = cc
  fits d f e t = cc

  fits_items : (ds : Items) (s : Sort) (n : ℕ) → misfit_items ds (one s) n ≡ None → is_there (Some (array ds)) ≡ true → is_some (listed (canonical_items ds (one s))) ≡ true
  fits_items no_items s n e t = t
  fits_items (item d ds) s n e t =
      let here = map_none (λ p. in_item n ∷ p) (misfit (one s) d) (first_none (option_map (λ p. in_item n ∷ p) (misfit (one s) d)) (misfit_items ds (one s) (n + 1)) e).0 in
      first_listed (canonical (one s) d) (canonical_items ds (one s)) (fits d (one s) here (one_there s d here))

  fits_members : (ms : Members) (rows : List Row) → misfit_members ms rows ≡ None → (n : List ℕ) (r : Row) → row_named n rows ≡ Some r → is_there (get_member n ms) ≡ true
      → is_some (canonical_member ms n r.member_type) ≡ true
  fits_members no_members rows e n r named t = absurd (true≢false (sym t))
  fits_members (member k d ms) rows e n r named t =
      let both = first_none (misfit_member k (row_named k rows) (λ f. misfit f d)) (misfit_members ms rows) e in
      member_fits (slice_cmp nat_cmp n k) k n d ms rows r refl both.0 named (fits d) (fits_members ms rows both.1 n r named) t

-- An object that fits is read.
pub fits_one : (s : Sort) (d : Data) → misfit (one s) d ≡ None → is_some (canonical (one s) d) ≡ true
fits_one s d e = fits d (one s) e (one_there s d e)
