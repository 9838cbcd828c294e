-- What fits has no number, and what besides is not too deep nests as deep as a reader of JSON allows.
use Rattle.std.proofs.Common.{◌≡◌, ℕ, zero, suc, ◌+◌, ◌*◌, ◌≤◌, nat_le, ◌&&◌, List, [], ◌∷◌, Bool, true, false, Option, Some, None, option_map, refl, sym, ap, ◌∙◌, subst, arith, bytes_eq, if◌then◌else◌, leb-true}
use Rattle.serde_json.specs.Data.{Data, null, boolean, number, string, array, object, Items, no_items, item, Members, no_members, member, depth, items_depth, members_depth}
use Rattle.aas_json_table.specs.Table.{Sort, reference, key, lang_text, extension, qualifier, specific_asset_id, administration, asset_information, resource, operation_variable, environment, shell, submodel, concept, element, data_element, submodel_metadata, element_metadata, MemberType, text, flag, word, one, many, kept, plain, Row}
use Rattle.aas_json_table.specs.Rows.{Pointer, in_member, in_item, row_named, rows_of}
use Rattle.aas_json_table.specs.Misfit.{misfit, misfit_items, misfit_members, misfit_member, misfit_object, misfit_all, missing}
use Rattle.aas_json_table.specs.TooDeep.{Levels, spend, too_deep, too_deep_items, too_deep_members, too_deep_member, too_deep_object, too_deep_all, within, enter, enter_kept}
use Rattle.aas_json_spelling.specs.Values.{HasWholeNumbers, HaveWholeNumbers, MembersHaveWholeNumbers}
use Rattle.aas_lemmas.proofs.Truth.{and_left, and_right}
use Rattle.aas_json_spelling.proofs.Rows.{each_rows, every}
use Rattle.aas_json_spelling.proofs.Fits.{first_none, map_none}

-- ---- the row of a member that fits

pub row_of : (k : List ℕ) (d : Data) (o : Option Row) → misfit_member k o (λ f. misfit f d) ≡ None → (r : Row) × (o ≡ Some r) × (misfit r.member_type d ≡ None)
row_of k d None e = cc
row_of k d (Some r) e = (r, refl, map_none (λ p. in_member k ∷ p) (misfit r.member_type d) e)

-- the rows of an object that fits
rows_fit : (s : Sort) (ms : Members) → misfit (one s) (object ms) ≡ None → (rows : List Row) × (rows_of s ms ≡ Some rows) × (misfit_members ms rows ≡ None)
rows_fit s ms e = by_rows (rows_of s ms) refl e
  where
    by_rows : (o : Option (List Row)) → rows_of s ms ≡ o → misfit_object o (misfit_members ms) ms ≡ None → (rows : List Row) × (rows_of s ms ≡ Some rows) × (misfit_members ms rows ≡ None)
    by_rows None is e = cc
    by_rows (Some rows) is e = (rows, is, (first_none (misfit_members ms rows) (missing rows ms) e).0)

-- ---- numbers

mutual
  -- What fits has no number, so each of its numbers is whole.
  pub fits_whole : (d : Data) (f : MemberType) → misfit f d ≡ None → HasWholeNumbers d
  fits_whole null f e = tt
  fits_whole (boolean b) f e = tt
  fits_whole (string s) f e = tt
  fits_whole (object ms) (one s) e = let rows = rows_fit s ms e in members_whole ms rows.0 rows.2
  fits_whole (array ds) (many s) e = items_whole ds (one s) 0 e
  fits_whole (array ds) kept e = items_whole ds plain 0 e
  fits_whole (array ds) plain e = items_whole ds plain 0 e
  fits_whole (object ms) plain e = all_whole ms e
  fits_whole (number n) text e = cc
  fits_whole (number n) flag e = cc
  fits_whole (number n) (word ws) e = cc
  fits_whole (number n) (one s) e = cc
  fits_whole (number n) (many s) e = cc
  fits_whole (number n) kept e = cc
  fits_whole (number n) plain e = cc
  fits_whole d f e = cc

  items_whole : (ds : Items) (f : MemberType) (n : ℕ) → misfit_items ds f n ≡ None → HaveWholeNumbers ds
  items_whole no_items f n e = tt
  items_whole (item d ds) f n e =
      let both = first_none (option_map (λ p. in_item n ∷ p) (misfit f d)) (misfit_items ds f (n + 1)) e in
      (fits_whole d f (map_none (λ p. in_item n ∷ p) (misfit f d) both.0), items_whole ds f (n + 1) both.1)

  members_whole : (ms : Members) (rows : List Row) → misfit_members ms rows ≡ None → MembersHaveWholeNumbers ms
  members_whole no_members rows e = tt
  members_whole (member k d ms) rows e =
      let both = first_none (misfit_member k (row_named k rows) (λ f. misfit f d)) (misfit_members ms rows) e in
      let row = row_of k d (row_named k rows) both.0 in
      (fits_whole d row.0.member_type row.2, members_whole ms rows both.1)

  all_whole : (ms : Members) → misfit_all ms ≡ None → MembersHaveWholeNumbers ms
  all_whole no_members e = tt
  all_whole (member k d ms) e =
      let both = first_none (option_map (λ p. in_member k ∷ p) (misfit plain d)) (misfit_all ms) e in
      (fits_whole d plain (map_none (λ p. in_member k ∷ p) (misfit plain d) both.0), all_whole ms both.1)

-- ---- depth: at most three levels of JSON for one of elements, one for one of references or kept data, and so many besides

abbrev room : Sort → ℕ
room reference = 2
room key = 1
room lang_text = 1
room extension = 4
room qualifier = 4
room specific_asset_id = 4
room administration = 3
room asset_information = 6
room resource = 1
room operation_variable = 4
room environment = 9
room shell = 7
room submodel = 6
room concept = 6
room element = 3
room data_element = 3
room submodel_metadata = 6
room element_metadata = 6

-- the levels of JSON that entering an object of a sort gives
abbrev cost : Sort → ℕ
cost reference = 1
cost element = 3
cost data_element = 3
cost s = 0

abbrev type_room : MemberType → ℕ
type_room (one s) = room s
type_room (many s) = suc (room s)
type_room f = 0

abbrev levels : Levels → ℕ
levels l = 3 * l.elements + l.references + l.kept

-- a row has room for what it may hold, below its object
abbrev have_room : ℕ → List Row → Bool
have_room n [] = nat_le 1 n
have_room n (r ∷ rs) = nat_le (suc (type_room r.member_type)) n && have_room n rs

abbrev room_of : Sort → ℕ
room_of s = cost s + room s

table_room : (s : Sort) → each_rows (have_room (room_of s)) s ≡ true
table_room reference = refl
table_room key = refl
table_room lang_text = refl
table_room extension = refl
table_room qualifier = refl
table_room specific_asset_id = refl
table_room administration = refl
table_room asset_information = refl
table_room resource = refl
table_room operation_variable = refl
table_room environment = refl
table_room shell = refl
table_room submodel = refl
table_room concept = refl
table_room element = refl
table_room data_element = refl
table_room submodel_metadata = refl
table_room element_metadata = refl

room_some : (n : ℕ) (rows : List Row) → have_room n rows ≡ true → 1 ≤ n
room_some n [] e = leb-true 1 n e
room_some n (r ∷ rs) e = let first = leb-true (suc (type_room r.member_type)) n (and_left _ _ e) in omega (arith, first)

room_at : (n : ℕ) (rows : List Row) (k : List ℕ) (r : Row) → have_room n rows ≡ true → row_named k rows ≡ Some r → suc (type_room r.member_type) ≤ n
room_at n [] k r e is = cc
room_at n (x ∷ xs) k r e is = by_name (bytes_eq k x.name) is (room_at n xs k r (and_right (nat_le (suc (type_room x.member_type)) n) _ e))
  where
    by_name : (b : Bool) → (if b then Some x else row_named k xs) ≡ Some r → (row_named k xs ≡ Some r → suc (type_room r.member_type) ≤ n) → suc (type_room r.member_type) ≤ n
    by_name true is later = let same : x ≡ r = cc in subst (λ y. suc (type_room y.member_type) ≤ n) same (leb-true (suc (type_room x.member_type)) n (and_left _ _ e))
    by_name false is later = later is

-- entering an object costs levels
abbrev Costs : ℕ → Levels → Option Levels → Type 0
Costs n l None = Unit {0}
Costs n l (Some inner) = levels inner + n ≤ levels l

one_reference : (l : Levels) (n : ℕ) → l.references ≡ n → Costs 1 l (option_map (λ m. record l { references = m }) (spend n))
one_reference l zero e = tt
one_reference l (suc n) e = omega (arith, e)

one_element : (l : Levels) (n : ℕ) → l.elements ≡ n → Costs 3 l (option_map (λ m. record l { elements = m }) (spend n))
one_element l zero e = tt
one_element l (suc n) e = omega (arith, e)

one_kept : (l : Levels) (n : ℕ) → l.kept ≡ n → Costs 1 l (option_map (λ m. record l { kept = m }) (spend n))
one_kept l zero e = tt
one_kept l (suc n) e = omega (arith, e)

no_cost : (l : Levels) → Costs 0 l (Some l)
no_cost l = omega arith

costs : (s : Sort) (l : Levels) → Costs (cost s) l (enter s l)
costs reference l = one_reference l l.references refl
costs key l = no_cost l
costs lang_text l = no_cost l
costs extension l = no_cost l
costs qualifier l = no_cost l
costs specific_asset_id l = no_cost l
costs administration l = no_cost l
costs asset_information l = no_cost l
costs resource l = no_cost l
costs operation_variable l = no_cost l
costs environment l = no_cost l
costs shell l = no_cost l
costs submodel l = no_cost l
costs concept l = no_cost l
costs element l = one_element l l.elements refl
costs data_element l = one_element l l.elements refl
costs submodel_metadata l = no_cost l
costs element_metadata l = no_cost l

-- the level that is entered in an object
inside_of : (s : Sort) (l : Levels) (inside : Levels → Option Pointer) → within (enter s l) inside ≡ None → (inner : Levels) × (levels inner + cost s ≤ levels l) × (inside inner ≡ None)
inside_of s l inside e = by_level (enter s l) (costs s l) e
  where
    by_level : (o : Option Levels) → Costs (cost s) l o → within o inside ≡ None → (inner : Levels) × (levels inner + cost s ≤ levels l) × (inside inner ≡ None)
    by_level None c e = cc
    by_level (Some inner) c e = (inner, c, e)

inside_kept : (l : Levels) (inside : Levels → Option Pointer) → within (enter_kept l) inside ≡ None → (inner : Levels) × (levels inner + 1 ≤ levels l) × (inside inner ≡ None)
inside_kept l inside e = by_level (enter_kept l) (one_kept l l.kept refl) e
  where
    by_level : (o : Option Levels) → Costs 1 l o → within o inside ≡ None → (inner : Levels) × (levels inner + 1 ≤ levels l) × (inside inner ≡ None)
    by_level None c e = cc
    by_level (Some inner) c e = (inner, c, e)

object_depth : (s : Sort) (ms : Members) (l : Levels) → misfit (one s) (object ms) ≡ None → too_deep (one s) (object ms) l ≡ None
    → ((rows : List Row) (inner : Levels) (n : ℕ) → misfit_members ms rows ≡ None → too_deep_members ms rows inner ≡ None → have_room n rows ≡ true → suc (members_depth ms) ≤ levels inner + n)
    → suc (members_depth ms) ≤ levels l + room s
object_depth s ms l e t deep =
    let rows = rows_fit s ms e in
    let low : within (enter s l) (too_deep_object (Some rows.0) (too_deep_members ms)) ≡ None = sym (ap (λ o. within (enter s l) (too_deep_object o (too_deep_members ms))) rows.1) ∙ t in
    let in_l = inside_of s l (too_deep_members ms rows.0) low in
    let inside = deep rows.0 in_l.0 (room_of s) rows.2 in_l.2 (every (have_room (room_of s)) s (table_room s) ms rows.0 rows.1) in
    omega (arith, inside, in_l.1)

mutual
  fits_depth : (d : Data) (f : MemberType) (l : Levels) → misfit f d ≡ None → too_deep f d l ≡ None → depth d ≤ levels l + type_room f
  fits_depth null f l e t = omega arith
  fits_depth (boolean b) f l e t = omega arith
  fits_depth (number n) f l e t = omega arith
  fits_depth (string s) f l e t = omega arith
  fits_depth (object ms) (one s) l e t = object_depth s ms l e t (members_deep ms)
  fits_depth (array ds) (many s) l e t = let inside = items_deep ds (one s) l 0 e t in omega (arith, inside)
  fits_depth (array ds) kept l e t =
      let in_l = inside_kept l (too_deep_items ds plain 0) t in
      let inside = items_deep ds plain in_l.0 0 e in_l.2 in omega (arith, inside, in_l.1)
  fits_depth (array ds) plain l e t =
      let in_l = inside_kept l (too_deep_items ds plain 0) t in
      let inside = items_deep ds plain in_l.0 0 e in_l.2 in omega (arith, inside, in_l.1)
  fits_depth (object ms) plain l e t =
      let in_l = inside_kept l (too_deep_all ms) t in
      let inside = all_deep ms in_l.0 e in_l.2 in omega (arith, inside, in_l.1)
  fits_depth d f l e t = cc

  items_deep : (ds : Items) (f : MemberType) (l : Levels) (n : ℕ) → misfit_items ds f n ≡ None → too_deep_items ds f n l ≡ None → items_depth ds ≤ levels l + type_room f
  items_deep no_items f l n e t = omega arith
  items_deep (item d ds) f l n e t =
      let fit = first_none (option_map (λ p. in_item n ∷ p) (misfit f d)) (misfit_items ds f (n + 1)) e in
      let low = first_none (option_map (λ p. in_item n ∷ p) (too_deep f d l)) (too_deep_items ds f (n + 1) l) t in
      let first = fits_depth d f l (map_none (λ p. in_item n ∷ p) (misfit f d) fit.0) (map_none (λ p. in_item n ∷ p) (too_deep f d l) low.0) in
      let rest = items_deep ds f l (n + 1) fit.1 low.1 in
      omega (arith, first, rest)

  members_deep : (ms : Members) (rows : List Row) (l : Levels) (n : ℕ) → misfit_members ms rows ≡ None → too_deep_members ms rows l ≡ None → have_room n rows ≡ true → suc (members_depth ms) ≤ levels l + n
  members_deep no_members rows l n e t h = let some = room_some n rows h in omega (arith, some)
  members_deep (member k d ms) rows l n e t h =
      let fit = first_none (misfit_member k (row_named k rows) (λ f. misfit f d)) (misfit_members ms rows) e in
      let low = first_none (too_deep_member k (row_named k rows) (λ f. too_deep f d l)) (too_deep_members ms rows l) t in
      let row = row_of k d (row_named k rows) fit.0 in
      let here = map_none (λ p. in_member k ∷ p) (too_deep row.0.member_type d l) (sym (ap (λ x. too_deep_member k x (λ f. too_deep f d l)) row.1) ∙ low.0) in
      let first = fits_depth d row.0.member_type l row.2 here in
      let rest = members_deep ms rows l n fit.1 low.1 h in
      let at = room_at n rows k row.0 h row.1 in
      omega (arith, first, rest, at)

  all_deep : (ms : Members) (l : Levels) → misfit_all ms ≡ None → too_deep_all ms l ≡ None → members_depth ms ≤ levels l
  all_deep no_members l e t = omega arith
  all_deep (member k d ms) l e t =
      let fit = first_none (option_map (λ p. in_member k ∷ p) (misfit plain d)) (misfit_all ms) e in
      let low = first_none (option_map (λ p. in_member k ∷ p) (too_deep plain d l)) (too_deep_all ms l) t in
      let first = fits_depth d plain l (map_none (λ p. in_member k ∷ p) (misfit plain d) fit.0) (map_none (λ p. in_member k ∷ p) (too_deep plain d l) low.0) in
      let rest = all_deep ms l fit.1 low.1 in
      omega (arith, first, rest)

room_most : (s : Sort) → room s ≤ 9
room_most reference = omega arith
room_most key = omega arith
room_most lang_text = omega arith
room_most extension = omega arith
room_most qualifier = omega arith
room_most specific_asset_id = omega arith
room_most administration = omega arith
room_most asset_information = omega arith
room_most resource = omega arith
room_most operation_variable = omega arith
room_most environment = omega arith
room_most shell = omega arith
room_most submodel = omega arith
room_most concept = omega arith
room_most element = omega arith
room_most data_element = omega arith
room_most submodel_metadata = omega arith
room_most element_metadata = omega arith

-- A whole document, and each part of one, nests within the reader's limit.
pub nests : (d : Data) (s : Sort) (l : Levels) → l.elements ≤ 30 → l.references ≤ 4 → l.kept ≤ 12 → misfit (one s) d ≡ None → too_deep (one s) d l ≡ None → depth d ≤ 127
nests d s l e r k fit low =
    let deep = fits_depth d (one s) l fit low in
    let most = room_most s in
    omega (arith, deep, most, e, r, k)
