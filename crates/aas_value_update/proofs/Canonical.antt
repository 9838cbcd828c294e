-- A value that fits the table and has no empty list says itself.
use Rattle.std.proofs.Common.{◌≡◌, ℕ, ◌+◌, ◌&&◌, Bool, true, false, List, [], ◌∷◌, Option, Some, None, is_some, is_none}
use Rattle.std.proofs.Common.{option_map, if◌then◌else◌, Ordering, Less, Equal, Greater, nat_cmp, refl, sym, ap, ap₂}
use Rattle.std.proofs.Common.{◌∙◌, true≢false}
use Rattle.std.specs.Prelude.{bytes_eq}
use Rattle.std.specs.Cmp.Lexicographic.{slice_cmp}
use Rattle.std.specs.Ordering.{match_ordering}
use Rattle.std.proofs.lemmas.Bool.{or_parts, not-true}
use Rattle.serde_json.specs.Data.{Data, null, boolean, number, string, array, object, Items, no_items, item, Members}
use Rattle.serde_json.specs.Data.{no_members, member}
use Rattle.serde_json.specs.Find.{get_member}
use Rattle.aas_lemmas.proofs.Truth.{and_left, and_right}
use Rattle.aas_json_table.specs.Names.{has}
use Rattle.aas_json_table.specs.Table.{Sort, MemberType, text, flag, word, one, many, kept, plain, Row}
use Rattle.aas_json_table.specs.Rows.{in_member, in_item, row_named, rows_of}
use Rattle.aas_json_table.specs.Misfit.{misfit, misfit_items, misfit_members, misfit_member, misfit_object}
use Rattle.aas_json_table.specs.Misfit.{misfit_all, missing}
use Rattle.aas_json_table.specs.TooDeep.{limits, too_deep}
use Rattle.aas_json_table.specs.Canonical.{canonical, canonical_items, canonical_member, canonical_all}
use Rattle.aas_json_table.specs.Canonical.{canonical_object, are_there, members_by, listed, add_item, add}
use Rattle.aas_json_spelling.specs.Values.{IsOrdered, AreOrdered, AreAbove, HasOrder}
use Rattle.aas_json_spelling.proofs.Fits.{first_none, map_none, fits_one, no_fault}
use Rattle.aas_json_spelling.proofs.Nesting.{row_of}
use Rattle.aas_json_spelling.proofs.Objects.{finds, members_above}
use Rattle.aas_json_spelling.proofs.Rows.{rising, rows_rise, same_text}
use Rattle.aas_value.specs.Json.{has_empty_list, some_has_empty_list, member_has_empty_list, is_part}
use Rattle.aas_value_update.proofs.Members.{Rises, known, same_name, get_past}

-- ---- the members that rows give

add_rises : (n : List ℕ) (o : Option Data) (ms : Members) → AreAbove n ms → Rises ms → Rises (add n o ms)
add_rises n None ms a h = h
add_rises n (Some d) ms a h = (a, h)

members_rise : (rows : List Row) (g : List ℕ → MemberType → Option Data)
    → rising rows ≡ true → Rises (members_by rows g)
members_rise [] g e = tt
members_rise (r ∷ rs) g e =
    add_rises r.name (g r.name r.member_type) (members_by rs g)
    (members_above r.name rs g (and_left _ _ e)) (members_rise rs g (and_right _ _ e))

pub order_rises : (ms : Members) → HasOrder ms → Rises ms
order_rises no_members h = tt
order_rises (member k d ms) h = (h.0, order_rises ms h.2)

abbrev said : (List ℕ → MemberType → Option Data) → List ℕ → Option Row → Option Data
said g n None = None
said g n (Some r) = g n r.member_type

add_past : (n l : List ℕ) (o : Option Data) (ms : Members)
    → bytes_eq n l ≡ false → get_member n (add l o ms) ≡ get_member n ms
add_past n l None ms e = refl
add_past n l (Some d) ms e = get_past n l d ms e

look_up : (n : List ℕ) (rows : List Row) (g : List ℕ → MemberType → Option Data)
    → rising rows ≡ true → get_member n (members_by rows g) ≡ said g n (row_named n rows)
look_up n [] g e = refl
look_up n (r ∷ rs) g e = by_name (bytes_eq n r.name) refl (look_up n rs g (and_right _ _ e))
  where
    by_name : (b : Bool) → bytes_eq n r.name ≡ b → get_member n (members_by rs g) ≡ said g n (row_named n rs)
        → get_member n (members_by (r ∷ rs) g) ≡ said g n (if b then Some r else row_named n rs)
    by_name true is more =
        let same = same_name n r.name is in
        ap (λ k. get_member k (members_by (r ∷ rs) g)) same
        ∙ (finds (r ∷ rs) g e).0 ∙ ap (λ k. g k r.member_type) (sym same)
    by_name false is more = add_past n r.name (g r.name r.member_type) (members_by rs g) is ∙ more

-- ---- the induction

word_itself : (b : Bool) (s : List ℕ)
    → (if b then no_fault else Some []) ≡ no_fault → (if b then Some (string s) else None) ≡ Some (string s)
word_itself true s e = refl
word_itself false s e = cc

object_itself : (o : Option (List Row)) (ms : Members) → ((rows : List Row) → o ≡ Some rows → rising rows ≡ true)
    → is_some (canonical_object o (canonical_member ms)) ≡ true
    → misfit_object o (misfit_members ms) ms ≡ None → HasOrder ms
    → ((rows : List Row) → misfit_members ms rows ≡ None → (n : List ℕ)
    → said (canonical_member ms) n (row_named n rows) ≡ get_member n ms)
    → canonical_object o (canonical_member ms) ≡ Some (object ms)
object_itself None ms rise there e order each = absurd (true≢false (sym there))
object_itself (Some rows) ms rise there e order each =
    let up = rise rows refl in
    let clear = first_none (misfit_members ms rows) (missing rows ms) e in
    by_there (are_there rows (canonical_member ms)) there
    (known (members_by rows (canonical_member ms)) ms (members_rise rows (canonical_member ms) up)
    (order_rises ms order) (λ n. look_up n rows (canonical_member ms) up ∙ each rows clear.0 n))
  where
    by_there : (b : Bool) → is_some (if b then Some (object (members_by rows (canonical_member ms))) else None) ≡ true
        → members_by rows (canonical_member ms) ≡ ms
        → (if b then Some (object (members_by rows (canonical_member ms))) else None) ≡ Some (object ms)
    by_there true t same = ap (λ x. Some (object x)) same
    by_there false t same = absurd (true≢false (sym t))

-- what rows say of members of which one more is known
member_said : (n k : List ℕ) (d : Data) (ms : Members) (rows : List Row) (o : Ordering) → slice_cmp nat_cmp n k ≡ o
    → misfit_member k (row_named k rows) (λ f. misfit f d) ≡ None
    → ((f : MemberType) → misfit f d ≡ None → canonical f d ≡ Some d)
    → said (canonical_member ms) n (row_named n rows) ≡ get_member n ms
    → said (λ m f. match_ordering o (canonical_member ms m f) (canonical f d) (canonical_member ms m f)) n
    (row_named n rows)
    ≡ match_ordering o (get_member n ms) (Some d) (get_member n ms)
member_said n k d ms rows Less is e here more = by_row (row_named n rows) more
  where
    by_row : (o : Option Row) → said (canonical_member ms) n o ≡ get_member n ms
        → said (λ m f. canonical_member ms m f) n o ≡ get_member n ms
    by_row None h = h
    by_row (Some r) h = h
member_said n k d ms rows Greater is e here more = by_row (row_named n rows) more
  where
    by_row : (o : Option Row) → said (canonical_member ms) n o ≡ get_member n ms
        → said (λ m f. canonical_member ms m f) n o ≡ get_member n ms
    by_row None h = h
    by_row (Some r) h = h
member_said n k d ms rows Equal is e here more =
    let r = row_of k d (row_named k rows) e in
    let found : row_named n rows ≡ Some r.0 = ap (λ x. row_named x rows) (same_text n k is) ∙ r.1 in
    ap (said (λ m f. canonical f d) n) found ∙ here r.0.member_type r.2

none_said : (n : List ℕ) (o : Option Row) → said (canonical_member no_members) n o ≡ None
none_said n None = refl
none_said n (Some r) = refl

mutual
  itself : (d : Data) (f : MemberType)
      → misfit f d ≡ None → IsOrdered d → has_empty_list d ≡ false → canonical f d ≡ Some d
  itself (string s) text e order full = refl
  itself (boolean b) flag e order full = refl
  itself (string s) (word ws) e order full = word_itself (has ws s) s e
  itself (object ms) (one s) e order full =
      object_itself (rows_of s ms) ms (λ rows is. rows_rise s ms rows is) (fits_one s (object ms) e) e order
      (λ rows clear n. members_itself n ms rows clear order full)
  itself (array no_items) (many s) e order full = absurd (true≢false full)
  itself (array (item d ds)) (many s) e order full =
      ap listed (items_itself (item d ds) (one s) 0 e order full)
  itself (array no_items) kept e order full = absurd (true≢false full)
  itself (array (item d ds)) kept e order full = ap listed (items_itself (item d ds) plain 0 e order full)
  itself null plain e order full = refl
  itself (boolean b) plain e order full = refl
  itself (string s) plain e order full = refl
  itself (array no_items) plain e order full = absurd (true≢false full)
  itself (array (item d ds)) plain e order full =
      ap (λ x. Some (array x)) (items_itself (item d ds) plain 0 e order full)
  itself (object ms) plain e order full = ap (λ x. Some (object x)) (all_itself ms e order full)
  itself (number n) text e order full = cc
  itself (number n) flag e order full = cc
  itself (number n) (word ws) e order full = cc
  itself (number n) (one s) e order full = cc
  itself (number n) (many s) e order full = cc
  itself (number n) kept e order full = cc
  itself (number n) plain e order full = cc
  itself d f e order full = cc

  items_itself : (ds : Items) (f : MemberType) (n : ℕ)
      → misfit_items ds f n ≡ None → AreOrdered ds → some_has_empty_list ds ≡ false → canonical_items ds f ≡ ds
  items_itself no_items f n e order full = refl
  items_itself (item d ds) f n e order full =
      let both = first_none (option_map (λ p. in_item n ∷ p) (misfit f d)) (misfit_items ds f (n + 1)) e in
      ap₂ add_item (itself d f (map_none (λ p. in_item n ∷ p) (misfit f d) both.0) order.0 (or_parts _ _ full).0)
      (items_itself ds f (n + 1) both.1 order.1 (or_parts (has_empty_list d) _ full).1)

  members_itself : (n : List ℕ) (ms : Members) (rows : List Row)
      → misfit_members ms rows ≡ None → HasOrder ms → member_has_empty_list ms ≡ false
      → said (canonical_member ms) n (row_named n rows) ≡ get_member n ms
  members_itself n no_members rows e order full = none_said n (row_named n rows)
  members_itself n (member k d ms) rows e order full =
      let both = first_none (misfit_member k (row_named k rows) (λ f. misfit f d)) (misfit_members ms rows) e in
      by_row (row_named n rows)
      (member_said n k d ms rows (slice_cmp nat_cmp n k) refl both.0 (λ f fit.
      itself d f fit order.1 (or_parts _ _ full).0)
      (members_itself n ms rows both.1 order.2 (or_parts (has_empty_list d) _ full).1))
    where
      by_row : (o : Option Row) {x : Option Data}
          → said (λ m f.
          match_ordering (slice_cmp nat_cmp n k) (canonical_member ms m f) (canonical f d) (canonical_member ms m f))
          n o
          ≡ x
          → said (canonical_member (member k d ms)) n o ≡ x
      by_row None h = h
      by_row (Some r) h = h

  all_itself : (ms : Members)
      → misfit_all ms ≡ None → HasOrder ms → member_has_empty_list ms ≡ false → canonical_all ms ≡ ms
  all_itself no_members e order full = refl
  all_itself (member k d ms) e order full =
      let both = first_none (option_map (λ p. in_member k ∷ p) (misfit plain d)) (misfit_all ms) e in
      ap₂ (add k)
      (itself d plain (map_none (λ p. in_member k ∷ p) (misfit plain d) both.0) order.1 (or_parts _ _ full).0)
      (all_itself ms both.1 order.2 (or_parts (has_empty_list d) _ full).1)

none_is : {A : Type 0} (o : Option A) → is_none o ≡ true → o ≡ None
none_is None e = refl
none_is (Some x) e = absurd (true≢false (sym e))

pub part_fits : (s : Sort) (d : Data) → is_part s d ≡ true → misfit (one s) d ≡ None
part_fits s d e =
    let fit = is_none (misfit (one s) d) in
    none_is (misfit (one s) d) (and_left fit _ (and_left (fit && is_none (too_deep (one s) d limits)) _ e))

-- the canonical JSON of something says itself
pub says_itself : (s : Sort) (d : Data) → is_part s d ≡ true → IsOrdered d → canonical (one s) d ≡ Some d
says_itself s d e order =
    itself d (one s) (part_fits s d e) order
    (not-true (has_empty_list d) (and_right (is_none (misfit (one s) d) && is_none (too_deep (one s) d limits)) _ e))

pub part_shallow : (s : Sort) (d : Data) → is_part s d ≡ true → too_deep (one s) d limits ≡ None
part_shallow s d e =
    let fit = is_none (misfit (one s) d) in
    none_is (too_deep (one s) d limits) (and_right fit _ (and_left (fit && is_none (too_deep (one s) d limits)) _ e))
