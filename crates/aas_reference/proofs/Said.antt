-- What follows of an object from what it says.
use Rattle.std.proofs.Common.{◌≡◌, ℕ, List, ◌∷◌, true, Option, Some, None, option_and_then, Ordering, Less, Equal, Greater, nat_cmp, refl, sym, ap, ◌∙◌}
use Rattle.std.specs.Cmp.Lexicographic.{slice_cmp}
use Rattle.std.specs.Ordering.{match_ordering}
use Rattle.serde_json.specs.Data.{Data, object, Members, no_members, member}
use Rattle.serde_json.specs.Find.{get_member}
use Rattle.aas_json_table.specs.Table.{Sort, MemberType, one, Row}
use Rattle.aas_json_table.specs.Rows.{in_member, row_named, rows_of, sorted}
use Rattle.aas_json_table.specs.TooDeep.{Levels, too_deep, too_deep_members, too_deep_member}
use Rattle.aas_json_table.specs.Canonical.{canonical, canonical_member, canonical_object, are_there, members_by}
use Rattle.aas_json_table.specs.Spelled.{Attributes, attribute, spelled}
use Rattle.aas_json_spelling.proofs.Rows.{rising, same_text}
use Rattle.aas_json_spelling.proofs.Fits.{first_none, map_none}
use Rattle.aas_json_spelling.proofs.Objects.{Agree, there_and_same, same_under, canonical_member_is}

-- ---- attributes

-- under each row members say the attribute, and what is required is there
pub record Says (rows : List Row) (attributes : Attributes) (ms : Members) : Type 0 where
  pub there : are_there rows (canonical_member ms) ≡ true
  pub agree : Agree rows (canonical_member ms) (attribute attributes)

-- An object that says what attributes spell says each of them.
pub says : (s : Sort) (rows : List Row) (attributes : Attributes) (ms : Members) → rows_of s ms ≡ Some (sorted rows) → rising (sorted rows) ≡ true → canonical (one s) (object ms) ≡ Some (spelled rows attributes)
    → Says (sorted rows) attributes ms
says s rows attributes ms r d e =
    let both = there_and_same (are_there (sorted rows) (canonical_member ms)) (members_by (sorted rows) (canonical_member ms)) (members_by (sorted rows) (attribute attributes))
    (sym (ap (λ x. canonical_object x (canonical_member ms)) r) ∙ e) in
    record { there = both.0; agree = same_under (sorted rows) (canonical_member ms) (attribute attributes) d both.1 }

-- ---- the member that says something

-- the value under a name, which says x as a member of a type
pub record Found (ms : Members) (n : List ℕ) (f : MemberType) (x : Data) : Type 0 where
  pub value : Data
  pub there : get_member n ms ≡ Some value
  pub says : canonical f value ≡ Some x

pub found : (ms : Members) (n : List ℕ) (f : MemberType) (x : Data) → canonical_member ms n f ≡ Some x → Found ms n f x
found ms n f x e = by_member (get_member n ms) refl (sym (canonical_member_is n f ms) ∙ e)
  where
    by_member : (o : Option Data) → get_member n ms ≡ o → option_and_then (canonical f) o ≡ Some x → Found ms n f x
    by_member None is e = cc
    by_member (Some d) is e = record { value = d; there = is; says = e }

-- What lies under a name is not too deep, where nothing among the members is.
pub member_shallow : (ms : Members) (rows : List Row) (l : Levels) (n : List ℕ) (r : Row) (d : Data) → too_deep_members ms rows l ≡ None → row_named n rows ≡ Some r → get_member n ms ≡ Some d → too_deep r.member_type d l ≡ None
member_shallow no_members rows l n r d e named is = cc
member_shallow (member k c ms) rows l n r d e named is =
    let both = first_none (too_deep_member k (row_named k rows) (λ f. too_deep f c l)) (too_deep_members ms rows l) e in
    by_order (slice_cmp nat_cmp n k) refl both.0 is (member_shallow ms rows l n r d both.1 named)
  where
    by_order : (o : Ordering) → slice_cmp nat_cmp n k ≡ o → too_deep_member k (row_named k rows) (λ f. too_deep f c l) ≡ None → match_ordering o (get_member n ms) (Some c) (get_member n ms) ≡ Some d
        → (get_member n ms ≡ Some d → too_deep r.member_type d l ≡ None) → too_deep r.member_type d l ≡ None
    by_order Less o first is later = later is
    by_order Greater o first is later = later is
    by_order Equal o first is later =
        let same : c ≡ d = cc in
        let row : row_named k rows ≡ Some r = ap (λ x. row_named x rows) (sym (same_text n k o)) ∙ named in
        ap (λ x. too_deep r.member_type x l) (sym same) ∙ map_none (λ p. in_member k ∷ p) (too_deep r.member_type c l) (sym (ap (λ x. too_deep_member k x (λ f. too_deep f c l)) row) ∙ first)
