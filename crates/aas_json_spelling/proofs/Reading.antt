-- What is read has names that rise: a member goes in at its place.
use Rattle.std.proofs.Common.{◌≡◌, ℕ, List, Bool, true, false, Option, Some, None, option_map, option_and_then, if◌then◌else◌, Ordering, Less, Equal, Greater, nat_cmp, refl, ap, ◌∙◌, subst}
use Rattle.std.specs.Cmp.Lexicographic.{slice_cmp}
use Rattle.std.specs.Ordering.{match_ordering, ordering_reverse}
use Rattle.std.specs.Str.{is_utf8}
use Rattle.std.proofs.lemmas.Cmp.{nat_list_cmp_total}
use Rattle.json.specs.Json as json
use Rattle.json.specs.Lex.{tokens}
use Rattle.serde_json.specs.Data.{Data, array, object, Items, item, Members, no_members, member, put}
use Rattle.serde_json.specs.Read.{of_json, of_items, of_members, read, number_of, max_depth}
use Rattle.aas_json_spelling.specs.Values.{IsOrdered, AreOrdered, HasOrder, AreAbove}
use Rattle.aas_json_spelling.specs.Reading.{reading}

pub above_all : (k l : List ℕ) (ms : Members) → slice_cmp nat_cmp k l ≡ Less → AreAbove l ms → AreAbove k ms
above_all k l no_members e a = tt
above_all k l (member m d ms) e a = (nat_list_cmp_total.trans k l m e a.0, above_all k l ms e a.1)

pub put_above : (o : Ordering) (l k m : List ℕ) (d e : Data) (ms rest : Members) → slice_cmp nat_cmp l k ≡ Less → AreAbove l (member m e ms) → AreAbove l rest
    → AreAbove l (match_ordering o (member k d (member m e ms)) (member m d ms) (member m e rest))
put_above Less l k m d e ms rest less a later = (less, a)
put_above Equal l k m d e ms rest less a later = a
put_above Greater l k m d e ms rest less a later = (a.0, later)

pub still_above : (l k : List ℕ) (d : Data) (ms : Members) → slice_cmp nat_cmp l k ≡ Less → AreAbove l ms → AreAbove l (put k d ms)
still_above l k d no_members less a = (less, tt)
still_above l k d (member m e ms) less a = put_above (slice_cmp nat_cmp k m) l k m d e ms (put k d ms) less a (still_above l k d ms less a.1)

put_at : (o : Ordering) (k m : List ℕ) (d e : Data) (ms rest : Members) → slice_cmp nat_cmp k m ≡ o → IsOrdered d → HasOrder (member m e ms) → (slice_cmp nat_cmp m k ≡ Less → AreAbove m rest) → HasOrder rest
    → HasOrder (match_ordering o (member k d (member m e ms)) (member m d ms) (member m e rest))
put_at Less k m d e ms rest is o h above later = ((is, above_all k m ms is h.0), o, h)
put_at Equal k m d e ms rest is o h above later = (h.0, o, h.2)
put_at Greater k m d e ms rest is o h above later = (above (nat_list_cmp_total.antisymm m k ∙ ap ordering_reverse is), h.1, later)

put_ordered : (k : List ℕ) (d : Data) (ms : Members) → IsOrdered d → HasOrder ms → HasOrder (put k d ms)
put_ordered k d no_members o h = (tt, o, tt)
put_ordered k d (member m e ms) o h = put_at (slice_cmp nat_cmp k m) k m d e ms (put k d ms) refl o h (λ less. still_above m k d ms less h.0) (put_ordered k d ms o h.2)

-- what may have been read is in order
abbrev Ordered : Option Data → Type 0
Ordered None = Unit {0}
Ordered (Some d) = IsOrdered d

abbrev ItemsOrdered : Option Items → Type 0
ItemsOrdered None = Unit {0}
ItemsOrdered (Some ds) = AreOrdered ds

abbrev MembersOrdered : Option Members → Type 0
MembersOrdered None = Unit {0}
MembersOrdered (Some ms) = HasOrder ms

in_array : (o : Option Items) → ItemsOrdered o → Ordered (option_map array o)
in_array None h = tt
in_array (Some ds) h = h

in_object : (o : Option Members) → MembersOrdered o → Ordered (option_map object o)
in_object None h = tt
in_object (Some ms) h = h

one_item : (o : Option Data) (p : Option Items) → Ordered o → ItemsOrdered p → ItemsOrdered (option_and_then (λ d. option_map (item d) p) o)
one_item None p h k = tt
one_item (Some d) None h k = tt
one_item (Some d) (Some ds) h k = (h, k)

one_member : (o : Option Data) (more : Data → Option Members) → Ordered o → ((d : Data) → IsOrdered d → MembersOrdered (more d)) → MembersOrdered (option_and_then more o)
one_member None more h k = tt
one_member (Some d) more h k = k d h

a_number : (s : List ℕ) → Ordered (option_map Data.number (number_of s))
a_number s = by_number (number_of s)
  where
    by_number : (o : Option _) → Ordered (option_map Data.number o)
    by_number None = tt
    by_number (Some n) = tt

mutual
  of_json_ordered : (j : json.Json) → Ordered (of_json j)
  of_json_ordered json.null = tt
  of_json_ordered (json.boolean b) = tt
  of_json_ordered (json.number s) = a_number s
  of_json_ordered (json.string s) = tt
  of_json_ordered (json.array js) = in_array (of_items js) (of_items_ordered js)
  of_json_ordered (json.object ms) = in_object (of_members ms no_members) (of_members_ordered ms no_members tt)

  of_items_ordered : (js : json.Items) → ItemsOrdered (of_items js)
  of_items_ordered json.no_items = tt
  of_items_ordered (json.item j js) = one_item (of_json j) (of_items js) (of_json_ordered j) (of_items_ordered js)

  of_members_ordered : (ms : json.Members) (found : Members) → HasOrder found → MembersOrdered (of_members ms found)
  of_members_ordered json.no_members found h = h
  of_members_ordered (json.member k j ms) found h = one_member (of_json j) (λ d. of_members ms (put k d found)) (of_json_ordered j) (λ d o. of_members_ordered ms (put k d found) (put_ordered k d found o h))

-- What is read is in order.
pub read_ordered : (bytes : List ℕ) (d : Data) → read bytes ≡ Some d → IsOrdered d
read_ordered bytes d e = subst Ordered e (by_json (option_and_then (λ p. json.if_last p.0 p.1) (json.value max_depth (tokens bytes))))
  where
    by_json : (o : Option json.Json) → Ordered (option_and_then of_json o)
    by_json None = tt
    by_json (Some j) = of_json_ordered j

pub reading_ordered : (bytes : List ℕ) (d : Data) → reading bytes ≡ Some d → IsOrdered d
reading_ordered bytes d e = by_test (is_utf8 bytes) e
  where
    by_test : (b : Bool) → (if b then read bytes else None) ≡ Some d → IsOrdered d
    by_test true e = read_ordered bytes d e
    by_test false e = cc
