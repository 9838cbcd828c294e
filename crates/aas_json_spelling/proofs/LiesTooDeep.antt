-- The pointer of the first place that is too deep leads to a place for which no level is left.
use Rattle.std.proofs.Common.{◌≡◌, ◌⊎◌, ℕ, ◌+◌, List, [], Option, Some, None, inl, inr, refl, subst}
use Rattle.std.proofs.lemmas.Option.{same_Some}
use Rattle.serde_json.specs.Data.{Data, null, boolean, number, string, array, object, Items, no_items, item, Members, no_members, member}
use Rattle.aas_json_table.specs.Table.{Sort, MemberType, text, flag, word, one, many, kept, plain, Row}
use Rattle.aas_json_table.specs.Rows.{Pointer, first_of, row_named, rows_of}
use Rattle.aas_json_table.specs.TooDeep.{Levels, too_deep, too_deep_items, too_deep_members, too_deep_member, too_deep_object, too_deep_all, within, enter, enter_kept}
use Rattle.aas_json_table.specs.LiesTooDeep.{LiesTooDeep, at_object, at_plain, in_object, in_array, in_kept, in_plain_array, in_plain_object}
use Rattle.aas_json_spelling.proofs.Places.{first_answer, InMember, InPlain, InItem, later_member, here_member, pick_plain, pick_item, at_index}

pick_deep : (left : Levels) (rows : List Row) (k : List ℕ) (d : Data) (ms : Members) (p : Pointer) → first_of (too_deep_member k (row_named k rows) (λ f. too_deep f d left)) (too_deep_members ms rows left) ≡ Some p
    → ((f : MemberType) (q : Pointer) → too_deep f d left ≡ Some q → LiesTooDeep left f d q) → (too_deep_members ms rows left ≡ Some p → InMember (LiesTooDeep left) rows ms p) → InMember (LiesTooDeep left) rows (member k d ms) p
pick_deep left rows k d ms p e here rest = by_answer (first_answer (too_deep_member k (row_named k rows) (λ f. too_deep f d left)) (too_deep_members ms rows left) p e)
  where
    by_row : (o : Option Row) → row_named k rows ≡ o → too_deep_member k o (λ f. too_deep f d left) ≡ Some p → InMember (LiesTooDeep left) rows (member k d ms) p
    by_row None a e = cc
    by_row (Some r) a e = here_member (LiesTooDeep left) rows k d ms r (too_deep r.member_type d left) p a (here r.member_type) e

    by_answer : (too_deep_member k (row_named k rows) (λ f. too_deep f d left) ≡ Some p) ⊎ (too_deep_members ms rows left ≡ Some p) → InMember (LiesTooDeep left) rows (member k d ms) p
    by_answer (inl e) = by_row (row_named k rows) refl e
    by_answer (inr e) = later_member (LiesTooDeep left) rows k d ms p (rest e)

-- an object for which no level is left, or in which one isn't
object_deep : (s : Sort) (ms : Members) (left : Levels) (p : Pointer) → too_deep (one s) (object ms) left ≡ Some p
    → ((rows : List Row) (inside : Levels) → too_deep_members ms rows inside ≡ Some p → InMember (LiesTooDeep inside) rows ms p) → LiesTooDeep left (one s) (object ms) p
object_deep s ms left p e each = by_level (enter s left) (rows_of s ms) refl refl e
  where
    by_level : (i : Option Levels) (o : Option (List Row)) → enter s left ≡ i → rows_of s ms ≡ o → within i (too_deep_object o (too_deep_members ms)) ≡ Some p → LiesTooDeep left (one s) (object ms) p
    by_level None o a b e = subst (λ q. LiesTooDeep left (one s) (object ms) q) (same_Some [] p e) (at_object left s ms a)
    by_level (Some inside) None a b e = cc
    by_level (Some inside) (Some rows) a b e =
        let m = each rows inside e in
        subst (λ q. LiesTooDeep left (one s) (object ms) q) m.is (in_object left inside s ms rows m.name m.value m.row m.inside a b m.place m.known m.leads)

-- a value of kept data for which no level is left, or in which one isn't
kept_deep : (j : Data) (left : Levels) (inner : Levels → Option Pointer) (p : Pointer) → within (enter_kept left) inner ≡ Some p
    → ((inside : Levels) → enter_kept left ≡ Some inside → inner inside ≡ Some p → LiesTooDeep left plain j p) → LiesTooDeep left plain j p
kept_deep j left inner p e each = by_level (enter_kept left) refl e
  where
    by_level : (i : Option Levels) → enter_kept left ≡ i → within i inner ≡ Some p → LiesTooDeep left plain j p
    by_level None a e = subst (λ q. LiesTooDeep left plain j q) (same_Some [] p e) (at_plain left j a)
    by_level (Some inside) a e = each inside a e

leaf_deep : (j : Data) (left : Levels) (p : Pointer) → within (enter_kept left) (λ _. None) ≡ Some p → LiesTooDeep left plain j p
leaf_deep j left p e = kept_deep j left (λ _. None) p e (λ inside a e. cc)

plains_deep : (ds : Items) (left : Levels) (p : Pointer) → too_deep plain (array ds) left ≡ Some p → ((inside : Levels) → too_deep_items ds plain 0 inside ≡ Some p → InItem (LiesTooDeep inside) plain 0 ds p)
    → LiesTooDeep left plain (array ds) p
plains_deep ds left p e each = kept_deep (array ds) left (too_deep_items ds plain 0) p e (λ inside a e.
    let i = each inside e in subst (λ q. LiesTooDeep left plain (array ds) q) (at_index (LiesTooDeep inside) plain ds p i) (in_plain_array left inside ds i.index i.value i.inside a i.place i.leads))

mutual
  -- What the walk names lies too deep.
  pub lies_too_deep : (j : Data) (left : Levels) (f : MemberType) (p : Pointer) → too_deep f j left ≡ Some p → LiesTooDeep left f j p
  lies_too_deep (object ms) left (one s) p e = object_deep s ms left p e (λ rows inside. members_deep ms inside rows p)
  lies_too_deep (array ds) left (many s) p e =
      let i = items_deep ds left (one s) 0 p e in
      subst (λ q. LiesTooDeep left (many s) (array ds) q) (at_index (LiesTooDeep left) (one s) ds p i) (in_array left s ds i.index i.value i.inside i.place i.leads)
  lies_too_deep (array ds) left kept p e = in_kept left ds p (plains_deep ds left p e (λ inside. items_deep ds inside plain 0 p))
  lies_too_deep (array ds) left plain p e = plains_deep ds left p e (λ inside. items_deep ds inside plain 0 p)
  lies_too_deep (object ms) left plain p e =
      kept_deep (object ms) left (too_deep_all ms) p e (λ inside a e.
      let m = all_deep ms inside p e in subst (λ q. LiesTooDeep left plain (object ms) q) m.is (in_plain_object left inside ms m.name m.value m.inside a m.place m.leads))
  lies_too_deep null left plain p e = leaf_deep null left p e
  lies_too_deep (boolean b) left plain p e = leaf_deep (boolean b) left p e
  lies_too_deep (number x) left plain p e = leaf_deep (number x) left p e
  lies_too_deep (string s) left plain p e = leaf_deep (string s) left p e
  lies_too_deep null left text p e = cc
  lies_too_deep null left flag p e = cc
  lies_too_deep null left (word ws) p e = cc
  lies_too_deep null left (one s) p e = cc
  lies_too_deep null left (many s) p e = cc
  lies_too_deep null left kept p e = cc
  lies_too_deep j left f p e = cc

  members_deep : (ms : Members) (left : Levels) (rows : List Row) (p : Pointer) → too_deep_members ms rows left ≡ Some p → InMember (LiesTooDeep left) rows ms p
  members_deep no_members left rows p e = cc
  members_deep (member k d ms) left rows p e = pick_deep left rows k d ms p e (lies_too_deep d left) (members_deep ms left rows p)

  all_deep : (ms : Members) (left : Levels) (p : Pointer) → too_deep_all ms left ≡ Some p → InPlain (LiesTooDeep left) ms p
  all_deep no_members left p e = cc
  all_deep (member k d ms) left p e = pick_plain (LiesTooDeep left) k d ms (too_deep plain d left) (too_deep_all ms left) p e (lies_too_deep d left plain) (all_deep ms left p)

  items_deep : (ds : Items) (left : Levels) (f : MemberType) (n : ℕ) (p : Pointer) → too_deep_items ds f n left ≡ Some p → InItem (LiesTooDeep left) f n ds p
  items_deep no_items left f n p e = cc
  items_deep (item d ds) left f n p e = pick_item (LiesTooDeep left) f n d ds (too_deep f d left) (too_deep_items ds f (n + 1) left) p e (lies_too_deep d left f) (items_deep ds left f (n + 1) p)
