-- The pointer of a mapping fault leads to a place that departs from the table.
use Rattle.std.proofs.Common.{◌≡◌, ◌⊎◌, ℕ, ◌+◌, List, [], ◌∷◌, Bool, true, false, Option, Some, None, if◌then◌else◌, inl, inr, refl, subst, codes}
use Rattle.std.specs.List.{Contains}
use Rattle.std.proofs.lemmas.Option.{same_Some}
use Rattle.std.proofs.lemmas.List.Elements.{Contains-append_left, Contains-append_right, Contains-push}
use Rattle.serde_json.specs.Data.{Data, null, boolean, number, string, array, object, Items, no_items, item, Members, no_members, member}
use Rattle.serde_json.specs.Find.{get_member}
use Rattle.aas_json_table.specs.Names.{has}
use Rattle.aas_json_table.specs.Table.{Sort, MemberType, text, flag, word, one, many, kept, plain, Row}
use Rattle.aas_json_table.specs.Rows.{Pointer, in_member, first_of, row_named, rows_of, is_there}
use Rattle.aas_json_table.specs.Misfit.{misfit, misfit_items, misfit_members, misfit_member, misfit_object, misfit_all, missing}
use Rattle.aas_json_table.specs.TooDeep.{Levels}
use Rattle.aas_json_table.specs.Conforms.{IsMember, Conforms}
use Rattle.aas_json_table.specs.Departs.{Departs, at_value, at_model_type, at_unknown, at_missing, in_object, in_array, in_kept, in_plain_array, in_plain_object}
use Rattle.aas_json_spelling.proofs.Conforms.{clear}
use Rattle.aas_json_spelling.proofs.Places.{first_answer, InMember, InPlain, InItem, later_member, here_member, pick_plain, pick_item, at_index}

-- a value that has a fault doesn't conform
no_conforming : (f : MemberType) (j : Data) (p : Pointer) → misfit f j ≡ Some p → (left : Levels) → Conforms left f j → ⊥
no_conforming f j p e left c = let none = (clear c).fits in cc

itself : (f : MemberType) (j : Data) (p : Pointer) → misfit f j ≡ Some p → Some [] ≡ Some p → Departs f j p
itself f j p e same = subst (λ q. Departs f j q) (same_Some [] p same) (at_value f j (no_conforming f j p e))

word_fault : (b : Bool) (p : Pointer) → (if b then None else Some []) ≡ Some p → Some [] ≡ Some p
word_fault true p e = cc
word_fault false p e = e

-- ---- a row that is required, and has no member

record Lacks (rows : List Row) (ms : Members) (p : Pointer) : Type 0 where
  row : Row
  place : Contains rows row
  required : row.required ≡ true
  absent : is_there (get_member row.name ms) ≡ false
  is : (in_member row.name ∷ []) ≡ p

lacks_later : (r : Row) (rows : List Row) (ms : Members) (p : Pointer) → Lacks rows ms p → Lacks (r ∷ rows) ms p
lacks_later r rows ms p l = record { row = l.row; place = Contains-append_right (r ∷ []) rows l.row l.place; required = l.required; absent = l.absent; is = l.is }

lacks_some : (rows : List Row) (ms : Members) (p : Pointer) → missing rows ms ≡ Some p → Lacks rows ms p
lacks_some [] ms p e = cc
lacks_some (r ∷ rs) ms p e = by_row r.required (is_there (get_member r.name ms)) refl refl e (λ later. lacks_later r rs ms p (lacks_some rs ms p later))
  where
    by_row : (b t : Bool) → r.required ≡ b → is_there (get_member r.name ms) ≡ t → (if b then (if t then missing rs ms else Some (in_member r.name ∷ [])) else missing rs ms) ≡ Some p
        → (missing rs ms ≡ Some p → Lacks (r ∷ rs) ms p) → Lacks (r ∷ rs) ms p
    by_row true true a h e later = later e
    by_row true false a h e later = record { row = r; place = Contains-append_left (r ∷ []) rs r (Contains-push [] r); required = a; absent = h; is = same_Some (in_member r.name ∷ []) p e }
    by_row false t a h e later = later e

-- ---- members and items

record Unknown (rows : List Row) (ms : Members) (p : Pointer) : Type 0 where
  name : List ℕ
  value : Data
  place : IsMember name value ms
  unknown : row_named name rows ≡ None
  is : (in_member name ∷ []) ≡ p

-- a member that has no row, or in which something departs
abbrev Faulty : List Row → Members → Pointer → Type 0
Faulty rows ms p = Unknown rows ms p ⊎ InMember Departs rows ms p

later_faulty : (rows : List Row) (k : List ℕ) (d : Data) (ms : Members) (p : Pointer) → Faulty rows ms p → Faulty rows (member k d ms) p
later_faulty rows k d ms p (inl u) = inl (record { name = u.name; value = u.value; place = inr u.place; unknown = u.unknown; is = u.is })
later_faulty rows k d ms p (inr m) = inr (later_member Departs rows k d ms p m)

pick_faulty : (rows : List Row) (k : List ℕ) (d : Data) (ms : Members) (p : Pointer) → first_of (misfit_member k (row_named k rows) (λ f. misfit f d)) (misfit_members ms rows) ≡ Some p
    → ((f : MemberType) (q : Pointer) → misfit f d ≡ Some q → Departs f d q) → (misfit_members ms rows ≡ Some p → Faulty rows ms p) → Faulty rows (member k d ms) p
pick_faulty rows k d ms p e here rest = by_answer (first_answer (misfit_member k (row_named k rows) (λ f. misfit f d)) (misfit_members ms rows) p e)
  where
    by_row : (o : Option Row) → row_named k rows ≡ o → misfit_member k o (λ f. misfit f d) ≡ Some p → Faulty rows (member k d ms) p
    by_row None a e = inl (record { name = k; value = d; place = inl (refl, refl); unknown = a; is = same_Some (in_member k ∷ []) p e })
    by_row (Some r) a e = inr (here_member Departs rows k d ms r (misfit r.member_type d) p a (here r.member_type) e)

    by_answer : (misfit_member k (row_named k rows) (λ f. misfit f d) ≡ Some p) ⊎ (misfit_members ms rows ≡ Some p) → Faulty rows (member k d ms) p
    by_answer (inl e) = by_row (row_named k rows) refl e
    by_answer (inr e) = later_faulty rows k d ms p (rest e)

-- an object whose modelType is wrong, or which has a member or lacks one
object_departs : (s : Sort) (ms : Members) (p : Pointer) → misfit (one s) (object ms) ≡ Some p → ((rows : List Row) → misfit_members ms rows ≡ Some p → Faulty rows ms p) → Departs (one s) (object ms) p
object_departs s ms p e each = by_rows (rows_of s ms) refl e
  where
    by_member : (rows : List Row) → rows_of s ms ≡ Some rows → Faulty rows ms p → Departs (one s) (object ms) p
    by_member rows a (inl u) = subst (λ q. Departs (one s) (object ms) q) u.is (at_unknown s ms rows u.name u.value a u.place u.unknown)
    by_member rows a (inr m) = subst (λ q. Departs (one s) (object ms) q) m.is (in_object s ms rows m.name m.value m.row m.inside a m.place m.known m.leads)

    by_lack : (rows : List Row) → rows_of s ms ≡ Some rows → Lacks rows ms p → Departs (one s) (object ms) p
    by_lack rows a l = subst (λ q. Departs (one s) (object ms) q) l.is (at_missing s ms rows l.row a l.place l.required l.absent)

    by_answer : (rows : List Row) → rows_of s ms ≡ Some rows → (misfit_members ms rows ≡ Some p) ⊎ (missing rows ms ≡ Some p) → Departs (one s) (object ms) p
    by_answer rows a (inl e) = by_member rows a (each rows e)
    by_answer rows a (inr e) = by_lack rows a (lacks_some rows ms p e)

    by_rows : (o : Option (List Row)) → rows_of s ms ≡ o → misfit_object o (misfit_members ms) ms ≡ Some p → Departs (one s) (object ms) p
    by_rows None a e = subst (λ q. Departs (one s) (object ms) q) (same_Some (in_member (codes "modelType") ∷ []) p e) (at_model_type s ms a)
    by_rows (Some rows) a e = by_answer rows a (first_answer (misfit_members ms rows) (missing rows ms) p e)

plains_depart : (ds : Items) (p : Pointer) → InItem Departs plain 0 ds p → Departs plain (array ds) p
plains_depart ds p i = subst (λ q. Departs plain (array ds) q) (at_index Departs plain ds p i) (in_plain_array ds i.index i.value i.inside i.place i.leads)

mutual
  -- What the walk names departs.
  pub departs : (j : Data) (f : MemberType) (p : Pointer) → misfit f j ≡ Some p → Departs f j p
  departs (string s) (word ws) p e = itself (word ws) (string s) p e (word_fault (has ws s) p e)
  departs (object ms) (one s) p e = object_departs s ms p e (λ rows. members_depart ms rows p)
  departs (array ds) (many s) p e =
      let i = items_depart ds (one s) 0 p e in subst (λ q. Departs (many s) (array ds) q) (at_index Departs (one s) ds p i) (in_array s ds i.index i.value i.inside i.place i.leads)
  departs (array ds) kept p e = in_kept ds p (plains_depart ds p (items_depart ds plain 0 p e))
  departs (array ds) plain p e = plains_depart ds p (items_depart ds plain 0 p e)
  departs (object ms) plain p e = let m = all_depart ms p e in subst (λ q. Departs plain (object ms) q) m.is (in_plain_object ms m.name m.value m.inside m.place m.leads)
  departs (string s) text p e = cc
  departs (boolean b) flag p e = cc
  departs null plain p e = cc
  departs (boolean b) plain p e = cc
  departs (string s) plain p e = cc
  departs null text p e = itself text null p e e
  departs null flag p e = itself flag null p e e
  departs null (word ws) p e = itself (word ws) null p e e
  departs null (one s) p e = itself (one s) null p e e
  departs null (many s) p e = itself (many s) null p e e
  departs null kept p e = itself kept null p e e
  departs (number x) text p e = itself text (number x) p e e
  departs (number x) flag p e = itself flag (number x) p e e
  departs (number x) (word ws) p e = itself (word ws) (number x) p e e
  departs (number x) (one s) p e = itself (one s) (number x) p e e
  departs (number x) (many s) p e = itself (many s) (number x) p e e
  departs (number x) kept p e = itself kept (number x) p e e
  departs (number x) plain p e = itself plain (number x) p e e
  departs j f p e = itself f j p e e

  members_depart : (ms : Members) (rows : List Row) (p : Pointer) → misfit_members ms rows ≡ Some p → Faulty rows ms p
  members_depart no_members rows p e = cc
  members_depart (member k d ms) rows p e = pick_faulty rows k d ms p e (departs d) (members_depart ms rows p)

  all_depart : (ms : Members) (p : Pointer) → misfit_all ms ≡ Some p → InPlain Departs ms p
  all_depart no_members p e = cc
  all_depart (member k d ms) p e = pick_plain Departs k d ms (misfit plain d) (misfit_all ms) p e (departs d plain) (all_depart ms p)

  items_depart : (ds : Items) (f : MemberType) (n : ℕ) (p : Pointer) → misfit_items ds f n ≡ Some p → InItem Departs f n ds p
  items_depart no_items f n p e = cc
  items_depart (item d ds) f n p e = pick_item Departs f n d ds (misfit f d) (misfit_items ds f (n + 1)) p e (departs d f) (items_depart ds f (n + 1) p)
