-- A value conforms to a type exactly where it has no mapping fault and nothing in it lies too deep.
use Rattle.std.proofs.Common.{◌≡◌, ◌↔◌, ℕ, ◌+◌, List, [], ◌∷◌, Bool, true, false, Option, Some, None, option_map, is_some, if◌then◌else◌, inl, inr, subst, refl, sym, ap, ap₂, ◌∙◌, true≢false}
use Rattle.std.specs.List.{All}
use Rattle.std.proofs.lemmas.List.Elements.{All-nil, All-cons, All-head, All-tail}
use Rattle.serde_json.specs.Data.{Data, null, boolean, number, string, array, object, Items, no_items, item, Members, no_members, member}
use Rattle.serde_json.specs.Find.{get_member}
use Rattle.aas_json_table.specs.Names.{has}
use Rattle.aas_json_table.specs.Table.{Sort, MemberType, text, flag, word, one, many, kept, plain, Row}
use Rattle.aas_json_table.specs.Rows.{Pointer, in_member, in_item, first_of, row_named, rows_of, is_there}
use Rattle.aas_json_table.specs.Misfit.{misfit, misfit_items, misfit_members, misfit_member, misfit_object, misfit_all, missing}
use Rattle.aas_json_table.specs.TooDeep.{Levels, too_deep, too_deep_items, too_deep_members, too_deep_member, too_deep_object, too_deep_all, within, enter}
use Rattle.aas_json_table.specs.Conforms.{IsItem, IsMember, HasRows, Conforms, a_text, a_flag, a_word, an_object, an_array, a_kept, plain_null, plain_flag, plain_text, plain_array, plain_object}
use Rattle.aas_json_spelling.proofs.Fits.{no_fault, first_none, map_none}
use Rattle.aas_json_spelling.proofs.Members.{entered}
use Rattle.aas_json_spelling.proofs.Nesting.{row_of}

-- no fault, and nothing too deep
pub record IsClear (left : Levels) (f : MemberType) (j : Data) : Type 0 where
  pub fits : misfit f j ≡ None
  pub low : too_deep f j left ≡ None

-- ---- what conforms is clear

record AreClear (left : Levels) (f : MemberType) (n : ℕ) (ds : Items) : Type 0 where
  fit : misfit_items ds f n ≡ None
  low : too_deep_items ds f n left ≡ None

items_clear : (left : Levels) (f : MemberType) (n : ℕ) (ds : Items) → ((j : Data) → IsItem j ds → IsClear left f j) → AreClear left f n ds
items_clear left f n no_items each = record { fit = refl; low = refl }
items_clear left f n (item d ds) each =
    let here = each d (inl refl) in
    let rest = items_clear left f (n + 1) ds (λ j is. each j (inr is)) in
    record { fit = ap₂ first_of (ap (option_map (λ p. in_item n ∷ p)) here.fits) rest.fit; low = ap₂ first_of (ap (option_map (λ p. in_item n ∷ p)) here.low) rest.low }

record MembersClear (left : Levels) (rows : List Row) (ms : Members) : Type 0 where
  fit : misfit_members ms rows ≡ None
  low : too_deep_members ms rows left ≡ None

some_there : {A : Type 0} (o : Option A) → is_some o ≡ true → (x : A) × (o ≡ Some x)
some_there None e = absurd (true≢false (sym e))
some_there (Some x) e = (x, refl)

members_clear : (left : Levels) (rows : List Row) (ms : Members) → HasRows rows ms → ((n : List ℕ) (j : Data) (r : Row) → IsMember n j ms → row_named n rows ≡ Some r → IsClear left r.member_type j) → MembersClear left rows ms
members_clear left rows no_members known each = record { fit = refl; low = refl }
members_clear left rows (member k d ms) known each =
    let row = some_there (row_named k rows) (known k d (inl (refl, refl))) in
    let here = each k d row.0 (inl (refl, refl)) row.1 in
    let rest = members_clear left rows ms (λ n j is. known n j (inr is)) (λ n j r is. each n j r (inr is)) in
    record {
      fit = ap₂ first_of (ap (λ x. misfit_member k x (λ f. misfit f d)) row.1 ∙ ap (option_map (λ p. in_member k ∷ p)) here.fits) rest.fit;
      low = ap₂ first_of (ap (λ x. too_deep_member k x (λ f. too_deep f d left)) row.1 ∙ ap (option_map (λ p. in_member k ∷ p)) here.low) rest.low;
    }

record AllClear (left : Levels) (ms : Members) : Type 0 where
  fit : misfit_all ms ≡ None
  low : too_deep_all ms left ≡ None

all_clear : (left : Levels) (ms : Members) → ((n : List ℕ) (j : Data) → IsMember n j ms → IsClear left plain j) → AllClear left ms
all_clear left no_members each = record { fit = refl; low = refl }
all_clear left (member k d ms) each =
    let here = each k d (inl (refl, refl)) in
    let rest = all_clear left ms (λ n j is. each n j (inr is)) in
    record { fit = ap₂ first_of (ap (option_map (λ p. in_member k ∷ p)) here.fits) rest.fit; low = ap₂ first_of (ap (option_map (λ p. in_member k ∷ p)) here.low) rest.low }

-- a row that is required has a member
abbrev IsNeeded : Members → Row → Type 0
IsNeeded ms r = r.required ≡ true → is_there (get_member r.name ms) ≡ true

need_met : (b t : Bool) (rest lack : Option Pointer) → (b ≡ true → t ≡ true) → rest ≡ None → (if b then (if t then rest else lack) else rest) ≡ None
need_met true true rest lack h e = e
need_met true false rest lack h e = absurd (true≢false (sym (h refl)))
need_met false t rest lack h e = e

none_missing : (ms : Members) (rows : List Row) → All (IsNeeded ms) rows → missing rows ms ≡ None
none_missing ms [] each = refl
none_missing ms (r ∷ rs) each =
    need_met r.required (is_there (get_member r.name ms)) (missing rs ms) (Some (in_member r.name ∷ [])) (All-head (IsNeeded ms) r rs each) (none_missing ms rs (All-tail (IsNeeded ms) r rs each))

pub clear : {left : Levels} {f : MemberType} {j : Data} → Conforms left f j → IsClear left f j
clear (a_text left s) = record { fits = refl; low = refl }
clear (a_flag left b) = record { fits = refl; low = refl }
clear (a_word left names s h) = record { fits = ap (λ b. if b then None else Some []) h; low = refl }
clear (an_object left inside s ms rows entered chosen known required each) =
    let inner = members_clear inside rows ms known (λ n j r is row. clear (each n j r is row)) in
    record {
      fits = ap (λ o. misfit_object o (misfit_members ms) ms) chosen ∙ ap₂ first_of inner.fit (none_missing ms rows required);
      low = ap (λ o. within o (too_deep_object (rows_of s ms) (too_deep_members ms))) entered ∙ ap (λ o. too_deep_object o (too_deep_members ms) inside) chosen ∙ inner.low;
    }
clear (an_array left s ds each) = let inner = items_clear left (one s) 0 ds (λ j is. clear (each j is)) in record { fits = inner.fit; low = inner.low }
clear (a_kept left ds h) = let inner = clear h in record { fits = inner.fits; low = inner.low }
clear (plain_null left inside entered) = record { fits = refl; low = ap (λ o. within o (λ _. None)) entered }
clear (plain_flag left inside b entered) = record { fits = refl; low = ap (λ o. within o (λ _. None)) entered }
clear (plain_text left inside s entered) = record { fits = refl; low = ap (λ o. within o (λ _. None)) entered }
clear (plain_array left inside ds entered each) =
    let inner = items_clear inside plain 0 ds (λ j is. clear (each j is)) in record { fits = inner.fit; low = ap (λ o. within o (too_deep_items ds plain 0)) entered ∙ inner.low }
clear (plain_object left inside ms entered each) =
    let inner = all_clear inside ms (λ n j is. clear (each n j is)) in record { fits = inner.fit; low = ap (λ o. within o (too_deep_all ms)) entered ∙ inner.low }

-- ---- what is clear conforms

need_shown : (b t : Bool) (rest : Option Pointer) (p : Pointer) → (if b then (if t then rest else Some p) else rest) ≡ None → (b ≡ true → t ≡ true) × (rest ≡ None)
need_shown true true rest p e = (λ h. refl, e)
need_shown true false rest p e = cc
need_shown false t rest p e = (λ h. absurd (true≢false (sym h)), e)

all_needed : (ms : Members) (rows : List Row) → missing rows ms ≡ None → All (IsNeeded ms) rows
all_needed ms [] e = All-nil (IsNeeded ms)
all_needed ms (r ∷ rs) e =
    let need = need_shown r.required (is_there (get_member r.name ms)) (missing rs ms) (in_member r.name ∷ []) e in All-cons (IsNeeded ms) r rs need.0 (all_needed ms rs need.1)

all_known : (rows : List Row) (ms : Members) → misfit_members ms rows ≡ None → HasRows rows ms
all_known rows no_members e n j is = absurd is
all_known rows (member k d ms) e n j (inl is) =
    let row = row_of k d (row_named k rows) (first_none (misfit_member k (row_named k rows) (λ f. misfit f d)) (misfit_members ms rows) e).0 in
    ap is_some (ap (λ x. row_named x rows) is.0 ∙ row.1)
all_known rows (member k d ms) e n j (inr is) = all_known rows ms (first_none (misfit_member k (row_named k rows) (λ f. misfit f d)) (misfit_members ms rows) e).1 n j is

-- the rows and the level of an object that is clear
record Entered (left : Levels) (s : Sort) (ms : Members) : Type 0 where
  rows : List Row
  inside : Levels
  chosen : rows_of s ms ≡ Some rows
  entered : enter s left ≡ Some inside
  fit : misfit_members ms rows ≡ None
  complete : missing rows ms ≡ None
  low : too_deep_members ms rows inside ≡ None

object_entered : (left : Levels) (s : Sort) (ms : Members) → misfit (one s) (object ms) ≡ None → too_deep (one s) (object ms) left ≡ None → Entered left s ms
object_entered left s ms e t = by_rows (rows_of s ms) (enter s left) refl refl e t
  where
    by_rows : (o : Option (List Row)) (i : Option Levels) → rows_of s ms ≡ o → enter s left ≡ i → misfit_object o (misfit_members ms) ms ≡ None → within i (too_deep_object o (too_deep_members ms)) ≡ None → Entered left s ms
    by_rows None i a b e t = cc
    by_rows (Some rows) None a b e t = cc
    by_rows (Some rows) (Some inside) a b e t =
        let both = first_none (misfit_members ms rows) (missing rows ms) e in
        record { rows = rows; inside = inside; chosen = a; entered = b; fit = both.0; complete = both.1; low = t }

word_known : (b : Bool) → (if b then no_fault else Some []) ≡ no_fault → b ≡ true
word_known true e = refl
word_known false e = cc

mutual
  pub conforms : (j : Data) (left : Levels) (f : MemberType) → misfit f j ≡ None → too_deep f j left ≡ None → Conforms left f j
  conforms (string s) left text e t = a_text left s
  conforms (boolean b) left flag e t = a_flag left b
  conforms (string s) left (word names) e t = a_word left names s (word_known (has names s) e)
  conforms (object ms) left (one s) e t =
      let i = object_entered left s ms e t in
      an_object left i.inside s ms i.rows i.entered i.chosen (all_known i.rows ms i.fit) (all_needed ms i.rows i.complete) (conform_members ms i.inside i.rows i.fit i.low)
  conforms (array ds) left (many s) e t = an_array left s ds (conform_items ds left (one s) 0 e t)
  conforms (array ds) left kept e t =
      let i = entered left (too_deep_items ds plain 0) t in a_kept left ds (plain_array left i.0 ds i.1 (conform_items ds i.0 plain 0 e i.2))
  conforms null left plain e t = let i = entered left (λ _. None) t in plain_null left i.0 i.1
  conforms (boolean b) left plain e t = let i = entered left (λ _. None) t in plain_flag left i.0 b i.1
  conforms (string s) left plain e t = let i = entered left (λ _. None) t in plain_text left i.0 s i.1
  conforms (array ds) left plain e t = let i = entered left (too_deep_items ds plain 0) t in plain_array left i.0 ds i.1 (conform_items ds i.0 plain 0 e i.2)
  conforms (object ms) left plain e t = let i = entered left (too_deep_all ms) t in plain_object left i.0 ms i.1 (conform_all ms i.0 e i.2)
  conforms null left text e t = cc
  conforms null left flag e t = cc
  conforms null left (word names) e t = cc
  conforms null left (one s) e t = cc
  conforms null left (many s) e t = cc
  conforms null left kept e t = cc
  conforms (number n) left text e t = cc
  conforms (number n) left flag e t = cc
  conforms (number n) left (word names) e t = cc
  conforms (number n) left (one s) e t = cc
  conforms (number n) left (many s) e t = cc
  conforms (number n) left kept e t = cc
  conforms (number n) left plain e t = cc
  conforms j left f e t = cc

  conform_items : (ds : Items) (left : Levels) (f : MemberType) (n : ℕ) → misfit_items ds f n ≡ None → too_deep_items ds f n left ≡ None → (j : Data) → IsItem j ds → Conforms left f j
  conform_items no_items left f n e t j is = absurd is
  conform_items (item d ds) left f n e t j (inl is) =
      let fit = first_none (option_map (λ p. in_item n ∷ p) (misfit f d)) (misfit_items ds f (n + 1)) e in
      let low = first_none (option_map (λ p. in_item n ∷ p) (too_deep f d left)) (too_deep_items ds f (n + 1) left) t in
      subst (λ x. Conforms left f x) (sym is) (conforms d left f (map_none (λ p. in_item n ∷ p) (misfit f d) fit.0) (map_none (λ p. in_item n ∷ p) (too_deep f d left) low.0))
  conform_items (item d ds) left f n e t j (inr is) =
      let fit = first_none (option_map (λ p. in_item n ∷ p) (misfit f d)) (misfit_items ds f (n + 1)) e in
      let low = first_none (option_map (λ p. in_item n ∷ p) (too_deep f d left)) (too_deep_items ds f (n + 1) left) t in
      conform_items ds left f (n + 1) fit.1 low.1 j is

  conform_members : (ms : Members) (left : Levels) (rows : List Row) → misfit_members ms rows ≡ None → too_deep_members ms rows left ≡ None → (n : List ℕ) (j : Data) (r : Row) → IsMember n j ms → row_named n rows ≡ Some r
      → Conforms left r.member_type j
  conform_members no_members left rows e t n j r is row = absurd is
  conform_members (member k d ms) left rows e t n j r (inl is) row =
      let found : row_named k rows ≡ Some r = ap (λ x. row_named x rows) (sym is.0) ∙ row in
      let fit = first_none (misfit_member k (row_named k rows) (λ f. misfit f d)) (misfit_members ms rows) e in
      let low = first_none (too_deep_member k (row_named k rows) (λ f. too_deep f d left)) (too_deep_members ms rows left) t in
      subst (λ x. Conforms left r.member_type x) (sym is.1)
      (conforms d left r.member_type (map_none (λ p. in_member k ∷ p) (misfit r.member_type d) (sym (ap (λ x. misfit_member k x (λ f. misfit f d)) found) ∙ fit.0))
      (map_none (λ p. in_member k ∷ p) (too_deep r.member_type d left) (sym (ap (λ x. too_deep_member k x (λ f. too_deep f d left)) found) ∙ low.0)))
  conform_members (member k d ms) left rows e t n j r (inr is) row =
      let fit = first_none (misfit_member k (row_named k rows) (λ f. misfit f d)) (misfit_members ms rows) e in
      let low = first_none (too_deep_member k (row_named k rows) (λ f. too_deep f d left)) (too_deep_members ms rows left) t in
      conform_members ms left rows fit.1 low.1 n j r is row

  conform_all : (ms : Members) (left : Levels) → misfit_all ms ≡ None → too_deep_all ms left ≡ None → (n : List ℕ) (j : Data) → IsMember n j ms → Conforms left plain j
  conform_all no_members left e t n j is = absurd is
  conform_all (member k d ms) left e t n j (inl is) =
      let fit = first_none (option_map (λ p. in_member k ∷ p) (misfit plain d)) (misfit_all ms) e in
      let low = first_none (option_map (λ p. in_member k ∷ p) (too_deep plain d left)) (too_deep_all ms left) t in
      subst (λ x. Conforms left plain x) (sym is.1) (conforms d left plain (map_none (λ p. in_member k ∷ p) (misfit plain d) fit.0) (map_none (λ p. in_member k ∷ p) (too_deep plain d left) low.0))
  conform_all (member k d ms) left e t n j (inr is) =
      let fit = first_none (option_map (λ p. in_member k ∷ p) (misfit plain d)) (misfit_all ms) e in
      let low = first_none (option_map (λ p. in_member k ∷ p) (too_deep plain d left)) (too_deep_all ms left) t in
      conform_all ms left fit.1 low.1 n j is

-- A value conforms to a type exactly where it has no mapping fault, and nothing in it lies too deep.
pub conforms_where_clear : (left : Levels) (f : MemberType) (j : Data) → Conforms left f j ↔ ((misfit f j ≡ None) × (too_deep f j left ≡ None))
conforms_where_clear left f j = (λ c. let is = clear c in (is.fits, is.low), λ h. conforms j left f h.0 h.1)
