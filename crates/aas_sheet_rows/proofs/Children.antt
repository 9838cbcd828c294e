-- How many children a submodel has, before and after an edit.
use Rattle.std.proofs.Common.{◌≡◌, ℕ, zero, suc, ◌+◌, ◌<◌, ◌≤◌, Bool, true, false, cond, if◌then◌else◌, List, [], ◌∷◌}
use Rattle.std.proofs.Common.{length, Option, Some, None, option_and_then, option_map, refl, sym, ap, ◌∙◌, arith}
use Rattle.std.proofs.Common.{length-append, Result, Ok, Err, OnOk, OnErr}
use Rattle.std.specs.List.{count_by}
use Rattle.std.specs.Option.{option_map_or}
use Rattle.std.proofs.lemmas.List.{length-set}
use Rattle.std.proofs.lemmas.List.Edits.{length-remove}
use Rattle.std.proofs.lemmas.List.Sums.{count_by-le-length, sum_by-cons}
use Rattle.std.proofs.lemmas.Option.{slice_get_within}
use Rattle.aas_model.specs.declared.documents.Submodel.{Submodel}
use Rattle.aas_model.specs.declared.element.Element.{Element}
use Rattle.aas_model.specs.declared.element.Role.{Role}
use Rattle.aas_model.specs.declared.path.PathStep.{PathStep}
use Rattle.aas_path_trees.specs.Children.{role_of, with_role}
use Rattle.aas_path_trees.specs.Edits.{inserted, removed, removed_among, replaced, role_under, role_under_found}
use Rattle.aas_path_trees.specs.Edits.{with_last, with_last_at, without_child}
use Rattle.aas_path_trees.specs.ElementAt.{child_by, element_among, element_at, element_below}
use Rattle.aas_path_trees.specs.Patched.{element_count}
use Rattle.aas_path_trees.specs.WithElement.{with_child, with_element}
use Rattle.aas_path_trees.proofs.Paths.{child_by-there}
use Rattle.aas_rows.specs.Children.{is_at, nth_where}
use Rattle.aas_rows.specs.Rows.{rows_of_all}
use Rattle.aas_rows.proofs.Counting.{have_child_count}
use Rattle.aas_store.proofs.Listed.{as_many_of_all}
use Rattle.aas_sheet_index.specs.Sides.{is_below}
use Rattle.aas_sheet_index.specs.declared.side.Side.{Side}
use Rattle.aas_sheet_rows.specs.Table.{children_in, submodel_of, IsTable}
use Rattle.aas_sheet_rows.specs.declared.row.Row.{Row}
use Rattle.aas_sheet_rows.proofs.Edits.{Reached}
use Rattle.aas_sheet_rows.proofs.Loans.{lines_long}
use Rattle.aas_sheet_rows.proofs.Standing.{as_many_sides, children_counted, lines_are}

abbrev Child : Type 0
Child = ℕ × Element

-- ---- edits of a submodel

child_long : (f : Element → Element) (ks : List Element) (o : Option Child) → length (with_child f ks o) ≡ length ks
child_long f ks None = refl
child_long f ks (Some c) = length-set ks c.0 (f c.1)

element_long : (d : Submodel) (p : List PathStep) (w : Element) → length (with_element d p w).kids ≡ length d.kids
element_long d [] w = refl
element_long d (s ∷ p) w = child_long _ d.kids (child_by false s d.kids)

pub replaced_children : (d : Submodel) (p : List PathStep) (e : Element) → length (replaced d p e).kids ≡ length d.kids
replaced_children d p e = by (element_at d p)
  where
    by : (o : Option Element)
        → length (option_map_or (λ o. with_element d p (with_role e (role_of o))) o d).kids ≡ length d.kids
    by None = refl
    by (Some o) = element_long d p (with_role e (role_of o))

pub one_more : (d : Submodel) (p : List PathStep) (e : Element)
    → p ≡ [] → length (inserted d p e).kids ≡ length d.kids + 1
one_more d [] e root = length-append d.kids _
one_more d (s ∷ p) e root = absurd (cc)

pub as_many_below : (d : Submodel) (p : List PathStep) (e : Element)
    → (p ≡ [] → ⊥) → length (inserted d p e).kids ≡ length d.kids
as_many_below d [] e deep = absurd (deep refl)
as_many_below d (s ∷ p) e deep = by (element_at d (s ∷ p))
  where
    into : (o : Element) (r : Option Role)
        → length (option_map_or (with_last_at d (s ∷ p) e (Some o)) r d).kids ≡ length d.kids
    into o None = refl
    into o (Some r) = element_long d (s ∷ p) (with_last o e r)

    by : (o : Option Element)
        → length (option_map_or (with_last_at d (s ∷ p) e o) (role_under_found o e) d).kids ≡ length d.kids
    by None = refl
    by (Some o) = into o (role_under o e)

one_removed : (d : Submodel) (s : PathStep) (e : Element)
    → element_among false s [] d.kids ≡ Some e → length (removed d (s ∷ [])).kids + 1 ≡ length d.kids
unfolding element_below removed_among
one_removed d s e found = by (child_by false s d.kids) refl found
  where
    by : (o : Option Child) → child_by false s d.kids ≡ o → option_and_then (λ (c : Child). Some c.1) o ≡ Some e
        → length (without_child d.kids o) + 1 ≡ length d.kids
    by None is there = absurd (cc)
    by (Some c) is there =
        length-remove d.kids c.0 (slice_get_within d.kids c.0 c.1 (child_by-there false s d.kids c is).1)

one_below : (d : Submodel) (s t : PathStep) (p : List PathStep) → length (removed d (s ∷ t ∷ p)).kids ≡ length d.kids
unfolding removed_among
one_below d s t p = child_long _ d.kids (child_by false s d.kids)

pub one_less : (d : Submodel) (p : List PathStep) (rank : ℕ)
    → Reached d p rank → length p ≡ 1 → length (removed d p).kids + 1 ≡ length d.kids
one_less d p rank r one =
    ap (λ p. length (removed d p).kids + 1) r.path ∙ by r.rest r.found (sym (ap length r.path) ∙ one)
  where
    by : (q : List PathStep) → element_among false r.step q d.kids ≡ Some r.element → length (r.step ∷ q) ≡ 1
        → length (removed d (r.step ∷ q)).kids + 1 ≡ length d.kids
    by [] found e = one_removed d r.step r.element found
    by (t ∷ q) found e = absurd (omega arith)

pub as_many_left : (d : Submodel) (p : List PathStep) (rank : ℕ)
    → Reached d p rank → (length p ≡ 1 → ⊥) → length (removed d p).kids ≡ length d.kids
as_many_left d p rank r deep = ap (λ p. length (removed d p).kids) r.path ∙ by r.rest (ap length r.path)
  where
    by : (q : List PathStep) → length p ≡ length (r.step ∷ q) → length (removed d (r.step ∷ q)).kids ≡ length d.kids
    by [] e = absurd (deep e)
    by (t ∷ q) e = one_below d r.step t q

-- ---- places

split : {X : Type 0} (p : X → Bool) (x : X) (xs : List X) (b : Bool)
    → p x ≡ b → count_by p (x ∷ xs) ≡ length (x ∷ xs) → (p x ≡ true) × (count_by p xs ≡ length xs)
split p x xs b is all =
    by b is (ap (λ b. cond b 1 0 + count_by p xs) (sym is) ∙ sym (sum_by-cons (λ y. cond (p y) 1 0) x xs) ∙ all)
  where
    by : (b : Bool) → p x ≡ b → cond b 1 0 + count_by p xs ≡ suc (length xs)
        → (p x ≡ true) × (count_by p xs ≡ length xs)
    by true is e = (is, omega (arith, e))
    by false is e = let most = count_by-le-length p xs in absurd (omega (arith, most, e))

-- where all pass, the n-th stands in the place n
nth_of_all : {X : Type 0} (p : X → Bool) (xs : List X) (n : ℕ)
    → count_by p xs ≡ length xs → n < length xs → nth_where p n xs ≡ Some n
nth_of_all p [] n all lt = absurd (omega arith)
nth_of_all p (x ∷ xs) zero all lt =
    ap (λ b. if b then Some 0 else option_map (λ i. i + 1) (nth_where p zero xs)) (split p x xs (p x) refl all).0
nth_of_all p (x ∷ xs) (suc n) all lt =
    let parts = split p x xs (p x) refl all in
    let next : n + 1 ≡ suc n = omega arith in
    ap (λ b. option_map (λ i. i + 1) (if b then nth_where p n xs else nth_where p (suc n) xs)) parts.0
    ∙ ap (option_map (λ i. i + 1)) (nth_of_all p xs n parts.1 (omega arith)) ∙ ap (λ m. Some m) next

none_of_two : (b : Bool) (m n : Option ℕ) → m ≡ None → n ≡ None → option_map (λ i. i + 1) (if b then m else n) ≡ None
none_of_two true m n left right = ap (option_map (λ i. i + 1)) left
none_of_two false m n left right = ap (option_map (λ i. i + 1)) right

nth_past : {X : Type 0} (p : X → Bool) (xs : List X) (n : ℕ) → length xs ≤ n → nth_where p n xs ≡ None
nth_past p [] n le = refl
nth_past p (x ∷ xs) zero le = absurd (omega arith)
nth_past p (x ∷ xs) (suc n) le =
    none_of_two (p x) (nth_where p n xs) (nth_where p (suc n) xs)
    (nth_past p xs n (omega arith)) (nth_past p xs (suc n) (omega arith))

-- ---- their tables

module _ (head : Submodel) (rs : List Row) (ss : List Side) (d : Submodel)
    (t : IsTable rs ss) (view : submodel_of head rs ss ≡ d) where
  pub few_children : element_count d ≤ 65536 → length d.kids ≤ 65536
  few_children few =
      let sides = as_many_sides head rs ss d t view in
      let all = as_many_of_all d.kids in
      let counted = children_counted head rs ss d t view in
      let least = count_by-le-length (is_below 0) ss in
      omega (arith, sides, all, counted, least, few)

  -- a table that has as many children after an edit, or is as it was
  pub put_children : {A B : Type 0} (q : Result A B) (new : Submodel) (rs' : List Row) (ss' : List Side) (n : ℕ)
      → n ≡ children_in ss → IsTable rs' ss'
      → OnOk q (submodel_of head rs' ss' ≡ new) → OnErr q (ss' ≡ ss)
      → length new.kids ≡ length d.kids → n ≡ children_in ss'
  put_children (Ok a) new rs' ss' n is t' is_new same long =
      is ∙ children_counted head rs ss d t view ∙ sym long ∙ sym (children_counted head rs' ss' new t' is_new)
  put_children (Err b) new rs' ss' n is t' is_new same long = is ∙ ap children_in (sym same)

  as_many_lines : length (rows_of_all d.kids 1) ≡ length ss
  as_many_lines = ap length (lines_are head rs ss d t view) ∙ lines_long rs ss t.long ∙ t.long

  -- where all rows are those of children, the place of one is its rank
  pub rank_of_place : (n : ℕ)
      → children_in ss ≡ length ss → n < length ss → Some n ≡ nth_where (is_at 1) n (rows_of_all d.kids 1)
  rank_of_place n all lt =
      let lines = as_many_lines in
      let each = have_child_count d.kids 1 ∙ sym (children_counted head rs ss d t view) ∙ all ∙ sym lines in
      sym (nth_of_all (is_at 1) (rows_of_all d.kids 1) n each (omega (arith, lines, lt)))

  pub no_rank_past : (n : ℕ) → length ss ≤ n → None ≡ nth_where (is_at 1) n (rows_of_all d.kids 1)
  no_rank_past n le =
      let lines = as_many_lines in
      sym (nth_past (is_at 1) (rows_of_all d.kids 1) n (omega (arith, lines, le)))
