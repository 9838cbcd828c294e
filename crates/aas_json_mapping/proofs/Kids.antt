-- The children of an element as its attributes: lists of elements, and the variables of an Operation, which stand in three lists by their roles.
use Rattle.std.proofs.Common.{◌≡◌, ℕ, nat_le, List, [], ◌∷◌, ◌++◌, map, filter, cond, Bool, true, false, Some, codes, refl, sym, ap, ap₂, ◌∙◌, subst, true≢false}
use Rattle.std.specs.List.{list_all}
use Rattle.std.proofs.lemmas.Option.{same_Some}
use Rattle.serde_json.specs.Data.{Data, no_items, item}
use Rattle.aas_json_table.specs.Table.{Sort, one, many, operation_variable, element, parts}
use Rattle.aas_json_table.specs.TooDeep.{Levels}
use Rattle.aas_json_table.specs.Canonical.{listed}
use Rattle.aas_json_table.specs.Spelled.{list_of, onto}
use Rattle.aas_model.specs.declared.element.Element.{Element}
use Rattle.aas_model.specs.declared.element.Role.{Role}
use Rattle.aas_model.specs.declared.element.Role.TheVariants as role
use Rattle.aas_json_spelling.specs.Lists.{Each}
use Rattle.aas_json_spelling.specs.Good.{Good}
use Rattle.aas_json_spelling.proofs.Lists.{each_both}
use Rattle.aas_lemmas.proofs.Truth.{and_left, and_right}
use Rattle.aas_json_spelling.proofs.MemberTypes.{EachGood, list_good, list_back, same_lists_of}
use Rattle.aas_json_mapping.specs.Elements.{Child, is_input, is_output, is_inoutput, spell_variable, children_attribute, variables_attribute, spelled_child, spell_element}
use Rattle.aas_json_mapping.specs.Whole.{is_variable, rank, in_order, is_placed}
use Rattle.aas_json_mapping.proofs.Rows.{each_filtered, same_rows}
use Rattle.aas_json_mapping.proofs.Facts.{part_good, part_back}
use Rattle.aas_json_mapping.proofs.Elements.{role_of, child_role, ranks}

-- ---- lists of children

onto_children : (ks : List Element) → onto (map (λ (c : Child). c.spelling) (map spelled_child ks)) no_items ≡ onto (map spell_element ks) no_items
onto_children [] = refl
onto_children (k ∷ ks) = ap (item (spell_element k)) (onto_children ks)

pub children_are : (ks : List Element) → children_attribute (map spelled_child ks) ≡ list_of spell_element ks
children_are ks = ap listed (onto_children ks)

pub children_good : (l : Levels) (s : Sort) (ks : List Element) → EachGood l (one s) spell_element ks → Good l (many s) (children_attribute (map spelled_child ks))
children_good l s ks each = subst (λ o. Good l (many s) o) (sym (children_are ks)) (list_good l spell_element s ks each)

pub children_back : (l : Levels) (s : Sort) (ks : List Element) → Good l (many s) (children_attribute (map spelled_child ks)) → EachGood l (one s) spell_element ks
children_back l s ks good = list_back l spell_element s ks (subst (λ o. Good l (many s) o) (children_are ks) good)

-- ---- what spells the same is the same, where the roles are known

abbrev pub IsAlone : Element → Type 0
IsAlone e = (f : Element) → is_placed e ≡ true → is_placed f ≡ true → role_of e ≡ role_of f → spell_element e ≡ spell_element f → e ≡ f

-- a child in this role, and all below it is placed
abbrev pub IsIn : Role → Element → Type 0
IsIn r k = (is_placed k ≡ true) × (role_of k ≡ r)

alone_in : (spell : Element → Data) → ((x y : Element) → spell x ≡ spell y → spell_element x ≡ spell_element y) → (r : Role) (ks : List Element) → Each IsAlone ks → Each (IsIn r) ks
    → Each (λ x. (y : Element) → IsIn r y → spell x ≡ spell y → x ≡ y) ks
alone_in spell inside r ks alone is = each_both IsAlone (IsIn r) (λ x. (y : Element) → IsIn r y → spell x ≡ spell y → x ≡ y) (λ x h q y i e. h y q.0 i.0 (q.1 ∙ sym i.1) (inside x y e)) ks alone is

pub same_children : (r : Role) (ks js : List Element) → Each IsAlone ks → Each (IsIn r) ks → Each (IsIn r) js → children_attribute (map spelled_child ks) ≡ children_attribute (map spelled_child js) → ks ≡ js
same_children r ks js alone a b e =
    same_lists_of (IsIn r) spell_element ks js (alone_in spell_element (λ x y same. same) r ks alone a) b (sym (children_are ks) ∙ e ∙ children_are js)

-- ---- those of a role

abbrev pub of_role : (Role → Bool) → List Element → List Element
of_role t ks = filter (λ k. t (role_of k)) ks

pub each_of_role : (P : Element → Type 0) (t : Role → Bool) (ks : List Element) → Each P ks → Each P (of_role t ks)
each_of_role P t ks each = each_filtered P (λ k. t (role_of k)) ks each

in_role : (t : Role → Bool) (ks : List Element) → Each (λ k. t (role_of k) ≡ true) (of_role t ks)
in_role t [] = tt
in_role t (k ∷ ks) = by_test (t (role_of k)) refl (in_role t ks)
  where
    by_test : (b : Bool) → t (role_of k) ≡ b → Each (λ k. t (role_of k) ≡ true) (of_role t ks) → Each (λ k. t (role_of k) ≡ true) (cond b (k ∷ of_role t ks) (of_role t ks))
    by_test true e rest = (e, rest)
    by_test false e rest = rest

-- a test that one role alone passes
abbrev pub Only : Role → (Role → Bool) → Type 0
Only r t = (q : Role) → t q ≡ true → q ≡ r

pub only_input : Only role.Input is_input
only_input role.Input e = refl
only_input q e = absurd (true≢false (sym e))

pub only_output : Only role.Output is_output
only_output role.Output e = refl
only_output q e = absurd (true≢false (sym e))

pub only_inoutput : Only role.Inoutput is_inoutput
only_inoutput role.Inoutput e = refl
only_inoutput q e = absurd (true≢false (sym e))

each_in : (r : Role) (t : Role → Bool) → Only r t → (ks : List Element) → Each (λ k. is_placed k ≡ true) ks → Each (IsIn r) (of_role t ks)
each_in r t only ks placed =
    each_both (λ k. is_placed k ≡ true) (λ k. t (role_of k) ≡ true) (IsIn r) (λ k a b. (a, only (role_of k) b)) (of_role t ks) (each_of_role (λ k. is_placed k ≡ true) t ks placed) (in_role t ks)

-- ---- variables

abbrev pub spell_as_variable : Element → Data
spell_as_variable k = spell_variable (spelled_child k)

pub variable_good : (l : Levels) (k : Element) → Good l (one element) (Some (spell_element k)) → Good l (one operation_variable) (Some (spell_as_variable k))
variable_good l k good = part_good operation_variable l ((codes "value", Some (spell_element k)) ∷ []) refl refl refl (good, tt)

pub variable_back : (l : Levels) (k : Element) → Good l (one operation_variable) (Some (spell_as_variable k)) → Good l (one element) (Some (spell_element k))
variable_back l k good = (part_back operation_variable l ((codes "value", Some (spell_element k)) ∷ []) refl refl good).0

same_variable : (x y : Element) → spell_as_variable x ≡ spell_as_variable y → spell_element x ≡ spell_element y
same_variable x y e = same_Some _ _ (same_rows (parts operation_variable) ((codes "value", Some (spell_element x)) ∷ []) ((codes "value", Some (spell_element y)) ∷ []) refl e).0

filter_spelled : (t : Role → Bool) (ks : List Element) → filter (λ (c : Child). t c.role) (map spelled_child ks) ≡ map spelled_child (of_role t ks)
filter_spelled t [] = refl
filter_spelled t (k ∷ ks) =
    ap (λ r. cond (t r) (spelled_child k ∷ filter (λ (c : Child). t c.role) (map spelled_child ks)) (filter (λ (c : Child). t c.role) (map spelled_child ks))) (child_role k)
    ∙ by_test (t (role_of k)) (filter_spelled t ks)
  where
    by_test : (b : Bool) → filter (λ (c : Child). t c.role) (map spelled_child ks) ≡ map spelled_child (of_role t ks)
        → cond b (spelled_child k ∷ filter (λ (c : Child). t c.role) (map spelled_child ks)) (filter (λ (c : Child). t c.role) (map spelled_child ks)) ≡ map spelled_child (cond b (k ∷ of_role t ks) (of_role t ks))
    by_test true rest = ap (λ cs. spelled_child k ∷ cs) rest
    by_test false rest = rest

onto_variables : (ks : List Element) → onto (map spell_variable (map spelled_child ks)) no_items ≡ onto (map spell_as_variable ks) no_items
onto_variables [] = refl
onto_variables (k ∷ ks) = ap (item (spell_as_variable k)) (onto_variables ks)

pub variables_are : (t : Role → Bool) (ks : List Element) → variables_attribute t (map spelled_child ks) ≡ list_of spell_as_variable (of_role t ks)
variables_are t ks = ap (λ cs. listed (onto (map spell_variable cs) no_items)) (filter_spelled t ks) ∙ ap listed (onto_variables (of_role t ks))

each_variable_good : (l : Levels) (ks : List Element) → EachGood l (one element) spell_element ks → EachGood l (one operation_variable) spell_as_variable ks
each_variable_good l [] each = tt
each_variable_good l (k ∷ ks) each = (variable_good l k each.0, each_variable_good l ks each.1)

each_variable_back : (l : Levels) (ks : List Element) → EachGood l (one operation_variable) spell_as_variable ks → EachGood l (one element) spell_element ks
each_variable_back l [] each = tt
each_variable_back l (k ∷ ks) each = (variable_back l k each.0, each_variable_back l ks each.1)

pub variables_good : (l : Levels) (t : Role → Bool) (ks : List Element) → EachGood l (one element) spell_element ks → Good l (many operation_variable) (variables_attribute t (map spelled_child ks))
variables_good l t ks each =
    subst (λ o. Good l (many operation_variable) o) (sym (variables_are t ks))
    (list_good l spell_as_variable operation_variable (of_role t ks) (each_variable_good l (of_role t ks) (each_of_role (λ k. Good l (one element) (Some (spell_element k))) t ks each)))

pub variables_back : (l : Levels) (t : Role → Bool) (ks : List Element) → Good l (many operation_variable) (variables_attribute t (map spelled_child ks)) → EachGood l (one element) spell_element (of_role t ks)
variables_back l t ks good = each_variable_back l (of_role t ks) (list_back l spell_as_variable operation_variable (of_role t ks) (subst (λ o. Good l (many operation_variable) o) (variables_are t ks) good))

pub same_variables : (r : Role) (t : Role → Bool) → Only r t → (ks js : List Element) → Each IsAlone ks → Each (λ k. is_placed k ≡ true) ks → Each (λ k. is_placed k ≡ true) js
    → variables_attribute t (map spelled_child ks) ≡ variables_attribute t (map spelled_child js) → of_role t ks ≡ of_role t js
same_variables r t only ks js alone a b e =
    same_lists_of (IsIn r) spell_as_variable (of_role t ks) (of_role t js) (alone_in spell_as_variable same_variable r (of_role t ks) (each_of_role IsAlone t ks alone) (each_in r t only ks a))
    (each_in r t only js b) (sym (variables_are t ks) ∙ e ∙ variables_are t js)

-- ---- in their order the variables are the three lists, one after another

none_of_role : (t : Role → Bool) (n : ℕ) → ((r : Role) → t r ≡ true → nat_le n (rank r) ≡ false) → (ks : List Element) → list_all (nat_le n) (ranks ks) ≡ true → of_role t ks ≡ []
none_of_role t n below [] e = refl
none_of_role t n below (k ∷ ks) e =
    by_test (t (role_of k)) refl (and_left (nat_le n (rank (role_of k))) (list_all (nat_le n) (ranks ks)) e)
    (none_of_role t n below ks (and_right (nat_le n (rank (role_of k))) (list_all (nat_le n) (ranks ks)) e))
  where
    by_test : (b : Bool) → t (role_of k) ≡ b → nat_le n (rank (role_of k)) ≡ true → of_role t ks ≡ [] → cond b (k ∷ of_role t ks) (of_role t ks) ≡ []
    by_test true is low rest = absurd (true≢false (sym low ∙ below (role_of k) is))
    by_test false is low rest = rest

inputs_below : (n : ℕ) → nat_le n 0 ≡ false → (r : Role) → is_input r ≡ true → nat_le n (rank r) ≡ false
inputs_below n e role.Input is = e
inputs_below n e r is = absurd (true≢false (sym is))

outputs_below : (r : Role) → is_output r ≡ true → nat_le 2 (rank r) ≡ false
outputs_below role.Output is = refl
outputs_below r is = absurd (true≢false (sym is))

pub in_three : (ks : List Element) → Each (λ k. is_variable (role_of k) ≡ true) ks → in_order (ranks ks) ≡ true → ks ≡ of_role is_input ks ++ (of_role is_output ks ++ of_role is_inoutput ks)
in_three [] each e = refl
in_three (k ∷ ks) each e =
    by_role (role_of k) each.0 (and_left (list_all (nat_le (rank (role_of k))) (ranks ks)) (in_order (ranks ks)) e)
    (in_three ks each.1 (and_right (list_all (nat_le (rank (role_of k))) (ranks ks)) (in_order (ranks ks)) e))
  where
    by_role : (r : Role) → is_variable r ≡ true → list_all (nat_le (rank r)) (ranks ks) ≡ true → ks ≡ of_role is_input ks ++ (of_role is_output ks ++ of_role is_inoutput ks)
        → k ∷ ks ≡ cond (is_input r) (k ∷ of_role is_input ks) (of_role is_input ks) ++ (cond (is_output r) (k ∷ of_role is_output ks) (of_role is_output ks) ++ cond (is_inoutput r) (k ∷ of_role is_inoutput ks) (of_role is_inoutput ks))
    by_role role.Input v low rest = ap (λ xs. k ∷ xs) rest
    by_role role.Output v low rest =
        let none = none_of_role is_input 1 (inputs_below 1 refl) ks low in
        ap (λ xs. k ∷ xs) (rest ∙ ap (λ xs. xs ++ (of_role is_output ks ++ of_role is_inoutput ks)) none) ∙ sym (ap (λ xs. xs ++ ((k ∷ of_role is_output ks) ++ of_role is_inoutput ks)) none)
    by_role role.Inoutput v low rest =
        let none = none_of_role is_input 2 (inputs_below 2 refl) ks low in
        let no_output = none_of_role is_output 2 outputs_below ks low in
        ap (λ xs. k ∷ xs) (rest ∙ ap₂ (λ xs ys. xs ++ (ys ++ of_role is_inoutput ks)) none no_output) ∙ sym (ap₂ (λ xs ys. xs ++ (ys ++ (k ∷ of_role is_inoutput ks))) none no_output)
    by_role r v low rest = absurd (true≢false (sym v))

pub each_append : (P : Element → Type 0) (xs ys : List Element) → Each P xs → Each P ys → Each P (xs ++ ys)
each_append P [] ys a b = b
each_append P (x ∷ xs) ys a b = (a.0, each_append P xs ys a.1 b)
