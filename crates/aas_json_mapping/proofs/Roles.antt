-- Elements that are given a role, and children in their roles.
use Rattle.std.proofs.Common.{◌≡◌, ℕ, nat_le, List, [], ◌∷◌, ◌++◌, map, cond, Bool, true, false, Option, Some, codes, refl, sym, ap, ap₂, ◌∙◌, append-nil}
use Rattle.std.proofs.lemmas.Bool.{and_from}
use Rattle.std.specs.List.{list_all}
use Rattle.serde_json.specs.Data.{Data, no_items, item}
use Rattle.aas_json_table.specs.Canonical.{listed}
use Rattle.aas_json_table.specs.Spelled.{list_of, onto, spelled}
use Rattle.aas_json_table.specs.Table.{parts, operation_variable}
use Rattle.aas_lemmas.proofs.Truth.{and_left, and_right}
use Rattle.aas_model.specs.declared.payload.Payload.TheVariants as p
use Rattle.aas_model.specs.declared.element.Element.{Element, out-Element}
use Rattle.aas_model.specs.declared.element.Role.{Role}
use Rattle.aas_model.specs.declared.element.Role.TheVariants as role
use Rattle.aas_model.specs.declared.payload.Payload.{Payload}
use Rattle.aas_json_spelling.specs.Lists.{Each}
use Rattle.aas_json_mapping.specs.Elements.{is_input, is_output, is_inoutput, spelled_child, spell_element, children_attribute, variables_attribute}
use Rattle.aas_json_mapping.specs.Whole.{Placed, admits, is_variable, rank, in_order, is_placed}
use Rattle.aas_json_mapping.proofs.Elements.{made, made_out, role_of, seen, seen_at, seen_role, seen_data, ranks, Stands, AreStanding, standing, placed_made, spell_at}
use Rattle.aas_json_mapping.proofs.ElementsSame.{role_made}
use Rattle.aas_json_mapping.proofs.Kids.{IsIn, children_are, of_role, spell_as_variable, variables_are, each_append}

-- ---- the same element in another role

abbrev pub with_role : Role → Element → Element
with_role r e = made r (out-Element e).common (out-Element e).payload (out-Element e).kids

pub spell_with_role : (r : Role) (e : Element) → spell_element (with_role r e) ≡ spell_element e
spell_with_role r e = let y = out-Element e in spell_at r y.common y.payload y.kids ∙ sym (spell_at y.role y.common y.payload y.kids) ∙ ap spell_element (made_out e)

pub in_with_role : (r : Role) (e : Element) → is_placed e ≡ true → IsIn r (with_role r e)
in_with_role r e placed =
    let y = out-Element e in (
      placed_made r y.common y.payload y.kids (standing y.role y.common y.payload y.kids (ap is_placed (made_out e) ∙ placed)),
      role_made r y.common y.payload y.kids,
    )

pub data_with_role : (r : Role) (e : Element) → (seen e).is_data ≡ true → (seen (with_role r e)).is_data ≡ true
data_with_role r e is = let y = out-Element e in ap (λ (x : Placed). x.is_data) (seen_at r y.common y.payload y.kids) ∙ sym (seen_data e) ∙ is

-- ---- lists

module _ {T : Type 0} (element_of : T → Element) (r : Role) where
  abbrev pub roled : List T → List Element
  roled ts = map (λ t. with_role r (element_of t)) ts

  pub in_roled : ((t : T) → is_placed (element_of t) ≡ true) → (ts : List T) → Each (IsIn r) (roled ts)
  in_roled placed [] = tt
  in_roled placed (t ∷ ts) = (in_with_role r (element_of t) (placed t), in_roled placed ts)

  onto_roled : (shape : Data → Data) (ts : List T) → onto (map (λ t. shape (spell_element (element_of t))) ts) no_items ≡ onto (map (λ k. shape (spell_element k)) (roled ts)) no_items
  onto_roled shape [] = refl
  onto_roled shape (t ∷ ts) = ap₂ item (ap shape (sym (spell_with_role r (element_of t)))) (onto_roled shape ts)

  pub children_found : (o : Option Data) (ts : List T) → o ≡ list_of (λ t. spell_element (element_of t)) ts → o ≡ children_attribute (map spelled_child (roled ts))
  children_found o ts is = is ∙ ap listed (onto_roled (λ d. d) ts) ∙ sym (children_are (roled ts))

  pub variables_found : (o : Option Data) (ts : List T) → o ≡ list_of (λ t. spell_as_variable (element_of t)) ts → o ≡ list_of spell_as_variable (roled ts)
  variables_found o ts is = is ∙ ap listed (onto_roled (λ d. spelled (parts operation_variable) ((codes "value", Some d) ∷ [])) ts)

-- ---- order

low_in : (n : ℕ) (r : Role) → nat_le n (rank r) ≡ true → (ks : List Element) → Each (IsIn r) ks → list_all (nat_le n) (ranks ks) ≡ true
low_in n r low [] each = refl
low_in n r low (k ∷ ks) each = and_from (nat_le n (rank (role_of k))) (list_all (nat_le n) (ranks ks)) (ap (λ q. nat_le n (rank q)) each.0.1 ∙ low) (low_in n r low ks each.1)

low_append : (n : ℕ) (xs ys : List Element) → list_all (nat_le n) (ranks xs) ≡ true → list_all (nat_le n) (ranks ys) ≡ true → list_all (nat_le n) (ranks (xs ++ ys)) ≡ true
low_append n [] ys a b = b
low_append n (x ∷ xs) ys a b =
    and_from (nat_le n (rank (role_of x))) (list_all (nat_le n) (ranks (xs ++ ys))) (and_left (nat_le n (rank (role_of x))) _ a) (low_append n xs ys (and_right (nat_le n (rank (role_of x))) _ a) b)

itself : (r : Role) → nat_le (rank r) (rank r) ≡ true
itself role.Member = refl
itself role.Annotation = refl
itself role.Statement = refl
itself role.Input = refl
itself role.Output = refl
itself role.Inoutput = refl

order_append : (r : Role) (xs ys : List Element) → Each (IsIn r) xs → list_all (nat_le (rank r)) (ranks ys) ≡ true → in_order (ranks ys) ≡ true → in_order (ranks (xs ++ ys)) ≡ true
order_append r [] ys each low order = order
order_append r (x ∷ xs) ys each low order =
    and_from (list_all (nat_le (rank (role_of x))) (ranks (xs ++ ys))) (in_order (ranks (xs ++ ys)))
    (ap (λ q. list_all (nat_le (rank q)) (ranks (xs ++ ys))) each.0.1 ∙ low_append (rank r) xs ys (low_in (rank r) r (itself r) xs each.1) low) (order_append r xs ys each.1 low order)

order_in : (r : Role) (ks : List Element) → Each (IsIn r) ks → in_order (ranks ks) ≡ true
order_in r [] each = refl
order_in r (k ∷ ks) each =
    and_from (list_all (nat_le (rank (role_of k))) (ranks ks)) (in_order (ranks ks)) (ap (λ q. list_all (nat_le (rank q)) (ranks ks)) each.0.1 ∙ low_in (rank r) r (itself r) ks each.1) (order_in r ks each.1)

-- children in one role, which their parent's kind has a place for
pub standing_in : (x : Payload) (r : Role) (ks : List Element) → Each (IsIn r) ks → Each (λ k. admits x (seen k) ≡ true) ks → AreStanding x ks
standing_in x r ks is admitted = record { each = each_stands ks is admitted; order = order_in r ks is }
  where
    each_stands : (ks : List Element) → Each (IsIn r) ks → Each (λ k. admits x (seen k) ≡ true) ks → Each (Stands x) ks
    each_stands [] is a = tt
    each_stands (k ∷ ks) is a = (record { admitted = a.0; placed = is.0.0 }, each_stands ks is.1 a.1)

-- where the role alone decides
pub admitted_in : (x : Payload) (r : Role) (t : Role → Bool) → ((c : Placed) → t c.role ≡ true → admits x c ≡ true) → t r ≡ true → (ks : List Element) → Each (IsIn r) ks → Each (λ k. admits x (seen k) ≡ true) ks
admitted_in x r t admit is [] each = tt
admitted_in x r t admit is (k ∷ ks) each = (admit (seen k) (ap t (seen_role k ∙ each.0.1) ∙ is), admitted_in x r t admit is ks each.1)

pub none_standing : (x : Payload) → AreStanding x []
none_standing x = record { each = tt; order = refl }

-- ---- the variables of an Operation

of_role_append : (t : Role → Bool) (xs ys : List Element) → of_role t (xs ++ ys) ≡ of_role t xs ++ of_role t ys
of_role_append t [] ys = refl
of_role_append t (x ∷ xs) ys = by_test (t (role_of x)) (of_role_append t xs ys)
  where
    by_test : (b : Bool) → of_role t (xs ++ ys) ≡ of_role t xs ++ of_role t ys → cond b (x ∷ of_role t (xs ++ ys)) (of_role t (xs ++ ys)) ≡ cond b (x ∷ of_role t xs) (of_role t xs) ++ of_role t ys
    by_test true rest = ap (λ zs. x ∷ zs) rest
    by_test false rest = rest

all_of_role : (t : Role → Bool) (r : Role) → t r ≡ true → (ks : List Element) → Each (IsIn r) ks → of_role t ks ≡ ks
all_of_role t r is [] each = refl
all_of_role t r is (k ∷ ks) each = ap (λ b. cond b (k ∷ of_role t ks) (of_role t ks)) (ap t each.0.1 ∙ is) ∙ ap (λ zs. k ∷ zs) (all_of_role t r is ks each.1)

none_of_role : (t : Role → Bool) (r : Role) → t r ≡ false → (ks : List Element) → Each (IsIn r) ks → of_role t ks ≡ []
none_of_role t r is [] each = refl
none_of_role t r is (k ∷ ks) each = ap (λ b. cond b (k ∷ of_role t ks) (of_role t ks)) (ap t each.0.1 ∙ is) ∙ none_of_role t r is ks each.1

-- variables in their roles
pub record Variables (ins outs inouts : List Element) : Type 0 where
  pub inputs : Each (IsIn role.Input) ins
  pub outputs : Each (IsIn role.Output) outs
  pub inoutputs : Each (IsIn role.Inoutput) inouts

module _ (ins outs inouts : List Element) (variables : Variables ins outs inouts) where
  -- the variables that a test finds, where it is known which it finds of each list
  found_variables : (t : Role → Bool) (a b c : List Element) → of_role t ins ≡ a → of_role t outs ≡ b → of_role t inouts ≡ c
      → variables_attribute t (map spelled_child (ins ++ (outs ++ inouts))) ≡ list_of spell_as_variable (a ++ (b ++ c))
  found_variables t a b c is_a is_b is_c =
      let split = of_role_append t ins (outs ++ inouts) ∙ ap (λ zs. of_role t ins ++ zs) (of_role_append t outs inouts) in
      variables_are t (ins ++ (outs ++ inouts))
      ∙ ap (list_of spell_as_variable) (split ∙ (λ i. is_a i ++ (is_b i ++ is_c i)))

  pub inputs_are : variables_attribute is_input (map spelled_child (ins ++ (outs ++ inouts))) ≡ list_of spell_as_variable ins
  inputs_are =
      found_variables is_input ins [] [] (all_of_role is_input role.Input refl ins variables.inputs)
      (none_of_role is_input role.Output refl outs variables.outputs)
      (none_of_role is_input role.Inoutput refl inouts variables.inoutputs)
      ∙ ap (list_of spell_as_variable) (append-nil ins)

  pub outputs_are : variables_attribute is_output (map spelled_child (ins ++ (outs ++ inouts))) ≡ list_of spell_as_variable outs
  outputs_are =
      found_variables is_output [] outs [] (none_of_role is_output role.Input refl ins variables.inputs)
      (all_of_role is_output role.Output refl outs variables.outputs)
      (none_of_role is_output role.Inoutput refl inouts variables.inoutputs)
      ∙ ap (list_of spell_as_variable) (append-nil outs)

  pub inoutputs_are : variables_attribute is_inoutput (map spelled_child (ins ++ (outs ++ inouts))) ≡ list_of spell_as_variable inouts
  inoutputs_are =
      found_variables is_inoutput [] [] inouts (none_of_role is_inoutput role.Input refl ins variables.inputs)
      (none_of_role is_inoutput role.Output refl outs variables.outputs)
      (all_of_role is_inoutput role.Inoutput refl inouts variables.inoutputs)

  stands_in : (r : Role) → is_variable r ≡ true → (ks : List Element) → Each (IsIn r) ks → Each (Stands p.Operation) ks
  stands_in r is [] each = tt
  stands_in r is (k ∷ ks) each = (record { admitted = ap is_variable (seen_role k ∙ each.0.1) ∙ is; placed = each.0.0 }, stands_in r is ks each.1)

  pub variables_standing : AreStanding p.Operation (ins ++ (outs ++ inouts))
  variables_standing = record {
    each = each_append (Stands p.Operation) ins (outs ++ inouts) (stands_in role.Input refl ins variables.inputs)
        (each_append (Stands p.Operation) outs inouts (stands_in role.Output refl outs variables.outputs) (stands_in role.Inoutput refl inouts variables.inoutputs));
    order = order_append role.Input ins (outs ++ inouts) variables.inputs (low_append 0 outs inouts (low_in 0 role.Output refl outs variables.outputs) (low_in 0 role.Inoutput refl inouts variables.inoutputs))
        (order_append role.Output outs inouts variables.outputs (low_in 1 role.Inoutput refl inouts variables.inoutputs) (order_in role.Inoutput inouts variables.inoutputs));
  }
