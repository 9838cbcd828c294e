-- Children that were read, as the attributes that hold them.
use Rattle.std.proofs.Common.{◌≡◌, ◌⊎◌, inl, inr, ℕ, List, [], ◌∷◌, ◌++◌, Bool, true, false, Option, Some, None, option_map, option_to_list, IfSome, map, filter, cond, length, get_or, zero, suc, ◌<◌, ◌≤◌, arith, refl, sym, ap, ap₂, ◌∙◌}
use Rattle.std.proofs.lemmas.Simd.{map-map}
use Rattle.std.proofs.lemmas.List.{append_assoc, append-nil}
use Rattle.std.specs.List.{list_all}
use Rattle.std.proofs.lemmas.List.{map-append}
use Rattle.std.proofs.lemmas.List.Elements.{filter-append}
use Rattle.serde_json.specs.Data.{Data, Items, no_items, item, depth, items_depth}
use Rattle.serde_json.specs.View.{view, items_view}
use Rattle.serde_json.specs.declared.value.Value.{Value}
use Rattle.aas_json_table.specs.Table.{operation_variable}
use Rattle.aas_json_table.specs.Canonical.{add_item, listed}
use Rattle.aas_json_table.specs.Spelled.{list_of, onto}
use Rattle.aas_json_spelling.specs.Lists.{Each}
use Rattle.aas_lemmas.proofs.Truth.{and_left, and_right}
use Rattle.aas_json_mapping.specs.Elements.{Child, is_input, is_output, is_inoutput, spelled_child, spell_variable, children_attribute, variables_attribute}
use Rattle.aas_json_mapping.proofs.Elements.{child_role, seen_role}
use Rattle.aas_model.specs.declared.element.Element.{Element}
use Rattle.aas_model.specs.declared.element.Role.{Role}
use Rattle.aas_model.specs.declared.element.Role.TheVariants as role
use Rattle.aas_json_read.specs.Own.{seen, suits, sort_under, spell_under}
use Rattle.aas_json_read.specs.Children.{AddsItems}
use Rattle.aas_json_read.proofs.Places.{has_role}

-- ---- one more child

onto_more : (xs : List Data) (o : Option Data) (rest : Items) → onto (xs ++ option_to_list o) rest ≡ onto xs (add_item o rest)
onto_more [] None rest = refl
onto_more [] (Some d) rest = refl
onto_more (x ∷ xs) o rest = ap (item x) (onto_more xs o rest)

mapped_option : {A B : Type 0} (f : A → B) (o : Option A) → map f (option_to_list o) ≡ option_to_list (option_map f o)
mapped_option f None = refl
mapped_option f (Some x) = refl

-- what was found, if it was, behind the others
pub one_more : {A : Type 0} (f : A → Data) (xs : List A) (o : Option A) (d : Option Data) (rest : Items) → option_map f o ≡ d → onto (map f (xs ++ option_to_list o)) rest ≡ onto (map f xs) (add_item d rest)
one_more f xs o d rest e =
    ap (λ l. onto l rest) (map-append f xs (option_to_list o) ∙ ap (λ l. map f xs ++ l) (mapped_option f o ∙ ap option_to_list e)) ∙ onto_more (map f xs) d rest

pub each_more : {A : Type 0} (P : A → Type 0) (xs : List A) (o : Option A) → Each P xs → IfSome o P → Each P (xs ++ option_to_list o)
each_more P [] None each h = tt
each_more P [] (Some x) each h = (h, tt)
each_more P (x ∷ xs) o each h = (each.0, each_more P xs o each.1 h)

all_with : {A : Type 0} (test : A → Bool) (xs : List A) (o : Option A) → list_all test xs ≡ true → IfSome o (λ x. test x ≡ true) → list_all test (xs ++ option_to_list o) ≡ true
all_with test [] None e f = refl
all_with test [] (Some y) e f = rw f refl
all_with test (x ∷ xs) o e f = rw (and_left (test x) _ e, all_with test xs o (and_right (test x) _ e) f) refl

pub adds_one : (r : Role) (before all : List Element) (o : Option Element) (d : Option Data) (rest items : Items) → AddsItems r before all (add_item d rest) items
    → option_map (λ e. spell_under r (spelled_child e)) o ≡ d → IfSome o (λ e. suits r (seen e) ≡ true) → AddsItems r before (all ++ option_to_list o) rest items
adds_one r before all o d rest items a says suited =
    let f : Element → Data = λ e. spell_under r (spelled_child e) in record {
      more = a.more ++ option_to_list o;
      after = ap (λ l. l ++ option_to_list o) a.after ∙ append_assoc before a.more (option_to_list o);
      says = one_more f a.more o d rest says ∙ a.says;
      places = all_with (λ e. suits r (seen e)) a.more o a.places suited;
    }

pub item_depth : (vs : List Value) (i : ℕ) (v : Value) → i < length vs → v ≡ get_or vs i v → depth (view v) ≤ items_depth (items_view vs)
item_depth [] i v h e = absurd (omega arith)
item_depth (x ∷ vs) zero v h e = let same : depth (view v) ≡ depth (view x) = ap (λ y. depth (view y)) e in omega arith
item_depth (x ∷ vs) (suc i) v h e = let later : depth (view v) ≤ items_depth (items_view vs) = item_depth vs i v (omega arith) e in omega arith

-- ---- children, as they are spelled

spelled_list : (spell : Child → Data) (kids : List Element) → list_of spell (map spelled_child kids) ≡ list_of (λ e. spell (spelled_child e)) kids
spelled_list spell kids = ap (λ l. listed (onto l no_items)) (map-map spell spelled_child kids)

pub children_are : (kids : List Element) (o : Option Data) → list_of (λ e. (spelled_child e).spelling) kids ≡ o → children_attribute (map spelled_child kids) ≡ o
children_are kids o e = spelled_list (λ c. c.spelling) kids ∙ e

-- ---- variables

-- what a child that is a variable is read as
pub variable_under : (r : Role) (found : Option Element) (o : Option Data) → (r ≡ role.Input) ⊎ ((r ≡ role.Output) ⊎ (r ≡ role.Inoutput)) → option_map (λ e. spell_variable (spelled_child e)) found ≡ o
    → option_map (λ e. spell_under r (spelled_child e)) found ≡ o
variable_under r found o (inl is) e = ap (λ x. option_map (λ e. spell_under x (spelled_child e)) found) is ∙ e
variable_under r found o (inr (inl is)) e = ap (λ x. option_map (λ e. spell_under x (spelled_child e)) found) is ∙ e
variable_under r found o (inr (inr is)) e = ap (λ x. option_map (λ e. spell_under x (spelled_child e)) found) is ∙ e

pub variable_sort : (r : Role) → (r ≡ role.Input) ⊎ ((r ≡ role.Output) ⊎ (r ≡ role.Inoutput)) → operation_variable ≡ sort_under r
variable_sort r (inl is) = ap sort_under (sym is)
variable_sort r (inr (inl is)) = ap sort_under (sym is)
variable_sort r (inr (inr is)) = ap sort_under (sym is)

role_as_seen : (e : Element) → (spelled_child e).role ≡ (seen e).role
role_as_seen e = child_role e ∙ sym (seen_role e)

cond_true : {A : Type 0} (b : Bool) (x y : A) → b ≡ true → cond b x y ≡ x
cond_true b x y e = rw e refl

cond_false : {A : Type 0} (b : Bool) (x y : A) → b ≡ false → cond b x y ≡ y
cond_false b x y e = rw e refl

all_kept : (test : Role → Bool) (r : Role) → test r ≡ true → (kids : List Element) → list_all (λ e. suits r (seen e)) kids ≡ true
    → filter (λ (c : Child). test c.role) (map spelled_child kids) ≡ map spelled_child kids
all_kept test r h [] e = refl
all_kept test r h (k ∷ kids) e =
    cond_true (test (spelled_child k).role) _ _ (ap test (role_as_seen k ∙ has_role r (seen k) (and_left (suits r (seen k)) _ e)) ∙ h)
    ∙ ap (λ l. spelled_child k ∷ l) (all_kept test r h kids (and_right (suits r (seen k)) _ e))

none_kept : (test : Role → Bool) (r : Role) → test r ≡ false → (kids : List Element) → list_all (λ e. suits r (seen e)) kids ≡ true
    → filter (λ (c : Child). test c.role) (map spelled_child kids) ≡ []
none_kept test r h [] e = refl
none_kept test r h (k ∷ kids) e =
    cond_false (test (spelled_child k).role) _ _ (ap test (role_as_seen k ∙ has_role r (seen k) (and_left (suits r (seen k)) _ e)) ∙ h)
    ∙ none_kept test r h kids (and_right (suits r (seen k)) _ e)

-- what a test keeps of three lists
kept_of : (test : Role → Bool) (a b d : List Element) (x y z : List Child) → filter (λ (c : Child). test c.role) (map spelled_child a) ≡ x → filter (λ (c : Child). test c.role) (map spelled_child b) ≡ y
    → filter (λ (c : Child). test c.role) (map spelled_child d) ≡ z → filter (λ (c : Child). test c.role) (map spelled_child (a ++ (b ++ d))) ≡ x ++ (y ++ z)
kept_of test a b d x y z e f g =
    let keeps : Child → Bool = λ c. test c.role in
    ap (filter keeps) (map-append spelled_child a (b ++ d) ∙ ap (λ l. map spelled_child a ++ l) (map-append spelled_child b d))
    ∙ filter-append keeps (map spelled_child a) (map spelled_child b ++ map spelled_child d)
    ∙ ap₂ (λ l m. l ++ m) e (filter-append keeps (map spelled_child b) (map spelled_child d) ∙ ap₂ (λ l m. l ++ m) f g)

module _ (a b d : List Element) (ins : list_all (λ e. suits role.Input (seen e)) a ≡ true) (outs : list_all (λ e. suits role.Output (seen e)) b ≡ true) (both : list_all (λ e. suits role.Inoutput (seen e)) d ≡ true) where
  pub inputs_are : (o : Option Data) → list_of (λ e. spell_variable (spelled_child e)) a ≡ o → variables_attribute is_input (map spelled_child (a ++ (b ++ d))) ≡ o
  inputs_are o e =
      ap (list_of spell_variable) (
      kept_of is_input a b d (map spelled_child a) [] [] (all_kept is_input role.Input refl a ins)
      (none_kept is_input role.Output refl b outs)
      (none_kept is_input role.Inoutput refl d both)
      ∙ append-nil (map spelled_child a)
      ) ∙ spelled_list spell_variable a ∙ e

  pub outputs_are : (o : Option Data) → list_of (λ e. spell_variable (spelled_child e)) b ≡ o → variables_attribute is_output (map spelled_child (a ++ (b ++ d))) ≡ o
  outputs_are o e =
      ap (list_of spell_variable) (
      kept_of is_output a b d [] (map spelled_child b) [] (none_kept is_output role.Input refl a ins)
      (all_kept is_output role.Output refl b outs)
      (none_kept is_output role.Inoutput refl d both)
      ∙ append-nil (map spelled_child b)
      ) ∙ spelled_list spell_variable b ∙ e

  pub inoutputs_are : (o : Option Data) → list_of (λ e. spell_variable (spelled_child e)) d ≡ o → variables_attribute is_inoutput (map spelled_child (a ++ (b ++ d))) ≡ o
  inoutputs_are o e =
      ap (list_of spell_variable) (
      kept_of is_inoutput a b d [] [] (map spelled_child d) (none_kept is_inoutput role.Input refl a ins)
      (none_kept is_inoutput role.Output refl b outs)
      (all_kept is_inoutput role.Inoutput refl d both)
      ) ∙ spelled_list spell_variable d ∙ e
