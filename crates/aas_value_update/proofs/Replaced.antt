-- A whole value form laid over another of the same parts is itself,
-- so an update by it makes the element whose form it is.
use Rattle.std.proofs.Common.{◌≡◌, ℕ, Bool, true, false, List, [], ◌∷◌, map, Option, Some, None, is_some, option_map}
use Rattle.std.proofs.Common.{refl, sym, ap, ap₂, ◌∙◌, subst, true≢false}
use Rattle.std.specs.Prelude.{if◌then◌else◌}
use Rattle.serde_json.specs.Data.{Data, array, object, Items, item, no_members}
use Rattle.aas_model_names.specs.declared.modifiers.Extent.TheVariants as extent
use Rattle.aas_model.specs.declared.element.Element.{Element}
use Rattle.aas_constraint_laws.specs.Values.{DifferInValues}
use Rattle.aas_value.specs.Children.{forms_of, annotation_value}
use Rattle.aas_value.specs.ValueForm.{value_form, child_part}
use Rattle.aas_value.specs.Parts.{Part, Form, nothing, whole, object_of, list_of, entries_of, is_called, by_name}
use Rattle.aas_value.specs.Parts.{children, value, later, over, laid, laid_items, put_entry, laid_entries, lay_form}
use Rattle.aas_value_update.specs.Forms.{part_of, lay}
use Rattle.aas_value_update.specs.Laws.{NamesDiffer, WholeFormReplaces, WholeFormMakesElement}
use Rattle.aas_value_update.specs.Update.{IsElementUpdate}
use Rattle.aas_value_update.proofs.Laid.{form, get_children, get_laid, children_rise, laid_rises, form_entries}
use Rattle.aas_value_update.proofs.Laid.{called_alike, entry_alike, put_entry_named, entry_before, own_entry}
use Rattle.aas_value_update.proofs.Laid.{form_members, form_items, items_with, laid_first, lay_named}
use Rattle.aas_value_update.proofs.Members.{known}
use Rattle.aas_value_update.proofs.Named.{Apart}
use Rattle.aas_value_update.proofs.OneForm.{one_alone}
use Rattle.aas_value_update.proofs.OneUpdate.{names_alike}
use Rattle.aas_value_update.proofs.Pairs.{Pairs, Forms, forms_there, IsOfParts, elements_are_parts, related}
use Rattle.aas_value_update.proofs.Rest.{left_alone_is}

-- y has a value where x has one, and laid over that it is the same
record Replaces (x y : Part) : Type 0 where
  name : x.child.name ≡ y.child.name
  there : is_some x.child.form ≡ is_some y.child.form
  laid : over x.lay x.child.form y.child.form ≡ y.child.form

-- ---- objects

named_replaced : (n : List ℕ) (xs ys : List Part)
    → Pairs Replaces xs ys → (f : Data → Data → Data) (o q : Option Data) → over f o q ≡ q
    → over (by_name n (λ x. x.lay) xs f) (by_name n form xs o) (by_name n form ys q) ≡ by_name n form ys q
named_replaced n [] [] pairs f o q is = is
named_replaced n [] (y ∷ ys) pairs f o q is = absurd pairs
named_replaced n (x ∷ xs) [] pairs f o q is = absurd pairs
named_replaced n (x ∷ xs) (y ∷ ys) pairs f o q is =
    let lay = if is_called n x.child then x.lay else f in
    let old = if is_called n x.child then form x else o in
    named_replaced n xs ys pairs.1 lay old (if is_called n y.child then form y else q)
    (subst (λ b. over lay old (if b then form y else q) ≡ (if b then form y else q))
    (called_alike n x.child y.child pairs.0.name pairs.0.there) (by_test (is_called n x.child)))
  where
    by_test : (b : Bool)
        → over (if b then x.lay else f) (if b then form x else o) (if b then form y else q) ≡ (if b then form y else q)
    by_test true = pairs.0.laid
    by_test false = is

members_replaced : (xs ys : List Part)
    → Pairs Replaces xs ys → laid xs (form_members xs) (form_members ys) ≡ form_members ys
members_replaced xs ys pairs =
    let old = form_members xs in
    let new = form_members ys in
    known (laid xs old new) new (laid_rises xs old new (children_rise xs no_members tt))
    (children_rise ys no_members tt) (λ n.
    get_laid n xs old new ∙ ap₂ (over (lay_named n xs)) (get_children n xs no_members) (get_children n ys no_members)
    ∙ named_replaced n xs ys pairs later None None refl ∙ sym (get_children n ys no_members))

-- ---- arrays

items_replaced : (xs ys : List Part)
    → Pairs Replaces xs ys → laid_items xs (form_items xs) (form_items ys) ≡ form_items ys
items_replaced [] [] pairs = refl
items_replaced [] (y ∷ ys) pairs = absurd pairs
items_replaced (x ∷ xs) [] pairs = absurd pairs
items_replaced (x ∷ xs) (y ∷ ys) pairs =
    by_forms (form x) (form y) pairs.0.there pairs.0.laid (items_replaced xs ys pairs.1)
  where
    by_forms : (f g : Option Data) → is_some f ≡ is_some g → over x.lay f g ≡ g
        → laid_items xs (form_items xs) (form_items ys) ≡ form_items ys
        → laid_first (is_some f) x.lay (laid_items xs) (items_with f xs) (items_with g ys) ≡ items_with g ys
    by_forms None None there is more = more
    by_forms None (Some e) there is more = absurd (true≢false (sym there))
    by_forms (Some d) None there is more = absurd (true≢false there)
    by_forms (Some d) (Some e) there is more = let same : x.lay d e ≡ e = cc in ap₂ item same more

-- ---- entries

entries_replaced : (xs ys : List Part) → Pairs Replaces xs ys → Apart (children xs)
    → laid_entries xs (form_entries xs) (form_entries ys) ≡ form_entries ys
entries_replaced [] [] pairs apart = refl
entries_replaced [] (y ∷ ys) pairs apart = absurd pairs
entries_replaced (x ∷ xs) [] pairs apart = absurd pairs
entries_replaced (x ∷ xs) (y ∷ ys) pairs apart =
    let r = pairs.0 in
    let n = apart.0.0 in
    let mine = own_entry n x xs apart.0.1 in
    let sent = entry_alike x.child y.child r.name r.there (form_entries (y ∷ ys))
    ∙ own_entry n y ys (sym r.name ∙ apart.0.1) in
    ap₂ (λ (w v : Option Data × Items). put_entry x.child (over x.lay w.0 v.0) (laid_entries xs w.1 v.1)) mine sent
    ∙ ap₂ (put_entry x.child) r.laid (entries_replaced xs ys pairs.1 apart.1)
    ∙ put_entry_named x.child y.child r.name (form y) (form_entries ys)
    ∙ sym (entry_before y.child (forms_of (map annotation_value (children ys))))

-- ---- forms

form_replaced : (f g : Form) → Forms Replaces f g → over (lay_form f) (value f) (value g) ≡ value g
form_replaced nothing nothing r = refl
form_replaced (whole x) (whole y) r = by_forms (form x) (form y) r.there
  where
    by_forms : (o q : Option Data) → is_some o ≡ is_some q → over (lay_form (whole x)) o q ≡ q
    by_forms None None there = refl
    by_forms None (Some e) there = refl
    by_forms (Some d) None there = absurd (true≢false there)
    by_forms (Some d) (Some e) there = refl
form_replaced (object_of xs) (object_of ys) r = ap (λ ms. Some (object ms)) (members_replaced xs ys r)
form_replaced (list_of xs) (list_of ys) r = ap (λ ds. Some (array ds)) (items_replaced xs ys r)
form_replaced (entries_of xs) (entries_of ys) r = ap (λ ds. Some (array ds)) (entries_replaced xs ys r.0 r.1)
form_replaced f g r = absurd r

replaces_parts : IsOfParts Replaces
replaces_parts = record {
  attribute = λ n d e test. record { name = refl; there = refl; laid = refl };
  named = λ n f g r.
      record { name = refl; there = forms_there Replaces (λ x y r. r.there) f g r; laid = form_replaced f g r };
}

-- ---- elements

replaces : (e u : Element) → NamesDiffer e → DifferInValues e u → Replaces (part_of e) (part_of u)
replaces = related Replaces replaces_parts part_of part_of child_part child_part elements_are_parts elements_are_parts
    (λ n f g r.
    record { name = refl; there = forms_there Replaces (λ x y r. r.there) f g r; laid = form_replaced f g r })

pub whole_form_replaces : WholeFormReplaces
whole_form_replaces e u w v order differ old new =
    let laid : Some (lay e w v) ≡ Some v =
    sym (ap₂ (over (part_of e).lay) old new)
    ∙ (replaces e u order.names differ).laid ∙ new in
    cc

pub whole_form_makes_element : WholeFormMakesElement
whole_form_makes_element e u w v order differ operations new =
    let same = left_alone_is e u order.placed differ operations in
    let form = by_form (value_form extent.WithBlobValue e) refl in (
      λ a. (
        a.shape,
        one_alone u w (names_alike u e same order.names)
            (left_alone_is e w order.placed a.metadata a.operations ∙ sym same)
            (a.form ∙ form ∙ sym new),
      ),
      λ a. subst (IsElementUpdate e v) (sym a.1)
          (record { metadata = differ; operations = operations; shape = a.0; form = new ∙ sym form }),
    )
  where
    by_form : (o : Option Data) → value_form extent.WithBlobValue e ≡ o
        → option_map (λ x. lay e x v) (value_form extent.WithBlobValue e) ≡ Some v
    by_form None is =
        absurd (true≢false (sym (ap is_some new)
        ∙ sym (replaces e u order.names differ).there ∙ ap is_some is))
    by_form (Some x) is =
        ap (option_map (λ x. lay e x v)) is ∙ ap (λ d. Some d) (whole_form_replaces e u x v order differ is new)
