-- Parts that differ in their values alone: the same fits them, and they are laid in the same way.
use Rattle.std.proofs.Common.{◌≡◌, ℕ, Bool, false, ◌&&◌, List, [], ◌∷◌, Option, is_some, refl, ap, ap₂, ◌∙◌}
use Rattle.std.specs.Prelude.{if◌then◌else◌}
use Rattle.serde_json.specs.Data.{Data, array, object, put, Items, Members, no_members, member}
use Rattle.serde_json.specs.Find.{get_member}
use Rattle.aas_value.specs.Parts.{Part, Form, nothing, whole, object_of, list_of, entries_of, is_called, by_name}
use Rattle.aas_value.specs.Parts.{later, value, over, over_one, laid, laid_item, laid_items, entry, put_entry}
use Rattle.aas_value.specs.Parts.{laid_entries, lay_form, members_fit, item_fits, items_fit, fits_if, entries_fit}
use Rattle.aas_value.specs.Parts.{fits_form}
use Rattle.aas_value_update.proofs.Laid.{called_alike, entry_alike, put_entry_named}
use Rattle.aas_value_update.proofs.Pairs.{Pairs, Forms, forms_there, IsOfParts}

-- the same name, a value where the other has one, and the same f
pub record Same {X : Type 0} (f : Part → X) (x y : Part) : Type 0 where
  pub name : x.child.name ≡ y.child.name
  pub there : is_some x.child.form ≡ is_some y.child.form
  pub same : f x ≡ f y

named_same : {X : Type 0} (f : Part → X) (n : List ℕ) (xs ys : List Part) → Pairs (Same f) xs ys → (z : X)
    → by_name n f xs z ≡ by_name n f ys z
named_same f n [] [] pairs z = refl
named_same f n [] (y ∷ ys) pairs z = absurd pairs
named_same f n (x ∷ xs) [] pairs z = absurd pairs
named_same f n (x ∷ xs) (y ∷ ys) pairs z =
    let s = pairs.0 in
    named_same f n xs ys pairs.1 (if is_called n x.child then f x else z)
    ∙ ap (by_name n f ys) (ap₂ (λ b w. if b then w else z) (called_alike n x.child y.child s.name s.there) s.same)

-- ---- what fits

abbrev pub SameFit : Part → Part → Type 0
SameFit = Same (λ x. x.fits)

members_same : (xs ys : List Part) → Pairs SameFit xs ys → (ms : Members) → members_fit xs ms ≡ members_fit ys ms
members_same xs ys pairs no_members = refl
members_same xs ys pairs (member n d ms) =
    ap₂ (λ (t : Data → Bool) b. t d && b)
    (named_same (λ x. x.fits) n xs ys pairs (λ e. false)) (members_same xs ys pairs ms)

items_same : (xs ys : List Part) → Pairs SameFit xs ys → items_fit xs ≡ items_fit ys
items_same [] [] pairs = refl
items_same [] (y ∷ ys) pairs = absurd pairs
items_same (x ∷ xs) [] pairs = absurd pairs
items_same (x ∷ xs) (y ∷ ys) pairs =
    let there = pairs.0.there in
    let test = pairs.0.same in
    let more = items_same xs ys pairs.1 in
    λ i ds. if there i then item_fits (test i) (more i) ds else more i ds

entries_same : (xs ys : List Part) → Pairs SameFit xs ys → (ds : Items) → entries_fit xs ds ≡ entries_fit ys ds
entries_same [] [] pairs ds = refl
entries_same [] (y ∷ ys) pairs ds = absurd pairs
entries_same (x ∷ xs) [] pairs ds = absurd pairs
entries_same (x ∷ xs) (y ∷ ys) pairs ds =
    let e = entry_alike x.child y.child pairs.0.name pairs.0.there ds in
    ap₂ (λ (t : Data → Bool) (w : Option Data × Items). fits_if t w.0 && entries_fit xs w.1) pairs.0.same e
    ∙ ap (λ b. fits_if y.fits (entry y.child ds).0 && b) (entries_same xs ys pairs.1 (entry y.child ds).1)

pub fits_same : (f g : Form) → Forms SameFit f g → (v : Data) → fits_form f v ≡ fits_form g v
fits_same nothing nothing r v = refl
fits_same (whole x) (whole y) r v = ap (λ (t : Data → Bool). t v) r.same
fits_same (object_of xs) (object_of ys) r (object ms) = members_same xs ys r ms
fits_same (object_of xs) (object_of ys) r v = refl
fits_same (list_of xs) (list_of ys) r (array ds) = ap (λ (t : Items → Bool). t ds) (items_same xs ys r)
fits_same (list_of xs) (list_of ys) r v = refl
fits_same (entries_of xs) (entries_of ys) r (array ds) = entries_same xs ys r.0 ds
fits_same (entries_of xs) (entries_of ys) r v = refl
fits_same f g r v = absurd r

pub same_fit_parts : IsOfParts SameFit
same_fit_parts = record {
  attribute = λ n d e test. record { name = refl; there = refl; same = refl };
  named = λ n f g r.
      record { name = refl; there = forms_there SameFit (λ x y s. s.there) f g r; same = λ i v. fits_same f g r v i };
}

-- ---- how they are laid

abbrev pub SameLay : Part → Part → Type 0
SameLay = Same (λ x. x.lay)

members_laid : (xs ys : List Part) → Pairs SameLay xs ys → (ws vs : Members) → laid xs ws vs ≡ laid ys ws vs
members_laid xs ys pairs ws no_members = refl
members_laid xs ys pairs ws (member n v vs) =
    ap₂ (λ (f : Data → Data → Data) ms. put n (over_one f (get_member n ws) v) ms)
    (named_same (λ x. x.lay) n xs ys pairs later)
    (members_laid xs ys pairs ws vs)

items_laid : (xs ys : List Part) → Pairs SameLay xs ys → laid_items xs ≡ laid_items ys
items_laid [] [] pairs = refl
items_laid [] (y ∷ ys) pairs = absurd pairs
items_laid (x ∷ xs) [] pairs = absurd pairs
items_laid (x ∷ xs) (y ∷ ys) pairs =
    let there = pairs.0.there in
    let lay = pairs.0.same in
    let more = items_laid xs ys pairs.1 in
    λ i ws vs. if there i then laid_item (lay i) (more i) ws vs else more i ws vs

entries_laid : (xs ys : List Part) → Pairs SameLay xs ys → (ws vs : Items)
    → laid_entries xs ws vs ≡ laid_entries ys ws vs
entries_laid [] [] pairs ws vs = refl
entries_laid [] (y ∷ ys) pairs ws vs = absurd pairs
entries_laid (x ∷ xs) [] pairs ws vs = absurd pairs
entries_laid (x ∷ xs) (y ∷ ys) pairs ws vs =
    let s = pairs.0 in
    let old = entry_alike x.child y.child s.name s.there ws in
    let sent = entry_alike x.child y.child s.name s.there vs in
    let w = entry y.child ws in
    let v = entry y.child vs in
    ap₂ (λ (a b : Option Data × Items). put_entry x.child (over x.lay a.0 b.0) (laid_entries xs a.1 b.1)) old sent
    ∙ ap₂ (λ (f : Data → Data → Data) ds. put_entry x.child (over f w.0 v.0) ds) s.same
    (entries_laid xs ys pairs.1 w.1 v.1)
    ∙ put_entry_named x.child y.child s.name (over y.lay w.0 v.0) (laid_entries ys w.1 v.1)

pub laid_same : (f g : Form) → Forms SameLay f g → (w v : Data) → lay_form f w v ≡ lay_form g w v
laid_same nothing nothing r w v = refl
laid_same (whole x) (whole y) r w v = refl
laid_same (object_of xs) (object_of ys) r (object ws) (object vs) = ap object (members_laid xs ys r ws vs)
laid_same (object_of xs) (object_of ys) r w v = refl
laid_same (list_of xs) (list_of ys) r (array ws) (array vs) =
    ap (λ (f : Items → Items → Items). array (f ws vs)) (items_laid xs ys r)
laid_same (list_of xs) (list_of ys) r w v = refl
laid_same (entries_of xs) (entries_of ys) r (array ws) (array vs) = ap array (entries_laid xs ys r.0 ws vs)
laid_same (entries_of xs) (entries_of ys) r w v = refl
laid_same f g r w v = absurd r

-- a form under a name, however it fits
pub same_lay_forms : (f g : Form)
    → Forms SameLay f g → (is_some (value f) ≡ is_some (value g)) × (lay_form f ≡ lay_form g)
same_lay_forms f g r = (forms_there SameLay (λ x y s. s.there) f g r, λ i w v. laid_same f g r w v i)

pub same_lay_parts : IsOfParts SameLay
same_lay_parts = record {
  attribute = λ n d e test. record { name = refl; there = refl; same = refl };
  named = λ n f g r. let s = same_lay_forms f g r in record { name = refl; there = s.0; same = s.1 };
}
