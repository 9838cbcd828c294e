-- What children took in an update follows from the value form of their parent.
use Rattle.std.proofs.Common.{◌≡◌, ℕ, Bool, true, false, ◌&&◌, List, [], ◌∷◌, map, codes, Option, Some, None, is_some}
use Rattle.std.proofs.Common.{option_and_then, refl, sym, ap, ap₂, ◌∙◌, true≢false}
use Rattle.std.specs.Prelude.{if◌then◌else◌}
use Rattle.std.specs.Str.{encode_utf8_all}
use Rattle.std.proofs.lemmas.Option.{same_Some}
use Rattle.serde_json.specs.Data.{Data, null, boolean, number, string, array, object, Items, no_items, item}
use Rattle.serde_json.specs.Data.{no_members, member}
use Rattle.serde_json.specs.Find.{get, get_member}
use Rattle.aas_json_table.specs.Spelled.{onto}
use Rattle.aas_model.specs.declared.payload.Payload.{Payload}
use Rattle.aas_model.specs.declared.payload.Payload.TheVariants as p
use Rattle.aas_constraint_laws.specs.Values.{without_values}
use Rattle.aas_value.specs.Children.{Child, named, in_order, forms_of, annotation_value, put_children}
use Rattle.aas_value.specs.Attributes.{reference_or_null}
use Rattle.aas_value.specs.ValueForm.{shows_children}
use Rattle.aas_value.specs.Parts.{Part, object_of, list_of, entries_of, name_is, by_name, children, later, over, laid}
use Rattle.aas_value.specs.Parts.{laid_items, laid_entries, entry, value, lay_form, fits_form}
use Rattle.aas_value_update.specs.Forms.{form_of}
use Rattle.aas_value_update.specs.Shape.{by_names, next_item, in_turn, by_entries, items_in, nothing_sent}
use Rattle.aas_value_update.specs.Shape.{if_sent, sent}
use Rattle.aas_value_update.specs.Took.{Took, AreNamed, NamedIn}
use Rattle.aas_value_update.proofs.Laid.{form, get_children, get_laid, sent_fits, over_none, named_laid}
use Rattle.aas_value_update.proofs.Laid.{items_laid, entries_laid}
use Rattle.aas_value_update.proofs.Named.{Apart, Alike, same_named}
use Rattle.aas_value_update.proofs.Own.{ApartIn, same_with_children}
use Rattle.aas_value_update.proofs.WholeOwn.{parts_in}

-- ---- parts with what was sent laid over them

abbrev taken : Part → Option Data → Part
taken x s = record { child = record x.child { form = over x.lay x.child.form s }; fits = x.fits; lay = x.lay }

abbrev pub all_taken : List Part → List (Option Data) → List Part
all_taken [] ss = []
all_taken (x ∷ xs) [] = []
all_taken (x ∷ xs) (s ∷ ss) = taken x s ∷ all_taken xs ss

-- something or nothing is sent for each part, and nothing for one without a form
abbrev AreFor : List Part → List (Option Data) → Type 0
AreFor [] [] = Unit {0}
AreFor (x ∷ xs) (s ∷ ss) = (is_some x.child.form ≡ false → s ≡ None) × AreFor xs ss
AreFor xs ss = ⊥

took_all : (xs : List Part) (ss : List (Option Data)) → AreFor xs ss → Took xs ss (all_taken xs ss)
took_all [] [] h = tt
took_all [] (s ∷ ss) h = absurd h
took_all (x ∷ xs) [] h = absurd h
took_all (x ∷ xs) (s ∷ ss) h = (refl, took_all xs ss h.1)

still_there : (x : Part) (f s : Option Data) → (is_some f ≡ false → s ≡ None) → is_some f ≡ is_some (over x.lay f s)
still_there x None None h = refl
still_there x None (Some d) h = let none : Some d ≡ None = h refl in absurd (cc)
still_there x (Some w) None h = refl
still_there x (Some w) (Some d) h = refl

alike_taken : (xs : List Part) (ss : List (Option Data))
    → AreFor xs ss → Alike (children xs) (children (all_taken xs ss))
alike_taken [] [] h = tt
alike_taken [] (s ∷ ss) h = absurd h
alike_taken (x ∷ xs) [] h = absurd h
alike_taken (x ∷ xs) (s ∷ ss) h = ((refl, still_there x x.child.form s h.0), alike_taken xs ss h.1)

alike_both : (bs cs ds : List Child) → Alike bs cs → Alike cs ds → Alike bs ds
alike_both [] [] ds h k = k
alike_both [] (c ∷ cs) ds h k = absurd h
alike_both (b ∷ bs) [] ds h k = absurd h
alike_both (b ∷ bs) (c ∷ cs) [] h k = absurd k
alike_both (b ∷ bs) (c ∷ cs) (d ∷ ds) h k = ((h.0.0 ∙ k.0.0, h.0.1 ∙ k.0.1), alike_both bs cs ds h.1 k.1)

-- ---- what is sent is for the children

for_names : (xs : List Part) (v : Data) → AreFor xs (by_names (children xs) v)
for_names [] v = tt
for_names (x ∷ xs) v = (
  λ e. ap (λ (b : Bool). if b then option_and_then (λ n. get (encode_utf8_all n) v) x.child.name else None) e,
  for_names xs v,
)

for_turn : (xs : List Part) (ds : Items) → AreFor xs (in_turn (children xs) ds)
for_turn [] ds = tt
for_turn (x ∷ xs) ds = by_form (is_some x.child.form) refl ds (for_turn xs)
  where
    by_form : (b : Bool) → is_some x.child.form ≡ b → (ds : Items)
        → ((es : Items) → AreFor xs (in_turn (children xs) es))
        → AreFor (x ∷ xs) (if b then next_item (in_turn (children xs)) ds else None ∷ in_turn (children xs) ds)
    by_form true is no_items more = (λ e. refl, more no_items)
    by_form true is (item d es) more = (λ e. absurd (true≢false (sym is ∙ e)), more es)
    by_form false is es more = (λ e. refl, more es)

pub entry_formless : (c : Child) (ds : Items) → is_some c.form ≡ false → (entry c ds).0 ≡ None
entry_formless c (item (object (member n d no_members)) ds) e =
    ap (λ (b : Bool). (chosen (name_is n c.name && b)).0) e ∙ never (name_is n c.name)
  where
    chosen : Bool → Option Data × Items
    chosen b = if b then (Some d, ds) else (None, item (object (member n d no_members)) ds)

    never : (b : Bool) → (chosen (b && false)).0 ≡ None
    never true = refl
    never false = refl
entry_formless c ds e = refl

for_entries : (xs : List Part) (ds : Items) → AreFor xs (by_entries (children xs) ds)
for_entries [] ds = tt
for_entries (x ∷ xs) ds = (entry_formless x.child ds, for_entries xs (entry x.child ds).1)

nothing_taken : (xs : List Part) → children (all_taken xs (nothing_sent (children xs))) ≡ children xs
nothing_taken [] = refl
nothing_taken (x ∷ xs) =
    ap₂ (λ (f : Option Data) cs. record { name = x.child.name; form = f } ∷ cs)
    (sym (over_none x.lay x.child.form)) (nothing_taken xs)

-- ---- children in an object, in an array and in entries

named_taken : (xs ys : List Part) (v : Data)
    → Apart (children ys) → Alike (children ys) (children xs) → fits_form (object_of xs) v ≡ true
    → Some (named (children ys)) ≡ over (lay_form (object_of xs)) (Some (named (children xs))) (Some v)
    → children ys ≡ children (all_taken xs (by_names (children xs) v))
named_taken xs ys (object ms) apart alike fits e =
    let for = for_names xs (object ms) in
    let forms : named (children ys) ≡ object (laid xs (put_children (children xs) no_members) ms) = cc in
    same_named (children ys) (children (all_taken xs (by_names (children xs) (object ms)))) apart
    (alike_both _ _ _ alike (alike_taken xs _ for))
    (forms ∙ sym (named_laid xs (all_taken xs (by_names (children xs) (object ms))) ms fits (took_all xs _ for)))
named_taken xs ys null apart alike fits e = absurd (true≢false (sym fits))
named_taken xs ys (boolean b) apart alike fits e = absurd (true≢false (sym fits))
named_taken xs ys (number n) apart alike fits e = absurd (true≢false (sym fits))
named_taken xs ys (string s) apart alike fits e = absurd (true≢false (sym fits))
named_taken xs ys (array ds) apart alike fits e = absurd (true≢false (sym fits))

listed_taken : (y : Payload) → ((xs : List Part) → value (form_of y xs) ≡ Some (in_order (children xs)))
    → shows_children y ≡ true → (xs ys : List Part) (v : Data) → ApartIn y (children ys)
    → Alike (children ys) (children xs) → fits_form (list_of xs) v ≡ true
    → Some (in_order (children ys)) ≡ over (lay_form (list_of xs)) (Some (in_order (children xs))) (Some v)
    → children ys ≡ children (all_taken xs (in_turn (children xs) (items_in v)))
listed_taken y is shows xs ys (array ds) apart alike fits e =
    let for = for_turn xs ds in
    let forms : in_order (children ys) ≡ array (laid_items xs (onto (forms_of (children xs)) no_items) ds) = cc in
    let new = all_taken xs (in_turn (children xs) ds) in
    let same : in_order (children ys) ≡ in_order (children new) =
    forms ∙ ap array (sym (items_laid xs new ds fits (took_all xs _ for))) in
    (same_with_children y y ys new shows refl apart (alike_both _ _ _ alike (alike_taken xs _ for))
    (is ys ∙ ap (λ (d : Data). Some d) same ∙ sym (is new))).1
listed_taken y is shows xs ys null apart alike fits e = absurd (true≢false (sym fits))
listed_taken y is shows xs ys (boolean b) apart alike fits e = absurd (true≢false (sym fits))
listed_taken y is shows xs ys (number n) apart alike fits e = absurd (true≢false (sym fits))
listed_taken y is shows xs ys (string s) apart alike fits e = absurd (true≢false (sym fits))
listed_taken y is shows xs ys (object ms) apart alike fits e = absurd (true≢false (sym fits))

annotations_taken : (y : Payload)
    → ((xs ys : List Part)
    → in_order (map annotation_value (children xs)) ≡ in_order (map annotation_value (children ys))
    → value (form_of y xs) ≡ value (form_of y ys))
    → shows_children y ≡ true → (xs ys : List Part) (v : Data)
    → ApartIn y (children ys) → Alike (children ys) (children xs) → AreNamed xs → fits_form (entries_of xs) v ≡ true
    → Some (in_order (map annotation_value (children ys)))
    ≡ over (lay_form (entries_of xs)) (Some (in_order (map annotation_value (children xs)))) (Some v)
    → children ys ≡ children (all_taken xs (by_entries (children xs) (items_in v)))
annotations_taken y by shows xs ys (array ds) apart alike names fits e =
    let for = for_entries xs ds in
    let forms : in_order (map annotation_value (children ys))
    ≡ array (laid_entries xs (onto (forms_of (map annotation_value (children xs))) no_items) ds) = cc in
    let new = all_taken xs (by_entries (children xs) ds) in
    let same : in_order (map annotation_value (children ys)) ≡ in_order (map annotation_value (children new)) =
    forms ∙ ap array (sym (entries_laid xs new ds names fits (took_all xs _ for))) in
    (same_with_children y y ys new shows refl apart
    (alike_both _ _ _ alike (alike_taken xs _ for)) (by ys new same)).1
annotations_taken y by shows xs ys null apart alike names fits e = absurd (true≢false (sym fits))
annotations_taken y by shows xs ys (boolean b) apart alike names fits e = absurd (true≢false (sym fits))
annotations_taken y by shows xs ys (number n) apart alike names fits e = absurd (true≢false (sym fits))
annotations_taken y by shows xs ys (string s) apart alike names fits e = absurd (true≢false (sym fits))
annotations_taken y by shows xs ys (object ms) apart alike names fits e = absurd (true≢false (sym fits))

-- ---- children under a name of their parent

-- a member of an object, by what was sent for it
record Laid (n : List ℕ) (xs : List Part) (old new : Data) (s : Option Data) : Type 0 where
  is_laid : Some new ≡ over (by_name n (λ x. x.lay) xs later) (Some old) s
  fits : (d : Data) → s ≡ Some d → by_name n (λ x. x.fits) xs (λ e. false) d ≡ true

module _ (n : List ℕ) (xs ys : List Part) (old new : Data)
    (was : by_name n form xs None ≡ Some old) (is : by_name n form ys None ≡ Some new) where
  member_laid : (v : Data) → fits_form (object_of xs) v ≡ true
      → Some (named (children ys)) ≡ over (lay_form (object_of xs)) (Some (named (children xs))) (Some v)
      → Laid n xs old new (get n v)
  member_laid (object ms) fits e =
      let members : put_children (children ys) no_members ≡ laid xs (put_children (children xs) no_members) ms = cc in
      record {
        is_laid =
            sym (get_children n ys no_members ∙ is) ∙ ap (get_member n) members
            ∙ get_laid n xs (put_children (children xs) no_members) ms
            ∙ ap (λ (w : Option Data). over (by_name n (λ x. x.lay) xs later) w (get_member n ms))
            (get_children n xs no_members ∙ was);
        fits = λ d there. sent_fits n xs ms d fits there;
      }
  member_laid null fits e = absurd (true≢false (sym fits))
  member_laid (boolean b) fits e = absurd (true≢false (sym fits))
  member_laid (number m) fits e = absurd (true≢false (sym fits))
  member_laid (string s) fits e = absurd (true≢false (sym fits))
  member_laid (array ds) fits e = absurd (true≢false (sym fits))

statements_taken : (xs ys : List Part) (s : Option Data) → Apart (children ys) → Alike (children ys) (children xs)
    → Some (named (children ys)) ≡ over (lay_form (object_of xs)) (Some (named (children xs))) s
    → ((d : Data) → s ≡ Some d → fits_form (object_of xs) d ≡ true)
    → children ys ≡ children (all_taken xs (if_sent (by_names (children xs)) (children xs) s))
statements_taken xs ys None apart alike e fits =
    same_named (children ys) (children xs) apart alike (same_Some _ _ e) ∙ sym (nothing_taken xs)
statements_taken xs ys (Some d) apart alike e fits = named_taken xs ys d apart alike (fits d refl) e

entries_taken : (y : Payload)
    → ((xs ys : List Part)
    → in_order (map annotation_value (children xs)) ≡ in_order (map annotation_value (children ys))
    → value (form_of y xs) ≡ value (form_of y ys))
    → shows_children y ≡ true → (xs ys : List Part) (s : Option Data)
    → ApartIn y (children ys) → Alike (children ys) (children xs) → AreNamed xs
    → Some (in_order (map annotation_value (children ys)))
    ≡ over (lay_form (entries_of xs)) (Some (in_order (map annotation_value (children xs)))) s
    → ((d : Data) → s ≡ Some d → fits_form (entries_of xs) d ≡ true)
    → children ys ≡ children (all_taken xs (if_sent (λ d. by_entries (children xs) (items_in d)) (children xs) s))
entries_taken y by shows xs ys None apart alike names e fits =
    (same_with_children y y ys xs shows refl apart alike (by ys xs (same_Some _ _ e))).1
    ∙ sym (nothing_taken xs)
entries_taken y by shows xs ys (Some d) apart alike names e fits =
    annotations_taken y by shows xs ys d apart alike names (fits d refl) e

-- ---- kinds

pub children_taken : (x y : Payload) (xs ys : List Part) (v : Data) → shows_children x ≡ true
    → without_values y ≡ without_values x → ApartIn y (children ys) → Alike (children ys) (children xs)
    → NamedIn x xs → fits_form (form_of x xs) v ≡ true
    → value (form_of y ys) ≡ over (lay_form (form_of x xs)) (value (form_of x xs)) (Some v)
    → children ys ≡ children (all_taken xs (sent x (children xs) v))
unfolding lib.Utf8.encode
children_taken (p.AnnotatedRelationshipElement a b)
    (p.AnnotatedRelationshipElement c d) xs ys v shows r apart alike names fits e =
    let own = member_laid (codes "annotations") (parts_in (form_of (p.AnnotatedRelationshipElement a b) xs))
    (parts_in (form_of (p.AnnotatedRelationshipElement c d) ys)) _ _ refl refl v fits e in
    entries_taken (p.AnnotatedRelationshipElement c d) (λ us zs same.
    ap (λ (z : Data). Some (object (member (codes "annotations") z
    (member (codes "first") (reference_or_null c) (member (codes "second") (reference_or_null d) no_members))))) same)
    refl xs ys (get (codes "annotations") v) apart alike names own.is_laid own.fits
children_taken (p.Entity t g ids) (p.Entity u h jds) xs ys v shows r apart alike names fits e =
    let own = member_laid (codes "statements") (parts_in (form_of (p.Entity t g ids) xs))
    (parts_in (form_of (p.Entity u h jds) ys)) _ _ refl refl v fits e in
    statements_taken xs ys (get (codes "statements") v) apart alike own.is_laid own.fits
children_taken p.SubmodelElementCollection p.SubmodelElementCollection xs ys v shows r apart alike names fits e =
    named_taken xs ys v apart alike fits e
children_taken (p.SubmodelElementList o s t a)
    (p.SubmodelElementList o' s' t' a') xs ys v shows r apart alike names fits e =
    listed_taken (p.SubmodelElementList o' s' t' a') (λ us. refl) refl xs ys v apart alike fits e
children_taken x y xs ys v shows r apart alike names fits e = absurd (cc)
