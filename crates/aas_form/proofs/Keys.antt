-- Keys of references.
use Rattle.std.proofs.Common.{◌≡◌, ℕ, ◌<◌, ◌^◌, Bool, false, List, [], ◌∷◌, ◌++◌, length, append-nil, decimal}
use Rattle.std.proofs.Common.{Option, Some, None, option_map, option_and_then, refl, sym, ap, ◌∙◌, subst, arith}
use Rattle.std.specs.Prelude.{is_some, slice_get, IfSome, IsSome}
use Rattle.std.specs.Str.{chars}
use Rattle.std.proofs.lemmas.Fmt.{IsAscii-decimal}
use Rattle.std.proofs.lemmas.Str.{chars-IsAscii}
use Rattle.aas_lemmas.proofs.Lists.{append_one}
use Rattle.aas_model.specs.declared.documents.Submodel.{Submodel}
use Rattle.aas_model.specs.declared.element.Element.{Element}
use Rattle.aas_model.specs.declared.path.PathStep.{PathStep}
use Rattle.aas_model.specs.declared.reference.Key.{Key}
use Rattle.aas_model.specs.declared.reference.Reference.{Reference}
use Rattle.aas_path_trees.specs.Children.{kids_of, is_list}
use Rattle.aas_path_trees.specs.ElementAt.{child_by, element_below, element_at, place_of}
use Rattle.aas_form.specs.ReferenceTo.{element_key, keys_in, model_reference, submodel_key, reference_to}
use Rattle.aas_form.specs.Laws.{ReferenceIsThere}

pub digits : (n : ℕ) → n < 2 ^ 64 → chars (decimal n) ≡ decimal n
digits n h = chars-IsAscii (decimal n) (IsAscii-decimal n h)

-- the keys from a child on, to which a step led
abbrev keys_through : Bool → List PathStep → ℕ × Element → Option (List Key)
keys_through l p c = option_map (λ more. element_key l c ∷ more) (keys_in (is_list c.1) p (kids_of c.1))

-- ---- keys are there where the element is

there_map : {A B : Type 0} (f : A → B) (o : Option A) → is_some (option_map f o) ≡ is_some o
there_map f None = refl
there_map f (Some x) = refl

there_both : {A B C : Type 0} (f : A → Option B) (g : A → Option C) → ((x : A) → is_some (f x) ≡ is_some (g x)) → (o : Option A)
    → is_some (option_and_then f o) ≡ is_some (option_and_then g o)
there_both f g h None = refl
there_both f g h (Some x) = h x

keys_below_there : (p : List PathStep) (e : Element) → is_some (keys_in (is_list e) p (kids_of e)) ≡ is_some (element_below p e)
unfolding keys_in element_below
keys_below_there [] e = refl
keys_below_there (s ∷ p) e =
    there_both (keys_through (is_list e) p) (λ c. element_below p c.1)
    (λ c. there_map (λ more. element_key (is_list e) c ∷ more) (keys_in (is_list c.1) p (kids_of c.1)) ∙ keys_below_there p c.1)
    (child_by (is_list e) s (kids_of e))

keys_there : (d : Submodel) (s : PathStep) (p : List PathStep) → is_some (keys_in false (s ∷ p) d.kids) ≡ is_some (element_at d (s ∷ p))
unfolding keys_in
keys_there d s p =
    there_both (keys_through false p) (λ c. element_below p c.1)
    (λ c. there_map (λ more. element_key false c ∷ more) (keys_in (is_list c.1) p (kids_of c.1)) ∙ keys_below_there p c.1)
    (child_by false s d.kids)

pub reference_is_there : ReferenceIsThere
reference_is_there d s p = there_map (λ keys. model_reference (submodel_key d ∷ keys)) (keys_in false (s ∷ p) d.kids) ∙ keys_there d s p

-- a path that leads to an element, or is empty, has a reference
pub found_reference : (d : Submodel) (p : List PathStep) (e : Element) → element_at d p ≡ Some e → IsSome (reference_to d p)
found_reference d [] e h = absurd (cc)
found_reference d (s ∷ p) e h = reference_is_there d s p ∙ ap is_some h

pub document_reference : (d : Submodel) (p : List PathStep) → p ≡ [] → IsSome (reference_to d p)
unfolding keys_in
document_reference d [] h = refl
document_reference d (s ∷ p) h = absurd (cc)

-- ---- the reference of some keys

pub made_reference : (key : Key) (o : Option (List Key)) (first keys : List Key) (made : Reference) → made ≡ model_reference keys → first ≡ key ∷ []
    → IfSome o (λ more. keys ≡ first ++ more) → IfSome (option_map (λ keys. model_reference (key ∷ keys)) o) (λ found. made ≡ found)
made_reference key None first keys made is one h = tt
made_reference key (Some more) first keys made is one h = is ∙ ap model_reference (h ∙ ap (λ l. l ++ more) one)

pub is_reference : (o : Option Reference) (made : Reference) → IsSome o → IfSome o (λ found. made ≡ found) → o ≡ Some made
is_reference None made there h = absurd (cc)
is_reference (Some found) made there h = ap Some (sym h)

-- ---- one step of a path

pub no_keys_left : (l : Bool) (p : List PathStep) (ks : List Element) (keys : List Key) → length p ≡ 0 → IfSome (keys_in l p ks) (λ more. keys ≡ keys ++ more)
unfolding keys_in
no_keys_left l [] ks keys h = sym (append-nil keys)
no_keys_left l (s ∷ p) ks keys h = absurd (omega arith)

pub no_place : (l : Bool) (s : PathStep) (ks : List Element) → place_of l s ks ≡ None → child_by l s ks ≡ None
unfolding child_by
no_place l s ks none = ap (option_and_then (λ i. option_map (λ k. (i, k)) (slice_get ks i))) none

at_place : (l : Bool) (s : PathStep) (ks : List Element) (i : ℕ) → place_of l s ks ≡ Some i → child_by l s ks ≡ option_map (λ k. (i, k)) (slice_get ks i)
unfolding child_by
at_place l s ks i at = ap (option_and_then (λ i. option_map (λ k. (i, k)) (slice_get ks i))) at

pub no_child : (l : Bool) (s : PathStep) (ks : List Element) (i : ℕ) → place_of l s ks ≡ Some i → slice_get ks i ≡ None → child_by l s ks ≡ None
no_child l s ks i at none = at_place l s ks i at ∙ ap (option_map (λ k. (i, k))) none

keys_by : (l : Bool) (path : List PathStep) (s : PathStep) (p : List PathStep) (ks : List Element) (c : Option (ℕ × Element))
    → path ≡ s ∷ p → child_by l s ks ≡ c → keys_in l path ks ≡ option_and_then (keys_through l p) c
unfolding keys_in
keys_by l path s p ks c is by = ap (λ q. keys_in l q ks) is ∙ ap (option_and_then (keys_through l p)) by

nothing : (o : Option (List Key)) (P : List Key → Type 0) → o ≡ None → IfSome o P
nothing None P h = tt
nothing (Some more) P h = absurd (cc)

-- the step leads nowhere
pub no_step : (l : Bool) (path : List PathStep) (s : PathStep) (p : List PathStep) (ks : List Element) (P : List Key → Type 0)
    → path ≡ s ∷ p → child_by l s ks ≡ None → IfSome (keys_in l path ks) P
no_step l path s p ks P is none = nothing (keys_in l path ks) P (keys_by l path s p ks None is none)

one_more : (key : Key) (o : Option (List Key)) (old pushed new : List Key) → pushed ≡ old ++ key ∷ []
    → IfSome o (λ more. new ≡ pushed ++ more) → IfSome (option_map (λ more. key ∷ more) o) (λ more. new ≡ old ++ more)
one_more key None old pushed new is h = tt
one_more key (Some more) old pushed new is h = h ∙ ap (λ l. l ++ more) is ∙ append_one old key more

-- the step leads to a child, whose key was added, and then those of the elements below it
pub one_step : (l : Bool) (path : List PathStep) (s : PathStep) (p : List PathStep) (ks : List Element) (c : ℕ × Element) (old pushed new : List Key)
    → path ≡ s ∷ p → child_by l s ks ≡ Some c → pushed ≡ old ++ element_key l c ∷ []
    → IfSome (keys_in (is_list c.1) p (kids_of c.1)) (λ more. new ≡ pushed ++ more) → IfSome (keys_in l path ks) (λ more. new ≡ old ++ more)
one_step l path s p ks c old pushed new is by key below =
    subst (λ (o : Option (List Key)). IfSome o (λ more. new ≡ old ++ more)) (sym (keys_by l path s p ks (Some c) is by))
    (one_more (element_key l c) (keys_in (is_list c.1) p (kids_of c.1)) old pushed new key below)
