-- The references that aas_form makes lead back.
use Rattle.std.proofs.Common.{◌≡◌, ℕ, zero, suc, ◌+◌, ◌<◌, ◌^◌, Bool, true, false, cond, nat_lt, List, [], ◌∷◌, ◌++◌}
use Rattle.std.proofs.Common.{length, take, get_or, slice_get, Option, Some, None, option_map, option_and_then, Ok}
use Rattle.std.proofs.Common.{refl, sym, ap, ◌∙◌, arith, add-zero, zero-add, length-append}
use Rattle.std.specs.Prelude.{is_some, unwrap_or}
use Rattle.std.specs.FinMap as map
use Rattle.std.specs.Option.{option_map_or}
use Rattle.std.specs.Str.{encode_utf8_all}
use Rattle.std.proofs.lemmas.List.Quantifiers.{position-Some}
use Rattle.std.proofs.lemmas.Option.{get_or_from_slice_get, slice_get_within, cond_some}
use Rattle.std.proofs.lemmas.Slice.Eq.{bytes_eq-Decides}
use Rattle.aas_lemmas.proofs.Lists.{get_front, get_behind}
use Rattle.aas_form.specs.ReferenceTo.{element_key, key_type_of, key_value, keys_in, model_reference, submodel_key}
use Rattle.aas_model.specs.Element.{kind_of}
use Rattle.aas_model.specs.Payload as payload_kind
use Rattle.aas_model.specs.declared.documents.Submodel.{Submodel}
use Rattle.aas_model.specs.declared.element.Element.{Element, out-Element}
use Rattle.aas_model.specs.declared.path.PathStep.{PathStep}
use Rattle.aas_model.specs.declared.path.PathStep.TheVariants.{Name, Place}
use Rattle.aas_model.specs.declared.payload.Payload.{Payload}
use Rattle.aas_model.specs.declared.payload.Payload.TheVariants as payload
use Rattle.aas_model.specs.declared.reference.Key.{Key}
use Rattle.aas_model.specs.declared.reference.Reference.{Reference, out-roll-Reference}
use Rattle.aas_model_names.specs.declared.collection.Collection.TheVariants.{Shells, Submodels}
use Rattle.aas_model_names.specs.declared.kind.Kind.{Kind}
use Rattle.aas_model_names.specs.declared.kind.Kind.TheVariants.{SubmodelElementList}
use Rattle.aas_path_trees.proofs.Paths.{child_by-there}
use Rattle.aas_path_trees.specs.Children as children
use Rattle.aas_path_trees.specs.Children.{kids_of, id_short_of}
use Rattle.aas_path_trees.specs.ElementAt.{child_by, element_at, element_below, is_text, place_of}
use Rattle.aas_reference.specs.Rules.{is_external, is_fragment}
use Rattle.aas_store.specs.Documents.{Documents, Identifier}
use Rattle.aas_store.specs.Spots.{elements, elements_of_all, spot_among, spot_below}
use Rattle.aas_path_trees.specs.Patched.{element_count}
use Rattle.aas_store.specs.declared.spot.Spot.{Spot}
use Rattle.aas_store.proofs.Listed.{elements_out}
use Rattle.aas_resolve.specs.Laws.{ElementsLeadBack, ShellsLeadBack, SubmodelsLeadBack, rank_at, rank_below}
use Rattle.aas_resolve.specs.Resolved.{admits, along, child_named, child_of, if_admitted, is_list, lost, target_at}
use Rattle.aas_resolve.specs.Resolved.{resolved, resolved_by, stays, step_spelled}
use Rattle.aas_resolve.proofs.Numbers.{number_decimal}
use Rattle.aas_resolve.proofs.Preorder.{few_first, few_kids}

-- ---- keys of elements

-- a kind's own type of key admits it, and is no FragmentReference
own_type : (k : Kind) → (admits (key_type_of k) k ≡ true) × (is_fragment (key_type_of k) ≡ false)
own_type SubmodelElementList = (refl, refl)
own_type k = (refl, refl)

goes_on : (l : Bool) (c : ℕ × Element) (more : List Key) → stays (element_key l c) more ≡ false
goes_on l c [] = (own_type (kind_of c.1)).1
goes_on l c (k ∷ ks) = refl

list_kind : (p : Payload) → is_list (payload_kind.kind_of p) ≡ children.is_list_payload p
list_kind (payload.SubmodelElementList _ _ _ _) = refl
list_kind p = refl

-- ---- the key of a child spells the step to it

has_name : (n : List ℕ) (o : Option (List ℕ)) → is_text n o ≡ true → unwrap_or o [] ≡ n
has_name n None e = absurd (cc)
has_name n (Some m) e = (bytes_eq-Decides m n).0 e

spells : (l : Bool) (s : PathStep) (ks : List Element) (c : ℕ × Element)
    → c.0 < 2 ^ 64 → place_of l s ks ≡ Some c.0 → slice_get ks c.0 ≡ Some c.1
    → step_spelled l (key_value l c.0 c.1) ≡ Some s
unfolding place_of
spells true (Name n) ks c small at there = absurd (cc)
spells true (Place i) ks c small at there =
    ap (option_map (λ n. Place n)) (number_decimal c.0 small)
    ∙ ap (λ n. Some (Place n)) (sym (cond_some (nat_lt i (length ks)) i c.0 at).1)
spells false (Name n) ks c small at there =
    let found = position-Some (λ k. is_text n (id_short_of k)) ks c.0 c.1 at in
    let here : get_or ks c.0 c.1 ≡ c.1 = get_or_from_slice_get ks c.0 c.1 c.1 there in
    ap (λ name. Some (Name name))
    (has_name n (id_short_of c.1) (ap (λ k. is_text n (id_short_of k)) (sym here) ∙ found.1))
spells false (Place i) ks c small at there = absurd (cc)

-- ---- what stands from a place on in a list

StandFrom : List Element → ℕ → List Element → Type 0
StandFrom all n es = (j : ℕ) (e : Element) → slice_get es j ≡ Some e → slice_get all (n + j) ≡ Some e

from_first : (all : List Element) → StandFrom all 0 all
unfolding StandFrom
from_first all j e at = ap (slice_get all) (zero-add j) ∙ at

stands : (all : List Element) (n : ℕ) (e : Element) → StandFrom all n (elements e) → slice_get all n ≡ Some e
unfolding StandFrom
stands all n e from = ap (slice_get all) (sym (add-zero n)) ∙ from 0 e (ap (λ es. slice_get es 0) (elements_out e))

from_below : (all : List Element) (n : ℕ) (e : Element)
    → StandFrom all n (elements e) → StandFrom all (n + 1) (elements_of_all (kids_of e))
unfolding StandFrom
from_below all n e from j f at =
    let place : (n + 1) + j ≡ n + suc j = omega arith in
    ap (slice_get all) place ∙ from (suc j) f (ap (λ es. slice_get es (suc j)) (elements_out e) ∙ at)

kid_stands : (ks : List Element) (i : ℕ) (k : Element)
    → slice_get ks i ≡ Some k → StandFrom (elements_of_all ks) (length (elements_of_all (take i ks))) (elements k)
unfolding StandFrom
kid_stands [] i k at j e there = absurd (cc)
kid_stands (x ∷ xs) zero k at j e there =
    let same : x ≡ k = cc in
    ap (slice_get (elements_of_all (x ∷ xs))) (zero-add j)
    ∙ get_front (elements x) (elements_of_all xs) j e (ap (λ k. slice_get (elements k) j) same ∙ there)
kid_stands (x ∷ xs) (suc i) k at j e there =
    let front = elements_of_all (take i xs) in
    let place : (length front + j) + length (elements x) ≡ length (elements x ++ front) + j =
    omega (arith, length-append (elements x) front) in
    get_behind (elements x) (elements_of_all xs) (length front + j) (length (elements x ++ front) + j) place
    ∙ kid_stands xs i k at j e there

from_kid : (all : List Element) (n : ℕ) (ks : List Element) (i : ℕ) (k : Element)
    → StandFrom all n (elements_of_all ks) → slice_get ks i ≡ Some k
    → StandFrom all (n + length (elements_of_all (take i ks))) (elements k)
unfolding StandFrom
from_kid all n ks i k from at j e there =
    let front = length (elements_of_all (take i ks)) in
    let place : (n + front) + j ≡ n + (front + j) = omega arith in
    ap (slice_get all) place ∙ from (front + j) e (kid_stands ks i k at j e there)

-- ---- one key

abbrev spot_of : ℕ → Element → Spot
spot_of n e = record { rank = n; kind = kind_of e }

admitted : (n : ℕ) (k : Element)
    → if_admitted (key_type_of (kind_of k)) (record { rank = n; kind = kind_of k })
    ≡ Some (record { rank = n; kind = kind_of k })
admitted n k = ap (λ b. cond b (Some (record { rank = n; kind = kind_of k })) None) (own_type (kind_of k)).0

-- from the children ks, the first of which has the rank n
key_leads : (l : Bool) (s : PathStep) (ks : List Element) (n : ℕ) (c : ℕ × Element)
    → c.0 < 2 ^ 64 → child_by l s ks ≡ Some c
    → option_and_then (λ t. option_and_then (if_admitted (element_key l c).key_type) (spot_among l ks n t))
    (step_spelled l (element_key l c).value)
    ≡ Some (record { rank = n + length (elements_of_all (take c.0 ks)); kind = kind_of c.1 })
key_leads l s ks n c small is =
    let there = child_by-there l s ks c is in
    ap (option_and_then (λ t. option_and_then (if_admitted (element_key l c).key_type) (spot_among l ks n t)))
    (spells l s ks c small there.0 there.1)
    ∙ ap (λ o. option_and_then (if_admitted (element_key l c).key_type)
    (option_map (λ c. record { rank = n + length (elements_of_all (take c.0 ks)); kind = kind_of c.1 }) o))
    is
    ∙ admitted (n + length (elements_of_all (take c.0 ks))) c.1

-- ---- the keys of a path

record Begins (l : Bool) (s : PathStep) (p : List PathStep) (ks : List Element) (keys : List Key) : Type 0 where
  child : ℕ × Element
  more : List Key
  first : child_by l s ks ≡ Some child
  rest : keys_in (children.is_list child.1) p (kids_of child.1) ≡ Some more
  whole : keys ≡ element_key l child ∷ more

begins_with : (l : Bool) (s : PathStep) (p : List PathStep)
    (ks : List Element) (keys : List Key) (c : ℕ × Element) (o : Option (List Key))
    → child_by l s ks ≡ Some c → keys_in (children.is_list c.1) p (kids_of c.1) ≡ o
    → option_map (λ more. element_key l c ∷ more) o ≡ Some keys → Begins l s p ks keys
begins_with l s p ks keys c None is rest e = absurd (cc)
begins_with l s p ks keys c (Some more) is rest e = record {
  child = c;
  more = more;
  first = is;
  rest = rest;
  whole = let same : element_key l c ∷ more ≡ keys = cc in sym same;
}

begins_by : (l : Bool) (s : PathStep) (p : List PathStep)
    (ks : List Element) (keys : List Key) (o : Option (ℕ × Element))
    → child_by l s ks ≡ o
    → option_and_then
    (λ c. option_map (λ more. element_key l c ∷ more) (keys_in (children.is_list c.1) p (kids_of c.1))) o
    ≡ Some keys
    → Begins l s p ks keys
begins_by l s p ks keys None is e = absurd (cc)
begins_by l s p ks keys (Some c) is e =
    begins_with l s p ks keys c (keys_in (children.is_list c.1) p (kids_of c.1)) is refl e

begins : (l : Bool) (s : PathStep) (p : List PathStep) (ks : List Element) (keys : List Key)
    → keys_in l (s ∷ p) ks ≡ Some keys → Begins l s p ks keys
unfolding keys_in
begins l s p ks keys e = begins_by l s p ks keys (child_by l s ks) refl e

no_more : (l : Bool) (ks : List Element) (keys : List Key) → keys_in l [] ks ≡ Some keys → keys ≡ []
unfolding keys_in
no_more l ks keys e = let same : [] ≡ keys = cc in sym same

module _ (m : Documents) (id : Identifier) (d : Submodel)
    (stored : map.get m.submodels id ≡ Some d) (few : element_count d < 2 ^ 64) where
  abbrev all : List Element
  all = elements_of_all d.kids

  -- to what the keys of a path lead from an element of rank n
  record Leads (p : List PathStep) (e : Element) (n at : ℕ) (keys : List Key) : Type 0 where
    below : ℕ
    leads : along (child_of m Submodels id) Submodels at (Some (spot_of n e)) keys
        ≡ Ok (record { collection = Submodels; rank = Some (n + below) })
    of_path : rank_below p e ≡ Some below
    there : slice_get all (n + below) ≡ element_below p e

  -- a child stands at a place that 64 bits hold
  small_place : (n : ℕ) (e : Element) (s : PathStep) (c : ℕ × Element)
      → slice_get all n ≡ Some e → child_by (children.is_list e) s (kids_of e) ≡ Some c → c.0 < 2 ^ 64
  small_place n e s c at is =
      let within = slice_get_within (kids_of e) c.0 c.1 (child_by-there (children.is_list e) s (kids_of e) c is).1 in
      let kids = few_kids d n e at in
      omega (arith, within, kids, few)

  child_named_is : (n : ℕ) (e : Element) (s : PathStep) (c : ℕ × Element)
      → slice_get all n ≡ Some e → child_by (children.is_list e) s (kids_of e) ≡ Some c
      → child_of m Submodels id (Some (spot_of n e)) (element_key (children.is_list e) c)
      ≡ Some (spot_of ((n + 1) + length (elements_of_all (take c.0 (kids_of e)))) c.1)
  child_named_is n e s c at is =
      let key = element_key (children.is_list e) c in
      ap (option_and_then (λ d. child_named d (Some (spot_of n e)) key)) stored
      ∙ ap (λ l. option_and_then (λ t. option_and_then (if_admitted key.key_type) (spot_below d (Some n) t))
      (step_spelled l key.value))
      (list_kind (out-Element e).payload)
      ∙ ap (λ o. option_and_then (λ t. option_and_then (if_admitted key.key_type)
      (option_and_then (λ e. spot_among (children.is_list e) (kids_of e) (n + 1) t) o))
      (step_spelled (children.is_list e) key.value))
      at
      ∙ key_leads (children.is_list e) s (kids_of e) (n + 1) c (small_place n e s c at is) is

  one_key : (at : ℕ) (from : Option Spot) (l : Bool) (c : ℕ × Element) (more : List Key) (spot : Spot)
      → child_of m Submodels id from (element_key l c) ≡ Some spot
      → along (child_of m Submodels id) Submodels at from (element_key l c ∷ more)
      ≡ along (child_of m Submodels id) Submodels (at + 1) (Some spot) more
  one_key at from l c more spot is =
      ap (λ b. cond b (target_at Submodels from)
      (option_map_or (λ s. along (child_of m Submodels id) Submodels (at + 1) (Some s) more)
      (child_of m Submodels id from (element_key l c)) (lost at)))
      (goes_on l c more)
      ∙ ap (λ o. option_map_or (λ s. along (child_of m Submodels id) Submodels (at + 1) (Some s) more) o (lost at)) is

  keys_lead : (p : List PathStep) (e : Element) (n at : ℕ) (keys : List Key)
      → StandFrom all n (elements e) → keys_in (children.is_list e) p (kids_of e) ≡ Some keys → Leads p e n at keys
  unfolding rank_below element_below
  keys_lead [] e n at keys from is = record {
    below = 0;
    leads =
        ap (along (child_of m Submodels id) Submodels at (Some (spot_of n e)))
        (no_more (children.is_list e) (kids_of e) keys is)
        ∙ ap (λ r. Ok (record { collection = Submodels; rank = Some r })) (sym (add-zero n));
    of_path = refl;
    there = ap (slice_get all) (add-zero n) ∙ stands all n e from;
  }
  keys_lead (s ∷ p) e n at keys from is =
      let b = begins (children.is_list e) s p (kids_of e) keys is in
      let here = stands all n e from in
      let front = length (elements_of_all (take b.child.0 (kids_of e))) in
      let kid : slice_get (kids_of e) b.child.0 ≡ Some b.child.1 =
      (child_by-there (children.is_list e) s (kids_of e) b.child b.first).1 in
      let rest = keys_lead p b.child.1 ((n + 1) + front) (at + 1) b.more
      (from_kid all (n + 1) (kids_of e) b.child.0 b.child.1 (from_below all n e from) kid) b.rest in
      let sum : ((n + 1) + front) + rest.below ≡ n + ((1 + front) + rest.below) = omega arith in record {
        below = (1 + front) + rest.below;
        leads = ap (along (child_of m Submodels id) Submodels at (Some (spot_of n e))) b.whole
            ∙ one_key at (Some (spot_of n e)) (children.is_list e) b.child b.more
            (spot_of ((n + 1) + front) b.child.1) (child_named_is n e s b.child here b.first)
            ∙ rest.leads ∙ ap (λ r. Ok (record { collection = Submodels; rank = Some r })) sum;
        of_path =
            ap (option_and_then (λ c.
            option_map (λ r. 1 + length (elements_of_all (take c.0 (kids_of e))) + r) (rank_below p c.1)))
            b.first
            ∙ ap (option_map (λ r. (1 + front) + r)) rest.of_path;
        there =
            ap (slice_get all) (sym sum) ∙ rest.there ∙ sym (ap (option_and_then (λ c. element_below p c.1)) b.first);
      }

  -- from the submodel
  submodel_leads : (s : PathStep) (p : List PathStep) (keys : List Key) → keys_in false (s ∷ p) d.kids ≡ Some keys
      → (rank : ℕ)
      × (along (child_of m Submodels id) Submodels 1 None keys
      ≡ Ok (record { collection = Submodels; rank = Some rank }))
      × (rank_at d s p ≡ Some rank) × (slice_get all rank ≡ element_at d (s ∷ p))
  submodel_leads s p keys is =
      let b = begins false s p d.kids keys is in
      let front = length (elements_of_all (take b.child.0 d.kids)) in
      let kid : slice_get d.kids b.child.0 ≡ Some b.child.1 = (child_by-there false s d.kids b.child b.first).1 in
      let small : b.child.0 < 2 ^ 64 =
      omega (arith, slice_get_within d.kids b.child.0 b.child.1 kid, few_first d.kids, few) in
      let key = element_key false b.child in
      let child : child_of m Submodels id None key ≡ Some (spot_of (0 + front) b.child.1) =
      ap (option_and_then (λ d. child_named d None key)) stored ∙ key_leads false s d.kids 0 b.child small b.first in
      let rest = keys_lead p b.child.1 (0 + front) 2 b.more
      (from_kid all 0 d.kids b.child.0 b.child.1 (from_first all) kid) b.rest in
      let sum : (0 + front) + rest.below ≡ front + rest.below = omega arith in (
        front + rest.below,
        ap (along (child_of m Submodels id) Submodels 1 None) b.whole
            ∙ one_key 1 None false b.child b.more (spot_of (0 + front) b.child.1) child ∙ rest.leads
            ∙ ap (λ r. Ok (record { collection = Submodels; rank = Some r })) sum,
        ap (option_and_then (λ c. option_map (λ r. length (elements_of_all (take c.0 d.kids)) + r) (rank_below p c.1)))
            b.first
            ∙ ap (option_map (λ r. front + r)) rest.of_path,
        ap (slice_get all) (sym sum) ∙ rest.there ∙ sym (ap (option_and_then (λ c. element_below p c.1)) b.first),
      )

-- ---- whole references

by_model_keys : (m : Documents) (keys : List Key) → resolved m (model_reference keys) ≡ resolved_by m keys
by_model_keys m keys = ap (λ x. cond (is_external x.ref_type) (lost 0) (resolved_by m x.keys)) (out-roll-Reference _)

reference_keys : (d : Submodel) (p : List PathStep) (r : Reference) (o : Option (List Key)) → keys_in false p d.kids ≡ o
    → option_map (λ keys. model_reference (submodel_key d ∷ keys)) o ≡ Some r
    → (keys : List Key) × (keys_in false p d.kids ≡ Some keys) × (r ≡ model_reference (submodel_key d ∷ keys))
reference_keys d p r None is e = absurd (cc)
reference_keys d p r (Some keys) is e =
    (keys, is, let same : model_reference (submodel_key d ∷ keys) ≡ r = cc in sym same)

by_submodel_key : (m : Documents) (d : Submodel) (keys : List Key)
    → map.get m.submodels (encode_utf8_all d.head.id) ≡ Some d
    → resolved m (model_reference (submodel_key d ∷ keys))
    ≡ along (child_of m Submodels (encode_utf8_all d.head.id)) Submodels 1 None keys
by_submodel_key m d keys stored =
    by_model_keys m (submodel_key d ∷ keys)
    ∙ ap (λ o. option_map_or (λ c. along (child_of m c (encode_utf8_all d.head.id)) c 1 None keys)
    (cond (is_some o) (Some Submodels) None) (lost 0))
    stored

pub elements_lead_back : ElementsLeadBack
elements_lead_back m d s p r few stored is =
    let id = encode_utf8_all d.head.id in
    let own = reference_keys d (s ∷ p) r (keys_in false (s ∷ p) d.kids) refl is in
    let found = submodel_leads m id d stored few s p own.0 own.1 in
    record {
      rank = found.0;
      resolves = ap (resolved m) own.2 ∙ by_submodel_key m d own.0 stored ∙ found.1;
      of_path = found.2;
      there = found.3;
    }

pub submodels_lead_back : SubmodelsLeadBack
submodels_lead_back m d r stored is =
    let own = reference_keys d [] r (keys_in false [] d.kids) refl is in
    ap (resolved m) own.2 ∙ by_submodel_key m d own.0 stored
    ∙ ap (along (child_of m Submodels (encode_utf8_all d.head.id)) Submodels 1 None) (no_more false d.kids own.0 own.1)

pub shells_lead_back : ShellsLeadBack
shells_lead_back m s stored =
    by_model_keys m _
    ∙ ap (λ o. option_map_or (λ c. along (child_of m c (encode_utf8_all s.head.id)) c 1 None [])
    (cond (is_some o) (Some Shells) None) (lost 0))
    stored
