-- What placed sentences read isn't of class V.
use Rattle.std.proofs.Common.{◌≡◌, ℕ, Bool, true, false, not, ◌&&◌, ◌||◌, cond, List, [], ◌∷◌, map, filter, filter_map, Option, Some, None, option_map, refl, sym, ap, ap₂, subst}
use Rattle.std.specs.Prelude.{is_some, is_none}
use Rattle.std.specs.List.{AllByRecursion, cons_option}
use Rattle.aas_reference.specs.Rules.{Rule, failing, if_any}
use Rattle.aas_model.specs.Payload.{kind_of, is_operation}
use Rattle.aas_model.specs.declared.payload.Payload.{Payload}
use Rattle.aas_model.specs.declared.payload.Payload.TheVariants as p
use Rattle.aas_constraint_rules.specs.Rules.{ElementSentence, local, placed, rules, name_of, semantics_of, stands_in_operation, is_repeat, first_some, agree, list_semantics, list_type, list_value_type, of_parent, type_admits, is_typed, value_type_of, same_type, list_is_typed, has_list_value_type}
use Rattle.aas_constraint_rules.specs.Sites.{Own, Site}
use Rattle.aas_constraint_rules.specs.Texts.{is_among}
use Rattle.aas_constraint_laws.specs.Values.{without_values}
use Rattle.aas_constraint_laws.proofs.Bare.{bare_own, bare_site, in_list_bare}

-- what is wanted of the place alone
abbrev pub holds_in_place : ElementSentence → Site → Bool
holds_in_place (local s) x = true
holds_in_place (placed test) x = test x

-- ---- words

record ReadsAlike (o : Payload) (w : Payload) : Type 0 where
  operation : is_operation w ≡ is_operation o
  semantics : list_semantics w ≡ list_semantics o
  type : list_type w ≡ list_type o
  value_type : list_value_type w ≡ list_value_type o
  kind : kind_of w ≡ kind_of o
  own_type : value_type_of w ≡ value_type_of o
  typed : list_is_typed w ≡ list_is_typed o

reads : (o : Payload) → ReadsAlike o (without_values o)
reads p.Capability = record { operation = refl; semantics = refl; type = refl; value_type = refl; kind = refl; own_type = refl; typed = refl }
reads _ = record { operation = refl; semantics = refl; type = refl; value_type = refl; kind = refl; own_type = refl; typed = refl }

in_operation_bare : (a : Option Own) → stands_in_operation (option_map bare_own a) ≡ stands_in_operation a
in_operation_bare None = refl
in_operation_bare (Some o) = (reads o.payload).operation

demand_bare : {X : Type 0} (demand : Payload → Option X) → ((o : Payload) → demand (without_values o) ≡ demand o) → (a : Option Own) → of_parent demand (option_map bare_own a) ≡ of_parent demand a
demand_bare demand h None = refl
demand_bare demand h (Some o) = h o.payload

names_bare : (b : List Own) → filter_map name_of (map bare_own b) ≡ filter_map name_of b
names_bare [] = refl
names_bare (o ∷ b) = ap (cons_option (name_of o)) (names_bare b)

all_semantics_bare : (b : List Own) → map semantics_of (map bare_own b) ≡ map semantics_of b
all_semantics_bare [] = refl
all_semantics_bare (o ∷ b) = ap (λ l. semantics_of o ∷ l) (all_semantics_bare b)

repeat_bare : (b : List Own) (n : Option (List ℕ)) → is_repeat (map bare_own b) n ≡ is_repeat b n
repeat_bare b None = refl
repeat_bare b (Some n) = ap (is_among n) (names_bare b)

-- ---- rows

-- the same holds of a place and of the bare place
abbrev IsAlike : Site → Rule ElementSentence → Type 0
IsAlike x r = holds_in_place r.sentence (bare_site x) ≡ holds_in_place r.sentence x

abbrev is_placed : ElementSentence → Bool
is_placed (local s) = false
is_placed (placed test) = true

abbrev placed_among : List (Rule ElementSentence) → List (Rule ElementSentence)
placed_among rs = filter (λ r. is_placed r.sentence) rs

-- local sentences hold of each place alike, so the placed ones are left
alike_from : (x : Site) (rs : List (Rule ElementSentence)) → AllByRecursion (IsAlike x) (placed_among rs) → AllByRecursion (IsAlike x) rs
alike_from x [] h = tt
alike_from x (r ∷ rs) h = let both = by_sentence r.sentence refl h in (both.0, alike_from x rs both.1)
  where
    by_sentence : (s : ElementSentence) → r.sentence ≡ s → AllByRecursion (IsAlike x) (cond (is_placed s) (r ∷ placed_among rs) (placed_among rs)) → IsAlike x r × AllByRecursion (IsAlike x) (placed_among rs)
    by_sentence (local s) e h = (subst (λ t. holds_in_place t (bare_site x) ≡ holds_in_place t x) (sym e) refl, h)
    by_sentence (placed test) e h = h

alike : (x : Site) → AllByRecursion (IsAlike x) rules
alike x =
    let repeat = repeat_bare x.before (name_of x.own) in
    let in_list = in_list_bare x.above in
    let in_operation = in_operation_bare x.above in
    let reads_own = reads x.own.payload in
    let type = demand_bare list_type (λ o. (reads o).type) x.above in
    let value_type = demand_bare list_value_type (λ o. (reads o).value_type) x.above in
    let of_22 = ap₂ (λ u v. u || not v) in_operation repeat in
    let of_107 = ap (λ u. agree u (semantics_of x.own)) (demand_bare list_semantics (λ o. (reads o).semantics) x.above) in
    let of_108 = ap₂ (λ k l. if_any (λ t. type_admits t k) l) reads_own.kind type in
    let of_109 : has_list_value_type (bare_site x) ≡ has_list_value_type x = λ i. reads_own.typed i && if_any (λ t. not (is_typed t) || if_any (same_type (value_type i)) (reads_own.own_type i)) (type i) in
    let of_114 = ap₂ (λ u l. not u || agree (first_some l) (semantics_of x.own)) in_list (all_semantics_bare x.before) in
    let of_117 = ap (λ u. is_some (name_of x.own) || u) in_list in
    let of_120 = ap (λ u. not u || is_none (name_of x.own)) in_list in
    let of_134 = ap₂ (λ u v. not u || not v) in_operation repeat in
    alike_from x rules (of_22, (of_107, (of_108, (of_109, (of_114, (of_117, (of_120, (refl, (of_134, tt)))))))))

-- the placed sentences that fail at a place are those that fail at the bare place
pub placed_bare : (x : Site) → failing (λ s. holds_in_place s (bare_site x)) rules ≡ failing (λ s. holds_in_place s x) rules
placed_bare x = ap (map (λ r. r.number)) (kept rules (alike x))
  where
    kept : (rs : List (Rule ElementSentence)) → AllByRecursion (IsAlike x) rs
        → filter (λ r. not (holds_in_place r.sentence (bare_site x))) rs ≡ filter (λ r. not (holds_in_place r.sentence x)) rs
    kept [] h = refl
    kept (r ∷ rs) h = ap₂ (λ b l. cond (not b) (r ∷ l) l) h.0 (kept rs h.1)
