-- Children in their order, each whole: one changed, one taken out, one put behind them.
use Rattle.std.proofs.Common.{◌≡◌, ℕ, zero, suc, ◌≤◌, nat_le, Bool, true, List, [], ◌∷◌, ◌++◌, Some, slice_get, slice_set, refl, sym, ap, ◌∙◌, subst}
use Rattle.std.specs.Prelude.{remove}
use Rattle.std.specs.List.{list_all}
use Rattle.std.proofs.Math.Seq.{map-set_same}
use Rattle.std.proofs.lemmas.Bool.{and_from}
use Rattle.std.proofs.lemmas.Option.{get_or_from_slice_get}
use Rattle.aas_lemmas.proofs.Truth.{and_left, and_right}
use Rattle.aas_json_table.specs.TooDeep.{limits}
use Rattle.aas_json_spelling.specs.Lists.{Each}
use Rattle.aas_json_mapping.specs.Whole.{has_whole_parts, Placed, is_annotation, admits, rank, in_order, is_placed, element_levels}
use Rattle.aas_json_mapping.proofs.Elements.{seen, seen_role, ranks, mapped_each, each_mapped}
use Rattle.aas_json_mapping.proofs.ElementsSame.{only_member, only_annotation, only_statement}
use Rattle.aas_json_mapping.proofs.Kids.{IsIn, each_append}
use Rattle.aas_json_mapping.proofs.Roles.{standing_in}
use Rattle.aas_model.specs.declared.element.Element.{Element}
use Rattle.aas_model.specs.declared.element.Role.{Role}
use Rattle.aas_model.specs.declared.payload.Payload.{Payload}
use Rattle.aas_model.specs.declared.payload.Payload.TheVariants as p
use Rattle.aas_path_trees.specs.Children.{role_of}
use Rattle.aas_path_trees.specs.Edits.{role_within}

-- a whole child where so many levels are left
pub record IsWhole (left : ℕ) (k : Element) : Type 0 where
  pub parts : has_whole_parts limits k ≡ true
  pub placed : is_placed k ≡ true
  pub low : element_levels k ≤ left

-- and it may stand under a payload
pub record IsWholeUnder (left : ℕ) (x : Payload) (k : Element) : Type 0 where
  pub admitted : admits x (seen k) ≡ true
  pub whole : IsWhole left k

pub record AreWhole (left : ℕ) (x : Payload) (ks : List Element) : Type 0 where
  pub each : Each (IsWholeUnder left x) ks
  pub order : in_order (ranks ks) ≡ true

-- w may stand where k stands
pub record IsLike (k w : Element) : Type 0 where
  pub role : role_of w ≡ role_of k
  pub admitted : (x : Payload) → admits x (seen k) ≡ true → admits x (seen w) ≡ true

-- ---- what holds of each

module _ {X : Type 0} (P : X → Type 0) where
  pub each_map : (Q : X → Type 0) → ((x : X) → P x → Q x) → (xs : List X) → Each P xs → Each Q xs
  each_map Q h [] each = tt
  each_map Q h (x ∷ xs) each = (h x each.0, each_map Q h xs each.1)

  pub each_at : (xs : List X) (i : ℕ) (x : X) → Each P xs → slice_get xs i ≡ Some x → P x
  each_at [] i x each at = absurd (cc)
  each_at (y ∷ xs) zero x each at = let same : y ≡ x = cc in subst P same each.0
  each_at (y ∷ xs) (suc i) x each at = each_at xs i x each.1 at

  each_set : (xs : List X) (i : ℕ) (w : X) → Each P xs → P w → Each P (slice_set xs i w)
  each_set [] i w each here = tt
  each_set (x ∷ xs) zero w each here = (here, each.1)
  each_set (x ∷ xs) (suc i) w each here = (each.0, each_set xs i w each.1 here)

  each_left : (xs : List X) (i : ℕ) → Each P xs → Each P (remove xs i)
  each_left [] zero each = tt
  each_left [] (suc i) each = tt
  each_left (x ∷ xs) zero each = each.1
  each_left (x ∷ xs) (suc i) each = (each.0, each_left xs i each.1)

-- ---- order

abbrev rank_of : Element → ℕ
rank_of k = rank (role_of k)

order_set : (ks : List Element) (i : ℕ) (k w : Element) → slice_get ks i ≡ Some k → role_of w ≡ role_of k
    → in_order (ranks ks) ≡ true → in_order (ranks (slice_set ks i w)) ≡ true
order_set ks i k w at roles order =
    let same = ap rank roles ∙ ap rank_of (sym (get_or_from_slice_get ks i k k at)) in
    ap in_order (map-set_same rank_of ks i w k same) ∙ order

order_left : (ks : List Element) (i : ℕ) → in_order (ranks ks) ≡ true → in_order (ranks (remove ks i)) ≡ true
order_left [] zero order = refl
order_left [] (suc i) order = refl
order_left (k ∷ ks) zero order = and_right (list_all (nat_le (rank_of k)) (ranks ks)) (in_order (ranks ks)) order
order_left (k ∷ ks) (suc i) order =
    let above : ℕ → Bool = nat_le (rank_of k) in
    let each = each_mapped above rank_of ks (and_left (list_all above (ranks ks)) (in_order (ranks ks)) order) in
    and_from (list_all above (ranks (remove ks i))) (in_order (ranks (remove ks i)))
    (mapped_each above rank_of (remove ks i) (each_left (λ j. above (rank_of j) ≡ true) ks i each))
    (order_left ks i (and_right (list_all above (ranks ks)) (in_order (ranks ks)) order))

-- ---- a container takes children of one role

takes : (x : Payload) (r : Role) → role_within x ≡ Some r → (c : Placed) → admits x c ≡ true → c.role ≡ r
takes p.SubmodelElementCollection r is c admitted = only_member c.role admitted ∙ (cc)
takes (p.SubmodelElementList o s t v) r is c admitted = only_member c.role admitted ∙ (cc)
takes (p.Entity t g ids) r is c admitted = only_statement c.role admitted ∙ (cc)
takes (p.AnnotatedRelationshipElement a b) r is c admitted = only_annotation c.role (and_left (is_annotation c.role) c.is_data admitted) ∙ (cc)
takes x r is c admitted = absurd (cc)

module _ (left : ℕ) (x : Payload) where
  abbrev Under : Element → Type 0
  Under = IsWholeUnder left x

  -- ---- children stay whole

  pub one_changed : (ks : List Element) (i : ℕ) (k w : Element) → AreWhole left x ks → slice_get ks i ≡ Some k → IsLike k w → IsWhole left w
      → AreWhole left x (slice_set ks i w)
  one_changed ks i k w are at like whole =
      let under : Under w = record { admitted = like.admitted x (each_at Under ks i k are.each at).admitted; whole = whole } in
      record { each = each_set Under ks i w are.each under; order = order_set ks i k w at like.role are.order }

  pub one_out : (ks : List Element) (i : ℕ) → AreWhole left x ks → AreWhole left x (remove ks i)
  one_out ks i are = record { each = each_left Under ks i are.each; order = order_left ks i are.order }

  -- under a container any order will do
  pub in_any_order : (r : Role) → role_within x ≡ Some r → (ks : List Element) → Each Under ks → AreWhole left x ks
  in_any_order r is ks each =
      let roles = each_map Under (IsIn r) (λ k h. (h.whole.placed, sym (seen_role k) ∙ takes x r is (seen k) h.admitted)) ks each in
      record { each = each; order = (standing_in x r ks roles (each_map Under (λ k. admits x (seen k) ≡ true) (λ k h. h.admitted) ks each)).order }

  pub one_more : (r : Role) (ks : List Element) (w : Element) → role_within x ≡ Some r → AreWhole left x ks → Under w → AreWhole left x (ks ++ w ∷ [])
  one_more r ks w is are here = in_any_order r is (ks ++ w ∷ []) (each_append Under ks (w ∷ []) are.each (here, tt))
