-- Elements by levels: induction over their children, what is said of one level, and where children stand.
use Rattle.std.proofs.Common.{◌≡◌, ℕ, zero, suc, ◌≤◌, ◌&&◌, List, [], ◌∷◌, map, Bool, true, false, Some, option_map, refl, sym, ap, ap₂, ◌∙◌, subst, true≢false, arith}
use Rattle.std.proofs.lemmas.Bool.{and_from}
use Rattle.std.specs.List.{list_all}
use Rattle.aas_json_table.specs.Table.{element}
use Rattle.aas_json_table.specs.TooDeep.{Levels, enter, spend}
use Rattle.aas_json_table.specs.Spelled.{Attributes, spelled}
use Rattle.aas_model.specs.declared.common.Common.{Common}
use Rattle.aas_model.specs.declared.element.Element.{Element, roll-Element, out-Element, roll-out-Element, fold-Element}
use Rattle.aas_model.specs.declared.element.Element.TheFolds.{ind-Element, fold-roll-Element}
use Rattle.aas_model.specs.declared.element.Role.{Role}
use Rattle.aas_model.specs.declared.payload.Payload.{Payload}
use Rattle.aas_json_spelling.specs.Lists.{Each, most}
use Rattle.aas_lemmas.proofs.Truth.{and_left, and_right}
use Rattle.aas_json_mapping.specs.Elements.{Child, element_attributes, rows_for, model_type_of, spell_over, spelled_child, spell_element}
use Rattle.aas_model_names.specs.KindNames.{is_data_element}
use Rattle.aas_model.specs.Payload.{kind_of}
use Rattle.aas_json_mapping.specs.Whole.{whole_common, whole_payload, has_whole_parts, Placed, admits, rank, in_order, placed_over, is_placed, element_levels}

-- an element, made of its parts
abbrev pub made : Role → Common → Payload → List Element → Element
made r c p ks = roll-Element (record { common = c; payload = p; role = r; kids = ks })

pub made_out : (e : Element) → made (out-Element e).role (out-Element e).common (out-Element e).payload (out-Element e).kids ≡ e
made_out e = roll-out-Element e

abbrev pub role_of : Element → Role
role_of e = (out-Element e).role

-- ---- induction

pub each_within : (P : Element → Type 0) (ks : List ((e : Element) × P e)) → Each P (map (λ k. k.0) ks)
each_within P [] = tt
each_within P (k ∷ ks) = (k.1, each_within P ks)

-- What holds of an element where it holds of each child holds of all.
pub by_children : (P : Element → Type 0) → ((r : Role) (c : Common) (p : Payload) (ks : List Element) → Each P ks → P (made r c p ks)) → (e : Element) → P e
by_children P step = ind-Element P (λ x y is. subst (λ z. P (roll-Element z)) is (step y.role y.common y.payload (map (λ k. k.0) y.kids) (each_within P y.kids)))

-- ---- one level

-- the attributes of an element with these children
abbrev pub attributes_at : Common → Payload → List Element → Attributes
attributes_at c p ks = element_attributes c p (map spelled_child ks)

child_at : (r : Role) (c : Common) (p : Payload) (ks : List Element) → spelled_child (made r c p ks) ≡ record { role = r; spelling = spelled (rows_for (model_type_of p)) (attributes_at c p ks) }
child_at r c p ks = fold-roll-Element Child spell_over (record { common = c; payload = p; role = r; kids = ks })

pub spell_at : (r : Role) (c : Common) (p : Payload) (ks : List Element) → spell_element (made r c p ks) ≡ spelled (rows_for (model_type_of p)) (attributes_at c p ks)
spell_at r c p ks = ap (λ (x : Child). x.spelling) (child_at r c p ks)

pub child_role : (e : Element) → (spelled_child e).role ≡ role_of e
child_role e =
    let y = out-Element e in ap (λ x. (spelled_child x).role) (sym (made_out e)) ∙ ap (λ (x : Child). x.role) (child_at y.role y.common y.payload y.kids)

pub parts_at : (l : Levels) (r : Role) (c : Common) (p : Payload) (ks : List Element)
    → has_whole_parts l (made r c p ks) ≡ whole_common l c && whole_payload l p && list_all (λ b. b) (map (has_whole_parts l) ks)
parts_at l r c p ks =
    fold-roll-Element Bool (λ e. whole_common l e.common && whole_payload l e.payload && list_all (λ b. b) e.kids) (record { common = c; payload = p; role = r; kids = ks })

pub levels_at : (r : Role) (c : Common) (p : Payload) (ks : List Element) → element_levels (made r c p ks) ≡ suc (most (map element_levels ks))
levels_at r c p ks = fold-roll-Element ℕ (λ e. suc (most e.kids)) (record { common = c; payload = p; role = r; kids = ks })

-- what a parent sees of an element
abbrev pub seen : Element → Placed
seen = fold-Element Placed placed_over

pub seen_at : (r : Role) (c : Common) (p : Payload) (ks : List Element) → seen (made r c p ks) ≡ placed_over (record { common = c; payload = p; role = r; kids = map seen ks })
seen_at r c p ks = fold-roll-Element Placed placed_over (record { common = c; payload = p; role = r; kids = ks })

pub seen_role : (e : Element) → (seen e).role ≡ role_of e
seen_role e = let y = out-Element e in ap (λ x. (seen x).role) (sym (made_out e)) ∙ ap (λ (x : Placed). x.role) (seen_at y.role y.common y.payload y.kids)

pub seen_data : (e : Element) → (seen e).is_data ≡ is_data_element (kind_of (out-Element e).payload)
seen_data e = let y = out-Element e in ap (λ x. (seen x).is_data) (sym (made_out e)) ∙ ap (λ (x : Placed). x.is_data) (seen_at y.role y.common y.payload y.kids)

-- ---- lists of children

pub each_mapped : {X Y : Type 0} (t : Y → Bool) (f : X → Y) (xs : List X) → list_all t (map f xs) ≡ true → Each (λ x. t (f x) ≡ true) xs
each_mapped t f [] e = tt
each_mapped t f (x ∷ xs) e = (and_left (t (f x)) _ e, each_mapped t f xs (and_right (t (f x)) _ e))

pub mapped_each : {X Y : Type 0} (t : Y → Bool) (f : X → Y) (xs : List X) → Each (λ x. t (f x) ≡ true) xs → list_all t (map f xs) ≡ true
mapped_each t f [] each = refl
mapped_each t f (x ∷ xs) each = and_from (t (f x)) (list_all t (map f xs)) each.0 (mapped_each t f xs each.1)

-- ---- where children stand

-- a child may stand under its parent, and all below it is placed
pub record Stands (p : Payload) (k : Element) : Type 0 where
  pub admitted : admits p (seen k) ≡ true
  pub placed : is_placed k ≡ true

abbrev pub ranks : List Element → List ℕ
ranks ks = map (λ k. rank (role_of k)) ks

pub record AreStanding (p : Payload) (ks : List Element) : Type 0 where
  pub each : Each (Stands p) ks
  pub order : in_order (ranks ks) ≡ true

ranks_seen : (ks : List Element) → map (λ (c : Placed). rank c.role) (map seen ks) ≡ ranks ks
ranks_seen [] = refl
ranks_seen (k ∷ ks) = ap₂ (λ n ns. n ∷ ns) (ap rank (seen_role k)) (ranks_seen ks)

each_stands : (p : Payload) (ks : List Element) → list_all (admits p) (map seen ks) ≡ true → list_all (λ (c : Placed). c.placed) (map seen ks) ≡ true → Each (Stands p) ks
each_stands p [] a b = tt
each_stands p (k ∷ ks) a b = (
  record { admitted = and_left (admits p (seen k)) _ a; placed = and_left (is_placed k) _ b },
  each_stands p ks (and_right (admits p (seen k)) _ a) (and_right (is_placed k) _ b),
)

abbrev are_placed : Payload → List Element → Bool
are_placed p ks = list_all (admits p) (map seen ks) && in_order (map (λ (c : Placed). rank c.role) (map seen ks)) && list_all (λ (c : Placed). c.placed) (map seen ks)

placed_at : (r : Role) (c : Common) (p : Payload) (ks : List Element) → is_placed (made r c p ks) ≡ are_placed p ks
placed_at r c p ks = ap (λ (x : Placed). x.placed) (seen_at r c p ks)

pub standing : (r : Role) (c : Common) (p : Payload) (ks : List Element) → is_placed (made r c p ks) ≡ true → AreStanding p ks
standing r c p ks e =
    let admitted = list_all (admits p) (map seen ks) in
    let order = in_order (map (λ (c : Placed). rank c.role) (map seen ks)) in
    let below = list_all (λ (c : Placed). c.placed) (map seen ks) in
    let all : admitted && order && below ≡ true = sym (placed_at r c p ks) ∙ e in
    let first = and_left (admitted && order) below all in
    record { each = each_stands p ks (and_left admitted order first) (and_right (admitted && order) below all); order = ap in_order (sym (ranks_seen ks)) ∙ and_right admitted order first }

pub placed_made : (r : Role) (c : Common) (p : Payload) (ks : List Element) → AreStanding p ks → is_placed (made r c p ks) ≡ true
placed_made r c p ks s =
    let admitted = list_all (admits p) (map seen ks) in
    let order = in_order (map (λ (c : Placed). rank c.role) (map seen ks)) in
    let below = list_all (λ (c : Placed). c.placed) (map seen ks) in
    let first = and_from admitted order (mapped_each (admits p) seen ks (each_admitted ks s.each)) (ap in_order (ranks_seen ks) ∙ s.order) in
    placed_at r c p ks ∙ and_from (admitted && order) below first (mapped_each (λ (c : Placed). c.placed) seen ks (each_placed ks s.each))
  where
    each_admitted : (ks : List Element) → Each (Stands p) ks → Each (λ k. admits p (seen k) ≡ true) ks
    each_admitted [] s = tt
    each_admitted (k ∷ ks) s = (s.0.admitted, each_admitted ks s.1)

    each_placed : (ks : List Element) → Each (Stands p) ks → Each (λ k. (seen k).placed ≡ true) ks
    each_placed [] s = tt
    each_placed (k ∷ ks) s = (s.0.placed, each_placed ks s.1)

-- a payload that has no place for children
pub no_kids : (p : Payload) → ((c : Placed) → admits p c ≡ false) → (ks : List Element) → Each (Stands p) ks → ks ≡ []
no_kids p none [] s = refl
no_kids p none (k ∷ ks) s = absurd (true≢false (sym s.0.admitted ∙ none (seen k)))

-- ---- levels

-- what is left inside an element that lies no deeper than there are levels
pub level_left : (l : Levels) (n : ℕ) → suc n ≤ l.elements → (m : ℕ) × (enter element l ≡ Some (record l { elements = m })) × (n ≤ m)
level_left l n h = by_number l.elements h
  where
    by_number : (k : ℕ) → suc n ≤ k → (m : ℕ) × (option_map (λ i. record l { elements = i }) (spend k) ≡ Some (record l { elements = m })) × (n ≤ m)
    by_number zero h = absurd (omega (arith, h))
    by_number (suc k) h = (k, refl, omega (arith, h))

pub level_spent : (l inner : Levels) → enter element l ≡ Some inner → (m : ℕ) × (l.elements ≡ suc m) × (inner ≡ record l { elements = m })
level_spent l inner e = by_number l.elements e
  where
    by_number : (k : ℕ) → option_map (λ i. record l { elements = i }) (spend k) ≡ Some inner → (m : ℕ) × (k ≡ suc m) × (inner ≡ record l { elements = m })
    by_number zero e = cc
    by_number (suc k) e = let same : inner ≡ record l { elements = k } = cc in (k, refl, same)
