-- What an update leaves alone in one tree, and the two sentences that say the same:
-- all but values, and the Operations and Capabilities.
use Rattle.std.proofs.Common.{◌≡◌, ◌+◌, Bool, true, false, List, [], ◌∷◌, ◌++◌, length, map, refl, sym, ap, ap₂, ◌∙◌}
use Rattle.std.proofs.Common.{subst, true≢false, length-append}
use Rattle.std.specs.Prelude.{if◌then◌else◌}
use Rattle.std.specs.List.{flat_map}
use Rattle.aas_model.specs.declared.common.Common.{Common}
use Rattle.aas_model.specs.declared.element.Element.{Element, out-Element, fold-Element}
use Rattle.aas_model.specs.declared.element.Element.TheFolds.{fold-roll-Element}
use Rattle.aas_model.specs.declared.element.Role.{Role}
use Rattle.aas_model.specs.declared.payload.Payload.{Payload}
use Rattle.aas_model.specs.declared.payload.Payload.TheVariants as p
use Rattle.aas_json_mapping.specs.Whole.{Placed, admits, is_placed}
use Rattle.aas_json_mapping.proofs.Elements.{made, made_out, by_children, seen, standing, Stands}
use Rattle.aas_json_spelling.specs.Lists.{Each}
use Rattle.aas_path_trees.specs.Children.{kids_of}
use Rattle.aas_constraint_laws.specs.Values.{without_values, bare_over, bare, DifferInValues}
use Rattle.aas_value.specs.ValueForm.{shows_children}
use Rattle.aas_value_update.specs.LeftAlone.{has_value, Unshown, unshown_over, unshown, left_alone}
use Rattle.aas_value_update.proofs.Elements.{kids_alone, alone_at}
use Rattle.aas_value_update.proofs.Alone.{SameFields, fields, kids_made, Level, level, whole, shows_bare, value_bare}

-- ---- without values

pub bare_at : (r : Role) (c : Common) (x : Payload) (ks : List Element)
    → bare (made r c x ks) ≡ made r c (without_values x) (map bare ks)
unfolding bare
bare_at r c x ks = fold-roll-Element Element bare_over (record { common = c; payload = x; role = r; kids = ks })

twice : (x : Payload) → without_values (without_values x) ≡ without_values x
twice p.Capability = refl
twice _ = refl

kids_bare : (ks : List Element)
    → Each (λ e. bare (left_alone e) ≡ bare e) ks → map bare (map left_alone ks) ≡ map bare ks
kids_bare [] each = refl
kids_bare (k ∷ ks) each = ap₂ (λ z zs. z ∷ zs) each.0 (kids_bare ks each.1)

bare_alone : (e : Element) → bare (left_alone e) ≡ bare e
bare_alone = by_children (λ e. bare (left_alone e) ≡ bare e) (λ r c x ks each.
    ap bare (alone_at r c x ks) ∙ bare_at r c (without_values x) (kids_alone x ks)
    ∙ ap₂ (made r c) (twice x) (by_test (shows_children x) ks each)
    ∙ sym (bare_at r c x ks))
  where
    by_test : (b : Bool) (ks : List Element)
        → Each (λ e. bare (left_alone e) ≡ bare e) ks → map bare (if b then map left_alone ks else ks) ≡ map bare ks
    by_test true ks each = kids_bare ks each
    by_test false ks each = refl

pub differ_in_values : (e u : Element) → left_alone u ≡ left_alone e → DifferInValues e u
differ_in_values e u same = sym (bare_alone e) ∙ ap bare (sym same) ∙ bare_alone u

-- ---- Operations and Capabilities

unshown_element : (e : Element) → (fold-Element Unshown unshown_over e).element ≡ e
unshown_element = by_children (λ e. (fold-Element Unshown unshown_over e).element ≡ e) (λ r c x ks each.
    ap (λ l. l.element)
    (fold-roll-Element Unshown unshown_over (record { common = c; payload = x; role = r; kids = ks }))
    ∙ ap (made r c x) (all ks each))
  where
    all : (ks : List Element) → Each (λ e. (fold-Element Unshown unshown_over e).element ≡ e) ks
        → map (λ l. l.element) (map (fold-Element Unshown unshown_over) ks) ≡ ks
    all [] e = refl
    all (k ∷ ks) e = ap₂ (λ c cs. c ∷ cs) e.0 (all ks e.1)

kids_themselves : (ks : List Element)
    → map (λ (l : Unshown). l.element) (map (fold-Element Unshown unshown_over) ks) ≡ ks
kids_themselves [] = refl
kids_themselves (k ∷ ks) = ap₂ (λ c cs. c ∷ cs) (unshown_element k) (kids_themselves ks)

unshown_kids : (ks : List Element)
    → flat_map (λ (l : Unshown). l.unshown) (map (fold-Element Unshown unshown_over) ks) ≡ flat_map unshown ks
unfolding unshown
unshown_kids [] = refl
unshown_kids (k ∷ ks) = ap (λ l. (fold-Element Unshown unshown_over k).unshown ++ l) (unshown_kids ks)

pub unshown_at : (r : Role) (c : Common) (x : Payload) (ks : List Element)
    → unshown (made r c x ks) ≡ (if has_value x then flat_map unshown ks else made r c x ks ∷ [])
unfolding unshown
unshown_at r c x ks =
    ap (λ l. l.unshown)
    (fold-roll-Element Unshown unshown_over (record { common = c; payload = x; role = r; kids = ks }))
    ∙ ap₂ (λ l m. if has_value x then l else made r c x m ∷ []) (unshown_kids ks) (kids_themselves ks)

unshown_out : (e : Element)
    → unshown e ≡ (if has_value (out-Element e).payload then flat_map unshown (kids_of e) else e ∷ [])
unshown_out e =
    let x = out-Element e in
    ap unshown (sym (made_out e)) ∙ unshown_at x.role x.common x.payload x.kids
    ∙ ap (λ z. if has_value x.payload then flat_map unshown x.kids else z ∷ []) (made_out e)

-- ---- left alone, then the same Operations and Capabilities

KeepsUnshown : Element → Type 0
KeepsUnshown e = (u : Element) → left_alone u ≡ left_alone e → unshown u ≡ unshown e

kids_keep : (us ks : List Element)
    → Each KeepsUnshown ks → map left_alone us ≡ map left_alone ks → flat_map unshown us ≡ flat_map unshown ks
unfolding KeepsUnshown
kids_keep [] [] each h = refl
kids_keep [] (k ∷ ks) each h = cc
kids_keep (u ∷ us) [] each h = cc
kids_keep (u ∷ us) (k ∷ ks) each h =
    let head : left_alone u ≡ left_alone k = cc in
    let tail : map left_alone us ≡ map left_alone ks = cc in
    ap₂ (λ a b. a ++ b) (each.0 u head) (kids_keep us ks each.1 tail)

value_same : (u e : Element) → Level u e → has_value (out-Element u).payload ≡ has_value (out-Element e).payload
value_same u e l =
    sym (value_bare (out-Element u).payload) ∙ ap has_value l.same.payloads ∙ value_bare (out-Element e).payload

-- what shows no children and has no value has no values either
same_without : (x y : Payload) → has_value x ≡ false → without_values y ≡ without_values x → y ≡ x
same_without p.Capability p.Capability h e = refl
same_without p.Operation p.Operation h e = refl
same_without x y h e = absurd (cc)

hides : (x : Payload) → has_value x ≡ false → shows_children x ≡ false
hides p.Capability h = refl
hides p.Operation h = refl
hides x h = absurd (cc)

kids_chosen : (b : Bool) (us ks : List Element)
    → b ≡ false → (if b then map left_alone us else us) ≡ (if b then map left_alone ks else ks) → us ≡ ks
kids_chosen true us ks e h = absurd (true≢false e)
kids_chosen false us ks e h = h

pub same_kids_alone : (u e : Element) → Level u e
    → (if shows_children (out-Element e).payload then map left_alone (kids_of u) else kids_of u)
    ≡ kids_alone (out-Element e).payload (kids_of e)
same_kids_alone u e l = ap (λ b. if b then map left_alone (kids_of u) else kids_of u) (sym l.shows) ∙ l.same.kids

keeps_level : (u e : Element) → Each KeepsUnshown (kids_of e) → Level u e → unshown u ≡ unshown e
keeps_level u e each l = by_value (has_value (out-Element e).payload) refl
  where
    by_shows : (b : Bool)
        → (if b then map left_alone (kids_of u) else kids_of u) ≡ (if b then map left_alone (kids_of e) else kids_of e)
        → flat_map unshown (kids_of u) ≡ flat_map unshown (kids_of e)
    by_shows true h = kids_keep (kids_of u) (kids_of e) each h
    by_shows false h = ap (flat_map unshown) h

    by_value : (b : Bool) → has_value (out-Element e).payload ≡ b → unshown u ≡ unshown e
    by_value true is =
        unshown_out u ∙ ap (λ b. if b then flat_map unshown (kids_of u) else u ∷ []) (value_same u e l ∙ is)
        ∙ by_shows (shows_children (out-Element e).payload) (same_kids_alone u e l)
        ∙ ap (λ b. if b then flat_map unshown (kids_of e) else e ∷ []) (sym is) ∙ sym (unshown_out e)
    by_value false is =
        let kids = kids_chosen (shows_children (out-Element e).payload) (kids_of u)
        (kids_of e) (hides (out-Element e).payload is) (same_kids_alone u e l) in
        ap unshown (whole u e l (same_without (out-Element e).payload (out-Element u).payload is l.same.payloads) kids)

keeps : (e : Element) → KeepsUnshown e
unfolding KeepsUnshown
keeps = by_children KeepsUnshown (λ r c x ks each u h.
    keeps_level u (made r c x ks)
    (subst (Each KeepsUnshown) (sym (kids_made r c x ks)) each) (level u (made r c x ks) h))

pub unshown_stays : (e u : Element) → left_alone u ≡ left_alone e → unshown u ≡ unshown e
unfolding KeepsUnshown
unshown_stays e u h = keeps e u h

-- ---- and back, where children stand only where they may

-- how many there are doesn't depend on values
bare_count : (e : Element) → length (unshown (bare e)) ≡ length (unshown e)
bare_count = by_children (λ e. length (unshown (bare e)) ≡ length (unshown e)) (λ r c x ks each.
    ap (λ z. length (unshown z)) (bare_at r c x ks)
    ∙ ap length (unshown_at r c (without_values x) (map bare ks))
    ∙ ap (λ b. length (if b then flat_map unshown (map bare ks) else made r c (without_values x) (map bare ks) ∷ []))
    (value_bare x)
    ∙ by_value (has_value x) ks (made r c (without_values x) (map bare ks)) (made r c x ks) (all ks each)
    ∙ ap length (sym (unshown_at r c x ks)))
  where
    all : (ks : List Element) → Each (λ e. length (unshown (bare e)) ≡ length (unshown e)) ks
        → length (flat_map unshown (map bare ks)) ≡ length (flat_map unshown ks)
    all [] each = refl
    all (k ∷ ks) each =
        length-append (unshown (bare k)) (flat_map unshown (map bare ks)) ∙ ap₂ (λ m n. m + n) each.0 (all ks each.1)
        ∙ sym (length-append (unshown k) (flat_map unshown ks))

    by_value : (b : Bool) (ks : List Element) (a z : Element)
        → length (flat_map unshown (map bare ks)) ≡ length (flat_map unshown ks)
        → length (if b then flat_map unshown (map bare ks) else a ∷ [])
        ≡ length (if b then flat_map unshown ks else z ∷ [])
    by_value true ks a z same = same
    by_value false ks a z same = refl

same_count : (u e : Element) → bare u ≡ bare e → length (unshown u) ≡ length (unshown e)
same_count u e h = sym (bare_count u) ∙ ap (λ z. length (unshown z)) h ∙ bare_count e

split : {X : Type 0} (a b xs ys : List X) → length a ≡ length b → a ++ xs ≡ b ++ ys → (a ≡ b) × (xs ≡ ys)
split [] [] xs ys n e = (refl, e)
split [] (y ∷ b) xs ys n e = cc
split (x ∷ a) [] xs ys n e = cc
split (x ∷ a) (y ∷ b) xs ys n e =
    let head : x ≡ y = cc in
    let tail : a ++ xs ≡ b ++ ys = cc in
    let sizes : length a ≡ length b = cc in
    let more = split a b xs ys sizes tail in
    (ap₂ (λ z zs. z ∷ zs) head more.0, more.1)

IsAlone : Element → Type 0
IsAlone e = (u : Element) → is_placed e ≡ true → bare u ≡ bare e → unshown u ≡ unshown e → left_alone u ≡ left_alone e

kids_are_alone : (x : Payload) (us ks : List Element)
    → Each IsAlone ks → Each (Stands x) ks → map bare us ≡ map bare ks → flat_map unshown us ≡ flat_map unshown ks
    → map left_alone us ≡ map left_alone ks
unfolding IsAlone
kids_are_alone x [] [] each stand b s = refl
kids_are_alone x [] (k ∷ ks) each stand b s = cc
kids_are_alone x (u ∷ us) [] each stand b s = cc
kids_are_alone x (u ∷ us) (k ∷ ks) each stand b s =
    let head : bare u ≡ bare k = cc in
    let tail : map bare us ≡ map bare ks = cc in
    let both = split (unshown u) (unshown k) (flat_map unshown us) (flat_map unshown ks) (same_count u k head) s in
    ap₂ (λ z zs. z ∷ zs) (each.0 u stand.0.placed head both.0) (kids_are_alone x us ks each.1 stand.1 tail both.1)

-- where no children are shown, and there is a value, there are no children
no_kids : (x : Payload) (ks : List Element)
    → has_value x ≡ true → shows_children x ≡ false → Each (Stands x) ks → ks ≡ []
no_kids x [] v s stand = refl
no_kids x (k ∷ ks) v s stand = absurd (nowhere x (seen k) v s stand.0.admitted)
  where
    nowhere : (x : Payload) (c : Placed) → has_value x ≡ true → shows_children x ≡ false → admits x c ≡ true → ⊥
    nowhere (p.AnnotatedRelationshipElement a b) c v s e = true≢false s
    nowhere (p.Entity t g ids) c v s e = true≢false s
    nowhere p.SubmodelElementCollection c v s e = true≢false s
    nowhere (p.SubmodelElementList o a t w) c v s e = true≢false s
    nowhere p.Capability c v s e = true≢false (sym v)
    nowhere p.Operation c v s e = true≢false (sym v)
    nowhere x c v s e = absurd (cc)

none_mapped : (us : List Element) → map bare us ≡ [] → us ≡ []
none_mapped [] e = refl
none_mapped (u ∷ us) e = cc

alone_level : (r q : Role) (c d : Common) (x y : Payload) (ks us : List Element) → Each IsAlone ks → Each (Stands x) ks
    → SameFields q r d c (without_values y) (without_values x) (map bare us) (map bare ks)
    → unshown (made q d y us) ≡ unshown (made r c x ks) → left_alone (made q d y us) ≡ left_alone (made r c x ks)
alone_level r q c d x y ks us each stand same s = by_value (has_value x) refl
  where
    values : has_value y ≡ has_value x
    values = sym (value_bare y) ∙ ap has_value same.payloads ∙ value_bare x

    shows : shows_children y ≡ shows_children x
    shows = sym (shows_bare y) ∙ ap shows_children same.payloads ∙ shows_bare x

    joined : kids_alone y us ≡ kids_alone x ks → left_alone (made q d y us) ≡ left_alone (made r c x ks)
    joined kids =
        let rs = same.roles in
        let cs = same.commons in
        let xs = same.payloads in
        alone_at q d y us ∙ (λ i. made (rs i) (cs i) (xs i) (kids i)) ∙ sym (alone_at r c x ks)

    by_shows : (b : Bool) → shows_children x ≡ b → has_value x ≡ true → flat_map unshown us ≡ flat_map unshown ks
        → left_alone (made q d y us) ≡ left_alone (made r c x ks)
    by_shows true is v lists =
        joined (ap (λ b. if b then map left_alone us else us) (shows ∙ is)
        ∙ kids_are_alone x us ks each stand same.kids lists
        ∙ ap (λ b. if b then map left_alone ks else ks) (sym is))
    by_shows false is v lists =
        let none = no_kids x ks v is stand in
        joined (ap (λ b. if b then map left_alone us else us) (shows ∙ is)
        ∙ none_mapped us (same.kids ∙ ap (map bare) none) ∙ sym none
        ∙ ap (λ b. if b then map left_alone ks else ks) (sym is))

    by_value : (b : Bool) → has_value x ≡ b → left_alone (made q d y us) ≡ left_alone (made r c x ks)
    by_value true is =
        by_shows (shows_children x) refl is
        (ap (λ b. if b then flat_map unshown us else made q d y us ∷ []) (sym (values ∙ is))
        ∙ sym (unshown_at q d y us) ∙ s
        ∙ unshown_at r c x ks ∙ ap (λ b. if b then flat_map unshown ks else made r c x ks ∷ []) is)
    by_value false is =
        let one : made q d y us ∷ [] ≡ made r c x ks ∷ [] =
        ap (λ b. if b then flat_map unshown us else made q d y us ∷ []) (sym (values ∙ is))
        ∙ sym (unshown_at q d y us) ∙ s
        ∙ unshown_at r c x ks ∙ ap (λ b. if b then flat_map unshown ks else made r c x ks ∷ []) is in
        let same : made q d y us ≡ made r c x ks = cc in
        ap left_alone same

is_alone : (e : Element) → IsAlone e
unfolding IsAlone
is_alone = by_children IsAlone (λ r c x ks each u placed b s.
    let z = out-Element u in
    let same = fields z.role r z.common c (without_values z.payload) (without_values x) (map bare z.kids) (map bare ks)
    (sym (bare_at z.role z.common z.payload z.kids) ∙ ap bare (made_out u) ∙ b ∙ bare_at r c x ks) in
    ap left_alone (sym (made_out u))
    ∙ alone_level r z.role c z.common x z.payload ks z.kids each
    (standing r c x ks placed).each same (ap unshown (made_out u) ∙ s))

pub left_alone_is : (e u : Element)
    → is_placed e ≡ true → DifferInValues e u → unshown u ≡ unshown e → left_alone u ≡ left_alone e
unfolding IsAlone
left_alone_is e u placed differ s = is_alone e u placed (sym differ) s
