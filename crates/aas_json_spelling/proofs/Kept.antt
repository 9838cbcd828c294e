-- Kept data: what is whole spells what is good, what spells what is good is whole, and what is spelled is spelled from one thing.
use Rattle.std.proofs.Common.{◌≡◌, ℕ, zero, suc, ◌≤◌, ◌&&◌, List, [], ◌∷◌, Bool, true, map, Some, None, option_map, nat_cmp, is_lt, refl, sym, ap, ap₂, ◌∙◌, subst, arith}
use Rattle.std.specs.Cmp.Lexicographic.{slice_cmp}
use Rattle.std.specs.Str.{encode_utf8_all}
use Rattle.std.proofs.lemmas.Str.{encodes_same}
use Rattle.aas_lemmas.proofs.Truth.{and_left, and_right, Less-from_is_lt}
use Rattle.serde_json.specs.Data.{Data, null, boolean, array, object, no_items, Members, no_members, member}
use Rattle.aas_json_table.specs.Table.{plain, kept}
use Rattle.aas_json_table.specs.TooDeep.{Levels, within, enter_kept, spend}
use Rattle.aas_json_table.specs.Spelled.{onto, text_of}
use Rattle.aas_model.specs.declared.plain.Plain.{Plain, out-Plain, roll-Plain, roll-out-Plain, fold-roll-Plain, ind-Plain, map-Plain}
use Rattle.aas_model.specs.declared.plain.Plain.TheOpen.{Plain-F, PlainPair-F}
use Rattle.aas_model.specs.declared.plain.PlainPair.{PlainPair, fold-PlainPair, fold-roll-PlainPair}
use Rattle.aas_json_spelling.specs.Values.{AreAbove}
use Rattle.aas_json_spelling.specs.Lists.{Each, each_true, most}
use Rattle.aas_json_spelling.specs.Good.{Good}
use Rattle.aas_json_spelling.specs.Kept.{Member, members_of, spell_plain, spell_plain_step, spell_pair_step, spell_kept, plain_depth, plain_depth_step, is_below, are_rising, Named, is_ordered, is_ordered_step, IsWholeKept}
use Rattle.aas_json_spelling.proofs.Lists.{each_of}
use Rattle.aas_json_spelling.proofs.MemberTypes.{EachGood, none_good, kept_good, kept_back, array_good, array_back, same_lists}
use Rattle.aas_json_spelling.proofs.Members.{GoodMembers, none_members, one_member, map_good, map_back, member_back}

-- ---- induction, and one level

abbrev pub Level : Type 0
Level = Plain-F Plain PlainPair

-- P holds of what lies right inside
abbrev pub Inside : (Plain → Type 0) → Level → Type 0
Inside P (Plain-F.List ps) = Each P ps
Inside P (Plain-F.Map ms) = Each (λ m. P m.value) ms
Inside P x = Unit {0}

abbrev Proved : (Plain → Type 0) → Type 0
Proved P = Plain-F ((p : Plain) × P p) ((m : PlainPair) × P m.value)

each_proved : (P : Plain → Type 0) (ps : List ((p : Plain) × P p)) → Each P (map (λ e. e.0) ps)
each_proved P [] = tt
each_proved P (p ∷ ps) = (p.1, each_proved P ps)

each_pair : (P : Plain → Type 0) (ms : List ((m : PlainPair) × P m.value)) → Each (λ m. P m.value) (map (λ e. e.0) ms)
each_pair P [] = tt
each_pair P (m ∷ ms) = (m.1, each_pair P ms)

proved : (P : Plain → Type 0) → ((x : Level) → Inside P x → P (roll-Plain x)) → (y : Proved P)
    → P (roll-Plain (map-Plain ((p : Plain) × P p) ((m : PlainPair) × P m.value) Plain PlainPair (λ e. e.0) (λ e. e.0) y))
proved P step Plain-F.Null = step Plain-F.Null tt
proved P step (Plain-F.Bool b) = step (Plain-F.Bool b) tt
proved P step (Plain-F.Str s) = step (Plain-F.Str s) tt
proved P step (Plain-F.List ps) = step (Plain-F.List (map (λ e. e.0) ps)) (each_proved P ps)
proved P step (Plain-F.Map ms) = step (Plain-F.Map (map (λ e. e.0) ms)) (each_pair P ms)

-- What holds of kept data where it holds of what lies right inside holds of all.
pub by_levels : (P : Plain → Type 0) → ((x : Level) → Inside P x → P (roll-Plain x)) → (p : Plain) → P p
by_levels P step = ind-Plain P (λ m. P m.value) (λ x y is. subst (λ z. P (roll-Plain z)) is (proved P step y)) (λ x y is. subst P (ap (λ z. z.value) is) y.value.1)

-- a member as it is spelled
abbrev pub spell_pair : PlainPair → Member
spell_pair m = (encode_utf8_all m.name, spell_plain m.value)

abbrev pub spell_members : List PlainPair → Members
spell_members [] = no_members
spell_members (m ∷ ms) = member (spell_pair m).0 (spell_pair m).1 (spell_members ms)

abbrev pub spelled_at : Level → Data
spelled_at Plain-F.Null = null
spelled_at (Plain-F.Bool b) = boolean b
spelled_at (Plain-F.Str s) = text_of s
spelled_at (Plain-F.List ps) = array (onto (map spell_plain ps) no_items)
spelled_at (Plain-F.Map ms) = object (spell_members ms)

members_at : (ms : List PlainPair) → members_of (map (fold-PlainPair Data Member spell_plain_step spell_pair_step) ms) ≡ spell_members ms
members_at [] = refl
members_at (m ∷ ms) =
    ap₂ (λ (x : Member) rest. member x.0 x.1 rest) (fold-roll-PlainPair Data Member spell_plain_step spell_pair_step (record { name = m.name; value = m.value })) (members_at ms)

pub spell_at : (x : Level) → spell_plain (roll-Plain x) ≡ spelled_at x
spell_at Plain-F.Null = fold-roll-Plain Data Member spell_plain_step spell_pair_step Plain-F.Null
spell_at (Plain-F.Bool b) = fold-roll-Plain Data Member spell_plain_step spell_pair_step (Plain-F.Bool b)
spell_at (Plain-F.Str s) = fold-roll-Plain Data Member spell_plain_step spell_pair_step (Plain-F.Str s)
spell_at (Plain-F.List ps) = fold-roll-Plain Data Member spell_plain_step spell_pair_step (Plain-F.List ps)
spell_at (Plain-F.Map ms) = fold-roll-Plain Data Member spell_plain_step spell_pair_step (Plain-F.Map ms) ∙ ap object (members_at ms)

abbrev pub depth_of : Level → ℕ
depth_of (Plain-F.List ps) = suc (most (map plain_depth ps))
depth_of (Plain-F.Map ms) = suc (most (map (λ m. plain_depth m.value) ms))
depth_of x = 1

depths_at : (ms : List PlainPair) → map (fold-PlainPair ℕ ℕ plain_depth_step (λ p. p.value)) ms ≡ map (λ m. plain_depth m.value) ms
depths_at [] = refl
depths_at (m ∷ ms) = ap₂ (λ n ns. n ∷ ns) (fold-roll-PlainPair ℕ ℕ plain_depth_step (λ p. p.value) (record { name = m.name; value = m.value })) (depths_at ms)

pub depth_at : (x : Level) → plain_depth (roll-Plain x) ≡ depth_of x
depth_at Plain-F.Null = fold-roll-Plain ℕ ℕ plain_depth_step (λ p. p.value) Plain-F.Null
depth_at (Plain-F.Bool b) = fold-roll-Plain ℕ ℕ plain_depth_step (λ p. p.value) (Plain-F.Bool b)
depth_at (Plain-F.Str s) = fold-roll-Plain ℕ ℕ plain_depth_step (λ p. p.value) (Plain-F.Str s)
depth_at (Plain-F.List ps) = fold-roll-Plain ℕ ℕ plain_depth_step (λ p. p.value) (Plain-F.List ps)
depth_at (Plain-F.Map ms) = fold-roll-Plain ℕ ℕ plain_depth_step (λ p. p.value) (Plain-F.Map ms) ∙ ap (λ ns. suc (most ns)) (depths_at ms)

abbrev pub name_of : PlainPair → List ℕ
name_of m = encode_utf8_all m.name

abbrev pub ordered_of : Level → Bool
ordered_of (Plain-F.List ps) = each_true (map is_ordered ps)
ordered_of (Plain-F.Map ms) = are_rising (map name_of ms) && each_true (map (λ m. is_ordered m.value) ms)
ordered_of x = true

abbrev named : PlainPair-F Bool Named → Named
named p = (encode_utf8_all p.name, p.value)

names_at : (ms : List PlainPair) → map (λ n. n.0) (map (fold-PlainPair Bool Named is_ordered_step named) ms) ≡ map name_of ms
names_at [] = refl
names_at (m ∷ ms) = ap₂ (λ (n : Named) ns. n.0 ∷ ns) (fold-roll-PlainPair Bool Named is_ordered_step named (record { name = m.name; value = m.value })) (names_at ms)

orders_at : (ms : List PlainPair) → map (λ n. n.1) (map (fold-PlainPair Bool Named is_ordered_step named) ms) ≡ map (λ m. is_ordered m.value) ms
orders_at [] = refl
orders_at (m ∷ ms) = ap₂ (λ (n : Named) ns. n.1 ∷ ns) (fold-roll-PlainPair Bool Named is_ordered_step named (record { name = m.name; value = m.value })) (orders_at ms)

pub ordered_at : (x : Level) → is_ordered (roll-Plain x) ≡ ordered_of x
ordered_at Plain-F.Null = fold-roll-Plain Bool Named is_ordered_step named Plain-F.Null
ordered_at (Plain-F.Bool b) = fold-roll-Plain Bool Named is_ordered_step named (Plain-F.Bool b)
ordered_at (Plain-F.Str s) = fold-roll-Plain Bool Named is_ordered_step named (Plain-F.Str s)
ordered_at (Plain-F.List ps) = fold-roll-Plain Bool Named is_ordered_step named (Plain-F.List ps)
ordered_at (Plain-F.Map ms) = fold-roll-Plain Bool Named is_ordered_step named (Plain-F.Map ms) ∙ ap₂ (λ ns bs. are_rising ns && each_true bs) (names_at ms) (orders_at ms)

-- ---- what is whole spells what is good

level_left : (l : Levels) (n : ℕ) → suc n ≤ l.kept → (inner : Levels) × (enter_kept l ≡ Some inner) × (n ≤ inner.kept)
level_left l n h = by_number l.kept h
  where
    by_number : (k : ℕ) → suc n ≤ k → (inner : Levels) × (option_map (λ m. record l { kept = m }) (spend k) ≡ Some inner) × (n ≤ inner.kept)
    by_number zero h = absurd (omega (arith, h))
    by_number (suc k) h = (record l { kept = k }, refl, omega (arith, h))

abbrev IsGood : Plain → Type 0
IsGood p = (l : Levels) → is_ordered p ≡ true → plain_depth p ≤ l.kept → Good l plain (Some (spell_plain p))

leaf_low : (l : Levels) → 1 ≤ l.kept → within (enter_kept l) (λ _. None) ≡ None
leaf_low l h = let left = level_left l 0 h in ap (λ o. within o (λ _. None)) left.1

list_each : (l : Levels) (ps : List Plain) → Each IsGood ps → each_true (map is_ordered ps) ≡ true → most (map plain_depth ps) ≤ l.kept → EachGood l plain spell_plain ps
list_each l [] h o n = tt
list_each l (p ∷ ps) h o n = (h.0 l (and_left _ _ o) (omega (arith, n)), list_each l ps h.1 (and_right (is_ordered p) _ o) (omega (arith, n)))

names_above : (n : List ℕ) (ms : List PlainPair) → is_below n (map name_of ms) ≡ true → AreAbove n (spell_members ms)
names_above n [] e = tt
names_above n (m ∷ ms) e = (Less-from_is_lt (slice_cmp nat_cmp n (name_of m)) (and_left _ _ e), names_above n ms (and_right (is_lt (slice_cmp nat_cmp n (name_of m))) _ e))

map_each : (l : Levels) (ms : List PlainPair) → Each (λ m. IsGood m.value) ms → are_rising (map name_of ms) ≡ true → each_true (map (λ m. is_ordered m.value) ms) ≡ true
    → most (map (λ m. plain_depth m.value) ms) ≤ l.kept → GoodMembers l (spell_members ms)
map_each l [] h r o n = none_members l
map_each l (m ∷ ms) h r o n =
    one_member l (name_of m) (Some (spell_plain m.value)) (spell_members ms) (h.0 l (and_left _ _ o) (omega (arith, n))) (names_above (name_of m) ms (and_left _ _ r))
    (map_each l ms h.1 (and_right (is_below (name_of m) (map name_of ms)) _ r) (and_right (is_ordered m.value) _ o) (omega (arith, n)))

level_good : (x : Level) → Inside IsGood x → (l : Levels) → ordered_of x ≡ true → depth_of x ≤ l.kept → Good l plain (Some (spelled_at x))
level_good Plain-F.Null h l o n = record { again = refl; fits = refl; low = leaf_low l n; order = tt }
level_good (Plain-F.Bool b) h l o n = record { again = refl; fits = refl; low = leaf_low l n; order = tt }
level_good (Plain-F.Str s) h l o n = record { again = refl; fits = refl; low = leaf_low l n; order = tt }
level_good (Plain-F.List ps) h l o n =
    let left = level_left l (most (map plain_depth ps)) n in array_good l left.0 spell_plain ps left.1 (list_each left.0 ps h o left.2)
level_good (Plain-F.Map ms) h l o n =
    let left = level_left l (most (map (λ m. plain_depth m.value) ms)) n in
    map_good l left.0 (spell_members ms) left.1 (map_each left.0 ms h (and_left _ _ o) (and_right (are_rising (map name_of ms)) _ o) left.2)

pub canonical_good : (p : Plain) → IsGood p
canonical_good = by_levels IsGood (λ x h l o n. subst (λ d. Good l plain (Some d)) (sym (spell_at x)) (level_good x h l (sym (ordered_at x) ∙ o) (subst (λ k. k ≤ l.kept) (depth_at x) n)))

-- A whole list of kept data spells what is good.
pub whole_good : (ps : List Plain) (l : Levels) → IsWholeKept l ps → Good l kept (spell_kept ps)
whole_good [] l w = none_good l kept
whole_good (p ∷ ps) l w =
    let left = level_left l (most (map plain_depth (p ∷ ps))) w.low in
    kept_good l left.0 spell_plain (p ∷ ps) left.1 (list_each left.0 (p ∷ ps) (each_of IsGood canonical_good (p ∷ ps)) w.order left.2)

-- ---- and back

abbrev IsWholeFor : Levels → Plain → Type 0
IsWholeFor l p = (is_ordered p ≡ true) × (plain_depth p ≤ l.kept)

abbrev IsBack : Plain → Type 0
IsBack p = (l : Levels) → Good l plain (Some (spell_plain p)) → IsWholeFor l p

spent : (l inner : Levels) → enter_kept l ≡ Some inner → l.kept ≡ suc inner.kept
spent l inner e = by_number l.kept e
  where
    by_number : (k : ℕ) → option_map (λ m. record l { kept = m }) (spend k) ≡ Some inner → k ≡ suc inner.kept
    by_number zero e = cc
    by_number (suc k) e = let same : record l { kept = k } ≡ inner = cc in ap (λ i. suc i.kept) same

leaf_back : (l : Levels) → within (enter_kept l) (λ _. None) ≡ None → 1 ≤ l.kept
leaf_back l e = by_number l.kept e
  where
    by_number : (k : ℕ) → within (option_map (λ m. record l { kept = m }) (spend k)) (λ _. None) ≡ None → 1 ≤ k
    by_number zero e = cc
    by_number (suc k) e = omega arith

list_back : (l : Levels) (ps : List Plain) → Each IsBack ps → EachGood l plain spell_plain ps → (each_true (map is_ordered ps) ≡ true) × (most (map plain_depth ps) ≤ l.kept)
list_back l [] h g = (refl, omega arith)
list_back l (p ∷ ps) h g =
    let first = h.0 l g.0 in
    let rest = list_back l ps h.1 g.1 in
    (ap₂ (λ a b. a && b) first.0 rest.0, omega (arith, first.1, rest.1))

names_below : (n : List ℕ) (ms : List PlainPair) → AreAbove n (spell_members ms) → is_below n (map name_of ms) ≡ true
names_below n [] a = refl
names_below n (m ∷ ms) a = ap₂ (λ o b. is_lt o && b) a.0 (names_below n ms a.1)

record MapBack (l : Levels) (ms : List PlainPair) : Type 0 where
  rising : are_rising (map name_of ms) ≡ true
  ordered : each_true (map (λ m. is_ordered m.value) ms) ≡ true
  low : most (map (λ m. plain_depth m.value) ms) ≤ l.kept

members_back : (l : Levels) (ms : List PlainPair) → Each (λ m. IsBack m.value) ms → GoodMembers l (spell_members ms) → MapBack l ms
members_back l [] h g = record { rising = refl; ordered = refl; low = omega arith }
members_back l (m ∷ ms) h g =
    let back = member_back l (name_of m) (spell_plain m.value) (spell_members ms) g in
    let first = h.0 l back.0 in
    let rest = members_back l ms h.1 back.2 in
    record { rising = ap₂ (λ a b. a && b) (names_below (name_of m) ms back.1) rest.rising; ordered = ap₂ (λ a b. a && b) first.0 rest.ordered; low = omega (arith, first.1, rest.low) }

level_back : (x : Level) → Inside IsBack x → (l : Levels) → Good l plain (Some (spelled_at x)) → (ordered_of x ≡ true) × (depth_of x ≤ l.kept)
level_back Plain-F.Null h l g = (refl, leaf_back l g.low)
level_back (Plain-F.Bool b) h l g = (refl, leaf_back l g.low)
level_back (Plain-F.Str s) h l g = (refl, leaf_back l g.low)
level_back (Plain-F.List ps) h l g =
    let inside = array_back l spell_plain ps g in
    let back = list_back inside.0 ps h inside.2 in
    (back.0, omega (arith, back.1, spent l inside.0 inside.1))
level_back (Plain-F.Map ms) h l g =
    let inside = map_back l (spell_members ms) g in
    let back = members_back inside.0 ms h inside.2 in
    (ap₂ (λ a b. a && b) back.rising back.ordered, omega (arith, back.low, spent l inside.0 inside.1))

pub plain_back : (p : Plain) → IsBack p
plain_back = by_levels IsBack (λ x h l g.
    let back = level_back x h l (subst (λ d. Good l plain (Some d)) (spell_at x) g) in
    (ordered_at x ∙ back.0, subst (λ k. k ≤ l.kept) (sym (depth_at x)) back.1))

-- A list of kept data that spells what is good is whole.
pub whole_back : (ps : List Plain) (l : Levels) → Good l kept (spell_kept ps) → IsWholeKept l ps
whole_back [] l g = record { order = refl; low = omega arith }
whole_back (p ∷ ps) l g =
    let inside = kept_back l spell_plain p ps g in
    let back = list_back inside.0 (p ∷ ps) (each_of IsBack plain_back (p ∷ ps)) inside.2 in
    record { order = back.0; low = omega (arith, back.1, spent l inside.0 inside.1) }

-- ---- the same spelling

abbrev IsOne : Plain → Type 0
IsOne p = (q : Plain) → spell_plain p ≡ spell_plain q → p ≡ q

same_inside : (ps qs : List Plain) → Each IsOne ps → onto (map spell_plain ps) no_items ≡ onto (map spell_plain qs) no_items → ps ≡ qs
same_inside [] [] h e = refl
same_inside [] (q ∷ qs) h e = cc
same_inside (p ∷ ps) [] h e = cc
same_inside (p ∷ ps) (q ∷ qs) h e =
    let first : spell_plain p ≡ spell_plain q = cc in
    let rest : onto (map spell_plain ps) no_items ≡ onto (map spell_plain qs) no_items = cc in
    ap₂ (λ a b. a ∷ b) (h.0 q first) (same_inside ps qs h.1 rest)

same_members : (ms ns : List PlainPair) → Each (λ m. IsOne m.value) ms → spell_members ms ≡ spell_members ns → ms ≡ ns
same_members [] [] h e = refl
same_members [] (n ∷ ns) h e = cc
same_members (m ∷ ms) [] h e = cc
same_members (m ∷ ms) (n ∷ ns) h e =
    let name : name_of m ≡ name_of n = cc in
    let value : spell_plain m.value ≡ spell_plain n.value = cc in
    let rest : spell_members ms ≡ spell_members ns = cc in
    let a = encodes_same m.name n.name name in
    let b = h.0 n.value value in
    ap₂ (λ x xs. x ∷ xs) (λ i. record { name = a i; value = b i }) (same_members ms ns h.1 rest)

same_level : (x y : Level) → Inside IsOne x → spelled_at x ≡ spelled_at y → x ≡ y
same_level Plain-F.Null Plain-F.Null h e = refl
same_level (Plain-F.Bool a) (Plain-F.Bool b) h e = let same : a ≡ b = cc in ap Plain-F.Bool same
same_level (Plain-F.Str s) (Plain-F.Str t) h e = let same : encode_utf8_all s ≡ encode_utf8_all t = cc in ap Plain-F.Str (encodes_same s t same)
same_level (Plain-F.List ps) (Plain-F.List qs) h e =
    let same : onto (map spell_plain ps) no_items ≡ onto (map spell_plain qs) no_items = cc in ap Plain-F.List (same_inside ps qs h same)
same_level (Plain-F.Map ms) (Plain-F.Map ns) h e = let same : spell_members ms ≡ spell_members ns = cc in ap Plain-F.Map (same_members ms ns h same)
same_level x y h e = cc

-- Kept data that spells the same is the same.
pub same_plain : (p q : Plain) → spell_plain p ≡ spell_plain q → p ≡ q
same_plain = by_levels IsOne (λ x h q e.
    let y = out-Plain q in
    let is = roll-out-Plain q in
    ap roll-Plain (same_level x y h (sym (spell_at x) ∙ e ∙ ap spell_plain (sym is) ∙ spell_at y)) ∙ is)

pub same_kept : (ps qs : List Plain) → spell_kept ps ≡ spell_kept qs → ps ≡ qs
same_kept ps qs e = same_lists spell_plain ps qs same_plain e
