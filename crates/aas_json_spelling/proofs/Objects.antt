-- An object that is spelled by rows: what it has under each name, its canonical form, and that it is good exactly where its attributes are.
use Rattle.std.proofs.Common.{◌≡◌, ℕ, List, [], ◌∷◌, ◌&&◌, Bool, true, false, IfSome, Option, Some, None, option_map, option_and_then, is_some, if◌then◌else◌, Ordering, Less, Equal, Greater, nat_cmp, is_eq, is_lt, not, refl, sym, ap, ap₂, ◌∙◌, true≢false}
use Rattle.std.specs.Cmp.Lexicographic.{slice_cmp}
use Rattle.std.specs.Ordering.{match_ordering}
use Rattle.std.proofs.lemmas.Option.{cond_some}
use Rattle.aas_lemmas.proofs.Truth.{and_left, and_right, Less-from_is_lt}
use Rattle.serde_json.specs.Data.{Data, object, Members, no_members, member}
use Rattle.serde_json.specs.Find.{get_member}
use Rattle.aas_json_table.specs.Table.{Sort, MemberType, one, Row}
use Rattle.aas_json_table.specs.Rows.{Pointer, in_member, first_of, row_named, rows_of, is_there, sorted}
use Rattle.aas_json_table.specs.Misfit.{misfit, misfit_member, misfit_members, misfit_object, missing}
use Rattle.aas_json_table.specs.TooDeep.{Levels, too_deep, too_deep_members, too_deep_member, too_deep_object, within, enter}
use Rattle.aas_json_table.specs.Canonical.{canonical, canonical_member, canonical_object, are_there, members_by, add}
use Rattle.aas_json_table.specs.Spelled.{Attributes, attribute, spelled}
use Rattle.aas_json_spelling.specs.Values.{IsOrdered, AreAbove, HasOrder}
use Rattle.aas_json_spelling.specs.Good.{Good}
use Rattle.aas_json_spelling.proofs.Rows.{is_below, rising, itself, other, other_back, AllNamed, named}
use Rattle.aas_json_spelling.proofs.Fits.{first_none, map_none}

-- ---- what stands under a name

past_other : (o : Ordering) (a b : Option Data) → not (is_eq o) ≡ true → match_ordering o a b a ≡ a
past_other Less a b e = refl
past_other Equal a b e = absurd (true≢false (sym e))
past_other Greater a b e = refl

past_add : (n l : List ℕ) (o : Option Data) (ms : Members) → not (is_eq (slice_cmp nat_cmp n l)) ≡ true → get_member n (add l o ms) ≡ get_member n ms
past_add n l None ms e = refl
past_add n l (Some d) ms e = past_other (slice_cmp nat_cmp n l) (get_member n ms) (Some d) e

none_left : (n : List ℕ) (rows : List Row) (g : List ℕ → MemberType → Option Data) → is_below n rows ≡ true → get_member n (members_by rows g) ≡ None
none_left n [] g e = refl
none_left n (r ∷ rs) g e = past_add n r.name (g r.name r.member_type) (members_by rs g) (other n r.name (and_left _ _ e)) ∙ none_left n rs g (and_right _ _ e)

pub at_itself : (o : Ordering) (a b : Option Data) → is_eq o ≡ true → match_ordering o a b a ≡ b
at_itself Less a b e = absurd (true≢false (sym e))
at_itself Equal a b e = refl
at_itself Greater a b e = absurd (true≢false (sym e))

found_first : (n : List ℕ) (o : Option Data) (ms : Members) → get_member n ms ≡ None → get_member n (add n o ms) ≡ o
found_first n None ms e = e
found_first n (Some d) ms e = at_itself (slice_cmp nat_cmp n n) (get_member n ms) (Some d) (itself n)

-- g and h find the same under each row
abbrev pub Agree : List Row → (List ℕ → MemberType → Option Data) → (List ℕ → MemberType → Option Data) → Type 0
Agree [] g h = Unit {0}
Agree (r ∷ rs) g h = (g r.name r.member_type ≡ h r.name r.member_type) × Agree rs g h

agree_past : (l : List ℕ) (o : Option Data) (ms : Members) (rows : List Row) (h : List ℕ → MemberType → Option Data) → is_below l rows ≡ true → Agree rows (λ n f. get_member n ms) h
    → Agree rows (λ n f. get_member n (add l o ms)) h
agree_past l o ms [] h e a = tt
agree_past l o ms (r ∷ rs) h e a = (past_add r.name l o ms (other_back l r.name (and_left _ _ e)) ∙ a.0, agree_past l o ms rs h (and_right _ _ e) a.1)

-- What is spelled is found again under each row.
pub finds : (rows : List Row) (g : List ℕ → MemberType → Option Data) → rising rows ≡ true → Agree rows (λ n f. get_member n (members_by rows g)) g
finds [] g e = tt
finds (r ∷ rs) g e = (
  found_first r.name (g r.name r.member_type) (members_by rs g) (none_left r.name rs g (and_left _ _ e)),
  agree_past r.name (g r.name r.member_type) (members_by rs g) rs g (and_left _ _ e) (finds rs g (and_right _ _ e)),
)

pub agree_both : (rows : List Row) (g h k : List ℕ → MemberType → Option Data) → Agree rows k g → Agree rows k h → Agree rows g h
agree_both [] g h k a b = tt
agree_both (r ∷ rs) g h k a b = (sym a.0 ∙ b.0, agree_both rs g h k a.1 b.1)

agree_with : (rows : List Row) (ms ns : Members) (h : List ℕ → MemberType → Option Data) → ms ≡ ns → Agree rows (λ n f. get_member n ms) h → Agree rows (λ n f. get_member n ns) h
agree_with [] ms ns h e a = tt
agree_with (r ∷ rs) ms ns h e a = (ap (get_member r.name) (sym e) ∙ a.0, agree_with rs ms ns h e a.1)

-- members that are the same were spelled from the same
pub same_under : (rows : List Row) (g h : List ℕ → MemberType → Option Data) → rising rows ≡ true → members_by rows g ≡ members_by rows h → Agree rows g h
same_under rows g h d e = agree_both rows g h (λ n f. get_member n (members_by rows h)) (agree_with rows (members_by rows g) (members_by rows h) g e (finds rows g d)) (finds rows h d)

pub same_object : (ms ns : Members) → object ms ≡ object ns → ms ≡ ns
same_object ms ns e = cc

-- Spellings that are the same have the same attribute under each row.
pub same_attributes : (rows : List Row) (as_ bs : Attributes) → rising (sorted rows) ≡ true → spelled rows as_ ≡ spelled rows bs → Agree (sorted rows) (attribute as_) (attribute bs)
same_attributes rows as_ bs d e = same_under (sorted rows) (attribute as_) (attribute bs) d (same_object _ _ e)

pub same_members : (rows : List Row) (g h : List ℕ → MemberType → Option Data) → Agree rows g h → members_by rows g ≡ members_by rows h
same_members [] g h e = refl
same_members (r ∷ rs) g h e = ap₂ (add r.name) e.0 (same_members rs g h e.1)

pub same_there : (rows : List Row) (g h : List ℕ → MemberType → Option Data) → Agree rows g h → are_there rows g ≡ are_there rows h
same_there [] g h e = refl
same_there (r ∷ rs) g h e = ap₂ (λ o b. if r.required then is_some o && b else b) e.0 (same_there rs g h e.1)

-- ---- an object of good attributes

abbrev pub AreGood : Levels → List Row → (List ℕ → MemberType → Option Data) → Type 0
AreGood l [] g = Unit {0}
AreGood l (r ∷ rs) g = Good l r.member_type (g r.name r.member_type) × AreGood l rs g

-- each required attribute is there, and no empty list
abbrev pub are_full : List Row → (List ℕ → MemberType → Option Data) → Bool
are_full [] g = true
are_full (r ∷ rs) g = if r.required then is_there (g r.name r.member_type) && are_full rs g else are_full rs g

-- members that fit and are not too deep
abbrev Clear : Members → List Row → Levels → Type 0
Clear ms rows l = (misfit_members ms rows ≡ None) × (too_deep_members ms rows l ≡ None)

add_clear : (all : List Row) (l : Levels) (r : Row) (o : Option Data) (ms : Members) → row_named r.name all ≡ Some r → Good l r.member_type o → Clear ms all l → Clear (add r.name o ms) all l
add_clear all l r None ms n a rest = rest
add_clear all l r (Some d) ms n a rest = (
  ap₂ first_of (ap (λ x. misfit_member r.name x (λ f. misfit f d)) n ∙ ap (option_map (λ p. in_member r.name ∷ p)) a.fits) rest.0,
  ap₂ first_of (ap (λ x. too_deep_member r.name x (λ f. too_deep f d l)) n ∙ ap (option_map (λ p. in_member r.name ∷ p)) a.low) rest.1,
)

members_clear : (all : List Row) (l : Levels) (rows : List Row) (g : List ℕ → MemberType → Option Data) → AllNamed all rows → AreGood l rows g → Clear (members_by rows g) all l
members_clear all l [] g n a = (refl, refl)
members_clear all l (r ∷ rs) g n a = add_clear all l r (g r.name r.member_type) (members_by rs g) n.0 a.0 (members_clear all l rs g n.1 a.1)

pub add_above : (n l : List ℕ) (o : Option Data) (ms : Members) → is_lt (slice_cmp nat_cmp n l) ≡ true → AreAbove n ms → AreAbove n (add l o ms)
add_above n l None ms e a = a
add_above n l (Some d) ms e a = (Less-from_is_lt (slice_cmp nat_cmp n l) e, a)

pub members_above : (n : List ℕ) (rows : List Row) (g : List ℕ → MemberType → Option Data) → is_below n rows ≡ true → AreAbove n (members_by rows g)
members_above n [] g e = tt
members_above n (r ∷ rs) g e = add_above n r.name (g r.name r.member_type) (members_by rs g) (and_left _ _ e) (members_above n rs g (and_right _ _ e))

add_ordered : (l : Levels) (n : List ℕ) (f : MemberType) (o : Option Data) (ms : Members) → Good l f o → AreAbove n ms → HasOrder ms → HasOrder (add n o ms)
add_ordered l n f None ms good a h = h
add_ordered l n f (Some d) ms good a h = (a, good.order, h)

members_ordered : (l : Levels) (rows : List Row) (g : List ℕ → MemberType → Option Data) → rising rows ≡ true → AreGood l rows g → HasOrder (members_by rows g)
members_ordered l [] g e a = tt
members_ordered l (r ∷ rs) g e a =
    add_ordered l r.name r.member_type (g r.name r.member_type) (members_by rs g) a.0 (members_above r.name rs g (and_left _ _ e)) (members_ordered l rs g (and_right _ _ e) a.1)

abbrev no_pointer : Option Pointer
no_pointer = None

row_full : (b t : Bool) (rest : Option Pointer) (more : Bool) (p : Pointer) → (if b then t && more else more) ≡ true → (more ≡ true → rest ≡ no_pointer)
    → (if b then (if t then rest else Some p) else rest) ≡ no_pointer
row_full true true rest more p e h = h e
row_full true false rest more p e h = absurd (true≢false (sym e))
row_full false t rest more p e h = h e

none_missing : (rows : List Row) (g : List ℕ → MemberType → Option Data) (ms : Members) → Agree rows (λ n f. get_member n ms) g → are_full rows g ≡ true → missing rows ms ≡ None
none_missing [] g ms a e = refl
none_missing (r ∷ rs) g ms a e =
    row_full r.required (is_there (get_member r.name ms)) (missing rs ms) (are_full rs g) (in_member r.name ∷ [])
    (ap (λ o. if r.required then is_there o && are_full rs g else are_full rs g) a.0 ∙ e) (none_missing rs g ms a.1)

by_order : (o : Ordering) (f : MemberType) (d : Data) (a : Option Data) (b : Option Data) → a ≡ option_and_then (canonical f) b
    → match_ordering o a (canonical f d) a ≡ option_and_then (canonical f) (match_ordering o b (Some d) b)
by_order Less f d a b e = e
by_order Equal f d a b e = refl
by_order Greater f d a b e = e

-- What is said under a name is the canonical form of the member of that name.
pub canonical_member_is : (n : List ℕ) (f : MemberType) (ms : Members) → canonical_member ms n f ≡ option_and_then (canonical f) (get_member n ms)
canonical_member_is n f no_members = refl
canonical_member_is n f (member k d ms) = by_order (slice_cmp nat_cmp n k) f d _ _ (canonical_member_is n f ms)

agree_again : (l : Levels) (rows : List Row) (g : List ℕ → MemberType → Option Data) (ms : Members) → Agree rows (λ n f. get_member n ms) g → AreGood l rows g → Agree rows (canonical_member ms) g
agree_again l [] g ms a p = tt
agree_again l (r ∷ rs) g ms a p = (canonical_member_is r.name r.member_type ms ∙ ap (option_and_then (canonical r.member_type)) a.0 ∙ p.0.again, agree_again l rs g ms a.1 p.1)

-- An object of good attributes, with all that is required, is good.
pub object_good : (s : Sort) (l inner : Levels) (rows : List Row) (g : List ℕ → MemberType → Option Data) → enter s l ≡ Some inner → rows_of s (members_by rows g) ≡ Some rows → rising rows ≡ true
    → are_there rows g ≡ true → are_full rows g ≡ true → AreGood inner rows g → Good l (one s) (Some (object (members_by rows g)))
object_good s l inner rows g n r d there full a =
    let ms = members_by rows g in
    let found = finds rows g d in
    let same = agree_again inner rows g ms found a in
    let clear = members_clear rows inner rows g (named rows d) a in record {
      again =
          ap (λ x. canonical_object x (canonical_member ms)) r
          ∙ ap₂ (λ b xs. if b then Some (object xs) else None) (same_there rows (canonical_member ms) g same ∙ there) (same_members rows (canonical_member ms) g same);
      fits = ap (λ x. misfit_object x (misfit_members ms) ms) r ∙ ap₂ first_of clear.0 (none_missing rows g ms found full);
      low = ap₂ (λ x y. within x (too_deep_object y (too_deep_members ms))) n r ∙ clear.1;
      order = members_ordered inner rows g d a;
    }

-- ---- and back

abbrev Back : Levels → MemberType → Option Data → Type 0
Back l f o = (option_and_then (misfit f) o ≡ None) × (option_and_then (λ d. too_deep f d l) o ≡ None)

clear_back : (all : List Row) (l : Levels) (r : Row) (o : Option Data) (ms : Members) → row_named r.name all ≡ Some r → Clear (add r.name o ms) all l → Back l r.member_type o × Clear ms all l
clear_back all l r None ms n c = ((refl, refl), c)
clear_back all l r (Some d) ms n c =
    let fit = first_none (misfit_member r.name (row_named r.name all) (λ f. misfit f d)) (misfit_members ms all) c.0 in
    let low = first_none (too_deep_member r.name (row_named r.name all) (λ f. too_deep f d l)) (too_deep_members ms all l) c.1 in (
      (
        map_none (λ p. in_member r.name ∷ p) (misfit r.member_type d) (sym (ap (λ x. misfit_member r.name x (λ f. misfit f d)) n) ∙ fit.0),
        map_none (λ p. in_member r.name ∷ p) (too_deep r.member_type d l) (sym (ap (λ x. too_deep_member r.name x (λ f. too_deep f d l)) n) ∙ low.0),
      ),
      (fit.1, low.1),
    )

order_back : (n : List ℕ) (o : Option Data) (ms : Members) → HasOrder (add n o ms) → IfSome o IsOrdered × HasOrder ms
order_back n None ms h = (tt, h)
order_back n (Some d) ms h = (h.1, h.2)

good_back : (all : List Row) (l : Levels) (rows : List Row) (g : List ℕ → MemberType → Option Data) → AllNamed all rows → Clear (members_by rows g) all l → HasOrder (members_by rows g)
    → Agree rows (λ n f. option_and_then (canonical f) (g n f)) g → AreGood l rows g
good_back all l [] g n c h a = tt
good_back all l (r ∷ rs) g n c h a =
    let back = clear_back all l r (g r.name r.member_type) (members_by rs g) n.0 c in
    let order = order_back r.name (g r.name r.member_type) (members_by rs g) h in
    (record { again = a.0; fits = back.0.0; low = back.0.1; order = order.0 }, good_back all l rs g n.1 back.1 order.1 a.1)

agree_canonical : (rows : List Row) (g : List ℕ → MemberType → Option Data) (ms : Members) → Agree rows (λ n f. get_member n ms) g → Agree rows (canonical_member ms) (λ n f. option_and_then (canonical f) (g n f))
agree_canonical [] g ms a = tt
agree_canonical (r ∷ rs) g ms a = (canonical_member_is r.name r.member_type ms ∙ ap (option_and_then (canonical r.member_type)) a.0, agree_canonical rs g ms a.1)

-- what is required is there, and the members are those that are said
pub there_and_same : (b : Bool) (ms ns : Members) → (if b then Some (object ms) else None) ≡ Some (object ns) → (b ≡ true) × (ms ≡ ns)
there_and_same b ms ns e = let both = cond_some b (object ms) (object ns) e in (both.0, same_inside both.1)
  where
    same_inside : object ms ≡ object ns → ms ≡ ns
    same_inside is = cc

-- what is known of a good object
pub record Inside (s : Sort) (l : Levels) (rows : List Row) (g : List ℕ → MemberType → Option Data) : Type 0 where
  pub inner : Levels
  pub entered : enter s l ≡ Some inner
  pub there : are_there rows g ≡ true
  pub good : AreGood inner rows g

entered_by : (o : Option Levels) (s : Sort) (l : Levels) (rows : List Row) (g : List ℕ → MemberType → Option Data) → enter s l ≡ o → within o (too_deep_object (Some rows) (too_deep_members (members_by rows g))) ≡ None
    → misfit_members (members_by rows g) rows ≡ None → HasOrder (members_by rows g) → rising rows ≡ true → are_there rows g ≡ true → Agree rows (λ n f. option_and_then (canonical f) (g n f)) g → Inside s l rows g
entered_by None s l rows g e low fit order d there a = cc
entered_by (Some inner) s l rows g e low fit order d there a =
    record { inner = inner; entered = e; there = there; good = good_back rows inner rows g (named rows d) (fit, low) order a }

-- In a good object each attribute is good, and what is required is there.
pub object_back : (s : Sort) (l : Levels) (rows : List Row) (g : List ℕ → MemberType → Option Data) → rows_of s (members_by rows g) ≡ Some rows → rising rows ≡ true
    → Good l (one s) (Some (object (members_by rows g))) → Inside s l rows g
object_back s l rows g r d good =
    let ms = members_by rows g in
    let found = agree_canonical rows g ms (finds rows g d) in
    let said = there_and_same (are_there rows (canonical_member ms)) (members_by rows (canonical_member ms)) ms (sym (ap (λ x. canonical_object x (canonical_member ms)) r) ∙ good.again) in
    let same = same_under rows (canonical_member ms) g d said.1 in
    let fit = first_none (misfit_members ms rows) (missing rows ms) (sym (ap (λ x. misfit_object x (misfit_members ms) ms) r) ∙ good.fits) in
    let low : within (enter s l) (too_deep_object (Some rows) (too_deep_members ms)) ≡ None = sym (ap (λ x. within (enter s l) (too_deep_object x (too_deep_members ms))) r) ∙ good.low in
    entered_by (enter s l) s l rows g refl low fit.0 good.order d (sym (same_there rows (canonical_member ms) g same) ∙ said.0)
    (agree_both rows (λ n f. option_and_then (canonical f) (g n f)) g (canonical_member ms) found same)
