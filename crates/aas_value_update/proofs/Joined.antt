-- Values laid over values: what fits stays fitting, and one laid after the other is both laid together.
use Rattle.std.proofs.Common.{◌≡◌, ℕ, Bool, true, false, ◌&&◌, List, [], ◌∷◌, Option, Some, None, is_some, Ordering}
use Rattle.std.proofs.Common.{Less, Equal, Greater, nat_cmp, refl, sym, ap, ap₂, ◌∙◌, true≢false}
use Rattle.std.specs.Prelude.{if◌then◌else◌}
use Rattle.std.specs.Cmp.Lexicographic.{slice_cmp}
use Rattle.std.specs.Ordering.{match_ordering}
use Rattle.std.specs.Str.{encode_utf8_all}
use Rattle.std.proofs.lemmas.Bool.{and_from}
use Rattle.serde_json.specs.Data.{Data, array, object, put, Items, no_items, item, Members, no_members, member}
use Rattle.serde_json.specs.Find.{get_member}
use Rattle.aas_lemmas.proofs.Truth.{and_left, and_right}
use Rattle.aas_json_spelling.proofs.Rows.{same_text}
use Rattle.aas_json_spelling.specs.Lists.{Each}
use Rattle.aas_value.specs.Children.{Child, named}
use Rattle.aas_value.specs.Parts.{Part, Form, nothing, whole, object_of, list_of, entries_of, is_called, by_name}
use Rattle.aas_value.specs.Parts.{children, value, later, over, over_one, laid, laid_items, entry, put_entry}
use Rattle.aas_value.specs.Parts.{laid_entries, lay_form, members_fit, items_fit, fits_if, entries_fit, fits_form}
use Rattle.aas_value_update.proofs.Laid.{form, get_children, get_laid, sent_fits, children_rise, laid_rises}
use Rattle.aas_value_update.proofs.Laid.{over_none, form_entries}
use Rattle.aas_value_update.proofs.Laid.{own_entry, form_members, form_items, items_with, laid_first, fits_first}
use Rattle.aas_value_update.proofs.Laid.{fits_named, lay_named}
use Rattle.aas_value_update.proofs.Members.{name_itself, known}
use Rattle.aas_value_update.proofs.Named.{IsNew, Apart, not_called}
use Rattle.aas_value_update.proofs.Pairs.{Forms, first_each, IsOfParts}
use Rattle.aas_value_update.proofs.TakenKids.{entry_formless}

-- of what passes a test: laid over one another it passes,
-- and one laid over the form after the other is both laid together
pub record Joins (test : Data → Bool) (lay : Data → Data → Data) (o : Option Data) : Type 0 where
  pub fits : (v w : Data) → test v ≡ true → test w ≡ true → test (lay v w) ≡ true
  pub twice : (v w : Data)
      → test v ≡ true → test w ≡ true → over lay (over lay o (Some v)) (Some w) ≡ over lay o (Some (lay v w))

-- the same of what may be left out
module _ (test : Data → Bool) (lay : Data → Data → Data) (o : Option Data) (joins : Joins test lay o) where
  fits_over : (v w : Option Data) → fits_if test v ≡ true → fits_if test w ≡ true → fits_if test (over lay v w) ≡ true
  fits_over None None a b = refl
  fits_over None (Some w) a b = b
  fits_over (Some v) None a b = a
  fits_over (Some v) (Some w) a b = joins.fits v w a b

  twice_over : (v w : Option Data)
      → fits_if test v ≡ true → fits_if test w ≡ true → over lay (over lay o v) w ≡ over lay o (over lay v w)
  twice_over None None a b = sym (over_none lay (over lay o None))
  twice_over None (Some w) a b = ap (λ z. over lay z (Some w)) (sym (over_none lay o))
  twice_over (Some v) None a b = sym (over_none lay (over lay o (Some v)))
  twice_over (Some v) (Some w) a b = joins.twice v w a b

abbrev pub PartJoins : Part → Type 0
PartJoins x = Joins x.fits x.lay x.child.form

-- ---- objects

refused : Joins (λ d. false) later None
refused = record { fits = λ v w a b. absurd (true≢false (sym a)); twice = λ v w a b. refl }

by_name_joins : (n : List ℕ) (xs : List Part)
    → Each PartJoins xs → (test : Data → Bool) (lay : Data → Data → Data) (o : Option Data)
    → Joins test lay o
    → Joins (by_name n (λ x. x.fits) xs test) (by_name n (λ x. x.lay) xs lay) (by_name n form xs o)
by_name_joins n [] each test lay o joins = joins
by_name_joins n (x ∷ xs) each test lay o joins =
    by_name_joins n xs each.1 (if is_called n x.child then x.fits else test)
    (if is_called n x.child then x.lay else lay)
    (if is_called n x.child then form x else o) (by_test (is_called n x.child))
  where
    by_test : (b : Bool) → Joins (if b then x.fits else test) (if b then x.lay else lay) (if b then form x else o)
    by_test true = each.0
    by_test false = joins

named_joins : (n : List ℕ) (xs : List Part)
    → Each PartJoins xs → Joins (fits_named n xs) (lay_named n xs) (by_name n form xs None)
named_joins n xs each = by_name_joins n xs each (λ d. false) later None refused

found_fits : (n : List ℕ) (xs : List Part) (ms : Members)
    → members_fit xs ms ≡ true → fits_if (fits_named n xs) (get_member n ms) ≡ true
found_fits n xs ms fits = by_found (get_member n ms) refl
  where
    by_found : (s : Option Data) → get_member n ms ≡ s → fits_if (fits_named n xs) s ≡ true
    by_found None e = refl
    by_found (Some d) e = sent_fits n xs ms d fits e

put_fits : (xs : List Part) (n : List ℕ) (d : Data) (ms : Members) → fits_named n xs d ≡ true → members_fit xs ms ≡ true
    → members_fit xs (put n d ms) ≡ true
put_fits xs n d no_members one all = and_from _ _ one refl
put_fits xs n d (member m e ms) one all =
    by_order (slice_cmp nat_cmp n m) refl (put_fits xs n d ms one (and_right _ _ all))
  where
    by_order : (o : Ordering) → slice_cmp nat_cmp n m ≡ o → members_fit xs (put n d ms) ≡ true
        → members_fit xs (match_ordering o (member n d (member m e ms)) (member m d ms) (member m e (put n d ms)))
        ≡ true
    by_order Less is more = and_from _ _ one all
    by_order Equal is more =
        and_from _ _ (ap (λ k. fits_named k xs d) (sym (same_text n m is)) ∙ one) (and_right _ _ all)
    by_order Greater is more = and_from _ _ (and_left _ _ all) more

members_fit_laid : (xs : List Part) → Each PartJoins xs → (vs ws : Members)
    → members_fit xs vs ≡ true → members_fit xs ws ≡ true
    → members_fit xs (laid xs vs ws) ≡ true
members_fit_laid xs each vs no_members a b = a
members_fit_laid xs each vs (member n w ws) a b =
    put_fits xs n (over_one (lay_named n xs) (get_member n vs) w)
    (laid xs vs ws) (by_found (get_member n vs) (found_fits n xs vs a))
    (members_fit_laid xs each vs ws a (and_right _ _ b))
  where
    by_found : (s : Option Data) → fits_if (fits_named n xs) s ≡ true
        → fits_named n xs (over_one (lay_named n xs) s w) ≡ true
    by_found None fits = and_left _ _ b
    by_found (Some v) fits = (named_joins n xs each).fits v w fits (and_left _ _ b)

members_twice : (xs : List Part) → Each PartJoins xs → (vs ws : Members)
    → members_fit xs vs ≡ true → members_fit xs ws ≡ true
    → laid xs (laid xs (form_members xs) vs) ws ≡ laid xs (form_members xs) (laid xs vs ws)
members_twice xs each vs ws a b =
    let old = form_members xs in
    let rises = children_rise xs no_members tt in
    known (laid xs (laid xs old vs) ws) (laid xs old (laid xs vs ws))
    (laid_rises xs (laid xs old vs) ws (laid_rises xs old vs rises)) (laid_rises xs old (laid xs vs ws) rises)
    (λ n. at n (form_members xs) (get_children n xs no_members))
  where
    at : (n : List ℕ) (old : Members) → get_member n old ≡ by_name n form xs None
        → get_member n (laid xs (laid xs old vs) ws) ≡ get_member n (laid xs old (laid xs vs ws))
    at n old is =
        let lay = lay_named n xs in
        let o = by_name n form xs None in
        get_laid n xs (laid xs old vs) ws
        ∙ ap (λ z. over lay z (get_member n ws)) (get_laid n xs old vs ∙ ap (λ z. over lay z (get_member n vs)) is)
        ∙ twice_over (fits_named n xs) lay o (named_joins n xs each) (get_member n vs) (get_member n ws)
        (found_fits n xs vs a) (found_fits n xs ws b)
        ∙ sym (get_laid n xs old (laid xs vs ws) ∙ ap₂ (over lay) is (get_laid n xs vs ws))

-- ---- arrays

items_fit_laid : (xs : List Part) → Each PartJoins xs → (vs ws : Items)
    → items_fit xs vs ≡ true → items_fit xs ws ≡ true
    → items_fit xs (laid_items xs vs ws) ≡ true
items_fit_laid [] each vs ws a b = b
items_fit_laid (x ∷ xs) each vs ws a b = by_test (is_some (form x)) vs ws a b (λ ds es. items_fit_laid xs each.1 ds es)
  where
    by_test : (t : Bool) (vs ws : Items)
        → fits_first t x.fits (items_fit xs) vs ≡ true → fits_first t x.fits (items_fit xs) ws ≡ true
        → ((ds es : Items)
        → items_fit xs ds ≡ true → items_fit xs es ≡ true → items_fit xs (laid_items xs ds es) ≡ true)
        → fits_first t x.fits (items_fit xs) (laid_first t x.lay (laid_items xs) vs ws) ≡ true
    by_test false vs ws a b more = more vs ws a b
    by_test true (item v vs) (item w ws) a b more =
        and_from _ _ (each.0.fits v w (and_left _ _ a) (and_left _ _ b))
        (more vs ws (and_right _ _ a) (and_right _ _ b))
    by_test true (item v vs) no_items a b more = absurd (true≢false (sym b))
    by_test true no_items ws a b more = absurd (true≢false (sym a))

items_twice : (xs : List Part) → Each PartJoins xs → (vs ws : Items) → items_fit xs vs ≡ true → items_fit xs ws ≡ true
    → laid_items xs (laid_items xs (form_items xs) vs) ws ≡ laid_items xs (form_items xs) (laid_items xs vs ws)
items_twice [] each vs ws a b = refl
items_twice (x ∷ xs) each vs ws a b = by_form (form x) each.0.twice vs ws a b (λ ds es. items_twice xs each.1 ds es)
  where
    by_form : (o : Option Data)
        → ((v w : Data) → x.fits v ≡ true → x.fits w ≡ true
        → over x.lay (over x.lay o (Some v)) (Some w) ≡ over x.lay o (Some (x.lay v w)))
        → (vs ws : Items) → fits_first (is_some o) x.fits (items_fit xs) vs ≡ true
        → fits_first (is_some o) x.fits (items_fit xs) ws ≡ true
        → ((ds es : Items) → items_fit xs ds ≡ true → items_fit xs es ≡ true
        → laid_items xs (laid_items xs (form_items xs) ds) es ≡ laid_items xs (form_items xs) (laid_items xs ds es))
        → let lay = laid_first (is_some o) x.lay (laid_items xs) in
        lay (lay (items_with o xs) vs) ws ≡ lay (items_with o xs) (lay vs ws)
    by_form None twice vs ws a b more = more vs ws a b
    by_form (Some d) twice (item v vs) (item w ws) a b more =
        let same : Some (x.lay (x.lay d v) w) ≡ Some (x.lay d (x.lay v w)) =
        twice v w (and_left _ _ a) (and_left _ _ b) in
        let values : x.lay (x.lay d v) w ≡ x.lay d (x.lay v w) = cc in
        ap₂ item values (more vs ws (and_right _ _ a) (and_right _ _ b))
    by_form (Some d) twice (item v vs) no_items a b more = absurd (true≢false (sym b))
    by_form (Some d) twice no_items ws a b more = absurd (true≢false (sym a))

-- ---- entries

-- an entry of another name is not the part's
other_entry : (n : List ℕ) (c : Child) (o : Option (List ℕ)) (m : List ℕ) (d : Data) (rest : Items)
    → c.name ≡ Some n → o ≡ Some m
    → ¬ (o ≡ Some n)
    → entry c (item (named (record { name = o; form = Some d } ∷ [])) rest)
    ≡ (None, item (named (record { name = o; form = Some d } ∷ [])) rest)
other_entry n c None m d rest name is other = absurd (cc)
other_entry n c (Some l) m d rest name is other = ap chosen (not_called l c.name c.form (λ e. other (sym e ∙ name)))
  where
    chosen : Bool → Option Data × Items
    chosen b = if b then (Some d, rest) else (None, item (object (member (encode_utf8_all l) d no_members)) rest)

no_entry : (n : List ℕ) (c : Child) → c.name ≡ Some n → (xs : List Part)
    → IsNew n (children xs) → Apart (children xs) → (ws vs : Items)
    → entry c (laid_entries xs ws vs) ≡ (None, laid_entries xs ws vs)
no_entry n c name [] new apart ws vs = refl
no_entry n c name (x ∷ xs) new apart ws vs =
    let w = entry x.child ws in
    let v = entry x.child vs in
    by_sent (over x.lay w.0 v.0) (laid_entries xs w.1 v.1) (no_entry n c name xs new.1 apart.1 w.1 v.1)
  where
    by_sent : (o : Option Data) (rest : Items) → entry c rest ≡ (None, rest)
        → entry c (put_entry x.child o rest) ≡ (None, put_entry x.child o rest)
    by_sent None rest more = more
    by_sent (Some d) rest more = other_entry n c x.child.name apart.0.0 d rest name apart.0.1 new.0

entry_put : (n : List ℕ) (o : Option (List ℕ)) (f s : Option Data) (rest : Items)
    → o ≡ Some n → (is_some f ≡ false → s ≡ None)
    → entry (record { name = o; form = f }) rest ≡ (None, rest)
    → entry (record { name = o; form = f }) (put_entry (record { name = o; form = f }) s rest) ≡ (s, rest)
entry_put n None f s rest name there none = absurd (cc)
entry_put n (Some m) f None rest name there none = none
entry_put n (Some m) None (Some d) rest name there none = let no : Some d ≡ None = there refl in absurd (cc)
entry_put n (Some m) (Some g) (Some d) rest name there none = ap chosen (name_itself (encode_utf8_all m))
  where
    chosen : Bool → Option Data × Items
    chosen b =
        if b && true then (Some d, rest) else (None, item (object (member (encode_utf8_all m) d no_members)) rest)

-- the first part's entry stands at the front of what is laid
first_laid : (x : Part) (xs : List Part) → Apart (children (x ∷ xs)) → (ws vs : Items)
    → entry x.child (laid_entries (x ∷ xs) ws vs)
    ≡ (over x.lay (entry x.child ws).0 (entry x.child vs).0, laid_entries xs (entry x.child ws).1 (entry x.child vs).1)
first_laid x xs apart ws vs =
    let w = entry x.child ws in
    let v = entry x.child vs in
    entry_put apart.0.0 x.child.name (form x) (over x.lay w.0 v.0) (laid_entries xs w.1 v.1) apart.0.1
    (λ none. ap₂ (over x.lay) (entry_formless x.child ws none) (entry_formless x.child vs none))
    (no_entry apart.0.0 x.child apart.0.1 xs apart.0.2 apart.1 w.1 v.1)

entries_fit_laid : (xs : List Part)
    → Each PartJoins xs → Apart (children xs) → (vs ws : Items) → entries_fit xs vs ≡ true
    → entries_fit xs ws ≡ true
    → entries_fit xs (laid_entries xs vs ws) ≡ true
entries_fit_laid [] each apart vs ws a b = refl
entries_fit_laid (x ∷ xs) each apart vs ws a b =
    let v = entry x.child vs in
    let w = entry x.child ws in
    ap (λ (e : Option Data × Items). fits_if x.fits e.0 && entries_fit xs e.1) (first_laid x xs apart vs ws)
    ∙ and_from _ _ (fits_over x.fits x.lay (form x) each.0 v.0 w.0 (and_left _ _ a) (and_left _ _ b))
    (entries_fit_laid xs each.1 apart.1 v.1 w.1 (and_right _ _ a) (and_right _ _ b))

entries_twice : (xs : List Part) → Each PartJoins xs → Apart (children xs) → (vs ws : Items) → entries_fit xs vs ≡ true
    → entries_fit xs ws ≡ true
    → laid_entries xs (laid_entries xs (form_entries xs) vs) ws
    ≡ laid_entries xs (form_entries xs) (laid_entries xs vs ws)
entries_twice [] each apart vs ws a b = refl
entries_twice (x ∷ xs) each apart vs ws a b =
    let v = entry x.child vs in
    let w = entry x.child ws in
    let mine = own_entry apart.0.0 x xs apart.0.1 in
    let first = first_laid x xs apart (form_entries (x ∷ xs)) vs
    ∙ ap (λ (e : Option Data × Items). (over x.lay e.0 v.0, laid_entries xs e.1 v.1)) mine in
    ap (λ (e : Option Data × Items). put_entry x.child (over x.lay e.0 w.0) (laid_entries xs e.1 w.1)) first
    ∙ ap₂ (put_entry x.child) (twice_over x.fits x.lay (form x) each.0 v.0 w.0 (and_left _ _ a) (and_left _ _ b))
    (entries_twice xs each.1 apart.1 v.1 w.1 (and_right _ _ a) (and_right _ _ b))
    ∙ sym (ap₂ (λ (o s : Option Data × Items). put_entry x.child (over x.lay o.0 s.0) (laid_entries xs o.1 s.1)) mine
    (first_laid x xs apart vs ws))

-- ---- forms

whole_joins : (x : Part) → Joins (fits_form (whole x)) (lay_form (whole x)) (form x)
whole_joins x = record { fits = λ v w a b. b; twice = λ v w a b. by_form (form x) v w }
  where
    by_form : (o : Option Data) (v w : Data)
        → over (lay_form (whole x)) (over (lay_form (whole x)) o (Some v)) (Some w)
        ≡ over (lay_form (whole x)) o (Some w)
    by_form None v w = refl
    by_form (Some d) v w = refl

object_joins : (xs : List Part)
    → Each PartJoins xs → Joins (fits_form (object_of xs)) (lay_form (object_of xs)) (value (object_of xs))
object_joins xs each = record { fits = fits; twice = twice }
  where
    fits : (v w : Data) → fits_form (object_of xs) v ≡ true → fits_form (object_of xs) w ≡ true
        → fits_form (object_of xs) (lay_form (object_of xs) v w) ≡ true
    fits (object vs) (object ws) a b = members_fit_laid xs each vs ws a b
    fits (object vs) w a b = absurd (true≢false (sym b))
    fits v w a b = absurd (true≢false (sym a))

    twice : (v w : Data) → fits_form (object_of xs) v ≡ true → fits_form (object_of xs) w ≡ true
        → over (lay_form (object_of xs)) (over (lay_form (object_of xs)) (value (object_of xs)) (Some v)) (Some w)
        ≡ over (lay_form (object_of xs)) (value (object_of xs)) (Some (lay_form (object_of xs) v w))
    twice (object vs) (object ws) a b = ap (λ ms. Some (object ms)) (members_twice xs each vs ws a b)
    twice (object vs) w a b = absurd (true≢false (sym b))
    twice v w a b = absurd (true≢false (sym a))

list_joins : (xs : List Part)
    → Each PartJoins xs → Joins (fits_form (list_of xs)) (lay_form (list_of xs)) (value (list_of xs))
list_joins xs each = record { fits = fits; twice = twice }
  where
    fits : (v w : Data) → fits_form (list_of xs) v ≡ true → fits_form (list_of xs) w ≡ true
        → fits_form (list_of xs) (lay_form (list_of xs) v w) ≡ true
    fits (array vs) (array ws) a b = items_fit_laid xs each vs ws a b
    fits (array vs) w a b = absurd (true≢false (sym b))
    fits v w a b = absurd (true≢false (sym a))

    twice : (v w : Data) → fits_form (list_of xs) v ≡ true → fits_form (list_of xs) w ≡ true
        → over (lay_form (list_of xs)) (over (lay_form (list_of xs)) (value (list_of xs)) (Some v)) (Some w)
        ≡ over (lay_form (list_of xs)) (value (list_of xs)) (Some (lay_form (list_of xs) v w))
    twice (array vs) (array ws) a b = ap (λ ds. Some (array ds)) (items_twice xs each vs ws a b)
    twice (array vs) w a b = absurd (true≢false (sym b))
    twice v w a b = absurd (true≢false (sym a))

entries_join : (xs : List Part) → Each PartJoins xs → Apart (children xs)
    → Joins (fits_form (entries_of xs)) (lay_form (entries_of xs)) (value (entries_of xs))
entries_join xs each apart = record { fits = fits; twice = twice }
  where
    fits : (v w : Data) → fits_form (entries_of xs) v ≡ true → fits_form (entries_of xs) w ≡ true
        → fits_form (entries_of xs) (lay_form (entries_of xs) v w) ≡ true
    fits (array vs) (array ws) a b = entries_fit_laid xs each apart vs ws a b
    fits (array vs) w a b = absurd (true≢false (sym b))
    fits v w a b = absurd (true≢false (sym a))

    twice : (v w : Data) → fits_form (entries_of xs) v ≡ true → fits_form (entries_of xs) w ≡ true
        → over (lay_form (entries_of xs)) (over (lay_form (entries_of xs)) (value (entries_of xs)) (Some v)) (Some w)
        ≡ over (lay_form (entries_of xs)) (value (entries_of xs)) (Some (lay_form (entries_of xs) v w))
    twice (array vs) (array ws) a b = ap (λ ds. Some (array ds)) (entries_twice xs each apart vs ws a b)
    twice (array vs) w a b = absurd (true≢false (sym b))
    twice v w a b = absurd (true≢false (sym a))

pub form_joins : (f g : Form) → Forms (λ x y. PartJoins x) f g → Joins (fits_form f) (lay_form f) (value f)
form_joins nothing nothing r =
    record { fits = λ v w a b. absurd (true≢false (sym a)); twice = λ v w a b. absurd (true≢false (sym a)) }
form_joins (whole x) (whole y) r = whole_joins x
form_joins (object_of xs) (object_of ys) r = object_joins xs (first_each PartJoins xs ys r)
form_joins (list_of xs) (list_of ys) r = list_joins xs (first_each PartJoins xs ys r)
form_joins (entries_of xs) (entries_of ys) r = entries_join xs (first_each PartJoins xs ys r.0) r.1
form_joins f g r = absurd r

pub joining_parts : IsOfParts (λ x y. PartJoins x)
joining_parts = record {
  attribute = λ n d e test. record { fits = λ v w a b. b; twice = λ v w a b. refl };
  named = λ n f g r. form_joins f g r;
}
