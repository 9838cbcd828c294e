-- Children as parts of their parent's value form.
use Rattle.std.proofs.Common.{◌≡◌, ℕ, ◌+◌, ◌<◌, ◌≤◌, ◌==◌, ◌&&◌, Bool, true, false, List, [], ◌∷◌, length, map, drop}
use Rattle.std.proofs.Common.{get_or, Option, Some, None, is_some, option_and_then, refl, sym, ap, ap₂, ◌∙◌, arith}
use Rattle.std.proofs.lemmas.Bool.Decides.{nat_tests}
use Rattle.std.proofs.lemmas.List.{drop_all}
use Rattle.std.specs.Prelude.{if◌then◌else◌}
use Rattle.std.specs.Str.{encode_utf8_all}
use Rattle.std.proofs.Math.Bool.{and-false, and-true}
use Rattle.aas_lemmas.proofs.Lists.{drop_at}
use Rattle.serde_json.specs.Data.{Data, object, Items, no_items, Members}
use Rattle.serde_json.specs.Events.{members_len}
use Rattle.serde_json.specs.View.{view, items_view}
use Rattle.serde_json.specs.declared.value.Value.{Value}
use Rattle.serde_json.specs.Find.{get, get_member}
use Rattle.aas_model_names.specs.declared.modifiers.Extent.TheVariants as extent
use Rattle.aas_model.specs.declared.element.Element.{Element, out-Element}
use Rattle.aas_value.specs.Children.{Child}
use Rattle.aas_value.proofs.Forms.{name_out}
use Rattle.aas_value_update.specs.Forms.{part_of}
use Rattle.aas_value.specs.Parts.{Part, name_is, is_called, entry, children, members_fit, is_empty, item_fits}
use Rattle.aas_value.specs.Parts.{items_fit, entries_fit, fits_if}
use Rattle.aas_value_update.specs.Shape.{under_name, next_item, in_turn}
use Rattle.aas_value_update.proofs.Canonical.{order_rises}
use Rattle.aas_value_update.proofs.Named.{Apart}
use Rattle.aas_json_spelling.specs.Values.{HasOrder}
use Rattle.aas_value_update.proofs.Elements.{part_out}
use Rattle.aas_value_patch.specs.Counted.{one_if_some, found, each_fits}
use Rattle.aas_value_patch.proofs.Counted.{counted}

under : Data → Bool → Option (List ℕ) → Option Data
under v b a = if b then option_and_then (λ n. get (encode_utf8_all n) v) a else None

under_is : (v : Data) (k : Element) (b : Bool) (a : Option (List ℕ))
    → is_some (part_of k).child.form ≡ b → (out-Element k).common.id_short ≡ a
    → under_name v (part_of k).child ≡ under v b a
unfolding under
under_is v k b a there name =
    ap (λ t. if t then option_and_then (λ n. get (encode_utf8_all n) v) (part_of k).child.name else None) there
    ∙ ap (λ (o : Option (List ℕ)). if b then option_and_then (λ n. get (encode_utf8_all n) v) o else None)
    (name_out extent.WithBlobValue k ∙ name)

-- what is sent under the name of a child
pub under_formless : (v : Data) (k : Element)
    → is_some (part_of k).child.form ≡ false → None ≡ under_name v (part_of k).child
unfolding under
under_formless v k there = sym (under_is v k false (out-Element k).common.id_short there refl)

pub under_unnamed : (v : Data) (k : Element) (b : Bool)
    → is_some (part_of k).child.form ≡ b → (out-Element k).common.id_short ≡ None
    → None ≡ under_name v (part_of k).child
unfolding under
under_unnamed v k true there name = sym (under_is v k true None there name)
under_unnamed v k false there name = sym (under_is v k false None there name)

pub under_kid : (ms : Members) (k : Element) (n : List ℕ)
    → is_some (part_of k).child.form ≡ true → (out-Element k).common.id_short ≡ Some n
    → get_member (encode_utf8_all n) ms ≡ under_name (object ms) (part_of k).child
unfolding under
under_kid ms k n there name = sym (under_is (object ms) k true (Some n) there name)

-- ---- in turn

pub turn_past : (k : Element) (cs : List Child) (ds : Items) → is_some (part_of k).child.form ≡ false
    → in_turn ((part_of k).child ∷ cs) ds ≡ None ∷ in_turn cs ds
turn_past k cs ds there = ap (λ b. if b then next_item (in_turn cs) ds else None ∷ in_turn cs ds) there

pub turn_short : (k : Element) (cs : List Child) (vs : List Value)
    → is_some (part_of k).child.form ≡ true → length vs < 1
    → in_turn ((part_of k).child ∷ cs) (items_view vs) ≡ None ∷ in_turn cs (items_view vs)
turn_short k cs [] there short =
    ap (λ b. if b then next_item (in_turn cs) no_items else None ∷ in_turn cs no_items) there
turn_short k cs (v ∷ vs) there short = absurd (omega arith)

pub turn_next : (k : Element) (cs : List Child) (v : Value) (vs : List Value) → is_some (part_of k).child.form ≡ true
    → in_turn ((part_of k).child ∷ cs) (items_view (v ∷ vs)) ≡ Some (view v) ∷ in_turn cs (items_view vs)
turn_next k cs v vs there =
    ap (λ b. if b then next_item (in_turn cs) (items_view (v ∷ vs)) else None ∷ in_turn cs (items_view (v ∷ vs))) there

pub turn_first : (k : Element) (cs : List Child) (v : Value) (vs : List Value)
    → is_some (part_of k).child.form ≡ true → 0 < length vs → v ≡ get_or vs 0 v
    → in_turn ((part_of k).child ∷ cs) (items_view vs) ≡ Some (view v) ∷ in_turn cs (items_view (drop 1 vs))
turn_first k cs v [] there long at = absurd (omega arith)
turn_first k cs v (w ∷ vs) there long at =
    turn_next k cs w vs there ∙ ap (λ (x : Value). Some (view x) ∷ in_turn cs (items_view vs)) (sym at)

-- ---- along children

pub found_step : (ks : List Element) (i : ℕ) (k : Element) (ms : Members) (n m all : ℕ)
    → i < length ks → k ≡ get_or ks i k
    → m ≡ one_if_some (under_name (object ms) (part_of k).child)
    → n + found (map part_of (drop i ks)) ms ≡ all → (n + m) + found (map part_of (drop (i + 1) ks)) ms ≡ all
found_step ks i k ms n m all lt at one so_far =
    let front : found (map part_of (drop i ks)) ms
    ≡ one_if_some (under_name (object ms) (part_of k).child) + found (map part_of (drop (i + 1) ks)) ms = ap
    (λ l. found (map part_of l) ms) (drop_at ks i k lt at) in
    omega (arith, front, one, so_far)

pub found_end : (ks : List Element) (i : ℕ) (ms : Members) (n all : ℕ)
    → length ks ≤ i → n + found (map part_of (drop i ks)) ms ≡ all → n ≡ all
found_end ks i ms n all le so_far =
    let none : found (map part_of (drop i ks)) ms ≡ 0 = ap (λ l. found (map part_of l) ms) (drop_all i ks le) in
    omega (arith, none, so_far)

kid_fits : (k : Element) → (part_of k).fits ≡ (λ d. true)
kid_fits k = ap (λ (x : Part). x.fits) (part_out k)

pub kids_fit : (ks : List Element) (ms : Members) → each_fits (map part_of ks) ms ≡ true
kids_fit [] ms = refl
kids_fit (k ∷ ks) ms =
    ap₂ (λ (t : Data → Bool) b. fits_if t (under_name (object ms) (part_of k).child) && b) (kid_fits k) (kids_fit ks ms)
    ∙ any (under_name (object ms) (part_of k).child)
  where
    any : (o : Option Data) → fits_if (λ d. true) o && true ≡ true
    any None = refl
    any (Some d) = refl

-- each member has the name of a child, if there are as many as are found
pub names_are : (ks : List Element) (ms : Members) (n m : ℕ)
    → n ≡ found (map part_of ks) ms → m ≡ members_len ms → Apart (children (map part_of ks))
    → HasOrder ms → (n == m) ≡ members_fit (map part_of ks) ms
names_are ks ms n m is size apart order =
    ap₂ (λ a b. a == b) is size
    ∙ sym (counted (map part_of ks) ms apart (order_rises ms order)
    ∙ ap (λ b. b && (found (map part_of ks) ms == members_len ms)) (kids_fit ks ms))

-- ---- entries

pub called_formless : (n : List ℕ) (k : Element)
    → is_some (part_of k).child.form ≡ false → false ≡ is_called n (part_of k).child
called_formless n k there =
    sym (ap (λ b. name_is n (part_of k).child.name && b) there ∙ and-false (name_is n (part_of k).child.name))

pub called_kid : (n : List ℕ) (k : Element) (a : Option (List ℕ))
    → is_some (part_of k).child.form ≡ true → (out-Element k).common.id_short ≡ a
    → name_is n a ≡ is_called n (part_of k).child
called_kid n k a there name =
    sym (ap₂ (λ (o : Option (List ℕ)) b. name_is n o && b) (name_out extent.WithBlobValue k ∙ name) there
    ∙ and-true (name_is n a))

-- ---- items that fit

pub fit_past : (k : Element) (xs : List Part) (ds : Items)
    → is_some (part_of k).child.form ≡ false → items_fit (part_of k ∷ xs) ds ≡ items_fit xs ds
fit_past k xs ds there = ap (λ b. if b then item_fits (part_of k).fits (items_fit xs) ds else items_fit xs ds) there

pub fit_short : (k : Element) (xs : List Part) (vs : List Value) → is_some (part_of k).child.form ≡ true → length vs < 1
    → items_fit (part_of k ∷ xs) (items_view vs) ≡ false
fit_short k xs [] there short =
    ap (λ b. if b then item_fits (part_of k).fits (items_fit xs) no_items else items_fit xs no_items) there
fit_short k xs (v ∷ vs) there short = absurd (omega arith)

pub fit_first : (k : Element) (xs : List Part) (vs : List Value) → is_some (part_of k).child.form ≡ true → 0 < length vs
    → items_fit (part_of k ∷ xs) (items_view vs) ≡ items_fit xs (items_view (drop 1 vs))
fit_first k xs [] there long = absurd (omega arith)
fit_first k xs (v ∷ vs) there long =
    ap (λ b.
    if b then item_fits (part_of k).fits (items_fit xs) (items_view (v ∷ vs)) else items_fit xs (items_view (v ∷ vs)))
    there
    ∙ ap (λ (t : Data → Bool). t (view v) && items_fit xs (items_view vs)) (kid_fits k)

is_empty_viewed : (vs : List Value) → is_empty (items_view vs) ≡ (length vs == 0)
is_empty_viewed [] = refl
is_empty_viewed (v ∷ vs) = grind (arith, nat_tests)

pub fit_end : (ks : List Element) (i : ℕ) (vs : List Value) (b all : Bool) → length ks ≤ i → b ≡ (length vs == 0)
    → items_fit (map part_of (drop i ks)) (items_view vs) ≡ all → b ≡ all
fit_end ks i vs b all le is so_far =
    is ∙ sym (is_empty_viewed vs)
    ∙ sym (ap (λ l. items_fit (map part_of l) (items_view vs)) (drop_all i ks le)) ∙ so_far

-- ---- entries that fit

pub entries_step : (ks : List Element) (i : ℕ) (k : Element) (ds es : Items) (o : Option Data) (all : Bool)
    → i < length ks → k ≡ get_or ks i k
    → entry (part_of k).child ds ≡ (o, es)
    → entries_fit (map part_of (drop i ks)) ds ≡ all → entries_fit (map part_of (drop (i + 1) ks)) es ≡ all
entries_step ks i k ds es o all lt at step so_far =
    sym (ap (λ l. entries_fit (map part_of l) ds) (drop_at ks i k lt at)
    ∙ ap (λ (p : Option Data × Items). fits_if (part_of k).fits p.0 && entries_fit (map part_of (drop (i + 1) ks)) p.1)
    step
    ∙ ap (λ (t : Data → Bool). fits_if t o && entries_fit (map part_of (drop (i + 1) ks)) es) (kid_fits k)
    ∙ any o (entries_fit (map part_of (drop (i + 1) ks)) es))
    ∙ so_far
  where
    any : (o : Option Data) (b : Bool) → fits_if (λ d. true) o && b ≡ b
    any None b = refl
    any (Some d) b = refl

pub entries_end : (ks : List Element) (i : ℕ) (vs : List Value) (b all : Bool) → length ks ≤ i → b ≡ (length vs == 0)
    → entries_fit (map part_of (drop i ks)) (items_view vs) ≡ all → b ≡ all
entries_end ks i vs b all le is so_far =
    is ∙ sym (is_empty_viewed vs)
    ∙ sym (ap (λ l. entries_fit (map part_of l) (items_view vs)) (drop_all i ks le)) ∙ so_far
