-- Lists of JSON values as items.
use Rattle.std.proofs.Common.{◌≡◌, ℕ, suc, ◌+◌, ◌<◌, ◌&&◌, Bool, true, List, [], ◌∷◌, ◌++◌, length, map, drop, get_or}
use Rattle.std.proofs.Common.{refl, sym, ap, ◌∙◌, subst, arith}
use Rattle.std.proofs.Math.Seq.{drop-cons}
use Rattle.std.proofs.Math.Numerals.{add-one}
use Rattle.serde_json.specs.Data.{Data, array, Items, item}
use Rattle.std.specs.Prelude.{String}
use Rattle.std.specs.declared.alloc.Global.{Global}
use Rattle.serde_json.specs.Events.{members_len}
use Rattle.serde_json.specs.View.{view, items_view, members_view}
use Rattle.serde_json.proofs.Views.{members_len-members_view}
use Rattle.serde_json.specs.declared.value.Value.{Value}
use Rattle.aas_value.specs.Json.{has_empty_list, some_has_empty_list, all_items}
use Rattle.aas_json_members.proofs.Lists.{one_more}
use Rattle.aas_json_spelling.specs.Values.{IsOrdered, AreOrdered}
use Rattle.aas_json_table.specs.Spelled.{onto}

pub empty_itself : (vs : List Value) → length vs < 1 → has_empty_list (array (items_view vs)) ≡ true
empty_itself [] h = refl
empty_itself (v ∷ vs) h = absurd (omega arith)

pub some_inside : (vs : List Value)
    → 0 < length vs → has_empty_list (array (items_view vs)) ≡ some_has_empty_list (items_view vs)
some_inside [] h = absurd (omega arith)
some_inside (v ∷ vs) h = refl

-- how many members there are
pub size : (es : List (String Global × Value)) → members_len (members_view es) ≡ length es
size es = members_len-members_view es

-- ---- along items

pub front_viewed : (vs : List Value) (i : ℕ) (v : Value) → i < length vs → v ≡ get_or vs i v
    → items_view (drop i vs) ≡ item (view v) (items_view (drop (i + 1) vs))
front_viewed vs i v lt at =
    ap items_view
    (drop-cons vs i v lt ∙ ap (λ y. y ∷ drop (suc i) vs) (sym at) ∙ ap (λ n. v ∷ drop n vs) (sym (add-one i)))

pub fit_step : (t : Data → Bool) (vs : List Value) (i : ℕ) (v : Value) (all : Bool)
    → i < length vs → v ≡ get_or vs i v → t (view v) ≡ true
    → all_items t (items_view (drop i vs)) ≡ all → all_items t (items_view (drop (i + 1) vs)) ≡ all
fit_step t vs i v all lt at fit so_far =
    ap (λ b. b && all_items t (items_view (drop (i + 1) vs))) (sym fit)
    ∙ sym (ap (all_items t) (front_viewed vs i v lt at)) ∙ so_far

pub taken_step : {A : Type 0} (f : A → Data) (xs ys : List A)
    (x : A) (vs : List Value) (i : ℕ) (v : Value) (all : Items)
    → i < length vs → v ≡ get_or vs i v
    → ys ≡ xs ++ x ∷ [] → f x ≡ view v
    → onto (map f xs) (items_view (drop i vs)) ≡ all → onto (map f ys) (items_view (drop (i + 1) vs)) ≡ all
taken_step f xs ys x vs i v all lt at push same so_far =
    let rest = items_view (drop (i + 1) vs) in
    ap (λ zs. onto (map f zs) rest) push ∙ one_more f xs x rest ∙ ap (λ d. onto (map f xs) (item d rest)) same
    ∙ sym (ap (onto (map f xs)) (front_viewed vs i v lt at)) ∙ so_far

pub order_step : (vs : List Value) (i : ℕ) (v : Value)
    → i < length vs → v ≡ get_or vs i v → AreOrdered (items_view (drop i vs))
    → IsOrdered (view v) × AreOrdered (items_view (drop (i + 1) vs))
order_step vs i v lt at order = subst AreOrdered (front_viewed vs i v lt at) order
