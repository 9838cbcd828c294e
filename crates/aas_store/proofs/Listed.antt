-- Elements in preorder, one at a time.
use Rattle.std.proofs.Common.{◌≡◌, ℕ, Bool, zero, suc, ◌+◌, ◌-◌, ◌<◌, ◌≤◌, List, [], ◌∷◌, ◌++◌, length, take, drop, map, get_or, slice_get, Some, None, option_map, option_and_then, Bor, Result, Ok, Err, MatchResult, refl, sym, ap, ap₂, ◌∙◌, arith, length-append}
use Rattle.std.proofs.Math.Seq.{drop-cons}
use Rattle.std.proofs.Math.Numerals.{add-one}
use Rattle.std.proofs.lemmas.List.{drop_all}
use Rattle.std.proofs.lemmas.List.Folds.{flat_map-map}
use Rattle.std.proofs.lemmas.Option.{slice_get_past}
use Rattle.aas_lemmas.proofs.Lists.{get_front, get_behind}
use Rattle.aas_model.specs.Element.{kind_of}
use Rattle.aas_model.specs.declared.documents.Submodel.{Submodel}
use Rattle.aas_model.specs.declared.element.Element.{Element, out-Element, roll-Element, out-roll-Element, roll-out-Element, fold-Element, fold_out-Element, ind-Element}
use Rattle.aas_model.specs.declared.path.PathStep.{PathStep}
use Rattle.aas_model_names.specs.declared.kind.Kind.{Kind}
use Rattle.aas_path_trees.proofs.Patches.{kinds_out}
use Rattle.aas_path_trees.specs.Children.{kids_of, is_list}
use Rattle.aas_path_trees.specs.ElementAt.{place_of, child_by}
use Rattle.aas_path_trees.specs.Patched.{kinds, kinds_of_all}
use Rattle.aas_store.specs.Ranked.{IsRanked}
use Rattle.aas_store.specs.Spots.{Listed, listed_over, elements, elements_of_all, spot_among, spot_below}

listed : Element → Listed
listed = fold-Element Listed listed_over

-- ---- what the list of an element begins with

Itself : Element → Type 0
Itself e = (listed e).0 ≡ e

abbrev Known : (Element → Type 0) → Type 0
Known P = (e : Element) × P e

selves : (ks : List (Known Itself)) → map (λ (f : Listed). f.0) (map listed (map (λ k. k.0) ks)) ≡ map (λ k. k.0) ks
unfolding Itself
selves [] = refl
selves (k ∷ ks) = ap₂ (λ x xs. x ∷ xs) k.1 (selves ks)

level_itself : (e : Element) (ks : List (Known Itself)) → kids_of e ≡ map (λ k. k.0) ks → Itself e
unfolding listed Itself
level_itself e ks is =
    ap (λ f. f.0) (fold_out-Element Listed listed_over e)
    ∙ ap (λ ks. roll-Element (record (out-Element e) { kids = ks })) (ap (λ ks. map (λ (f : Listed). f.0) (map listed ks)) is ∙ selves ks ∙ sym is)
    ∙ roll-out-Element e

itself : (e : Element) → Itself e
itself = ind-Element Itself (λ x y is. level_itself (roll-Element x) y.kids (ap (λ f. f.kids) (out-roll-Element x ∙ sym is)))

pub elements_out : (e : Element) → elements e ≡ e ∷ elements_of_all (kids_of e)
unfolding listed Itself elements
elements_out e =
    ap (λ f. f.1) (fold_out-Element Listed listed_over e)
    ∙ ap₂ (λ x xs. x ∷ xs) (sym (ap (λ f. f.0) (fold_out-Element Listed listed_over e)) ∙ itself e) (flat_map-map (λ (f : Listed). f.1) listed (kids_of e))

-- ---- as many as kinds

AsMany : Element → Type 0
AsMany e = length (elements e) ≡ length (kinds e)

as_many_among : (ks : List (Known AsMany)) → length (elements_of_all (map (λ k. k.0) ks)) ≡ length (kinds_of_all (map (λ k. k.0) ks))
unfolding AsMany
as_many_among [] = refl
as_many_among (k ∷ ks) =
    length-append (elements k.0) (elements_of_all (map (λ k. k.0) ks)) ∙ ap₂ ◌+◌ k.1 (as_many_among ks) ∙ sym (length-append (kinds k.0) (kinds_of_all (map (λ k. k.0) ks)))

level_as_many : (e : Element) (ks : List (Known AsMany)) → kids_of e ≡ map (λ k. k.0) ks → AsMany e
unfolding AsMany
level_as_many e ks is =
    ap length (elements_out e) ∙ ap suc (ap (λ ks. length (elements_of_all ks)) is ∙ as_many_among ks ∙ sym (ap (λ ks. length (kinds_of_all ks)) is)) ∙ sym (ap length (kinds_out e))

as_many : (e : Element) → AsMany e
as_many = ind-Element AsMany (λ x y is. level_as_many (roll-Element x) y.kids (ap (λ f. f.kids) (out-roll-Element x ∙ sym is)))

pub as_many_of_all : (ks : List Element) → length (elements_of_all ks) ≡ length (kinds_of_all ks)
unfolding AsMany
as_many_of_all [] = refl
as_many_of_all (k ∷ ks) = length-append (elements k) (elements_of_all ks) ∙ ap₂ ◌+◌ (as_many k) (as_many_of_all ks) ∙ sym (length-append (kinds k) (kinds_of_all ks))

-- ---- a loop over children

front : (ks : List Element) (i : ℕ) (x : Element) → i < length ks → x ≡ get_or ks i x → elements_of_all (drop i ks) ≡ elements x ++ elements_of_all (drop (i + 1) ks)
front ks i x lt at = ap elements_of_all (drop-cons ks i x lt ∙ ap (λ y. y ∷ drop (suc i) ks) (sym at) ∙ ap (λ n. x ∷ drop n ks) (sym (add-one i)))

pub size_out : (e : Element) (ks : List Element) → ks ≡ kids_of e → length (elements e) ≡ length (elements_of_all ks) + 1
size_out e ks kids =
    let all : length (elements_of_all ks) ≡ length (elements_of_all (kids_of e)) = ap (λ ks. length (elements_of_all ks)) kids in
    let out : length (elements e) ≡ suc (length (elements_of_all (kids_of e))) = ap length (elements_out e) in
    omega (arith, all, out)

pub size_next : (ks : List Element) (i : ℕ) (x : Element) → i < length ks → x ≡ get_or ks i x
    → length (elements_of_all (drop i ks)) ≡ length (elements x) + length (elements_of_all (drop (i + 1) ks))
size_next ks i x lt at = ap length (front ks i x lt at) ∙ length-append (elements x) (elements_of_all (drop (i + 1) ks))

pub size_none : (ks : List Element) (i : ℕ) → length ks ≤ i → length (elements_of_all (drop i ks)) ≡ 0
size_none ks i le = ap (λ ks. length (elements_of_all ks)) (drop_all i ks le)

pub size_front : (ks : List Element) (i : ℕ) → length (elements_of_all (take i ks)) ≤ length (elements_of_all ks)
size_front ks zero = omega arith
size_front [] (suc i) = omega arith
size_front (k ∷ ks) (suc i) =
    let whole = length-append (elements k) (elements_of_all ks) in
    let part = length-append (elements k) (elements_of_all (take i ks)) in
    let fewer = size_front ks i in
    omega (arith, whole, part, fewer)

-- what stands before a child, and the child with all below it
pub size_at : (ks : List Element) (i : ℕ) (k : Element) → slice_get ks i ≡ Some k → length (elements_of_all (take i ks)) + length (elements k) ≤ length (elements_of_all ks)
size_at [] i k is = absurd (cc)
size_at (x ∷ ks) zero k is =
    let same : x ≡ k = cc in
    let own = ap (λ x. length (elements x)) same in
    let whole = length-append (elements x) (elements_of_all ks) in
    omega (arith, own, whole)
size_at (x ∷ ks) (suc i) k is =
    let whole = length-append (elements x) (elements_of_all ks) in
    let part = length-append (elements x) (elements_of_all (take i ks)) in
    let fewer = size_at ks i k is in
    omega (arith, whole, part, fewer)

-- ---- what stands at a rank

pub first_rank : (e : Element) (n : ℕ) → n ≡ 0 → IsRanked (elements e) n e
first_rank e n none =
    let out : slice_get (elements e) 0 ≡ Some e = ap (λ es. slice_get es 0) (elements_out e) in
    (ap (slice_get (elements e)) none ∙ out, omega (arith, none))

-- what is found below an element, or what is left behind it
pub ranked_below : (r : Result (Bor Element) ℕ) (e : Element) (ks : List Element) (n : ℕ) → ¬ (n ≡ 0) → ks ≡ kids_of e
    → MatchResult r (λ f. IsRanked (elements_of_all ks) (n - 1) f.now) (λ left. left + length (elements_of_all ks) ≡ n - 1)
    → MatchResult r (λ f. IsRanked (elements e) n f.now) (λ left. left + length (elements e) ≡ n)
ranked_below (Ok f) e ks n some kids found =
    let step : n ≡ suc (n - 1) = omega (arith, some) in
    let size = size_out e ks kids in
    let at : slice_get (elements e) n ≡ Some f.now =
    ap (slice_get (elements e)) step ∙ ap (λ es. slice_get es (suc (n - 1))) (elements_out e ∙ ap (λ ks. e ∷ elements_of_all ks) (sym kids)) ∙ found.0 in
    (at, omega (arith, found.1, size, some))
ranked_below (Err left) e ks n some kids rest = let size = size_out e ks kids in omega (arith, rest, size, some)

-- a loop over children has come to the child in place i, with what is left of the rank n
pub record HasLeft (ks : List Element) (n i left : ℕ) : Type 0 where
  pub count : left + length (elements_of_all ks) ≡ n + length (elements_of_all (drop i ks))
  pub same : slice_get (elements_of_all ks) n ≡ slice_get (elements_of_all (drop i ks)) left

pub found_here : (ks : List Element) (n i left : ℕ) (x f : Element) → HasLeft ks n i left → i < length ks → x ≡ get_or ks i x → IsRanked (elements x) left f → IsRanked (elements_of_all ks) n f
found_here ks n i left x f so_far lt at found =
    let size = size_next ks i x lt at in (
      so_far.same ∙ ap (λ es. slice_get es left) (front ks i x lt at) ∙ get_front (elements x) (elements_of_all (drop (i + 1) ks)) left f found.0,
      omega (arith, so_far.count, size, found.1),
    )

pub left_behind : (ks : List Element) (n i left rest : ℕ) (x : Element) → HasLeft ks n i left → i < length ks → x ≡ get_or ks i x → rest + length (elements x) ≡ left → HasLeft ks n (i + 1) rest
left_behind ks n i left rest x so_far lt at is =
    let size = size_next ks i x lt at in record {
      count = omega (arith, so_far.count, size, is);
      same = so_far.same ∙ ap (λ es. slice_get es left) (front ks i x lt at) ∙ get_behind (elements x) (elements_of_all (drop (i + 1) ks)) rest left is;
    }

-- the child in the place to which a step leads
pub spotted : (l : Bool) (ks : List Element) (n : ℕ) (s : PathStep) (i : ℕ) (k : Element) (r : ℕ) (x : Kind) → Some i ≡ place_of l s ks → Some k ≡ slice_get ks i
    → r ≡ n + length (elements_of_all (take i ks)) → x ≡ kind_of k → Some (record { rank = r; kind = x }) ≡ spot_among l ks n s
unfolding child_by
spotted l ks n s i k r x place there rank kind =
    ap₂ (λ r x. Some (record { rank = r; kind = x })) rank kind
    ∙ ap (option_map (λ (c : ℕ × Element). record { rank = n + length (elements_of_all (take c.0 ks)); kind = kind_of c.1 }))
    (ap (option_map (λ k. (i, k))) there ∙ ap (option_and_then (λ i. option_map (λ k. (i, k)) (slice_get ks i))) place)

-- where a rank is behind all elements, no child stands below it
pub nothing_behind : (d : Submodel) (ks : List Element) (n left : ℕ) (s : PathStep) → ks ≡ d.kids → left + length (elements_of_all ks) ≡ n → None ≡ spot_below d (Some n) s
nothing_behind d ks n left s kids rest =
    ap (option_and_then (λ (e : Element). spot_among (is_list e) (kids_of e) (n + 1) s))
    (sym (ap (λ ks. slice_get (elements_of_all ks) n) (sym kids) ∙ slice_get_past (elements_of_all ks) n (omega (arith, rest))))
