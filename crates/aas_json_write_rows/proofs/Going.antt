-- The steps of a walk over the rows of an element.
use Rattle.std.proofs.Common.{◌≡◌, ℕ, suc, ◌+◌, ◌<◌, ◌≤◌, ◌||◌, Bool, true, false, List, [], ◌∷◌, ◌++◌}
use Rattle.std.proofs.Common.{length, length-append, ◌*◌, drop, Option, Some, None, slice_get, refl, sym, ap, ◌∙◌}
use Rattle.std.proofs.Common.{subst, append_assoc, arith, if◌then◌else◌}
use Rattle.std.proofs.lemmas.Bool.{cond-false}
use Rattle.std.proofs.lemmas.List.{append-nil}
use Rattle.std.proofs.Math.Bool.{or-false, or-true}
use Rattle.aas_out.specs.Adds.{Adds}
use Rattle.aas_out.specs.Told.{Told}
use Rattle.aas_out.specs.declared.pouring.Pouring.{Pouring}
use Rattle.aas_out.proofs.Adding.{adds_both}
use Rattle.aas_rows.specs.Rows.{Line}
use Rattle.aas_json_write_members.specs.Members.{all_stops, opening, closing, part, fields_text, field_text}
use Rattle.aas_json_write_members.specs.Members.{later_after, stop_name, stops_behind, stops_from, stops_left}
use Rattle.aas_json_write_members.specs.Script.{Spoken, script, element_text, at_stop, more_text, listed_text, is_any}
use Rattle.aas_json_write_members.specs.declared.members.Show.{Show}
use Rattle.aas_json_write_members.specs.declared.stops.Stop.{Stop}
use Rattle.aas_json_write_members.specs.declared.stops.Stop.TheVariants as stop
use Rattle.aas_json_write_rows.specs.Poured.{voices, kids_at, if_row, text_at}
use Rattle.aas_json_write_rows.specs.Walk.{AreBelow, IsFirst, IsNested, IsWalk, Poured, behind, is_begun, up, remaining}
use Rattle.aas_json_write_rows.specs.Walk.{walk_left, work, turns}
use Rattle.aas_json_write_rows.proofs.Looking.{below_none, below_both, below_higher, skipped, text_here}
use Rattle.aas_json_write_rows.proofs.Open.{nested_below}
use Rattle.aas_json_write_rows.specs.declared.children.Sought.TheVariants as sought
use Rattle.aas_json_write_rows.specs.declared.walk.OpenElement.{OpenElement}
use Rattle.aas_json_write_rows.specs.declared.walk.Walk.{Walk}

pub up_last : (w : Show) (rows : List Line) (k : ℕ → List ℕ) (fs : List OpenElement) (f : OpenElement) (n : ℕ)
    → up w rows k (fs ++ f ∷ []) n ≡ behind w rows f n (up w rows k fs f.rank)
up_last w rows k [] f n = refl
up_last w rows k (g ∷ fs) f n = up_last w rows (λ m. behind w rows g m (k g.rank)) fs f n

-- ---- one step of the walk

-- what a stop and all behind it say, by what is shown there
stop_by : Show → Line → List Spoken → Stop → List Stop → Bool → List (List ℕ) → List ℕ
stop_by w r vs s ss later ts = listed_text later (stop_name s) ts ++ script w r vs ss (later || is_any ts)

-- no child is shown at the stop
pub passed : (w : Show) (r : Line) (vs : List Spoken) (s : Stop) (ss : List Stop) (later : Bool)
    → at_stop w r s vs ≡ []
    → script w r vs (s ∷ ss) later
    ≡ fields_text later (part w r (Some s)) ++ script w r vs ss (later_after later (part w r (Some s)))
unfolding stop_by
passed w r vs s ss later none =
    let now : Bool = later_after later (part w r (Some s)) in
    ap (λ ts. fields_text later (part w r (Some s)) ++ stop_by w r vs s ss now ts) none
    ∙ ap (λ b. fields_text later (part w r (Some s)) ++ script w r vs ss b) (or-false now)

-- a child is shown
pub entered : (w : Show) (r : Line) (vs : List Spoken) (s : Stop) (ss : List Stop) (later : Bool) (t : List ℕ)
    (ts : List (List ℕ)) → at_stop w r s vs ≡ t ∷ ts
    → script w r vs (s ∷ ss) later
    ≡ fields_text later (part w r (Some s))
    ++ ((field_text (later_after later (part w r (Some s))) (stop_name s) (91 ∷ []) ++ (t ++ more_text ts))
    ++ script w r vs ss true)
unfolding stop_by
entered w r vs s ss later t ts is =
    let now : Bool = later_after later (part w r (Some s)) in
    ap (λ ts. fields_text later (part w r (Some s)) ++ stop_by w r vs s ss now ts) is
    ∙ ap (λ b. fields_text later (part w r (Some s))
    ++ ((field_text now (stop_name s) (91 ∷ []) ++ (t ++ more_text ts)) ++ script w r vs ss b))
    (or-true now)

-- ---- steps

pub go_out : (w : Show) (rows : List Line) (fs : List OpenElement) (n : ℕ) (later : Bool) (r : Line)
    → slice_get rows n ≡ Some r
    → remaining w rows fs n [] later ≡ (fields_text later (part w r None) ++ 125 ∷ []) ++ up w rows (λ m. []) fs n
go_out w rows fs n later r is =
    ap (λ o. if_row o (λ r. script w r (kids_at w rows r n) [] later ++ up w rows (λ m. []) fs n)) is

pub go_on : (w : Show) (rows : List Line) (fs : List OpenElement) (n : ℕ)
    (s : Stop) (ss : List Stop) (later : Bool) (r : Line)
    → slice_get rows n ≡ Some r → at_stop w r s (kids_at w rows r n) ≡ []
    → remaining w rows fs n (s ∷ ss) later
    ≡ fields_text later (part w r (Some s)) ++ remaining w rows fs n ss (later_after later (part w r (Some s)))
go_on w rows fs n s ss later r is none =
    let end : List ℕ = up w rows (λ m. []) fs n in
    let now : Bool = later_after later (part w r (Some s)) in
    ap (λ o. if_row o (λ r. script w r (kids_at w rows r n) (s ∷ ss) later ++ end)) is
    ∙ ap (λ t. t ++ end) (passed w r (kids_at w rows r n) s ss later none)
    ∙ append_assoc (fields_text later (part w r (Some s))) (script w r (kids_at w rows r n) ss now) end
    ∙ ap (λ t. fields_text later (part w r (Some s)) ++ t)
    (sym (ap (λ o. if_row o (λ r. script w r (kids_at w rows r n) ss now ++ end)) is))

-- the pieces of a text, grouped from the right
group_in : (f n o s c mt z e : List ℕ)
    → (f ++ ((n ++ ((o ++ ((123 ∷ s) ++ c)) ++ mt)) ++ z)) ++ e
    ≡ (f ++ (n ++ (o ++ 123 ∷ []))) ++ (s ++ (c ++ (mt ++ (z ++ e))))
group_in f n o s c mt z e =
    append_assoc f ((n ++ ((o ++ (123 ∷ (s ++ c))) ++ mt)) ++ z) e
    ∙ ap (λ t. f ++ t) (append_assoc (n ++ ((o ++ (123 ∷ (s ++ c))) ++ mt)) z e
    ∙ append_assoc n ((o ++ (123 ∷ (s ++ c))) ++ mt) (z ++ e)
    ∙ ap (λ t. n ++ t) (append_assoc (o ++ (123 ∷ (s ++ c))) mt (z ++ e)
    ∙ append_assoc o (123 ∷ (s ++ c)) (mt ++ (z ++ e)) ∙ ap (λ t. o ++ 123 ∷ t) (append_assoc s c (mt ++ (z ++ e)))))
    ∙ sym (append_assoc f (n ++ (o ++ 123 ∷ [])) (s ++ (c ++ (mt ++ (z ++ e))))
    ∙ ap (λ t. f ++ t) (append_assoc n (o ++ 123 ∷ []) (s ++ (c ++ (mt ++ (z ++ e))))
    ∙ ap (λ t. n ++ t) (append_assoc o (123 ∷ []) (s ++ (c ++ (mt ++ (z ++ e)))))))

group_next : (c o s mt z : List ℕ)
    → c ++ ((44 ∷ ((o ++ ((123 ∷ s) ++ c)) ++ mt)) ++ z) ≡ (c ++ (44 ∷ (o ++ 123 ∷ []))) ++ (s ++ (c ++ (mt ++ z)))
group_next c o s mt z =
    ap (λ t. c ++ 44 ∷ t)
    (append_assoc (o ++ (123 ∷ (s ++ c))) mt z ∙ append_assoc o (123 ∷ (s ++ c)) (mt ++ z)
    ∙ ap (λ t. o ++ 123 ∷ t) (append_assoc s c (mt ++ z)))
    ∙ sym (append_assoc c (44 ∷ (o ++ 123 ∷ [])) (s ++ (c ++ (mt ++ z)))
    ∙ ap (λ t. c ++ 44 ∷ t) (append_assoc o (123 ∷ []) (s ++ (c ++ (mt ++ z)))))

-- what is remaining of a child that was opened
left_child : (w : Show) (rows : List Line) (fs : List OpenElement) (f : OpenElement) (m : ℕ) (r c : Line)
    → slice_get rows f.rank ≡ Some r → slice_get rows m ≡ Some c
    → remaining w rows (fs ++ f ∷ []) m all_stops false
    ≡ script w c (kids_at w rows c m) all_stops false
    ++ (closing f.stop ++ (more_text (at_stop w r f.stop (voices w r.level (drop (m + 1) rows)))
    ++ (script w r (kids_at w rows r f.rank) (stops_behind f.stop) true ++ up w rows (λ m. []) fs f.rank)))
left_child w rows fs f m r c is there =
    ap (λ o. if_row o (λ c.
    script w c (kids_at w rows c m) all_stops false ++ up w rows (λ m. []) (fs ++ f ∷ []) m))
    there
    ∙ ap (λ t. script w c (kids_at w rows c m) all_stops false ++ t) (up_last w rows (λ m. []) fs f m
    ∙ ap (λ o. if_row o (λ r.
    closing f.stop ++ (more_text (at_stop w r f.stop (voices w r.level (drop (m + 1) rows)))
    ++ (script w r (kids_at w rows r f.rank) (stops_behind f.stop) true ++ up w rows (λ m. []) fs f.rank))))
    is)

pub go_in : (w : Show) (rows : List Line) (fs : List OpenElement) (f : OpenElement) (m : ℕ) (later : Bool) (r c : Line)
    → slice_get rows f.rank ≡ Some r → slice_get rows m ≡ Some c
    → at_stop w r f.stop (kids_at w rows r f.rank)
    ≡ (opening f.stop ++ (element_text w c (kids_at w rows c m) ++ closing f.stop))
    ∷ at_stop w r f.stop (voices w r.level (drop (m + 1) rows))
    → remaining w rows fs f.rank (f.stop ∷ stops_behind f.stop) later
    ≡ (fields_text later (part w r (Some f.stop))
    ++ (field_text (later_after later (part w r (Some f.stop))) (stop_name f.stop) (91 ∷ [])
    ++ (opening f.stop ++ 123 ∷ [])))
    ++ remaining w rows (fs ++ f ∷ []) m all_stops false
go_in w rows fs f m later r c is there first =
    let s : Stop = f.stop in
    let end : List ℕ = up w rows (λ m. []) fs f.rank in
    let rest : List (List ℕ) = at_stop w r s (voices w r.level (drop (m + 1) rows)) in
    ap (λ o. if_row o (λ r. script w r (kids_at w rows r f.rank) (s ∷ stops_behind s) later ++ end)) is
    ∙ ap (λ t. t ++ end)
    (entered w r (kids_at w rows r f.rank) s (stops_behind s) later
    (opening s ++ (element_text w c (kids_at w rows c m) ++ closing s)) rest first)
    ∙ group_in (fields_text later (part w r (Some s)))
    (field_text (later_after later (part w r (Some s))) (stop_name s) (91 ∷ [])) (opening s)
    (script w c (kids_at w rows c m) all_stops false) (closing s)
    (more_text rest) (script w r (kids_at w rows r f.rank) (stops_behind f.stop) true) end
    ∙ ap (λ t. (fields_text later (part w r (Some s))
    ++ (field_text (later_after later (part w r (Some s))) (stop_name s) (91 ∷ []) ++ (opening s ++ 123 ∷ [])))
    ++ t)
    (sym (left_child w rows fs f m r c is there))

pub go_next : (w : Show) (rows : List Line) (fs : List OpenElement) (f : OpenElement) (n m : ℕ) (r c : Line)
    → slice_get rows f.rank ≡ Some r → slice_get rows m ≡ Some c
    → at_stop w r f.stop (voices w r.level (drop (n + 1) rows))
    ≡ (opening f.stop ++ (element_text w c (kids_at w rows c m) ++ closing f.stop))
    ∷ at_stop w r f.stop (voices w r.level (drop (m + 1) rows))
    → up w rows (λ m. []) (fs ++ f ∷ []) n
    ≡ (closing f.stop ++ (44 ∷ (opening f.stop ++ 123 ∷ []))) ++ remaining w rows (fs ++ f ∷ []) m all_stops false
go_next w rows fs f n m r c is there first =
    let s : Stop = f.stop in
    let end : List ℕ =
    script w r (kids_at w rows r f.rank) (stops_behind f.stop) true ++ up w rows (λ m. []) fs f.rank in
    let rest : List (List ℕ) = at_stop w r s (voices w r.level (drop (m + 1) rows)) in
    up_last w rows (λ m. []) fs f n
    ∙ ap (λ o. if_row o (λ r. closing s ++ (more_text (at_stop w r s (voices w r.level (drop (n + 1) rows)))
    ++ (script w r (kids_at w rows r f.rank) (stops_behind f.stop) true ++ up w rows (λ m. []) fs f.rank))))
    is
    ∙ ap (λ ts. closing s ++ (more_text ts ++ end)) first
    ∙ group_next (closing s) (opening s) (script w c (kids_at w rows c m) all_stops false) (more_text rest) end
    ∙ ap (λ t. (closing s ++ (44 ∷ (opening s ++ 123 ∷ []))) ++ t) (sym (left_child w rows fs f m r c is there))

pub go_up : (w : Show) (rows : List Line) (fs : List OpenElement) (f : OpenElement) (n : ℕ) (r : Line)
    → slice_get rows f.rank ≡ Some r → at_stop w r f.stop (voices w r.level (drop (n + 1) rows)) ≡ []
    → up w rows (λ m. []) (fs ++ f ∷ []) n
    ≡ (closing f.stop ++ 93 ∷ []) ++ remaining w rows fs f.rank (stops_behind f.stop) true
go_up w rows fs f n r is none =
    let s : Stop = f.stop in
    let end : List ℕ =
    script w r (kids_at w rows r f.rank) (stops_behind f.stop) true ++ up w rows (λ m. []) fs f.rank in
    up_last w rows (λ m. []) fs f n
    ∙ ap (λ o. if_row o (λ r. closing s ++ (more_text (at_stop w r s (voices w r.level (drop (n + 1) rows)))
    ++ (script w r (kids_at w rows r f.rank) (stops_behind f.stop) true ++ up w rows (λ m. []) fs f.rank))))
    is
    ∙ ap (λ ts. closing s ++ (more_text ts ++ end)) none
    ∙ sym (append_assoc (closing s) (93 ∷ []) end)
    ∙ ap (λ t. (closing s ++ 93 ∷ []) ++ t) (sym
    (ap (λ o. if_row o (λ r.
    script w r (kids_at w rows r f.rank) (stops_behind f.stop) true ++ up w rows (λ m. []) fs f.rank))
    is))

pub go_lost : (w : Show) (rows : List Line) (items fs : List OpenElement) (f : OpenElement) (n : ℕ)
    → items ≡ fs ++ f ∷ [] → slice_get rows f.rank ≡ None → up w rows (λ m. []) items n ≡ []
go_lost w rows items fs f n is none =
    ap (λ xs. up w rows (λ m. []) xs n) is ∙ up_last w rows (λ m. []) fs f n
    ∙ ap (λ o. if_row o (λ r.
    closing f.stop ++ (more_text (at_stop w r f.stop (voices w r.level (drop (n + 1) rows)))
    ++ (script w r (kids_at w rows r f.rank) (stops_behind f.stop) true ++ up w rows (λ m. []) fs f.rank))))
    none

pub lost : (w : Show) (rows : List Line) (fs : List OpenElement) (n : ℕ) (ss : List Stop) (later : Bool)
    → slice_get rows n ≡ None → remaining w rows fs n ss later ≡ []
lost w rows fs n ss later none =
    ap (λ o. if_row o (λ r. script w r (kids_at w rows r n) ss later ++ up w rows (λ m. []) fs n)) none

-- the text of an element is a brace, and what is left where a walk over its rows begins
pub text_walked : (w : Show) (rows : List Line) (n : ℕ) (r : Line) → slice_get rows n ≡ Some r
    → text_at w rows n ≡ 123 ∷ remaining w rows [] n all_stops false
text_walked w rows n r is =
    let text : Line → List ℕ = λ r. script w r (kids_at w rows r n) all_stops false in
    text_here w rows n r is
    ∙ ap (λ t. 123 ∷ t) (sym (append-nil (text r)) ∙ sym (ap (λ o. if_row o (λ r. text r ++ [])) is))

pub record NoneThere (w : Show) (rows : List Line) (r : Line) (s : Stop) (a to : ℕ) : Type 0 where
  pub none : at_stop w r s (voices w r.level (drop a rows)) ≡ []
  pub below : AreBelow rows r.level a to

pub none_there : (w : Show) (rows : List Line) (r : Line) (s : Stop) (a to : ℕ)
    → IsFirst w rows r s a (sought.End to) → NoneThere w rows r s a to
unfolding IsFirst
none_there w rows r s a to h = record { none = h.0; below = h.1 }

pub record There (w : Show) (rows : List Line) (r : Line) (s : Stop) (a m : ℕ) : Type 0 where
  pub row : Line
  pub at : slice_get rows m ≡ Some row
  pub deep : row.level ≡ r.level + 1
  pub below : AreBelow rows r.level a m
  pub first : at_stop w r s (voices w r.level (drop a rows))
      ≡ (opening s ++ (element_text w row (kids_at w rows row m) ++ closing s))
      ∷ at_stop w r s (voices w r.level (drop (m + 1) rows))

pub some_there : (w : Show) (rows : List Line) (r : Line) (s : Stop) (a m : ℕ)
    → IsFirst w rows r s a (sought.Child m) → There w rows r s a m
unfolding IsFirst
some_there w rows r s a m h = record { row = h.0; at = h.1; deep = h.2; below = h.3; first = h.4 }

-- what was passed up to a rank behind the child of rank n of an open element
pub record Leaving (w : Show) (rows : List Line) (r : Line) (rank n after : ℕ) : Type 0 where
  pub same : voices w r.level (drop (n + 1) rows) ≡ voices w r.level (drop after rows)
  pub below : AreBelow rows r.level (rank + 1) after

pub left_at : (w : Show) (rows : List Line) (fs : List OpenElement) (f : OpenElement) (n after : ℕ) (r c : Line)
    → IsNested rows 0 (fs ++ f ∷ []) n → slice_get rows f.rank ≡ Some r → slice_get rows n ≡ Some c
    → AreBelow rows c.level (n + 1) after
    → Leaving w rows r f.rank n after
left_at w rows fs f n after r c nested is there passed =
    let here : (f.rank < n) × AreBelow rows r.level (f.rank + 1) (n + 1) = nested_below rows 0 fs f n r nested is in
    let deep : r.level < c.level = here.1.deep n c (omega (arith, here.0)) (omega arith) there in record {
      same = skipped w rows r.level c.level (n + 1) after deep passed;
      below =
          below_both rows r.level (f.rank + 1) (n + 1) after here.1
          (below_higher rows c.level r.level (n + 1) after passed (omega (arith, deep)));
    }

-- nothing is said of what was passed below an element of which no part was put
pub fresh : (rows : List Line) (k from to : ℕ) → is_begun (Some stop.Annotations) ≡ true → AreBelow rows k from to
fresh rows k from to begun = absurd (cc)

-- what was passed below the current element
pub passed_so : (rows : List Line) (r : Line) (n after at : ℕ) (next : Option Stop)
    → (is_begun next ≡ true → AreBelow rows r.level (n + 1) after)
    → at ≡ (if is_begun next then after else n + 1) → AreBelow rows r.level (n + 1) at
passed_so rows r n after at next passed is =
    subst (AreBelow rows r.level (n + 1)) (sym is) (by_begun (is_begun next) passed)
  where
    by_begun : (b : Bool)
        → (b ≡ true → AreBelow rows r.level (n + 1) after)
        → AreBelow rows r.level (n + 1) (if b then after else n + 1)
    by_begun true passed = passed refl
    by_begun false passed = below_none rows r.level (n + 1)

pub not_done : (b : Bool) (p x : List ℕ) → b ≡ false → p ++ x ≡ p ++ (if b then [] else x)
not_done true p x h = absurd (cc)
not_done false p x h = refl

pub is_going : (b : Bool) (x : List ℕ) → b ≡ false → (if b then [] else x) ≡ x
is_going true x h = absurd (cc)
is_going false x h = refl

-- there are six stops
few_left : (next : Option Stop) → stops_left next ≤ 6
few_left None = omega arith
few_left (Some stop.Annotations) = omega arith
few_left (Some stop.InoutputVariables) = omega arith
few_left (Some stop.InputVariables) = omega arith
few_left (Some stop.OutputVariables) = omega arith
few_left (Some stop.Statements) = omega arith
few_left (Some stop.Value) = omega arith

-- one less is left behind a stop
pub one_less : (old new : Option Stop) (s : Stop)
    → old ≡ Some s → stops_from new ≡ stops_behind s → stops_left new < stops_left old
one_less old new s is behind =
    let all : stops_left old ≡ length (s ∷ stops_behind s) = ap stops_left is in
    let left : stops_left new ≡ length (stops_behind s) = ap length behind in
    omega (arith, all, left)

-- where no part was put all stops are left
pub not_begun : (next : Option Stop) → is_begun next ≡ false → stops_from next ≡ all_stops
not_begun None fresh = absurd (cc)
not_begun (Some stop.Annotations) fresh = refl
not_begun (Some s) fresh = absurd (cc)

pub less_by : (whole piece rest : List ℕ) (new old : Option Stop) → whole ≡ piece ++ rest → 1 ≤ length piece
    → 8 * length rest + stops_left new < 8 * length whole + stops_left old
less_by whole piece rest new old is some =
    let long : length whole ≡ length piece + length rest = ap length is ∙ length-append piece rest in
    omega (arith, long, some, few_left new)

pub less_part : (whole piece rest : List ℕ) (i j : ℕ)
    → whole ≡ piece ++ rest → i < j → 8 * length rest + i < 8 * length whole + j
less_part whole piece rest i j is low =
    let long : length whole ≡ length piece + length rest = ap length is ∙ length-append piece rest in
    omega (arith, long, low)

pub some_last : (a b : List ℕ) (x : ℕ) → 1 ≤ length ((a ++ x ∷ []) ++ b)
some_last a b x =
    let e : length ((a ++ x ∷ []) ++ b) ≡ (length a + 1) + length b =
    length-append (a ++ x ∷ []) b ∙ ap (λ n. n + length b) (length-append a (x ∷ [])) in
    omega (arith, e)

pub some_open : (a b o : List ℕ) (x : ℕ) → 1 ≤ length (a ++ (b ++ (o ++ x ∷ [])))
some_open a b o x =
    let e : length (a ++ (b ++ (o ++ x ∷ []))) ≡ length a + (length b + (length o + 1)) =
    length-append a (b ++ (o ++ x ∷ []))
    ∙ ap (λ n. length a + n) (length-append b (o ++ x ∷ []) ∙ ap (λ n. length b + n) (length-append o (x ∷ []))) in
    omega (arith, e)

-- ---- the whole walk

-- what was poured, and what is left
pub record Underway {K : Type 0} (w : Show) (rows : List Line) (whole : List ℕ)
    (walk : Walk) (so_far state : Pouring) (told now : Told K) : Type 0 where
  pub poured : List ℕ
  pub parts : whole ≡ poured ++ walk_left w rows walk
  pub adds : Adds so_far state told now poured
  pub kept : walk.done ≡ false → IsWalk rows walk

pub stepped : {K : Type 0} (w : Show) (rows : List Line) (whole : List ℕ)
    (old new : Walk) (so_far state after : Pouring) (told mid now : Told K)
    → Underway w rows whole old so_far state told mid → Poured w rows (walk_left w rows old) new state after mid now
    → Underway w rows whole new so_far after told now
stepped w rows whole old new so_far state after told mid now h p = record {
  poured = h.poured ++ p.piece;
  parts = h.parts ∙ ap (λ t. h.poured ++ t) p.parts ∙ sym (append_assoc h.poured p.piece (walk_left w rows new));
  adds = adds_both so_far state after told mid now h.poured p.piece h.adds p.adds;
  kept = p.kept;
}

falls_by : (done : Bool) (m n : ℕ) → (done ≡ false → m < n) → (if done then 0 else suc m) < suc n
falls_by true m n h = omega arith
falls_by false m n h = omega (arith, h refl)

pub falls : (w : Show) (rows : List Line) (old new : Walk)
    → old.done ≡ false → (new.done ≡ false → work w rows new < work w rows old) → turns w rows new < turns w rows old
falls w rows old new going less =
    subst (λ n. turns w rows new < n) (sym (cond-false old.done 0 (suc (work w rows old)) going))
    (falls_by new.done (work w rows new) (work w rows old) less)
