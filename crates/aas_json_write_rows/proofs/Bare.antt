-- Elements below which nothing is shown.
use Rattle.std.proofs.Common.{◌≡◌, ℕ, ◌+◌, ◌≤◌, ◌||◌, ◌&&◌, Bool, true, false, nat_lt, List, [], ◌∷◌, ◌++◌, Some, None}
use Rattle.std.proofs.Common.{length, length-append, refl, sym, ap, ◌∙◌, append_assoc, arith}
use Rattle.std.proofs.lemmas.Bool.{ltb-false, not-true}
use Rattle.aas_model.specs.declared.payload.Payload.{Payload}
use Rattle.aas_out.specs.Adds.{Adds}
use Rattle.aas_out.specs.Told.{Told}
use Rattle.aas_out.specs.declared.pouring.Pouring.{Pouring}
use Rattle.aas_out.proofs.Adding.{adds_both, adds_nothing, adds_same}
use Rattle.aas_rows.specs.Rows.{Line}
use Rattle.aas_json_write_members.specs.Members.{all_stops, fields_text, has_stop, later_after, part, stop_name}
use Rattle.aas_json_write_members.specs.Script.{Spoken, at_stop, is_any, listed_text, script}
use Rattle.aas_json_write_members.specs.declared.members.Pen.{Pen}
use Rattle.aas_json_write_members.specs.declared.members.Show.{Show}
use Rattle.aas_json_write_members.specs.declared.stops.Stop.{Stop}
use Rattle.aas_json_write_members.specs.declared.stops.Stop.TheVariants as stop
use Rattle.aas_json_write_rows.specs.Walk.{has_stops, is_childless}
use Rattle.aas_json_write_rows.proofs.Going.{passed}
use Rattle.aas_json_write_rows.proofs.Looking.{cut_shown, unstopped_shown}

-- ---- where nothing is shown

no_stops : (p : Payload) → has_stops p ≡ false → (s : Stop) → has_stop s p ≡ false
no_stops p none stop.Annotations = grind (arith, none)
no_stops p none s = grind (arith, none)

pub childless_shown : (w : Show) (r : Line)
    → is_childless w r ≡ true → (s : Stop) (vs : List Spoken) → at_stop w r s vs ≡ []
childless_shown w r is s vs = by (nat_lt r.level w.cut) refl (not-true (nat_lt r.level w.cut && has_stops r.payload) is)
  where
    by : (b : Bool) → nat_lt r.level w.cut ≡ b → (b && has_stops r.payload) ≡ false → at_stop w r s vs ≡ []
    by false cut none = cut_shown w r s vs (ltb-false r.level w.cut cut)
    by true cut none = unstopped_shown w r s vs (no_stops r.payload none s)

-- ---- what is put

-- Some parts were put, and those from next on are left.
pub record Begun {K : Type 0} (w : Show) (r : Line) (first : Bool) (ss : List Stop)
    (later : Bool) (so_far state : Pouring) (told now : Told K) : Type 0 where
  pub put : List ℕ
  pub parts : (vs : List Spoken) → script w r vs all_stops first ≡ put ++ script w r vs ss later
  pub adds : Adds so_far state told now put

pub begun_first : {K : Type 0} (w : Show) (r : Line) (first : Bool) (so_far : Pouring) (told : Told K)
    → Begun w r first all_stops first so_far so_far told told
begun_first w r first so_far told = record { put = []; parts = λ vs. refl; adds = adds_nothing so_far told }

-- one part more
pub begun_more : {K : Type 0} {w : Show} {r : Line} {first later : Bool} {so_far state : Pouring} {told mid : Told K}
    {s : Stop} {ss : List Stop} → (pen : Pen) (now : Told K) → is_childless w r ≡ true
    → Begun w r first (s ∷ ss) later so_far state told mid
    → Adds state pen.state mid now (fields_text later (part w r (Some s)))
    → pen.later ≡ later_after later (part w r (Some s))
    → Begun w r first ss pen.later so_far pen.state told now
begun_more {w = w} {r = r} {later = later} {so_far = so_far} {state = state} {told = told} {mid = mid} {s = s} {ss = ss}
    pen now is h adds left =
    let fields : List ℕ = fields_text later (part w r (Some s)) in
    let on : (vs : List Spoken) → script w r vs (s ∷ ss) later ≡ fields ++ script w r vs ss pen.later =
    λ vs.
    passed w r vs s ss later (childless_shown w r is s vs) ∙ ap (λ b. fields ++ script w r vs ss b) (sym left) in
    record {
      put = h.put ++ fields;
      parts = λ vs.
          h.parts vs ∙ ap (λ t. h.put ++ t) (on vs) ∙ sym (append_assoc h.put fields (script w r vs ss pen.later));
      adds = adds_both so_far state pen.state told mid now h.put fields h.adds adds;
    }

-- the last part, and the brace
pub begun_last : {K : Type 0} {w : Show} {r : Line} {first later : Bool} {so_far state : Pouring} {told mid : Told K}
    → (last after : Pouring) (end now : Told K) (vs : List Spoken) → Begun w r first [] later so_far state told mid
    → Adds state last mid end (fields_text later (part w r None)) → Adds last after end now (125 ∷ [])
    → Adds so_far after told now (script w r vs all_stops first)
begun_last {w = w} {r = r} {later = later} {so_far = so_far} {state = state} {told = told} {mid = mid}
    last after end now vs h put brace =
    let text : List ℕ = fields_text later (part w r None) in
    let both = adds_both state last after mid end now text (125 ∷ []) put brace in
    adds_same so_far after told now _ _ (adds_both so_far state after told mid now h.put (text ++ 125 ∷ []) h.adds both)
    (sym (h.parts vs))

-- ---- how long it is

long_back : (a b : List ℕ) → 1 ≤ length b → 1 ≤ length (a ++ b)
long_back a b some = let e : length (a ++ b) ≡ length a + length b = length-append a b in omega (arith, e, some)

pub long_front : (a b : List ℕ) → 1 ≤ length a → 1 ≤ length (a ++ b)
long_front a b some = let e : length (a ++ b) ≡ length a + length b = length-append a b in omega (arith, e, some)

pub script_some : (w : Show) (r : Line) (vs : List Spoken) (ss : List Stop) (later : Bool)
    → 1 ≤ length (script w r vs ss later)
script_some w r vs [] later =
    let e : length (fields_text later (part w r None) ++ 125 ∷ []) ≡ length (fields_text later (part w r None)) + 1 =
    length-append (fields_text later (part w r None)) (125 ∷ []) in
    omega (arith, e)
script_some w r vs (s ∷ ss) later =
    let now : Bool = later_after later (part w r (Some s)) in
    let ts : List (List ℕ) = at_stop w r s vs in
    long_back (fields_text later (part w r (Some s))) _
    (long_back (listed_text now (stop_name s) ts)
    (script w r vs ss (now || is_any ts)) (script_some w r vs ss (now || is_any ts)))
