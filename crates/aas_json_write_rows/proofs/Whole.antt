-- Elements in memory, of which all is put.
use Rattle.std.proofs.Common.{◌≡◌, ℕ, ◌+◌, ◌<◌, ◌≤◌, ◌&&◌, ◌||◌, nat_lt, Bool, true, false, List, [], ◌∷◌, ◌++◌}
use Rattle.std.proofs.Common.{length, get_or, drop, map, filter, cond, if◌then◌else◌, codes, Some, None, option_map}
use Rattle.std.proofs.Common.{refl, sym, ap, ◌∙◌, subst, append_assoc}
use Rattle.std.proofs.Math.Bool.{or-false, or-true}
use Rattle.std.proofs.lemmas.List.{append-nil, at_drop_more, at_drop_all}
use Rattle.json.specs.Print.{quoted}
use Rattle.serde_json.specs.Written.{comma_if, compact_text}
use Rattle.aas_json_table.specs.Spelled.{list_of}
use Rattle.aas_json_mapping.specs.Elements.{spell_element, spelled_child}
use Rattle.aas_json_mapping.proofs.Elements.{child_role, made_out, spell_at}
use Rattle.aas_model.specs.declared.element.Element.{Element, out-Element}
use Rattle.aas_out.specs.Told.{Told}
use Rattle.aas_out.specs.declared.pouring.Pouring.{Pouring}
use Rattle.aas_out.specs.Adds.{Adds}
use Rattle.aas_out.proofs.Adding.{adds_both, adds_same}
use Rattle.aas_rows.specs.Rows.{Line, line_at}
use Rattle.aas_json_write_members.specs.Members.{opening, closing, role_fits, has_stop, field_text, fields_text}
use Rattle.aas_json_write_members.specs.Members.{later_after, all_stops, part, stop_name}
use Rattle.aas_json_write_members.specs.Script.{Spoken, at_stop, element_text, is_any, listed_text, more_text, script}
use Rattle.aas_json_write_members.specs.Texts.{said}
use Rattle.aas_json_write_members.specs.Puts.{PutsFields}
use Rattle.aas_json_write_members.specs.declared.members.Pen.{Pen}
use Rattle.aas_json_write_members.specs.declared.stops.Stop.{Stop}
use Rattle.aas_json_write_members.proofs.Level as level
use Rattle.aas_json_write_members.proofs.Putting.{Front, front_more, front_none, front_rest}
use Rattle.aas_json_write_members.proofs.Children.{array_of, array_text, none_kept}
use Rattle.aas_json_write_rows.specs.Trees.{all_shown, child_text, texts_at}

-- ---- the children as they are said

abbrev pub kids_said : List Element → List Spoken
kids_said es = map said (map spelled_child es)

-- What is put of an element is its canonical text.
tree_text : (e : Element)
    → element_text all_shown (line_at 0 e) (kids_said (out-Element e).kids) ≡ compact_text (spell_element e)
tree_text e =
    let y = out-Element e in
    level.canonical all_shown (line_at 0 e) (map spelled_child y.kids)
    ∙ ap compact_text (sym (spell_at y.role y.common y.payload y.kids))
    ∙ ap (λ x. compact_text (spell_element x)) (made_out e)

abbrev said_at : Bool → Bool → Stop → List Spoken → List (List ℕ)
said_at shown has stop vs =
    map (λ v. opening stop ++ (v.text ++ closing stop)) (filter (λ v. shown && (has && role_fits stop v.role)) vs)

all_said : (stop : Stop) (es : List Element) → said_at true true stop (kids_said es) ≡ texts_at stop es
all_said stop [] = refl
all_said stop (e ∷ es) =
    ap (λ r. map (λ v. opening stop ++ (v.text ++ closing stop))
    (cond (role_fits stop r) (said (spelled_child e) ∷ filter (λ v. role_fits stop v.role) (kids_said es))
    (filter (λ v. role_fits stop v.role) (kids_said es))))
    (child_role e)
    ∙ by_role (role_fits stop (out-Element e).role) (all_said stop es)
  where
    by_role : (b : Bool) → said_at true true stop (kids_said es) ≡ texts_at stop es
        → map (λ v. opening stop ++ (v.text ++ closing stop))
        (cond b (said (spelled_child e) ∷ filter (λ v. role_fits stop v.role) (kids_said es))
        (filter (λ v. role_fits stop v.role) (kids_said es)))
        ≡ map (child_text stop)
        (cond b (e ∷ filter (λ k. role_fits stop (out-Element k).role) es)
        (filter (λ k. role_fits stop (out-Element k).role) es))
    by_role true rest = ap (λ ts. child_text stop e ∷ ts) rest
    by_role false rest = rest

-- the children at a stop
stop_texts : (r : Line) (es : List Element) (stop : Stop)
    → r.level ≡ 0 → at_stop all_shown r stop (kids_said es) ≡ (if has_stop stop r.payload then texts_at stop es else [])
stop_texts r es stop high =
    ap (λ l. said_at (nat_lt l 1) (has_stop stop r.payload) stop (kids_said es)) high
    ∙ by_kind (has_stop stop r.payload)
  where
    by_kind : (b : Bool) → said_at true b stop (kids_said es) ≡ (if b then texts_at stop es else [])
    by_kind true = all_said stop es
    by_kind false = ap (map (λ v. opening stop ++ (v.text ++ closing stop))) (none_kept (kids_said es))

-- ---- the children at a stop, one after another

-- what is left to put of them, where any stand before
abbrev pub left_at : Bool → Stop → Bool → List (List ℕ) → List ℕ
left_at later stop any ts = if any then more_text ts else listed_text later (stop_name stop) ts

-- what stands before the next one
abbrev pub before_text : Bool → Stop → Bool → List ℕ
before_text later stop any = if any then 44 ∷ [] else field_text later (stop_name stop) (91 ∷ [])

next_left : (later : Bool) (stop : Stop) (any : Bool) (t : List ℕ) (ts : List (List ℕ))
    → left_at later stop any (t ∷ ts) ≡ (before_text later stop any ++ t) ++ left_at later stop true ts
next_left later stop true t ts = refl
next_left later stop false t ts = sym (append_assoc (field_text later (stop_name stop) (91 ∷ [])) t (more_text ts))

fits_here : (b : Bool) (stop : Stop) (e : Element) (es : List Element)
    → b ≡ true → map (child_text stop) (cond b (e ∷ es) es) ≡ child_text stop e ∷ map (child_text stop) es
fits_here true stop e es is = refl
fits_here false stop e es is = absurd (cc)

not_here : (b : Bool) (stop : Stop) (e : Element) (es : List Element)
    → b ≡ false → map (child_text stop) (cond b (e ∷ es) es) ≡ map (child_text stop) es
not_here true stop e es is = absurd (cc)
not_here false stop e es is = refl

-- a child that stands at the stop, and one that doesn't
this_one : (stop : Stop) (es : List Element) (i : ℕ) (e : Element) → i < length es → e ≡ get_or es i e
    → role_fits stop (out-Element e).role ≡ true
    → texts_at stop (drop i es) ≡ child_text stop e ∷ texts_at stop (drop (i + 1) es)
this_one stop es i e below is fits =
    at_drop_more (texts_at stop) es i e below ∙ ap (λ x. texts_at stop (x ∷ drop (i + 1) es)) (sym is)
    ∙ fits_here (role_fits stop (out-Element e).role) stop e
    (filter (λ k. role_fits stop (out-Element k).role) (drop (i + 1) es)) fits

not_this_one : (stop : Stop) (es : List Element) (i : ℕ) (e : Element) → i < length es → e ≡ get_or es i e
    → role_fits stop (out-Element e).role ≡ false → texts_at stop (drop i es) ≡ texts_at stop (drop (i + 1) es)
not_this_one stop es i e below is fits =
    at_drop_more (texts_at stop) es i e below ∙ ap (λ x. texts_at stop (x ∷ drop (i + 1) es)) (sym is)
    ∙ not_here (role_fits stop (out-Element e).role) stop e
    (filter (λ k. role_fits stop (out-Element k).role) (drop (i + 1) es)) fits

-- ---- the children at a stop, put so far

-- those before a place were put
pub record Kids {K : Type 0} (s r : Pouring) (a b : Told K) (later : Bool)
    (stop : Stop) (es : List Element) (any : Bool) (i : ℕ) : Type 0 where
  pub front : Front s r a b (listed_text later (stop_name stop) (texts_at stop es))
      (left_at later stop any (texts_at stop (drop i es)))
  pub some : is_any (texts_at stop es) ≡ (any || is_any (texts_at stop (drop i es)))

pub kids_start : {K : Type 0} (s : Pouring) (a : Told K) (later : Bool) (stop : Stop) (es : List Element)
    → Kids s s a a later stop es false 0
kids_start s a later stop es =
    record { front = front_none s a (listed_text later (stop_name stop) (texts_at stop es)); some = refl }

any_true : (any : Bool) (t : List ℕ) (ts : List (List ℕ)) → (any || is_any (t ∷ ts)) ≡ (true || is_any ts)
any_true true t ts = refl
any_true false t ts = refl

pub kids_more : {K : Type 0} {s m : Pouring} {a b : Told K} {later any : Bool}
    {stop : Stop} {i : ℕ} {es : List Element} (r z : Pouring) (c d : Told K) (e : Element)
    → Kids s m a b later stop es any i → i < length es → e ≡ get_or es i e
    → role_fits stop (out-Element e).role ≡ true → Adds m r b c (before_text later stop any)
    → Adds r z c d (child_text stop e) → Kids s z a d later stop es true (i + 1)
kids_more {m = m} {b = b} {later = later} {any = any} {stop = stop} {i = i} {es = es}
    r z c d e h below is fits before child =
    let ts = texts_at stop (drop (i + 1) es) in
    let here = this_one stop es i e below is fits in record {
      front =
          front_more z d (before_text later stop any ++ child_text stop e) (left_at later stop true ts) h.front
          (adds_both m r z b c d (before_text later stop any) (child_text stop e) before child)
          (ap (left_at later stop any) here ∙ next_left later stop any (child_text stop e) ts);
      some = h.some ∙ ap (λ us. any || is_any us) here ∙ any_true any (child_text stop e) ts;
    }

pub kids_past : {K : Type 0} {s m : Pouring} {a b : Told K}
    {later any : Bool} {stop : Stop} {i : ℕ} {es : List Element} (e : Element)
    → Kids s m a b later stop es any i → i < length es → e ≡ get_or es i e
    → role_fits stop (out-Element e).role ≡ false → Kids s m a b later stop es any (i + 1)
kids_past {s = s} {m = m} {a = a} {b = b} {later = later} {any = any} {stop = stop} {i = i} {es = es}
    e h below is fits =
    let past = not_this_one stop es i e below is fits in record {
      front =
          subst (λ ts.
          Front s m a b (listed_text later (stop_name stop) (texts_at stop es)) (left_at later stop any ts))
          past h.front;
      some = h.some ∙ ap (λ ts. any || is_any ts) past;
    }

-- the same, said in another way
pub kids_as : {K : Type 0} {s r : Pouring} {a b : Told K} {later any : Bool}
    {stop : Stop} {i : ℕ} {es : List Element} (q : Pouring) (c : Told K) (some : Bool)
    → q ≡ r → c ≡ b → some ≡ any → Kids s r a b later stop es any i → Kids s q a c later stop es some i
kids_as {s = s} {a = a} {b = b} {later = later} {any = any} {stop = stop} {i = i} {es = es} q c some state told is h =
    subst (λ x. Kids s q a c later stop es x i) (sym is)
    (subst (λ x. Kids s q a x later stop es any i) (sym told)
    (subst (λ x. Kids s x a b later stop es any i) (sym state) h))

-- all were put, and the bracket behind them, where there are any
pub kids_all : {K : Type 0} {s m : Pouring} {a b : Told K}
    {later any : Bool} {stop : Stop} {i : ℕ} {es : List Element} (r : Pouring) (c : Told K)
    → Kids s m a b later stop es any i → length es ≤ i → any ≡ true → Adds m r b c (93 ∷ [])
    → Adds s r a c (listed_text later (stop_name stop) (texts_at stop es))
kids_all {m = m} {b = b} {later = later} {any = any} {stop = stop} {i = i} {es = es} r c h over is bracket =
    front_rest r c h.front
    (adds_same m r b c _ _ bracket
    (sym (at_drop_all (λ xs. left_at later stop any (texts_at stop xs)) es i over
    ∙ ap (λ x. left_at later stop x []) is)))

-- ---- the parts and stops, put so far

abbrev pub stop_kids : Line → List Element → Stop → List (List ℕ)
stop_kids r es stop = if has_stop stop r.payload then texts_at stop es else []

-- the part before a stop, and the children there
abbrev pub to_stop : Line → List Element → Stop → Bool → List ℕ
to_stop r es stop later =
    fields_text later (part all_shown r (Some stop))
    ++ listed_text (later_after later (part all_shown r (Some stop))) (stop_name stop) (stop_kids r es stop)

abbrev pub later_behind : Line → List Element → Stop → Bool → Bool
later_behind r es stop later = later_after later (part all_shown r (Some stop)) || is_any (stop_kids r es stop)

script_at : (r : Line) (es : List Element) (stop : Stop) (ss : List Stop) (later : Bool) → r.level ≡ 0
    → script all_shown r (kids_said es) (stop ∷ ss) later
    ≡ to_stop r es stop later ++ script all_shown r (kids_said es) ss (later_behind r es stop later)
script_at r es stop ss later high =
    let now = later_after later (part all_shown r (Some stop)) in
    ap (λ ts. fields_text later (part all_shown r (Some stop))
    ++ (listed_text now (stop_name stop) ts ++ script all_shown r (kids_said es) ss (now || is_any ts)))
    (stop_texts r es stop high)
    ∙ sym (append_assoc (fields_text later (part all_shown r (Some stop)))
    (listed_text now (stop_name stop) (stop_kids r es stop))
    (script all_shown r (kids_said es) ss (later_behind r es stop later)))

-- all before these last stops was put
pub record Parts {K : Type 0} (s r : Pouring) (a b : Told K)
    (line : Line) (es : List Element) (ss : List Stop) (later : Bool) : Type 0 where
  pub front : Front s r a b (element_text all_shown line (kids_said es))
      (script all_shown line (kids_said es) ss later)

pub parts_start : {K : Type 0} (s r : Pouring) (a b : Told K) (line : Line) (es : List Element)
    → Adds s r a b (123 ∷ []) → Parts s r a b line es all_stops false
parts_start s r a b line es h = record {
  front =
      front_more r b (123 ∷ []) (script all_shown line (kids_said es) all_stops false)
      (front_none s a (element_text all_shown line (kids_said es))) h refl;
}

pub parts_more : {K : Type 0} {s m : Pouring} {a b : Told K} {line : Line}
    {es : List Element} {ss : List Stop} {later : Bool} (r : Pouring) (c : Told K) (stop : Stop) (behind : List Stop)
    (now : Bool) → Parts s m a b line es ss later → line.level ≡ 0 → ss ≡ stop ∷ behind
    → Adds m r b c (to_stop line es stop later) → now ≡ later_behind line es stop later
    → Parts s r a c line es behind now
parts_more {line = line} {es = es} {later = later} r c stop behind now h high is put after = record {
  front =
      front_more r c (to_stop line es stop later) (script all_shown line (kids_said es) behind now) h.front put
      (ap (λ ss. script all_shown line (kids_said es) ss later) is
      ∙ script_at line es stop behind later high
      ∙ ap (λ b. to_stop line es stop later ++ script all_shown line (kids_said es) behind b) (sym after));
}

-- the last part was put, and the brace
pub parts_end : {K : Type 0} {s m : Pouring} {a b : Told K} {line : Line}
    {ss : List Stop} {later : Bool} (e : Element) (r z : Pouring) (c d : Told K)
    → Parts s m a b line (out-Element e).kids ss later → line ≡ line_at 0 e → ss ≡ []
    → Adds m r b c (fields_text later (part all_shown line None)) → Adds r z c d (125 ∷ [])
    → Adds s z a d (compact_text (spell_element e))
parts_end {s = s} {m = m} {a = a} {b = b} {line = line} {later = later} e r z c d h is last put brace =
    let vs = kids_said (out-Element e).kids in
    adds_same s z a d _ _
    (front_rest z d h.front
    (adds_same m z b d _ _ (adds_both m r z b c d (fields_text later (part all_shown line None)) (125 ∷ []) put brace)
    (ap (λ ss. script all_shown line vs ss later) (sym last))))
    (ap (λ l. element_text all_shown l vs) is ∙ tree_text e)

-- ---- submodels

-- an array that stands as a member
listed_field : (later : Bool) (n : List ℕ) (ts : List (List ℕ))
    → fields_text later ((n, array_of ts) ∷ []) ≡ listed_text later n ts
listed_field later n [] = refl
listed_field later n (t ∷ ts) =
    append-nil (field_text later n (91 ∷ (t ++ more_text ts)))
    ∙ sym (append_assoc (comma_if later) (quoted n ++ 58 ∷ 91 ∷ []) (t ++ more_text ts)
    ∙ ap (λ x. comma_if later ++ x) (append_assoc (quoted n) (58 ∷ 91 ∷ []) (t ++ more_text ts)))

later_listed : (later : Bool) (n : List ℕ) (ts : List (List ℕ))
    → later_after later ((n, array_of ts) ∷ []) ≡ (later || is_any ts)
later_listed later n [] = sym (or-false later)
later_listed later n (t ∷ ts) = sym (or-true later)

texts_of : (es : List Element) → map compact_text (map spell_element es) ≡ map (λ e. compact_text (spell_element e)) es
texts_of [] = refl
texts_of (e ∷ es) = ap (λ ts. compact_text (spell_element e) ∷ ts) (texts_of es)

-- the elements of a submodel as a member
elements_field : (es : List Element)
    → option_map compact_text (list_of spell_element es) ≡ array_of (map (λ e. compact_text (spell_element e)) es)
elements_field es = array_text (map spell_element es) ∙ ap array_of (texts_of es)

pub elements_put : {K : Type 0} {p q : Pen} {a b : Told K} (es : List Element)
    → PutsFields p q a b ((codes "submodelElements", option_map compact_text (list_of spell_element es)) ∷ [])
    → Adds p.state q.state a b
    (listed_text p.later (codes "submodelElements") (map (λ e. compact_text (spell_element e)) es))
    × (q.later ≡ (p.later || is_any (map (λ e. compact_text (spell_element e)) es)))
elements_put {p = p} {q = q} {a = a} {b = b} es h =
    let ts = map (λ e. compact_text (spell_element e)) es in
    let name = codes "submodelElements" in (
      adds_same p.state q.state a b _ _ h.text
          (ap (λ o. fields_text p.later ((name, o) ∷ [])) (elements_field es) ∙ listed_field p.later name ts),
      h.later ∙ ap (λ o. later_after p.later ((name, o) ∷ [])) (elements_field es) ∙ later_listed p.later name ts,
    )
