-- The children of a submodel, one after another among its rows.
use Rattle.std.proofs.Common.{◌≡◌, ◌==◌, inl, inr, ℕ, zero, suc, ◌+◌, ◌≤◌, Bool, true, false, nat_lt, List, [], ◌∷◌}
use Rattle.std.proofs.Common.{length, take, drop, slice_get, Option, Some, None, option_map, Ok, refl, sym, ap, ◌∙◌}
use Rattle.std.proofs.Common.{arith, if◌then◌else◌}
use Rattle.std.specs.Option.{option_map_or}
use Rattle.std.proofs.Math.Numerals.{add-one}
use Rattle.std.proofs.lemmas.Bool.Decides.{Decides-eqb}
use Rattle.std.proofs.lemmas.List.{length-drop, take_all}
use Rattle.std.proofs.lemmas.Option.{slice_get_cases}
use Rattle.serde_json.specs.Written.{comma_if}
use Rattle.aas_form.specs.ReferenceTo.{child_reference}
use Rattle.aas_model.specs.declared.documents.Submodel.{Submodel}
use Rattle.aas_model.specs.declared.element.Element.{Element}
use Rattle.aas_model_names.specs.declared.modifiers.Extent.{Extent}
use Rattle.aas_model_names.specs.declared.modifiers.Level.{Level}
use Rattle.aas_out.specs.Adds.{Adds}
use Rattle.aas_out.specs.Told.{Told}
use Rattle.aas_out.specs.declared.pouring.Pouring.{Pouring}
use Rattle.aas_out.proofs.Adding.{adds_nothing, adds_same}
use Rattle.aas_page.specs.declared.filter.Span.{Span}
use Rattle.aas_json_write_rows.specs.Poured.{AreLow, HasRow, text_at}
use Rattle.aas_json_write_rows.proofs.Looking.{past_end, row_there}
use Rattle.aas_rows.specs.Children.{is_at, nth_where}
use Rattle.aas_rows.specs.Edits.{count}
use Rattle.aas_rows.specs.Rows.{Line, line_at, rows_of_all}
use Rattle.aas_rows.proofs.Edited.{child_rows, count_at}
use Rattle.aas_rows.proofs.Stepping.{at_only, map_same, map_twice}
use Rattle.aas_rows.proofs.Ranked.{StandsAt}
use Rattle.aas_rows.proofs.Trees.{begins_all}
use Rattle.aas_store.specs.Documents.{without_children}
use Rattle.aas_store.proofs.InPlace.{rank_in_place}
use Rattle.aas_answer.specs.Answers.{Answer, element_shown, places_page, reference_text}
use Rattle.aas_answer.specs.Children.{IsChildAt, child_from}
use Rattle.aas_answer.specs.Listed.{child_text}
use Rattle.aas_json_write_rows.specs.Shown.{show_at}
use Rattle.aas_answer.specs.declared.forms.ChildForm.{ChildForm}
use Rattle.aas_answer.specs.declared.forms.ChildForm.TheVariants as child
use Rattle.aas_answer.proofs.Entries.{entry_added}
use Rattle.aas_answer.proofs.Pages.{entry_behind, joined}
use Rattle.aas_answer.proofs.Ranked.{line_ranked, text_shown}

-- ---- the n-th that passes

one_less : (o : Option ℕ) (i : ℕ) → option_map (λ i. i + 1) o ≡ Some i → (j : ℕ) × (o ≡ Some j) × (i ≡ suc j)
one_less None i e = absurd (cc)
one_less (Some j) i e = let same : j + 1 ≡ i = cc in (j, refl, omega (arith, same))

abbrev Passes : {X : Type 0} → (X → Bool) → List X → ℕ → Type 0
Passes {X} p xs i = (x : X) × (slice_get xs i ≡ Some x) × (p x ≡ true)

passes_later : {X : Type 0} (p : X → Bool) (x : X) (xs : List X) (o : Option ℕ) (i : ℕ)
    → ((j : ℕ) → o ≡ Some j → Passes p xs j) → option_map (λ i. i + 1) o ≡ Some i → Passes p (x ∷ xs) i
passes_later p x xs o i ih e =
    let j = one_less o i e in
    let there = ih j.0 j.1 in
    (there.0, ap (slice_get (x ∷ xs)) j.2 ∙ there.1, there.2)

pub nth_passes : {X : Type 0} (p : X → Bool) (n : ℕ) (xs : List X) (i : ℕ) → nth_where p n xs ≡ Some i → Passes p xs i
nth_passes p n [] i e = absurd (cc)
nth_passes p zero (x ∷ xs) i e = by (p x) refl (λ j h. nth_passes p zero xs j h)
  where
    by : (b : Bool) → p x ≡ b → ((j : ℕ) → nth_where p zero xs ≡ Some j → Passes p xs j) → Passes p (x ∷ xs) i
    by true t ih =
        let same : Some 0 ≡ Some i =
        sym (ap (λ b. if b then Some 0 else option_map (λ i. i + 1) (nth_where p zero xs)) t) ∙ e in
        let here : 0 ≡ i = cc in
        (x, ap (slice_get (x ∷ xs)) (sym here), t)
    by false f ih =
        passes_later p x xs (nth_where p zero xs) i ih
        (sym (ap (λ b. if b then Some 0 else option_map (λ i. i + 1) (nth_where p zero xs)) f) ∙ e)
nth_passes p (suc n) (x ∷ xs) i e = by (p x) refl (λ j h. nth_passes p n xs j h) (λ j h. nth_passes p (suc n) xs j h)
  where
    by : (b : Bool) → p x ≡ b → ((j : ℕ) → nth_where p n xs ≡ Some j → Passes p xs j)
        → ((j : ℕ) → nth_where p (suc n) xs ≡ Some j → Passes p xs j) → Passes p (x ∷ xs) i
    by true t ih more =
        passes_later p x xs (nth_where p n xs) i ih
        (sym (ap (λ b. option_map (λ i. i + 1) (if b then nth_where p n xs else nth_where p (suc n) xs)) t) ∙ e)
    by false f ih more =
        passes_later p x xs (nth_where p (suc n) xs) i more
        (sym (ap (λ b. option_map (λ i. i + 1) (if b then nth_where p n xs else nth_where p (suc n) xs)) f) ∙ e)

-- what stands behind one place, from the next on
behind_by : {X : Type 0} (p : X → Bool) (xs : List X) (o : Option ℕ) (i j : ℕ)
    → i ≡ suc j → o ≡ option_map (λ k. suc j + k) (nth_where p 0 (drop (suc j) xs))
    → option_map (λ i. i + 1) o ≡ option_map (λ k. suc i + k) (nth_where p 0 (drop i xs))
behind_by p xs o i j is next =
    ap (option_map (λ i. i + 1)) next ∙ map_twice (λ i. i + 1) (λ k. suc j + k) (nth_where p 0 (drop (suc j) xs))
    ∙ map_same (λ k. suc j + k + 1) (λ k. suc (suc j) + k) (nth_where p 0 (drop (suc j) xs)) (λ k. omega arith)
    ∙ ap (λ i. option_map (λ k. suc i + k) (nth_where p 0 (drop i xs))) (sym is)

abbrev Next : {X : Type 0} → (X → Bool) → ℕ → List X → ℕ → Type 0
Next p n xs i = nth_where p (suc n) xs ≡ option_map (λ k. suc i + k) (nth_where p 0 (drop (suc i) xs))

nth_behind : {X : Type 0} (p : X → Bool) (n : ℕ) (xs : List X) (i : ℕ) → nth_where p n xs ≡ Some i → Next p n xs i
nth_behind p n [] i e = absurd (cc)
nth_behind p zero (x ∷ xs) i e = by (p x) refl (λ j h. nth_behind p zero xs j h)
  where
    by : (b : Bool) → p x ≡ b → ((j : ℕ) → nth_where p zero xs ≡ Some j → Next p zero xs j) → Next p zero (x ∷ xs) i
    by true t ih =
        let same : Some 0 ≡ Some i =
        sym (ap (λ b. if b then Some 0 else option_map (λ i. i + 1) (nth_where p zero xs)) t) ∙ e in
        let here : 0 ≡ i = cc in
        ap (λ b. option_map (λ i. i + 1) (if b then nth_where p zero xs else nth_where p (suc zero) xs)) t
        ∙ map_same (λ k. k + 1) (λ k. suc 0 + k) (nth_where p 0 xs) (λ k. omega arith)
        ∙ ap (λ i. option_map (λ k. suc i + k) (nth_where p 0 (drop i xs))) here
    by false f ih =
        let j = one_less (nth_where p zero xs) i
        (sym (ap (λ b. if b then Some 0 else option_map (λ i. i + 1) (nth_where p zero xs)) f) ∙ e) in
        ap (λ b. option_map (λ i. i + 1) (if b then nth_where p zero xs else nth_where p (suc zero) xs)) f
        ∙ behind_by p xs (nth_where p (suc zero) xs) i j.0 j.2 (ih j.0 j.1)
nth_behind p (suc n) (x ∷ xs) i e = by (p x) refl (λ j h. nth_behind p n xs j h) (λ j h. nth_behind p (suc n) xs j h)
  where
    by : (b : Bool) → p x ≡ b → ((j : ℕ) → nth_where p n xs ≡ Some j → Next p n xs j)
        → ((j : ℕ) → nth_where p (suc n) xs ≡ Some j → Next p (suc n) xs j) → Next p (suc n) (x ∷ xs) i
    by true t ih more =
        let j = one_less (nth_where p n xs) i
        (sym (ap (λ b. option_map (λ i. i + 1) (if b then nth_where p n xs else nth_where p (suc n) xs)) t) ∙ e) in
        ap (λ b. option_map (λ i. i + 1) (if b then nth_where p (suc n) xs else nth_where p (suc (suc n)) xs)) t
        ∙ behind_by p xs (nth_where p (suc n) xs) i j.0 j.2 (ih j.0 j.1)
    by false f ih more =
        let j = one_less (nth_where p (suc n) xs) i
        (sym (ap (λ b. option_map (λ i. i + 1) (if b then nth_where p n xs else nth_where p (suc n) xs)) f) ∙ e) in
        ap (λ b. option_map (λ i. i + 1) (if b then nth_where p (suc n) xs else nth_where p (suc (suc n)) xs)) f
        ∙ behind_by p xs (nth_where p (suc (suc n)) xs) i j.0 j.2 (more j.0 j.1)

-- ---- from one child to the next

pub child_here : (lines : List Line) (n : ℕ) (r : Line)
    → slice_get lines n ≡ Some r → r.level ≡ 1 → Some n ≡ child_from n lines
child_here lines n r there level =
    let own : n + 0 ≡ n = omega arith in
    sym
    (ap (λ ls. option_map (λ i. n + i) (nth_where (is_at 1) 0 ls)) (row_there lines n r there)
    ∙ ap (λ b. option_map (λ i. n + i)
    (if b then Some 0 else option_map (λ i. i + 1) (nth_where (is_at 1) 0 (drop (n + 1) lines))))
    ((Decides-eqb r.level 1).1 level)
    ∙ ap (λ n. Some n) own)

pub child_further : (lines : List Line) (n : ℕ) (r : Line)
    → slice_get lines n ≡ Some r → ¬ (r.level ≡ 1) → child_from n lines ≡ child_from (n + 1) lines
child_further lines n r there other =
    ap (λ ls. option_map (λ i. n + i) (nth_where (is_at 1) 0 ls)) (row_there lines n r there)
    ∙ ap (λ b. option_map (λ i. n + i)
    (if b then Some 0 else option_map (λ i. i + 1) (nth_where (is_at 1) 0 (drop (n + 1) lines))))
    (at_only 1 r other)
    ∙ map_twice (λ i. n + i) (λ i. i + 1) (nth_where (is_at 1) 0 (drop (n + 1) lines))
    ∙ map_same (λ i. n + (i + 1)) (λ i. n + 1 + i) (nth_where (is_at 1) 0 (drop (n + 1) lines)) (λ i. omega arith)

pub no_child_past : (lines : List Line) (n : ℕ) → slice_get lines n ≡ None → None ≡ child_from n lines
no_child_past lines n none = sym (ap (λ ls. option_map (λ i. n + i) (nth_where (is_at 1) 0 ls)) (past_end lines n none))

pub stands_low : (n : ℕ) → (n == 1) ≡ true → n ≡ 1
stands_low n e = (Decides-eqb n 1).0 e

-- the child in a place is the first from its rank on
leads_there : (lines : List Line) (place rank : ℕ)
    → nth_where (is_at 1) place lines ≡ Some rank → child_from rank lines ≡ nth_where (is_at 1) place lines
leads_there lines place rank e =
    let there = nth_passes (is_at 1) place lines rank e in
    sym (child_here lines rank there.0 there.1 (stands_low there.0.level there.2)) ∙ sym e

leads_on : (lines : List Line) (place next rank : ℕ) → nth_where (is_at 1) place lines ≡ Some rank → next ≡ suc place
    → child_from (rank + 1) lines ≡ nth_where (is_at 1) next lines
leads_on lines place next rank e is =
    ap (λ r. child_from r lines) (add-one rank) ∙ sym (nth_behind (is_at 1) place lines rank e)
    ∙ ap (λ n. nth_where (is_at 1) n lines) (sym is)

-- ---- the child of a rank

no_child_by : (kids : List Element) (place : ℕ) (o : Option Element)
    → option_map (λ (e : Element). count (take place kids)) o ≡ None → o ≡ None
no_child_by kids place None e = refl
no_child_by kids place (Some x) e = absurd (cc)

no_child : (kids : List Element) (place : ℕ)
    → nth_where (is_at 1) place (rows_of_all kids 1) ≡ None → length kids ≤ place
no_child kids place none =
    let nothing = no_child_by kids place (slice_get kids place) (sym (rank_in_place kids 1 place) ∙ none) in
    elim (slice_get_cases kids place).1 [ inl here ↦ absurd (differ here.0 (sym here.2 ∙ nothing)) | inr past ↦ past.0 ]
  where
    differ : (e : Element) → Some e ≡ None → ⊥
    differ e h = cc

child_there : (kids : List Element) (place rank : ℕ)
    → nth_where (is_at 1) place (rows_of_all kids 1) ≡ Some rank → (e : Element) × (slice_get kids place ≡ Some e)
child_there kids place rank is = by (slice_get kids place) (sym (rank_in_place kids 1 place) ∙ is)
  where
    by : (o : Option Element)
        → option_map (λ (e : Element). count (take place kids)) o ≡ Some rank → (e : Element) × (o ≡ Some e)
    by None e = absurd (cc)
    by (Some x) e = (x, refl)

-- a child stands at its rank
child_stands : (lines : List Line) (rank : ℕ) (e : Element) → IsChildAt lines rank e → StandsAt lines 1 rank e
child_stands lines rank e c =
    let found : Some (count (take c.place c.kids)) ≡ Some rank =
    sym (rank_in_place c.kids 1 c.place ∙ ap (option_map (λ (e : Element). count (take c.place c.kids))) c.child_is)
    ∙ ap (nth_where (is_at 1) c.place) (sym c.rows_are) ∙ c.rank_is in
    let same : count (take c.place c.kids) ≡ rank = cc in record {
      before = rows_of_all (take c.place c.kids) 1;
      behind = rows_of_all (drop (c.place + 1) c.kids) 1;
      level = 1;
      whole = c.rows_are ∙ child_rows c.kids c.place e 1 c.child_is;
      at = count_at (take c.place c.kids) 1 ∙ same;
      higher = begins_all (drop (c.place + 1) c.kids) 1;
      deep = omega arith;
    }

child_row : (lines : List Line) (rank : ℕ) (e : Element)
    → IsChildAt lines rank e → slice_get lines rank ≡ Some (line_at 1 e)
unfolding child_stands
child_row lines rank e c = line_ranked lines 1 rank e (child_stands lines rank e c)

-- what is shown of it
pub child_shown : (level : Level) (extent : Extent) (lines : List Line) (rank : ℕ) (e : Element)
    → IsChildAt lines rank e → AreLow lines
    → text_at (show_at 1 level extent) lines rank ≡ element_shown level extent e
unfolding child_stands
child_shown level extent lines rank e c low = text_shown lines 1 rank e (child_stands lines rank e c) level extent low

-- ---- what doesn't look at its children

pub same_line : (lines : List Line) (rank k : ℕ) (r : Line) (a e : Element)
    → slice_get lines rank ≡ Some r → line_at k a ≡ r → IsChildAt lines rank e → line_at 1 a ≡ line_at 1 e
same_line lines rank k r a e at is c =
    let found : Some r ≡ Some (line_at 1 e) = sym at ∙ child_row lines rank e c in
    let same : r ≡ line_at 1 e = cc in
    ap (λ (r : Line). record r { level = 1 }) (is ∙ same)

-- ---- the children of a page

-- Of the children from a place on so many were put, and from a rank on the next one is the first.
pub record Entered {K : Type 0} (text : Element → List ℕ) (lines : List Line)
    (from done at : ℕ) (so_far state : Pouring) (told now : Told K) : Type 0 where
  pub leads : child_from at lines ≡ nth_where (is_at 1) (from + done) lines
  pub put : (kids : List Element)
      → lines ≡ rows_of_all kids 1 → Adds so_far state told now (joined text (take done (drop from kids)))

pub first_entered : {K : Type 0} (text : Element → List ℕ)
    (lines : List Line) (from at : ℕ) (so_far : Pouring) (told : Told K)
    → Some at ≡ nth_where (is_at 1) from lines → Entered text lines from 0 at so_far so_far told told
first_entered text lines from at so_far told is =
    let own : from + 0 ≡ from = omega arith in
    record {
      leads = leads_there lines (from + 0) at (ap (λ n. nth_where (is_at 1) n lines) own ∙ sym is);
      put = λ kids are. adds_nothing so_far told;
    }

pub next_there : {K : Type 0} (text : Element → List ℕ)
    (lines : List Line) (from done at rank : ℕ) (s a : Pouring) (t u : Told K)
    → Entered text lines from done at s a t u
    → Some rank ≡ child_from at lines → HasRow lines rank
next_there text lines from done at rank s a t u h is =
    let there = nth_passes (is_at 1) (from + done) lines rank (sym h.leads ∙ sym is) in
    (there.0, there.1, omega (arith, stands_low there.0.level there.2))

pub next_entered : {K : Type 0} (text : Element → List ℕ) (lines : List Line)
    (from done at rank : ℕ) (comma : List ℕ) (s a b r : Pouring) (t u v w : Told K)
    → Entered text lines from done at s a t u
    → Some rank ≡ child_from at lines → comma ≡ comma_if (nat_lt 0 done) → Adds a b u v comma
    → ((e : Element) → IsChildAt lines rank e → Adds b r v w (text e))
    → Entered text lines from (done + 1) (rank + 1) s r t w
next_entered text lines from done at rank comma s a b r t u v w h is comma_is behind told =
    let found = sym h.leads ∙ sym is in record {
      leads = leads_on lines (from + done) (from + (done + 1)) rank found (omega arith);
      put = λ kids are.
          let e = child_there kids (from + done) rank (ap (nth_where (is_at 1) (from + done)) (sym are) ∙ found) in
          entry_added text (drop from kids) done e.0 comma s a b r t u v w
          (entry_behind kids from 0 done e.0 e.1) (h.put kids are) comma_is behind
          (told e.0 (record { kids = kids; place = from + done; rows_are = are; rank_is = found; child_is = e.1 }));
    }

all_taken : (kids : List Element) (from done limit : ℕ)
    → length kids ≤ from + done → done ≤ limit → take done (drop from kids) ≡ take limit (drop from kids)
all_taken kids from done limit past less =
    let long = length-drop from kids in
    take_all done (drop from kids) (omega (arith, long)) ∙ sym (take_all limit (drop from kids) (omega (arith, long)))

-- no further one stands there
pub entries_end : {K : Type 0} (text : Element → List ℕ)
    (lines : List Line) (from done at limit : ℕ) (s a : Pouring) (t u : Told K)
    → Entered text lines from done at s a t u
    → None ≡ child_from at lines → done ≤ limit
    → (kids : List Element) → lines ≡ rows_of_all kids 1 → Adds s a t u (joined text (take limit (drop from kids)))
entries_end text lines from done at limit s a t u h is less kids are =
    let past = no_child kids (from + done) (ap (nth_where (is_at 1) (from + done)) (sym are) ∙ sym h.leads ∙ sym is) in
    adds_same s a t u (joined text (take done (drop from kids))) (joined text (take limit (drop from kids)))
    (h.put kids are) (ap (joined text) (all_taken kids from done limit past less))

pub no_entries : {K : Type 0} (text : Element → List ℕ) (lines : List Line) (from limit : ℕ) (s : Pouring) (t : Told K)
    → None ≡ nth_where (is_at 1) from lines
    → (kids : List Element) → lines ≡ rows_of_all kids 1 → Adds s s t t (joined text (take limit (drop from kids)))
no_entries text lines from limit s t none kids are =
    let past = no_child kids from (ap (nth_where (is_at 1) from) (sym are) ∙ sym none) in
    adds_same s s t t [] (joined text (take limit (drop from kids))) (adds_nothing s t)
    (ap (joined text) (all_taken kids from 0 limit (omega (arith, past)) (omega arith)))

-- ---- the page, of which the submodel's head tells

child_texts : (form : ChildForm) (h s : Submodel)
    → without_children h ≡ without_children s → child_text form h ≡ child_text form s
child_texts (child.Whole level extent) h s same = refl
child_texts child.Metadata h s same = refl
child_texts child.Reference h s same = ap (λ s e. reference_text (child_reference s e)) same

pub children_told : (form : ChildForm) (h s : Submodel)
    (span : Span) (text : List ℕ) (none : Answer) (o : Option Submodel)
    (lines : List Line) (many : ℕ)
    → Some s ≡ o → without_children h ≡ without_children s → many ≡ length s.kids → lines ≡ rows_of_all s.kids 1
    → ((kids : List Element)
    → lines ≡ rows_of_all kids 1 → many ≡ length kids → places_page (child_text form h) span kids ≡ Ok text)
    → Ok text ≡ option_map_or (λ s. places_page (child_text form s) span s.kids) o none
children_told form h s span text none o lines many is head counted rows told =
    sym (told s.kids rows counted) ∙ ap (λ t. places_page t span s.kids) (child_texts form h s head)
    ∙ ap (λ o. option_map_or (λ s. places_page (child_text form s) span s.kids) o none) is
