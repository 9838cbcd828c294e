-- The text of the element of a rank is made of the rows from there on.
use Rattle.std.proofs.Common.{◌≡◌, ℕ, suc, ◌+◌, ◌<◌, ◌≤◌, nat_lt, Bool, true, false, List, [], ◌∷◌, ◌++◌, length, drop}
use Rattle.std.proofs.Common.{map, Option, Some, None, Ok, slice_get, refl, sym, ap, ap₂, ◌∙◌, subst, arith}
use Rattle.std.proofs.Common.{if◌then◌else◌, le-ltb}
use Rattle.std.specs.Prelude.{MatchOption}
use Rattle.std.proofs.lemmas.Bool.{ltb-false}
use Rattle.std.proofs.lemmas.Bool.Decides.{Decides-ltb}
use Rattle.std.specs.FinMap as documents
use Rattle.std.specs.Str.{encode_utf8_all}
use Rattle.aas_lemmas.proofs.Lists.{at_seam}
use Rattle.serde_json.specs.Written.{compact_text}
use Rattle.aas_json_mapping.specs.Elements.{spell_element}
use Rattle.aas_json_mapping.specs.Trees.{elements}
use Rattle.aas_json_spelling.specs.Spells.{canonical_text}
use Rattle.aas_model.specs.declared.documents.Submodel.{Submodel}
use Rattle.aas_model.specs.declared.element.Element.{Element}
use Rattle.aas_model.specs.declared.path.PathStep.{PathStep}
use Rattle.aas_model_names.specs.declared.modifiers.Extent.{Extent}
use Rattle.aas_model_names.specs.declared.modifiers.Level.{Level}
use Rattle.aas_path_trees.specs.Children.{kids_of}
use Rattle.aas_rows.specs.Rows.{Line, line_at, rows, rows_of_all, BeginsRows}
use Rattle.aas_rows.proofs.Ranked.{StandsAt}
use Rattle.aas_rows.proofs.Trees.{begins_more, rows_out}
use Rattle.aas_json_write_members.specs.Script.{Spoken, element_text}
use Rattle.aas_json_write_members.specs.Texts.{shown, spoken}
use Rattle.aas_json_write_members.specs.declared.members.Show.{Show}
use Rattle.aas_json_write_members.proofs.Trees.{canonical}
use Rattle.aas_json_write_rows.specs.Poured.{AreLow, HasRow, if_row, kids_at, text_at, voices}
use Rattle.aas_json_write_rows.specs.Shown.{show_at}
use Rattle.aas_json_write_rows.proofs.FromTrees.{rows_give_texts, spoken_out, no_more}
use Rattle.aas_json_write_rows.proofs.Shown.{element_is_shown, low_left, low_right}
use Rattle.aas_store.specs.Documents.{Documents}
use Rattle.aas_store.specs.Edited.{Holds}
use Rattle.aas_store.specs.Spots.{rank_at}
use Rattle.aas_store.proofs.Paths.{at_rank}
use Rattle.aas_answer.specs.Answers.{element_shown, of_element}
use Rattle.aas_answer.specs.Shown.{row_shown}
use Rattle.aas_answer.proofs.Found.{found_at}
use Rattle.aas_answer.proofs.Stored.{HasLines}

-- ---- an element that stands at a level

-- ---- rows behind those of children say nothing of the children

-- what the rows from r on say, by what those behind it say below it and beside it
begun : Show → ℕ → Line → List Spoken → List Spoken → List Spoken
begun w k r own beside =
    if nat_lt k r.level
    then (if nat_lt (k + 1) r.level then beside else record { role = r.role; text = element_text w r own } ∷ beside)
    else []

voices_out : (w : Show) (k : ℕ) (r : Line) (rs : List Line)
    → voices w k (r ∷ rs) ≡ begun w k r (voices w r.level rs) (voices w k rs)
unfolding begun
voices_out w k r rs = refl

begun_none : (w : Show) (k : ℕ) (r : Line) (own beside : List Spoken) → r.level ≤ k → begun w k r own beside ≡ []
unfolding begun
begun_none w k r own beside le =
    ap (λ b. if b
    then (if nat_lt (k + 1) r.level then beside else record { role = r.role; text = element_text w r own } ∷ beside)
    else [])
    (le-ltb k r.level le)

front_more : (w : Show) (k : ℕ) (r : Line) (rs rest : List Line)
    → BeginsRows k rest → ((l : ℕ) → BeginsRows l rest → voices w l (rs ++ rest) ≡ voices w l rs)
    → (b : Bool) → nat_lt k r.level ≡ b
    → begun w k r (voices w r.level (rs ++ rest)) (voices w k (rs ++ rest))
    ≡ begun w k r (voices w r.level rs) (voices w k rs)
front_more w k r rs rest h more true is =
    let lt : k < r.level = (Decides-ltb k r.level).0 is in
    ap₂ (begun w k r) (more r.level (begins_more k r.level [] rest (omega arith) tt h)) (more k h)
front_more w k r rs rest h more false is =
    let le = ltb-false k r.level is in
    begun_none w k r (voices w r.level (rs ++ rest)) (voices w k (rs ++ rest)) le
    ∙ sym (begun_none w k r (voices w r.level rs) (voices w k rs) le)

voices_front : (w : Show) (xs : List Line) (k : ℕ) (rest : List Line)
    → BeginsRows k rest → voices w k (xs ++ rest) ≡ voices w k xs
voices_front w [] k rest h = no_more w k rest h
voices_front w (r ∷ rs) k rest h =
    voices_out w k r (rs ++ rest)
    ∙ front_more w k r rs rest h (λ l g. voices_front w rs l rest g) (nat_lt k r.level) refl ∙ sym (voices_out w k r rs)

-- ---- an element and its rows

behind_seam : (b : List Line) (x : Line) (xs : List Line) → drop (length b + 1) (b ++ x ∷ xs) ≡ xs
behind_seam [] x xs = refl
behind_seam (y ∷ b) x xs = ap (λ n. drop n (y ∷ (b ++ x ∷ xs))) (next (length b)) ∙ behind_seam b x xs
  where
    next : (n : ℕ) → suc n + 1 ≡ suc (n + 1)
    next n = omega arith

module _ (all : List Line) (k n : ℕ) (e : Element) (s : StandsAt all k n e) where
  below : List Line
  below = rows_of_all (kids_of e) (s.level + 1)

  parts : all ≡ s.before ++ line_at s.level e ∷ (below ++ s.behind)
  unfolding below
  parts = s.whole ∙ ap (λ xs. s.before ++ (xs ++ s.behind)) (rows_out e s.level)

  pub line_ranked : slice_get all n ≡ Some (line_at s.level e)
  line_ranked =
      ap (λ xs. slice_get xs n) parts ∙ ap (slice_get (s.before ++ line_at s.level e ∷ (below ++ s.behind))) (sym s.at)
      ∙ at_seam s.before (line_at s.level e) (below ++ s.behind)

  behind_ranked : drop (n + 1) all ≡ below ++ s.behind
  behind_ranked =
      ap (drop (n + 1)) parts ∙ ap (λ n. drop (n + 1) (s.before ++ line_at s.level e ∷ (below ++ s.behind))) (sym s.at)
      ∙ behind_seam s.before (line_at s.level e) (below ++ s.behind)

  kids_said : (w : Show) → voices w s.level (drop (n + 1) all) ≡ map (λ e. spoken w e (s.level + 1)) (kids_of e)
  unfolding below
  kids_said w =
      ap (voices w s.level) behind_ranked
      ∙ voices_front w (rows_of_all (kids_of e) (s.level + 1)) s.level s.behind s.higher
      ∙ rows_give_texts w (kids_of e) s.level

  own_rows_low : AreLow all → AreLow (rows e s.level)
  own_rows_low low =
      low_left (rows e s.level) s.behind (low_right s.before (rows e s.level ++ s.behind) (subst AreLow s.whole low))

  text_ranked : (w : Show) → text_at w all n ≡ compact_text (spell_element (shown w e s.level))
  text_ranked w =
      ap (λ o. if_row o (λ r. element_text w r (kids_at w all r n))) line_ranked
      ∙ ap (element_text w (line_at s.level e)) (kids_said w)
      ∙ sym (ap (λ v. v.text) (spoken_out w e s.level))
      ∙ ap (λ v. v.text) (canonical w e s.level)

  -- what is shown of the rows from its rank on is what is shown of it
  pub text_shown : (level : Level) (extent : Extent)
      → AreLow all → text_at (show_at s.level level extent) all n ≡ element_shown level extent e
  text_shown level extent low =
      text_ranked (show_at s.level level extent)
      ∙ ap (canonical_text elements) (element_is_shown level extent e s.level (own_rows_low low))

  pub row_text : (level : Level) (extent : Extent)
      → AreLow all → row_shown level extent all n ≡ element_shown level extent e
  row_text level extent low =
      ap (λ o. if_row o (λ r. text_at (show_at r.level level extent) all n)) line_ranked ∙ text_shown level extent low

-- ---- what a path leads to in a stored submodel

pub row_there : (found : Option Submodel) (lines : List Line) (p : List PathStep) (n : ℕ)
    → HasLines found lines → MatchOption found ⊥ (λ s. rank_at s p ≡ Some n) → HasRow lines n
row_there None lines p n has is = absurd has
row_there (Some s) lines p n has is =
    let there = at_rank s p n is in
    let st = there.stands in (
      line_at st.level there.element,
      ap (λ xs. slice_get xs n) has ∙ line_ranked (rows_of_all s.kids 1) 1 n there.element st,
      let deep = st.deep in
          omega (arith, deep),
    )

pub row_told : (d : Documents) (id : List ℕ) (p : List PathStep)
    (n : ℕ) (lines : List Line) (level : Level) (extent : Extent)
    → AreLow lines
    → HasLines (documents.get d.submodels (encode_utf8_all id)) lines
    → Holds d (encode_utf8_all id) (λ s. rank_at s p ≡ Some n)
    → of_element d id p (λ e. Ok (element_shown level extent e)) ≡ Ok (row_shown level extent lines n)
row_told d id p n lines level extent low has is = by (documents.get d.submodels (encode_utf8_all id)) refl has is
  where
    by : (o : Option Submodel) → documents.get d.submodels (encode_utf8_all id) ≡ o → HasLines o lines
        → MatchOption o ⊥ (λ s. rank_at s p ≡ Some n)
        → of_element d id p (λ e. Ok (element_shown level extent e)) ≡ Ok (row_shown level extent lines n)
    by None found has is = absurd has
    by (Some s) found has is =
        let there = at_rank s p n is in
        found_at d id p s there.element found there.found (λ e. Ok (element_shown level extent e))
        ∙ ap Ok (sym (ap (λ xs. row_shown level extent xs n) has
        ∙ row_text (rows_of_all s.kids 1) 1 n there.element there.stands level extent (subst AreLow has low)))
