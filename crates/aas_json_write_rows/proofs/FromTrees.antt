-- The rows of trees give the texts of the trees.
use Rattle.std.proofs.Common.{◌≡◌, ℕ, ◌+◌, ◌<◌, nat_lt, List, [], ◌∷◌, ◌++◌, map, refl, sym, ap, ap₂, ◌∙◌, append_assoc}
use Rattle.std.proofs.Common.{arith, if◌then◌else◌, le-ltb, lt-ltb}
use Rattle.std.proofs.lemmas.List.{append-nil}
use Rattle.std.proofs.lemmas.Bool.Decides.{Decides-ltb}
use Rattle.std.proofs.lemmas.Bool.{cond-true, cond-false}
use Rattle.aas_model.specs.declared.element.Element.{Element, fold-Element, fold_out-Element}
use Rattle.aas_path_trees.specs.Children.{kids_of}
use Rattle.aas_rows.specs.Rows.{Line, line_at, rows, rows_of_all, BeginsRows}
use Rattle.aas_rows.proofs.Trees.{rows_out, Every, by_kids, every, rows_begin, begins_deeper}
use Rattle.aas_json_write_members.specs.Script.{Spoken, element_text}
use Rattle.aas_json_write_members.specs.Texts.{Leveled, spoken, spoken_over}
use Rattle.aas_json_write_members.specs.declared.members.Show.{Show}
use Rattle.aas_json_write_rows.specs.Poured.{voices, RowsGiveTheTexts}

-- the rows at the front that stand deeper than the level k + 1 say nothing at the level k
pub Said : Show → Element → Type 0
Said w e = (k l : ℕ) (rest : List Line) → k + 1 < l → voices w k (rows e l ++ rest) ≡ voices w k rest

said_all : (w : Show) (es : List Element) → Every (Said w) es → (k l : ℕ) (rest : List Line)
    → k + 1 < l → voices w k (rows_of_all es l ++ rest) ≡ voices w k rest
unfolding Said
said_all w [] h k l rest deep = refl
said_all w (e ∷ es) h k l rest deep =
    ap (voices w k) (append_assoc (rows e l) (rows_of_all es l) rest)
    ∙ h.0 k l (rows_of_all es l ++ rest) deep ∙ said_all w es h.1 k l rest deep

passed_line : (w : Show) (r : Line) (rs : List Line) (k : ℕ) → k + 1 < r.level → voices w k (r ∷ rs) ≡ voices w k rs
passed_line w r rs k deep =
    cond-true (nat_lt k r.level)
    (if nat_lt (k + 1) r.level then voices w k rs
    else record { role = r.role; text = element_text w r (voices w r.level rs) } ∷ voices w k rs)
    [] ((Decides-ltb k r.level).1 (omega arith))
    ∙ cond-true (nat_lt (k + 1) r.level) (voices w k rs)
    (record { role = r.role; text = element_text w r (voices w r.level rs) } ∷ voices w k rs)
    ((Decides-ltb (k + 1) r.level).1 deep)

said : (w : Show) (e : Element) → Every (Said w) (kids_of e) → Said w e
unfolding Said
said w e h k l rest deep =
    ap (λ xs. voices w k (xs ++ rest)) (rows_out e l)
    ∙ passed_line w (line_at l e) (rows_of_all (kids_of e) (l + 1) ++ rest) k deep
    ∙ said_all w (kids_of e) h k (l + 1) rest (omega (arith, deep))

pub says_nothing : (w : Show) (es : List Element) (k l : ℕ) (rest : List Line)
    → k + 1 < l → voices w k (rows_of_all es l ++ rest) ≡ voices w k rest
says_nothing w es k l rest deep = said_all w es (every (Said w) (by_kids (Said w) (said w)) es) k l rest deep

-- ---- an element at the front

pub spoken_out : (w : Show) (e : Element) (k : ℕ)
    → spoken w e k ≡ record {
      role = (line_at k e).role;
      text = element_text w (line_at k e) (map (λ e. spoken w e (k + 1)) (kids_of e));
    }
unfolding spoken
spoken_out w e k =
    ap (λ f. f k) (fold_out-Element (Leveled Spoken) (spoken_over w) e)
    ∙ ap (λ vs. record { role = (line_at k e).role; text = element_text w (line_at k e) vs }) (twice (kids_of e))
  where
    twice : (es : List Element)
        → map (λ (f : Leveled Spoken). f (k + 1)) (map (fold-Element (Leveled Spoken) (spoken_over w)) es)
        ≡ map (λ e. fold-Element (Leveled Spoken) (spoken_over w) e (k + 1)) es
    twice [] = refl
    twice (e ∷ es) = ap (λ vs. fold-Element (Leveled Spoken) (spoken_over w) e (k + 1) ∷ vs) (twice es)

here_line : (w : Show) (r : Line) (rs : List Line) (k : ℕ) → r.level ≡ k + 1
    → voices w k (r ∷ rs) ≡ record { role = r.role; text = element_text w r (voices w r.level rs) } ∷ voices w k rs
here_line w r rs k at =
    cond-true (nat_lt k r.level)
    (if nat_lt (k + 1) r.level then voices w k rs
    else record { role = r.role; text = element_text w r (voices w r.level rs) } ∷ voices w k rs)
    [] (lt-ltb k r.level (omega (arith, at)))
    ∙ cond-false (nat_lt (k + 1) r.level) (voices w k rs)
    (record { role = r.role; text = element_text w r (voices w r.level rs) } ∷ voices w k rs)
    (le-ltb (k + 1) r.level (omega (arith, at)))

pub no_more : (w : Show) (k : ℕ) (rest : List Line) → BeginsRows k rest → voices w k rest ≡ []
no_more w k [] h = refl
no_more w k (r ∷ rs) h =
    cond-false (nat_lt k r.level)
    (if nat_lt (k + 1) r.level then voices w k rs
    else record { role = r.role; text = element_text w r (voices w r.level rs) } ∷ voices w k rs)
    [] (le-ltb k r.level h)

pub Speaks : Show → Element → Type 0
Speaks w e = (k : ℕ) (rest : List Line)
    → BeginsRows (k + 1) rest → voices w k (rows e (k + 1) ++ rest) ≡ spoken w e (k + 1) ∷ voices w k rest

speak_all : (w : Show) (es : List Element) → Every (Speaks w) es → (k : ℕ) (rest : List Line) → BeginsRows (k + 1) rest
    → voices w k (rows_of_all es (k + 1) ++ rest) ≡ map (λ e. spoken w e (k + 1)) es ++ voices w k rest
unfolding Speaks
speak_all w [] h k rest b = refl
speak_all w (e ∷ es) h k rest b =
    ap (voices w k) (append_assoc (rows e (k + 1)) (rows_of_all es (k + 1)) rest)
    ∙ h.0 k (rows_of_all es (k + 1) ++ rest) (rows_begin es (k + 1) rest b)
    ∙ ap (λ vs. spoken w e (k + 1) ∷ vs) (speak_all w es h.1 k rest b)

speak : (w : Show) (e : Element) → Every (Speaks w) (kids_of e) → Speaks w e
unfolding Speaks
speak w e h k rest b =
    let kids : List Line = rows_of_all (kids_of e) (k + 1 + 1) in
    ap (λ xs. voices w k (xs ++ rest)) (rows_out e (k + 1))
    ∙ here_line w (line_at (k + 1) e) (kids ++ rest) k refl
    ∙ ap₂ (λ vs us. record { role = (line_at (k + 1) e).role; text = element_text w (line_at (k + 1) e) vs } ∷ us)
    (speak_all w (kids_of e) h (k + 1) rest (begins_deeper (k + 1) rest b)
    ∙ ap (λ vs. map (λ e. spoken w e (k + 1 + 1)) (kids_of e) ++ vs) (no_more w (k + 1) rest b)
    ∙ append-nil (map (λ e. spoken w e (k + 1 + 1)) (kids_of e)))
    (says_nothing w (kids_of e) k (k + 1 + 1) rest (omega arith))
    ∙ ap (λ v. v ∷ voices w k rest) (sym (spoken_out w e (k + 1)))

pub rows_give_texts : RowsGiveTheTexts
rows_give_texts w es k =
    ap (voices w k) (sym (append-nil (rows_of_all es (k + 1))))
    ∙ speak_all w es (every (Speaks w) (by_kids (Speaks w) (speak w)) es) k [] tt
    ∙ append-nil (map (λ e. spoken w e (k + 1)) es)
