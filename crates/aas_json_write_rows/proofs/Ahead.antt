-- The elements of a document, one after another.
use Rattle.std.proofs.Common.{◌≡◌, ℕ, ◌+◌, ◌<◌, ◌≤◌, Bool, true, false, ◌||◌, List, [], ◌∷◌, ◌++◌, length, map, Some}
use Rattle.std.proofs.Common.{None, slice_get, refl, sym, ap, ◌∙◌, append_assoc, arith, le-ltb, lt-ltb}
use Rattle.std.proofs.lemmas.Option.{slice_get_within}
use Rattle.std.specs.Prelude.{codes}
use Rattle.aas_out.specs.Adds.{Adds}
use Rattle.aas_out.specs.Told.{Told}
use Rattle.aas_out.specs.declared.pouring.Pouring.{Pouring}
use Rattle.aas_out.proofs.Adding.{adds_both, adds_nothing, adds_same}
use Rattle.aas_rows.specs.Rows.{Line}
use Rattle.aas_json_write_members.specs.Members.{field_text}
use Rattle.aas_json_write_members.specs.Script.{Spoken, is_any, listed_text, more_text}
use Rattle.aas_json_write_members.specs.declared.members.Show.{Show}
use Rattle.aas_json_write_rows.specs.Elements.{IsNextElement, elements_from, elements_of}
use Rattle.aas_json_write_rows.specs.Poured.{HasRow, text_at}
use Rattle.aas_json_write_rows.proofs.Looking.{past_end, text_here, voices_deep, voices_end, voices_here}

-- nothing stands between two ranks
pub record Ahead (rows : List Line) (from at : ℕ) : Type 0 where
  pub same : (w : Show) → elements_from w rows from ≡ elements_from w rows at
  pub order : from ≤ at

pub ahead_past : (rows : List Line) (from at : ℕ)
    → Ahead rows from at → slice_get rows at ≡ None → (w : Show) → IsNextElement w rows from None
unfolding IsNextElement
ahead_past rows from at h none w = h.same w ∙ ap (elements_of w) (past_end rows at none)

texts : List Spoken → List (List ℕ)
texts vs = map (λ (v : Spoken). v.text) vs

pub ahead_end : (rows : List Line) (from at : ℕ) (c : Line)
    → Ahead rows from at → slice_get rows at ≡ Some c → c.level ≡ 0 → (w : Show) → IsNextElement w rows from None
unfolding IsNextElement texts
ahead_end rows from at c h is high w =
    h.same w ∙ ap texts (voices_end w 0 rows at c is (le-ltb 0 c.level (omega (arith, high))))

pub ahead_found : (rows : List Line) (from at : ℕ) (c : Line)
    → Ahead rows from at → slice_get rows at ≡ Some c → c.level ≡ 1 → (w : Show) → IsNextElement w rows from (Some at)
unfolding IsNextElement texts
ahead_found rows from at c h is top w = (
  (c, is, omega (arith, top)),
  h.order,
  h.same w
      ∙ ap texts (voices_here w 0 rows at c is (lt-ltb 0 c.level (omega (arith, top)))
      (le-ltb (0 + 1) c.level (omega (arith, top))))
      ∙ ap (λ t. t ∷ elements_from w rows (at + 1)) (sym (text_here w rows at c is)),
)

pub ahead_deep : (rows : List Line) (from at : ℕ) (c : Line)
    → Ahead rows from at → slice_get rows at ≡ Some c → 1 < c.level → Ahead rows from (at + 1)
unfolding texts
ahead_deep rows from at c h is deep = record {
  same = λ w.
      h.same w
      ∙ ap texts (voices_deep w 0 rows at c is (lt-ltb 0 c.level (omega (arith, deep))) (lt-ltb (0 + 1) c.level deep));
  order = omega (arith, h.order);
}

pub record Next (w : Show) (rows : List Line) (from m : ℕ) : Type 0 where
  pub there : HasRow rows m
  pub order : from ≤ m
  pub within : m < length rows
  pub texts : elements_from w rows from ≡ text_at w rows m ∷ elements_from w rows (m + 1)

pub next_there : (w : Show) (rows : List Line) (from m : ℕ) → IsNextElement w rows from (Some m) → Next w rows from m
unfolding IsNextElement
next_there w rows from m h =
    record { there = h.0; order = h.1; within = slice_get_within rows m h.0.0 h.0.1; texts = h.2 }

pub none_next : (w : Show) (rows : List Line) (from : ℕ)
    → IsNextElement w rows from None → elements_from w rows from ≡ []
unfolding IsNextElement
none_next w rows from h = h

-- ---- what is put

-- Some elements were put, and those from a rank on are left.
pub record Further {K : Type 0} (w : Show) (rows : List Line)
    (from at : ℕ) (so_far state : Pouring) (told now : Told K) : Type 0 where
  pub put : List ℕ
  pub parts : more_text (elements_from w rows from) ≡ put ++ more_text (elements_from w rows at)
  pub adds : Adds so_far state told now put

pub further_start : {K : Type 0} (w : Show) (rows : List Line) (from : ℕ) (so_far : Pouring) (told : Told K)
    → Further w rows from from so_far so_far told told
further_start w rows from so_far told = record { put = []; parts = refl; adds = adds_nothing so_far told }

pub further_more : {K : Type 0} (w : Show) (rows : List Line) (from at m : ℕ)
    (so_far state comma after : Pouring) (told mid then_told now : Told K)
    → Further w rows from at so_far state told mid → IsNextElement w rows at (Some m)
    → Adds state comma mid then_told (44 ∷ []) → Adds comma after then_told now (text_at w rows m)
    → Further w rows from (m + 1) so_far after told now
further_more w rows from at m so_far state comma after told mid then_told now h next a b =
    let t : Next w rows at m = next_there w rows at m next in record {
      put = h.put ++ 44 ∷ text_at w rows m;
      parts =
          h.parts ∙ ap (λ ts. h.put ++ more_text ts) t.texts
          ∙ sym (append_assoc h.put (44 ∷ text_at w rows m) (more_text (elements_from w rows (m + 1))));
      adds =
          adds_both so_far state after told mid now h.put (44 ∷ text_at w rows m) h.adds
          (adds_both state comma after mid then_told now (44 ∷ []) (text_at w rows m) a b);
    }

pub further_end : {K : Type 0} (w : Show) (rows : List Line)
    (from at : ℕ) (so_far state after : Pouring) (told mid now : Told K)
    → Further w rows from at so_far state told mid → IsNextElement w rows at None
    → Adds state after mid now (93 ∷ []) → Adds so_far after told now (more_text (elements_from w rows from))
further_end w rows from at so_far state after told mid now h none a =
    adds_same so_far after told now (h.put ++ 93 ∷ []) (more_text (elements_from w rows from))
    (adds_both so_far state after told mid now h.put (93 ∷ []) h.adds a)
    (sym (h.parts ∙ ap (λ ts. h.put ++ more_text ts) (none_next w rows at none)))

or_is_any : (b : Bool) (t : List ℕ) (ts us : List (List ℕ)) → us ≡ t ∷ ts → true ≡ (b || is_any us)
or_is_any true t ts us is = refl
or_is_any false t ts us is = sym (ap is_any is)

or_none : (b : Bool) (us : List (List ℕ)) → us ≡ [] → b ≡ (b || is_any us)
or_none true us is = refl
or_none false us is = sym (ap is_any is)

-- no element
pub no_elements : {K : Type 0} (w : Show) (rows : List Line) (later : Bool) (state : Pouring) (told : Told K)
    → IsNextElement w rows 0 None
    → Adds state state told told (listed_text later (codes "submodelElements") (elements_of w rows))
no_elements w rows later state told none =
    adds_same state state told told [] (listed_text later (codes "submodelElements") (elements_of w rows))
    (adds_nothing state told) (sym (ap (listed_text later (codes "submodelElements")) (none_next w rows 0 none)))

pub not_later : (w : Show) (rows : List Line) (later : Bool)
    → IsNextElement w rows 0 None → later ≡ (later || is_any (elements_of w rows))
not_later w rows later none = or_none later (elements_of w rows) (none_next w rows 0 none)

-- the first element, and all others
pub all_elements : {K : Type 0} (w : Show) (rows : List Line)
    (m : ℕ) (later : Bool) (a b c d : Pouring) (t u v z : Told K)
    → IsNextElement w rows 0 (Some m)
    → Adds a b t u (field_text later (codes "submodelElements") (91 ∷ [])) → Adds b c u v (text_at w rows m)
    → Adds c d v z (more_text (elements_from w rows (m + 1)))
    → Adds a d t z (listed_text later (codes "submodelElements") (elements_of w rows))
all_elements w rows m later a b c d t u v z next name first others =
    let name_text : List ℕ = field_text later (codes "submodelElements") (91 ∷ []) in
    adds_same a d t z (name_text ++ (text_at w rows m ++ more_text (elements_from w rows (m + 1))))
    (listed_text later (codes "submodelElements") (elements_of w rows))
    (adds_both a b d t u z name_text (text_at w rows m ++ more_text (elements_from w rows (m + 1))) name
    (adds_both b c d u v z (text_at w rows m) (more_text (elements_from w rows (m + 1))) first others))
    (sym (ap (listed_text later (codes "submodelElements")) (next_there w rows 0 m next).texts))

pub is_later : (w : Show) (rows : List Line) (m : ℕ) (later : Bool)
    → IsNextElement w rows 0 (Some m) → true ≡ (later || is_any (elements_of w rows))
is_later w rows m later next =
    or_is_any later (text_at w rows m) (elements_from w rows (m + 1))
    (elements_of w rows) (next_there w rows 0 m next).texts
