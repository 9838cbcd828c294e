-- How many elements an edit leaves.
use Rattle.std.proofs.Common.{◌≡◌, ◌≤◌, ℕ, suc, ◌+◌, false, true, List, [], ◌∷◌, ◌++◌, length, length-append, Option, Some, None, IsSome, refl, subst, sym, ap, ◌∙◌, arith}
use Rattle.std.specs.Option.{option_map_or}
use Rattle.std.proofs.lemmas.List.{append-nil}
use Rattle.aas_model.specs.declared.documents.Submodel.{Submodel}
use Rattle.aas_model.specs.declared.element.Element.{Element}
use Rattle.aas_model.specs.declared.patch.PatchRow.{PatchRow}
use Rattle.aas_model.specs.declared.path.PathStep.{PathStep}
use Rattle.aas_path_trees.specs.Edits.{removed, removed_among}
use Rattle.aas_path_trees.specs.ElementAt.{element_among, element_at}
use Rattle.aas_path_trees.specs.Patched.{element_count, patched, patched_all}
use Rattle.aas_path_trees.specs.WithElement.{with_among, with_element}
use Rattle.aas_rows.specs.Edits.{patched_rows}
use Rattle.aas_rows.specs.Rows.{Line, rows, rows_of_all}
use Rattle.aas_rows.proofs.Edited.{count_at, have_edited_rows}
use Rattle.aas_rows.proofs.Patching.{have_patched_rows}
use Rattle.aas_store.specs.Edited.{patched_at}

parts_count : (before mid behind : List Line) → length (before ++ (mid ++ behind)) ≡ length before + (length mid + length behind)
parts_count before mid behind = length-append before (mid ++ behind) ∙ ap (λ n. length before + n) (length-append mid behind)

-- ---- with an element taken out

pub fewer_left : (d : Submodel) (p : List PathStep) → IsSome (element_at d p) → element_count (removed d p) ≤ element_count d
fewer_left d [] there = let no : false ≡ true = there in absurd (cc)
fewer_left d (s ∷ q) there = by (element_among false s q d.kids) refl
  where
    by : (o : Option Element) → element_among false s q d.kids ≡ o → element_count (removed d (s ∷ q)) ≤ element_count d
    by None none = let no : false ≡ true = subst (λ (o : Option Element). IsSome o) none there in absurd (cc)
    by (Some o) found =
        let st = have_edited_rows false s q d.kids 1 o found in
        let whole = sym (count_at d.kids 1) ∙ ap length st.whole ∙ parts_count st.before (rows o st.level) st.behind in
        let left = sym (count_at (removed_among false s q d.kids) 1) ∙ ap length st.removed ∙ length-append st.before st.behind in
        omega (arith, whole, left)

-- ---- patched

patched_long : (patch : List PatchRow) (k : ℕ) (ls : List Line) → length (patched_rows patch k ls) ≡ length ls
patched_long patch k [] = refl
patched_long patch k (l ∷ ls) = ap suc (patched_long patch (k + 1) ls)

all_patched : (patch : List PatchRow) (es : List Element) (n k : ℕ) → length (rows_of_all (patched_all patch es n).0 k) ≡ length (rows_of_all es k)
all_patched patch es n k = ap length (have_patched_rows patch es n k) ∙ patched_long patch n (rows_of_all es k)

one_patched : (patch : List PatchRow) (e : Element) (k : ℕ) → length (rows (patched patch e 0).0 k) ≡ length (rows e k)
one_patched patch e k =
    sym (ap length (append-nil (rows (patched patch e 0).0 k))) ∙ all_patched patch (e ∷ []) 0 k ∙ ap length (append-nil (rows e k))

pub as_many_patched : (d : Submodel) (p : List PathStep) (patch : List PatchRow) → element_count (patched_at d p patch) ≡ element_count d
as_many_patched d [] patch =
    sym (count_at (patched_all patch d.kids 0).0 1) ∙ all_patched patch d.kids 0 1 ∙ count_at d.kids 1
as_many_patched d (s ∷ q) patch = by (element_among false s q d.kids) refl
  where
    by : (o : Option Element) → element_among false s q d.kids ≡ o → element_count (option_map_or (λ e. with_element d (s ∷ q) (patched patch e 0).0) o d) ≡ element_count d
    by None none = refl
    by (Some e) found =
        let w : Element = (patched patch e 0).0 in
        let st = have_edited_rows false s q d.kids 1 e found in
        let whole = sym (count_at d.kids 1) ∙ ap length st.whole ∙ parts_count st.before (rows e st.level) st.behind in
        let edited = sym (count_at (with_among false s q d.kids w) 1) ∙ ap length (st.edited w) ∙ parts_count st.before (rows w st.level) st.behind in
        let same = one_patched patch e st.level in
        omega (arith, whole, edited, same)
