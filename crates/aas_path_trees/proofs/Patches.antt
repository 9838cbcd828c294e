-- Kinds in preorder and patches, one element at a time.
use Rattle.std.proofs.Common.{◌≡◌, ℕ, ◌+◌, List, ◌∷◌, ap, ◌∙◌}
use Rattle.std.proofs.lemmas.List.Folds.{flat_map-map}
use Rattle.aas_model.specs.Element.{kind_of}
use Rattle.aas_model.specs.declared.element.Element.{Element, out-Element, roll-Element, fold_out-Element}
use Rattle.aas_model.specs.declared.patch.PatchRow.{PatchRow}
use Rattle.aas_model_names.specs.declared.kind.Kind.{Kind}
use Rattle.aas_path_trees.specs.Children.{kids_of}
use Rattle.aas_path_trees.specs.Patched.{kinds_over, kinds, kinds_of_all, payload_at, Ranked, patched_over, patched, patched_all}

pub kinds_out : (e : Element) → kinds e ≡ kind_of e ∷ kinds_of_all (kids_of e)
unfolding kinds
kinds_out e = fold_out-Element (List Kind) kinds_over e ∙ ap (λ ks. kind_of e ∷ ks) (flat_map-map (λ (ks : List Kind). ks) kinds (kids_of e))

pub patched_out : (rows : List PatchRow) (e : Element) (k : ℕ) → patched rows e k
    ≡ (
      roll-Element (record (out-Element e) { payload = payload_at k rows (out-Element e).payload; kids = (patched_all rows (kids_of e) (k + 1)).0 }),
      (patched_all rows (kids_of e) (k + 1)).1,
    )
unfolding patched
patched_out rows e k = ap (λ f. f k) (fold_out-Element Ranked (patched_over rows) e)
