-- An update of a table in place is the update of its tree.
use Rattle.std.proofs.Common.{◌≡◌, ℕ, false, List, [], ◌∷◌, length, Option, Some, None, unwrap_or, refl, sym, ap}
use Rattle.std.proofs.Common.{◌∙◌, subst}
use Rattle.std.specs.Option.{MatchOption, option_map_or}
use Rattle.aas_model.specs.declared.documents.Submodel.{Submodel}
use Rattle.aas_model.specs.declared.element.Element.{Element}
use Rattle.aas_model.specs.declared.patch.PatchRow.{PatchRow}
use Rattle.aas_model.specs.declared.path.PathStep.{PathStep}
use Rattle.aas_path_trees.specs.ElementAt.{element_among}
use Rattle.aas_path_trees.specs.Patched.{Fits, kinds, patched}
use Rattle.aas_path_trees.specs.WithElement.{with_element}
use Rattle.aas_rows.specs.Edits.{StandsIn}
use Rattle.aas_rows.proofs.Edited.{have_edited_rows}
use Rattle.aas_store.specs.Edited.{FitsAt, patched_at}
use Rattle.aas_store.specs.Spots.{rank_at}
use Rattle.aas_sheet_rows.specs.Table.{submodel_of, IsTable}
use Rattle.aas_sheet_rows.specs.Written.{InRange, written}
use Rattle.aas_sheet_rows.specs.declared.row.Row.{Row}
use Rattle.aas_sheet_index.specs.declared.side.Side.{Side}
use Rattle.aas_sheet_rows.proofs.Putting.{updates, updates_all}

pub record Updated (head : Submodel) (rs : List Row) (ss : List Side)
    (p : List PathStep) (ps : List PatchRow) (base : ℕ) (d : Submodel) : Type 0 where
  pub within : InRange base (length rs) ps
  pub same : submodel_of head (written rs base ps) ss ≡ patched_at d p ps

from_tree : (head : Submodel) (rs : List Row) (ss : List Side) (s : PathStep)
    (p : List PathStep) (ps : List PatchRow) (base : ℕ) (o : Option Element)
    → IsTable rs ss
    → element_among false s p (submodel_of head rs ss).kids ≡ o → MatchOption o ⊥ (λ e. Fits (kinds e) ps)
    → base ≡ unwrap_or (rank_at (submodel_of head rs ss) (s ∷ p)) 0
    → (InRange base (length rs) ps)
    × (submodel_of head (written rs base ps) ss
    ≡ option_map_or (λ e. with_element (submodel_of head rs ss) (s ∷ p) (patched ps e 0).0) o (submodel_of head rs ss))
from_tree head rs ss s p ps base None t is fit at = absurd fit
from_tree head rs ss s p ps base (Some e) t is fit at =
    let d : Submodel = submodel_of head rs ss in
    let st : StandsIn false s p d.kids 1 e = have_edited_rows false s p d.kids 1 e is in
    let u = updates head rs ss s p e ps base t st (at ∙ ap (λ o. unwrap_or o 0) st.at) fit in
    (u.within, u.same)

of_table : (head : Submodel) (rs : List Row) (ss : List Side) (p : List PathStep) (ps : List PatchRow) (base : ℕ)
    → IsTable rs ss → FitsAt (submodel_of head rs ss) p ps
    → base ≡ unwrap_or (rank_at (submodel_of head rs ss) p) 0 → Updated head rs ss p ps base (submodel_of head rs ss)
of_table head rs ss [] ps base t fit at =
    let u = updates_all head rs ss ps base t at fit in
    record { within = u.0; same = u.1 }
of_table head rs ss (s ∷ p) ps base t fit at =
    let u = from_tree head rs ss s p ps base (element_among false s p (submodel_of head rs ss).kids) t refl fit at in
    record { within = u.0; same = u.1 }

pub updated : (head : Submodel) (rs : List Row) (ss : List Side)
    (p : List PathStep) (ps : List PatchRow) (base : ℕ) (d : Submodel)
    → IsTable rs ss → submodel_of head rs ss ≡ d → FitsAt d p ps
    → base ≡ unwrap_or (rank_at d p) 0 → Updated head rs ss p ps base d
updated head rs ss p ps base d t is fit at =
    subst (λ d. Updated head rs ss p ps base d) is
    (of_table head rs ss p ps base t (subst (λ d. FitsAt d p ps) (sym is) fit)
    (at ∙ ap (λ d. unwrap_or (rank_at d p) 0) (sym is)))
