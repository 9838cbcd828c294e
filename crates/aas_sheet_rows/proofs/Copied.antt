-- What is answered where the element of a path is copied by its rank.
use Rattle.std.proofs.Common.{◌≡◌, ℕ, ◌<◌, List, length, Some, slice_get, Result, Ok, Err, IfOk, MatchResult, sym, ◌∙◌}
use Rattle.std.proofs.lemmas.Option.{slice_get_within}
use Rattle.aas_model.specs.declared.documents.Submodel.{Submodel}
use Rattle.aas_model.specs.declared.element.Element.{Element}
use Rattle.aas_model.specs.declared.path.PathStep.{PathStep}
use Rattle.aas_path_trees.specs.ElementAt.{element_at}
use Rattle.aas_store.specs.Spots.{elements_of_all, rank_at}
use Rattle.aas_store.specs.declared.lack.Lack.{Lack}
use Rattle.aas_store.specs.declared.lack.Lack.TheVariants.{NoMemory}
use Rattle.aas_store.proofs.Paths.{at_rank}
use Rattle.aas_sheet_rows.proofs.Standing.{element_of_path}

module _ (d : Submodel) (p : List PathStep) (rank : ℕ) (is : Some rank ≡ rank_at d p) where
  pub rank_within : rank < length (elements_of_all d.kids)
  rank_within =
      let there = at_rank d p rank (sym is) in
      slice_get_within (elements_of_all d.kids) rank there.element
      (sym (element_of_path d p (Some rank) is) ∙ there.found)

  pub copied : (r : Result Element Lack)
      → MatchResult r (λ e. slice_get (elements_of_all d.kids) rank ≡ Some e) (λ lack. lack ≡ NoMemory)
      → IfOk r (λ e. element_at d p ≡ Some e)
  copied (Ok e) found = element_of_path d p (Some rank) is ∙ found
  copied (Err lack) found = tt

pub no_other_lack : (r : Result Element Lack) (P : Element → Type 0) (lack : Lack)
    → MatchResult r P (λ lack. lack ≡ NoMemory) → (NoMemory ≡ lack → ⊥) → r ≡ Err lack → ⊥
no_other_lack (Ok e) P lack found other is = absurd (cc)
no_other_lack (Err k) P lack found other is = let same : k ≡ lack = cc in other (sym found ∙ same)
