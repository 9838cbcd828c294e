-- The references that the server gives out lead back.
use Rattle.std.specs.Prelude.{◌≡◌, ℕ, ◌+◌, ◌<◌, ◌^◌, false, List, [], ◌∷◌, length, take, slice_get, Some, None, Option}
use Rattle.std.specs.Prelude.{option_and_then, option_map, Ok}
use Rattle.std.specs.FinMap as map
use Rattle.std.specs.Str.{encode_utf8_all}
use Rattle.aas_form.specs.ReferenceTo.{reference_to, shell_reference}
use Rattle.aas_model.specs.declared.documents.Shell.{Shell}
use Rattle.aas_model.specs.declared.documents.Submodel.{Submodel}
use Rattle.aas_model.specs.declared.element.Element.{Element}
use Rattle.aas_model.specs.declared.path.PathStep.{PathStep}
use Rattle.aas_model.specs.declared.reference.Reference.{Reference}
use Rattle.aas_model_names.specs.declared.collection.Collection.TheVariants.{Shells, Submodels}
use Rattle.aas_path_trees.specs.Children.{kids_of, is_list}
use Rattle.aas_path_trees.specs.ElementAt.{child_by, element_at}
use Rattle.aas_path_trees.specs.Patched.{element_count}
use Rattle.aas_store.specs.Documents.{Documents}
use Rattle.aas_store.specs.Spots.{elements_of_all}
use Rattle.aas_resolve.specs.Resolved.{resolved}

-- the rank in preorder of the element to which a path leads, e itself having rank 0
unfoldable pub rank_below : List PathStep → Element → Option ℕ
rank_below [] e = Some 0
rank_below (s ∷ p) e =
    option_and_then (λ c. option_map (λ r. 1 + length (elements_of_all (take c.0 (kids_of e))) + r) (rank_below p c.1))
    (child_by (is_list e) s (kids_of e))

-- the same in a submodel, whose first child has rank 0
abbrev pub rank_at : Submodel → PathStep → List PathStep → Option ℕ
rank_at d s p =
    option_and_then (λ c. option_map (λ r. length (elements_of_all (take c.0 d.kids)) + r) (rank_below p c.1))
    (child_by false s d.kids)

-- a reference leads to the element to which a path leads: to its rank, at which it stands in preorder
pub record LeadsTo (m : Documents) (r : Reference) (d : Submodel) (s : PathStep) (p : List PathStep) : Type 0 where
  pub rank : ℕ
  pub resolves : resolved m r ≡ Ok (record { collection = Submodels; rank = Some rank })
  pub of_path : rank_at d s p ≡ Some rank
  pub there : slice_get (elements_of_all d.kids) rank ≡ element_at d (s ∷ p)

-- to an element of a submodel that stands under its own identifier and whose elements 64 bits count
abbrev pub ElementsLeadBack : Type 0
ElementsLeadBack =
    (m : Documents) (d : Submodel) (s : PathStep) (p : List PathStep) (r : Reference) → element_count d < 2 ^ 64
    → map.get m.submodels (encode_utf8_all d.head.id) ≡ Some d → reference_to d (s ∷ p) ≡ Some r → LeadsTo m r d s p

-- to that submodel itself
abbrev pub SubmodelsLeadBack : Type 0
SubmodelsLeadBack = (m : Documents) (d : Submodel) (r : Reference)
    → map.get m.submodels (encode_utf8_all d.head.id) ≡ Some d → reference_to d [] ≡ Some r
    → resolved m r ≡ Ok (record { collection = Submodels; rank = None })

-- to a shell that stands under its own identifier
abbrev pub ShellsLeadBack : Type 0
ShellsLeadBack = (m : Documents) (s : Shell) → map.get m.shells (encode_utf8_all s.head.id) ≡ Some s
    → resolved m (shell_reference s) ≡ Ok (record { collection = Shells; rank = None })
