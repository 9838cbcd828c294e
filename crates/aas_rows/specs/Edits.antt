-- What an edit of a tree makes of its rows.
use Rattle.std.specs.Prelude.{◌≡◌, ℕ, ◌+◌, ◌≤◌, Bool, List, [], ◌∷◌, ◌++◌, length, take, Option, Some, option_and_then, option_map}
use Rattle.aas_model.specs.declared.element.Element.{Element}
use Rattle.aas_model.specs.declared.patch.PatchRow.{PatchRow}
use Rattle.aas_model.specs.declared.path.PathStep.{PathStep}
use Rattle.aas_path_trees.specs.Children.{kids_of, is_list}
use Rattle.aas_path_trees.specs.Edits.{removed_among}
use Rattle.aas_path_trees.specs.ElementAt.{child_by}
use Rattle.aas_path_trees.specs.Patched.{kinds_of_all, payload_at}
use Rattle.aas_path_trees.specs.WithElement.{with_among}
use Rattle.aas_rows.specs.Rows.{Line, rows, rows_of_all, BeginsRows}

-- rows from rank k on, each with the payload of the patch's row of its rank if there is one
abbrev pub patched_rows : List PatchRow → ℕ → List Line → List Line
patched_rows patch k [] = []
patched_rows patch k (r ∷ rs) = record r { payload = payload_at k patch r.payload } ∷ patched_rows patch (k + 1) rs

-- how many elements there are with all below them: as many as kinds in preorder
abbrev pub count : List Element → ℕ
count es = length (kinds_of_all es)

-- the rank, from an element's own on, of what a path leads to from it
unfoldable pub rank_below : List PathStep → Element → Option ℕ
rank_below [] e = Some 0
rank_below (s ∷ p) e = option_map (λ r. 1 + r) (option_and_then (λ c. option_map (λ r. count (take c.0 (kids_of e)) + r) (rank_below p c.1)) (child_by (is_list e) s (kids_of e)))

-- the same among the children of a list or of something else, from the rank of the first on
abbrev pub rank_among : Bool → PathStep → List PathStep → List Element → Option ℕ
rank_among l s p ks = option_and_then (λ c. option_map (λ r. count (take c.0 ks) + r) (rank_below p c.1)) (child_by l s ks)

-- The element e, to which a step and then a path lead among es, stands in one part of the rows of es, and an edit there
-- changes that part alone.
pub record StandsIn (l : Bool) (s : PathStep) (p : List PathStep) (es : List Element) (k : ℕ) (e : Element) : Type 0 where
  pub before : List Line
  pub behind : List Line
  pub level : ℕ
  pub at : rank_among l s p es ≡ Some (length before)
  pub whole : rows_of_all es k ≡ before ++ (rows e level ++ behind)
  pub edited : (w : Element) → rows_of_all (with_among l s p es w) k ≡ before ++ (rows w level ++ behind)
  pub removed : rows_of_all (removed_among l s p es) k ≡ before ++ behind
  pub higher : BeginsRows level behind
  pub deep : k ≤ level
