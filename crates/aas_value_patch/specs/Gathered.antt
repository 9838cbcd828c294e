-- The rows of a patch that a walk in preorder gathers.
use Rattle.std.specs.Prelude.{◌≡◌, ℕ, ◌<◌, ◌≤◌, List, [], ◌∷◌, ◌++◌, length, slice_get, Option, Some, None}
use Rattle.std.specs.Prelude.{Result, IfOk}
use Rattle.serde_json.specs.Data.{Data}
use Rattle.aas_json_spelling.specs.Values.{IsOrdered}
use Rattle.aas_model.specs.Payload.{kind_of}
use Rattle.aas_model.specs.declared.element.Element.{Element}
use Rattle.aas_model.specs.declared.patch.PatchRow.{PatchRow}
use Rattle.aas_model.specs.declared.payload.Payload.{Payload}
use Rattle.aas_model_names.specs.declared.kind.Kind.{Kind}
use Rattle.aas_model.specs.declared.path.PathStep.{PathStep}
use Rattle.aas_path_trees.specs.Patched.{Rise, payload_at, kinds, kinds_of_all, patched, patched_all}
use Rattle.aas_value_update.specs.Forms.{part_of}
use Rattle.aas_value_update.specs.Laws.{IsInOrder}
use Rattle.aas_value_update.specs.LeftAlone.{left_alone}
use Rattle.aas_value_update.specs.Shape.{first_misshapen}
use Rattle.aas_value_update.specs.Took.{TookOne}
use Rattle.aas_value_patch.specs.declared.preparing.ValueFault.{ValueFault}

-- ---- elements

-- u is e with v laid over its values
pub record HasTaken (e : Element) (v : Data) (u : Element) : Type 0 where
  pub rest : left_alone u ≡ left_alone e
  pub form : TookOne (part_of e) (Some v) (part_of u)

-- the same for what was sent, where e stays if nothing was
abbrev pub IsTaken : Element → Option Data → Element → Type 0
IsTaken e None u = u ≡ e
IsTaken e (Some v) u = HasTaken e v u

abbrev pub AreTaken : List Element → List (Option Data) → List Element → Type 0
AreTaken [] [] [] = Unit {0}
AreTaken (k ∷ ks) (s ∷ ss) (u ∷ us) = IsTaken k s u × AreTaken ks ss us
AreTaken ks ss us = ⊥

-- ---- rows

-- each row has the kind of the element at its rank
abbrev pub HaveKinds : List Kind → List PatchRow → Type 0
HaveKinds ks [] = Unit {0}
HaveKinds ks (r ∷ rows) = (slice_get ks r.rank ≡ Some (kind_of r.payload)) × HaveKinds ks rows

-- the rows fit elements of the kinds seen
pub record SoFar (seen : List Kind) (rows : List PatchRow) : Type 0 where
  pub rising : Rise rows
  pub kinds_agree : HaveKinds seen rows

-- the same payloads at the ranks from n to below m
abbrev pub SameFrom : ℕ → ℕ → List PatchRow → List PatchRow → Type 0
SameFrom n m all rows = (j : ℕ) (own : Payload) → n ≤ j → j < m → payload_at j all own ≡ payload_at j rows own

-- behind elements of the kinds seen stands e: rows came to the old ones, by which it takes what was sent
pub record Gathered (e : Element) (sent : Option Data) (seen : List Kind) (old new : List PatchRow) : Type 0 where
  pub fit : SoFar (seen ++ kinds e) new
  pub stays : SameFrom 0 (length seen) new old
  pub taken : (all : List PatchRow)
      → SameFrom (length seen) (length (seen ++ kinds e)) all new → IsTaken e sent (patched all e (length seen)).0

-- the same of elements that stand in a row
pub record GatheredAll (ks : List Element) (sent : List (Option Data)) (seen : List Kind) (old new : List PatchRow) :
    Type 0 where
  pub fit : SoFar (seen ++ kinds_of_all ks) new
  pub stays : SameFrom 0 (length seen) new old
  pub taken : (all : List PatchRow) → SameFrom (length seen) (length (seen ++ kinds_of_all ks)) all new
      → AreTaken ks sent (patched_all all ks (length seen)).0

-- the elements in rest are left of ks, the rank is that of the first of them, and what they add completes what ks add
pub record Reached (ks : List Element) (sent : List (Option Data)) (seen : List Kind) (old : List PatchRow)
    (rest : List Element) (left : List (Option Data)) (rank : ℕ) (rows : List PatchRow) : Type 0 where
  pub now : List Kind
  pub at : length now ≡ rank
  pub fit : SoFar now rows
  pub whole : now ++ kinds_of_all rest ≡ seen ++ kinds_of_all ks
  pub done : (new : List PatchRow) → GatheredAll rest left now rows new → GatheredAll ks sent seen old new

-- ---- what is known of what is given

abbrev pub AllInOrder : List Element → Type 0
AllInOrder ks = (i : ℕ) (k : Element) → slice_get ks i ≡ Some k → IsInOrder k

abbrev pub IfOrdered : Option Data → Type 0
IfOrdered None = Unit {0}
IfOrdered (Some d) = IsOrdered d

abbrev pub AllOrdered : List (Option Data) → Type 0
AllOrdered [] = Unit {0}
AllOrdered (s ∷ ss) = IfOrdered s × AllOrdered ss

-- ---- answers of the walk

abbrev pub misshapen : Element → Option Data → Option (List PathStep)
misshapen e None = None
misshapen e (Some v) = first_misshapen e v

abbrev pub GathersRows : Result ℕ ValueFault → Element → Option Data → ℕ → List PatchRow → List PatchRow → Type 0
GathersRows result e sent rank old new =
    IfOk result (λ after. IsInOrder e → IfOrdered sent → (seen : List Kind) → length seen ≡ rank → SoFar seen old
    → (after ≡ length (seen ++ kinds e)) × Gathered e sent seen old new)

abbrev pub GathersAllRows : Result ℕ ValueFault → List Element
    → List (Option Data) → ℕ → List PatchRow → List PatchRow → Type 0
GathersAllRows result ks sent rank old new =
    IfOk result (λ after. AllInOrder ks → AllOrdered sent → (seen : List Kind) → length seen ≡ rank → SoFar seen old
    → (after ≡ length (seen ++ kinds_of_all ks)) × GatheredAll ks sent seen old new)
