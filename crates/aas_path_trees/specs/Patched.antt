-- Trees with new attributes for some elements, which are named by their places in preorder. This profile's own rule, for
-- the value updates of IDTA-01002-3-0.
use Rattle.std.specs.Prelude.{◌≡◌, ℕ, ◌+◌, ◌<◌, ◌==◌, if◌then◌else◌, List, [], ◌∷◌, All, length, map, slice_get, Some}
use Rattle.std.specs.List.{flat_map}
use Rattle.aas_model.specs.Payload.{kind_of}
use Rattle.aas_model.specs.declared.documents.Submodel.{Submodel}
use Rattle.aas_model.specs.declared.element.Element.{Element, Element-F, roll-Element, fold-Element}
use Rattle.aas_model.specs.declared.patch.PatchRow.{PatchRow}
use Rattle.aas_model.specs.declared.payload.Payload.{Payload}
use Rattle.aas_model_names.specs.declared.kind.Kind.{Kind}

-- the kinds of an element and of all below it, in preorder
abbrev pub kinds_over : Element-F (List Kind) → List Kind
kinds_over e = kind_of e.payload ∷ flat_map (λ ks. ks) e.kids

unfoldable pub kinds : Element → List Kind
kinds = fold-Element (List Kind) kinds_over

abbrev pub kinds_of_all : List Element → List Kind
kinds_of_all ks = flat_map kinds ks

-- how many elements a submodel has, at all levels: as many as kinds in preorder
abbrev pub element_count : Submodel → ℕ
element_count d = length (kinds_of_all d.kids)

-- each rank is above the one before, and the first above k
abbrev pub RiseFrom : ℕ → List PatchRow → Type 0
RiseFrom k [] = Unit {0}
RiseFrom k (r ∷ rows) = (k < r.rank) × RiseFrom r.rank rows

abbrev pub Rise : List PatchRow → Type 0
Rise [] = Unit {0}
Rise (r ∷ rows) = RiseFrom r.rank rows

-- each rank is above the one before, and the element at each rank is there and has the kind of the row's payload
pub record Fits (ks : List Kind) (rows : List PatchRow) : Type 0 where
  pub rising : Rise rows
  pub kinds_agree : All (λ r. slice_get ks r.rank ≡ Some (kind_of r.payload)) rows

-- the payload of the first row of rank k, or else the element's own
abbrev pub payload_at : ℕ → List PatchRow → Payload → Payload
payload_at k [] own = own
payload_at k (r ∷ rows) own = if r.rank == k then r.payload else payload_at k rows own

-- from a rank to an element that stands there, and the rank behind it
abbrev pub Ranked : Type 0
Ranked = ℕ → Element × ℕ

-- one element behind the other
abbrev pub in_order : List Ranked → ℕ → List Element × ℕ
in_order [] k = ([], k)
in_order (f ∷ fs) k = let first = f k in let more = in_order fs first.1 in (first.0 ∷ more.0, more.1)

abbrev pub patched_over : List PatchRow → Element-F Ranked → Ranked
patched_over rows e k =
    let kids = in_order e.kids (k + 1) in
    (roll-Element (record { common = e.common; payload = payload_at k rows e.payload; role = e.role; kids = kids.0 }), kids.1)

-- e, which stands at rank k, with the payload of the row of this rank if there is one, and its children patched in their
-- order from rank k + 1 on
unfoldable pub patched : List PatchRow → Element → Ranked
patched rows = fold-Element Ranked (patched_over rows)

-- elements that stand from rank k on
abbrev pub patched_all : List PatchRow → List Element → ℕ → List Element × ℕ
patched_all rows ks = in_order (map (patched rows) ks)

-- d, whose first child stands at rank 0
abbrev pub patched_submodel : List PatchRow → Submodel → Submodel
patched_submodel rows d = record d { kids = (patched_all rows d.kids 0).0 }
