-- What an update of values leaves alone. This profile's own rule.
use Rattle.std.specs.Prelude.{Bool, true, false, if◌then◌else◌, List, [], ◌∷◌, map}
use Rattle.std.specs.List.{flat_map}
use Rattle.aas_model.specs.declared.element.Element.{Element, roll-Element, fold-Element}
use Rattle.aas_model.specs.declared.element.Element.TheOpen.{Element-F}
use Rattle.aas_model.specs.declared.payload.Payload.{Payload}
use Rattle.aas_model.specs.declared.payload.Payload.TheVariants as p
use Rattle.aas_value.specs.ValueForm.{shows_children}
use Rattle.aas_constraint_laws.specs.Values.{without_values}

-- ---- in one list: Operations and Capabilities

abbrev pub has_value : Payload → Bool
has_value p.Capability = false
has_value p.Operation = false
has_value _ = true

-- an element, and those of it that no value form shows
pub record Unshown : Type 0 where
  pub element : Element
  pub unshown : List Element

abbrev pub unshown_over : Element-F Unshown → Unshown
unshown_over e =
    let itself = roll-Element (record {
      common = e.common;
      payload = e.payload;
      role = e.role;
      kids = map (λ k. k.element) e.kids;
    }) in
    record { element = itself; unshown = if has_value e.payload then flat_map (λ k. k.unshown) e.kids else itself ∷ [] }

-- the Operations and Capabilities in preorder, each with all that lies below it
unfoldable pub unshown : Element → List Element
unshown e = (fold-Element Unshown unshown_over e).unshown

-- ---- in one tree

-- an element, and what an update of its values leaves alone
pub record Left : Type 0 where
  pub element : Element
  pub alone : Element

abbrev pub left_over : Element-F Left → Left
left_over e = record {
  element = roll-Element (record {
    common = e.common;
    payload = e.payload;
    role = e.role;
    kids = map (λ k. k.element) e.kids;
  });
  alone = roll-Element (record {
    common = e.common;
    payload = without_values e.payload;
    role = e.role;
    kids = map (λ k. if shows_children e.payload then k.alone else k.element) e.kids;
  });
}

-- an element without its values: all but the members of class V,
-- in itself and in the children that its value form shows
unfoldable pub left_alone : Element → Element
left_alone e = (fold-Element Left left_over e).alone
