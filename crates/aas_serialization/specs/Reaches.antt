-- What is reached from some identifiers: they, and each identifier to which one that is reached leads.
use Rattle.std.specs.Prelude.{◌≡◌, ◌↔◌, true, List, Contains}
use Rattle.std.specs.FinMap as map
use Rattle.aas_store.specs.Documents.{Identifier, Map}

-- a set of identifiers, in their order
abbrev pub Set : Type 0
Set = Map (Unit {0})

abbrev pub IsIn : {X : Type 0} → Map X → Identifier → Type 0
IsIn s id = map.contains_key s id ≡ true

pub data Reaches (next : Identifier → List Identifier) (roots : List Identifier) : Identifier → Type 0 where
  -- the roots
  at_root : (id : Identifier) → Contains roots id → Reaches next roots id
  -- that to which one leads
  onward : (from id : Identifier) → Reaches next roots from → Contains (next from) id → Reaches next roots id

-- The set has exactly what is reached. So it is the least that has the roots and, with each identifier, those to which it leads.
abbrev pub IsReached : (Identifier → List Identifier) → List Identifier → Set → Type 0
IsReached next roots s = (id : Identifier) → IsIn s id ↔ Reaches next roots id
