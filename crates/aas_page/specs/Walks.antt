-- Walks over the pages of a collection: each page begins behind the last document of the one before, whatever becomes of the
-- documents between them.
use Rattle.std.specs.Prelude.{◌≡◌, ℕ, Bool, true, false, List, [], ◌∷◌, ◌++◌, Contains, Option, Some, None, ⊤}
use Rattle.std.specs.FinMap as fin
use Rattle.std.specs.List.{last_or}
use Rattle.aas_store.specs.Documents.{Identifier, Map, is_above}
use Rattle.aas_page.specs.Pages.{PageOf, ids_on, page_after}

-- one look at the documents as they then are, with the limit of that page
pub record Look (X : Type 0) : Type 0 where
  pub documents : Map X
  pub limit : ℕ

abbrev pub page_at : {X : Type 0} → (X → Bool) → Option Identifier → Look X → PageOf Identifier
page_at passes after look = ids_on (page_after passes after look.limit look.documents)

-- all that a walk lists, from behind an identifier on
abbrev pub listed : {X : Type 0} → (X → Bool) → Option Identifier → List (Look X) → List Identifier
listed passes after [] = []
listed passes after (look ∷ looks) = let ids = (page_at passes after look).entries in ids ++ listed passes (last_or after ids) looks

-- A walk goes on as long as a further document follows, and no longer.
abbrev pub IsWalk : {X : Type 0} → (X → Bool) → Option Identifier → List (Look X) → Type 0
IsWalk passes after [] = ⊥
IsWalk passes after (look ∷ []) = (page_at passes after look).more ≡ false
IsWalk passes after (look ∷ next ∷ looks) =
    let page = page_at passes after look in (page.more ≡ true) × IsWalk passes (last_or after page.entries) (next ∷ looks)

-- the document is there at every look, and passes
abbrev pub Stays : {X : Type 0} → (X → Bool) → Identifier → List (Look X) → Type 0
Stays passes id [] = ⊤
Stays {X = X} passes id (look ∷ looks) = ((x : X) × (fin.get look.documents id ≡ Some x) × (passes x ≡ true)) × Stays passes id looks

-- identifiers rise, all of them above another
abbrev pub Rise : Option Identifier → List Identifier → Type 0
Rise after [] = ⊤
Rise after (id ∷ ids) = (is_above after id ≡ true) × Rise (Some id) ids

-- A walk lists what stays and passes, and nothing twice: what it lists rises.
pub record ListsEachOnce (X : Type 0) : Type 0 where
  pub each : (passes : X → Bool) (looks : List (Look X)) (id : Identifier) → IsWalk passes None looks → Stays passes id looks
      → Contains (listed passes None looks) id
  pub once : (passes : X → Bool) (looks : List (Look X)) → Rise None (listed passes None looks)
