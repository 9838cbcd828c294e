-- Trees of elements as rows in preorder: an element is followed by its children, each with its own children
-- (IDTA-01001-3-0, SubmodelElement). A row has an element's level and its own attributes.
use Rattle.std.specs.Prelude.{ℕ, ◌+◌, ◌<◌, ◌≤◌, nat_lt, List, [], ◌∷◌, map, if◌then◌else◌}
use Rattle.std.specs.List.{flat_map}
use Rattle.aas_model.specs.declared.common.Common.{Common}
use Rattle.aas_model.specs.declared.element.Element.{Element, Element-F, out-Element, roll-Element, fold-Element}
use Rattle.aas_model.specs.declared.element.Role.{Role}
use Rattle.aas_model.specs.declared.payload.Payload.{Payload}

pub record Line : Type 0 where
  pub level : ℕ
  pub common : Common
  pub payload : Payload
  pub role : Role

-- ---- from trees to rows

-- the row of an element that stands at a level
abbrev pub line_at : ℕ → Element → Line
line_at k e = record { level = k; common = (out-Element e).common; payload = (out-Element e).payload; role = (out-Element e).role }

abbrev pub Leveled : Type 0
Leveled = ℕ → List Line

abbrev pub rows_over : Element-F Leveled → Leveled
rows_over e k = record { level = k; common = e.common; payload = e.payload; role = e.role } ∷ flat_map (λ f. f (k + 1)) e.kids

-- the rows of an element that stands at a level, and of all below it
unfoldable pub rows : Element → ℕ → List Line
rows = fold-Element Leveled rows_over

abbrev pub rows_of_all : List Element → ℕ → List Line
rows_of_all es k = flat_map (λ e. rows e k) es

-- ---- from rows to trees

-- an element behind its level
abbrev pub Placed : Type 0
Placed = ℕ × Element

-- elements that all stand at one level
abbrev pub all_at : ℕ → List Element → List Placed
all_at k es = map (λ e. (k, e)) es

-- the rows of elements that stand at levels of their own
abbrev pub lines : List Placed → List Line
lines ps = flat_map (λ p. rows p.1 p.0) ps

-- those at the front that stand deeper than k
abbrev pub deeper : ℕ → List Placed → List Element
deeper k [] = []
deeper k (p ∷ ps) = if nat_lt k p.0 then p.1 ∷ deeper k ps else []

-- what is left behind those
abbrev pub beside : ℕ → List Placed → List Placed
beside k [] = []
beside k (p ∷ ps) = if nat_lt k p.0 then beside k ps else p ∷ ps

abbrev pub element_of : Line → List Element → Element
element_of r kids = roll-Element (record { common = r.common; payload = r.payload; role = r.role; kids = kids })

-- Each row is an element, and the elements right behind it that stand deeper are its children.
unfoldable pub forest : List Line → List Placed
forest [] = []
forest (r ∷ rs) = (r.level, element_of r (deeper r.level (forest rs))) ∷ beside r.level (forest rs)

-- the trees that rows stand for
abbrev pub trees_of : List Line → List Element
trees_of rs = map (λ p. p.1) (forest rs)

-- each level is below the level top, and at most one deeper than the one before it, the first than k
abbrev pub Steps : ℕ → ℕ → List ℕ → Type 0
Steps top k [] = Unit {0}
Steps top k (l ∷ ls) = (top < l) × (l ≤ k + 1) × Steps top l ls

abbrev pub levels_of : List Line → List ℕ
levels_of rs = map (λ r. r.level) rs

-- levels in preorder of all that stands below the level k
abbrev pub InPreorder : ℕ → List ℕ → Type 0
InPreorder k ls = Steps k k ls

-- the first stands no deeper than the level k
abbrev pub BeginsRows : ℕ → List Line → Type 0
BeginsRows k [] = Unit {0}
BeginsRows k (r ∷ rs) = r.level ≤ k

-- ---- subtree sizes

-- how many levels at the front are deeper than k
abbrev pub count_deeper : ℕ → List ℕ → ℕ
count_deeper k [] = 0
count_deeper k (l ∷ ls) = if nat_lt k l then 1 + count_deeper k ls else 0

-- for each row, how many rows its element has with all below it
abbrev pub sizes : List ℕ → List ℕ
sizes [] = []
sizes (l ∷ ls) = (1 + count_deeper l ls) ∷ sizes ls
