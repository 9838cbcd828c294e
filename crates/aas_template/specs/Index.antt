-- The children of a template by their idShorts.
use Rattle.std.specs.Prelude.{◌≡◌, ℕ, ◌<◌, ◌==◌, Bool, true, false, List, [], ◌∷◌, ◌++◌, slice_get, bytes_eq, chars}
use Rattle.std.specs.Prelude.{Option, Some, None}
use Rattle.std.specs.BTreeMap.{BTreeMap, get_by}
use Rattle.std.specs.Cmp.Lexicographic.{slice_cmp}
use Rattle.std.specs.List.{list_all}
use Rattle.std.specs.Map.{update}
use Rattle.std.specs.Ordering.{nat_cmp}
use Rattle.std.specs.Str.{encode_utf8_all}
use denote.Ref.{Bor}
use Rattle.aas_model.specs.declared.element.Element.{Element}
use Rattle.aas_constraint_rules.specs.Sites.{Own, own_of}
use Rattle.aas_template.specs.Belonging.{admits, id_short, is_numbering}

abbrev pub Places : Type 0
Places = BTreeMap (Bor (List ℕ)) ℕ

abbrev pub name_of : Element → List ℕ
name_of e = id_short (own_of e)

-- the place that is known for a text in UTF-8
abbrev pub place_at : Places → List ℕ → Option ℕ
place_at m bytes = get_by (λ k. slice_cmp nat_cmp bytes k.now) m

-- an element that has this idShort stands at place j, before n
pub record Stands (ts : List Element) (n j : ℕ) (name : List ℕ) : Type 0 where
  pub before : j < n
  pub element : Element
  pub there : slice_get ts j ≡ Some element
  pub named : name_of element ≡ name

-- the places of the first n of ts are known by their idShorts, and nothing else
pub record IsIndex (ts : List Element) (n : ℕ) (m : Places) : Type 0 where
  pub found : (bytes : List ℕ) (j : ℕ) → place_at m bytes ≡ Some j → Stands ts n j (chars bytes)
  pub known : (j : ℕ) (t : Element) → j < n → slice_get ts j ≡ Some t
      → place_at m (encode_utf8_all (name_of t)) ≡ Some j

abbrev pub is_at : ℕ → Option ℕ → Bool
is_at j None = false
is_at j (Some i) = j == i

-- ---- texts cut at their ends

-- it doesn't end with an ASCII digit or _
abbrev pub EndsOtherwise : List ℕ → Type 0
EndsOtherwise m = (r : List ℕ) (c : ℕ) → m ≡ r ++ c ∷ [] → is_numbering c ≡ false

-- r is m without its last character, which is one of these
pub record IsShorter (m r : List ℕ) : Type 0 where
  pub last : ℕ
  pub is : m ≡ r ++ last ∷ []
  pub numbers : is_numbering last ≡ true

-- ---- what one call does

-- n knows what m knows, and the place i for these bytes
abbrev pub Puts : Places → Places → List ℕ → ℕ → Type 0
Puts m n bytes i = (cs : List ℕ) → place_at n cs ≡ update bytes_eq (place_at m) bytes (Some i) cs

-- each child of this idShort is refused
unfoldable pub Refused : List Element → Own → List ℕ → Type 0
Refused ts k n = (j : ℕ) (t : Element) → slice_get ts j ≡ Some t → name_of t ≡ n → admits (own_of t) k ≡ false

-- the child at this place has the idShort and admits k
pub record Admitted (ts : List Element) (k : Own) (n : List ℕ) (i : ℕ) : Type 0 where
  pub element : Element
  pub there : slice_get ts i ≡ Some element
  pub named : name_of element ≡ n
  pub admits_it : admits (own_of element) k ≡ true

-- m is r, followed by ASCII digits and _ alone
pub record Cut (m r : List ℕ) : Type 0 where
  pub tail : List ℕ
  pub is : m ≡ r ++ tail
  pub numbers : list_all is_numbering tail ≡ true
