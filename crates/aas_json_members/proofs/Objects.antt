-- Objects of the table, from what their rows find.
use Rattle.std.proofs.Common.{◌≡◌, ℕ, List, [], ◌∷◌, Bool, true, false, ◌&&◌, if◌then◌else◌, Option, Some, None, is_some, refl, sym, ap, ap₂, subst, ◌∙◌}
use Rattle.std.specs.Str.{bytes_eq}
use Rattle.serde_json.specs.Data.{Data, object}
use Rattle.aas_json_table.specs.Table.{MemberType, Row}
use Rattle.aas_json_table.specs.Rows.{sorted, row_named}
use Rattle.aas_json_table.specs.Canonical.{canonical_object, members_by, are_there}
use Rattle.aas_json_table.specs.Spelled.{Attributes, attribute, spelled}
use Rattle.aas_json_spelling.proofs.Objects.{same_members, same_there}
-- that two find the same under each row
pub use Rattle.aas_json_spelling.proofs.Objects.{Agree}

-- ---- an object with all that its rows demand

-- what finds the same reads the same
pub same_object : (rows : List Row) (g h : List ℕ → MemberType → Option Data) → Agree rows g h → canonical_object (Some rows) g ≡ canonical_object (Some rows) h
same_object rows g h e = ap₂ (λ b ms. if b then Some (object ms) else None) (same_there rows g h e) (same_members rows g h e)

-- The spelling of attributes is what an object says in which each row finds its attribute.
pub spelled_as : (rows : List Row) (attributes : Attributes) (g : List ℕ → MemberType → Option Data) → are_there (sorted rows) (attribute attributes) ≡ true → Agree (sorted rows) (attribute attributes) g
    → Some (spelled rows attributes) ≡ canonical_object (Some (sorted rows)) g
spelled_as rows attributes g whole e =
    ap (λ b. if b then Some (object (members_by (sorted rows) (attribute attributes))) else None) (sym whole) ∙ same_object (sorted rows) (attribute attributes) g e

-- ---- an object without what a row demands

first_lacks : (b : Bool) (o : Option Data) (rest : Bool) → b ≡ true → o ≡ None → (if b then is_some o && rest else rest) ≡ false
first_lacks b o rest e n = rw (e, n) refl

later_lacks : (b : Bool) (o : Option Data) (rest : Bool) → rest ≡ false → (if b then is_some o && rest else rest) ≡ false
later_lacks true None rest e = refl
later_lacks true (Some d) rest e = e
later_lacks false o rest e = e

lacks_at : (b : Bool) (x : Row) (rest : Option Row) (r : Row) (g : List ℕ → MemberType → Option Data) (there : Bool) → (if b then Some x else rest) ≡ Some r → r.required ≡ true → g r.name r.member_type ≡ None
    → (rest ≡ Some r → there ≡ false) → (if x.required then is_some (g x.name x.member_type) && there else there) ≡ false
lacks_at true x rest r g there e q n later =
    let same : r ≡ x = cc in
    let P : Row → Type 0 = λ y. (y.required ≡ true) × (g y.name y.member_type ≡ None) in
    let here : P x = subst P same (q, n) in
    first_lacks x.required (g x.name x.member_type) there here.0 here.1
lacks_at false x rest r g there e q n later = later_lacks x.required (g x.name x.member_type) there (later e)

not_there : (rows : List Row) (n : List ℕ) (r : Row) (g : List ℕ → MemberType → Option Data) → row_named n rows ≡ Some r → r.required ≡ true → g r.name r.member_type ≡ None → are_there rows g ≡ false
not_there [] n r g e q h = cc
not_there (x ∷ xs) n r g e q h = lacks_at (bytes_eq n x.name) x (row_named n xs) r g (are_there xs g) e q h (λ k. not_there xs n r g k q h)

-- An object without what a required row names says nothing.
pub lacks : (rows : List Row) (n : List ℕ) (r : Row) (g : List ℕ → MemberType → Option Data) → row_named n rows ≡ Some r → r.required ≡ true → g r.name r.member_type ≡ None → canonical_object (Some rows) g ≡ None
lacks rows n r g e q h = ap (λ b. if b then Some (object (members_by rows g)) else None) (not_there rows n r g e q h)
