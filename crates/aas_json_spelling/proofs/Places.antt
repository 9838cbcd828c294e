-- The steps of a pointer that a walk names: a member or an item, and what lies in it.
use Rattle.std.proofs.Common.{◌≡◌, ◌⊎◌, ℕ, suc, ◌+◌, List, ◌∷◌, Option, Some, None, option_map, inl, inr, refl, ap, ◌∙◌, arith}
use Rattle.std.proofs.lemmas.Option.{same_Some}
use Rattle.serde_json.specs.Data.{Data, Items, item, Members, member}
use Rattle.serde_json.specs.Find.{get_item}
use Rattle.aas_json_table.specs.Table.{MemberType, plain, Row}
use Rattle.aas_json_table.specs.Rows.{Pointer, in_member, in_item, first_of, row_named}
use Rattle.aas_json_table.specs.Conforms.{IsMember}

-- the first of two answers, or the other
pub first_answer : {A : Type 0} (a b : Option A) (x : A) → first_of a b ≡ Some x → (a ≡ Some x) ⊎ (b ≡ Some x)
first_answer None b x e = inr e
first_answer (Some y) b x e = inl e

-- an answer within a step
pub record Within {T : Type 0} (step : T → Pointer) (o : Option T) (p : Pointer) : Type 0 where
  pub inside : T
  pub found : o ≡ Some inside
  pub is : step inside ≡ p

pub within_step : {T : Type 0} (step : T → Pointer) (o : Option T) (p : Pointer) → option_map step o ≡ Some p → Within step o p
within_step step None p e = cc
within_step step (Some q) p e = record { inside = q; found = refl; is = same_Some (step q) p e }

-- what a place is told by, as a member of a type
abbrev pub Place : Type 1
Place = MemberType → Data → Pointer → Type 0

-- a member that has a row, and the place in it
pub record InMember (Leads : Place) (rows : List Row) (ms : Members) (p : Pointer) : Type 0 where
  pub name : List ℕ
  pub value : Data
  pub row : Row
  pub inside : Pointer
  pub place : IsMember name value ms
  pub known : row_named name rows ≡ Some row
  pub leads : Leads row.member_type value inside
  pub is : (in_member name ∷ inside) ≡ p

-- a member of kept data, and the place in it
pub record InPlain (Leads : Place) (ms : Members) (p : Pointer) : Type 0 where
  pub name : List ℕ
  pub value : Data
  pub inside : Pointer
  pub place : IsMember name value ms
  pub leads : Leads plain value inside
  pub is : (in_member name ∷ inside) ≡ p

-- an item, of which the first has place n, and the place in it
pub record InItem (Leads : Place) (f : MemberType) (n : ℕ) (ds : Items) (p : Pointer) : Type 0 where
  pub index : ℕ
  pub value : Data
  pub inside : Pointer
  pub place : get_item index ds ≡ Some value
  pub leads : Leads f value inside
  pub is : (in_item (n + index) ∷ inside) ≡ p

-- ---- behind the first

pub later_member : (Leads : Place) (rows : List Row) (k : List ℕ) (d : Data) (ms : Members) (p : Pointer) → InMember Leads rows ms p → InMember Leads rows (member k d ms) p
later_member Leads rows k d ms p m = record { name = m.name; value = m.value; row = m.row; inside = m.inside; place = inr m.place; known = m.known; leads = m.leads; is = m.is }

pub later_plain : (Leads : Place) (k : List ℕ) (d : Data) (ms : Members) (p : Pointer) → InPlain Leads ms p → InPlain Leads (member k d ms) p
later_plain Leads k d ms p m = record { name = m.name; value = m.value; inside = m.inside; place = inr m.place; leads = m.leads; is = m.is }

pub later_item : (Leads : Place) (f : MemberType) (n : ℕ) (d : Data) (ds : Items) (p : Pointer) → InItem Leads f (n + 1) ds p → InItem Leads f n (item d ds) p
later_item Leads f n d ds p i =
    let same : n + suc i.index ≡ (n + 1) + i.index = omega arith in
    record { index = suc i.index; value = i.value; inside = i.inside; place = i.place; leads = i.leads; is = ap (λ m. in_item m ∷ i.inside) same ∙ i.is }

-- ---- the first

pub here_member : (Leads : Place) (rows : List Row) (k : List ℕ) (d : Data) (ms : Members) (r : Row) (o : Option Pointer) (p : Pointer) → row_named k rows ≡ Some r → ((q : Pointer) → o ≡ Some q → Leads r.member_type d q)
    → option_map (λ q. in_member k ∷ q) o ≡ Some p → InMember Leads rows (member k d ms) p
here_member Leads rows k d ms r o p known each e =
    let b = within_step (λ q. in_member k ∷ q) o p e in
    record { name = k; value = d; row = r; inside = b.inside; place = inl (refl, refl); known = known; leads = each b.inside b.found; is = b.is }

pub here_plain : (Leads : Place) (k : List ℕ) (d : Data) (ms : Members) (o : Option Pointer) (p : Pointer) → ((q : Pointer) → o ≡ Some q → Leads plain d q) → option_map (λ q. in_member k ∷ q) o ≡ Some p
    → InPlain Leads (member k d ms) p
here_plain Leads k d ms o p each e =
    let b = within_step (λ q. in_member k ∷ q) o p e in record { name = k; value = d; inside = b.inside; place = inl (refl, refl); leads = each b.inside b.found; is = b.is }

pub here_item : (Leads : Place) (f : MemberType) (n : ℕ) (d : Data) (ds : Items) (o : Option Pointer) (p : Pointer) → ((q : Pointer) → o ≡ Some q → Leads f d q) → option_map (λ q. in_item n ∷ q) o ≡ Some p
    → InItem Leads f n (item d ds) p
here_item Leads f n d ds o p each e =
    let b = within_step (λ q. in_item n ∷ q) o p e in
    let same : n + 0 ≡ n = omega arith in
    record { index = 0; value = d; inside = b.inside; place = refl; leads = each b.inside b.found; is = ap (λ m. in_item m ∷ b.inside) same ∙ b.is }

-- ---- the first, or one behind it

pub pick_plain : (Leads : Place) (k : List ℕ) (d : Data) (ms : Members) (o later : Option Pointer) (p : Pointer) → first_of (option_map (λ q. in_member k ∷ q) o) later ≡ Some p → ((q : Pointer) → o ≡ Some q → Leads plain d q)
    → (later ≡ Some p → InPlain Leads ms p) → InPlain Leads (member k d ms) p
pick_plain Leads k d ms o later p e here rest = by_answer (first_answer (option_map (λ q. in_member k ∷ q) o) later p e)
  where
    by_answer : (option_map (λ q. in_member k ∷ q) o ≡ Some p) ⊎ (later ≡ Some p) → InPlain Leads (member k d ms) p
    by_answer (inl e) = here_plain Leads k d ms o p here e
    by_answer (inr e) = later_plain Leads k d ms p (rest e)

pub pick_item : (Leads : Place) (f : MemberType) (n : ℕ) (d : Data) (ds : Items) (o later : Option Pointer) (p : Pointer) → first_of (option_map (λ q. in_item n ∷ q) o) later ≡ Some p → ((q : Pointer) → o ≡ Some q → Leads f d q)
    → (later ≡ Some p → InItem Leads f (n + 1) ds p) → InItem Leads f n (item d ds) p
pick_item Leads f n d ds o later p e here rest = by_answer (first_answer (option_map (λ q. in_item n ∷ q) o) later p e)
  where
    by_answer : (option_map (λ q. in_item n ∷ q) o ≡ Some p) ⊎ (later ≡ Some p) → InItem Leads f n (item d ds) p
    by_answer (inl e) = here_item Leads f n d ds o p here e
    by_answer (inr e) = later_item Leads f n d ds p (rest e)

-- an item of a whole array
pub at_index : (Leads : Place) (f : MemberType) (ds : Items) (p : Pointer) (i : InItem Leads f 0 ds p) → (in_item i.index ∷ i.inside) ≡ p
at_index Leads f ds p i = let same : i.index ≡ 0 + i.index = omega arith in ap (λ m. in_item m ∷ i.inside) same ∙ i.is
