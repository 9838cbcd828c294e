-- The rows of an object in the order in which the table lists them, and in byte order.
use Rattle.std.proofs.Common.{◌≡◌, ℕ, List, [], ◌∷◌, ◌&&◌, Bool, true, false, Option, Some, None, is_some, if◌then◌else◌, Ordering, Less, Equal, Greater, nat_cmp, refl, sym, ap, ◌∙◌}
use Rattle.std.specs.Cmp.Lexicographic.{slice_cmp}
use Rattle.std.specs.Ordering.{match_ordering}
use Rattle.serde_json.specs.Data.{Data, object}
use Rattle.aas_json_table.specs.Table.{MemberType, Row}
use Rattle.aas_json_table.specs.Rows.{insert_row, sorted}
use Rattle.aas_json_table.specs.Canonical.{canonical_object, members_by, are_there}
use Rattle.aas_json_table.specs.Spelled.{Attributes, attribute, spelled}
use Rattle.aas_json_spelling.proofs.Rows.{rising}
use Rattle.aas_json_spelling.proofs.Objects.{same_object, same_under, same_there}
use Rattle.aas_json_members.proofs.Objects.{Agree, spelled_as}

-- ---- each required member is there, in both orders

there_swapped : (a x b y rest : Bool) → (if b then y && (if a then x && rest else rest) else (if a then x && rest else rest)) ≡ (if a then x && (if b then y && rest else rest) else (if b then y && rest else rest))
there_swapped true true true y rest = refl
there_swapped true false true true rest = refl
there_swapped true false true false rest = refl
there_swapped true x false y rest = refl
there_swapped false x b y rest = refl

there_inserted : (r : Row) (rows : List Row) (g : List ℕ → MemberType → Option Data) → are_there (insert_row r rows) g ≡ are_there (r ∷ rows) g
there_inserted r [] g = refl
there_inserted r (s ∷ ss) g = by_order (slice_cmp nat_cmp r.name s.name) (there_inserted r ss g)
  where
    by_order : (o : Ordering) → are_there (insert_row r ss) g ≡ are_there (r ∷ ss) g → are_there (match_ordering o (r ∷ s ∷ ss) (r ∷ s ∷ ss) (s ∷ insert_row r ss)) g ≡ are_there (r ∷ s ∷ ss) g
    by_order Less e = refl
    by_order Equal e = refl
    by_order Greater e =
        ap (λ b. if s.required then is_some (g s.name s.member_type) && b else b) e
        ∙ there_swapped r.required (is_some (g r.name r.member_type)) s.required (is_some (g s.name s.member_type)) (are_there ss g)

pub there_sorted : (rows : List Row) (g : List ℕ → MemberType → Option Data) → are_there (sorted rows) g ≡ are_there rows g
there_sorted [] g = refl
there_sorted (r ∷ rs) g = there_inserted r (sorted rs) g ∙ ap (λ b. if r.required then is_some (g r.name r.member_type) && b else b) (there_sorted rs g)

-- ---- attributes that agree, in both orders

agree_inserted : (r : Row) (rows : List Row) (g h : List ℕ → MemberType → Option Data) → g r.name r.member_type ≡ h r.name r.member_type → Agree rows g h → Agree (insert_row r rows) g h
agree_inserted r [] g h a agree = (a, tt)
agree_inserted r (s ∷ ss) g h a agree = by_order (slice_cmp nat_cmp r.name s.name) (agree_inserted r ss g h a agree.1)
  where
    by_order : (o : Ordering) → Agree (insert_row r ss) g h → Agree (match_ordering o (r ∷ s ∷ ss) (r ∷ s ∷ ss) (s ∷ insert_row r ss)) g h
    by_order Less later = (a, agree)
    by_order Equal later = (a, agree)
    by_order Greater later = (agree.0, later)

agree_sorted : (rows : List Row) (g h : List ℕ → MemberType → Option Data) → Agree rows g h → Agree (sorted rows) g h
agree_sorted [] g h agree = tt
agree_sorted (r ∷ rs) g h agree = agree_inserted r (sorted rs) g h agree.0 (agree_sorted rs g h agree.1)

inserted_agree : (r : Row) (rows : List Row) (g h : List ℕ → MemberType → Option Data) → Agree (insert_row r rows) g h → (g r.name r.member_type ≡ h r.name r.member_type) × Agree rows g h
inserted_agree r [] g h agree = (agree.0, tt)
inserted_agree r (s ∷ ss) g h agree = by_order (slice_cmp nat_cmp r.name s.name) (inserted_agree r ss g h) agree
  where
    by_order : (o : Ordering) → (Agree (insert_row r ss) g h → (g r.name r.member_type ≡ h r.name r.member_type) × Agree ss g h) → Agree (match_ordering o (r ∷ s ∷ ss) (r ∷ s ∷ ss) (s ∷ insert_row r ss)) g h
        → (g r.name r.member_type ≡ h r.name r.member_type) × Agree (s ∷ ss) g h
    by_order Less later agree = (agree.0, agree.1)
    by_order Equal later agree = (agree.0, agree.1)
    by_order Greater later agree = let rest = later agree.1 in (rest.0, (agree.0, rest.1))

sorted_agree : (rows : List Row) (g h : List ℕ → MemberType → Option Data) → Agree (sorted rows) g h → Agree rows g h
sorted_agree [] g h agree = tt
sorted_agree (r ∷ rs) g h agree = let rest = inserted_agree r (sorted rs) g h agree in (rest.0, sorted_agree rs g h rest.1)

-- ---- objects

-- an object spells attributes: each is found under its row, and what is required is there
pub record Found (rows : List Row) (attributes : Attributes) (g : List ℕ → MemberType → Option Data) : Type 0 where
  pub agree : Agree rows (attribute attributes) g
  pub there : are_there rows (attribute attributes) ≡ true

-- what is found is what the object says
pub found_says : (rows : List Row) (attributes : Attributes) (g : List ℕ → MemberType → Option Data) → Found rows attributes g → Some (spelled rows attributes) ≡ canonical_object (Some (sorted rows)) g
found_says rows attributes g f =
    spelled_as rows attributes g (there_sorted rows (attribute attributes) ∙ f.there) (agree_sorted rows (attribute attributes) g f.agree)

-- what an object says is found in it
pub says_found : (rows : List Row) (attributes : Attributes) (g : List ℕ → MemberType → Option Data) → rising (sorted rows) ≡ true → Some (spelled rows attributes) ≡ canonical_object (Some (sorted rows)) g → Found rows attributes g
says_found rows attributes g rise e = by_there (are_there (sorted rows) g) refl e
  where
    by_there : (b : Bool) → are_there (sorted rows) g ≡ b → Some (spelled rows attributes) ≡ (if b then Some (object (members_by (sorted rows) g)) else None) → Found rows attributes g
    by_there false there e = cc
    by_there true there e =
        let same : spelled rows attributes ≡ object (members_by (sorted rows) g) = cc in
        let agree = same_under (sorted rows) (attribute attributes) g rise (same_object (members_by (sorted rows) (attribute attributes)) (members_by (sorted rows) g) same) in record {
          agree = sorted_agree rows (attribute attributes) g agree;
          there = sym (there_sorted rows (attribute attributes)) ∙ same_there (sorted rows) (attribute attributes) g agree ∙ there;
        }
