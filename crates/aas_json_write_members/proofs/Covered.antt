-- Of fields that may be there, those with some names are all that are there.
use Rattle.std.proofs.Common.{◌≡◌, ℕ, ◌&&◌, Bool, true, false, List, [], ◌∷◌, ◌++◌, map, Option, Some, None}
use Rattle.std.proofs.Common.{if◌then◌else◌, refl, ap}
use Rattle.std.specs.Str.{bytes_eq}
use Rattle.aas_json_write_members.specs.Members.{Field, field_text, fields_text}

-- a field, and whether it may be taken
abbrev pub Slot : Type 0
Slot = Bool × Field

abbrev pub fields_in : List Slot → List Field
fields_in ss = map (λ s. s.1) ss

-- the fields with these names, in their order, the first of a name that may be taken
abbrev pub taken : List Slot → List (List ℕ) → List Field
taken [] ns = []
taken (s ∷ ss) [] = taken ss []
taken (s ∷ ss) (n ∷ ns) = if s.0 && bytes_eq s.1.0 n then s.1 ∷ taken ss ns else taken ss (n ∷ ns)

-- the values of the others
abbrev pub left_over : List Slot → List (List ℕ) → List (Option (List ℕ))
left_over [] ns = []
left_over (s ∷ ss) [] = s.1.1 ∷ left_over ss []
left_over (s ∷ ss) (n ∷ ns) = if s.0 && bytes_eq s.1.0 n then left_over ss ns else s.1.1 ∷ left_over ss (n ∷ ns)

abbrev pub AreAbsent : List (Option (List ℕ)) → Type 0
AreAbsent [] = Unit {0}
AreAbsent (None ∷ os) = AreAbsent os
AreAbsent (Some v ∷ os) = ⊥

same_front : (f : Field) (fs gs : List Field) → ((b : Bool) → fields_text b fs ≡ fields_text b gs) → (later : Bool)
    → fields_text later (f ∷ fs) ≡ fields_text later (f ∷ gs)
same_front (n, None) fs gs same later = same later
same_front (n, Some v) fs gs same later = ap (λ t. field_text later n v ++ t) (same true)

absent_front : (n : List ℕ) (o : Option (List ℕ)) (os : List (Option (List ℕ))) (fs gs : List Field)
    → AreAbsent (o ∷ os) → (AreAbsent os → (b : Bool) → fields_text b fs ≡ fields_text b gs)
    → (later : Bool) → fields_text later ((n, o) ∷ fs) ≡ fields_text later gs
absent_front n None os fs gs absent same later = same absent later
absent_front n (Some v) os fs gs absent same later = absurd absent

pub taken_are_all : (ss : List Slot) (ns : List (List ℕ)) → AreAbsent (left_over ss ns) → (later : Bool)
    → fields_text later (fields_in ss) ≡ fields_text later (taken ss ns)
taken_are_all [] ns absent later = refl
taken_are_all (s ∷ ss) [] absent later =
    absent_front s.1.0 s.1.1 (left_over ss []) (fields_in ss) (taken ss []) absent (taken_are_all ss []) later
taken_are_all (s ∷ ss) (n ∷ ns) absent later =
    by_name (s.0 && bytes_eq s.1.0 n) absent (taken_are_all ss ns) (taken_are_all ss (n ∷ ns))
  where
    by_name : (b : Bool) → AreAbsent (if b then left_over ss ns else s.1.1 ∷ left_over ss (n ∷ ns))
        → (AreAbsent (left_over ss ns) → (l : Bool) → fields_text l (fields_in ss) ≡ fields_text l (taken ss ns))
        → (AreAbsent (left_over ss (n ∷ ns)) → (l : Bool)
        → fields_text l (fields_in ss) ≡ fields_text l (taken ss (n ∷ ns)))
        → fields_text later (s.1 ∷ fields_in ss)
        ≡ fields_text later (if b then s.1 ∷ taken ss ns else taken ss (n ∷ ns))
    by_name true absent here past = same_front s.1 (fields_in ss) (taken ss ns) (here absent) later
    by_name false absent here past =
        absent_front s.1.0 s.1.1 (left_over ss (n ∷ ns)) (fields_in ss) (taken ss (n ∷ ns)) absent past later
