-- A walk over the identifiers of a set, in their order.
use Rattle.std.proofs.Common.{◌≡◌, suc, ◌<◌, List, [], ◌∷◌, ◌++◌, length, flat_map, Option, Some, None, refl, sym, ap, ◌∙◌, arith, append_assoc}
use Rattle.std.specs.FinMap as fin
use Rattle.std.specs.FinMap.{entries_sorted}
use Rattle.std.specs.List.{cons_option, filter_map}
use Rattle.std.specs.Option.{option_to_list}
use Rattle.std.proofs.lemmas.Grind.{flat_map-append}
use Rattle.std.proofs.lemmas.List.{append-nil}
use Rattle.std.proofs.lemmas.List.Elements.{filter_map-append}
use Rattle.aas_model.specs.declared.reference.Reference.{Reference}
use Rattle.aas_store.specs.Documents.{Documents, Identifier, Map, first_above}
use Rattle.aas_store.proofs.Above.{above, all_above_none, keys_rise, next, none_above}
use Rattle.aas_serialization.specs.Reaches.{Set}
use Rattle.aas_serialization.specs.Taken.{TakesAlong}
use Rattle.aas_serialization.specs.declared.taken.Taken.{Taken}
use Rattle.aas_serialization.proofs.Along.{along_both, along_nothing, along_same}

-- ---- those up to one, and those above it

abbrev pub left : Option Identifier → Set → List Identifier
left after s = above after (fin.keys s)

pub nothing_left : (s : Set) → left None s ≡ fin.keys s
nothing_left s = all_above_none (fin.keys s)

pub left_next : (s : Set) (after : Option Identifier) (id : Identifier) → first_above after (fin.keys s) ≡ Some id → left after s ≡ id ∷ left (Some id) s
left_next s after id is = next after id (fin.keys s) (keys_rise (fin.entries s) (entries_sorted s)) is

pub all_left : (s : Set) (after : Option Identifier) → first_above after (fin.keys s) ≡ None → left after s ≡ []
all_left s after is = none_above after (fin.keys s) is

-- these were passed
abbrev pub IsPassed : Set → Option Identifier → List Identifier → Type 0
IsPassed s after done = fin.keys s ≡ done ++ left after s

none_passed : (s : Set) → IsPassed s None []
none_passed s = sym (nothing_left s)

one_passed : (s : Set) (after : Option Identifier) (id : Identifier) (done : List Identifier) → first_above after (fin.keys s) ≡ Some id → IsPassed s after done → IsPassed s (Some id) (done ++ id ∷ [])
one_passed s after id done is so_far = so_far ∙ ap (λ rest. done ++ rest) (left_next s after id is) ∙ sym (append_assoc done (id ∷ []) (left (Some id) s))

all_passed : (s : Set) (after : Option Identifier) (done : List Identifier) → first_above after (fin.keys s) ≡ None → IsPassed s after done → done ≡ fin.keys s
all_passed s after done is so_far = sym (so_far ∙ ap (λ rest. done ++ rest) (all_left s after is) ∙ append-nil done)

pub fewer_left : (s : Set) (after : Option Identifier) (id : Identifier) → first_above after (fin.keys s) ≡ Some id → length (left (Some id) s) < length (left after s)
fewer_left s after id is = let more : length (left after s) ≡ suc (length (left (Some id) s)) = ap length (left_next s after id is) in omega (arith, more)

-- ---- a walk that takes what each one's references name

pub record HasTaken (m : Documents) (roots : Identifier → List Reference) (s : Set) (start now : Taken) (after : Option Identifier) : Type 0 where
  pub done : List Identifier
  pub passed : IsPassed s after done
  pub takes : TakesAlong m start now (flat_map roots done)

module _ (m : Documents) (roots : Identifier → List Reference) (s : Set) where
  pub taking_begun : (start : Taken) → HasTaken m roots s start start None
  taking_begun start = record { done = []; passed = none_passed s; takes = along_nothing m start }

  pub taking_next : (start now new : Taken) (after : Option Identifier) (id : Identifier) → first_above after (fin.keys s) ≡ Some id
      → HasTaken m roots s start now after → TakesAlong m now new (roots id) → HasTaken m roots s start new (Some id)
  taking_next start now new after id is so_far more = record {
    done = so_far.done ++ id ∷ [];
    passed = one_passed s after id so_far.done is so_far.passed;
    takes = along_same m start new (flat_map roots so_far.done ++ roots id) (flat_map roots (so_far.done ++ id ∷ []))
        (ap (λ (rs : List Reference). flat_map roots so_far.done ++ rs) (sym (append-nil (roots id))) ∙ sym (flat_map-append roots so_far.done (id ∷ [])))
        (along_both m start now new (flat_map roots so_far.done) (roots id) so_far.takes more);
  }

  pub taking_ended : (start now : Taken) (after : Option Identifier) → first_above after (fin.keys s) ≡ None → HasTaken m roots s start now after
      → TakesAlong m start now (flat_map roots (fin.keys s))
  taking_ended start now after is so_far =
      along_same m start now (flat_map roots so_far.done) (flat_map roots (fin.keys s)) (ap (flat_map roots) (all_passed s after so_far.done is so_far.passed)) so_far.takes

-- ---- a walk that copies the document of each

pub record HasCopied {D : Type 0} (m : Map D) (s : Set) (now : List D) (after : Option Identifier) : Type 0 where
  pub done : List Identifier
  pub passed : IsPassed s after done
  pub copies : now ≡ filter_map (fin.get m) done

module _ {D : Type 0} (m : Map D) (s : Set) where
  pub copying_begun : (now : List D) → now ≡ [] → HasCopied m s now None
  copying_begun now is = record { done = []; passed = none_passed s; copies = is }

  with_one : (done : List Identifier) (id : Identifier) → filter_map (fin.get m) (done ++ id ∷ []) ≡ filter_map (fin.get m) done ++ option_to_list (fin.get m id)
  with_one done id = filter_map-append (fin.get m) done (id ∷ []) ∙ ap (λ (l : List D). filter_map (fin.get m) done ++ l) (alone (fin.get m id))
    where
      alone : (o : Option D) → cons_option o [] ≡ option_to_list o
      alone None = refl
      alone (Some x) = refl

  pub copying_next : (now new : List D) (after : Option Identifier) (id : Identifier) → first_above after (fin.keys s) ≡ Some id → new ≡ now ++ option_to_list (fin.get m id)
      → HasCopied m s now after → HasCopied m s new (Some id)
  copying_next now new after id is added so_far = record {
    done = so_far.done ++ id ∷ [];
    passed = one_passed s after id so_far.done is so_far.passed;
    copies = added ∙ ap (λ (l : List D). l ++ option_to_list (fin.get m id)) so_far.copies ∙ sym (with_one so_far.done id);
  }

  pub copying_ended : (now : List D) (after : Option Identifier) → first_above after (fin.keys s) ≡ None → HasCopied m s now after → now ≡ filter_map (fin.get m) (fin.keys s)
  copying_ended now after is so_far = so_far.copies ∙ ap (filter_map (fin.get m)) (all_passed s after so_far.done is so_far.passed)
