-- The least number that references break, in several lists.
use Rattle.std.proofs.Common.{◌≡◌, ℕ, ◌+◌, ◌<◌, ◌≤◌, List, [], ◌∷◌, ◌++◌, length, flat_map, drop, get_or, Option, Some, None, refl, sym, ap, ◌∙◌, length-drop, arith}
use Rattle.std.proofs.lemmas.List.{nil_from_length}
use Rattle.aas_lemmas.proofs.Lists.{drop_at}
use Rattle.aas_model.specs.declared.reference.Reference.{Reference}
use Rattle.aas_reference.specs.Faults.{least}
use Rattle.aas_reference.proofs.Faults.{least_none}
use Rattle.aas_constraint_parts.specs.References.{reference_fault, references_fault}

pub least_assoc : (a b c : Option ℕ) → least (least a b) c ≡ least a (least b c)
least_assoc None b c = refl
least_assoc (Some x) None c = refl
least_assoc (Some x) (Some y) None = refl
least_assoc (Some x) (Some y) (Some z) = ap Some (omega arith)

-- the least number of two lists
pub fault_append : (rs qs : List Reference) → references_fault (rs ++ qs) ≡ least (references_fault rs) (references_fault qs)
fault_append [] qs = refl
fault_append (r ∷ rs) qs = ap (least (reference_fault r)) (fault_append rs qs) ∙ sym (least_assoc (reference_fault r) (references_fault rs) (references_fault qs))

-- ---- the walk over things that hold references

module _ {X : Type 0} (references : X → List Reference) where
  abbrev pub fault_of_all : List X → Option ℕ
  fault_of_all xs = references_fault (flat_map references xs)

  pub one_more_fault : (xs : List X) (i : ℕ) (x : X) (all so_far here next : Option ℕ) → i < length xs → x ≡ get_or xs i x → here ≡ references_fault (references x) → next ≡ least so_far here
      → all ≡ least so_far (fault_of_all (drop i xs)) → all ≡ least next (fault_of_all (drop (i + 1) xs))
  one_more_fault xs i x all so_far here next lt at is sum h =
      let rest = fault_of_all (drop (i + 1) xs) in
      h ∙ ap (λ ys. least so_far (fault_of_all ys)) (drop_at xs i x lt at) ∙ ap (least so_far) (fault_append (references x) (flat_map references (drop (i + 1) xs)))
      ∙ sym (least_assoc so_far (references_fault (references x)) rest) ∙ ap (λ y. least (least so_far y) rest) (sym is) ∙ ap (λ y. least y rest) (sym sum)

  pub no_more_fault : (xs : List X) (i : ℕ) (all so_far : Option ℕ) → length xs ≤ i → all ≡ least so_far (fault_of_all (drop i xs)) → so_far ≡ all
  no_more_fault xs i all so_far le h =
      let none_left : drop i xs ≡ [] = nil_from_length (drop i xs) (omega (arith, length-drop i xs)) in
      sym (h ∙ ap (λ ys. least so_far (fault_of_all ys)) none_left ∙ least_none so_far)

-- references, each as a list of its own
pub single_list : (rs : List Reference) → references_fault (flat_map (λ r. r ∷ []) rs) ≡ references_fault rs
single_list [] = refl
single_list (r ∷ rs) = ap (least (reference_fault r)) (single_list rs)
