-- The text of a path, or of none, is that of no other.
use Rattle.std.proofs.Common.{◌≡◌, ◌≤◌, ℕ, List, [], ◌∷◌, ◌++◌, length, refl, sym, arith}
use Rattle.std.specs.Prelude.{flat_map}
use Rattle.aas_lexical.proofs.NamesAscii.{name_bytes}
use Rattle.aas_model.specs.declared.path.PathStep.{PathStep}
use Rattle.aas_model.specs.declared.path.PathStep.TheVariants.{Name, Place}
use Rattle.aas_path.proofs.NameSteps.{IsName, name_from}
use Rattle.aas_path.proofs.PathSteps.{one_path}
use Rattle.aas_path.specs.PathText.{path_text, step_text}
use Rattle.aas_command.specs.Commands.{IsPlace}
use Rattle.std.specs.Str.{encode_utf8_all}
use Rattle.aas_path_trees.specs.PathRule.{KeepsRule}

some_path : (s : PathStep) (p : List PathStep) → KeepsRule (s ∷ p) → path_text (s ∷ p) ≡ [] → ⊥
some_path (Name n) p h e = named n (encode_utf8_all n) (flat_map step_text p) (name_from n h.0) (name_bytes n h.0.0) e
  where
    named : (n m rest : List ℕ) → IsName n → m ≡ n → m ++ rest ≡ [] → ⊥
    named [] m rest is same e = absurd is.begins
    named (c ∷ n) [] rest is same e = cc
    named (c ∷ n) (d ∷ m) rest is same e = cc
some_path (Place i) p h e = absurd h

pub one_place : (p q : List PathStep) → IsPlace p → IsPlace q → path_text p ≡ path_text q → p ≡ q
one_place [] [] a b e = refl
one_place [] (t ∷ q) a b e = absurd (some_path t q b (sym e))
one_place (s ∷ p) [] a b e = absurd (some_path s p a e)
one_place (s ∷ p) (t ∷ q) a b e = one_path (path_text (s ∷ p)) (s ∷ p) (t ∷ q) (refl, a) (e, b)

pub some_steps : (p : List PathStep) → KeepsRule p → 1 ≤ length p
some_steps [] h = absurd h
some_steps (s ∷ p) h = omega arith
