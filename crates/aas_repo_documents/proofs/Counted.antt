-- Counting elements off, one behind the other.
use Rattle.std.proofs.Common.{◌≡◌, ◌≢◌, ℕ, suc, ◌+◌, ◌-◌, ◌<◌, List, length, ap, arith, MatchOption, Option, Some, None}
use Rattle.aas_model.specs.declared.element.Element.{Element}
use Rattle.aas_path_trees.proofs.Patches.{kinds_out}
use Rattle.aas_path_trees.specs.Children.{kids_of}
use Rattle.aas_path_trees.specs.Patched.{kinds, kinds_of_all}

pub count_out : (e : Element) (ks : List Element) → ks ≡ kids_of e → length (kinds e) ≡ length (kinds_of_all ks) + 1
count_out e ks kids =
    let all : length (kinds_of_all ks) ≡ length (kinds_of_all (kids_of e)) = ap (λ ks. length (kinds_of_all ks)) kids in
    let out : length (kinds e) ≡ suc (length (kinds_of_all (kids_of e))) = ap length (kinds_out e) in
    omega (arith, all, out)

-- an element before those below it
pub counted : (rest : Option ℕ) (left m n : ℕ)
    → left ≢ 0 → n ≡ m + 1 → MatchOption rest (left - 1 < m) (λ r. r + m ≡ left - 1)
    → MatchOption rest (left < n) (λ r. r + n ≡ left)
counted None left m n some is fewer = omega (arith, some, is, fewer)
counted (Some r) left m n some is same = omega (arith, some, is, same)
