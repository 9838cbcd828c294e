-- A set of texts that stands for a list of them, and names that differ.
use Rattle.std.specs.Prelude.{◌≡◌, ◌∷◌, ◌++◌, ℕ, false, List, bytes_eq, IsUtf8, chars}
use Rattle.std.specs.List.{list_any}
use Rattle.std.specs.BTreeSet.{BTreeSet}
use denote.Ref.{Bor}
use Rattle.aas_constraint_rules.specs.Rules.{is_repeat, name_of}
use Rattle.aas_constraint_rules.specs.Sites.{Own}
use Rattle.aas_constraint_rules.specs.Texts.{is_among}

-- the set has the texts, in UTF-8, and no others
abbrev pub HasTexts : BTreeSet (Bor (List ℕ)) → List (List ℕ) → Type 0
HasTexts set texts = (bytes : List ℕ) → IsUtf8 bytes → list_any (λ k. bytes_eq bytes k.now) set.keys ≡ is_among (chars bytes) texts

-- no element has the idShort of an earlier one
abbrev pub NoRepeats : List Own → Type 0
NoRepeats owns = (b : List Own) (o : Own) (rest : List Own) → owns ≡ b ++ o ∷ rest → is_repeat b (name_of o) ≡ false
