-- What a test says.
use Rattle.std.proofs.Common.{◌≡◌, Bool, true, false, ◌↔◌, IsTrue}

pub holds : {P : Type 0} (b : Bool) → b ≡ true → IsTrue b ↔ P → P
holds b e says = says.0 e

pub fails : {P : Type 0} (b : Bool) → b ≡ false → IsTrue b ↔ P → ¬ P
fails b e says p = let yes : b ≡ true = says.1 p in absurd (cc)
