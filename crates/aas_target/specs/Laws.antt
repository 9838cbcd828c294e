-- Laws of queries.
use Rattle.std.specs.Prelude.{◌≡◌, ℕ, List}
use Rattle.aas_target.specs.Given.{Gives, IsBadIn}
use Rattle.aas_target.specs.declared.given.Given.{Given}
use Rattle.aas_target.specs.declared.parameter.Parameter.{Parameter}

-- A query gives one thing, or one parameter is the first that is bad in it, and never both.
pub record QueriesSayOne : Type 0 where
  pub gives : (listed : List Parameter) (query : List ℕ) (a b : Given) → Gives listed query a → Gives listed query b → a ≡ b
  pub bad : (listed : List Parameter) (query : List ℕ) (p q : Parameter) → IsBadIn listed query p → IsBadIn listed query q → p ≡ q
  pub either : (listed : List Parameter) (query : List ℕ) (a : Given) (p : Parameter) → Gives listed query a → ¬ IsBadIn listed query p
