use Rattle.std.proofs.Common.{◌≡◌, refl, sym, subst, arith, ℕ, Bool, true, List, [], ◌∷◌, length}
use Rattle.std.specs.Prelude.{◌==◌}
use Rattle.std.proofs.lemmas.Bool.Decides.{nat_tests}
use Rattle.form_urlencoded.specs.Form.{raw_pairs, split}
use Rattle.aas_target.specs.Given.{Gives, nothing_given}
use Rattle.aas_target.specs.Query.{settings_of}
use Rattle.aas_target.specs.declared.parameter.Parameter.{Parameter}
use Rattle.aas_target.proofs.query.read_shown.Goals as goal

-- an empty query gives nothing
none_given : (listed : List Parameter) (query : List ℕ) → query ≡ [] → Gives listed query nothing_given
unfolding settings_of raw_pairs split
none_given listed query empty = subst (λ (q : List ℕ). Gives listed q nothing_given) (sym empty) refl

no_bytes : (query : List ℕ) (empty : Bool) → empty ≡ (length query == 0) → empty ≡ true → query ≡ []
no_bytes [] empty is none = refl
no_bytes (b ∷ query) empty is none = grind (arith, nat_tests)

-- src/query.rt:64:9
pub returns-then-is_empty-clause-ok : goal.returns-then-is_empty-clause-ok
returns-then-is_empty-clause-ok c = (nothing_given, none_given c.args.listed.now c.args.query.now (no_bytes c.args.query.now c.is_empty.result c.is_empty.ensures c.if-is_empty.true), search (c.by_default.ensures))
