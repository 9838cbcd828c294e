use Rattle.std.proofs.Common.{◌≡◌, rules}
use Rattle.std.specs.Ordering.{is_lt}
use Rattle.std.proofs.lemmas.Fn.{always_returns_same}
use Rattle.aas_constraint_rules.specs.Sites.{own_of}
use Rattle.aas_constraint_parts.proofs.Rising.{by_name, no_repeats}
use Rattle.aas_constraint_parts.proofs.names.names_rise.Goals as goal

pub returns : goal.returns
returns c =
    no_repeats c.args.elements.now c.is_sorted_by.result _
    (c.is_sorted_by.ensures.cases (λ x y. is_lt (by_name (own_of x) (own_of y)))
    (always_returns_same _ (λ a r. r ≡ is_lt (by_name (own_of a.0.now) (own_of a.1.0.now))) _ (λ a r q k. search rules)))
