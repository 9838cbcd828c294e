use Rattle.std.proofs.Common.{ap, ◌∙◌}
use Rattle.aas_discovery.specs.Index.{Index, bears, stands}
use Rattle.aas_discovery.proofs.Held.{given_up}
use Rattle.aas_discovery.proofs.index.remove.Goals as goal

pub returns-then-take_named : goal.returns-then-take_named
returns-then-take_named c = λ n v k.
    ap (λ (m : Index). bears m n v k) c.remove.ensures
    ∙ given_up (λ values. stands values v k) c.take_named.new.index c.args.name.now n
    (c.take_named.ensures.none_left c.if-take_named.true v k)
    ∙ c.take_named.ensures.taken n v k
