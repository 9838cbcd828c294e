use Rattle.std.proofs.Common.{ap, ◌∙◌}
use Rattle.aas_discovery.specs.Index.{Values, stands}
use Rattle.aas_discovery.proofs.Added.{has}
use Rattle.aas_discovery.proofs.Held.{given_up}
use Rattle.aas_discovery.proofs.index.remove_under.Goals as goal

pub returns-then-take_under : goal.returns-then-take_under
returns-then-take_under c = λ v k.
    ap (λ (m : Values). stands m v k) c.remove.ensures
    ∙ given_up (has k) c.take_under.new.values c.args.value.now v
    (c.take_under.ensures.none_left c.if-take_under.true k)
    ∙ c.take_under.ensures.taken v k
