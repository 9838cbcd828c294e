use Rattle.aas_environment.specs.Environments.{environment_of}
use Rattle.aas_environment.proofs.Poured.{all_members}
use Rattle.aas_environment.proofs.pouring.pour_environment.Goals as goal

pub returns : goal.returns
returns g c =
    all_members (environment_of (g.S.Store.documents c.args.store.now))
    c.put_member-shells.result.later c.put_member-concepts.result.later
    c.args.so_far c.add_text.result c.put_member-shells.result.state
    c.put_member-concepts.result.state c.put_member-submodels.result.state c.add_text-2.result
    (g.O.TextEnd.told c.args.out.now) (g.O.TextEnd.told c.add_text.new.out)
    (g.O.TextEnd.told c.put_member-shells.new.out) (g.O.TextEnd.told c.put_member-concepts.new.out)
    (g.O.TextEnd.told c.put_member-submodels.new.out) (g.O.TextEnd.told c.add_text-2.new.out)
    c.put_member-shells.ensures.later c.put_member-concepts.ensures.later
    c.add_text.ensures c.put_member-shells.ensures.text c.put_member-concepts.ensures.text
    c.put_member-submodels.ensures.text c.add_text-2.ensures
