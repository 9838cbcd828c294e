use Rattle.aas_store.proofs.Shelves.{absent_there, removed_absent}
use Rattle.aas_discovery.proofs.Marks.{is_within, removed}
use Rattle.aas_discovery.proofs.ids.Ids.remove.Goals as goal

pub remove-requires : goal.remove-requires
remove-requires c = is_within c.self.inside.ids c.self.invariant c.args.self.now c.self.view_is c.args.id.now
    c.in-Ok.place c.in-Ok.ensures

pub invariant_of-self : goal.invariant_of-self
invariant_of-self c = rw c.remove.ensures.rest (removed c.self.inside.ids c.self.invariant c.args.self.now
    c.self.view_is c.args.id.now c.in-Ok.place c.in-Ok.ensures).0

pub returns-in-Ok : goal.returns-in-Ok
returns-in-Ok c = rw c.remove.ensures.rest (removed c.self.inside.ids c.self.invariant c.args.self.now c.self.view_is
    c.args.id.now c.in-Ok.place c.in-Ok.ensures).1

pub returns-in_default : goal.returns-in_default
returns-in_default c = removed_absent c.args.self.now c.args.id.now
    (absent_there c.args.self.now c.args.id.now c.in_default.field-0 c.in_default.ensures)
