use Rattle.std.proofs.Common.{sym, ap, ◌∙◌}
use Rattle.aas_discovery.specs.Carriers.{if_any}
use Rattle.aas_discovery.proofs.Paged.{carriers_are, no_carriers}
use Rattle.aas_discovery.proofs.indexed_store.IndexedStore.ids.Goals as goal

pub returns-in-Some : goal.returns-in-Some
returns-in-Some g c =
    c.if_any.ensures ∙ ap if_any (carriers_are c.in-Some.ids.now (g.S.Store.documents c.args.self.now).shells
    c.args.name.now c.args.value.now c.in-Some.ensures)

pub returns-in-None : goal.returns-in-None
returns-in-None g c = sym (ap if_any (no_carriers (g.S.Store.documents c.args.self.now).shells c.args.name.now
    c.args.value.now c.in-None.ensures))
