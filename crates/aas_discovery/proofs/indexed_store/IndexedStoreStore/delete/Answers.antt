use Rattle.std.proofs.Common.{inl, inr, sym, ap}
use Rattle.aas_discovery.specs.declared.indexed_store.IndexedStore.TheInside.{Inside}
use Rattle.aas_discovery.proofs.Followed.{deleted_none, deleted_other, deleted_shell}
use Rattle.aas_discovery.proofs.indexed_store.IndexedStoreStore.delete.Goals as goal
use Rattle.aas_discovery.proofs.indexed_store.IndexedStoreStore.delete.Goals.{in-Shells+in-Some, in-Shells+in_default}
use Rattle.aas_discovery.proofs.indexed_store.IndexedStoreStore.delete.Goals.{in-Submodels, in-Concepts}

pub invariant_of-self : goal.invariant_of-self
invariant_of-self g c =
    let inside = c.self.inside in
    let joined = c.match-collection.self-inside in
    let before = g.S.Store.documents inside.inner in
    let between = g.S.Store.documents joined.inner in
    let after = g.S.Store.documents c.delete.new.self in
    let index_of = λ (x : Inside g.row.S.Denot g.row.S-Table.Denot). x.index in
    let documents_of = λ (x : Inside g.row.S.Denot g.row.S-Table.Denot). g.S.Store.documents x.inner in
    elim c.match-collection.branch [
      | in-Shells+in-Some w ↦
          deleted_shell inside.index joined.index w.forget.new.index before between after c.args.collection
          c.args.id.now w.in-Some.shell.now c.self.invariant
          (ap index_of w.self-inside-is) (ap documents_of w.self-inside-is) w.in-Shells.is (sym w.in-Some.ensures)
          w.forget.ensures c.delete.ensures
      | in-Shells+in_default w ↦
          deleted_none inside.index joined.index before between after c.args.collection c.args.id.now c.self.invariant
          (ap index_of w.self-inside-is) (ap documents_of w.self-inside-is) w.in-Shells.is (sym w.in_default.ensures)
          c.delete.ensures
      | in-Submodels w ↦
          deleted_other inside.index joined.index before between after c.args.collection c.args.id.now c.self.invariant
          (ap index_of w.self-inside-is) (ap documents_of w.self-inside-is) (inl w.in-Submodels.is) c.delete.ensures
      | in-Concepts w ↦
          deleted_other inside.index joined.index before between after c.args.collection c.args.id.now c.self.invariant
          (ap index_of w.self-inside-is) (ap documents_of w.self-inside-is) (inr w.in-Concepts.is) c.delete.ensures
    ]
