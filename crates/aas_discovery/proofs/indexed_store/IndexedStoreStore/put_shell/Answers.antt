use Rattle.std.proofs.Common.{ℕ, List, refl, ap}
use Rattle.aas_store.specs.Documents.{Identifier}
use Rattle.aas_discovery.specs.Entries.{touches}
use Rattle.aas_discovery.specs.declared.indexed_store.IndexedStore.TheInside.{Inside}
use Rattle.aas_discovery.proofs.Followed.{put_apart, settled, still_in}
use Rattle.aas_discovery.proofs.indexed_store.IndexedStoreStore.put_shell.Goals as goal
use Rattle.aas_discovery.proofs.indexed_store.IndexedStoreStore.put_shell.Goals.{in-Ok, in-Err}

pub invariant_of-self : goal.invariant_of-self
invariant_of-self g c =
    let inside = c.self.inside in
    let joined = c.match-add_each.self-inside in
    let before = g.S.Store.documents inside.inner in
    let index_of = λ (x : Inside g.row.S.Denot g.row.S-Table.Denot). x.index in
    let documents_of = λ (x : Inside g.row.S.Denot g.row.S-Table.Denot). g.S.Store.documents x.inner in
    let touch = λ (n v : List ℕ) (k : Identifier). touches before.shells n v k c.args.shell in
    elim c.match-add_each.branch [
      | in-Ok w ↦
          settled inside.index c.add_each.new.index joined.index c.settle.new.index c.new-touched.result
          c.list_touched.new.entries c.as_slice.result.now c.as_slice-2.result.now
          before (g.S.Store.documents w.put_shell-put.new.self) (g.S.Store.documents joined.inner) touch
          c.self.invariant (ap index_of w.self-inside-is) (ap documents_of w.self-inside-is) c.new-touched.ensures
          c.as_slice.ensures c.as_slice-2.ensures c.add_each.ensures.grown
          c.in_ok-list_touched.ensures c.settle.ensures
          (λ n v k l there. w.in-Ok.ensures.all n v k l)
          (put_apart w.put_shell-put.result before (g.S.Store.documents w.put_shell-put.new.self) c.args.shell
          w.put_shell-put.ensures.ok w.put_shell-put.ensures.err)
      | in-Err w ↦
          settled inside.index c.add_each.new.index joined.index c.settle.new.index c.new-touched.result
          c.list_touched.new.entries c.as_slice.result.now c.as_slice-2.result.now
          before before (g.S.Store.documents joined.inner) touch
          c.self.invariant (ap index_of w.self-inside-is) (ap documents_of w.self-inside-is) c.new-touched.ensures
          c.as_slice.ensures c.as_slice-2.ensures c.add_each.ensures.grown
          c.in_ok-list_touched.ensures c.settle.ensures
          (still_in inside.index c.add_each.new.index c.as_slice.result.now before.shells c.self.invariant
          c.add_each.ensures.grown)
          (λ n v k none. refl)
    ]
