use Rattle.std.proofs.Common.{ℕ, List, refl, ap, ◌∙◌}
use Rattle.std.specs.List.{list_any}
use Rattle.aas_store.specs.Documents.{Identifier}
use Rattle.aas_discovery.specs.Entries.{touches}
use Rattle.aas_discovery.specs.declared.indexed_store.IndexedStore.TheInside.{Inside}
use Rattle.aas_discovery.proofs.Followed.{all_apart, settled, still_in}
use Rattle.aas_discovery.proofs.indexed_store.IndexedStoreStore.put_all.Goals as goal
use Rattle.aas_discovery.proofs.indexed_store.IndexedStoreStore.put_all.Goals.{in-Ok, in-Err}

pub invariant_of-self : goal.invariant_of-self
invariant_of-self g c =
    let inside = c.self.inside in
    let joined = c.match-add_each.self-inside in
    let before = g.S.Store.documents inside.inner in
    let index_of = λ (x : Inside g.row.S.Denot g.row.S-Table.Denot). x.index in
    let documents_of = λ (x : Inside g.row.S.Denot g.row.S-Table.Denot). g.S.Store.documents x.inner in
    let touch = λ (n v : List ℕ) (k : Identifier). list_any (touches before.shells n v k) c.as_slice.result.now in
    elim c.match-add_each.branch [
      | in-Ok w ↦
          settled inside.index c.add_each.new.index joined.index c.settle.new.index c.new-touched.result
          c.sort.new.entries c.as_slice-2.result.now c.as_slice-3.result.now
          before (g.S.Store.documents w.put_all-put.new.self) (g.S.Store.documents joined.inner) touch
          c.self.invariant (ap index_of w.self-inside-is) (ap documents_of w.self-inside-is) c.new-touched.ensures
          c.as_slice-2.ensures c.as_slice-3.ensures c.add_each.ensures.grown
          (λ n v k. c.sort.ensures n v k ∙ c.in_ok-list_all_touched.ensures n v k) c.settle.ensures
          (λ n v k l there. w.in-Ok.ensures.all n v k l)
          (all_apart w.put_all-put.result before (g.S.Store.documents w.put_all-put.new.self) c.args.environment
          c.as_slice.result.now c.as_slice.ensures w.put_all-put.ensures.ok w.put_all-put.ensures.err)
      | in-Err w ↦
          settled inside.index c.add_each.new.index joined.index c.settle.new.index c.new-touched.result
          c.sort.new.entries c.as_slice-2.result.now c.as_slice-3.result.now
          before before (g.S.Store.documents joined.inner) touch
          c.self.invariant (ap index_of w.self-inside-is) (ap documents_of w.self-inside-is) c.new-touched.ensures
          c.as_slice-2.ensures c.as_slice-3.ensures c.add_each.ensures.grown
          (λ n v k. c.sort.ensures n v k ∙ c.in_ok-list_all_touched.ensures n v k) c.settle.ensures
          (still_in inside.index c.add_each.new.index c.as_slice-2.result.now before.shells c.self.invariant
          c.add_each.ensures.grown)
          (λ n v k none. refl)
    ]
