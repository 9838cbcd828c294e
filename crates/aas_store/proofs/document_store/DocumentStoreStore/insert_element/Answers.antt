use Rattle.std.proofs.Common.{IsSome, sym}
use Rattle.aas_path_trees.specs.Edits.{inserted, role_at}
use Rattle.aas_store.specs.Storable.{IsStorable}
use Rattle.aas_store.proofs.Changed.{changed_if, nothing_changed, of_table, unchanged_if}
use Rattle.aas_store.proofs.document_store.DocumentStoreStore.insert_element.Goals as goal

pub insert-requires-clause-takes : goal.insert-requires-clause-takes
insert-requires-clause-takes g c =
    of_table g.T.Table.kept c.args.self.now c.args.id.now c.in-Some.table.now (sym c.in-Some.ensures.value) (λ s. IsSome (role_at s c.args.path.now.steps c.args.element)) c.requires.takes

pub insert-requires-clause-storable : goal.insert-requires-clause-storable
insert-requires-clause-storable g c =
    of_table g.T.Table.kept c.args.self.now c.args.id.now c.in-Some.table.now (sym c.in-Some.ensures.value) (λ s. IsStorable (inserted s c.args.path.now.steps c.args.element)) c.requires.storable

pub returns-in-Some-clause-ok : goal.returns-in-Some-clause-ok
returns-in-Some-clause-ok g c =
    changed_if g.T.Table.kept c.args.self.now c.args.id.now c.in-Some.table.now (sym c.in-Some.ensures.value) c.insert.result c.insert.new.self (λ s. inserted s c.args.path.now.steps c.args.element) c.insert.ensures.ok

pub returns-in-Some-clause-err : goal.returns-in-Some-clause-err
returns-in-Some-clause-err g c = unchanged_if g.T.Table.kept c.args.self.now c.args.id.now c.in-Some.table.now (sym c.in-Some.ensures.value) c.insert.result c.insert.new.self c.insert.ensures.err

pub returns-in-None-clause-ok : goal.returns-in-None-clause-ok
returns-in-None-clause-ok g c = nothing_changed g.T.Table.kept c.args.self.now c.args.id.now (λ s. inserted s c.args.path.now.steps c.args.element) (sym c.in-None.ensures.value)
