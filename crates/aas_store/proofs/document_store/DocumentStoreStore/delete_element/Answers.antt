use Rattle.std.proofs.Common.{IsSome, sym}
use Rattle.aas_path_trees.specs.Edits.{removed}
use Rattle.aas_path_trees.specs.ElementAt.{element_at}
use Rattle.aas_store.proofs.Changed.{changed, nothing_changed, of_table}
use Rattle.aas_store.proofs.document_store.DocumentStoreStore.delete_element.Goals as goal

pub remove-requires : goal.remove-requires
remove-requires g c =
    of_table g.T.Table.kept c.args.self.now c.args.id.now c.in-Some.table.now (sym c.in-Some.ensures.value) (λ s. IsSome (element_at s c.args.path.now.steps)) c.requires

pub returns-in-Some-clause-ok : goal.returns-in-Some-clause-ok
returns-in-Some-clause-ok g c =
    changed g.T.Table.kept c.args.self.now c.args.id.now c.in-Some.table.now (sym c.in-Some.ensures.value) c.remove.new.self (λ s. removed s c.args.path.now.steps) c.remove.ensures

pub returns-in-None-clause-ok : goal.returns-in-None-clause-ok
returns-in-None-clause-ok g c = nothing_changed g.T.Table.kept c.args.self.now c.args.id.now (λ s. removed s c.args.path.now.steps) (sym c.in-None.ensures.value)
