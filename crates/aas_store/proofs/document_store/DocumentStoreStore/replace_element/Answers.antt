use Rattle.std.proofs.Common.{sym}
use Rattle.aas_path_trees.specs.Edits.{replaced}
use Rattle.aas_store.specs.Edited.{CanReplace}
use Rattle.aas_store.specs.Storable.{IsStorable}
use Rattle.aas_store.proofs.Changed.{changed_if, nothing_changed, of_table, unchanged_if}
use Rattle.aas_store.proofs.document_store.DocumentStoreStore.replace_element.Goals as goal

pub replace-requires-clause-fits : goal.replace-requires-clause-fits
replace-requires-clause-fits g c =
    of_table g.T.Table.kept c.args.self.now c.args.id.now c.in-Some.table.now (sym c.in-Some.ensures.value) (λ s. CanReplace s c.args.path.now.steps c.args.element) c.requires.fits

pub replace-requires-clause-storable : goal.replace-requires-clause-storable
replace-requires-clause-storable g c =
    of_table g.T.Table.kept c.args.self.now c.args.id.now c.in-Some.table.now (sym c.in-Some.ensures.value) (λ s. IsStorable (replaced s c.args.path.now.steps c.args.element)) c.requires.storable

pub returns-in-Some-clause-ok : goal.returns-in-Some-clause-ok
returns-in-Some-clause-ok g c =
    changed_if g.T.Table.kept c.args.self.now c.args.id.now c.in-Some.table.now (sym c.in-Some.ensures.value) c.replace.result c.replace.new.self (λ s. replaced s c.args.path.now.steps c.args.element) c.replace.ensures.ok

pub returns-in-Some-clause-err : goal.returns-in-Some-clause-err
returns-in-Some-clause-err g c = unchanged_if g.T.Table.kept c.args.self.now c.args.id.now c.in-Some.table.now (sym c.in-Some.ensures.value) c.replace.result c.replace.new.self c.replace.ensures.err

pub returns-in-None-clause-ok : goal.returns-in-None-clause-ok
returns-in-None-clause-ok g c = nothing_changed g.T.Table.kept c.args.self.now c.args.id.now (λ s. replaced s c.args.path.now.steps c.args.element) (sym c.in-None.ensures.value)
