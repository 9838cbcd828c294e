use Rattle.std.proofs.Common.{◌≡◌, Some, sym}
use Rattle.aas_store.specs.Edited.{FitsAt, patched_at}
use Rattle.aas_store.specs.Spots.{rank_at}
use Rattle.aas_store.proofs.Changed.{changed, nothing_changed, of_table, of_table_if}
use Rattle.aas_store.proofs.document_store.DocumentStoreStore.update.Goals as goal

pub update-requires-clause-ranked : goal.update-requires-clause-ranked
update-requires-clause-ranked g c =
    of_table_if g.T.Table.kept c.args.self.now c.args.id.now c.in-Some.table.now (sym c.in-Some.ensures.value) c.args.rank (λ n s. rank_at s c.args.path.now.steps ≡ Some n) c.requires.ranked

pub update-requires-clause-fits : goal.update-requires-clause-fits
update-requires-clause-fits g c =
    of_table g.T.Table.kept c.args.self.now c.args.id.now c.in-Some.table.now (sym c.in-Some.ensures.value) (λ s. FitsAt s c.args.path.now.steps c.args.patch.rows) c.requires.fits

pub returns-in-Some : goal.returns-in-Some
returns-in-Some g c =
    changed g.T.Table.kept c.args.self.now c.args.id.now c.in-Some.table.now (sym c.in-Some.ensures.value) c.update.new.self (λ s. patched_at s c.args.path.now.steps c.args.patch.rows) c.update.ensures

pub returns-in-None : goal.returns-in-None
returns-in-None g c = nothing_changed g.T.Table.kept c.args.self.now c.args.id.now (λ s. patched_at s c.args.path.now.steps c.args.patch.rows) (sym c.in-None.ensures.value)
