use Rattle.std.proofs.Common.{ap, ◌∙◌}
use Rattle.std.specs.Str.{encode_utf8_all}
use Rattle.aas_model.specs.declared.documents.Submodel.{Submodel}
use Rattle.aas_store.specs.DocumentStore.{documents, kept_all}
use Rattle.aas_store.specs.Merged.{with_each}
use Rattle.aas_store.proofs.KeptAll.{each_kept}
use Rattle.aas_store.proofs.PutOver.{all_put}
use Rattle.aas_store.proofs.document_store.DocumentStoreStore.put_all.Goals as goal

pub returns-clause-ok : goal.returns-clause-ok
returns-clause-ok g c =
    let kept = g.T.Table.kept in
    let old = c.args.self.now in
    let e = c.args.environment in
    all_put (documents kept old) e c.lay_over.new.self (kept_all kept c.lay_over-2.new.self) c.lay_over-3.new.self
    (c.lay_over.ensures e.shells c.in_ok-shells.ensures.newer)
    (ap (kept_all kept) (c.lay_over-2.ensures c.in_ok-tables.tables c.in_ok-submodels.ensures.newer)
    ∙ each_kept kept g.T.Identified.id_of (λ (s : Submodel). encode_utf8_all s.head.id) g.met.T.Table.names_itself old.submodels c.in_ok-tables.tables
    ∙ ap (with_each (λ (s : Submodel). encode_utf8_all s.head.id) (kept_all kept old.submodels)) c.in_ok-tables.ensures)
    (c.lay_over-3.ensures e.concepts c.in_ok-concepts.ensures.newer)
