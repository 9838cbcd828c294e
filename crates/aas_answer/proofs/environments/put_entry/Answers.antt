use Rattle.std.proofs.Common.{sym, ◌∙◌}
use Rattle.aas_model_names.specs.declared.modifiers.Extent.TheVariants.{WithBlobValue}
use Rattle.aas_model_names.specs.declared.modifiers.Level.TheVariants.{Deep}
use Rattle.aas_answer.specs.Arrays.{name_of}
use Rattle.aas_answer.specs.Shown.{document_shown}
use Rattle.aas_answer.proofs.Arrays.{entry_absent, entry_present, shown_is}
use Rattle.aas_answer.proofs.environments.put_entry.Goals as goal

pub returns-then-not-has-clause-text : goal.returns-then-not-has-clause-text
returns-then-not-has-clause-text g c =
    let k = c.args.collection in
    entry_absent k (g.S.Store.documents c.args.store.now) c.args.id.now c.args.later (name_of k)
    c.args.array.any c.args.array.state (g.O.Out.told c.args.out.now) (sym c.has.ensures ∙ c.if-not-has.true)

pub returns-clause-text : goal.returns-clause-text
returns-clause-text g c =
    let d = g.S.Store.documents c.args.store.now in
    let k = c.args.collection in
    let id = c.args.id.now in
    entry_present k d id c.args.later
    (name_of k) c.args.array.any c.args.array.state c.begin_entry-begun.result c.pour_document-state.result
    (g.O.Out.told c.args.out.now) (g.O.Out.told c.begin_entry-begun.new.out)
    (g.O.Out.told c.pour_document-state.new.out) (document_shown k Deep WithBlobValue id d)
    (sym c.has.ensures ∙ c.if-not-has.false) c.begin_entry-begun.ensures c.pour_document-state.ensures (shown_is k d id)
