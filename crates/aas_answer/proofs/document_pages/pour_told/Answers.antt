use Rattle.std.proofs.Common.{sym, ap}
use Rattle.std.specs.FinMap as map
use Rattle.aas_form.specs.ReferenceTo.{shell_reference}
use Rattle.aas_out.proofs.Adding.{adds_same}
use Rattle.aas_answer.specs.Answers.{reference_text}
use Rattle.aas_answer.specs.Listed.{document_text}
use Rattle.aas_answer.proofs.Entries.{adds_none}
use Rattle.aas_answer.proofs.document_pages.pour_told.Goals as goal

pub returns-in-None : goal.returns-in-None
returns-in-None g c =
    let d = g.S.Store.documents c.args.store.now in
    let t = g.O.Out.told c.args.out.now in
    adds_same c.args.so_far c.args.so_far t t _ _
    (adds_none (λ s. reference_text (shell_reference s))
    (map.get d.shells c.args.id.now) c.args.so_far t (sym c.in-None.ensures))
    (ap (λ form. document_text form c.args.id.now d) (sym c.in-ShellReference.is))
