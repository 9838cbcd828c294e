use Rattle.std.proofs.Common.{take}
use Rattle.std.specs.Str.{encode_utf8_all}
use Rattle.aas_out.specs.Adds.{Adds}
use Rattle.aas_answer.specs.Listed.{document_text}
use Rattle.aas_answer.proofs.Pages.{joined}
use Rattle.aas_answer.proofs.document_pages.pour_documents.Given as goal

-- so far as the loop has come
abbrev pub invariant-loop-place : goal.invariant-loop-place
invariant-loop-place g l =
    Adds l.fn.so_far l.state (g.O.Out.told l.fn.out) (g.O.Out.told l.out)
    (joined (λ id. document_text l.form (encode_utf8_all id) (g.S.Store.documents l.store)) (take l.place l.ids))
