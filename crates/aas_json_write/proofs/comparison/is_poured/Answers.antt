use Rattle.std.proofs.Common.{sym, subst, ◌∙◌}
use Rattle.std.specs.Str.{IsUtf8}
use Rattle.std.proofs.lemmas.Bool.{OnTrue_at, OnTrue_from}
use Rattle.aas_json_write.proofs.Compared.{bytes_met, same_bytes}
use Rattle.aas_json_write.proofs.comparison.is_poured.Goals as goal

pub returns-in-Going-clause-text : goal.returns-in-Going-clause-text
returns-in-Going-clause-text g c =
    let start = c.new-out.result in
    let end = c.pour.new.out in
    OnTrue_from _ _ (λ said.
    sym c.new-out.ensures.bytes
    ∙ bytes_met start.bytes.now end.bytes.now start.met end.met start.faults end.faults c.pour.result _ c.pour.ensures
    c.new-out.ensures.start c.in-Going.is (OnTrue_at said c.is_at_end.ensures.met))

pub returns-in-Going-clause-utf8 : goal.returns-in-Going-clause-utf8
returns-in-Going-clause-utf8 g c =
    let start = c.new-out.result in
    let end = c.pour.new.out in
    OnTrue_from _ _ (λ said.
    subst IsUtf8
    (same_bytes start.bytes.now end.bytes.now start.met end.met start.faults end.faults c.pour.result _ c.pour.ensures
    ∙ c.new-out.ensures.bytes)
    (OnTrue_at said c.is_at_end.ensures.utf8))
