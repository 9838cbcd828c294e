use Rattle.std.proofs.Common.{◌≡◌, List, ℕ, rules, sym, subst}
use Rattle.percent_encoding.specs.Percent.{percent_decode}
use Rattle.aas_page.specs.Segment.{IsIdentifierCode}
use Rattle.aas_page.proofs.segment.id_from_segment.Goals as goal

pub returns-in-Ok-None-clause-bad : goal.returns-in-Ok-None-clause-bad
returns-in-Ok-None-clause-bad c = λ _ id stands.
    let none = rw c.in-Ok-None.field-0-is at c.in-Ok-None.ensures.none in
    let text : c.deref.result.now ≡ percent_decode c.args.segment.now = search rules in
    none id (subst (λ (t : List ℕ). IsIdentifierCode t id) (sym text) stands)
