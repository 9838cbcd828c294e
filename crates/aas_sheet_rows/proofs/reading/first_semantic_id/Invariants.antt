use Rattle.std.proofs.Common.{ℕ, ◌-◌, List}
use Rattle.aas_model.specs.declared.element.Element.{Element}
use Rattle.aas_sheet_rows.proofs.Below.{SemanticLeft}
use Rattle.aas_sheet_rows.specs.Found.{Among}
use Rattle.aas_sheet_rows.proofs.reading.first_semantic_id.Given as goal

abbrev pub invariant-loop-rank : goal.invariant-loop-rank
invariant-loop-rank l = (k : ℕ) (ks : List Element)
    → Among l.rows l.sides l.first l.end k ks → SemanticLeft l.rows l.sides l.rank l.end k ks

abbrev pub decreases-loop-rank : goal.decreases-loop-rank
decreases-loop-rank l = l.end - l.rank
