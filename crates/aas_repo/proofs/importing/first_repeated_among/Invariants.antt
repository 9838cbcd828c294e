use Rattle.std.proofs.Common.{◌≡◌, drop, map, take}
use Rattle.aas_constraint_parts.specs.Repeats.{HasTexts}
use Rattle.aas_step.specs.Causes.{first_repeated, first_repeated_after}
use Rattle.aas_step.specs.Made.{id_of}
use Rattle.aas_repo.proofs.importing.first_repeated_among.Given as goal

abbrev pub invariant-loop-place : goal.invariant-loop-place
invariant-loop-place g l = record {
  known : HasTexts l.seen (map (λ x. id_of (g.D.Stored.document x)) (take l.place l.documents));
  rest : first_repeated (map (λ x. id_of (g.D.Stored.document x)) l.documents)
      ≡ first_repeated_after (map (λ x. id_of (g.D.Stored.document x)) (take l.place l.documents))
      (map (λ x. id_of (g.D.Stored.document x)) (drop l.place l.documents));
}
