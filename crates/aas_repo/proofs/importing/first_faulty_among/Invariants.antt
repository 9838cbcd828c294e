use Rattle.std.proofs.Common.{◌≡◌, drop, map}
use Rattle.aas_repo.specs.Faulty.{first_faulty_from}
use Rattle.aas_repo.proofs.importing.first_faulty_among.Given as goal

abbrev pub invariant-loop-place : goal.invariant-loop-place
invariant-loop-place g l =
    first_faulty_from 0 (map g.D.Stored.document l.documents)
    ≡ first_faulty_from l.place (map g.D.Stored.document (drop l.place l.documents))
