use Rattle.std.proofs.Common.{inr, inl}
use Rattle.aas_clients.proofs.Wholes.{unfinished_now}
use Rattle.aas_clients.proofs.front.awaited_size.Goals as goal

pub returns-in-Some-clause-unfinished : goal.returns-in-Some-clause-unfinished
returns-in-Some-clause-unfinished c = λ more short. inr (c.in-Some.ensures.2 more short)

pub returns-in-None-clause-unfinished : goal.returns-in-None-clause-unfinished
returns-in-None-clause-unfinished c = unfinished_now c.args.bytes.now (inl c.in-None.ensures)
