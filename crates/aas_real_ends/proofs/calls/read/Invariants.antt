use Rattle.std.specs.Io.KnownBytes.{Keeps}
use Rattle.aas_real_ends.proofs.calls.read.Given as goal

-- calls that were interrupted moved nothing
abbrev pub invariant-loop : goal.invariant-loop
invariant-loop g l = Keeps (g.R.Read.remaining l.fn.reader) (g.R.Read.remaining l.reader)
