use Rattle.std.specs.Io.KnownBytes.{Keeps}
use Rattle.aas_real_ends.proofs.calls.write.Given as goal

-- calls that were interrupted moved nothing
abbrev pub invariant-loop : goal.invariant-loop
invariant-loop g l = Keeps (g.W.Write.contents l.fn.writer) (g.W.Write.contents l.writer)
