use Rattle.std.proofs.Common.{◌≡◌, drop}
use Rattle.aas_lexical_forms.specs.Cut as cut
use Rattle.aas_lexical_forms.proofs.cut.after_any.Given as goal

-- what is left to pass over is passed over as if it began here
abbrev pub invariant-loop-i : goal.invariant-loop-i
invariant-loop-i g l = cut.after_any (g.C.ByteClass.is_in l.class) (drop l.i l.text) ≡ cut.after_any (g.C.ByteClass.is_in l.class) l.text
