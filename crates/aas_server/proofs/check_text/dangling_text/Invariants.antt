use Rattle.std.proofs.Common.{◌≡◌, take}
use Rattle.std.specs.Prelude.{flat_map}
use Rattle.aas_server.specs.CheckText.{dangling_line}
use Rattle.aas_server.proofs.check_text.dangling_text.Given as goal

abbrev pub invariant-loop-reference : goal.invariant-loop-reference
invariant-loop-reference l = l.text.items ≡ flat_map dangling_line (take l.reference-index l.found)
