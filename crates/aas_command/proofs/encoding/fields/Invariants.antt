use Rattle.std.proofs.Common.{◌≡◌, ◌∷◌, take}
use Rattle.std.specs.List.{flat_map}
use Rattle.aas_json_spelling.specs.Lists.{Each}
use Rattle.aas_command.specs.Commands.{field}
use Rattle.aas_command.specs.Encoding.{IsField, lent}
use Rattle.aas_command.proofs.encoding.fields.Given as goal

abbrev pub invariant-loop-content : goal.invariant-loop-content
invariant-loop-content l =
    let so_far = lent (take l.content-index l.contents) in
    (l.frame ≡ l.fn.tag ∷ flat_map field so_far) × Each IsField so_far
