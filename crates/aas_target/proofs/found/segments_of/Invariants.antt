use Rattle.std.proofs.Common.{◌≡◌, ◌++◌, [], length, map}
use Rattle.std.specs.Option.{option_map_or}
use Rattle.form_urlencoded.specs.Form.{split}
use Rattle.aas_target.proofs.found.segments_of.Given as goal

abbrev pub invariant-loop-left : goal.invariant-loop-left
invariant-loop-left l =
    map (λ text. text.now) l.texts.items ++ option_map_or (λ rest. split 47 rest.now) l.left [] ≡ split 47 l.path

abbrev pub decreases-loop-left : goal.decreases-loop-left
decreases-loop-left l = length (option_map_or (λ rest. split 47 rest.now) l.left [])
