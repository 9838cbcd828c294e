use Rattle.std.proofs.Common.{◌≡◌, ◌++◌, codes, take}
use Rattle.std.specs.Prelude.{string_bytes}
use Rattle.std.specs.List.{flat_map}
use Rattle.aas_target.specs.Routes.{method_name}
use Rattle.aas_target.proofs.method.allow_text.Given as goal

abbrev pub invariant-loop-method : goal.invariant-loop-method
invariant-loop-method l =
    string_bytes l.text ≡ string_bytes l.initial.text ++ flat_map (λ m. codes ", " ++ method_name m) (take l.method-index l.others)
