use Rattle.std.proofs.Common.{◌≡◌, ◌≤◌, ◌^◌, ℕ, List, Result, Ok, Err, IfOk, OnOk, subst, arith}
use Rattle.std.specs.Str.{IsUtf8}
use Rattle.aas_json_mapping.specs.Trees.{environments}
use Rattle.aas_json_spelling.specs.Spells.{canonical_text}
use Rattle.aas_server.proofs.DemoTaken.{demo_spelled}
use Rattle.aas_server.proofs.importing.demo_text.Goals as goal

if_utf8 : {T E P : Type 0} (items : T → List ℕ) (text : List ℕ) (r : Result T E)
    → IfOk r (λ t. items t ≡ text) → IfOk r (λ t. IsUtf8 (items t)) → (IsUtf8 text → P)
    → OnOk r P
if_utf8 items text (Ok t) is utf8 told = told (subst IsUtf8 is utf8)
if_utf8 items text (Err e) is utf8 told = cc

pub returns-clause-text : goal.returns-clause-text
returns-clause-text c =
    subst (λ e. IfOk c.environment_text.result (λ text. text.items ≡ canonical_text environments e))
    c.in_ok-environment.ensures c.environment_text.ensures.text

pub returns-clause-spelled : goal.returns-clause-spelled
returns-clause-spelled c =
    let small : c.args.count ≤ 2 ^ 32 = omega (arith, c.ranges.count.fits) in
    if_utf8 (λ text. text.items) (canonical_text environments c.in_ok-environment.environment)
    c.environment_text.result c.environment_text.ensures.text
    c.environment_text.ensures.utf8
    (λ utf8. demo_spelled c.demos_are_valid.ensures c.environments_are_mapped.ensures c.args.count small
    (subst (λ e. IsUtf8 (canonical_text environments e)) c.in_ok-environment.ensures utf8))
