use Rattle.std.proofs.Common.{◌+◌, ◌∷◌, ◌<◌, ◌≤◌, length, drop, sym, ap, ◌∙◌, arith}
use Rattle.aas_json_mapping.specs.Whole.{in_order, rank}
use Rattle.aas_json_mapping.proofs.Elements.{ranks}
use Rattle.aas_path_trees.specs.Children.{role_of}
use Rattle.aas_json_whole.proofs.Within.{order_first, ranks_fall, ranks_next}
use Rattle.aas_json_whole.proofs.children.roles_rise.Goals as goal

pub loop-kid-init : goal.loop-kid-init
loop-kid-init c = order_first (ranks c.as_slice-kid-items.result.now)

pub loop-kid-preserved : goal.loop-kid-preserved
loop-kid-preserved c =
    let ks = c.as_slice-kid-items.result.now in
    let i = c.loop-kid.kid-index in
    let below : i < length ks = omega arith in
    let low : c.loop-kid.before ≤ rank (role_of c.kid-item.result) = omega (arith, c.rank-next.ensures) in
    ap (λ n. in_order (n ∷ ranks (drop (i + 1) ks))) c.rank-next.ensures
    ∙ sym (ranks_next c.loop-kid.before c.kid-item.result ks i below c.kid-item.is low)
    ∙ c.loop-kid.invariant

pub returns-then-next-before : goal.returns-then-next-before
returns-then-next-before c =
    let ks = c.as_slice-kid-items.result.now in
    let i = c.loop-kid.kid-index in
    let below : i < length ks = omega arith in
    let less : rank (role_of c.kid-item.result) < c.loop-kid.before = omega (arith, c.rank-next.ensures) in
    sym (ranks_fall c.loop-kid.before c.kid-item.result ks i below c.kid-item.is less)
    ∙ c.loop-kid.invariant
    ∙ ap (λ es. in_order (ranks es)) c.as_slice-kid-items.ensures
