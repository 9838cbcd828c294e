use Rattle.std.proofs.Common.{◌++◌, ap, ◌∙◌}
use Rattle.aas_path.proofs.Lenders.{nothing_after, two_paths_asked}
use Rattle.aas_path.proofs.lending.TwiceDown.lend.Goals as goal

pub returns-in_err-kid-in-Some : goal.returns-in_err-kid-in-Some
returns-in_err-kid-in-Some g c =
    let parts = c.split_at.ensures.by_index.0 ∙ ap (λ r. c.split_at.result.0.now ++ r) c.in-Some.ensures.cases.0 in
    let h = nothing_after c.args.in_list c.args.step.now c.in-Some.next.now c.split_at.result.0.now c.in-Some.more.now c.args.path.now c.args.kids.now
    c.from_residual.result c.from_residual.ensures parts c.in_err-kid-in-Some.ensures.value in
    (h.0, record { writes_back = tt; value = h.1 })

pub returns-in_ok-kid-in-Some : goal.returns-in_ok-kid-in-Some
returns-in_ok-kid-in-Some g c =
    let parts = c.split_at.ensures.by_index.0 ∙ ap (λ r. c.split_at.result.0.now ++ r) c.in-Some.ensures.cases.0 in
    let h = two_paths_asked c.args.in_list c.args.step.now c.in-Some.next.now c.split_at.result.0.now c.in-Some.more.now c.args.path.now c.args.kids.now c.kids_mut.result.now
    c.in_ok-kid-in-Some.kid.now c.is_list-in_list.result c.lend-in-Some-2.result parts c.in_ok-kid-in-Some.ensures.value c.kids_mut.ensures.value c.is_list-in_list.ensures c.lend-in-Some-2.ensures.value in
    (h.0, record { writes_back = tt; value = h.1 })
