use Rattle.std.proofs.Common.{◌-◌, ◌<◌, length, take, refl, ◌∙◌}
use Rattle.std.proofs.lemmas.List.Elements.{All-from_recursion}
use Rattle.aas_sheet_index.proofs.Dropped.{left, Left}
use Rattle.aas_sheet_index.proofs.moving.renumber.Goals as goal
use Rattle.aas_sheet_index.proofs.moving.renumber.Goals.{After-as_slice}

-- the ranks that are left
here : (c : After-as_slice)
    → Left c.args.sides.now c.args.count c.as_slice.result.now c.args.added
    (length c.as_slice.result.now - c.args.added)
here c =
    let a = c.args in
    left a.sides.now a.first a.end a.count a.added
    (length c.as_slice.result.now - a.added) a.ranks.now.items c.as_slice.result.now c.requires.waiting
    c.requires.before c.requires.within (c.as_slice.ensures.value ∙ c.drop_between.ensures) refl

pub unmoved_count-from-requires-clause-inside : goal.unmoved_count-from-requires-clause-inside
unmoved_count-from-requires-clause-inside c = (here (goal.at.unmoved_count-from-requires-clause-inside c).After-as_slice).room

pub unmoved_count-from-requires-clause-low : goal.unmoved_count-from-requires-clause-low
unmoved_count-from-requires-clause-low c =
    All-from_recursion (λ r. r < c.args.count)
    (take (length c.as_slice.result.now - c.args.added) c.as_slice.result.now)
    (here (goal.at.unmoved_count-from-requires-clause-low c).After-as_slice).low
