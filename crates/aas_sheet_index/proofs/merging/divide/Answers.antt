use Rattle.std.proofs.Common.{◌+◌, ◌-◌, ◌<◌, ◌/◌, ℕ, List, length, take, refl, arith}
use Rattle.std.proofs.lemmas.List.{length-take-le}
use Rattle.aas_sheet_index.proofs.Merged.{divided}
use Rattle.aas_sheet_index.proofs.merging.divide.Goals as goal

pub returns-clause-divided : goal.returns-clause-divided
returns-clause-divided c =
    let ranks : List ℕ = c.args.ranks.now in
    let kept : ℕ = c.args.kept in
    let half : ℕ = (length ranks - kept) / 2 in
    let some = c.requires.some in
    let small : half < length ranks - kept = omega arith in
    let long = length-take-le kept ranks (omega arith) in
    let inside = c.place_of_rank-place.ensures.inside in
    divided c.args.sides.now ranks c.exchange.new.ranks (take kept ranks) kept
    (kept + half) c.place_of_rank-place.result refl (omega arith) (omega (arith, small))
    (omega (arith, inside, long)) c.requires.front c.requires.back
    c.place_of_rank-place.ensures.before c.place_of_rank-place.ensures.behind c.exchange.ensures.parts
