use Rattle.std.proofs.Common.{◌≡◌, ℕ, List, get_or, refl, sym, ap, ◌∙◌, subst, arith}
use Rattle.std.specs.List.{filter}
use Rattle.aas_sheet_index.specs.Moving.{is_other}
use Rattle.aas_sheet_index.proofs.Dropped.{filter_less, gathered, gathered_less, gathered_none, GatheredAt}
use Rattle.aas_sheet_index.proofs.moving.drop_rank.Goals as goal

pub loop-ranks-init : goal.loop-ranks-init
loop-ranks-init c =
    let a = c.args in
    let p = c.place_of_rank-place in
    record {
      gathered =
          gathered a.sides.now a.rank p.result a.kept a.ranks.now.items c.as_slice.result.now c.as_slice.ensures.value
          c.requires.inside c.requires.sorted c.requires.others p.ensures.inside p.ensures.before p.ensures.behind;
      same = refl;
    }

pub loop-ranks-preserved : goal.loop-ranks-preserved
loop-ranks-preserved c =
    let ranks : List ℕ = c.loop-ranks.ranks.items in
    let place : ℕ = c.place_of_rank-place.result in
    let x : ℕ = c.args.rank in
    let test = c.loop-ranks-test.true in
    let long = c.len.ensures ∙ c.loop-ranks.ranks.ok.0 in
    let here : get_or ranks place c.index.result.now ≡ x = sym c.index.ensures ∙ c.if-index-rank.true in
    let left = c.remove.ensures.items in
    record {
      gathered = subst (GatheredAt x place) (sym left) (gathered_less x place ranks c.loop-ranks.invariant.gathered);
      same = ap (filter (is_other x)) left ∙ filter_less x place ranks c.index.result.now (omega arith) here
          ∙ c.loop-ranks.invariant.same;
    }

pub returns-else-index-rank : goal.returns-else-index-rank
returns-else-index-rank c =
    sym (gathered_none c.args.rank c.place_of_rank-place.result c.loop-ranks.ranks.items c.index.result.now
    c.loop-ranks.invariant.gathered (λ lt e. c.if-index-rank.false (c.index.ensures ∙ e)))
    ∙ c.loop-ranks.invariant.same

pub returns-after-loop-ranks : goal.returns-after-loop-ranks
returns-after-loop-ranks c =
    let past = c.loop-ranks-test.false in
    let long = c.len.ensures ∙ c.loop-ranks.ranks.ok.0 in
    sym
    (gathered_none c.args.rank c.place_of_rank-place.result c.loop-ranks.ranks.items 0 c.loop-ranks.invariant.gathered
    (λ lt e. omega arith)) ∙ c.loop-ranks.invariant.same
