use Rattle.std.proofs.Common.{◌≡◌, ◌≤◌, ◌-◌, ℕ, length, sym, ap, ◌∙◌, arith}
use Rattle.aas_sheet_index.proofs.Dropped.{dropped_more, left, others_wait, Left}
use Rattle.aas_sheet_index.proofs.Moved.{all_stay}
use Rattle.aas_sheet_index.proofs.moving.drop_each.Goals as goal
use Rattle.aas_sheet_index.proofs.moving.drop_each.Goals.{After-len}

pub loop-rank-init : goal.loop-rank-init
loop-rank-init c = sym (all_stay c.args.first c.args.first (omega arith) c.args.ranks.now.items)

-- the ranks that are left so far
here : (c : After-len)
    → Left c.args.sides.now c.args.count c.loop-rank.ranks.items c.args.added (c.len.result - c.args.added)
here c =
    let a = c.args in
    let l = c.loop-rank in
    let test = c.loop-rank-test.true in
    let before = c.requires.before in
    left a.sides.now a.first l.rank a.count a.added (c.len.result - a.added) a.ranks.now.items l.ranks.items
    c.requires.waiting (omega arith) c.requires.within l.invariant
    (ap (λ (n : ℕ). n - a.added) (c.len.ensures ∙ l.ranks.ok.0))

pub overflow_sub-kept : goal.overflow_sub-kept
overflow_sub-kept c =
    let long : c.len.result ≡ length c.loop-rank.ranks.items = c.len.ensures ∙ c.loop-rank.ranks.ok.0 in
    let room : c.args.added ≤ length c.loop-rank.ranks.items = (here (goal.at.overflow_sub-kept c).After-len).room in
    omega arith

pub drop_rank-requires-clause-sorted : goal.drop_rank-requires-clause-sorted
drop_rank-requires-clause-sorted c = (here (goal.at.drop_rank-requires-clause-sorted c).After-len).sorted

pub drop_rank-requires-clause-others : goal.drop_rank-requires-clause-others
drop_rank-requires-clause-others c =
    let a = c.args in
    let l = c.loop-rank in
    let test = c.loop-rank-test.true in
    let before = c.requires.before in
    others_wait a.sides.now a.count l.rank a.added (c.len.result - a.added) l.ranks.items
    (here (goal.at.drop_rank-requires-clause-others c).After-len) (omega arith)

pub loop-rank-preserved : goal.loop-rank-preserved
loop-rank-preserved c =
    dropped_more c.args.first c.loop-rank.rank c.args.ranks.now.items
    c.loop-rank.ranks.items c.drop_rank.new.ranks.items
    c.loop-rank.auto.rank c.loop-rank.invariant c.drop_rank.ensures
