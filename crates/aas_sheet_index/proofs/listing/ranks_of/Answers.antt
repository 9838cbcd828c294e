use Rattle.std.proofs.Common.{◌≡◌, ◌∙◌, false, true, sym, rules}
use Rattle.std.specs.Option.{is_some}
use Rattle.aas_sheet_index.proofs.Ranks.{listed_more, listed_on, named_at}
use Rattle.aas_sheet_index.proofs.listing.ranks_of.Goals as goal
use Rattle.aas_sheet_index.proofs.listing.ranks_of.Goals.{then-is_some+in_ok-push, else-is_some}

pub loop-rank-preserved : goal.loop-rank-preserved
loop-rank-preserved c =
    let l = c.loop-rank in
    let inside = c.loop-rank-test.true in
    let says : c.is_some.result ≡ is_some c.index-sides-rank.result.id_short = search rules in
    elim c.if-is_some.branch [
      | then-is_some+in_ok-push w ↦
          let some = named_at c.args.sides.now l.rank c.index-sides-rank.result true inside c.index-sides-rank.is
          (sym w.if-is_some.true ∙ says) in
          rw w.ranks-is (rw w.in_ok-push.ensures.ok
          (listed_more c.args.sides.now c.args.first l.rank l.ranks.items (search rules) some l.invariant))
      | else-is_some w ↦
          let none = named_at c.args.sides.now l.rank c.index-sides-rank.result false inside c.index-sides-rank.is
          (sym w.if-is_some.false ∙ says) in
          rw w.ranks-is (listed_on c.args.sides.now c.args.first l.rank l.ranks.items none l.invariant)
    ]
