use Rattle.std.proofs.Common.{arith}
use Rattle.serde_json.specs.View.{members_view}
use Rattle.aas_value_patch.proofs.Children.{found_step, found_end}
use Rattle.aas_value_patch.proofs.parents.count_found.Goals as goal

pub loop-kid-preserved : goal.loop-kid-preserved
loop-kid-preserved c =
    let l = c.loop-kid in
    record {
      counted =
          found_step c.args.kids.now l.kid-index c.kid-item.result
          (members_view c.args.members.now.entries) l.count c.count_one-count.result _ (omega arith) c.kid-item.is
          c.count_one-count.ensures.value l.invariant.counted;
      small = omega arith;
    }

pub returns : goal.returns
returns c =
    let l = c.loop-kid in
    found_end c.args.kids.now l.kid-index
    (members_view c.args.members.now.entries) l.count _ (omega arith) l.invariant.counted
