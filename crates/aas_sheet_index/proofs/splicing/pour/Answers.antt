use Rattle.std.proofs.Common.{◌≡◌, ◌-◌, suc, length, arith}
use Rattle.std.proofs.lemmas.Option.{slice_get_within}
use Rattle.aas_sheet_index.proofs.Spliced.{kept_more, poured_more}
use Rattle.aas_sheet_index.proofs.splicing.pour.Goals as goal

pub loop-more-preserved : goal.loop-more-preserved
loop-more-preserved g c =
    let l = c.loop-more in
    let within = slice_get_within l.more (c.len.result - 1) c.remove-item.result c.remove-item.ensures.item in
    let k = kept_more c.args.items.now l.items c.push.new.self c.remove-item.result
    l.invariant.long l.invariant.kept c.in_ok-push.ensures.ok in
    let last : suc (c.len.result - 1) ≡ length l.more = omega (arith, c.len.ensures, within) in record {
      long = k.0;
      kept = k.1;
      whole =
          poured_more _ l.items c.push.new.self l.more c.remove-item.new.self (c.len.result - 1) c.remove-item.result
          l.invariant.whole last c.remove-item.ensures.item c.remove-item.ensures.rest c.in_ok-push.ensures.ok;
    }
