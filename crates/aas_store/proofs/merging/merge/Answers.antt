use Rattle.std.proofs.Common.{arith, ap, length, sym, ◌∙◌}
use Rattle.std.proofs.lemmas.List.{length_push}
use Rattle.aas_store.proofs.Merges.{after_all, after_equal, after_greater, after_less, not_empty}
use Rattle.aas_store.proofs.merging.merge.Goals as goal

pub loop-older-preserved-in-Less : goal.loop-older-preserved-in-Less
loop-older-preserved-in-Less g c =
    let so_far = c.loop-older.invariant in
    let put = c.push_reserved.ensures in (
      after_less c.args.older c.args.newer c.loop-older.older c.loop-older.newer c.loop-older.merged.items c.take_last.new.items c.push_reserved.new.self.items c.take_last.result so_far.0 (λ us vs x y a b. sym c.in-Less.is ∙ c.compare_last.ensures.both us vs x y a b) c.take_last.ensures put.items,
      omega (arith, so_far.1, put.len, put.capacity, ap length c.take_last.ensures, length_push c.take_last.new.items c.take_last.result),
    )

pub loop-older-preserved-in-Equal : goal.loop-older-preserved-in-Equal
loop-older-preserved-in-Equal g c =
    let so_far = c.loop-older.invariant in
    let taken = c.take_last-in-Equal in (
      after_equal c.args.older c.args.newer c.loop-older.older c.loop-older.newer c.loop-older.merged.items taken.new.items taken.result so_far.0 (not_empty _ _ c.is_empty.ensures c.loop-older-test.true) (λ us vs x y a b. sym c.in-Equal.is ∙ c.compare_last.ensures.both us vs x y a b) taken.ensures,
      omega (arith, so_far.1, ap length taken.ensures, length_push taken.new.items taken.result),
    )

pub loop-older-preserved : goal.loop-older-preserved
loop-older-preserved g c =
    let so_far = c.loop-older.invariant in
    let taken = c.take_last-in-Greater in
    let put = c.push_reserved-in-Greater.ensures in (
      after_greater c.args.older c.args.newer c.loop-older.older c.loop-older.newer c.loop-older.merged.items taken.new.items c.push_reserved-in-Greater.new.self.items taken.result so_far.0 (not_empty _ _ c.is_empty.ensures c.loop-older-test.true) (λ us vs x y a b. sym c.in-Greater.is ∙ c.compare_last.ensures.both us vs x y a b) taken.ensures put.items,
      omega (arith, so_far.1, put.len, put.capacity, ap length taken.ensures, length_push taken.new.items taken.result),
    )

pub loop-merged-preserved : goal.loop-merged-preserved
loop-merged-preserved g c =
    let so_far = c.loop-merged.invariant in
    let taken = c.take_last-in-loop-merged in
    let put = c.push_reserved-in-loop-merged.ensures in (
      after_all c.args.older c.args.newer c.loop-merged.older c.loop-merged.merged.items taken.new.items c.push_reserved-in-loop-merged.new.self.items taken.result so_far.0 taken.ensures put.items,
      omega (arith, so_far.1, put.len, put.capacity, ap length taken.ensures, length_push taken.new.items taken.result),
    )
