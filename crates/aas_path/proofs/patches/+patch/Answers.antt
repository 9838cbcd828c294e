use Rattle.std.proofs.Common.{◌≢◌, refl, get_or, length-set, get_or-set_other, ap, ◌∙◌, arith}
use Rattle.aas_model.specs.declared.element.Element.{out-roll-Element}
use Rattle.aas_path.specs.Walk.{left_of}
use Rattle.aas_path.proofs.PatchWalk.{one_patched, set_out, turn, ended}
use Rattle.aas_path.proofs.patches.+patch.Goals as goal

pub patch_one-returns : goal.patch_one-returns
patch_one-returns t c =
    one_patched c.args.element.now _ c.patch_here-ahead.new.payload c.as_mut_slice.result.now c.patch_all.new.kids (left_of c.args.rows.now c.args.ahead) (left_of c.patch_here-ahead.new.rows c.patch_here-ahead.result)
    (left_of c.patch_all.new.rows c.patch_all.result) (out-roll-Element _) c.patch_here-ahead.ensures c.as_mut_slice.ensures.value (omega arith) c.patch_all.ensures

pub patch_all-loop-kid-init : goal.patch_all-loop-kid-init
patch_all-loop-kid-init t c = record { unvisited = (refl, λ k d h. refl); so_far = set_out c.args.kids.now (left_of c.args.rows.now c.args.ahead) }

pub patch_all-returns : goal.patch_all-returns
patch_all-returns t c =
    let l = c.loop-kid in
    ended c.args.kids.now l.kids l.kid-index (left_of c.args.rows.now c.args.ahead) (left_of l.rows l.ahead) (omega arith) l.invariant.so_far

pub patch_all-loop-kid-preserved : goal.patch_all-loop-kid-preserved
patch_all-loop-kid-preserved t c =
    let l = c.loop-kid in record {
      unvisited = (
        length-set l.kids l.kid-index c.patch_one-ahead.new.element ∙ l.invariant.unvisited.0,
        λ k d h. let other : k ≢ l.kid-index = omega arith in get_or-set_other l.kids l.kid-index k c.patch_one-ahead.new.element d other ∙ l.invariant.unvisited.1 k d (omega arith),
      );
      so_far = turn c.args.kids.now l.kids l.kid-index (get_or l.kids l.kid-index c.kid-item.result) c.patch_one-ahead.new.element (left_of c.args.rows.now c.args.ahead) (left_of l.rows l.ahead)
          (left_of c.patch_one-ahead.new.rows c.patch_one-ahead.result) (omega arith) (ap (get_or l.kids l.kid-index) c.kid-item.is) c.patch_one-ahead.ensures l.invariant.so_far;
    }
