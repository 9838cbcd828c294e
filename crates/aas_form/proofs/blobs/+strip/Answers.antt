use Rattle.std.proofs.Common.{◌≢◌, refl, get_or, length-set, get_or-set_other, ap, ◌∙◌, arith}
use Rattle.aas_model.specs.declared.element.Element.{Element, out-roll-Element}
use Rattle.aas_form.specs.WithoutBlobs.{blobless}
use Rattle.aas_form.proofs.Stripped.{one_stripped}
use Rattle.aas_form.proofs.InPlace.{ended, set_out, turn}
use Rattle.aas_form.proofs.blobs.+strip.Goals as goal

pub strip_one-returns : goal.strip_one-returns
strip_one-returns t c =
    one_stripped c.args.element.now _ c.strip_payload.new.payload c.as_mut_slice.result.now c.strip_all.new.kids
    (out-roll-Element _) c.strip_payload.ensures c.as_mut_slice.ensures.value (omega arith) c.strip_all.ensures

pub strip_all-loop-kid-init : goal.strip_all-loop-kid-init
strip_all-loop-kid-init t c = record { unvisited = (refl, λ k d h. refl); so_far = set_out blobless c.args.kids.now }

pub strip_all-returns : goal.strip_all-returns
strip_all-returns t c = let l = c.loop-kid in ended blobless c.args.kids.now l.kids l.kid-index (omega arith) l.invariant.so_far

pub strip_all-loop-kid-preserved : goal.strip_all-loop-kid-preserved
strip_all-loop-kid-preserved t c =
    let l = c.loop-kid in
    let kid : Element = get_or l.kids l.kid-index c.kid-item.result in
    let new = c.strip_one.new.element in record {
      unvisited = (
        length-set l.kids l.kid-index new ∙ l.invariant.unvisited.0,
        λ k d h. let other : k ≢ l.kid-index = omega arith in get_or-set_other l.kids l.kid-index k new d other ∙ l.invariant.unvisited.1 k d (omega arith),
      );
      so_far = turn blobless c.args.kids.now l.kids l.kid-index kid new (omega arith) (ap (get_or l.kids l.kid-index) c.kid-item.is)
          c.strip_one.ensures l.invariant.so_far;
    }
