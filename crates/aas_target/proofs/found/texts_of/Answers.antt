use Rattle.std.proofs.Common.{◌≡◌, length, arith, rules}
use Rattle.aas_target.specs.Seen.{segment_of}
use Rattle.aas_target.proofs.Ends.{same_lengths, texts_from_before, texts_from_end}
use Rattle.aas_target.proofs.found.texts_of.Goals as goal

pub loop-index-init : goal.loop-index-init
loop-index-init c =
    let segments = c.args.segments.now in
    let texts = c.args.texts.now in
    rw c.none-found.ensures (texts_from_end segment_of (λ text. text.now) segments texts (same_lengths segment_of (λ text. text.now) segments texts c.requires))

pub offset_bounds-texts-index : goal.offset_bounds-texts-index
offset_bounds-texts-index c =
    let same : length c.args.segments.now ≡ length c.args.texts.now = same_lengths segment_of (λ text. text.now) c.args.segments.now c.args.texts.now c.requires in
    search rules

pub bounds-texts-index : goal.bounds-texts-index
bounds-texts-index c =
    let same : length c.args.segments.now ≡ length c.args.texts.now = same_lengths segment_of (λ text. text.now) c.args.segments.now c.args.texts.now c.requires in
    omega arith

pub loop-index-preserved : goal.loop-index-preserved
loop-index-preserved c =
    rw c.with-found.ensures (texts_from_before segment_of (λ text. text.now) c.loop-index.index c.args.segments.now c.args.texts.now _ _ _ c.requires
    c.loop-index-test.true c.loop-index.auto.index c.loop-index.invariant)
