use Rattle.std.proofs.Common.{◌-◌, ◌∙◌, ap, arith, is_some, map, sym}
use Rattle.std.proofs.lemmas.List.{length-map}
use Rattle.aas_target.specs.Seen.{segment_of}
use Rattle.aas_target.proofs.Ends.{none_at}
use Rattle.aas_target.proofs.Long.{texts_of_others}
use Rattle.aas_target.proofs.found.have.Goals as goal

pub returns-then-segments-texts : goal.returns-then-segments-texts
returns-then-segments-texts c =
    ap is_some (texts_of_others (map segment_of c.args.segments.now) (map (λ text. text.now) c.args.texts.now)
    (λ same. c.if-segments-texts.true (simp length-map at same)))

pub returns-then-not-fits : goal.returns-then-not-fits
returns-then-not-fits c =
    ap is_some (none_at segment_of (λ text. text.now) (c.loop-index.index - 1) c.args.segments.now c.args.texts.now _ _ (omega arith) (omega arith)
    (sym c.fits.ensures ∙ c.if-not-fits.true))
