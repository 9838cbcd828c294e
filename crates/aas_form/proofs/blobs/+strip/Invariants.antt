use Rattle.aas_form.specs.WithoutBlobs.{blobless}
use Rattle.aas_form.proofs.InPlace.{Reached}
use Rattle.aas_form.proofs.blobs.+strip.Given as goal

abbrev pub invariant-strip_all-loop-kid : goal.invariant-strip_all-loop-kid
invariant-strip_all-loop-kid l = record {
  unvisited : goal.unvisited-strip_all-loop-kid l;
  so_far : Reached blobless l.initial.kids l.kids l.kid-index;
}
