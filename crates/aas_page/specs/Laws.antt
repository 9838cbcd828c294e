-- A segment stands for one identifier at most.
use Rattle.std.specs.Prelude.{◌≡◌, ℕ, List}
use Rattle.aas_page.specs.Segment.{StandsFor}

abbrev pub SegmentsStandForOne : Type 0
SegmentsStandForOne = (segment a b : List ℕ) → StandsFor segment a → StandsFor segment b → a ≡ b
