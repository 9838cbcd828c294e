-- What is shown at a level and to an extent (IDTA-01002-3-0,
-- serialization modifiers Level and Extent), as rows are shown.
use Rattle.std.specs.Prelude.{ℕ, ◌+◌, Bool, true, false}
use Rattle.aas_json_write_members.specs.declared.members.Show.{Show}
use Rattle.aas_model_names.specs.declared.modifiers.Extent.{Extent}
use Rattle.aas_model_names.specs.declared.modifiers.Extent.TheVariants.{WithBlobValue, WithoutBlobValue}
use Rattle.aas_model_names.specs.declared.modifiers.Level.{Level}
use Rattle.aas_model_names.specs.declared.modifiers.Level.TheVariants.{Deep, Core}

abbrev pub has_blobs : Extent → Bool
has_blobs WithBlobValue = true
has_blobs WithoutBlobValue = false

-- Of what stands at the level k, and of all below it, the first level at which elements are shown without their
-- children: at Core the next one, and at Deep one at which nothing stands. A submodel stands at the level 0.
abbrev pub cut_below : Level → ℕ → ℕ
cut_below Deep k = 31
cut_below Core k = k + 1

abbrev pub show_at : ℕ → Level → Extent → Show
show_at k level extent = record { cut = cut_below level k; blobs = has_blobs extent }
