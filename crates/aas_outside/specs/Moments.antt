-- What a stop may leave of a keeper, moment by moment. An image is what it leaves. This profile's own rule.
use Rattle.std.specs.Prelude.{◌⊎◌, ◌↔◌, ◌≤◌, ℕ, List, [], ◌∷◌, ◌++◌}

-- At each moment from one to another a stop leaves an image of these payloads, or of these and more.
abbrev pub During : {I : Type 0}
    → (I → List (List ℕ) → Type 0) → (ℕ → I → Type 0) → ℕ → ℕ → List (List ℕ) → List (List ℕ) → Type 0
During {I} stands_for left_at from to payloads more =
    (t : ℕ) → from ≤ t → t ≤ to → (image : I)
    → left_at t image → stands_for image payloads ⊎ stands_for image (payloads ++ more)

-- From one moment to another payloads were added, one by one, to those that were kept. In between a stop leaves an
-- image of what is kept by then, or of that and the next one. After the last it may leave one with those besides that
-- a keep which failed was to add.
abbrev pub InTurn : {I : Type 0}
    → (I → List (List ℕ) → Type 0) → (ℕ → I → Type 0) → ℕ → ℕ → (kept added failed : List (List ℕ)) → Type 0
InTurn stands_for left_at from to kept [] failed = (from ≤ to) × During stands_for left_at from to kept failed
InTurn stands_for left_at from to kept (payload ∷ added) failed =
    (next : ℕ) × (from ≤ next) × During stands_for left_at from next kept (payload ∷ [])
    × InTurn stands_for left_at next to (kept ++ payload ∷ []) added failed

-- Time goes on, and what a stop may have left at a moment that is over stays.
pub record Passes {I : Type 0} (before : ℕ) (old : ℕ → I → Type 0) (now : ℕ) (new : ℕ → I → Type 0) : Type 0 where
  pub later : before ≤ now
  pub past : (t : ℕ) → t ≤ before → (image : I) → new t image ↔ old t image

-- These payloads are kept, and a stop now leaves an image of them alone.
pub record IsSettled {I : Type 0} (stands_for : I → List (List ℕ) → Type 0) (kept : List (List ℕ) → Type 0)
    (moment : ℕ) (left_at : ℕ → I → Type 0) (payloads : List (List ℕ)) : Type 0 where
  pub told : kept payloads
  pub alone : (image : I) → left_at moment image → stands_for image payloads
