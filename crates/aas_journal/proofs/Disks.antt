-- How calls of a disk follow one another.
use Rattle.std.proofs.Common.{◌≡◌, ⊎_elim, ◌≤◌, ℕ, Option, Some, None, refl, subst, ◌∙◌, arith}
use Rattle.std.proofs.lemmas.Bool.{cases_lt}
use Rattle.std.specs.Prelude.{IfSome}
use Rattle.aas_outside.specs.Moments.{Passes}
use Rattle.aas_outside.proofs.Turns.{passes_on}
use Rattle.aas_outside_disk.specs.Disk.{AddsNone, Becomes, DiskState, Meanwhile, OnlyReads, Tears}
use Rattle.aas_outside_disk.specs.Files.{Files}
use Rattle.aas_outside_disk.specs.declared.part.Part.{Part}

-- what a stop leaves after a call that adds no image, it may have left before it, at the same moment or at its start
earlier : (a b c t : ℕ) (mid new : ℕ → Files → Type 0)
    → Passes b mid c new → Meanwhile b c mid new AddsNone → a ≤ b → a ≤ t → t ≤ c → (f : Files) → new t f
    → (u : ℕ) × (a ≤ u) × (u ≤ b) × mid u f
earlier a b c t mid new passes none first since until f left = ⊎_elim
    (λ low. (t, since, omega (arith, low), (passes.past t (omega (arith, low)) f).0 left))
    (λ high. (b, first, omega arith, none t high until f left))
    (cases_lt t b)

pub tears_then : (part : Part) (at n a b c : ℕ) (old mid new : ℕ → Files → Type 0)
    → Passes a old b mid → Meanwhile a b old mid (Tears part at n) → Passes b mid c new → Meanwhile b c mid new AddsNone
    → Meanwhile a c old new (Tears part at n)
tears_then part at n a b c old mid new first torn passes none t since until end least f left =
    let u = earlier a b c t mid new passes none first.later since until f left in
    torn u.0 u.1 u.2 end least f u.3

pub none_then : (a b c : ℕ) (old mid new : ℕ → Files → Type 0)
    → Passes a old b mid → Meanwhile a b old mid AddsNone → Passes b mid c new → Meanwhile b c mid new AddsNone
    → Meanwhile a c old new AddsNone
none_then a b c old mid new first before passes none t since until f left =
    let u = earlier a b c t mid new passes none first.later since until f left in
    before u.0 u.1 u.2 f u.3

pub reads_none : (disk : DiskState) → OnlyReads disk disk
reads_none disk = record {
  seen = refl;
  images = λ t since until f left. subst (λ (u : ℕ). disk.left_at u f) (omega (arith, since, until)) left;
  past = record { later = omega arith; past = λ t le f. (λ h. h, λ h. h) };
}

pub reads_then : (a b c : DiskState) → OnlyReads a b → OnlyReads b c → OnlyReads a c
reads_then a b c first second = record {
  seen = second.seen ∙ first.seen;
  images =
      none_then a.moment b.moment c.moment a.left_at b.left_at c.left_at first.past first.images second.past second.images;
  past = passes_on a.moment b.moment c.moment a.left_at b.left_at c.left_at first.past second.past;
}

-- What is told stays told.
becomes : (a : Files) (new : Option Files) (P : Files → Files → Type 0)
    → Becomes (Some a) new P → (b : Files) × (new ≡ Some b) × P a b
becomes a None P h = absurd h
becomes a (Some b) P h = (b, refl, h)

pub told : (a : Files) (old new : Option Files) (P : Files → Files → Type 0)
    → old ≡ Some a → Becomes old new P → (b : Files) × (new ≡ Some b) × P a b
told a old new P is h = becomes a new P (subst (λ (k : Option Files). Becomes k new P) is h)

pub known : (a : Files) (seen : Option Files) (P : Files → Type 0) → seen ≡ Some a → IfSome seen P → P a
known a seen P is h = subst (λ (k : Option Files). IfSome k P) is h
