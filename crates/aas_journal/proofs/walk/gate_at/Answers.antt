use Rattle.std.proofs.Common.{◌≡◌, ◌+◌, ◌-◌, ℕ, List, Option, Some, None, length, take, drop, arith, length-drop}
use Rattle.std.specs.Prelude.{IfSome}
use Rattle.aas_outside_disk.specs.Files.{Files, file}
use Rattle.aas_outside_disk.specs.declared.part.Part.{Part}
use Rattle.aas_journal.specs.Gates.{StandsAt}
use Rattle.aas_journal.specs.declared.walk.Gate.{Gate}
use Rattle.aas_journal.specs.declared.walk.Gate.TheVariants.{Open, PastEnd}
use Rattle.aas_journal.proofs.Heads.{is_open, long_past, short_past}
use Rattle.aas_journal.proofs.walk.gate_at.Goals as goal

-- what some bytes tell that were read at a place of a file whose length is known
told_by : (seen : Option Files) (part : Part) (at size count : ℕ) (head : List ℕ) (gate : Gate)
    → IfSome seen (λ files. size ≡ length (file part files))
    → IfSome seen (λ files. head ≡ take count (drop at (file part files)))
    → ((bytes : List ℕ) → head ≡ take count bytes → length bytes ≡ size - at → StandsAt bytes at gate)
    → IfSome seen (λ files. StandsAt (drop at (file part files)) at gate)
told_by None part at size count head gate size_is read stands = tt
told_by (Some files) part at size count head gate size_is read stands =
    stands (drop at (file part files)) read (omega (arith, size_is, length-drop at (file part files)))

pub returns-then-gate-eq-OPEN-clause-value : goal.returns-then-gate-eq-OPEN-clause-value
returns-then-gate-eq-OPEN-clause-value g c =
    told_by _ _ _ _ 1 _ PastEnd c.requires.size c.in_ok-read_at.ensures.value (λ bytes read size.
    short_past bytes c.read_at.new.buf c.args.at read (omega (arith, size)) (omega (arith, size))
    c.if-gate-eq-OPEN.true)

pub returns-then-length-behind-clause-value : goal.returns-then-length-behind-clause-value
returns-then-length-behind-clause-value g c =
    let n = c.length_in-length in
    told_by _ _ _ _ 5 _ PastEnd c.requires.size c.in_ok-read_at-2.ensures.value (λ bytes read size.
    long_past bytes c.read_at-2.new.buf c.args.at n.result read (omega (arith, size)) c.if-head-ne-OPEN.false
    n.ensures.value (omega (arith, size)))

pub returns-clause-value : goal.returns-clause-value
returns-clause-value g c =
    let n = c.length_in-length in
    told_by _ _ _ _ 5 _ (Open (c.args.at + 5 + n.result))
    c.requires.size c.in_ok-read_at-2.ensures.value (λ bytes read size.
    is_open bytes c.read_at-2.new.buf c.args.at n.result read (omega (arith, size)) c.if-head-ne-OPEN.false
    n.ensures.bytes (omega (arith, n.type_inv)) (omega (arith, size)))
