use Rattle.std.proofs.Common.{ap, ap₂, sym, ◌∙◌}
use Rattle.aas_reference.specs.Faults.{least}
use Rattle.aas_constraint_rules.specs.Sites.{own_of}
use Rattle.aas_constraints.specs.Walk.{above_of, first_broken, place}
use Rattle.aas_constraints.proofs.Split.{element_split}
use Rattle.aas_constraints.proofs.place.first_broken.Goals as goal

pub returns-in-Local : goal.returns-in-Local
returns-in-Local c = λ b knows.
    let o = own_of c.args.e.now in
    c.in_ok-local.ensures ∙ ap (λ s. first_broken s c.args.in_template (above_of c.args.above) b o) (sym c.in-Local.is)

pub returns-in-Everything : goal.returns-in-Everything
returns-in-Everything c = λ b knows.
    let o = own_of c.args.e.now in
    c.least.ensures ∙ ap₂ least c.in_ok-local.ensures (c.place_fault.ensures b knows) ∙ sym (element_split (place c.args.in_template (above_of c.args.above) b o))
    ∙ ap (λ s. first_broken s c.args.in_template (above_of c.args.above) b o) (sym c.in-Everything.is)
