use Rattle.std.proofs.Common.{ℕ, Some, refl, ap, sym, subst, ◌∙◌}
use Rattle.std.specs.declared.option.Option.{Option}
use Rattle.aas_clients.specs.Places.{AreRight}
use Rattle.aas_clients.specs.Visits.{number_of}
use Rattle.aas_clients.proofs.Tables.{same_visit}
use Rattle.aas_clients.proofs.table.Table.take.Goals as goal

pub invariant_of-self : goal.invariant_of-self
invariant_of-self g c =
    let self = c.args.self.now in
    record {
      few = self.few;
      few_open = self.few_open;
      few_large = self.few_large;
      right =
          subst (λ (n : Option ℕ). AreRight self.places.items self.next n)
          (ap number_of c.in-Some.is ∙ ap Some (sym c.take.ensures.same.0)) self.right;
    }

pub returns-in-Some-clause-visit : goal.returns-in-Some-clause-visit
returns-in-Some-clause-visit g c = same_visit _ _ _ _ c.in-Some.is refl c.take.ensures.same.0 c.take.ensures.same.1
