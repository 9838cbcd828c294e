use Rattle.std.proofs.Common.{◌≡◌, ℕ, Some, ap, subst, ◌∙◌}
use Rattle.std.specs.declared.option.Option.{Option}
use Rattle.aas_clients.specs.Places.{AreRight}
use Rattle.aas_clients.specs.Visits.{number_of}
use Rattle.aas_clients.proofs.Tables.{parted_rests, right_rested}
use Rattle.aas_clients.proofs.table.Table.leave.Goals as goal

pub invariant_of-self : goal.invariant_of-self
invariant_of-self g c =
    let now = c.meets.new.self in
    let number : number_of now.present ≡ Some c.args.number = ap number_of c.meets.ensures.present ∙ c.requires in
    let right = subst (λ (n : Option ℕ). AreRight now.places.items now.next n) number now.right in
    record {
      few = now.few;
      few_open = now.few_open;
      few_large = now.few_large;
      right =
          right_rested now.places.items c.args.number now.next right
          (parted_rests now.places.items c.args.number c.meets.ensures.done);
    }

pub invariant_of-self-2 : goal.invariant_of-self-2
invariant_of-self-2 g c =
    let now = c.meets-2.new.self in
    let number : number_of now.present ≡ Some c.args.number = ap number_of c.meets-2.ensures.present ∙ c.requires in
    let right = subst (λ (n : Option ℕ). AreRight now.places.items now.next n) number now.right in
    record {
      few = now.few;
      few_open = now.few_open;
      few_large = now.few_large;
      right = right_rested now.places.items c.args.number now.next right c.meets-2.ensures.done;
    }
