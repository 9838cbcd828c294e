use Rattle.std.proofs.Common.{ℕ, List, sym, subst, ◌∙◌}
use Rattle.std.proofs.Math.Logic.{∥∥₁_map}
use Rattle.aas_clients.specs.Fronts.{IsUnfinishedBelow}
use Rattle.aas_clients.proofs.Wholes.{unfinished_added}
use Rattle.aas_clients.proofs.inbox.Inbox.receive.Goals as goal

pub invariant_of-self : goal.invariant_of-self
invariant_of-self g c =
    let self = c.args.self.now in
    let E = c.in_err-make_room.ensures in
    record {
      unfinished = ∥∥₁_map self.unfinished (λ (below : IsUnfinishedBelow self.wanted self.bytes.items).
          subst (λ (l : List ℕ). IsUnfinishedBelow self.wanted l) (sym E.items) below);
      given_back = λ none. E.err ∙ self.given_back (sym E.items ∙ none);
    }

pub invariant_of-self-in-Bytes : goal.invariant_of-self-in-Bytes
invariant_of-self-in-Bytes g c =
    let self = c.args.self.now in
    record {
      unfinished = ∥∥₁_map self.unfinished (λ (below : IsUnfinishedBelow self.wanted self.bytes.items).
          unfinished_added self.wanted self.bytes.items c.make_room.new.bytes.items
          c.take_in.new.bytes.items _ c.in_ok-make_room.ensures.items c.take_in.ensures.items below);
      given_back = c.take_in.ensures.given_back;
    }

pub invariant_of-self-2 : goal.invariant_of-self-2
invariant_of-self-2 g c =
    let self = c.args.self.now in
    record {
      unfinished = ∥∥₁_map self.unfinished (λ (below : IsUnfinishedBelow self.wanted self.bytes.items).
          subst (λ (l : List ℕ). IsUnfinishedBelow self.wanted l)
          (sym (c.give_back.ensures.items ∙ c.in_ok-make_room.ensures.items)) below);
      given_back = c.give_back.ensures.given_back;
    }
