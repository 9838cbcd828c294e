-- Clients of which only the turn has changed.
use Rattle.std.proofs.Common.{ℕ, Bool, ap, sym, ◌∙◌, arith}
use Rattle.aas_clients.specs.Clients.{InTime, RequestInTime, SameBesides}
use Rattle.aas_clients.specs.declared.client.Client.{Client}
use Rattle.aas_clients.specs.declared.inbox.Inbox.{Inbox}
use Rattle.aas_clients.specs.declared.outbox.Outbox.{Outbox}

module _ {S : Type 0} {g : _} where
  request_same : (old new : Client S g) (now : ℕ) → SameBesides old new → RequestInTime old now → RequestInTime new now
  request_same old new now same request = rw (same.has_ended, same.unread, same.inbox, same.since) request

  pub in_time_same : (old new : Client S g) (is_over : Bool) (now : ℕ)
      → SameBesides old new → InTime old is_over now → InTime new is_over now
  in_time_same old new is_over now same in_time = record {
    replies = λ some.
        let h = in_time.replies (λ none. some (ap (λ (o : Outbox). o.bytes.items) same.replies ∙ none)) in
        omega (arith, h, same.visited);
    idle = λ over none. in_time.idle over (ap (λ (i : Inbox). i.bytes.items) (sym same.inbox) ∙ none);
    request = request_same old new now same in_time.request;
  }
