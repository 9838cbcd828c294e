-- What serving the repository that was opened on a disk comes to.
use Rattle.std.proofs.Common.{◌≡◌, ◌≤◌, ◌+◌, ℕ, List, [], ◌∷◌, Some, sym, subst, ◌∙◌, arith, lit<}
use Rattle.std.specs.Prelude.{◌≢◌, Contains, IfSome}
use Rattle.aas_outside.specs.Wire.{connections}
use Rattle.aas_outside.specs.Link.{LinkState}
use Rattle.aas_journal.specs.Bank.{IsBankImage}
use Rattle.aas_journal.specs.Kept.{has_room_behind}
use Rattle.aas_journal.specs.Laws.{HaveOneList}
use Rattle.aas_outside.specs.Faults.{Rose}
use Rattle.aas_outside.specs.Moments.{Passes}
use Rattle.aas_outside.specs.Surroundings.{Connections, sent_on_all}
use Rattle.aas_outside_disk.specs.Disk.{AddsNone, DiskState, Meanwhile}
use Rattle.aas_outside_disk.specs.Files.{Files}
use Rattle.aas_repo_replay.specs.Laws.{AcceptedReplay, OneReplay}
use Rattle.aas_rule.specs.Rule.{Repository}
use Rattle.aas_rule.specs.State.{repository_of, State, WhereSettled}
use Rattle.aas_session.specs.Visits.{ServesAll, ServesWire}
use Rattle.aas_session.specs.Served.{Served, ServesLink}
use Rattle.aas_session.specs.declared.connection.Ended.{Ended}
use Rattle.aas_session.specs.declared.connection.Ended.TheVariants as ended
use Rattle.aas_session.specs.declared.wire.WireEnded.{WireEnded}
use Rattle.aas_session.specs.declared.wire.WireEnded.TheVariants as wire
use Rattle.aas_step.specs.Valid.{AreValid}
use Rattle.aas_store.specs.Documents.{Documents}
use Rattle.aas_api_service.specs.Turns.{Turns}
use Rattle.aas_server.specs.OnDisk.{StandsFor, state_on}
use Rattle.aas_server.specs.Opening.{OpensAs}
use Rattle.aas_server.specs.Pipe.{IsConsoleServed, IsPiped, pipe_status}
use Rattle.aas_server.specs.Serve.{ServesClients, IsWireServed, serve_status}
use Rattle.aas_server.proofs.Held.{IsOpened, has_begun, here, same}
use Rattle.aas_server.proofs.Replayed.{AreRead}
use Rattle.aas_server.proofs.Since.{all_since, served_since}
use Rattle.aas_server.proofs.Standing.{image_stands, kept_opens, stood_before}

-- the disk at the start and at the end, what the journal held when it was opened, and the documents at the end
module _ (one_list : HaveOneList) (one_replay : OneReplay) (accepted_replay : AcceptedReplay)
    (start last : DiskState) (opened : State Documents Files) (d : Documents)
    (kept : List (List ℕ) → Type 0)
    (told : (payloads : List (List ℕ))
    → kept payloads → (files : Files) × (last.seen ≡ Some files) × IsBankImage files payloads)
    (is_opened : IfSome start.seen (IsOpened opened))
    (reads : Passes start.moment start.left_at opened.moment opened.left_at)
    (images : Meanwhile start.moment opened.moment start.left_at opened.left_at AddsNone)
    (passed : Passes opened.moment opened.left_at last.moment last.left_at) (valid : AreValid d) where
  abbrev now : State Documents Files
  now = record { documents = d; kept = kept; moment = last.moment; left_at = last.left_at }

  -- ---- what is served, told from the opening on

  abbrev Session : Repository Documents → List ℕ → Ended → LinkState → LinkState → Type 0
  Session r input end old new =
      Served (Turns has_room_behind) IsBankImage r input opened.moment now old.sent new.sent
      (Rose old.faults new.faults) end

  abbrev ServesConsole : Ended → LinkState → LinkState → Type 0
  ServesConsole end old new = WhereSettled IsBankImage opened (λ r.
      ServesLink (Turns has_room_behind) IsBankImage r opened.moment now old new end)

  abbrev Sessions : Repository Documents → Connections → List ℕ → ℕ → WireEnded → LinkState → LinkState → Type 0
  Sessions r c sent count end old new =
      ServesAll (Turns has_room_behind) IsBankImage r c (sent_on_all c sent) count opened.moment now
      (connections new) new.sent old.faults new.faults end

  abbrev ServesVisits : ℕ → WireEnded → LinkState → LinkState → Type 0
  ServesVisits count end old new = WhereSettled IsBankImage opened (λ r.
      ServesWire (Turns has_room_behind) IsBankImage r count opened.moment now old new end)

  -- ---- from the start on

  module _ (r : Repository Documents) (opens : OpensAs start r) where
    abbrev held : IsOpened opened opens.0
    held = here one_list one_replay start opened is_opened r opens

    as_told : repository_of opened held.0 ≡ r
    as_told = same one_list one_replay start opened is_opened r opens

    read : AreRead r
    read = opens.2.1

    piped : (end : Ended) (old new : LinkState)
        → ServesConsole end old new → (input : List ℕ) → old.left ≡ Some input
        → IsPiped end input r old new start last
    piped end old new serves input left = record {
      documents = d;
      served = served_since accepted_replay has_room_behind IsBankImage (StandsFor start r) (image_stands start r)
          d last.moment last.left_at kept (state_on last d).kept (kept_opens last d kept told)
          start.moment opened.moment r read reads.later (stood_before start last opened r read images passed)
          input old.sent new.sent (Rose old.faults new.faults) end
          (subst (λ (x : Repository Documents). Session x input end old new) as_told (serves held.0 held.2 input left));
      valid = valid;
    }

    served : (count : ℕ) (end : WireEnded) (old new : LinkState)
        → ServesVisits count end old new → (c : Connections) (sent : List ℕ)
        → connections old ≡ Some c → old.sent ≡ Some sent → ServesClients count end c sent r old new start last
    served count end old new serves c sent known known_sent = record {
      documents = d;
      served = all_since accepted_replay has_room_behind IsBankImage (StandsFor start r) (image_stands start r)
          d last.moment last.left_at kept (state_on last d).kept (kept_opens last d kept told)
          start.moment opened.moment r read reads.later (stood_before start last opened r read images passed)
          c (sent_on_all c sent) count (connections new) new.sent old.faults new.faults end
          (subst (λ (x : Repository Documents). Sessions x c sent count end old new) as_told
          (serves held.0 held.2 c sent known known_sent));
      valid = valid;
    }

  pub console_served : (status : ℕ) (end : Ended) (old new : LinkState)
      → status ≡ pipe_status end → ServesConsole end old new
      → (end ≡ ended.LinkFault → Rose old.faults new.faults) → (end ≡ ended.KeeperFault → Rose start.faults last.faults)
      → (end ≢ ended.KeeperFault → last.faults ≡ start.faults) → IsConsoleServed status old new start last
  console_served status end old new is serves link_fault keeper_fault no_keeper_fault = record {
    ended = end;
    status_is = is;
    has_begun = has_begun start opened is_opened;
    piped = λ input r left opens. piped r opens end old new serves input left;
    link_fault = link_fault;
    keeper_fault = keeper_fault;
    no_keeper_fault = no_keeper_fault;
  }

  -- the wire served is as it was before it listened
  pub wire_served : (count status : ℕ) (end : WireEnded) (old mid new : LinkState) → connections mid ≡ connections old
      → mid.sent ≡ old.sent → mid.surroundings.clients ≡ old.surroundings.clients → mid.faults ≡ old.faults
      → old.surroundings.faults ≤ mid.surroundings.faults → status ≡ serve_status end
      → ServesVisits count end mid new → new.surroundings.clients ≤ mid.surroundings.clients + count
      → (end ≡ wire.WireFault → Rose mid.surroundings.faults new.surroundings.faults)
      → (end ≡ wire.KeeperFault → Rose start.faults last.faults)
      → (end ≢ wire.KeeperFault → last.faults ≡ start.faults) → IsWireServed count status old new start last
  wire_served count status end old mid new around sent clients faults
      later is serves few wire_fault keeper_fault no_keeper_fault = record {
        ended = end;
        status_is = is;
        has_begun = has_begun start opened is_opened;
        served = λ c bytes r known known_sent opens.
            let s = served r opens count end mid new serves c bytes (around ∙ known) (sent ∙ known_sent) in
            record {
              documents = s.documents;
              served = subst (λ (n : ℕ).
                  ServesAll (Turns has_room_behind) (StandsFor start r) r c (sent_on_all c bytes) count
                  start.moment (state_on last s.documents) (connections new) new.sent n new.faults end) faults s.served;
              valid = s.valid;
            };
        few = omega (arith, few, clients);
        wire_fault = λ failed. omega (arith, later, wire_fault failed);
        keeper_fault = keeper_fault;
        no_keeper_fault = no_keeper_fault;
      }

-- ---- statuses

pub pipe_statuses : (e : Ended) (status : ℕ) → status ≡ pipe_status e → Contains (0 ∷ 3 ∷ 4 ∷ 5 ∷ 6 ∷ 10 ∷ []) status
pipe_statuses ended.Closed status is = (0, lit< tt, sym is)
pipe_statuses ended.LinkFault status is = (1, lit< tt, sym is)
pipe_statuses ended.KeeperFault status is = (2, lit< tt, sym is)
pipe_statuses ended.NoMemory status is = (5, lit< tt, sym is)

pub serve_statuses : (e : WireEnded) (status : ℕ)
    → status ≡ serve_status e → Contains (0 ∷ 3 ∷ 4 ∷ 5 ∷ 6 ∷ 10 ∷ []) status
serve_statuses wire.Done status is = (0, lit< tt, sym is)
serve_statuses wire.WireFault status is = (1, lit< tt, sym is)
serve_statuses wire.KeeperFault status is = (2, lit< tt, sym is)
