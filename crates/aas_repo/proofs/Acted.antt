-- What a keeper's call makes of a command that was taken, by the rule by which the keeper has room.
use Rattle.std.proofs.Common.{◌≡◌, ◌<◌, ◌^◌, ℕ, Bool, List, [], ◌∷◌, ◌++◌, length, inl, refl, sym, subst, arith}
use Rattle.std.proofs.Common.{Ok, Err}
use Rattle.std.specs.Prelude.{◌≢◌, IsTrue, Result}
use Rattle.aas_command.specs.Commands.{payload_of}
use Rattle.aas_command.specs.declared.command.Command.{Command}
use Rattle.aas_command.specs.declared.refusal.Refusal.{Refusal}
use Rattle.aas_command.specs.declared.refusal.Refusal.TheVariants.{NoMemory, StorageFault}
use Rattle.aas_outside.specs.Keeper.{KeeperState}
use Rattle.aas_outside.specs.Moments.{InTurn, IsSettled}
use Rattle.aas_rule.specs.State.{Holds, IsSettledState, repository_of}
use Rattle.aas_step.specs.Step as step
use Rattle.aas_step.specs.Step.{ComesTo, Steps, accepted, refused}
use Rattle.aas_store.specs.Documents.{Documents}
use Rattle.aas_repo.proofs.Taken.{room_is}
use Rattle.aas_repo.specs.Acts.{Acts, done_of}
use Rattle.aas_repo.specs.Decisions.{IsTaken, has_room_for}
use Rattle.aas_repo.specs.Held.{Held, machine_state}
use Rattle.aas_repo.specs.declared.taking.Taken.TheVariants as taken
use Rattle.aas_repo.specs.declared.repo.Done.{Done}

abbrev pub held : {K : Type 0} → Documents → K → Bool → Held K
held documents keeper stopped = record { documents = documents; keeper = keeper; stopped = stopped }

-- what is known of the repository before speaks of it as its fields are, mid
module _ {K I : Type 0} (stands_for : I → List (List ℕ) → Type 0) (state : K → KeeperState I)
    (by_payloads : (keeper : K) (payloads : List (List ℕ)) (n : ℕ)
    → (state keeper).kept payloads → (state keeper).has_room n ≡ (state keeper).room_behind payloads n)
    (limit : (keeper : K) (payloads : List (List ℕ)) (n : ℕ) → IsTrue ((state keeper).room_behind payloads n) → n < 2 ^ 32)
    (c : Command) (mid old new : Held K) (same : mid ≡ old) where
  abbrev Does : Result Done Refusal → Held K → Type 0
  Does result old = (records : List (List ℕ)) → IsSettledState stands_for (machine_state state old).held records
      → Acts (state old.keeper).room_behind stands_for
      (repository_of (machine_state state old).held records) c (state old.keeper).moment
      (machine_state state new).held result

  abbrev Came : step.Result → Type 0
  Came result = ComesTo (has_room_for (state mid.keeper).has_room c) mid.documents c result

  -- in the repository that the keeper tells
  steps : (records : List (List ℕ)) (result : step.Result) → (state mid.keeper).kept records → Came result
      → Steps (state mid.keeper).room_behind (record { documents = mid.documents; records = records }) c result
  unfolding Steps
  steps records result known came =
      let n = length (payload_of c) in
      subst (λ (b : Bool). ComesTo b mid.documents c result)
      (room_is (state mid.keeper).has_room c ((state mid.keeper).room_behind records n)
      (sym (by_payloads mid.keeper records n known)) (limit mid.keeper records n))
      came

  pub keeps : (frame : List ℕ) (done : Done)
      → done ≡ done_of c → IsTaken (state mid.keeper).has_room mid.documents c new.documents (taken.Made frame)
      → ((payloads : List (List ℕ)) → (state mid.keeper).kept payloads → (state new.keeper).kept (payloads ++ frame ∷ []))
      → ((payloads : List (List ℕ))
      → IsSettled stands_for (state mid.keeper).kept (state mid.keeper).moment (state mid.keeper).left_at payloads
      → InTurn stands_for (state new.keeper).left_at (state mid.keeper).moment (state new.keeper).moment payloads (frame ∷ []) [])
      → Does (Ok done) old
  keeps frame done is made adds turn = subst (Does (Ok done)) same (λ records settled. (
    is,
    record {
      new = new.documents;
      steps = steps records (accepted new.documents) settled.told made.2;
      fields = made.3;
      holds = record {
        documents = refl;
        kept = subst (λ (p : List ℕ). (state new.keeper).kept (records ++ p ∷ [])) made.0 (adds records settled.told);
        in_turn = subst (λ (p : List ℕ).
            InTurn stands_for (state new.keeper).left_at (state mid.keeper).moment (state new.keeper).moment records (p ∷ []) [])
            made.0 (turn records settled);
      };
    },
  ))

  pub tears : (frame : List ℕ) → IsTaken (state mid.keeper).has_room mid.documents c new.documents (taken.Made frame)
      → ((payloads : List (List ℕ))
      → IsSettled stands_for (state mid.keeper).kept (state mid.keeper).moment (state mid.keeper).left_at payloads
      → InTurn stands_for (state new.keeper).left_at (state mid.keeper).moment (state new.keeper).moment payloads [] (frame ∷ []))
      → Does (Err StorageFault) old
  tears frame made turn = subst (Does (Err StorageFault)) same (λ records settled. (
    λ is. record {
      new = new.documents;
      steps = steps records (accepted new.documents) settled.told made.2;
      fields = made.3;
      faulted = record {
        documents = refl;
        in_turn = subst (λ (p : List ℕ).
            InTurn stands_for (state new.keeper).left_at (state mid.keeper).moment (state new.keeper).moment records [] (p ∷ []))
            made.0 (turn records settled);
      };
    },
    λ not. absurd (not refl),
    λ not. absurd (not refl),
  ))

  -- a refusal, and want of memory
  pub refuses : (refusal : Refusal)
      → new ≡ mid → refusal ≢ StorageFault → (refusal ≢ NoMemory → Came (refused refusal)) → Does (Err refusal) old
  refuses refusal unchanged other came = subst (Does (Err refusal)) same (λ records settled. (
    λ is. absurd (other is),
    λ not. subst (λ (new : Held K).
        Holds stands_for records [] (record { documents = mid.documents; records = records }) (state mid.keeper).moment
        ((machine_state state new).held)) (sym unchanged) (stands records settled),
    λ not left. steps records (refused refusal) settled.told (came left),
  ))
    where
      stands : (records : List (List ℕ)) → IsSettledState stands_for (machine_state state mid).held records
          → Holds stands_for records [] (record { documents = mid.documents; records = records })
          (state mid.keeper).moment (machine_state state mid).held
      stands records settled = record {
        documents = refl;
        kept = settled.told;
        in_turn = (
          omega arith,
          λ t from to image left.
              let now : t ≡ (state mid.keeper).moment = omega (arith, from, to) in
              inl (settled.alone image (subst (λ (t : ℕ). (state mid.keeper).left_at t image) now left)),
        );
      }
