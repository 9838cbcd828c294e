-- What payloads replay to grows at their end, is one state, and is valid.
use Rattle.std.proofs.Common.{◌≡◌, inl, inr, ℕ, zero, suc, ◌+◌, ◌<◌, Bool, true, false, List, [], ◌∷◌, ◌++◌, Some, None}
use Rattle.std.proofs.Common.{refl, sym, ◌∙◌, subst, length, take, get_or, arith}
use Rattle.std.proofs.lemmas.Bool.{cases_order}
use Rattle.std.proofs.lemmas.List.{take-take, take_more}
use Rattle.std.proofs.lemmas.Option.{get_or_from_slice_get, slice_get_within, same_Some}
use Rattle.std.specs.Prelude.{flat_map, slice_get}
use Rattle.aas_command.specs.Commands.{IsWellFormed, payload_of}
use Rattle.aas_command.specs.Encoding.{HasFields}
use Rattle.aas_command.specs.declared.command.Command.{Command}
use Rattle.aas_command.specs.declared.refusal.Refusal.{Refusal}
use Rattle.aas_command.specs.declared.refusal.Refusal.TheVariants.{StorageFull}
use Rattle.aas_record.specs.Laws.{IsOfOneCommand}
use Rattle.aas_record.specs.Records.{IsRecord}
use Rattle.aas_rule.specs.Rule.{Repository, Room}
use Rattle.aas_step.proofs.Validity.{empty_valid, stays_valid}
use Rattle.aas_step.specs.Causes.{Cause, causes, document_causes, first_of, unless}
use Rattle.aas_step.specs.Laws.{OneResult}
use Rattle.aas_step.specs.Made.{left, with_documents}
use Rattle.aas_step.specs.Step.{Result, accepted, refused, result_of, ComesBy, ComesTo, Steps}
use Rattle.aas_step.specs.Valid.{AreValid}
use Rattle.aas_store.specs.Documents.{Documents, empty}
use Rattle.aas_repo_replay.specs.Laws.{AcceptedReplay, OneReplay, OneStop, ReplaysValid}
use Rattle.aas_repo_replay.specs.Replay.{Adds, AddsNothing, Replays, ReplaysFrom, StopsAt, always_room}

-- ---- what an accepted command makes

-- what the last cause didn't refuse isn't refused without it
without_last : (others : List Cause) (b : Bool) (new made : Documents)
    → accepted new ≡ result_of (first_of (others ++ unless b StorageFull ∷ [])) made
    → accepted new ≡ result_of (first_of (others ++ unless true StorageFull ∷ [])) made
without_last [] true new made e = e
without_last [] false new made e = absurd (cc)
without_last (None ∷ others) b new made e = without_last others b new made e
without_last (Some why ∷ others) b new made e = e

by_cause : (o : Cause) (b : Bool) (d : Documents) (c : Command) (new : Documents) → ComesBy o b d c (accepted new)
    → ComesBy o true d c (accepted new)
by_cause (Some why) b d c new comes = comes
by_cause None b d c new (made, is, e) =
    (made, is, without_last (flat_map document_causes made) b new (with_documents (left d c) made) e)

accepted_adds : (room : Room) (r : Repository Documents) (c : Command) (new : Documents) → IsWellFormed c → HasFields c
    → Steps room r c (accepted new) → Adds r.documents (payload_of c) new
unfolding Steps ComesTo
accepted_adds room r c new formed fields steps = (
  c,
  record { well_formed = formed; fields = fields; same = refl },
  by_cause (first_of (causes r.documents c)) (room r.records (length (payload_of c))) r.documents c new steps,
)

-- ---- one more payload

more_from : (old : Documents) (payloads : List (List ℕ)) (d : Documents) (payload : List ℕ) (new : Documents)
    → ReplaysFrom old payloads d → Adds d payload new → ReplaysFrom old (payloads ++ payload ∷ []) new
more_from old [] d payload new is adds = (new, subst (λ (x : Documents). Adds x payload new) is adds, refl)
more_from old (first ∷ payloads) d payload new (next, made, rest) adds =
    (next, made, more_from next payloads d payload new rest adds)

pub accepted_replay : AcceptedReplay
accepted_replay room r c new before formed fields steps =
    more_from empty r.records r.documents (payload_of c) new before (accepted_adds room r c new formed fields steps)

pub next_replays : (payloads : List (List ℕ)) (n : ℕ) (d : Documents) (payload : List ℕ) (new : Documents)
    → Replays (take n payloads) d
    → slice_get payloads n ≡ Some payload → Adds d payload new → Replays (take (n + 1) payloads) new
next_replays payloads n d payload new before is adds =
    let within : n < length payloads = slice_get_within payloads n payload is in
    let grown : take (n + 1) payloads ≡ take n payloads ++ get_or payloads n [] ∷ [] = take_more payloads n [] within in
    let same : get_or payloads n [] ≡ payload = get_or_from_slice_get payloads n payload [] is in
    subst (λ (l : List (List ℕ)). Replays l new) (sym (grown ∙ cc))
    (more_from empty (take n payloads) d payload new before adds)

-- ---- the n-th payload

-- the documents before and after it
record Reached (old : Documents) (payloads : List (List ℕ)) (n : ℕ) (payload : List ℕ) : Type 0 where
  mid : Documents
  before : ReplaysFrom old (take n payloads) mid
  next : Documents
  adds : Adds mid payload next

reached : (old : Documents) (payloads : List (List ℕ)) (n : ℕ) (payload : List ℕ) (d : Documents)
    → ReplaysFrom old payloads d
    → slice_get payloads n ≡ Some payload → Reached old payloads n payload
reached old [] n payload d is e = absurd (cc)
reached old (first ∷ payloads) zero payload d (next, made, rest) e = record {
  mid = old;
  before = refl;
  next = next;
  adds = subst (λ (x : List ℕ). Adds old x next) (same_Some first payload e) made;
}
reached old (first ∷ payloads) (suc n) payload d (next, made, rest) e =
    let at = reached next payloads n payload d rest e in
    record { mid = at.mid; before = (next, made, at.before); next = at.next; adds = at.adds }

next_in_front : (payloads : List (List ℕ)) (m n : ℕ) (payload : List ℕ) → m < n → slice_get payloads m ≡ Some payload
    → slice_get (take n payloads) m ≡ Some payload
next_in_front [] m n payload low e = absurd (cc)
next_in_front (first ∷ payloads) m zero payload low e = absurd (omega arith)
next_in_front (first ∷ payloads) zero (suc n) payload low e = e
next_in_front (first ∷ payloads) (suc m) (suc n) payload low e =
    next_in_front payloads m n payload (omega (arith, low)) e

-- ---- valid documents

adds_valid : (old : Documents) (payload : List ℕ) (new : Documents) → AreValid old → Adds old payload new → AreValid new
unfolding Steps
adds_valid old payload new valid (c, is, steps) = stays_valid true old new c is.well_formed valid steps

valid_from : (old : Documents) (payloads : List (List ℕ)) (d : Documents)
    → AreValid old → ReplaysFrom old payloads d → AreValid d
valid_from old [] d valid is = subst AreValid (sym is) valid
valid_from old (payload ∷ payloads) d valid (next, adds, rest) =
    valid_from next payloads d (adds_valid old payload next valid adds) rest

pub replays_valid : ReplaysValid
replays_valid payloads d is = valid_from empty payloads d empty_valid is

-- ---- one state

-- the command that a payload adds in some documents comes to what it adds
adds_by : IsOfOneCommand → (d : Documents) (payload : List ℕ) (c : Command) (new : Documents)
    → IsRecord payload c → Adds d payload new
    → ComesTo true d c (accepted new)
unfolding Steps
adds_by one d payload c new is (other, too, comes) =
    subst (λ (x : Command). ComesTo true d x (accepted new)) (one payload other c too is) comes

module _ (one_command : IsOfOneCommand) (one_result : OneResult) where
  one_in : (d : Documents) (c : Command) (a b : Result) → AreValid d → ComesTo true d c a → ComesTo true d c b → a ≡ b
  unfolding Steps
  one_in d c a b valid first second =
      one_result always_room (record { documents = d; records = [] }) c a b valid first second

  adds_once : (d : Documents) (payload : List ℕ) (a b : Documents)
      → AreValid d → Adds d payload a → Adds d payload b → a ≡ b
  unfolding Steps
  adds_once d payload a b valid (c, is, steps) adds =
      let e : accepted a ≡ accepted b =
      one_in d c (accepted a) (accepted b) valid steps (adds_by one_command d payload c b is adds) in
      cc

  from_once : (old : Documents) (payloads : List (List ℕ)) (a b : Documents)
      → AreValid old → ReplaysFrom old payloads a → ReplaysFrom old payloads b → a ≡ b
  from_once old [] a b valid first second = first ∙ sym second
  from_once old (payload ∷ payloads) a b valid (next, made, rest) (other, too, others) =
      from_once next payloads a b (adds_valid old payload next valid made) rest
      (subst (λ (x : Documents). ReplaysFrom x payloads b) (adds_once old payload other next valid too made) others)

  pub one_replay : OneReplay
  one_replay payloads a b first second = from_once empty payloads a b empty_valid first second

  -- ---- one place

  never_both : (payloads : List (List ℕ)) (n : ℕ) (d e : Documents) → Replays payloads d → ¬ (StopsAt payloads n e)
  never_both payloads n d e is stop =
      let at = reached empty payloads n stop.payload d is stop.next in
      let same : at.mid ≡ e = from_once empty (take n payloads) at.mid e empty_valid at.before stop.before in
      stop.nothing at.next (subst (λ (x : Documents). Adds x stop.payload at.next) same at.adds)

  never_later : (payloads : List (List ℕ)) (m n : ℕ) (d e : Documents)
      → m < n → StopsAt payloads m d → ¬ (StopsAt payloads n e)
  never_later payloads m n d e low first second = never_both (take n payloads) m e d second.before (record {
    before = subst (λ (l : List (List ℕ)). Replays l d) (sym (take-take m n payloads (omega arith))) first.before;
    payload = first.payload;
    next = next_in_front payloads m n first.payload low first.next;
    nothing = first.nothing;
  })

  pub one_stop : OneStop
  one_stop = record {
    replay_or_stop = never_both;
    one_place = λ payloads m n d e first second. elim (cases_order m n) [
      | inl same ↦ same
      | inr other ↦ elim other [
        | inl low ↦ absurd (never_later payloads m n d e low first second)
        | inr high ↦ absurd (never_later payloads n m e d high second first)
      ]
    ];
  }

  -- ---- the command of one payload

  pub refused_adds_nothing : (d : Documents) (payload : List ℕ) (c : Command) (why : Refusal)
      → AreValid d → IsRecord payload c
      → ComesTo true d c (refused why) → AddsNothing d payload
  refused_adds_nothing d payload c why valid is comes new adds =
      let e : refused why ≡ accepted new =
      one_in d c (refused why) (accepted new) valid comes (adds_by one_command d payload c new is adds) in
      cc

pub accepted_record_adds : (d : Documents) (payload : List ℕ) (c : Command) (new : Documents) → IsRecord payload c
    → ComesTo true d c (accepted new) → Adds d payload new
unfolding Steps
accepted_record_adds d payload c new is comes = (c, is, comes)
