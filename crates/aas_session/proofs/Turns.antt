-- Turns one after another, and the replies and commands that they add.
use Rattle.std.proofs.Common.{◌≡◌, inl, inr, ℕ, ◌-◌, Bool, true, false, List, [], ◌∷◌, ◌++◌, refl, sym, ap, ◌∙◌, subst}
use Rattle.std.proofs.Common.{append_assoc, Option, Some, None}
use Rattle.std.specs.Io.KnownBytes.{append_known}
use Rattle.std.specs.Prelude.{if◌then◌else◌}
use Rattle.std.proofs.lemmas.List.{append-nil}
use Rattle.std.proofs.lemmas.Grind.{flat_map-append}
use Rattle.aas_http.specs.FirstRequest.{Message, FirstRequest, Nothing, Bad, TooLarge, NotImplemented, Whole}
use Rattle.aas_outside.specs.Link.{GivesFront}
use Rattle.aas_outside.proofs.KnownBytes.{append_known-more}
use Rattle.aas_rule.specs.Rule.{Repository, after}
use Rattle.aas_session.specs.Served.{GivesTurns}
use Rattle.aas_session.specs.Refusals.{bad_request, too_large, not_implemented, out_of_memory}
use Rattle.aas_session.specs.Session.{HttpRule, End, Closed, NoMemory, Place, going, over, repository, Turn, refusal}
use Rattle.aas_session.specs.Session.{closes, behind, TurnAt, Takes, TakesAll, replies, commands}

pub turns_then : {D : Type 0} (rule : HttpRule D) (place : Place D)
    (turns : List Turn) (last : Place D) (turn : Turn) (next : Place D)
    → TakesAll rule place turns last → Takes rule last turn next → TakesAll rule place (turns ++ turn ∷ []) next
turns_then {D} rule place [] last turn next taken more =
    (next, (let P : Place D → Type 0 = λ p. Takes rule p turn next in subst P taken more), refl)
turns_then rule place (t ∷ turns) last turn next (mid, first, rest) more =
    (mid, first, turns_then rule mid turns last turn next rest more)

pub replies_more : (turns : List Turn) (turn : Turn) → replies (turns ++ turn ∷ []) ≡ replies turns ++ turn.reply
replies_more turns turn =
    flat_map-append (λ (t : Turn). t.reply) turns (turn ∷ [])
    ∙ ap (λ (l : List ℕ). replies turns ++ l) (append-nil turn.reply)

pub commands_more : (turns : List Turn) (turn : Turn) → commands (turns ++ turn ∷ []) ≡ commands turns ++ turn.kept
commands_more turns turn =
    flat_map-append (λ (t : Turn). t.kept) turns (turn ∷ [])
    ∙ ap (λ (l : List (List ℕ)). commands turns ++ l) (append-nil turn.kept)

-- ---- what was given

pub append_known-nil : (known : Option (List ℕ)) → append_known known [] ≡ known
append_known-nil None = refl
append_known-nil (Some l) = ap (λ (k : List ℕ). Some k) (append-nil l)

pub gives_more : (old mid new : Option (List ℕ)) (turns : List Turn) (turn : Turn)
    → mid ≡ append_known old (replies turns) → new ≡ append_known mid turn.reply
    → new ≡ append_known old (replies (turns ++ turn ∷ []))
gives_more old mid new turns turn before is =
    is ∙ ap (λ (k : Option (List ℕ)). append_known k turn.reply) before
    ∙ append_known-more old (replies turns) turn.reply
    ∙ ap (λ (l : List ℕ). append_known old l) (sym (replies_more turns turn))

pub cut_turns : (old mid new : Option (List ℕ)) (turns : List Turn) (turn : Turn)
    → mid ≡ append_known old (replies turns) → GivesFront mid new turn.reply
    → GivesTurns old new (turns ++ turn ∷ [])
cut_turns old mid new turns turn before front =
    inr (turns, turn, refl, subst (λ (k : Option (List ℕ)). GivesFront k new turn.reply) before front)

-- ---- the repository behind turns

pub repository_behind : {D : Type 0} (requests : ℕ) (message : Message) (r : Repository D) (rest : List ℕ)
    → repository (behind requests message r rest) ≡ r
repository_behind {D} requests message r rest = either (closes requests message)
  where
    either : (b : Bool) → repository (if b then over r Closed else going (requests - 1) r rest) ≡ r
    either true = refl
    either false = refl

refused_records : {D : Type 0} (r : Repository D) (text : List ℕ) (end : End) (turn : Turn) (next : Place D)
    → turn ≡ refusal text → next ≡ over r end
    → (repository next).records ≡ r.records ++ turn.kept
refused_records {D} r text end turn next is next_is =
    ap (λ (p : Place D). (repository p).records) next_is
    ∙ sym (append-nil r.records) ∙ ap (λ (t : Turn). r.records ++ t.kept) (sym is)

turn_records : {D : Type 0} (rule : HttpRule D) (requests : ℕ)
    (r : Repository D) (first : FirstRequest) (turn : Turn) (next : Place D)
    → TurnAt rule requests r first turn next
    → (repository next).records ≡ r.records ++ turn.kept
turn_records rule requests r Nothing turn next at = absurd at
turn_records rule requests r Bad turn next (is, next_is) = refused_records r bad_request Closed turn next is next_is
turn_records rule requests r TooLarge turn next (is, next_is) = refused_records r too_large Closed turn next is next_is
turn_records rule requests r NotImplemented turn next (is, next_is) =
    refused_records r not_implemented Closed turn next is next_is
turn_records {D} rule requests r (Whole message rest) turn next (inl (outcome, comes, is, next_is)) =
    ap (λ (p : Place D). (repository p).records) next_is
    ∙ ap (λ (q : Repository D). q.records) (repository_behind requests message (after r outcome) rest)
    ∙ ap (λ (t : Turn). r.records ++ t.kept) (sym is)
turn_records rule requests r (Whole message rest) turn next (inr (is, next_is)) =
    refused_records r out_of_memory NoMemory turn next is next_is

step_records : {D : Type 0} (rule : HttpRule D) (place : Place D) (turn : Turn) (next : Place D)
    → Takes rule place turn next → (repository next).records ≡ (repository place).records ++ turn.kept
step_records rule (over r end) turn next taken = absurd taken
step_records rule (going requests r bytes) turn next (first, is, at) = turn_records rule requests r first turn next at

-- it has the records before the turns, and their commands
pub turns_records : {D : Type 0} (rule : HttpRule D) (place : Place D) (turns : List Turn) (last : Place D)
    → TakesAll rule place turns last
    → (repository last).records ≡ (repository place).records ++ commands turns
turns_records {D} rule place [] last taken =
    ap (λ (p : Place D). (repository p).records) taken ∙ sym (append-nil (repository place).records)
turns_records rule place (turn ∷ turns) last (mid, first, rest) =
    turns_records rule mid turns last rest
    ∙ ap (λ (l : List (List ℕ)). l ++ commands turns) (step_records rule place turn mid first)
    ∙ append_assoc (repository place).records turn.kept (commands turns)
