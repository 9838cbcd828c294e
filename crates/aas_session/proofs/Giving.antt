-- What one request and its reply did.
use Rattle.std.proofs.Common.{◌≡◌, ◌⊎◌, inl, inr, ⊎_elim, ℕ, List, ◌++◌, Option, Result, Ok, Err, refl, sym, ap, ◌∙◌}
use Rattle.std.proofs.Common.{subst, append_assoc}
use Rattle.std.specs.Prelude.{OnOk, OnErr}
use Rattle.std.specs.Io.KnownBytes.{append_known}
use Rattle.aas_out.specs.declared.buffered.BufferOut.{BufferOut}
use Rattle.aas_out.specs.Held.{held_by, HoldsNothing}
use Rattle.aas_out.specs.Told.{Grows}
use Rattle.aas_out.proofs.Putting.{emptied, nothing_held}
use Rattle.aas_outside.specs.Link.{GivesFront}
use Rattle.aas_outside.proofs.KnownBytes.{append_known-more}
use Rattle.aas_rule.specs.State.{State}
use Rattle.aas_session.specs.Safe.{IsUnchanged}
use Rattle.aas_session.specs.Steps.{GivesUnless, StopsIn}
use Rattle.aas_session.proofs.Fronts.{front_put, front_parts, front_later}

-- a text was given whole, or the link failed
pub gives_unless : {E : Type 0} (result : Result Unit E) (F : Type 0) (old new : Option (List ℕ)) (text : List ℕ)
    → OnOk result (new ≡ append_known old text) → OnErr result (GivesFront old new text) → OnErr result F
    → GivesUnless F old new text
gives_unless (Ok u) F old new text given front failed = inl given
gives_unless (Err e) F old new text given front failed = inr (failed, front)

pub unchanged : {D I : Type 0} (state : State D I) → IsUnchanged state state
unchanged state = record { documents = refl; kept = λ payloads. (λ h. h, λ h. h); moment = refl }

-- What was held was given, unless the request is safe, which changes nothing. Then a text is put behind it.
module _ {L D I Safe Never : Type 0} (sent : L → Option (List ℕ)) (before now : State D I) (old mid : BufferOut L)
    (ready : Safe ⊎ HoldsNothing mid) (safe : Safe → IsUnchanged before now × Never)
    (put : append_known (sent mid.link.now) (held_by mid) ≡ append_known (sent old.link.now) (held_by old))
    (grows : Grows (sent old.link.now) (sent mid.link.now)) where
  given_all : HoldsNothing mid → sent mid.link.now ≡ append_known (sent old.link.now) (held_by old)
  given_all none =
      emptied (sent old.link.now) (sent mid.link.now) (held_by old) (held_by mid) put (nothing_held mid none)

  pub given_unless_safe : ¬ Safe → sent mid.link.now ≡ append_known (sent old.link.now) (held_by old)
  given_unless_safe may_change = ⊎_elim (λ s. absurd (may_change s)) (λ none. given_all none) ready

  -- the link stopped in what is held, or in the text
  module _ (text : List ℕ) (stopped : Option (List ℕ))
      (front : GivesFront (sent mid.link.now) stopped (held_by mid ++ text)) where
    when_safe : Safe → StopsIn before now (sent old.link.now) (held_by old) text stopped
    when_safe s = ⊎_elim
        (λ in_held. inl (
          (safe s).0,
          front_later (sent old.link.now) (sent mid.link.now) stopped (held_by mid) (held_by old) put grows in_held,
        ))
        (λ in_text. inr (subst (λ (k : Option (List ℕ)). GivesFront k stopped text) put in_text))
        (front_parts (sent mid.link.now) (held_by mid) stopped text front)

    when_given : HoldsNothing mid → StopsIn before now (sent old.link.now) (held_by old) text stopped
    when_given none =
        let in_text : GivesFront (sent mid.link.now) stopped text =
        subst (λ (l : List ℕ). GivesFront (sent mid.link.now) stopped (l ++ text)) (nothing_held mid none) front in
        inr (subst (λ (k : Option (List ℕ)). GivesFront k stopped text) (given_all none) in_text)

    pub stops_in : StopsIn before now (sent old.link.now) (held_by old) text stopped
    stops_in = ⊎_elim when_safe when_given ready

  module _ (new : BufferOut L) (text : List ℕ) (more : Grows (sent mid.link.now) (sent new.link.now)) where
    -- the text was put
    pub stops_behind : append_known (sent new.link.now) (held_by new)
        ≡ append_known (append_known (sent mid.link.now) (held_by mid)) text
        → (stopped : Option (List ℕ)) → GivesFront (sent new.link.now) stopped (held_by new)
        → StopsIn before now (sent old.link.now) (held_by old) text stopped
    stops_behind all stopped front =
        stops_in text stopped
        (front_later (sent mid.link.now) (sent new.link.now) stopped (held_by new) (held_by mid ++ text)
        (all ∙ append_known-more (sent mid.link.now) (held_by mid) text) more front)

    -- a front of it was put
    pub stops_within : (front rest : List ℕ) → text ≡ front ++ rest
        → append_known (sent new.link.now) (held_by new)
        ≡ append_known (append_known (sent mid.link.now) (held_by mid)) front
        → StopsIn before now (sent old.link.now) (held_by old) text (sent new.link.now)
    stops_within front rest parts some =
        stops_in text (sent new.link.now)
        (front_put (sent mid.link.now) (held_by new) (sent new.link.now)
        (held_by mid ++ front) rest (held_by mid ++ text)
        (ap (λ (l : List ℕ). held_by mid ++ l) parts ∙ sym (append_assoc (held_by mid) front rest))
        (some ∙ append_known-more (sent mid.link.now) (held_by mid) front) more)
