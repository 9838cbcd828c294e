-- What a link was given of a text that was put into an end that holds some of it.
use Rattle.std.proofs.Common.{◌≡◌, ℕ, ◌+◌, List, [], ◌++◌, take, length, Option, Some, None, sym, ap, ◌∙◌, append_assoc}
use Rattle.std.proofs.Common.{length-append, arith, subst}
use Rattle.std.proofs.Math.Seq.{take-append_seam}
use Rattle.std.proofs.lemmas.List.{append_cancel_left, append-nil}
use Rattle.std.specs.Io.KnownBytes.{append_known}
use Rattle.aas_outside.specs.Link.{GivesFront}
use Rattle.aas_out.specs.Told.{Grows}
use Rattle.std.specs.declared.result.Result.{Result}
use Rattle.std.specs.Prelude.{Ok, Err, OnErr, OnOk}
use Rattle.std.proofs.lemmas.Option.{same_Some}
use Rattle.aas_out.specs.Held.{held_by, HoldsNothing}
use Rattle.aas_out.specs.declared.buffered.BufferOut.{BufferOut}
use Rattle.aas_out.proofs.Adding.{append_known-nil, grows_both}
use Rattle.aas_out.proofs.Putting.{emptied, nothing_held, on_err}

-- a front of what was put is given
front_given : (old new : Option (List ℕ)) (held front rest text : List ℕ)
    → text ≡ front ++ rest → append_known new held ≡ append_known old front → Grows old new → GivesFront old new text
front_given None new held front rest text parts put grows = (0, omega arith, grows.1)
front_given (Some b) new held front rest text parts put grows =
    let more : List ℕ = grows.0 in
    let now : Some ((b ++ more) ++ held) ≡ Some (b ++ front) = ap (λ k. append_known k held) (sym grows.1) ∙ put in
    let is : more ++ held ≡ front = append_cancel_left b (more ++ held) front
    (sym (append_assoc b more held) ∙ same_Some ((b ++ more) ++ held) (b ++ front) now) in
    let whole : text ≡ more ++ (held ++ rest) = parts ∙ ap (λ t. t ++ rest) (sym is) ∙ append_assoc more held rest in
    let long : length text ≡ length more + length (held ++ rest) =
    ap length whole ∙ length-append more (held ++ rest) in (
      length more,
      omega (arith, long),
      grows.1 ∙ ap (λ t. Some (b ++ t)) (sym (ap (take (length more)) whole ∙ take-append_seam more (held ++ rest))),
    )

-- the same of a link, by what it is when its loan is over
pub gives_at : {X E T : Type 0} (result : Result T E) (sent : X → Option (List ℕ)) (old : Option (List ℕ))
    (text : List ℕ) (later new : X) → later ≡ new → GivesFront old (sent new) text → OnErr result (GivesFront old (sent later) text)
gives_at result sent old text later new same given =
    on_err result (subst (λ l. GivesFront old (sent l) text) (sym same) given)

-- a link of which nothing is held, by what it was before
began_with : (first old : Option (List ℕ)) (held text : List ℕ)
    → old ≡ first → held ≡ [] → append_known (append_known old held) text ≡ append_known first text
began_with first old held text is none =
    ap (λ k. append_known k text) (ap (append_known old) none ∙ sym (append_known-nil old) ∙ is)

pub front_by_put : (first old new : Option (List ℕ)) (began held text : List ℕ)
    → old ≡ first → began ≡ [] → (front rest : List ℕ)
    → text ≡ front ++ rest → append_known new held ≡ append_known (append_known old began) front → Grows old new
    → GivesFront first new text
front_by_put first old new began held text is none front rest parts put grows =
    front_given first new held front rest text parts (put ∙ began_with first old began front is none)
    (grows.0, grows.1 ∙ ap (λ k. append_known k grows.0) is)

pub front_by_flush : (first old mid new : Option (List ℕ)) (began held held_now text : List ℕ)
    → old ≡ first → began ≡ [] → append_known mid held ≡ append_known (append_known old began) text → Grows old mid
    → append_known new held_now ≡ append_known mid held → Grows mid new → GivesFront first new text
front_by_flush first old mid new began held held_now text is none put grows flushed more =
    front_by_put first old new began held_now text is none text []
    (sym (append-nil text)) (flushed ∙ put) (grows_both old mid new grows more)

pub given_by_flush : {L T E : Type 0} (result : Result T E)
    (first old mid new : Option (List ℕ)) (began held : List ℕ) (out : BufferOut L) (text : List ℕ)
    → old ≡ first → began ≡ [] → append_known mid held ≡ append_known (append_known old began) text
    → append_known new (held_by out) ≡ append_known mid held → OnOk result (HoldsNothing out)
    → OnOk result (new ≡ append_known first text)
given_by_flush (Ok v) first old mid new began held out text is none put flushed empty =
    emptied mid new held (held_by out) flushed (nothing_held out empty) ∙ put ∙ began_with first old began text is none
given_by_flush (Err e) first old mid new began held out text is none put flushed empty = tt
