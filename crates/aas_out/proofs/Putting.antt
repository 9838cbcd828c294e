-- Bytes that are given to a link, or held for it, are put.
use Rattle.std.proofs.Common.{◌≡◌, ℕ, ◌+◌, ◌-◌, ◌≤◌, List, [], ◌++◌, take, drop, length, Option, refl, sym, ap, ap₂}
use Rattle.std.proofs.Common.{◌∙◌, arith}
use Rattle.std.proofs.lemmas.List.{take-append-drop, take_rest, drop-drop}
use Rattle.std.specs.Io.KnownBytes.{append_known}
use Rattle.std.proofs.lemmas.Result.{MatchResult-from_err}
use Rattle.std.specs.Borrow.{MutBor}
use Rattle.std.specs.declared.result.Result.{Result}
use Rattle.std.specs.Prelude.{Ok, Err, OnOk, OnErr, IsErr}
use Rattle.aas_outside.specs.Faults.{HasCause, Rose}
use Rattle.aas_outside.specs.Link.{GivesFront}
use Rattle.aas_outside.specs.Link.{LinkState}
use Rattle.aas_outside.specs.Surroundings.{Surroundings}
use Rattle.aas_outside.proofs.KnownBytes.{append_known-more}
use Rattle.aas_out.specs.Held.{held_by, HoldsNothing}
use Rattle.aas_out.specs.declared.buffered.BufferOut.{BufferOut}
use Rattle.aas_out.specs.LinkTold.{LinkKept, link_kept, link_told, holding_told}
use Rattle.aas_out.specs.Told.{Told, Puts, Wrote, WroteFront}
use Rattle.aas_out.proofs.Adding.{append_known-nil}

pub kept_by : (reference reference_now : ℕ) (left left_now : Option (List ℕ)) (around around_now : Surroundings)
    → reference_now ≡ reference → left_now ≡ left → around_now ≡ around
    → link_kept reference_now left_now around_now ≡ link_kept reference left around
kept_by reference reference_now left left_now around around_now e h g = cc

pub given_is_put : {T E : Type 0} (result : Result T E) (text : List ℕ)
    (old new : Option (List ℕ)) (before now : ℕ) (kept kept_now : LinkKept)
    → OnOk result (new ≡ append_known old text) → OnErr result (GivesFront old new text)
    → HasCause before now result → kept_now ≡ kept
    → Puts (link_told old before kept) (link_told new now kept_now) result text
given_is_put (Ok v) text old new before now kept kept_now given front cause same =
    record { sent = given; count = refl; later = cause.later; gone = (text, given); kept = same }
given_is_put (Err e) text old new before now kept kept_now given front cause same = record {
  front = take front.0 text;
  rest = drop front.0 text;
  parts = sym (take-append-drop front.0 text);
  wrote =
      record { sent = front.2; count = refl; later = cause.later; gone = (take front.0 text, front.2); kept = same };
  rose = cause.failed;
}

-- ---- what is held

-- a give of a front of what is held
pub held_less : (old new : Option (List ℕ)) (at n : ℕ) (bytes : List ℕ)
    → new ≡ append_known old (take n (take (length bytes - at) (drop at bytes)))
    → append_known new (drop (at + n) bytes) ≡ append_known old (drop at bytes)
held_less old new at n bytes h =
    ap (λ k. append_known k (drop (at + n) bytes))
    (h ∙ ap (λ (l : List ℕ). append_known old (take n l)) (take_rest bytes at))
    ∙ append_known-more old (take n (drop at bytes)) (drop (at + n) bytes)
    ∙ ap (λ l. append_known old (take n (drop at bytes) ++ l)) (sym (drop-drop n at bytes))
    ∙ ap (append_known old) (take-append-drop n (drop at bytes))

-- some of what was held is given, and nothing is put
pub flush_failed : (old new : Option (List ℕ)) (held held_now bytes : List ℕ)
    (before now : ℕ) (kept kept_now : LinkKept) (more : List ℕ)
    → append_known new held_now ≡ append_known old held
    → new ≡ append_known old more → before ≤ now → Rose before now → kept_now ≡ kept
    → WroteFront (holding_told old held before kept) (holding_told new held_now now kept_now) bytes
flush_failed old new held held_now bytes before now kept kept_now more sent grows later rose same = record {
  front = [];
  rest = bytes;
  parts = refl;
  wrote = record {
    sent = sent ∙ append_known-nil (append_known old held);
    count = refl;
    later = later;
    gone = (more, grows);
    kept = same;
  };
  rose = rose;
}

-- what was held is given, and then what is put
pub give_is_put : {T E : Type 0} (result : Result T E) (bytes held held_now : List ℕ)
    (old mid new : Option (List ℕ)) (before between now : ℕ) (kept kept_now : LinkKept)
    → mid ≡ append_known old held → held_now ≡ [] → before ≤ between
    → OnOk result (new ≡ append_known mid bytes) → OnErr result (GivesFront mid new bytes)
    → HasCause between now result → kept_now ≡ kept
    → Puts (holding_told old held before kept) (holding_told new held_now now kept_now) result bytes
give_is_put (Ok v) bytes held held_now old mid new before between
    now kept kept_now emptied none later given front cause same = record {
      sent = ap (append_known new) none ∙ sym (append_known-nil new) ∙ given ∙ ap (λ k. append_known k bytes) emptied;
      count = refl;
      later = omega (arith, later, cause.later);
      gone = (held ++ bytes, given ∙ ap (λ k. append_known k bytes) emptied ∙ append_known-more old held bytes);
      kept = same;
    }
give_is_put (Err e) bytes held held_now old mid new before between
    now kept kept_now emptied none later given front cause same = record {
      front = take front.0 bytes;
      rest = drop front.0 bytes;
      parts = sym (take-append-drop front.0 bytes);
      wrote = record {
        sent =
            ap (append_known new) none ∙ sym (append_known-nil new) ∙ front.2
            ∙ ap (λ k. append_known k (take front.0 bytes)) emptied;
        count = refl;
        later = omega (arith, later, cause.later);
        gone = (
          held ++ take front.0 bytes,
          front.2 ∙ ap (λ k. append_known k (take front.0 bytes)) emptied
              ∙ append_known-more old held (take front.0 bytes),
        );
        kept = same;
      };
      rose = omega (arith, later, cause.failed);
    }

-- ---- an end that holds bytes

pub nothing_held : {L : Type 0} (out : BufferOut L) → HoldsNothing out → held_by out ≡ []
nothing_held out h = ap₂ (λ n (xs : List ℕ). drop n xs) h.given h.held

-- where nothing is held any more, the link was given all that was held
pub emptied : (old new : Option (List ℕ)) (held held_now : List ℕ)
    → append_known new held_now ≡ append_known old held → held_now ≡ [] → new ≡ append_known old held
emptied old new held held_now flushed none = append_known-nil new ∙ ap (append_known new) (sym none) ∙ flushed

pub put_failed : {K T E : Type 0} (result : Result T E) (old new : Told K) (bytes : List ℕ)
    → IsErr result → WroteFront old new bytes → Puts old new result bytes
put_failed result old new bytes err h =
    MatchResult-from_err result (λ _. Wrote old new bytes) (λ _. WroteFront old new bytes) err (λ _. h)

pub on_err : {T E P : Type 0} (result : Result T E) → P → OnErr result P
on_err (Ok v) p = tt
on_err (Err e) p = p

-- what is told of a link and of what is held for it
abbrev pub told_of : {X : Type 0} → (X → LinkState) → MutBor X → List ℕ → Told LinkKept
told_of state link held =
    let it = state link.now in
    holding_told it.sent held it.faults (link_kept link.ghost_name it.left it.surroundings)
