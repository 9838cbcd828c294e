-- Payloads that are kept in turn, part by part.
use Rattle.std.proofs.Common.{◌⊎◌, inl, ⊎_elim, ◌≤◌, ℕ, List, [], ◌∷◌, ◌++◌, sym, subst, arith, append_assoc}
use Rattle.std.proofs.lemmas.List.{append-nil}
use Rattle.std.proofs.lemmas.Bool.{cases_lt}
use Rattle.aas_outside.specs.Moments.{During, InTurn, Passes}

pub passes_none : {I : Type 0} (now : ℕ) (left_at : ℕ → I → Type 0) → Passes now left_at now left_at
passes_none now left_at = record { later = omega arith; past = λ t le image. (λ h. h, λ h. h) }

pub passes_on : {I : Type 0} (a b c : ℕ) (old mid new : ℕ → I → Type 0)
    → Passes a old b mid → Passes b mid c new → Passes a old c new
passes_on a b c old mid new p q = record {
  later = omega (arith, p.later, q.later);
  past = λ t le image. (
    λ h. (p.past t le image).0 ((q.past t (omega (arith, le, p.later)) image).0 h),
    λ h. (q.past t (omega (arith, le, p.later)) image).1 ((p.past t le image).1 h),
  );
}

module _ {I : Type 0} (stands_for : I → List (List ℕ) → Type 0) where
  -- time doesn't go back
  pub in_turn_ends : (left_at : ℕ → I → Type 0) (from to : ℕ) (kept added failed : List (List ℕ))
      → InTurn stands_for left_at from to kept added failed → from ≤ to
  in_turn_ends left_at from to kept [] failed turn = turn.0
  in_turn_ends left_at from to kept (payload ∷ added) failed (next, since, first, rest) =
      omega (arith, since, in_turn_ends left_at next to (kept ++ payload ∷ []) added failed rest)

  -- what was added in turn stays so, as time goes on
  pub in_turn_later : (before now : ℕ) (old new : ℕ → I → Type 0)
      → Passes before old now new → (from to : ℕ) → to ≤ before → (kept added failed : List (List ℕ))
      → InTurn stands_for old from to kept added failed → InTurn stands_for new from to kept added failed
  in_turn_later before now old new passes from to le kept [] failed turn = (
    turn.0,
    λ t since until image left.
        turn.1 t since until image ((passes.past t (omega (arith, until, le)) image).0 left),
  )
  in_turn_later before now old new passes from to le kept (payload ∷ added) failed (next, since, first, rest) =
      let below : next ≤ to = in_turn_ends old next to (kept ++ payload ∷ []) added failed rest in (
        next,
        since,
        λ t late until image left.
            first t late until image ((passes.past t (omega (arith, until, below, le)) image).0 left),
        in_turn_later before now old new passes next to le (kept ++ payload ∷ []) added failed rest,
      )

  -- those that are kept alone, and then with more
  alone : (image : I) (kept more : List (List ℕ))
      → stands_for image kept ⊎ stands_for image (kept ++ []) → stands_for image kept ⊎ stands_for image (kept ++ more)
  alone image kept more h =
      ⊎_elim (λ a. inl a) (λ b. inl (subst (λ (l : List (List ℕ)). stands_for image l) (append-nil kept) b)) h

  during_both : (left_at : ℕ → I → Type 0) (from mid to : ℕ) (kept more : List (List ℕ))
      → During stands_for left_at from mid kept [] → During stands_for left_at mid to kept more
      → During stands_for left_at from to kept more
  during_both left_at from mid to kept more first then t since until image here = ⊎_elim
      (λ low. alone image kept more (first t since (omega (arith, low)) image here))
      (λ high. then t high until image here)
      (cases_lt t mid)

  -- one part after another
  pub in_turn_then : (left_at : ℕ → I → Type 0) (from mid to : ℕ) (kept first then failed : List (List ℕ))
      → InTurn stands_for left_at from mid kept first []
      → InTurn stands_for left_at mid to (kept ++ first)
      then failed → InTurn stands_for left_at from to kept (first ++ then) failed
  in_turn_then left_at from mid to kept [] [] failed turn more =
      let same : InTurn stands_for left_at mid to kept [] failed =
      subst (λ (l : List (List ℕ)). InTurn stands_for left_at mid to l [] failed) (append-nil kept) more in
      (omega (arith, turn.0, same.0), during_both left_at from mid to kept failed turn.1 same.1)
  in_turn_then left_at from mid to kept [] (payload ∷ then) failed turn more =
      let same : InTurn stands_for left_at mid to kept (payload ∷ then) failed =
      subst (λ (l : List (List ℕ)). InTurn stands_for left_at mid to l (payload ∷ then) failed)
      (append-nil kept) more in (
        same.0,
        omega (arith, turn.0, same.1),
        during_both left_at from mid same.0 kept (payload ∷ []) turn.1 same.2,
        same.3,
      )
  in_turn_then left_at from mid to kept (payload ∷ first) then failed (next, since, here, rest) more = (
    next,
    since,
    here,
    in_turn_then left_at next mid to (kept ++ payload ∷ []) first then failed rest
        (subst (λ (l : List (List ℕ)). InTurn stands_for left_at mid to l then failed)
        (sym (append_assoc kept (payload ∷ []) first)) more),
  )

  -- at its end a stop leaves an image of all of them
  pub in_turn_settled : (left_at : ℕ → I → Type 0) (from to : ℕ) (kept added : List (List ℕ))
      → InTurn stands_for left_at from to kept added [] → (image : I)
      → left_at to image → stands_for image (kept ++ added)
  in_turn_settled left_at from to kept [] turn image here = ⊎_elim
      (λ a. subst (λ (l : List (List ℕ)). stands_for image l) (sym (append-nil kept)) a)
      (λ b. b)
      (turn.1 to turn.0 (omega arith) image here)
  in_turn_settled left_at from to kept (payload ∷ added) (next, since, first, rest) image here =
      subst (λ (l : List (List ℕ)). stands_for image l) (append_assoc kept (payload ∷ []) added)
      (in_turn_settled left_at next to (kept ++ payload ∷ []) added rest image here)

  -- nothing is added at a moment at which a stop leaves an image of what is kept
  pub in_turn_none : (left_at : ℕ → I → Type 0) (now : ℕ) (kept : List (List ℕ))
      → ((image : I) → left_at now image → stands_for image kept) → InTurn stands_for left_at now now kept [] []
  in_turn_none left_at now kept alone = (
    omega arith,
    λ t since until image here.
        inl (alone image (subst (λ (k : ℕ). left_at k image) (omega (arith, since, until)) here)),
  )
