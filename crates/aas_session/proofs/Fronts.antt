-- Fronts of what is held for a link, and of what is put behind it.
use Rattle.std.proofs.Common.{◌≡◌, ◌⊎◌, inl, inr, ⊎_elim, ℕ, ◌+◌, ◌-◌, ◌≤◌, List, [], ◌++◌, length, take, drop, Option}
use Rattle.std.proofs.Common.{refl, sym, ap, ◌∙◌, length-append, arith}
use Rattle.std.proofs.Math.Seq.{take-append-add}
use Rattle.std.proofs.lemmas.Bool.{cases_lt}
use Rattle.std.proofs.lemmas.List.{append-nil, take-append-le, take-append-drop}
use Rattle.std.specs.Io.KnownBytes.{append_known}
use Rattle.aas_out.specs.Told.{Grows}
use Rattle.aas_out.proofs.Adding.{append_known-nil, grows_both}
use Rattle.aas_out.proofs.Giving.{front_by_put}
use Rattle.aas_outside.specs.Link.{GivesFront}
use Rattle.aas_outside.proofs.KnownBytes.{append_known-more}

module _ (old : Option (List ℕ)) (held : List ℕ) where
  -- a front of it was put, of which the link was given a front
  pub front_put : (new : Option (List ℕ)) (front rest text : List ℕ)
      → text ≡ front ++ rest → append_known new held ≡ append_known old front → Grows old new → GivesFront old new text
  front_put new front rest text parts put grows =
      front_by_put old old new [] held text refl refl front rest parts
      (put ∙ ap (λ (k : Option (List ℕ)). append_known k front) (append_known-nil old)) grows

  -- the link stopped in what was put behind what was held
  pub front_behind : (new : Option (List ℕ)) (text : List ℕ)
      → GivesFront (append_known old held) new text → GivesFront old new (held ++ text)
  front_behind new text (n, within, given) = (
    length held + n,
    omega (arith, within, length-append held text),
    given ∙ append_known-more old held (take n text)
        ∙ ap (λ (l : List ℕ). append_known old l) (sym (take-append-add held text n)),
  )

  -- it stopped in what was held, or in what was put behind it
  pub front_parts : (new : Option (List ℕ)) (text : List ℕ)
      → GivesFront old new (held ++ text) → GivesFront old new held ⊎ GivesFront (append_known old held) new text
  front_parts new text (n, within, given) = ⊎_elim
      (λ le. inl (n, le, given ∙ ap (λ (l : List ℕ). append_known old l) (take-append-le n held text le)))
      (λ lt. inr (
        n - length held,
        omega (arith, within, length-append held text),
        given
            ∙ ap (λ (m : ℕ). append_known old (take m (held ++ text)))
            (let same : n ≡ length held + (n - length held) = omega (arith, lt) in same)
            ∙ ap (λ (l : List ℕ). append_known old l) (take-append-add held text (n - length held))
            ∙ sym (append_known-more old held (take (n - length held) text)),
      ))
      (let either : (n ≤ length held) ⊎ (length held ≤ n) =
      ⊎_elim (λ lt. inr (omega (arith, lt))) (λ le. inl le) (cases_lt (length held) n) in
      either)

-- the link stopped where nothing is held
pub front_none : (old new : Option (List ℕ)) → GivesFront old new [] → new ≡ old
front_none old new (n, within, given) =
    let zero : n ≡ 0 = omega (arith, within) in
    given ∙ ap (λ (m : ℕ). append_known old (take m [])) zero ∙ sym (append_known-nil old)

-- all of it was put, of which the link was given a front
pub front_given : (old new : Option (List ℕ)) (held text : List ℕ)
    → append_known new held ≡ append_known old text → Grows old new → GivesFront old new text
front_given old new held text put grows = front_put old held new text [] text (sym (append-nil text)) put grows

-- what the link was given stays, and it stopped in what is held now
pub front_later : (old mid new : Option (List ℕ)) (held text : List ℕ)
    → append_known mid held ≡ append_known old text → Grows old mid → GivesFront mid new held → GivesFront old new text
front_later old mid new held text put grows (n, within, given) =
    front_given old new (drop n held) text
    (ap (λ (k : Option (List ℕ)). append_known k (drop n held)) given
    ∙ append_known-more mid (take n held) (drop n held)
    ∙ ap (λ (l : List ℕ). append_known mid l) (take-append-drop n held) ∙ put)
    (grows_both old mid new grows (take n held, given))
