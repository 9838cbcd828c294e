-- Where a cut finds nothing, though the first byte doesn't tell it.
use Rattle.std.proofs.Common.{◌≡◌, ℕ, Bool, List, ◌++◌, Option, None, ap, ◌∙◌, append_assoc, inl, inr}
use Rattle.std.specs.Option.{option_and_then}
use Rattle.aas_lexical_forms.specs.Form.{run, maybe, ◌▸◌}
use Rattle.aas_lexical_forms.specs.Cut.{after_run, cut_then}
use Rattle.aas_lexical_forms.proofs.Begin.{Avoids, Needs}
use Rattle.aas_lexical_forms.proofs.Cuts.{Cuts, Anything, run-full}

-- p finds nothing where a text of B stands, and behind it what may follow
pub record Dodges (B : List ℕ → Type 0) (Next : List ℕ → Type 0) (p : List ℕ → Option (List ℕ)) : Type 0 where
  pub none_at : (y z : List ℕ) → B y → Next z → p (y ++ z) ≡ None

maybe_dodged : {A B Next : List ℕ → Type 0} {p : List ℕ → Option (List ℕ)} → Dodges A Anything p → Dodges B Next p
    → (y z front back : List ℕ) → y ≡ front ++ back → maybe A front → B back → Next z → p (y ++ z) ≡ None
maybe_dodged {p = p} a b y z front back e (inl n) k next = ap p (ap (λ (l : List ℕ). l ++ z) (e ∙ ap (λ (l : List ℕ). l ++ back) n)) ∙ b.none_at back z k next
maybe_dodged {p = p} a b y z front back e (inr n) k next = ap p (ap (λ (l : List ℕ). l ++ z) e ∙ append_assoc front back z) ∙ a.none_at front (back ++ z) n tt

pub Dodges-maybe : {A B Next : List ℕ → Type 0} {p : List ℕ → Option (List ℕ)} → Dodges A Anything p → Dodges B Next p → Dodges (maybe A ▸ B) Next p
Dodges-maybe {A} {B} {Next} {p} a b = record { none_at = λ y z h next. maybe_dodged a b y z h.0 h.1 h.2 h.3 h.4 next }

last_dodged : {A Next : List ℕ → Type 0} {p : List ℕ → Option (List ℕ)} → Dodges A Anything p → ((z : List ℕ) → Next z → p z ≡ None) → (y z : List ℕ) → maybe A y → Next z → p (y ++ z) ≡ None
last_dodged {p = p} a k y z (inl n) next = ap p (ap (λ (l : List ℕ). l ++ z) n) ∙ k z next
last_dodged a k y z (inr n) next = a.none_at y z n tt

pub Dodges-last : {A Next : List ℕ → Type 0} {p : List ℕ → Option (List ℕ)} → Dodges A Anything p → ((z : List ℕ) → Next z → p z ≡ None) → Dodges (maybe A) Next p
Dodges-last a k = record { none_at = last_dodged a k }

-- the cut needs a byte with which no text of B begins
pub Dodges-first : {B : List ℕ → Type 0} {class : ℕ → Bool} {p : List ℕ → Option (List ℕ)} → Avoids B class → Needs class p → Dodges B Anything p
Dodges-first v n = record { none_at = λ y z h next. n.fails (y ++ z) (v.avoids y z h) }

-- behind the same first part
pub Dodges-then : {A B : List ℕ → Type 0} {p q : List ℕ → Option (List ℕ)} → Cuts A Anything p → Dodges B Anything q → Dodges (A ▸ B) Anything (cut_then p q)
Dodges-then {A} {B} {p} {q} a d = record {
  none_at = λ y z h next.
      let same : y ++ z ≡ h.0 ++ (h.1 ++ z) = ap (λ (l : List ℕ). l ++ z) h.2 ∙ append_assoc h.0 h.1 z in
      ap (λ (l : List ℕ). cut_then p q l) same ∙ ap (option_and_then q) (a.full h.0 (h.1 ++ z) h.3 tt) ∙ d.none_at h.1 z h.4 tt;
}

-- behind the same run of bytes, where something else than the run and what the cut needs stands
pub Dodges-run : {run_class class : ℕ → Bool} {B : List ℕ → Type 0} {q : List ℕ → Option (List ℕ)} → Avoids B run_class → Avoids B class → Needs class q → Dodges (run run_class ▸ B) Anything (cut_then (after_run run_class) q)
Dodges-run {run_class} {class} {B} {q} v w n = record {
  none_at = λ y z h next.
      let same : y ++ z ≡ h.0 ++ (h.1 ++ z) = ap (λ (l : List ℕ). l ++ z) h.2 ∙ append_assoc h.0 h.1 z in
      ap (λ (l : List ℕ). cut_then (after_run run_class) q l) same
      ∙ ap (option_and_then q) (run-full run_class h.0 (h.1 ++ z) h.3 (v.avoids h.1 z h.4))
      ∙ n.fails (h.1 ++ z) (w.avoids h.1 z h.4);
}
