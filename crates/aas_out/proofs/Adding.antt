-- Two pourings, one after the other.
use Rattle.std.proofs.Common.{◌≡◌, ℕ, ◌+◌, ◌≤◌, ◌^◌, List, [], ◌++◌, length, min, Option, Some, None, option_map, refl}
use Rattle.std.proofs.Common.{sym, ap, ◌∙◌, subst, append_assoc, arith, length-append}
use Rattle.std.proofs.lemmas.List.{append-nil}
use Rattle.std.specs.Io.KnownBytes.{append_known}
use Rattle.aas_outside.specs.Faults.{Rose}
use Rattle.aas_outside.proofs.KnownBytes.{append_known-more}
use Rattle.aas_out.specs.Told.{Told, Wrote, WroteFront, Grows, capped, Puts}
use Rattle.aas_out.specs.Adds.{Adds, outcome_of}
use Rattle.aas_out.specs.declared.pouring.Pouring.{Pouring}
use Rattle.aas_out.specs.declared.pouring.Pouring.TheVariants as pouring

pub append_known-nil : (known : Option (List ℕ)) → known ≡ append_known known []
append_known-nil None = refl
append_known-nil (Some b) = ap (λ t. Some t) (sym (append-nil b))

sent_both : (a b c : Option (List ℕ)) (x y : List ℕ)
    → b ≡ append_known a x → c ≡ append_known b y → c ≡ append_known a (x ++ y)
sent_both a b c x y h g = g ∙ ap (λ s. append_known s y) h ∙ append_known-more a x y

min_both : (n k l i j m : ℕ) → min k m ≡ min (n + i) m → min l m ≡ min (k + j) m → min l m ≡ min (n + (i + j)) m
min_both n k l i j m h g = omega (arith, h, g)

count_both : (a b c : Option ℕ) (x y : List ℕ) → option_map capped b ≡ option_map (λ n. capped (n + length x)) a
    → option_map capped c ≡ option_map (λ n. capped (n + length y)) b
    → option_map capped c ≡ option_map (λ n. capped (n + length (x ++ y))) a
count_both None None None x y h g = refl
count_both None None (Some l) x y h g = absurd (cc)
count_both None (Some k) c x y h g = absurd (cc)
count_both (Some n) None c x y h g = absurd (cc)
count_both (Some n) (Some k) None x y h g = absurd (cc)
count_both (Some n) (Some k) (Some l) x y h g =
    ap (λ t. Some t)
    (min_both n k l (length x) (length y) (2 ^ 64) (cc) (cc) ∙ ap (λ k. capped (n + k)) (sym (length-append x y)))

pub grows_both : (a b c : Option (List ℕ)) → Grows a b → Grows b c → Grows a c
grows_both a b c h g = (h.0 ++ g.0, g.1 ∙ ap (λ s. append_known s g.0) h.1 ∙ append_known-more a h.0 g.0)

pub wrote_both : {K : Type 0} (a b c : Told K) (x y : List ℕ) → Wrote a b x → Wrote b c y → Wrote a c (x ++ y)
wrote_both a b c x y h g = record {
  sent = sent_both a.sent b.sent c.sent x y h.sent g.sent;
  count = count_both a.count b.count c.count x y h.count g.count;
  later = omega (arith, h.later, g.later);
  gone = grows_both a.gone b.gone c.gone h.gone g.gone;
  kept = g.kept ∙ h.kept;
}

then_rose : (a b c : ℕ) → a ≤ b → Rose b c → Rose a c
then_rose a b c h g = omega (arith, h, g)

front_first : {K : Type 0} (a b : Told K) (x y : List ℕ) → WroteFront a b x → WroteFront a b (x ++ y)
front_first a b x y h = record {
  front = h.front;
  rest = h.rest ++ y;
  parts = ap (λ t. t ++ y) h.parts ∙ append_assoc h.front h.rest y;
  wrote = h.wrote;
  rose = h.rose;
}

front_then : {K : Type 0} (a b c : Told K) (x y : List ℕ) → Wrote a b x → WroteFront b c y → WroteFront a c (x ++ y)
front_then a b c x y h g = record {
  front = x ++ g.front;
  rest = g.rest;
  parts = ap (λ t. x ++ t) g.parts ∙ sym (append_assoc x g.front g.rest);
  wrote = wrote_both a b c x g.front h g.wrote;
  rose = then_rose a.faults b.faults c.faults h.later g.rose;
}

-- one text, and then another
pub adds_both : {K : Type 0} (s m r : Pouring) (a b c : Told K) (x y : List ℕ)
    → Adds s m a b x → Adds m r b c y → Adds s r a c (x ++ y)
unfolding Adds
adds_both pouring.Stopped m r a b c x y h g =
    let g = subst (λ m. Adds m r b c y) h.0 g in (g.0, g.1 ∙ h.1)
adds_both pouring.Going pouring.Going pouring.Going a b c x y h g = wrote_both a b c x y h g
adds_both pouring.Going pouring.Going pouring.Stopped a b c x y h g = front_then a b c x y h g
adds_both pouring.Going pouring.Stopped r a b c x y h g =
    subst (λ r. Adds pouring.Going r a c (x ++ y)) (sym g.0)
    (subst (λ c. WroteFront a c (x ++ y)) (sym g.1) (front_first a b x y h))

pub wrote_nothing : {K : Type 0} (a : Told K) → Wrote a a []
wrote_nothing a = record {
  sent = append_known-nil a.sent;
  count = counted a.count;
  later = omega arith;
  gone = ([], append_known-nil a.gone);
  kept = refl;
}
  where
    counted : (s : Option ℕ) → option_map capped s ≡ option_map (λ n. capped (n + 0)) s
    counted None = refl
    counted (Some n) = ap (λ n. Some (capped n)) (omega arith)

-- no text
pub adds_nothing : {K : Type 0} (s : Pouring) (a : Told K) → Adds s s a a []
unfolding Adds
adds_nothing pouring.Stopped a = (refl, refl)
adds_nothing pouring.Going a = wrote_nothing a

-- the same text, said in another way
pub adds_same : {K : Type 0} (s r : Pouring) (a b : Told K) (x y : List ℕ) → Adds s r a b x → x ≡ y → Adds s r a b y
adds_same s r a b x y h same = subst (λ z. Adds s r a b z) same h

-- what a pouring put that is over
pub outcome_puts : {K : Type 0} (after : Pouring) (a b : Told K) (x : List ℕ)
    → Adds pouring.Going after a b x → Puts a b (outcome_of after) x
unfolding Adds
outcome_puts pouring.Going a b x h = h
outcome_puts pouring.Stopped a b x h = h
