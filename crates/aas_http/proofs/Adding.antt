-- Texts that are put one behind another, and texts that may be left out.
use Rattle.std.proofs.Common.{◌≡◌, ℕ, Bool, true, false, List, [], ◌++◌, if◌then◌else◌, sym, subst}
use Rattle.aas_out.specs.Adds.{Adds}
use Rattle.aas_out.specs.Told.{Told}
use Rattle.aas_out.specs.declared.pouring.Pouring.{Pouring}
use Rattle.aas_out.proofs.Adding.{adds_both, adds_nothing, adds_same}

pub adds_none : {K : Type 0} (s : Pouring) (a : Told K) (text : List ℕ) → text ≡ [] → Adds s s a a text
adds_none s a text none = adds_same s s a a [] text (adds_nothing s a) (sym none)

-- a text, and then another that is equal to this
pub adds_then : {K : Type 0} (s m r : Pouring) (a b c : Told K) (first text more : List ℕ)
    → Adds s m a b first → text ≡ more → Adds m r b c text → Adds s r a c (first ++ more)
adds_then s m r a b c first text more h is g = adds_both s m r a b c first more h (adds_same m r b c text more g is)

pub adds_where : {K : Type 0} (s r : Pouring) (a b : Told K) (text : List ℕ) (test : Bool)
    → test ≡ true → Adds s r a b text → Adds s r a b (if test then text else [])
adds_where s r a b text test holds h = subst (λ (t : Bool). Adds s r a b (if t then text else [])) (sym holds) h

pub adds_unless : {K : Type 0} (s r : Pouring) (a b : Told K) (text : List ℕ) (test : Bool)
    → test ≡ false → Adds s r a b text → Adds s r a b (if test then [] else text)
adds_unless s r a b text test fails h = subst (λ (t : Bool). Adds s r a b (if t then [] else text)) (sym fails) h
