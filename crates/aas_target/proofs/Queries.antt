-- The walk along the pairs of a query.
use Rattle.std.proofs.Common.{◌≡◌, inl, inr, ℕ, List, [], ◌∷◌, Option, Some, None, refl, sym, subst}
use Rattle.std.specs.List.{cons_option, filter_map}
use Rattle.aas_target.specs.Given.{IsFirstBad, TakesAll, nothing_given}
use Rattle.aas_target.specs.Pairs.{IsRefused, TakesIfListed}
use Rattle.aas_target.specs.Query.{Setting, setting_of}
use Rattle.aas_target.specs.declared.given.Given.{Given}
use Rattle.aas_target.specs.declared.parameter.Parameter.{Parameter}

abbrev pub Pair : Type 0
Pair = List ℕ × List ℕ

abbrev read : List Parameter → List Pair → List Setting
read listed pairs = filter_map (setting_of listed) pairs

-- of all pairs these are left, and the others gave this: what it and those that are left come to, all come to
pub record Reaches (listed : List Parameter) (all left : List Pair) (given : Given) : Type 0 where
  pub gives : (m : Given) → TakesAll given (filter_map (setting_of listed) left) m
      → TakesAll nothing_given (filter_map (setting_of listed) all) m
  pub bad : (p : Parameter) → IsFirstBad given (filter_map (setting_of listed) left) p
      → IsFirstBad nothing_given (filter_map (setting_of listed) all) p

module _ (listed : List Parameter) (all pairs left : List Pair) (pair : Pair) (given : Given)
    (is_next : pairs ≡ pair ∷ left) (reached : Reaches listed all pairs given) where
  r : Reaches listed all (pair ∷ left) given
  r = subst (λ pairs'. Reaches listed all pairs' given) is_next reached

  -- one setting more
  next_by : (s : Option Setting) (more : Given) → setting_of listed pair ≡ s → TakesIfListed given s more → Reaches listed all left more
  next_by None more is same =
      let later = read listed left in
      record {
        gives = λ m takes. r.gives m
            (subst (λ s. TakesAll given (cons_option s later) m) (sym is) (subst (λ g. TakesAll g later m) same takes));
        bad = λ p is_bad. r.bad p
            (subst (λ s. IsFirstBad given (cons_option s later) p) (sym is) (subst (λ g. IsFirstBad g later p) same is_bad));
      }
  next_by (Some s) more is takes =
      record {
        gives = λ m later. r.gives m (subst (λ o. TakesAll given (cons_option o (read listed left)) m) (sym is) (more, takes, later));
        bad = λ p is_bad. r.bad p (subst (λ o. IsFirstBad given (cons_option o (read listed left)) p) (sym is) (inr (more, takes, is_bad)));
      }

  pub next : (more : Given) → TakesIfListed given (setting_of listed pair) more → Reaches listed all left more
  next more takes = next_by (setting_of listed pair) more refl takes

  stops_by : (s : Option Setting) (p : Parameter) → setting_of listed pair ≡ s → IsRefused given s p
      → IsFirstBad nothing_given (read listed all) p
  stops_by None p is refused = absurd refused
  stops_by (Some s) p is refused = r.bad p (subst (λ o. IsFirstBad given (cons_option o (read listed left)) p) (sym is) (inl refused))

  pub stops : (p : Parameter) → IsRefused given (setting_of listed pair) p → IsFirstBad nothing_given (filter_map (setting_of listed) all) p
  stops p refused = stops_by (setting_of listed pair) p refl refused

-- all are taken
pub ends : (listed : List Parameter) (all pairs : List Pair) (given : Given) → pairs ≡ []
    → Reaches listed all pairs given → TakesAll nothing_given (filter_map (setting_of listed) all) given
ends listed all pairs given none r = r.gives given (rw none refl)
