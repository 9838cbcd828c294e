-- The levels of kept data, and its objects: one is good exactly where its members are, with names that rise.
use Rattle.std.proofs.Common.{◌≡◌, ℕ, List, ◌∷◌, true, Option, Some, None, option_map, is_some, refl, sym, ap, ap₂, ◌∙◌, true≢false}
use Rattle.serde_json.specs.Data.{Data, object, Members, no_members, member}
use Rattle.aas_json_table.specs.Table.{plain}
use Rattle.aas_json_table.specs.Rows.{Pointer, in_member, first_of}
use Rattle.aas_json_table.specs.Misfit.{misfit, misfit_all}
use Rattle.aas_json_table.specs.TooDeep.{Levels, too_deep, too_deep_all, within, enter_kept}
use Rattle.aas_json_table.specs.Canonical.{canonical, canonical_all, add}
use Rattle.aas_json_spelling.specs.Values.{HasOrder, AreAbove}
use Rattle.aas_json_spelling.specs.Good.{Good}
use Rattle.aas_json_spelling.proofs.Fits.{first_none, map_none, fits_any}

-- the level that is entered
pub entered : (l : Levels) (inside : Levels → Option Pointer) → within (enter_kept l) inside ≡ None → (inner : Levels) × (enter_kept l ≡ Some inner) × (inside inner ≡ None)
entered l inside e = by_level (enter_kept l) refl e
  where
    by_level : (o : Option Levels) → enter_kept l ≡ o → within o inside ≡ None → (inner : Levels) × (enter_kept l ≡ Some inner) × (inside inner ≡ None)
    by_level None n e = cc
    by_level (Some inner) n e = (inner, n, e)

-- members of kept data that are good
pub record GoodMembers (l : Levels) (ms : Members) : Type 0 where
  pub again : canonical_all ms ≡ ms
  pub fit : misfit_all ms ≡ None
  pub low : too_deep_all ms l ≡ None
  pub order : HasOrder ms

pub none_members : (l : Levels) → GoodMembers l no_members
none_members l = record { again = refl; fit = refl; low = refl; order = tt }

pub one_member : (l : Levels) (k : List ℕ) (o : Option Data) (ms : Members) → Good l plain o → AreAbove k ms → GoodMembers l ms → GoodMembers l (add k o ms)
one_member l k None ms g a h = h
one_member l k (Some d) ms g a h = record {
  again = ap₂ (add k) g.again h.again;
  fit = ap₂ first_of (ap (option_map (λ p. in_member k ∷ p)) g.fits) h.fit;
  low = ap₂ first_of (ap (option_map (λ p. in_member k ∷ p)) g.low) h.low;
  order = (a, g.order, h.order);
}

pub map_good : (l inner : Levels) (ms : Members) → enter_kept l ≡ Some inner → GoodMembers inner ms → Good l plain (Some (object ms))
map_good l inner ms n h = record { again = ap (λ x. Some (object x)) h.again; fits = h.fit; low = ap (λ o. within o (too_deep_all ms)) n ∙ h.low; order = h.order }

-- ---- and back

added : (k : List ℕ) (o : Option Data) (d : Data) (xs ys : Members) → is_some o ≡ true → add k o xs ≡ member k d ys → (o ≡ Some d) × (xs ≡ ys)
added k None d xs ys t e = absurd (true≢false (sym t))
added k (Some c) d xs ys t e = (same_first, same_rest)
  where
    same_first : ◌≡◌ {A = Option Data} (Some c) (Some d)
    same_first = cc

    same_rest : xs ≡ ys
    same_rest = cc

pub member_back : (l : Levels) (k : List ℕ) (d : Data) (ms : Members) → GoodMembers l (member k d ms) → Good l plain (Some d) × AreAbove k ms × GoodMembers l ms
member_back l k d ms g =
    let fit = first_none (option_map (λ p. in_member k ∷ p) (misfit plain d)) (misfit_all ms) g.fit in
    let low = first_none (option_map (λ p. in_member k ∷ p) (too_deep plain d l)) (too_deep_all ms l) g.low in
    let fits = map_none (λ p. in_member k ∷ p) (misfit plain d) fit.0 in
    let again = added k (canonical plain d) d (canonical_all ms) ms (fits_any d fits) g.again in (
      record { again = again.0; fits = fits; low = map_none (λ p. in_member k ∷ p) (too_deep plain d l) low.0; order = g.order.1 },
      g.order.0,
      record { again = again.1; fit = fit.1; low = low.1; order = g.order.2 },
    )

same_object : (ms ns : Members) → ◌≡◌ {A = Option Data} (Some (object ms)) (Some (object ns)) → ms ≡ ns
same_object ms ns e = cc

pub map_back : (l : Levels) (ms : Members) → Good l plain (Some (object ms)) → (inner : Levels) × (enter_kept l ≡ Some inner) × GoodMembers inner ms
map_back l ms g =
    let e = entered l (too_deep_all ms) g.low in
    (e.0, e.1, record { again = same_object (canonical_all ms) ms g.again; fit = g.fits; low = e.2; order = g.order })
