use Rattle.std.proofs.Common.{◌≡◌, ◌∙◌, ℕ, List, length, sym, subst, arith}
use Rattle.std.specs.Str.{chars}
use Rattle.aas_constraint_rules.specs.Sites.{own_of}
use Rattle.aas_template.specs.Index.{Admitted, Cut, Refused, name_of}
use Rattle.aas_template.proofs.Indexed.{none_at_all, none_longer, none_longer_yet, place_by, place_within, refused_by}
use Rattle.aas_template.proofs.Owners.{NoneLonger, belongs_nowhere}
use Rattle.aas_template.proofs.Texts.{shorter, shorter_by_one, whole}
use Rattle.aas_template.proofs.index.place_of.Goals as goal

pub cuts-init : goal.cuts-init
cuts-init c =
    let ts = c.args.templates.now in
    let k = own_of c.args.instance.now in
    let n = name_of c.args.instance.now in
    let same : chars c.name-rest.result.now ≡ n = c.name-rest.ensures.characters in
    record {
      utf8 = c.name-rest.utf8;
      cut = subst (λ (r : List ℕ). Cut n r) (sym same) (whole n);
      longest = subst (λ (r : List ℕ). NoneLonger ts k (length r)) (sym same) (none_longer_yet ts k);
    }

pub cuts-preserved : goal.cuts-preserved
cuts-preserved c =
    let ts = c.args.templates.now in
    let k = own_of c.args.instance.now in
    let n = name_of c.args.instance.now in
    let r = chars c.cuts.rest.now in
    let refused : Refused ts k r = refused_by c.admitted_place-found.result (Refused ts k r) (Admitted ts k r) (sym c.is_some.ensures ∙ c.if-is_some.false) c.admitted_place-found.ensures in
    record {
      utf8 = c.in-Some.ensures.text;
      cut = shorter n r (chars c.in-Some.text.now) c.cuts.invariant.cut c.in-Some.ensures.cut;
      longest = none_longer ts k r (chars c.in-Some.text.now) c.cuts.invariant.cut c.cuts.invariant.longest refused c.in-Some.ensures.cut;
    }

pub cuts-smaller : goal.cuts-smaller
cuts-smaller c = let less = shorter_by_one (chars c.cuts.rest.now) (chars c.in-Some.text.now) c.in-Some.ensures.cut in omega (arith, less)

pub returns-then-is_some-clause-belongs : goal.returns-then-is_some-clause-belongs
returns-then-is_some-clause-belongs c =
    let ts = c.args.templates.now in
    let k = own_of c.args.instance.now in
    let r = chars c.cuts.rest.now in
    place_by ts k r c.admitted_place-found.result c.requires.differ c.cuts.invariant.cut c.cuts.invariant.longest (sym c.is_some.ensures ∙ c.if-is_some.true) c.admitted_place-found.ensures

pub returns-then-is_some-clause-within : goal.returns-then-is_some-clause-within
returns-then-is_some-clause-within c =
    let ts = c.args.templates.now in
    let k = own_of c.args.instance.now in
    let r = chars c.cuts.rest.now in
    place_within ts k r c.admitted_place-found.result c.admitted_place-found.ensures

pub returns-in-None-clause-belongs : goal.returns-in-None-clause-belongs
returns-in-None-clause-belongs c =
    let ts = c.args.templates.now in
    let k = own_of c.args.instance.now in
    let r = chars c.cuts.rest.now in
    let refused : Refused ts k r = refused_by c.admitted_place-found.result (Refused ts k r) (Admitted ts k r) (sym c.is_some.ensures ∙ c.if-is_some.false) c.admitted_place-found.ensures in
    belongs_nowhere ts k (none_at_all ts k r c.cuts.invariant.cut c.cuts.invariant.longest refused c.in-None.ensures.cut)

pub admitted_place-found-requires-text-rest : goal.admitted_place-found-requires-text-rest
admitted_place-found-requires-text-rest c κs = c.cuts.invariant.utf8

pub shorter-requires-text-text : goal.shorter-requires-text-text
shorter-requires-text-text c κs = c.cuts.invariant.utf8
