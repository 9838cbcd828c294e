use Rattle.std.proofs.Common.{◌≡◌, Result, Ok, subst}
use Rattle.std.specs.Prelude.{IfOk}
use Rattle.aas_json_read.proofs.common.common_in.Goals as goal

-- what is so of a value that is there
of_ok : {A E : Type 0} (P : A → Type 0) (r : Result A E) → IfOk r P → (a : A) → r ≡ Ok a → P a
of_ok P r is a there = subst (λ r. IfOk r P) there is

pub returns : goal.returns
returns c =
    let first = of_ok _ _ c.both.ensures.ok _ c.in_ok-names.ensures.ok.0 in
    let second = of_ok _ _ c.both-2.ensures.ok _ c.in_ok-names.ensures.ok.1 in
    let names = of_ok _ _ c.both-names.ensures.ok _ first.0 in
    let texts = of_ok _ _ c.both-texts.ensures.ok _ first.1 in
    let kept = of_ok _ _ c.both-kept.ensures.ok _ second.0 in
    let meaning = of_ok _ _ c.both-meaning.ensures.ok _ second.1 in
    record {
      category = of_ok _ _ c.string_member-2.ensures _ names.1;
      description = of_ok _ _ c.list_member.ensures _ texts.0;
      display_name = of_ok _ _ c.list_member-2.ensures _ texts.1;
      extensions = of_ok _ _ c.list_member-3.ensures _ kept.0;
      id_short = of_ok _ _ c.string_member.ensures _ names.0;
      specifications = of_ok _ _ c.kept_member.ensures _ kept.1;
      qualifiers = of_ok _ _ c.list_member-4.ensures _ meaning.1;
      semantics = of_ok _ _ c.semantics_in.ensures _ meaning.0;
    }
