-- What is known of a request that isn't whole.
use Rattle.std.proofs.Common.{◌≡◌, ◌⊎◌, ⊎_elim, ℕ, ◌+◌, ◌<◌, ◌≤◌, min, List, [], ◌++◌, length, take, Some, sym, ap}
use Rattle.std.proofs.Common.{subst, arith, length-append}
use Rattle.std.proofs.lemmas.Bool.{cases_lt}
use Rattle.httparse.specs.Grammar.{RequestHead, HasNoRequest, print_request}
use Rattle.httparse.specs.Spans.{RequestOverflows}
use Rattle.httparse.proofs.GrammarLemmas.{request_unique}
use Rattle.aas_http.specs.WholeLength.{AwaitsUpTo}
use Rattle.aas_http.specs.Steps.{AwaitsHead, AwaitsBody}
use Rattle.aas_http.specs.BodyLength.{body_length}
use Rattle.aas_http.specs.Head.{head_limit, Admits, AdmitsNone, fields_of}
use Rattle.aas_http.proofs.Firsts.{admits_more, none_over, none_past, none_yet}

module _ (b : List ℕ) (waits : AwaitsHead b ⊎ AwaitsBody b) where
  none_there : AdmitsNone (b ++ []) → AwaitsHead b
  none_there none =
      ⊎_elim (λ head. head)
      (λ body. absurd (none body.head (body.rest ++ []) (admits_more b body.head body.rest [] body.admits))) waits

  module _ (front : List ℕ) (is_front : front ≡ take (min (length b) head_limit) b) where
    pub over : RequestOverflows 64 front → AwaitsHead b
    over many = none_there (none_over b front is_front many [])

    pub unfinished : HasNoRequest front → AwaitsHead b
    unfinished none = ⊎_elim
        (λ short. ⊎_elim (λ head. head)
        (λ body. absurd (none_yet b front is_front short none body.head body.rest body.admits)) waits)
        (λ long. none_there (none_past b front is_front long none []))
        (cases_lt (length b) head_limit)

  up_to : (body : AwaitsBody b) → AwaitsUpTo b (length (print_request body.head) + body.size)
  up_to body more short = record {
    head = body.head;
    rest = body.rest ++ more;
    admits = admits_more b body.head body.rest more body.admits;
    size = body.size;
    said = body.said;
    within = body.within;
    supported = body.supported;
    short = omega (
      arith,
      short,
      length-append b more,
      length-append body.rest more,
      ap length body.admits.reads.1,
      length-append (print_request body.head) body.rest,
    );
  }

  pub record Knows (head : RequestHead) (rest : List ℕ) : Type 0 where
    pub size : ℕ
    pub said : body_length (fields_of head) ≡ Some size
    pub within : length (print_request head) + size ≤ 4210688
    pub short : length b < length (print_request head) + size
    pub awaits : AwaitsUpTo b (length (print_request head) + size)

  pub known : (head : RequestHead) (rest : List ℕ) → Admits b head rest → Knows head rest
  known head rest admits = ⊎_elim
      (λ waiting. absurd (waiting.none head rest admits))
      (λ body.
      let same = request_unique b head body.head rest body.rest admits.reads body.admits.reads in
      let here : Knows body.head rest = record {
        size = body.size;
        said = body.said;
        within = omega (arith, body.admits.size, body.within);
        short =
            omega (arith, ap length body.admits.reads.1, length-append (print_request body.head) body.rest, body.short);
        awaits = up_to body;
      } in subst (λ h. Knows h rest) (sym same.0) here)
      waits

  -- head and body as they were found
  pub whole_is : (head : RequestHead) (rest : List ℕ) (K : Knows head rest) (len size : ℕ)
      → len ≡ length (print_request head) → Some size ≡ Some K.size
      → (length b < len + size) × (len + size ≤ 4210688) × AwaitsUpTo b (len + size)
  whole_is head rest K len size len_is size_is =
      let same : length (print_request head) + K.size ≡ len + size = let e : size ≡ K.size = cc in
      omega (arith, e, len_is) in
      (omega (arith, same, K.short), omega (arith, same, K.within), subst (λ (n : ℕ). AwaitsUpTo b n) same K.awaits)
