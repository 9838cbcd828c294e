use Rattle.std.proofs.Common.{◌≡◌, map, take}
use Rattle.serde_json.specs.Data.{string}
use Rattle.aas_json_members.specs.Array.{items_of}
use Rattle.aas_path.specs.PathText.{path_text}
use Rattle.aas_answer.proofs.texts.paths_text.Given as goal

-- so far as the loop has come
abbrev pub invariant-loop-path : goal.invariant-loop-path
invariant-loop-path l = items_of l.array ≡ map (λ p. string (path_text p.steps)) (take l.path-index l.path-items)
