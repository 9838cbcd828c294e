use Rattle.aas_target.proofs.given.Given.take.Goals as goal

pub returns-in_ok-decode_tree-in-AssetIds-clause-refused : goal.returns-in_ok-decode_tree-in-AssetIds-clause-refused
returns-in_ok-decode_tree-in-AssetIds-clause-refused c = λ is more takes.
    let none = rw (c.add.ensures.kept is).0 at c.in_ok-decode_tree-in-AssetIds.ensures.none in
    let taken = rw c.in-AssetIds.is at takes in
    none taken.0 taken.1

pub returns-in_ok-decode_tree-in-SemanticId-clause-refused : goal.returns-in_ok-decode_tree-in-SemanticId-clause-refused
returns-in_ok-decode_tree-in-SemanticId-clause-refused c = λ is more takes.
    let taken = rw c.in-SemanticId.is at takes in
    let none = rw (c.gain-in-SemanticId.ensures.none (cc) taken.0) at c.in_ok-decode_tree-in-SemanticId.ensures.none in
    none taken.1 taken.2

pub returns-in_ok-decode_tree-in-IsCaseOf-clause-refused : goal.returns-in_ok-decode_tree-in-IsCaseOf-clause-refused
returns-in_ok-decode_tree-in-IsCaseOf-clause-refused c = λ is more takes.
    let taken = rw c.in-IsCaseOf.is at takes in
    let none = rw (c.gain-in-IsCaseOf.ensures.none (cc) taken.0) at c.in_ok-decode_tree-in-IsCaseOf.ensures.none in
    none taken.1 taken.2

pub returns-in_ok-id-in-After-clause-refused : goal.returns-in_ok-id-in-After-clause-refused
returns-in_ok-id-in-After-clause-refused c = λ is more takes.
    let taken = rw (c.in-After.is, ← c.as_bytes.ensures.value) at takes in
    let none = rw (c.gain-in-After.ensures.none (cc) taken.0) at c.in_ok-id-in-After.ensures.none in
    none taken.1 taken.2

pub returns-in_ok-id-in-AasIds-clause-refused : goal.returns-in_ok-id-in-AasIds-clause-refused
returns-in_ok-id-in-AasIds-clause-refused c = λ is more takes.
    let none = rw (c.add-in-AasIds.ensures.kept is).0 at c.in_ok-id-in-AasIds.ensures.none in
    let taken = rw (c.in-AasIds.is, ← c.as_bytes-in-AasIds.ensures.value) at takes in
    none taken.0 taken.1

pub returns-in_ok-id-in-SubmodelIds-clause-refused : goal.returns-in_ok-id-in-SubmodelIds-clause-refused
returns-in_ok-id-in-SubmodelIds-clause-refused c = λ is more takes.
    let none = rw (c.add-in-SubmodelIds.ensures.kept is).0 at c.in_ok-id-in-SubmodelIds.ensures.none in
    let taken = rw (c.in-SubmodelIds.is, ← c.as_bytes-in-SubmodelIds.ensures.value) at takes in
    none taken.0 taken.1
