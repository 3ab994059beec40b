use Rattle.std.proofs.Common.{◌≡◌, List, [], ◌∷◌, ◌++◌, ap, ◌∙◌}
use Rattle.rtcp_serve.specs.Observers.{Notice, TakesAll}
use Rattle.rtcp_serve.proofs.serve_laws.logs_hold_all.Goals as goal

held : {O : Type 0} (takes : Notice → O → O → Type 0) (log : O → List Notice)
    → ((notice : Notice) (old new : O) → takes notice old new → log new ≡ notice ∷ log old)
    → (notices : List Notice) (before after : O) → TakesAll takes notices before after
    → log after ≡ notices ++ log before
held takes log keeps [] before after same = ap log same
held takes log keeps (notice ∷ earlier) before after (mid, first, last) =
    keeps notice mid after last ∙ ap (λ l. notice ∷ l) (held takes log keeps earlier before mid first)

pub returns : goal.returns
returns g c = held g.O.Observer.takes
