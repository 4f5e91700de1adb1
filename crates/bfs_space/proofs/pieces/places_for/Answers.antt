use Rattle.std.proofs.Common.{◌≡◌, ◌∙◌, true, sym}
use Rattle.std.specs.Prelude.{Result, Ok, Err, MatchResult}
use Rattle.bfs_replies.specs.Looks.{is_to_do}
use Rattle.bfs_space.proofs.pieces.places_for.Goals as goal

under_premise : {A E : Type 0} (C X : Type 0) (Q : E → Type 0) (r : Result A E) → MatchResult r (λ u. X) Q → MatchResult r (λ u. C → X) Q
under_premise C X Q (Ok u) x = λ c. x
under_premise C X Q (Err e) q = q

pub returns-clause-found : goal.returns-clause-found
returns-clause-found g c = λ m v tree lists told ready held.
    let to_do : is_to_do c.args.looked.now ≡ true = sym c.is_to_do.ensures ∙ c.if-not-is_to_do.false in
    under_premise _ _ _ c.places_over.result (c.places_over.ensures.found m v tree lists told ready (held to_do))
