use Rattle.std.proofs.Common.{rules, ◌≡◌, ◌≢◌, List, [], ◌∷◌, length, refl, subst, arith}
use Rattle.bfs_bitmap.specs.declared.given.Given.{Given}
use Rattle.bfs_replies.specs.Books.{SpaceBooks, IsIdle}
use Rattle.bfs_space.proofs.space.Space.is_idle.Goals as goal

none_there : (gs : List Given) → (gs ≢ [] → ⊥) → gs ≡ []
none_there [] apart = refl
none_there (x ∷ xs) apart = absurd (apart (λ e. cc))

pub returns-clause-idle : goal.returns-clause-idle
returns-clause-idle c = λ t.
    let i = c.self.inside in
    let long : c.len.result ≡ length i.history.items = search rules in
    let most = c.if-self.false in
    let inside : SpaceBooks = record { view = record { sup = i.sup; used = i.bitmap.tally.used; group = i.group; history = i.history.items; sealed = i.sealed; sealed_used = i.sealed_used; given = i.bitmap.given }; room = i.bitmap; promised = i.promised.items; stop = i.stop; left = i.left; nodes = i.nodes } in
    let idle : IsIdle inside = record {
      given = none_there i.bitmap.given (λ some. let t = c.has_given.ensures.1 some in let f = c.if-has_given.false in absurd cc);
      empty = search rules;
      entries = search rules;
      left = omega arith;
    } in
    subst IsIdle c.self.view_is idle
