use Rattle.std.proofs.Common.{◌≡◌, ◌∙◌, ℕ, List, None, ap, sym, subst}
use Rattle.lru.specs.LruCache.{LruCache}
use Rattle.bfs_cache.specs.Kept.{View, kept_of}
use Rattle.bfs_cache.specs.Agreement.{Agrees, AgreesAt}
use Rattle.bfs_cache.proofs.Entries.{is_gone, others_stay}
use Rattle.bfs_cache.proofs.Agreeing.{agrees_without}
use Rattle.bfs_cache.proofs.Views.{forget_invariant}
use Rattle.bfs_cache.proofs.cache.Cache.forget.Goals as goal

abbrev entries_of : LruCache ℕ (List ℕ) → List (ℕ × List ℕ)
entries_of c = c.entries

pub invariant_of-self : goal.invariant_of-self
invariant_of-self c = forget_invariant c.self.inside.bound c.args.block c.self.inside.blocks c.pop.new.self c.pop.ensures.entries c.self.invariant.0 c.self.invariant.1

pub returns-clause-gone : goal.returns-clause-gone
returns-clause-gone c = subst (λ (es : List (ℕ × List ℕ)). kept_of es c.args.block ≡ None) (sym (ap entries_of c.pop.ensures.entries)) (is_gone c.args.block c.self.inside.blocks.entries c.len-many.ensures.valid.0)

pub returns-clause-others : goal.returns-clause-others
returns-clause-others c = λ k other.
    ap (λ (b : LruCache ℕ (List ℕ)). kept_of b.entries k) c.pop.ensures.entries
    ∙ others_stay c.args.block k c.self.inside.blocks.entries other
    ∙ ap (λ (v : View). kept_of v.kept k) c.self.view_is

pub returns-clause-agrees : goal.returns-clause-agrees
returns-clause-agrees c = λ told r others.
    subst (λ (es : List (ℕ × List ℕ)). Agrees told r es) (sym (ap entries_of c.pop.ensures.entries))
    (agrees_without told r c.args.block c.self.inside.blocks.entries c.len-many.ensures.valid.0 (λ k other. subst (λ (v : View). AgreesAt told r v.kept k) (sym c.self.view_is) (others k other)))
