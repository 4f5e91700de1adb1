use Rattle.std.proofs.Common.{◌≡◌, ◌/◌, ◌∷◌, [], ℕ, List, Bool, sym, ap, subst}
use Rattle.bfs_base.specs.Lists.{times}
use Rattle.bfs_tree_check.specs.Marked.{marked}
use Rattle.bfs_value_walk.proofs.walk.walk_below.Goals as goal

pub returns-clause-whole : goal.returns-clause-whole
returns-clause-whole g c = λ b told is.
    let size = g.P.Pages.size c.args.pages.now in
    let marks : (x : ℕ) → marked size c.deref_mut.result.now x ≡ times x (0 ∷ []) = subst (λ (m : List Bool). (x : ℕ) → marked size m x ≡ times x (0 ∷ [])) (sym c.deref_mut.ensures.value) (c.in-Ok.ensures.header size (g.met.P.Pages.whole c.args.pages.now) (ap (λ n. n / 1024) (sym c.length-size.ensures))) in
    c.walk_marked.ensures.whole b told is marks

pub returns-clause-wrong : goal.returns-clause-wrong
returns-clause-wrong g c = λ b told is.
    let size = g.P.Pages.size c.args.pages.now in
    let marks : (x : ℕ) → marked size c.deref_mut.result.now x ≡ times x (0 ∷ []) = subst (λ (m : List Bool). (x : ℕ) → marked size m x ≡ times x (0 ∷ [])) (sym c.deref_mut.ensures.value) (c.in-Ok.ensures.header size (g.met.P.Pages.whole c.args.pages.now) (ap (λ n. n / 1024) (sym c.length-size.ensures))) in
    c.walk_marked.ensures.wrong b told is marks
