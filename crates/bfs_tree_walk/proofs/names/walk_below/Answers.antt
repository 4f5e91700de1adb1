use Rattle.std.proofs.Common.{◌≡◌, ◌%◌, ◌∙◌, [], ℕ, List, Bool, length, sym, ap, subst}
use Rattle.bfs_base.specs.declared.kind.KeyKind.TheVariants.{Text}
use Rattle.bfs_pages.specs.Answers.{IsHeaderFor}
use Rattle.bfs_pages.specs.Trees.{held}
use Rattle.bfs_pages.proofs.OfKind.{if_some}
use Rattle.bfs_values.specs.Rows.{rows_in}
use Rattle.bfs_finding.specs.Walks.{frees_in}
use Rattle.bfs_tree_check.specs.Marked.{marked}
use Rattle.bfs_tree_check.specs.Shaped.{IsShaped}
use Rattle.bfs_tree_walk.specs.Plain.{ArePlain, HasPlain}
use Rattle.bfs_tree_walk.specs.Unmet.{IsUnmet}
use Rattle.bfs_tree_walk.proofs.Wholly.{walked, unmet_wrong}
use Rattle.bfs_tree_walk.proofs.names.walk_below.Goals as goal

pub returns-in-Err-check_values-clause-wrong : goal.returns-in-Err-check_values-clause-wrong
returns-in-Err-check_values-clause-wrong g c = λ b told is.
    let s = c.in-Ok.ensures.shaped b told is in
    c.in-Err-check_values.ensures.wrong b (c.in-Ok.ensures.told ∙ told) (s.leaves_are ∙ sym c.deref.ensures.value)

pub returns-in-Some-clause-whole : goal.returns-in-Some-clause-whole
returns-in-Some-clause-whole g c = λ b told is.
    let s = c.in-Ok.ensures.shaped b told is in
    subst (HasPlain Text b) c.in-Some.is (c.in-Ok-check_values.ensures.plain b (c.in-Ok.ensures.told ∙ told) (s.leaves_are ∙ sym c.deref.ensures.value))

pub returns-in-Ok-check_met-clause-whole : goal.returns-in-Ok-check_met-clause-whole
returns-in-Ok-check_met-clause-whole g c = λ b told is.
    let size = g.P.Pages.size c.args.pages.now in
    let below = c.in-Ok.below in
    let s = c.in-Ok.ensures.shaped b told is in
    let long = if_some (λ (z : List ℕ). length z ≡ size) _ b (g.met.P.Pages.sized c.args.pages.now) told in
    let plain : ArePlain (rows_in Text b) = subst (HasPlain Text b) c.in-None.is (c.in-Ok-check_values.ensures.plain b (c.in-Ok.ensures.told ∙ told) (s.leaves_are ∙ sym c.deref.ensures.value)) in
    let met : (x : ℕ) → marked size below.marks.items x ≡ held (length b) x = λ x.
    ap (λ (m : List Bool). marked size m x) (sym c.deref-2.ensures.value) ∙ ap (λ n. marked n c.deref-2.result.now x) (sym c.length-size.ensures) ∙ c.in-Ok-check_met.ensures.met x ∙ ap (λ n. held n x) (c.length-size.ensures ∙ sym long) in
    let header : IsHeaderFor Text (length b) c.args.header = subst (λ n. IsHeaderFor Text n c.args.header) (sym long) c.requires.header in
    let ascends = c.in-Ok.ensures.ascends b told is in
    let whole : length b % 1024 ≡ 0 = ap (λ n. n % 1024) long ∙ g.met.P.Pages.whole c.args.pages.now in
    (c.walked_is_whole.ensures Text b [] (frees_in Text b) (walked Text b below.survey.level.items below.survey.leaves.items (marked size below.marks.items) s plain c.args.header header is ascends met whole), plain)

pub returns-clause-wrong : goal.returns-clause-wrong
returns-clause-wrong g c = λ b told is.
    let size = g.P.Pages.size c.args.pages.now in
    let below = c.in-Ok.below in
    let s = c.in-Ok.ensures.shaped b told is in
    let long = if_some (λ (z : List ℕ). length z ≡ size) _ b (g.met.P.Pages.sized c.args.pages.now) told in
    let plain : ArePlain (rows_in Text b) = subst (HasPlain Text b) c.in-None.is (c.in-Ok-check_values.ensures.plain b (c.in-Ok.ensures.told ∙ told) (s.leaves_are ∙ sym c.deref.ensures.value)) in
    let marks = c.deref-2.result.now in
    let unmet = subst (λ n. IsUnmet n (marked n marks) c.in-Err-check_met.wrong) (c.length-size.ensures ∙ sym long) c.in-Err-check_met.ensures.unmet in
    let shaped = subst (λ (m : List Bool). IsShaped Text b below.survey.level.items below.survey.leaves.items (marked (length b) m)) (sym c.deref-2.ensures.value) (subst (λ n. IsShaped Text b below.survey.level.items below.survey.leaves.items (marked n below.marks.items)) (sym long) s) in
    unmet_wrong Text b below.survey.level.items below.survey.leaves.items (marked (length b) marks) shaped plain c.in-Err-check_met.wrong unmet
