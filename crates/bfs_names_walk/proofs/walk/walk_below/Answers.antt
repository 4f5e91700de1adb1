use Rattle.std.proofs.Common.{◌≡◌, ◌%◌, ◌∙◌, [], ℕ, List, Bool, length, sym, ap, subst}
use Rattle.bfs_base.specs.declared.kind.KeyKind.TheVariants.{Text}
use Rattle.bfs_pages.specs.Answers.{IsHeaderFor}
use Rattle.bfs_pages.specs.Trees.{held}
use Rattle.bfs_pages.proofs.OfKind.{if_some}
use Rattle.bfs_values.specs.Rows.{rows_in}
use Rattle.bfs_finding.specs.Walks.{frees_in}
use Rattle.bfs_tree_check.specs.Marked.{marked}
use Rattle.bfs_tree_check.specs.Shaped.{IsShaped}
use Rattle.bfs_value_walk.specs.Plain.{ArePlain}
use Rattle.bfs_value_walk.specs.Unmet.{IsUnmet}
use Rattle.bfs_value_walk.proofs.Wholly.{walked, unmet_wrong, fault_amiss}
use Rattle.bfs_names_walk.specs.Rows.{as_rows}
use Rattle.bfs_names_walk.proofs.Gathered.{wrong_amiss}
use Rattle.bfs_names_walk.proofs.walk.walk_below.Goals as goal

pub returns-in-Err-clause-wrong : goal.returns-in-Err-clause-wrong
returns-in-Err-clause-wrong g c = λ b told is.
    fault_amiss Text b c.in-Err.fault (c.in-Err.ensures.wrong b told is)

pub returns-in-Err-take_leaves-clause-wrong : goal.returns-in-Err-take_leaves-clause-wrong
returns-in-Err-take_leaves-clause-wrong g c = λ b told is.
    let s = c.in-Ok.ensures.shaped b told is in
    fault_amiss Text b c.in-Err-take_leaves.fault (c.in-Err-take_leaves.ensures.wrong b (c.in-Ok.ensures.told ∙ told) (s.leaves_are ∙ sym c.deref.ensures.value))

pub returns-in-Ok-check_others-clause-whole : goal.returns-in-Ok-check_others-clause-whole
returns-in-Ok-check_others-clause-whole g c = λ b told is.
    let s = c.in-Ok.ensures.shaped b told is in
    let told' = c.in-Ok.ensures.told ∙ told in
    let leaves = s.leaves_are ∙ sym c.deref.ensures.value in
    record { tree = c.in-Ok-check_others.ensures.whole b (c.in-Ok-take_leaves.ensures.told ∙ told'); are = c.in-Ok-take_leaves.ensures.taken b told' leaves }

pub returns-in-Err-check_others-clause-wrong : goal.returns-in-Err-check_others-clause-wrong
returns-in-Err-check_others-clause-wrong g c = λ b told is.
    c.in-Err-check_others.ensures.wrong b (c.in-Ok-take_leaves.ensures.told ∙ c.in-Ok.ensures.told ∙ told)

pub returns-in-Ok-check_met-clause-whole : goal.returns-in-Ok-check_met-clause-whole
returns-in-Ok-check_met-clause-whole g c = λ b told is.
    let size = g.P.Pages.size c.args.pages.now in
    let below = c.in-Ok.below in
    let s = c.in-Ok.ensures.shaped b told is in
    let leaves = s.leaves_are ∙ sym c.deref.ensures.value in
    let long = if_some (λ (z : List ℕ). length z ≡ size) _ b (g.met.P.Pages.sized c.args.pages.now) told in
    let rows = c.in-Ok-take_leaves.ensures.taken b (c.in-Ok.ensures.told ∙ told) leaves in
    let plain : ArePlain (rows_in Text b) = subst ArePlain (ap as_rows c.deref-2.ensures.value ∙ rows) (c.are_plain-plain.ensures c.if-not-plain.false) in
    let met : (x : ℕ) → marked size below.marks.items x ≡ held (length b) x = λ x.
    ap (λ (m : List Bool). marked size m x) (sym c.deref-3.ensures.value) ∙ ap (λ n. marked n c.deref-3.result.now x) (sym c.length-size.ensures) ∙ c.in-Ok-check_met.ensures.met x ∙ ap (λ n. held n x) (c.length-size.ensures ∙ sym long) in
    let header : IsHeaderFor Text (length b) c.args.header = subst (λ n. IsHeaderFor Text n c.args.header) (sym long) c.requires.header in
    let ascends = c.in-Ok.ensures.ascends b told is in
    let whole : length b % 1024 ≡ 0 = ap (λ n. n % 1024) long ∙ g.met.P.Pages.whole c.args.pages.now in
    record {
      tree = c.walked_is_whole.ensures Text b [] (frees_in Text b) (walked Text b below.survey.level.items below.survey.leaves.items (marked size below.marks.items) s plain c.args.header header is ascends met whole);
      are = rows;
    }

pub returns-clause-wrong : goal.returns-clause-wrong
returns-clause-wrong g c = λ b told is.
    let size = g.P.Pages.size c.args.pages.now in
    let below = c.in-Ok.below in
    let s = c.in-Ok.ensures.shaped b told is in
    let leaves = s.leaves_are ∙ sym c.deref.ensures.value in
    let long = if_some (λ (z : List ℕ). length z ≡ size) _ b (g.met.P.Pages.sized c.args.pages.now) told in
    let rows = c.in-Ok-take_leaves.ensures.taken b (c.in-Ok.ensures.told ∙ told) leaves in
    let plain : ArePlain (rows_in Text b) = subst ArePlain (ap as_rows c.deref-2.ensures.value ∙ rows) (c.are_plain-plain.ensures c.if-not-plain.false) in
    let marks = c.deref-3.result.now in
    let unmet = subst (λ n. IsUnmet n (marked n marks) c.in-Err-check_met.wrong) (c.length-size.ensures ∙ sym long) c.in-Err-check_met.ensures.unmet in
    let shaped = subst (λ (m : List Bool). IsShaped Text b below.survey.level.items below.survey.leaves.items (marked (length b) m)) (sym c.deref-3.ensures.value) (subst (λ n. IsShaped Text b below.survey.level.items below.survey.leaves.items (marked n below.marks.items)) (sym long) s) in
    wrong_amiss Text b c.in-Err-check_met.wrong (unmet_wrong Text b below.survey.level.items below.survey.leaves.items (marked (length b) marks) shaped plain c.in-Err-check_met.wrong unmet)
