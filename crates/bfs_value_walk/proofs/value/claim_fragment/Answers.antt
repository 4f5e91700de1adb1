use Rattle.std.proofs.Common.{ℕ, List, Bool, refl, sym, ap, subst, ⊎_elim}
use Rattle.bfs_pages.specs.Answers.{IsChild}
use Rattle.bfs_finding.specs.TreeFaults.{of_value}
use Rattle.bfs_walk.specs.Wrong.{IsWrongTree}
use Rattle.bfs_tree_check.specs.Marked.{marked}
use Rattle.bfs_value_walk.specs.Named.{named, parted}
use Rattle.bfs_value_walk.proofs.Meeting.{known_met, new_met, named_twice, part_twice}
use Rattle.bfs_value_walk.proofs.value.claim_fragment.Goals as goal

pub returns-then-not-mark_parted-clause-wrong : goal.returns-then-not-mark_parted-clause-wrong
returns-then-not-mark_parted-clause-wrong c = λ kind b done rest r long split e good met.
    let size = c.args.size in
    let t = c.if-not-mark_parted.ensures.twice refl in
    subst (IsWrongTree kind b) (sym c.met_twice.ensures)
    (part_twice kind b done r (marked size c.args.marks.now) (parted size c.args.names.now) (named size c.args.names.now) met rest split c.args.at c.args.index e (subst (λ n. IsChild n c.args.at) (sym long) c.requires.at) t.0 t.1)

pub returns-then-not-name_fragment-clause-wrong : goal.returns-then-not-name_fragment-clause-wrong
returns-then-not-name_fragment-clause-wrong c = λ kind b done rest r long split e good met.
    let size = c.args.size in
    subst (IsWrongTree kind b) (sym c.content_of.ensures)
    (of_value (named_twice kind b done r (marked size c.args.marks.now) (parted size c.args.names.now) (named size c.args.names.now) met rest split c.args.at c.args.index e good (c.if-not-name_fragment.ensures.twice refl)) refl)

pub returns-clause-met : goal.returns-clause-met
returns-clause-met c = λ kind b done r long e good met.
    let size = c.args.size in
    let now : ℕ → ℕ = marked size c.mark_parted.new.marks in
    let child = subst (λ n. IsChild n c.args.at) (sym long) c.requires.at in
    ⊎_elim
    (λ k. known_met kind b done r (marked size c.args.marks.now) (parted size c.args.names.now) (named size c.args.names.now) met c.args.at c.args.index e (child, good) (marked size c.mark_parted.new.marks) (parted size c.name_fragment.new.names) (named size c.name_fragment.new.names)
    (c.if-not-name_fragment.ensures.parts refl) (c.if-not-name_fragment.ensures.once refl) k.0 (λ x. ap (λ (m : List Bool). marked size m x) k.1))
    (λ n. new_met kind b done r (marked size c.args.marks.now) (parted size c.args.names.now) (named size c.args.names.now) met c.args.at c.args.index e (child, good) (marked size c.mark_parted.new.marks) (parted size c.name_fragment.new.names) (named size c.name_fragment.new.names)
    (c.if-not-name_fragment.ensures.parts refl) (c.if-not-name_fragment.ensures.once refl) n.0 n.1)
    (c.if-not-mark_parted.ensures.ready refl)
