use Rattle.std.proofs.Common.{◌≡◌, ◌∙◌, [], ℕ, List, replicate, length, sym, subst}
use Rattle.bfs_value_walk.specs.Taken.{AreTaken}
use Rattle.bfs_value_walk.proofs.Reaching.{none_taken}
use Rattle.bfs_value_walk.proofs.walk.take_values.Goals as goal

pub returns-clause-reached : goal.returns-clause-reached
returns-clause-reached g c = λ b told are shape.
    let size = g.P.Pages.size c.args.pages.now in
    let words : c.deref_mut.result.now ≡ replicate {A = ℕ} (length c.args.marks.now) 0 = c.deref_mut.ensures.value ∙ c.in-Ok.ensures in
    c.take_marked.ensures.reached b told are (subst (λ (l : List ℕ). AreTaken c.args.kind b [] size c.args.marks.now l (g.T.RowSink.took c.args.taken.now c.args.taken.now)) (sym words)
    (none_taken c.args.kind b size (length c.args.marks.now) c.args.marks.now shape (g.T.RowSink.took c.args.taken.now c.args.taken.now) (g.met.T.RowSink.took_none c.args.taken.now)))

pub returns-clause-wrong : goal.returns-clause-wrong
returns-clause-wrong g c = λ b told are shape.
    let size = g.P.Pages.size c.args.pages.now in
    let words : c.deref_mut.result.now ≡ replicate {A = ℕ} (length c.args.marks.now) 0 = c.deref_mut.ensures.value ∙ c.in-Ok.ensures in
    c.take_marked.ensures.wrong b told are (subst (λ (l : List ℕ). AreTaken c.args.kind b [] size c.args.marks.now l (g.T.RowSink.took c.args.taken.now c.args.taken.now)) (sym words)
    (none_taken c.args.kind b size (length c.args.marks.now) c.args.marks.now shape (g.T.RowSink.took c.args.taken.now c.args.taken.now) (g.met.T.RowSink.took_none c.args.taken.now)))
