use Rattle.std.proofs.Common.{◌≡◌, ◌∙◌, ◌-◌, ◌++◌, ◌∷◌, [], ℕ, List, length, take, ap, sym, subst, refl, arith}
use Rattle.std.proofs.Math.Seq.{take-append_seam, take-length}
use Rattle.bfs_pages.specs.Trees.{page_in, state_of}
use Rattle.bfs_pages.proofs.OfKind.{if_some}
use Rattle.bfs_walk.specs.Walked.{IsGoodBelow}
use Rattle.bfs_walk.proofs.Going.{leaf_good, entered, leaf_part, inner_part}
use Rattle.bfs_walk.proofs.way.enter.Goals as goal

pub returns-in-Ok-clause-due : goal.returns-in-Ok-clause-due
returns-in-Ok-clause-due g c = λ b told due.
    let page = if_some (λ (z : List ℕ). c.look_at_leaf.new.page ≡ page_in z c.args.at) _ b c.in-Ok.ensures.read told in
    let good = leaf_good c.args.kind b c.args.at c.look_at_leaf.new.page page c.in-Ok.ensures.good c.in-Ok.ensures.leaf in
    (due, subst (λ n. IsGoodBelow (state_of c.args.kind b).bodies n c.args.at) (sym c.if-deep-eq0.true) good)

pub returns-in-Err-clause-wrong : goal.returns-in-Err-clause-wrong
returns-in-Err-clause-wrong g c = λ b told part. c.in-Err.ensures.wrong b told (leaf_part c.args.kind b c.args.deep c.args.at c.if-deep-eq0.true part)

pub returns-in-Err-look_at_interior-clause-wrong : goal.returns-in-Err-look_at_interior-clause-wrong
returns-in-Err-look_at_interior-clause-wrong g c = λ b told part.
    c.in-Err-look_at_interior.ensures.wrong b told (inner_part c.args.kind b c.args.deep c.args.at (λ e. let f = c.if-deep-eq0.false in omega (arith, e, f)) part)

pub returns-in-Ok-push-clause-due : goal.returns-in-Ok-push-clause-due
returns-in-Ok-push-clause-due g c = λ b told.
    let page = if_some (λ (z : List ℕ). c.look_at_interior.new.page ≡ page_in z c.args.at) _ b c.in-Ok-look_at_interior.ensures.read told in
    entered c.args.kind b c.args.at c.args.deep _ c.look_at_interior.new.page (record { at = c.args.at; next = 0; deep = c.args.deep - 1 }) c.args.frames.now.items c.push.new.self.items page c.in-Ok-look_at_interior.ensures.interior refl refl (omega (arith, c.if-deep-eq0.false)) c.in-Ok-push.ensures.items

pub returns-in-Ok-clause-kept : goal.returns-in-Ok-clause-kept
returns-in-Ok-clause-kept g c = take-length c.args.frames.now.items

pub returns-in-Ok-push-clause-kept : goal.returns-in-Ok-push-clause-kept
returns-in-Ok-push-clause-kept g c =
    ap (take (length c.args.frames.now.items)) c.in-Ok-push.ensures.items ∙ take-append_seam c.args.frames.now.items _
