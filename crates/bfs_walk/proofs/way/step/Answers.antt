use Rattle.std.proofs.Common.{◌≡◌, ℕ, List, [], ◌∷◌, ◌++◌, length, take, inl, inr, true, false, ap, sym, subst, refl, arith, ◌∙◌, ◌+◌, suc, length-append}
use Rattle.bfs_pages.specs.Answers.{IsChild}
use Rattle.bfs_pages.specs.Trees.{page_in}
use Rattle.bfs_pages.proofs.OfKind.{if_some}
use Rattle.bfs_walk.specs.Due.{AreChildren, HasGoneOn}
use Rattle.bfs_walk.specs.declared.way.Frame.{Frame}
use Rattle.bfs_walk.proofs.Going.{left_behind, went_on, children_last, part_last, child_inside, child_part, part_put, children_put, inner_part}
use Rattle.bfs_walk.proofs.way.step.Goals as goal

pub look_at_interior-requires-clause-at : goal.look_at_interior-requires-clause-at
look_at_interior-requires-clause-at g c = (children_last (g.P.Pages.size c.args.pages.now) c.in-Some.frame c.pop.new.self.items c.args.frames.now.items c.in-Some.ensures.items c.requires.children).1

pub enter-requires-clause-at : goal.enter-requires-clause-at
enter-requires-clause-at g c =
    subst (λ n. IsChild n c.in-Some-child_of.child) (sym c.in-Ok.ensures.size)
    (child_inside c.args.kind (g.P.Pages.size c.args.pages.now) c.look_at_interior.new.page c.in-Some.frame.next c.in-Some-child_of.child c.in-Ok.ensures.interior (sym c.child_of.ensures ∙ c.in-Some-child_of.is))

pub returns-in_default-child_of-clause-due : goal.returns-in_default-child_of-clause-due
returns-in_default-child_of-clause-due g c = λ b told.
    let page = if_some (λ (z : List ℕ). c.look_at_interior.new.page ≡ page_in z c.in-Some.frame.at) _ b c.in-Ok.ensures.read told in
    left_behind c.args.kind b _ c.look_at_interior.new.page c.in-Some.frame c.pop.new.self.items c.args.frames.now.items page c.in-Ok.ensures.interior c.in-Some.ensures.items (sym c.child_of.ensures ∙ c.in_default-child_of.is)

pub returns-in-Ok-enter-clause-due : goal.returns-in-Ok-enter-clause-due
returns-in-Ok-enter-clause-due g c = λ b told due.
    let page = if_some (λ (z : List ℕ). c.look_at_interior.new.page ≡ page_in z c.in-Some.frame.at) _ b c.in-Ok.ensures.read told in
    let after = c.in-Ok-enter.ensures.due b (c.in-Ok.ensures.told ∙ told) due in
    went_on c.args.kind b _ c.look_at_interior.new.page c.in-Some.frame (record { at = c.in-Some.frame.at; next = c.in-Some.frame.next + 1; deep = c.in-Some.frame.deep }) c.pop.new.self.items c.args.frames.now.items c.push.new.self.items c.in-Some-child_of.child page c.in-Ok.ensures.interior c.in-Some.ensures.items (sym c.child_of.ensures ∙ c.in-Some-child_of.is) refl refl refl c.in-Ok-push.ensures.items after

pub returns-in-Err-clause-wrong : goal.returns-in-Err-clause-wrong
returns-in-Err-clause-wrong g c = λ b told all.
    let part = (part_last c.args.kind b c.in-Some.frame c.pop.new.self.items c.args.frames.now.items c.in-Some.ensures.items all).1 in
    c.in-Err.ensures.wrong b told (inner_part c.args.kind b (suc c.in-Some.frame.deep) c.in-Some.frame.at (λ e. omega (arith, e)) part)

pub returns-in-Ok-enter-clause-children : goal.returns-in-Ok-enter-clause-children
returns-in-Ok-enter-clause-children g c =
    let size : ℕ = g.P.Pages.size c.args.pages.now in
    let last = children_last size c.in-Some.frame c.pop.new.self.items c.args.frames.now.items c.in-Some.ensures.items c.requires.children in
    let all = children_put size (record { at = c.in-Some.frame.at; next = c.in-Some.frame.next + 1; deep = c.in-Some.frame.deep }) c.pop.new.self.items c.push.new.self.items c.in-Ok-push.ensures.items last.1 last.0 in
    subst (λ n. AreChildren n c.enter.new.frames.items) c.in-Ok.ensures.size
    (c.in-Ok-enter.ensures.children (subst (λ n. AreChildren n c.push.new.self.items) (sym c.in-Ok.ensures.size) all))

pub returns-in-Ok-enter-clause-part : goal.returns-in-Ok-enter-clause-part
returns-in-Ok-enter-clause-part g c = λ b told all.
    let page = if_some (λ (z : List ℕ). c.look_at_interior.new.page ≡ page_in z c.in-Some.frame.at) _ b c.in-Ok.ensures.read told in
    let last = part_last c.args.kind b c.in-Some.frame c.pop.new.self.items c.args.frames.now.items c.in-Some.ensures.items all in
    c.in-Ok-enter.ensures.part b
    (child_part c.args.kind b (g.P.Pages.size c.args.pages.now) c.in-Some.frame.deep c.in-Some.frame.at c.look_at_interior.new.page c.in-Some.frame.next c.in-Some-child_of.child page c.in-Ok.ensures.interior (sym c.child_of.ensures ∙ c.in-Some-child_of.is) last.1)
    (part_put c.args.kind b (suc c.in-Some.frame.deep) c.in-Some.frame.at (record { at = c.in-Some.frame.at; next = c.in-Some.frame.next + 1; deep = c.in-Some.frame.deep }) c.pop.new.self.items c.push.new.self.items refl refl c.in-Ok-push.ensures.items last.1 last.0)

pub returns-in-Err-enter-clause-wrong : goal.returns-in-Err-enter-clause-wrong
returns-in-Err-enter-clause-wrong g c = λ b told all.
    let page = if_some (λ (z : List ℕ). c.look_at_interior.new.page ≡ page_in z c.in-Some.frame.at) _ b c.in-Ok.ensures.read told in
    let last = part_last c.args.kind b c.in-Some.frame c.pop.new.self.items c.args.frames.now.items c.in-Some.ensures.items all in
    c.in-Err-enter.ensures.wrong b (c.in-Ok.ensures.told ∙ told)
    (child_part c.args.kind b (g.P.Pages.size c.args.pages.now) c.in-Some.frame.deep c.in-Some.frame.at c.look_at_interior.new.page c.in-Some.frame.next c.in-Some-child_of.child page c.in-Ok.ensures.interior (sym c.child_of.ensures ∙ c.in-Some-child_of.is) last.1)

pub returns-in_default-child_of-clause-on : goal.returns-in_default-child_of-clause-on
returns-in_default-child_of-clause-on g c = λ e. record { rest = c.pop.new.self.items; last = c.in-Some.frame; was = c.in-Some.ensures.items; now = inl refl }

pub returns-in-Ok-enter-clause-on : goal.returns-in-Ok-enter-clause-on
returns-in-Ok-enter-clause-on g c = λ e.
    let next : Frame = record { at = c.in-Some.frame.at; next = c.in-Some.frame.next + 1; deep = c.in-Some.frame.deep } in
    let pushed : c.push.new.self.items ≡ c.pop.new.self.items ++ next ∷ [] = c.in-Ok-push.ensures.items in
    let long : length c.push.new.self.items ≡ length c.pop.new.self.items + 1 = ap length pushed ∙ length-append c.pop.new.self.items (next ∷ []) in
    record {
      rest = c.pop.new.self.items;
      last = c.in-Some.frame;
      was = c.in-Some.ensures.items;
      now = inr (subst (λ (n : ℕ). take n c.enter.new.frames.items ≡ c.pop.new.self.items ++ next ∷ []) long (c.in-Ok-enter.ensures.kept ∙ pushed));
    }
