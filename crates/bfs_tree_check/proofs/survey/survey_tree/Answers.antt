use Rattle.std.proofs.Common.{◌≡◌, ◌<◌, ◌/◌, ◌∙◌, [], sym, ap, subst}
use Rattle.std.specs.List.{AllByRecursion}
use Rattle.bfs_pages.specs.Answers.{IsChild}
use Rattle.bfs_tree_check.specs.Levels.{places, IsLooking}
use Rattle.bfs_tree_check.specs.Marked.{marked}
use Rattle.bfs_tree_check.proofs.Looking.{looking_begins, places_inside}
use Rattle.bfs_tree_check.proofs.Surveying.{surveyed}
use Rattle.bfs_tree_check.proofs.survey.survey_tree.Goals as goal

pub look_at_leaves-requires-clause-inside : goal.look_at_leaves-requires-clause-inside
look_at_leaves-requires-clause-inside g c =
    let size = g.P.Pages.size c.args.pages.now in
    let same : c.deref-2.result.now ≡ places c.in-Ok.level.items = c.deref-2.ensures.value ∙ c.in-Ok-places_of.ensures ∙ ap places c.deref.ensures.value in
    subst (λ n. AllByRecursion (IsChild n) c.deref-2.result.now) (sym c.in-Ok.ensures.size) (subst (AllByRecursion (IsChild size)) (sym same) (places_inside size c.in-Ok.level.items c.in-Ok.ensures.inside))

pub look_at_leaves-requires-clause-small : goal.look_at_leaves-requires-clause-small
look_at_leaves-requires-clause-small g c = subst (λ n. n < 9223372036854775808) (sym c.in-Ok.ensures.size) c.requires.small

pub look_at_leaves-requires-clause-length : goal.look_at_leaves-requires-clause-length
look_at_leaves-requires-clause-length g c = c.in-Ok.ensures.length ∙ c.requires.length ∙ ap (λ n. n / 1024) (sym c.in-Ok.ensures.size)

pub returns-in-Ok-look_at_leaves-clause-surveyed : goal.returns-in-Ok-look_at_leaves-clause-surveyed
returns-in-Ok-look_at_leaves-clause-surveyed g c = λ b told root levels marks.
    let size = g.P.Pages.size c.args.pages.now in
    let are = c.in-Ok-places_of.ensures ∙ ap places c.deref.ensures.value in
    let same : c.deref-2.result.now ≡ places c.in-Ok.level.items = c.deref-2.ensures.value ∙ are in
    let h = c.in-Ok.ensures.level b told root levels marks in
    let start = looking_begins c.args.kind b c.in-Ok.level.items (marked size c.lowest_level.new.marks) h in
    let looked = c.in-Ok-look_at_leaves.ensures.leaves b (c.in-Ok.ensures.told ∙ told)
    (subst (λ s. IsLooking c.args.kind b [] c.deref-2.result.now (marked s c.lowest_level.new.marks)) (sym c.in-Ok.ensures.size) (subst (λ l. IsLooking c.args.kind b [] l (marked size c.lowest_level.new.marks)) (sym same) start)) in
    surveyed c.args.kind b c.in-Ok.level.items c.in-Ok-places_of.leaves.items (marked size c.lowest_level.new.marks) (marked size c.look_at_leaves.new.marks) are h
    (subst (λ s. IsLooking c.args.kind b (places c.in-Ok.level.items) [] (marked s c.look_at_leaves.new.marks)) c.in-Ok.ensures.size
    (subst (λ l. IsLooking c.args.kind b l [] (marked (g.P.Pages.size c.lowest_level.new.pages) c.look_at_leaves.new.marks)) same looked))

pub returns-in-Err-look_at_leaves-clause-wrong : goal.returns-in-Err-look_at_leaves-clause-wrong
returns-in-Err-look_at_leaves-clause-wrong g c = λ b told root levels marks.
    let size = g.P.Pages.size c.args.pages.now in
    let same : c.deref-2.result.now ≡ places c.in-Ok.level.items = c.deref-2.ensures.value ∙ c.in-Ok-places_of.ensures ∙ ap places c.deref.ensures.value in
    let start = looking_begins c.args.kind b c.in-Ok.level.items (marked size c.lowest_level.new.marks) (c.in-Ok.ensures.level b told root levels marks) in
    c.in-Err-look_at_leaves.ensures.wrong b (c.in-Ok.ensures.told ∙ told)
    (subst (λ s. IsLooking c.args.kind b [] c.deref-2.result.now (marked s c.lowest_level.new.marks)) (sym c.in-Ok.ensures.size) (subst (λ l. IsLooking c.args.kind b [] l (marked size c.lowest_level.new.marks)) (sym same) start))

pub returns-in-Ok-look_at_leaves-clause-leaves : goal.returns-in-Ok-look_at_leaves-clause-leaves
returns-in-Ok-look_at_leaves-clause-leaves g c =
    let size = g.P.Pages.size c.args.pages.now in
    subst (AllByRecursion (IsChild size)) (sym (c.in-Ok-places_of.ensures ∙ ap places c.deref.ensures.value)) (places_inside size c.in-Ok.level.items c.in-Ok.ensures.inside)
