use Rattle.std.proofs.Common.{◌≡◌, ◌<◌, ◌/◌, ◌∙◌, ℕ, sym, ap, subst}
use Rattle.std.specs.List.{AllByRecursion}
use Rattle.bfs_pages.specs.Answers.{IsChild, IsLink}
use Rattle.bfs_tree_check.specs.Freed.{IsFreed, built_times}
use Rattle.bfs_tree_check.specs.Marked.{marked}
use Rattle.bfs_tree_check.proofs.Surveying.{smalls}
use Rattle.bfs_tree_check.proofs.shape.check_shape.Goals as goal

pub check_links-requires-clause-inside : goal.check_links-requires-clause-inside
check_links-requires-clause-inside g c =
    subst (λ n. AllByRecursion (IsChild n) c.deref.result.now) (sym c.in-Ok.ensures.size) (subst (AllByRecursion (IsChild (g.P.Pages.size c.args.pages.now))) (sym c.deref.ensures.value) c.in-Ok.ensures.leaves)

pub check_links-requires-clause-small : goal.check_links-requires-clause-small
check_links-requires-clause-small g c =
    subst (AllByRecursion (λ x. x < 9223372036854775808)) (sym c.deref.ensures.value) (smalls (g.P.Pages.size c.args.pages.now) c.in-Ok.found.leaves.items c.requires.small c.in-Ok.ensures.leaves)

pub check_free_list-requires-clause-first : goal.check_free_list-requires-clause-first
check_free_list-requires-clause-first g c = subst (λ n. IsLink n c.args.free) (sym (c.in-Ok-check_links.ensures.size ∙ c.in-Ok.ensures.size)) c.requires.free

pub check_free_list-requires-clause-small : goal.check_free_list-requires-clause-small
check_free_list-requires-clause-small g c = subst (λ n. n < 9223372036854775808) (sym (c.in-Ok-check_links.ensures.size ∙ c.in-Ok.ensures.size)) c.requires.small

pub check_free_list-requires-clause-length : goal.check_free_list-requires-clause-length
check_free_list-requires-clause-length g c = c.in-Ok.ensures.length ∙ c.requires.length ∙ ap (λ n. n / 1024) (sym (c.in-Ok-check_links.ensures.size ∙ c.in-Ok.ensures.size))

pub returns-in-Err-clause-wrong : goal.returns-in-Err-clause-wrong
returns-in-Err-clause-wrong g c = λ b told root levels free marks. c.in-Err.ensures.wrong b told root levels marks

pub returns-in-Err-check_links-clause-wrong : goal.returns-in-Err-check_links-clause-wrong
returns-in-Err-check_links-clause-wrong g c = λ b told root levels free marks.
    let s = c.in-Ok.ensures.surveyed b told root levels marks in
    c.in-Err-check_links.ensures.wrong c.args.kind b (c.in-Ok.ensures.told ∙ told) (s.leaves_are ∙ sym c.deref.ensures.value)

pub returns-in-Err-check_free_list-clause-wrong : goal.returns-in-Err-check_free_list-clause-wrong
returns-in-Err-check_free_list-clause-wrong g c = λ b told root levels free marks.
    let s = c.in-Ok.ensures.surveyed b told root levels marks in
    let size = c.in-Ok-check_links.ensures.size ∙ c.in-Ok.ensures.size in
    c.in-Err-check_free_list.ensures.wrong c.args.kind b (c.in-Ok-check_links.ensures.told ∙ c.in-Ok.ensures.told ∙ told) free
    (subst (λ n. (x : ℕ) → marked n c.survey_tree.new.marks x ≡ built_times c.args.kind b x) (sym size) s.count)

pub returns-in-Ok-check_free_list-clause-shaped : goal.returns-in-Ok-check_free_list-clause-shaped
returns-in-Ok-check_free_list-clause-shaped g c = λ b told root levels free marks.
    let s = c.in-Ok.ensures.surveyed b told root levels marks in
    let size = c.in-Ok-check_links.ensures.size ∙ c.in-Ok.ensures.size in
    record {
      met = s.met;
      known = s.known;
      leaves_are = s.leaves_are;
      good = s.good;
      linked = c.in-Ok-check_links.ensures.linked c.args.kind b (c.in-Ok.ensures.told ∙ told) (s.leaves_are ∙ sym c.deref.ensures.value);
      freed = subst (λ n. IsFreed c.args.kind b (marked n c.check_free_list.new.marks)) size
          (c.in-Ok-check_free_list.ensures.freed c.args.kind b (c.in-Ok-check_links.ensures.told ∙ c.in-Ok.ensures.told ∙ told) free
          (subst (λ n. (x : ℕ) → marked n c.survey_tree.new.marks x ≡ built_times c.args.kind b x) (sym size) s.count));
    }
