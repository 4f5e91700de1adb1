use Rattle.std.proofs.Common.{rules, ◌≡◌, ◌-◌, ◌%◌, ◌∙◌, ℕ, List, length, sym, ap, subst, w64, to_z, of_z}
use Rattle.std.specs.List.{AllByRecursion}
use Rattle.bfs_node.specs.declared.header.Header.{Header}
use Rattle.bfs_pages.specs.Answers.{IsChild, IsHeaderFor}
use Rattle.bfs_pages.specs.Trees.{place_of, held}
use Rattle.bfs_pages.proofs.OfKind.{if_some}
use Rattle.bfs_finding.specs.Walks.{frees_in}
use Rattle.bfs_tree_check.specs.Marked.{marked}
use Rattle.bfs_tree_walk.specs.Unmet.{IsUnmet}
use Rattle.bfs_value_walk.specs.Met.{shape_times}
use Rattle.bfs_value_walk.specs.Taken.{IsReached}
use Rattle.bfs_value_walk.proofs.Reaching.{shape_marked, walked, unmet_wrong}
use Rattle.bfs_value_walk.proofs.walk.walk_marked.Goals as goal

pub take_values-requires-clause-inside : goal.take_values-requires-clause-inside
take_values-requires-clause-inside g c =
    subst (λ (l : List ℕ). AllByRecursion (IsChild (g.P.Pages.size c.check_tree.new.pages)) l) (sym c.deref.ensures.value)
    (subst (λ n. AllByRecursion (IsChild n) c.in-Ok.survey.leaves.items) (sym c.in-Ok.ensures.size) c.in-Ok.ensures.leaves)

pub returns-in-Err-clause-wrong : goal.returns-in-Err-clause-wrong
returns-in-Err-clause-wrong g c = λ b told is m.
    let root_z : to_z w64 (of_z w64 c.args.header.root_pointer) ≡ c.args.header.root_pointer = search rules in
    let free_z : to_z w64 (of_z w64 c.args.header.free_pointer) ≡ c.args.header.free_pointer = search rules in
    let root = c.place-root.ensures ∙ ap place_of (root_z ∙ ap (λ (h : Header). h.root_pointer) is) in
    let levels = ap (λ (h : Header). h.levels - 1) is in
    let free = c.place-free.ensures ∙ ap place_of (free_z ∙ ap (λ (h : Header). h.free_pointer) is) in
    c.in-Err.ensures.wrong b told root levels free m

pub returns-in-Err-take_values-clause-wrong : goal.returns-in-Err-take_values-clause-wrong
returns-in-Err-take_values-clause-wrong g c = λ b told is m.
    let size = g.P.Pages.size c.args.pages.now in
    let root_z : to_z w64 (of_z w64 c.args.header.root_pointer) ≡ c.args.header.root_pointer = search rules in
    let free_z : to_z w64 (of_z w64 c.args.header.free_pointer) ≡ c.args.header.free_pointer = search rules in
    let root = c.place-root.ensures ∙ ap place_of (root_z ∙ ap (λ (h : Header). h.root_pointer) is) in
    let levels = ap (λ (h : Header). h.levels - 1) is in
    let free = c.place-free.ensures ∙ ap place_of (free_z ∙ ap (λ (h : Header). h.free_pointer) is) in
    let survey = c.in-Ok.survey in
    let s = c.in-Ok.ensures.shaped b told root levels free m in
    let told' = c.in-Ok.ensures.told ∙ told in
    let leaves = s.leaves_are ∙ sym c.deref.ensures.value in
    let shape = subst (λ n. (x : ℕ) → shape_times c.args.kind b x ≡ marked n c.check_tree.new.marks x) (sym c.in-Ok.ensures.size) (shape_marked c.args.kind b survey.level.items survey.leaves.items (marked size c.check_tree.new.marks) s) in
    c.in-Err-take_values.ensures.wrong b told' leaves shape

pub returns-in-Ok-check_met-clause-whole : goal.returns-in-Ok-check_met-clause-whole
returns-in-Ok-check_met-clause-whole g c = λ b told is m.
    let kind = c.args.kind in
    let size = g.P.Pages.size c.args.pages.now in
    let root_z : to_z w64 (of_z w64 c.args.header.root_pointer) ≡ c.args.header.root_pointer = search rules in
    let free_z : to_z w64 (of_z w64 c.args.header.free_pointer) ≡ c.args.header.free_pointer = search rules in
    let root = c.place-root.ensures ∙ ap place_of (root_z ∙ ap (λ (h : Header). h.root_pointer) is) in
    let levels = ap (λ (h : Header). h.levels - 1) is in
    let free = c.place-free.ensures ∙ ap place_of (free_z ∙ ap (λ (h : Header). h.free_pointer) is) in
    let survey = c.in-Ok.survey in
    let s = c.in-Ok.ensures.shaped b told root levels free m in
    let ascends = c.in-Ok.ensures.ascends b told root levels free m in
    let told' = c.in-Ok.ensures.told ∙ told in
    let leaves = s.leaves_are ∙ sym c.deref.ensures.value in
    let shape = subst (λ n. (x : ℕ) → shape_times kind b x ≡ marked n c.check_tree.new.marks x) (sym c.in-Ok.ensures.size) (shape_marked kind b survey.level.items survey.leaves.items (marked size c.check_tree.new.marks) s) in
    let r : IsReached kind b (marked (g.P.Pages.size c.check_tree.new.pages) c.take_values.new.marks) (g.T.RowSink.took c.args.taken.now c.take_values.new.taken) = c.in-Ok-take_values.ensures.reached b told' leaves shape in
    let long = if_some (λ (z : List ℕ). length z ≡ size) _ b (g.met.P.Pages.sized c.args.pages.now) told in
    let now : c.length.result ≡ g.P.Pages.size c.check_tree.new.pages = c.length.ensures ∙ c.in-Ok-take_values.ensures.size in
    let met : (x : ℕ) → marked (g.P.Pages.size c.check_tree.new.pages) c.take_values.new.marks x ≡ held (length b) x = λ x.
    ap (λ n. marked n c.take_values.new.marks x) (sym now) ∙ c.in-Ok-check_met.ensures.met x ∙ ap (λ n. held n x) (now ∙ c.in-Ok.ensures.size ∙ sym long) in
    let header : IsHeaderFor kind (length b) c.args.header = subst (λ n. IsHeaderFor kind n c.args.header) (sym long) c.requires.header in
    let whole : length b % 1024 ≡ 0 = ap (λ n. n % 1024) long ∙ g.met.P.Pages.whole c.args.pages.now in (
      c.walked_is_whole.ensures kind b r.pages (frees_in kind b) (walked kind b survey.level.items survey.leaves.items (marked size c.check_tree.new.marks) (marked (g.P.Pages.size c.check_tree.new.pages) c.take_values.new.marks) (g.T.RowSink.took c.args.taken.now c.take_values.new.taken) s r c.args.header header is ascends met whole),
      r.are,
    )

pub returns-clause-wrong : goal.returns-clause-wrong
returns-clause-wrong g c = λ b told is m.
    let kind = c.args.kind in
    let size = g.P.Pages.size c.args.pages.now in
    let root_z : to_z w64 (of_z w64 c.args.header.root_pointer) ≡ c.args.header.root_pointer = search rules in
    let free_z : to_z w64 (of_z w64 c.args.header.free_pointer) ≡ c.args.header.free_pointer = search rules in
    let root = c.place-root.ensures ∙ ap place_of (root_z ∙ ap (λ (h : Header). h.root_pointer) is) in
    let levels = ap (λ (h : Header). h.levels - 1) is in
    let free = c.place-free.ensures ∙ ap place_of (free_z ∙ ap (λ (h : Header). h.free_pointer) is) in
    let survey = c.in-Ok.survey in
    let s = c.in-Ok.ensures.shaped b told root levels free m in
    let told' = c.in-Ok.ensures.told ∙ told in
    let leaves = s.leaves_are ∙ sym c.deref.ensures.value in
    let shape = subst (λ n. (x : ℕ) → shape_times kind b x ≡ marked n c.check_tree.new.marks x) (sym c.in-Ok.ensures.size) (shape_marked kind b survey.level.items survey.leaves.items (marked size c.check_tree.new.marks) s) in
    let r : IsReached kind b (marked (g.P.Pages.size c.check_tree.new.pages) c.take_values.new.marks) (g.T.RowSink.took c.args.taken.now c.take_values.new.taken) = c.in-Ok-take_values.ensures.reached b told' leaves shape in
    let long = if_some (λ (z : List ℕ). length z ≡ size) _ b (g.met.P.Pages.sized c.args.pages.now) told in
    let now : c.length.result ≡ g.P.Pages.size c.check_tree.new.pages = c.length.ensures ∙ c.in-Ok-take_values.ensures.size in
    let here : c.length.result ≡ length b = now ∙ c.in-Ok.ensures.size ∙ sym long in
    let unmet = subst (λ n. IsUnmet n (marked n c.take_values.new.marks) c.in-Err-check_met.wrong) here c.in-Err-check_met.ensures.unmet in
    unmet_wrong kind b (marked (length b) c.take_values.new.marks) (g.T.RowSink.took c.args.taken.now c.take_values.new.taken)
    (subst (λ n. IsReached kind b (marked n c.take_values.new.marks) (g.T.RowSink.took c.args.taken.now c.take_values.new.taken)) (c.in-Ok.ensures.size ∙ sym long) r) c.in-Err-check_met.wrong unmet
