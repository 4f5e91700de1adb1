use Rattle.std.proofs.Common.{rules, ◌≡◌, ◌-◌, ◌/◌, ◌∙◌, ◌∷◌, [], ℕ, List, Bool, sym, ap, subst, arith, w64, to_z, of_z}
use Rattle.std.proofs.lemmas.List.{with_items_is}
use Rattle.bfs_base.specs.Lists.{times}
use Rattle.bfs_node.specs.declared.header.Header.{Header}
use Rattle.bfs_pages.specs.Trees.{place_of}
use Rattle.bfs_tree_check.specs.Marked.{marked}
use Rattle.bfs_tree_check.specs.Shaped.{IsShaped}
use Rattle.bfs_tree_check.proofs.below.survey_below.Goals as goal

pub returns-in-Ok-check_tree-clause-shaped : goal.returns-in-Ok-check_tree-clause-shaped
returns-in-Ok-check_tree-clause-shaped g c = λ b told is.
    let size = g.P.Pages.size c.args.pages.now in
    let root_z : to_z w64 (of_z w64 c.args.header.root_pointer) ≡ c.args.header.root_pointer = search rules in
    let free_z : to_z w64 (of_z w64 c.args.header.free_pointer) ≡ c.args.header.free_pointer = search rules in
    let root = c.place-root.ensures ∙ ap place_of (root_z ∙ ap (λ (h : Header). h.root_pointer) is) in
    let levels = ap (λ (h : Header). h.levels - 1) is in
    let free = c.place-free.ensures ∙ ap place_of (free_z ∙ ap (λ (h : Header). h.free_pointer) is) in
    let marks : (x : ℕ) → marked size c.deref_mut.result.now x ≡ times x (0 ∷ []) = subst (λ (m : List Bool). (x : ℕ) → marked size m x ≡ times x (0 ∷ [])) (sym c.deref_mut.ensures.value) (c.in-Ok.ensures.header size (g.met.P.Pages.whole c.args.pages.now) (ap (λ n. n / 1024) (sym c.length-size.ensures))) in
    let survey = c.in-Ok-check_tree.survey in
    let read = with_items_is c.in-Ok.marks c.check_tree.new.marks (let a = c.check_tree.auto.marks in let b = c.deref_mut.ensures.len in let d = c.deref_mut.ensures.value in let e = c.in-Ok.marks.ok in omega (arith, a, b)) in
    subst (λ (m : List Bool). IsShaped c.args.kind b survey.level.items survey.leaves.items (marked size m)) (sym read) (c.in-Ok-check_tree.ensures.shaped b told root levels free marks)

pub returns-in-Ok-check_tree-clause-ascends : goal.returns-in-Ok-check_tree-clause-ascends
returns-in-Ok-check_tree-clause-ascends g c = λ b told is.
    let size = g.P.Pages.size c.args.pages.now in
    let root_z : to_z w64 (of_z w64 c.args.header.root_pointer) ≡ c.args.header.root_pointer = search rules in
    let free_z : to_z w64 (of_z w64 c.args.header.free_pointer) ≡ c.args.header.free_pointer = search rules in
    let root = c.place-root.ensures ∙ ap place_of (root_z ∙ ap (λ (h : Header). h.root_pointer) is) in
    let levels = ap (λ (h : Header). h.levels - 1) is in
    let free = c.place-free.ensures ∙ ap place_of (free_z ∙ ap (λ (h : Header). h.free_pointer) is) in
    let marks : (x : ℕ) → marked size c.deref_mut.result.now x ≡ times x (0 ∷ []) = subst (λ (m : List Bool). (x : ℕ) → marked size m x ≡ times x (0 ∷ [])) (sym c.deref_mut.ensures.value) (c.in-Ok.ensures.header size (g.met.P.Pages.whole c.args.pages.now) (ap (λ n. n / 1024) (sym c.length-size.ensures))) in
    c.in-Ok-check_tree.ensures.ascends b told root levels free marks

pub returns-in-Err-check_tree-clause-wrong : goal.returns-in-Err-check_tree-clause-wrong
returns-in-Err-check_tree-clause-wrong g c = λ b told is.
    let size = g.P.Pages.size c.args.pages.now in
    let root_z : to_z w64 (of_z w64 c.args.header.root_pointer) ≡ c.args.header.root_pointer = search rules in
    let free_z : to_z w64 (of_z w64 c.args.header.free_pointer) ≡ c.args.header.free_pointer = search rules in
    let root = c.place-root.ensures ∙ ap place_of (root_z ∙ ap (λ (h : Header). h.root_pointer) is) in
    let levels = ap (λ (h : Header). h.levels - 1) is in
    let free = c.place-free.ensures ∙ ap place_of (free_z ∙ ap (λ (h : Header). h.free_pointer) is) in
    let marks : (x : ℕ) → marked size c.deref_mut.result.now x ≡ times x (0 ∷ []) = subst (λ (m : List Bool). (x : ℕ) → marked size m x ≡ times x (0 ∷ [])) (sym c.deref_mut.ensures.value) (c.in-Ok.ensures.header size (g.met.P.Pages.whole c.args.pages.now) (ap (λ n. n / 1024) (sym c.length-size.ensures))) in
    c.in-Err-check_tree.ensures.wrong b told root levels free marks
