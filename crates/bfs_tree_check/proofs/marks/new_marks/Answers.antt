use Rattle.std.proofs.Common.{◌≡◌, ◌-◌, ◌++◌, ◌∷◌, [], ◌∙◌, List, Bool, true, false, replicate, length, ap, arith}
use Rattle.std.proofs.lemmas.List.{length-replicate}
use Rattle.bfs_tree_check.specs.Marked.{marked}
use Rattle.bfs_tree_check.proofs.Marking.{new_marked}
use Rattle.bfs_tree_check.proofs.marks.new_marks.Goals as goal

pub returns-in-Ok-clause-length : goal.returns-in-Ok-clause-length
returns-in-Ok-clause-length c =
    let all : c.push_marks.new.marks.items ≡ true ∷ replicate (c.args.pages - 1) false = c.in-Ok.ensures ∙ ap (λ (l : List Bool). l ++ replicate (c.args.pages - 1) false) (c.in_ok-push.ensures.items ∙ ap (λ (l : List Bool). l ++ true ∷ []) c.new-marks.ensures.items) in
    let e : length c.push_marks.new.marks.items ≡ length (true ∷ replicate (c.args.pages - 1) false) = ap length all in
    let n = length-replicate {A = Bool} (c.args.pages - 1) false in
    let p = c.requires in
    omega (arith, e, n, p)

pub returns-in-Ok-clause-header : goal.returns-in-Ok-clause-header
returns-in-Ok-clause-header c = λ size whole pages x.
    let all : c.push_marks.new.marks.items ≡ true ∷ replicate (c.args.pages - 1) false = c.in-Ok.ensures ∙ ap (λ (l : List Bool). l ++ replicate (c.args.pages - 1) false) (c.in_ok-push.ensures.items ∙ ap (λ (l : List Bool). l ++ true ∷ []) c.new-marks.ensures.items) in
    ap (λ (l : List Bool). marked size l x) all ∙ new_marked size x (c.args.pages - 1) whole (let p = c.requires in omega (arith, p, pages))
