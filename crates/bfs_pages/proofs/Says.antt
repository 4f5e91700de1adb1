-- What a page says, by its fields.
use Rattle.std.proofs.Common.{◌≡◌, ◌≤◌, ℕ, ℤ, pos, negsuc, zero, suc, List, Some, None, cond, refl, ap, ◌∙◌, arith}
use Rattle.bfs_node.specs.BaseKeyKind.{KeyKind}
use Rattle.bfs_node.specs.Page.{Row, IsPage, rows_of, links_of}
use Rattle.bfs_pages.specs.Shapes.{leaf_body, inner_body}
use Rattle.bfs_pages.specs.Trees.{place_of, body_of, body_in, children_in}
use Rattle.bfs_pages.proofs.Good.{true-page}

-- what pages say, by their fields
pub says-leaf : (kind : KeyKind) (page : List ℕ) → IsPage kind page → (links_of page).overflow ≡ negsuc 0 → body_in kind page ≡ Some (leaf_body (rows_of page))
says-leaf kind page p o = ap (λ t. cond t (Some (body_of (links_of page).overflow (rows_of page))) None) (true-page kind page p) ∙ ap (λ z. Some (body_of z (rows_of page))) o

inner-by : (z : ℤ) (rows : List Row) → 2 ≤ place_of z → body_of z rows ≡ inner_body (children_in rows) (place_of z)
inner-by (negsuc zero) rows h = absurd (omega (arith, h))
inner-by (negsuc (suc n)) rows h = refl
inner-by (pos n) rows h = refl

pub says-inner : (kind : KeyKind) (page : List ℕ) → IsPage kind page → 2 ≤ place_of (links_of page).overflow → body_in kind page ≡ Some (inner_body (children_in (rows_of page)) (place_of (links_of page).overflow))
says-inner kind page p o = ap (λ t. cond t (Some (body_of (links_of page).overflow (rows_of page))) None) (true-page kind page p) ∙ ap (λ b. Some b) (inner-by (links_of page).overflow (rows_of page) o)

pub place-pos : (n : ℕ) → 1 ≤ n → place_of (pos n) ≡ n
place-pos zero h = absurd (omega (arith, h))
place-pos (suc n) h = refl
