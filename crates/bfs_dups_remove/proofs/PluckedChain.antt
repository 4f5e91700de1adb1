-- A number that is in a chain, and what taking it out comes to.
use Rattle.std.proofs.Common.{◌≡◌, ◌≤◌, ◌%◌, ℕ, ℤ, List, ◌++◌, length, Some, ap, ◌∙◌, subst, arith}
use Rattle.bfs_base.specs.Lists.{times}
use Rattle.bfs_base.specs.declared.kind.KeyKind.{KeyKind}
use Rattle.bfs_node.specs.Page.{Row}
use Rattle.bfs_pages.specs.Order.{Key}
use Rattle.bfs_pages.specs.Shapes.{Shape}
use Rattle.bfs_pages.specs.Trees.{page_in}
use Rattle.bfs_pages.proofs.Splice.{times-append}
use Rattle.bfs_values.specs.declared.link.Link.TheVariants.{Chain}
use Rattle.bfs_values.specs.Links.{link_in}
use Rattle.bfs_values.specs.Values.{page_numbers, chain_of, numbers_of_pages, numbers_in, values_in}
use Rattle.bfs_values.specs.Stored.{IsRevalued}
use Rattle.bfs_dups.proofs.Answered.{ChainFacts}
use Rattle.bfs_dups.proofs.Ordered.{order-times}
use Rattle.bfs_dups_remove.specs.Lessened.{IsLessened}
use Rattle.bfs_dups_remove.specs.Shortened.{IsLocated}
use Rattle.bfs_dups_remove.proofs.Lesser.{lessened-some, revalued-twice}
use Rattle.bfs_dups_remove.proofs.Passed.{parts-numbers}

-- a page among those of a chain is one of the chain's
pub located-in : (b : List ℕ) (p at before : ℕ) (f : ChainFacts b p) → IsLocated f.pages at before → IsLocated (chain_of b p) at before
located-in b p at before f l = record { front = l.front; back = l.back; parts = f.is ∙ l.parts; behind = l.behind }

-- a number of a page of a chain is one of those that the chain means
pub located-times : (b : List ℕ) (p at before x : ℕ) (value : ℤ) → link_in value ≡ Chain p → IsLocated (chain_of b p) at before → 1 ≤ times x (page_numbers (page_in b at)) → 1 ≤ times x (values_in b value)
located-times b p at before x value link l there =
    let ns : List ℕ = page_numbers (page_in b at) in
    let us : List ℕ = numbers_of_pages b l.front in
    let vs : List ℕ = numbers_of_pages b l.back in
    let e : times x (values_in b value) ≡ times x (us ++ (ns ++ vs)) =
    ap (λ k. times x (numbers_in b k)) link ∙ order-times x (numbers_of_pages b (chain_of b p)) ∙ ap (λ z. times x (numbers_of_pages b z)) l.parts ∙ ap (times x) (parts-numbers b l.front at l.back) in
    omega (arith, e, there, times-append x us (ns ++ vs), times-append x ns vs)

-- a number is left, and the value stays
pub lessened-stays : (kind : KeyKind) (b m : List ℕ) (t : Shape) (front : List Row) (key : Key) (back : List Row) (value v : ℤ) (ns : List ℕ) → v ≡ value → IsLessened kind b m t front key back ns (Some v) → IsRevalued kind b m t front key back value ns
lessened-stays kind b m t front key back value v ns e l = subst (λ z. IsRevalued kind b m t front key back z ns) e l.1

-- a number goes, the pages of the chain become fewer, and it gets another form
pub lessened-thrice : (kind : KeyKind) (b m n c : List ℕ) (t : Shape) (front : List Row) (key : Key) (back : List Row) (value new : ℤ) (ns : List ℕ) → length c % 1024 ≡ 0 → IsRevalued kind b m t front key back value ns → IsRevalued kind m n t front key back value (values_in m value)
    → IsRevalued kind n c t front key back new (values_in n value) → IsLessened kind b c t front key back ns (Some new)
lessened-thrice kind b m n c t front key back value new ns w r s u =
    lessened-some kind b c t front key back ns new w (revalued-twice kind b n c t front key back value new ns (revalued-twice kind b m n t front key back value value ns r s) u)
