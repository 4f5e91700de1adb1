-- Rows of a leaf whose pages have no free fragment.
use Rattle.std.proofs.Common.{◌≡◌, ◌≤◌, ◌<◌, ◌+◌, ℕ, ℤ, List, length, Option, Some, None, IfSome, Bool, true, false, nat_lt, refl, ap, subst, arith}
use Rattle.bfs_node.specs.Page.{rows_of, row_in, value_of}
use Rattle.bfs_pages.specs.Answers.{IsChild}
use Rattle.bfs_pages.specs.Trees.{page_in}
use Rattle.bfs_values.specs.Links.{link_in}
use Rattle.bfs_values.specs.declared.link.Link.{Link}
use Rattle.bfs_values.specs.declared.link.Link.TheVariants.{Number, Fragment, Chain, Nothing}
use Rattle.bfs_values.specs.Named.{IsFull, IsCrowded}

-- the page of fragments that a value names, if it names one, has no free fragment
abbrev pub NamesFull : List ℕ → ℤ → Type 0
NamesFull b value = (at i : ℕ) → link_in value ≡ Fragment at i → IsChild (length b) at → IsFull (page_in b at)

-- so do the values of a leaf's rows before one
abbrev pub FullBefore : List ℕ → ℕ → ℕ → Type 0
FullBefore b leaf n = (i : ℕ) → i < n → NamesFull b (value_of (row_in (rows_of (page_in b leaf)) i))

-- one row more
full-next : (b : List ℕ) (leaf n : ℕ) → FullBefore b leaf n → NamesFull b (value_of (row_in (rows_of (page_in b leaf)) n)) → FullBefore b leaf (n + 1)
full-next b leaf n f r i l = by_test (nat_lt i n) refl
  where
    lt_is : (a b : ℕ) → nat_lt a b ≡ true → a < b
    lt_is a b e = grind (arith, e)

    lt_no : (a b : ℕ) → nat_lt a b ≡ false → b ≤ a
    lt_no a b e = grind (arith, e)

    last : (a b : ℕ) → b ≤ a → a < b + 1 → b ≡ a
    last a b m s = omega (arith, m, s)

    by_test : (c : Bool) → nat_lt i n ≡ c → NamesFull b (value_of (row_in (rows_of (page_in b leaf)) i))
    by_test true e = f i (lt_is i n e)
    by_test false e = subst (λ (k : ℕ). NamesFull b (value_of (row_in (rows_of (page_in b leaf)) k))) (last i n (lt_no i n e) l) r

-- the row at n of the leaf that was read has this value
pub full-more : (told : Option (List ℕ)) (leaf n : ℕ) (page : List ℕ) (value : ℤ) → IfSome told (λ b. page ≡ page_in b leaf) → value ≡ value_of (row_in (rows_of page) n) → IfSome told (λ b. FullBefore b leaf n) → IfSome told (λ b. NamesFull b value) → IfSome told (λ b. FullBefore b leaf (n + 1))
full-more None leaf n page value r v f h = tt
full-more (Some b) leaf n page value r v f h =
    full-next b leaf n f (subst (λ (p : List ℕ). NamesFull b (value_of (row_in (rows_of p) n))) r (subst (λ (z : ℤ). NamesFull b z) v h))

-- all rows were looked at
pub full-all : (told : Option (List ℕ)) (leaf n : ℕ) (page : List ℕ) → IfSome told (λ b. page ≡ page_in b leaf) → length (rows_of page) ≤ n → IfSome told (λ b. FullBefore b leaf n) → IfSome told (λ b. IsCrowded b leaf)
full-all None leaf n page r m f = tt
full-all (Some b) leaf n page r m f =
    let most : length (rows_of (page_in b leaf)) ≤ n = subst (λ (p : List ℕ). length (rows_of p) ≤ n) r m in
    λ at named. f named.0 (omega (arith, most, named.2)) at named.1 named.3

-- one link is one number
pub same-number : (a b : ℕ) → Number a ≡ Number b → a ≡ b
same-number a b e = ap number_of e
  where
    number_of : Link → ℕ
    number_of (Number n) = n
    number_of (Fragment page i) = 0
    number_of (Chain page) = 0
    number_of Nothing = 0
