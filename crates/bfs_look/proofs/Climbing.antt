-- The way up from a node, as names that were read and as places that are left.
use Rattle.std.proofs.Common.{◌≡◌, ◌≢◌, ◌≤◌, ◌<◌, ℕ, zero, suc, List, [], ◌∷◌, ◌++◌, length, Option, Bool, true, false, refl, sym, ap, ◌∙◌, subst, arith, take}
use Rattle.std.specs.Prelude.{◌||◌, ◌==◌, get_or}
use Rattle.std.specs.List.{list_any}
use Rattle.std.specs.Option.{option_map_or}
use Rattle.std.specs.FinMap.{get, len}
use Rattle.bfs_tree.specs.Trees.{Node, Tree, IsNode, LeadsTo}
use Rattle.bfs_tree.specs.Refusals.{line_up}
use Rattle.bfs_tree.proofs.Ways.{leads-line}
use Rattle.bfs_look.specs.Climbs.{Climbs}

-- one name more, which is that of the node come to
pub climbs_more : (tree : Tree) (id : ℕ) (names : List (List ℕ)) (at : ℕ) (n : Node) → Climbs tree id names at → IsNode tree at n → at ≢ tree.root → Climbs tree id (names ++ n.name ∷ []) n.parent
climbs_more tree id [] at n way is apart = (n, subst (λ (k : ℕ). IsNode tree k n) (sym way) is, refl, (λ e. apart (sym way ∙ e)), refl)
climbs_more tree id (name ∷ names) at n way is apart = (way.0, way.1, way.2, way.3, climbs_more tree way.0.parent names at n way.4 is apart)

-- the last name of a way is that of a node in the directory above
pub record IsLastStep (tree : Tree) (id : ℕ) (names : List (List ℕ)) (name : List ℕ) (top : ℕ) : Type 0 where
  pub child : ℕ
  pub node : Node
  pub there : IsNode tree child node
  pub named : node.name ≡ name
  pub apart : child ≢ tree.root
  pub parent : node.parent ≡ top
  pub way : Climbs tree id names child

pub climbs_last : (tree : Tree) (id : ℕ) (names : List (List ℕ)) (name : List ℕ) (top : ℕ) → Climbs tree id (names ++ name ∷ []) top → IsLastStep tree id names name top
climbs_last tree id [] name top way = record { child = id; node = way.0; there = way.1; named = way.2; apart = way.3; parent = way.4; way = refl }
climbs_last tree id (x ∷ names) name top way =
    let more : IsLastStep tree way.0.parent names name top = climbs_last tree way.0.parent names name top way.4 in
    record { child = more.child; node = more.node; there = more.there; named = more.named; apart = more.apart; parent = more.parent; way = (way.0, way.1, way.2, way.3, more.way) }

-- the first names of a list, and the one behind them
pub take_one_more : {A : Type 0} (xs : List A) (k : ℕ) (d : A) → k < length xs → take (suc k) xs ≡ take k xs ++ get_or xs k d ∷ []
take_one_more [] k d low = absurd (omega (arith, low))
take_one_more (x ∷ xs) zero d low = refl
take_one_more (x ∷ xs) (suc k) d low = ap (λ l. x ∷ l) (take_one_more xs k d (omega (arith, low)))

pub take_whole : {A : Type 0} (xs : List A) → take (length xs) xs ≡ xs
take_whole [] = refl
take_whole (x ∷ xs) = ap (λ l. x ∷ l) (take_whole xs)

-- the root is among so many places and one more, from this one up
abbrev pub HasRootAbove : Tree → ℕ → ℕ → Type 0
HasRootAbove tree left at = list_any (λ x. x == tree.root) (line_up tree.nodes left at) ≡ true

not_same : (a b : ℕ) → a ≢ b → (a == b) ≡ false
not_same a b other = grind (arith, other)

same_is : (a b : ℕ) → (a == b) ≡ true → a ≡ b
same_is a b e = grind (arith, e)

-- at the last place it is the root
pub root_here : (tree : Tree) (at : ℕ) → HasRootAbove tree 0 at → at ≡ tree.root
root_here tree at h = by_test (at == tree.root) refl h
  where
    by_test : (t : Bool) → (at == tree.root) ≡ t → (t || false) ≡ true → at ≡ tree.root
    by_test true e _ = same_is at tree.root e
    by_test false e bad = absurd (let b : false ≡ true = bad in cc)

-- from a node that isn't the root it is above the parent
pub root_above : (tree : Tree) (left at : ℕ) (n : Node) → IsNode tree at n → at ≢ tree.root → HasRootAbove tree (suc left) at → HasRootAbove tree left n.parent
root_above tree left at n is apart h = sym later ∙ h
  where
    later : list_any (λ x. x == tree.root) (line_up tree.nodes (suc left) at) ≡ list_any (λ x. x == tree.root) (line_up tree.nodes left n.parent)
    later =
        ap (λ (t : Bool). t || list_any (λ x. x == tree.root) (line_up tree.nodes left (option_map_or (λ (node : Node). node.parent) (get tree.nodes at) at))) (not_same at tree.root apart)
        ∙ ap (λ (o : Option Node). list_any (λ x. x == tree.root) (line_up tree.nodes left (option_map_or (λ (node : Node). node.parent) o at))) is

-- parents that lead to the root do so within as many places as there are nodes
pub leads_up : (tree : Tree) (left at : ℕ) → len tree.nodes ≤ left → LeadsTo tree tree.root at → HasRootAbove tree left at
leads_up tree left at few leads = leads-line left tree tree.root at few leads
