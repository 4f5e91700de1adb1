-- The way up from a directory: as a list of as many places as there are nodes, and as parents that lead.
use Rattle.std.proofs.Common.{◌≡◌, ◌≤◌, ◌-◌, ◌⊎◌, inl, inr, ℕ, zero, suc, List, Option, Some, None, Bool, true, false, cond, IsTrue, refl, ap, sym, ◌∙◌, subst, arith}
use Rattle.std.specs.Prelude.{◌&&◌, ◌||◌, ◌==◌, ◌↔◌}
use Rattle.std.specs.List.{list_any}
use Rattle.std.specs.Option.{option_map_or, is_some}
use Rattle.std.specs.Ordering.{nat_cmp, eq_by_cmp}
use Rattle.std.specs.Cmp.{nat_cmp_total}
use Rattle.std.specs.FinMap.{get, remove, len, get-remove, len-remove, empty_of_len, get-empty}
use Rattle.bfs_tree.specs.declared.call.Kind.{Kind}
use Rattle.bfs_tree.specs.declared.call.Kind.TheVariants.{File, Dir, Link}
use Rattle.bfs_tree.specs.Trees.{Tree, Node, Nodes, IsNode, LeadsTo, at_top, by_parent, is_dir}
use Rattle.bfs_tree.specs.Refusals.{line_up, is_inside}

-- the list has the node
abbrev has : ℕ → List ℕ → Bool
has id ds = list_any (λ x. x == id) ds

-- where the way goes on from a directory
abbrev next_up : Option Node → ℕ → ℕ
next_up o d = option_map_or (λ node. node.parent) o d

same_is : (d id : ℕ) → (d == id) ≡ true → d ≡ id
same_is d id e = grind (arith, e)

is_same : (d : ℕ) → (d == d) ≡ true
is_same d = grind arith

ties : (q : ℕ) → eq_by_cmp nat_cmp q q ≡ true
ties q = grind arith

tied : (q k : ℕ) → eq_by_cmp nat_cmp q k ≡ true → q ≡ k
tied q k e = grind (arith, e)

-- a node on the list stands on the way
pub line-leads : (tree : Tree) (n id d : ℕ) → has id (line_up tree.nodes n d) ≡ true → LeadsTo tree id d
line-leads tree zero id d h =
    elim (d == id) as (λ b. (d == id) ≡ b → (b || false) ≡ true → LeadsTo tree id d) [
      | true ↦ λ e _. subst (LeadsTo tree id) (sym (same_is d id e)) at_top
      | false ↦ λ _ miss. cc
    ] refl h
line-leads tree (suc n) id d h =
    elim (d == id) as (λ b. (d == id) ≡ b → (b || has id (line_up tree.nodes n (next_up (get tree.nodes d) d))) ≡ true → LeadsTo tree id d) [
      | true ↦ λ e _. subst (LeadsTo tree id) (sym (same_is d id e)) at_top
      | false ↦ λ _ later.
          elim (get tree.nodes d) as (λ o. get tree.nodes d ≡ o → has id (line_up tree.nodes n (next_up o d)) ≡ true → LeadsTo tree id d) [
            | None ↦ λ _ on. line-leads tree n id d on
            | Some node ↦ λ is on. by_parent d node is (line-leads tree n id node.parent on)
          ] refl later
    ] refl h

abbrev without : Tree → ℕ → Tree
without tree d = record tree { nodes = remove tree.nodes d }

removed-other : (nodes : Nodes) (d x : ℕ) → eq_by_cmp nat_cmp x d ≡ false → get (remove nodes d) x ≡ get nodes x
removed-other nodes d x e = get-remove nat_cmp_total nodes d x ∙ ap (λ b. cond b None (get nodes x)) e

removed-here : (nodes : Nodes) (d : ℕ) → get (remove nodes d) d ≡ None
removed-here nodes d = get-remove nat_cmp_total nodes d d ∙ ap (λ b. cond b None (get nodes d)) (ties d)

same_node : (nodes : Nodes) (x d : ℕ) (m n : Node) → x ≡ d → get nodes x ≡ Some m → get nodes d ≡ Some n → m ≡ n
same_node nodes x d m n e is_m is_n = let both : get nodes x ≡ get nodes d = ap (get nodes) e in cc

-- a way that passes a node avoids it from its last visit on
cut : (tree : Tree) (id d x : ℕ) (from : Node) → IsNode tree d from → LeadsTo tree id x → LeadsTo (without tree d) id x ⊎ LeadsTo (without tree d) id from.parent
cut tree id d _ from there at_top = inl at_top
cut tree id d _ from there (by_parent x node is up) =
    elim (cut tree id d node.parent from there up) as (λ _. LeadsTo (without tree d) id x ⊎ LeadsTo (without tree d) id from.parent) [
      | inr last ↦ inr last
      | inl on ↦
          elim (eq_by_cmp nat_cmp x d) as (λ b. eq_by_cmp nat_cmp x d ≡ b → LeadsTo (without tree d) id x ⊎ LeadsTo (without tree d) id from.parent) [
            | true ↦ λ e. inr (subst (λ (n : Node). LeadsTo (without tree d) id n.parent) (same_node tree.nodes x d node from (tied x d e) is there) on)
            | false ↦ λ e. inl (by_parent x node (removed-other tree.nodes d x e ∙ is) on)
          ] refl
    ]

after-visit : (tree : Tree) (id d : ℕ) (from : Node) → IsNode tree d from → LeadsTo tree id from.parent → LeadsTo (without tree d) id from.parent
after-visit tree id d from there up = elim (cut tree id d from.parent from there up) as (λ _. LeadsTo (without tree d) id from.parent) [ inl on ↦ on | inr last ↦ last ]

-- a directory that is gone leads nowhere
stays_there : (nodes : Nodes) (d id n : ℕ) → (d == id) ≡ false → has id (line_up (remove nodes d) n d) ≡ false
stays_there nodes d id zero e = ap (λ b. b || false) e
stays_there nodes d id (suc n) e =
    ap (λ b. b || has id (line_up (remove nodes d) n (next_up (get (remove nodes d) d) d))) e
    ∙ ap (λ o. has id (line_up (remove nodes d) n (next_up o d))) (removed-here nodes d) ∙ stays_there nodes d id n e

-- what is met without a node is met with it
back : (nodes : Nodes) (d id n p : ℕ) → (d == id) ≡ false → has id (line_up (remove nodes d) n p) ≡ true → has id (line_up nodes n p) ≡ true
back nodes d id zero p e h = h
back nodes d id (suc n) p e h =
    elim (p == id) as (λ b. (b || has id (line_up (remove nodes d) n (next_up (get (remove nodes d) p) p))) ≡ true → (b || has id (line_up nodes n (next_up (get nodes p) p))) ≡ true) [
      | true ↦ λ _. refl
      | false ↦ λ later.
          elim (eq_by_cmp nat_cmp p d) as (λ b. eq_by_cmp nat_cmp p d ≡ b → has id (line_up nodes n (next_up (get nodes p) p)) ≡ true) [
            | true ↦ λ tie.
                let here : p ≡ d = tied p d tie in
                let never : has id (line_up (remove nodes d) (suc n) p) ≡ false = ap (λ x. has id (line_up (remove nodes d) (suc n) x)) here ∙ stays_there nodes d id (suc n) e in
                cc
            | false ↦ λ other.
                back nodes d id n (next_up (get nodes p) p) e (sym (ap (λ o. has id (line_up (remove nodes d) n (next_up o p))) (removed-other nodes d p other)) ∙ later)
          ] refl
    ] h

head-met : (nodes : Nodes) (n id : ℕ) → has id (line_up nodes n id) ≡ true
head-met nodes zero id = ap (λ b. b || false) (is_same id)
head-met nodes (suc n) id = ap (λ b. b || has id (line_up nodes n (next_up (get nodes id) id))) (is_same id)

some_is : (nodes : Nodes) (d : ℕ) (node : Node) → get nodes d ≡ Some node → is_some (get nodes d) ≡ true
some_is nodes d node is = ap is_some is

none_there : (nodes : Nodes) (d : ℕ) (node : Node) → len nodes ≡ 0 → get nodes d ≡ Some node → ⊥
none_there nodes d node e is = let gone : get nodes d ≡ None = ap (λ (m : Nodes). get m d) (empty_of_len nodes e) ∙ get-empty nat_cmp d in cc

fewer : (nodes : Nodes) (d n : ℕ) (node : Node) → get nodes d ≡ Some node → len nodes ≤ suc n → len (remove nodes d) ≤ n
fewer nodes d n node is h =
    let less : len (remove nodes d) ≡ len nodes - 1 = len-remove nat_cmp_total nodes d ∙ ap (λ b. cond b (len nodes - 1) (len nodes)) (some_is nodes d node is) in
    omega (arith, less, h)

-- a node on the way is met on the list
pub leads-line : (n : ℕ) (tree : Tree) (id d : ℕ) → len tree.nodes ≤ n → LeadsTo tree id d → has id (line_up tree.nodes n d) ≡ true
leads-line n tree id _ h at_top = head-met tree.nodes n id
leads-line zero tree id _ h (by_parent d node is up) = absurd (none_there tree.nodes d node (omega (arith, h)) is)
leads-line (suc n) tree id _ h (by_parent d node is up) =
    elim (d == id) as (λ b. (d == id) ≡ b → (b || has id (line_up tree.nodes n (next_up (get tree.nodes d) d))) ≡ true) [
      | true ↦ λ _. refl
      | false ↦ λ e.
          ap (λ o. has id (line_up tree.nodes n (next_up o d))) is
          ∙ back tree.nodes d id n node.parent e (leads-line n (without tree d) id node.parent (fewer tree.nodes d n node is h) (after-visit tree id d node is up))
    ] refl

pub dir-is : (k : Kind) → is_dir k ≡ true → k ≡ Dir
dir-is File h = cc
dir-is Dir h = refl
dir-is Link h = cc

both : (a b : Bool) → (a && b) ≡ true → (a ≡ true) × (b ≡ true)
both true b h = (refl, h)
both false b h = cc

pub inside-below : (tree : Tree) (id d : ℕ) (node : Node) → IsTrue (is_inside tree id node d) ↔ ((node.kind ≡ Dir) × LeadsTo tree id d)
inside-below tree id d node = (
  λ h. let parts = both (is_dir node.kind) (has id (line_up tree.nodes (len tree.nodes) d)) h in (dir-is node.kind parts.0, line-leads tree (len tree.nodes) id d parts.1),
  λ below. ap (λ k. is_dir k && has id (line_up tree.nodes (len tree.nodes) d)) below.0 ∙ leads-line (len tree.nodes) tree id d (omega arith) below.1,
)
