-- The two ways between the root and a node, step by step.
use Rattle.std.proofs.Common.{◌≡◌, ◌≢◌, ◌≤◌, ◌<◌, ◌-◌, ℕ, zero, suc, pos, List, [], ◌∷◌, ◌++◌, length, take, refl, sym, ap, ◌∙◌, subst, arith, Bool, true, false, Option, Some, None}
use Rattle.std.specs.Prelude.{get_or}
use Rattle.bfs_base.specs.declared.kind.KeyKind.TheVariants.{Text}
use Rattle.bfs_super.specs.Geometry.{geometry_of}
use Rattle.bfs_super.specs.declared.sup.Super.{Super}
use Rattle.bfs_bitmap.specs.Runs.{Room}
use Rattle.bfs_pages.specs.Maps.{assoc}
use Rattle.bfs_tree.specs.declared.call.Kind.TheVariants.{Dir}
use Rattle.bfs_tree.specs.Trees.{Node, Tree, IsNode, is_dir}
use Rattle.bfs_make.specs.NumberTrees.{IsNumberAt}
use Rattle.bfs_shift.specs.Lists.{Lists}
use Rattle.bfs_look.specs.Climbs.{Climbs}
use Rattle.bfs_look.specs.Ready.{IsReady, HasNodeAt}
use Rattle.bfs_look.proofs.Climbing.{climbs_more, climbs_last, take_one_more, HasRootAbove, root_here, root_above}
use Rattle.bfs_look.proofs.Known.{dir_is, root_within, node_above, row_node, row_child}

-- a walk up from a node has come to this node, past these names, and the root is within so many steps more
pub record IsOnWay (tree : Tree) (id : ℕ) (names : List (List ℕ)) (left at : ℕ) : Type 0 where
  pub climbs : Climbs tree id names at
  pub node : Node
  pub there : IsNode tree at node
  pub within : HasRootAbove tree left at

less_one : (n : ℕ) → n ≢ 0 → suc (n - 1) ≡ n
less_one zero some = absurd (some refl)
less_one (suc n) some = omega arith

pub less_left : (n : ℕ) → n ≢ 0 → n - 1 < n
less_left zero some = absurd (some refl)
less_left (suc n) some = omega arith

pub way_goes_on : (tree : Tree) (id : ℕ) (names now : List (List ℕ)) (left at : ℕ) (n : Node) → IsOnWay tree id names left at → IsNode tree at n → at ≢ tree.root → left ≢ 0 → HasNodeAt tree n.parent → now ≡ names ++ n.name ∷ [] → IsOnWay tree id now (left - 1) n.parent
way_goes_on tree id names now left at n way is apart some above new = record {
  climbs = subst (λ (l : List (List ℕ)). Climbs tree id l n.parent) (sym new) (climbs_more tree id names at n way.climbs is apart);
  node = above.0;
  there = above.1;
  within = root_above tree (left - 1) at n is apart (subst (λ (k : ℕ). HasRootAbove tree k at) (sym (less_one left some)) way.within);
}

-- it doesn't run out
pub way_has_left : (tree : Tree) (id : ℕ) (names : List (List ℕ)) (left at : ℕ) → IsOnWay tree id names left at → at ≢ tree.root → left ≢ 0
way_has_left tree id names left at way apart none = apart (root_here tree at (subst (λ (k : ℕ). HasRootAbove tree k at) none way.within))

module _ (s : Super) (v : Room) (m : ℕ → Option (List ℕ)) (tree : Tree) (lists : Lists) (ready : IsReady (geometry_of s) v m tree lists) where
  pub way_begins : (id : ℕ) (n : Node) (names : List (List ℕ)) → IsNode tree id n → names ≡ [] → IsOnWay tree id names (geometry_of s).blocks id
  way_begins id n names is none = record {
    climbs = subst (λ (l : List (List ℕ)). Climbs tree id l id) (sym none) refl;
    node = n;
    there = is;
    within = root_within s v m tree lists ready id n is;
  }

  -- one step up
  pub way_steps : (id : ℕ) (names now : List (List ℕ)) (left at : ℕ) (way : IsOnWay tree id names left at) → at ≢ tree.root → left ≢ 0 → now ≡ names ++ way.node.name ∷ [] → (next : ℕ) → Some next ≡ Some way.node.parent → IsOnWay tree id now (left - 1) next
  way_steps id names now left at way apart some new next e =
      let same : next ≡ way.node.parent = (let o : Some next ≡ Some way.node.parent = e in cc) in
      subst (λ (k : ℕ). IsOnWay tree id now (left - 1) k) (sym same) (way_goes_on tree id names now left at way.node way way.there apart some (node_above s v m tree lists ready at way.node way.there) new)

  -- ---- down

  -- what a step down finds is a node
  pub down_node : (at : ℕ) (n : Node) (name : List ℕ) (o : Option ℕ) (next : ℕ) → IsNode tree at n → (is_dir n.kind ≡ true → IsNumberAt Text (lists.rows at) name o) → (is_dir n.kind ≡ false → o ≡ None) → o ≡ Some next → HasNodeAt tree next
  down_node at n name o next is row leaf found = by_kind (is_dir n.kind) refl
    where
      by_kind : (t : Bool) → is_dir n.kind ≡ t → HasNodeAt tree next
      by_kind true e = row_node s v m tree lists ready at n is (dir_is n.kind e) name next (subst (λ (r : Option ℕ). IsNumberAt Text (lists.rows at) name r) found (row e))
      by_kind false e = absurd (let bad : None ≡ Some next = sym (leaf e) ∙ found in cc)

  same_number : (a b : ℕ) → Some (pos a) ≡ Some (pos b) → a ≡ b
  same_number a b e = (let o : Some (pos a) ≡ Some (pos b) = e in cc)

  -- the last name of a way leads down to the node below
  pub down_back : (id at : ℕ) (n : Node) (names : List (List ℕ)) (name : List ℕ) (o : Option ℕ) → IsNode tree at n → Climbs tree id (names ++ name ∷ []) at
      → (is_dir n.kind ≡ true → IsNumberAt Text (lists.rows at) name o) → (child : ℕ) × (o ≡ Some child) × Climbs tree id names child
  down_back id at n names name o is way row =
      let last = climbs_last tree id names name at way in
      let up : (x : Node) × IsNode tree last.node.parent x × (x.kind ≡ Dir) = ready.plain.nodes.parents last.child last.node last.there in
      let there : IsNode tree at up.0 = subst (λ (k : ℕ). IsNode tree k up.0) last.parent up.1 in
      let same : n ≡ up.0 = (let two : Some n ≡ Some up.0 = sym is ∙ there in cc) in
      let dir : n.kind ≡ Dir = ap (λ (x : Node). x.kind) same ∙ up.2 in
      let found : assoc Text (lists.rows at) name ≡ Some (pos last.child) = subst (λ (x : List ℕ). assoc Text (lists.rows at) x ≡ Some (pos last.child)) last.named (row_child s v m tree lists ready at n is dir last.child last.node last.there last.apart last.parent) in
      (last.child, by_row last.child found o (row (ap is_dir dir)), last.way)
    where
      by_row : (c : ℕ) → assoc Text (lists.rows at) name ≡ Some (pos c) → (r : Option ℕ) → IsNumberAt Text (lists.rows at) name r → r ≡ Some c
      by_row c found None none = absurd (let bad : None ≡ Some (pos c) = sym none ∙ found in cc)
      by_row c found (Some x) there = ap (λ (k : ℕ). Some k) (same_number x c (sym there ∙ found))

-- the names that are left, and the one looked up
pub taken_last : (names : List (List ℕ)) (left : ℕ) (d : List ℕ) → 0 < left → left ≤ length names → take left names ≡ take (left - 1) names ++ get_or names (left - 1) d ∷ []
taken_last names left d some low =
    let e : suc (left - 1) ≡ left = omega (arith, some) in
    subst (λ (k : ℕ). take k names ≡ take (left - 1) names ++ get_or names (left - 1) d ∷ []) e (take_one_more names (left - 1) d (omega (arith, some, low)))
