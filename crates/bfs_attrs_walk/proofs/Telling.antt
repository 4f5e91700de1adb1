-- Attributes have a block that is taken: another inode has it, or it was claimed at first.
use Rattle.std.proofs.Common.{◌≡◌, ◌≤◌, ◌+◌, ◌∙◌, inl, inr, ℕ, ℤ, pos, List, [], ◌∷◌, ◌++◌, Bool, true, false, cond, Option, Some, None, refl, sym, ap, subst, arith}
use Rattle.bfs_base.specs.Lists.{times, Has}
use Rattle.bfs_node.specs.Page.{Row}
use Rattle.bfs_sound.specs.Volumes.{Volume}
use Rattle.bfs_sound.specs.Attributes.{attribute_directory}
use Rattle.bfs_sound.specs.Inodes.{is_proper, inode_blocks, rows_of}
use Rattle.bfs_sound.specs.Owners.{In}
use Rattle.bfs_finding.proofs.Rows.{all_in}
use Rattle.bfs_finding.specs.Ways.{Way, to_system, to_root, to_child, to_directory, to_attribute, to_indices, to_index, IsReached, IsShared}
use Rattle.bfs_claims.specs.Claims.{Claimed}
use Rattle.bfs_claims.proofs.Claiming.{times_append}
use Rattle.bfs_node_check.specs.declared.role.Role.{Role}
use Rattle.bfs_node_check.specs.Roles.{is_node}
use Rattle.bfs_inode_walk.specs.Visited.{IsClaimedFirst}
use Rattle.bfs_inode_walk.specs.declared.fault.VisitFault.TheVariants.{Taken}
use Rattle.bfs_names_walk.specs.declared.row.NameRow.{NameRow}
use Rattle.bfs_names_walk.specs.Rows.{as_rows}
use Rattle.bfs_node_walk.specs.Listed.{proper, NamesBlock}
use Rattle.bfs_attr_walk.specs.Attributed.{IsTakenAt}
use Rattle.bfs_attr_walk.specs.Attributed as one_node
use Rattle.bfs_attr_walk.proofs.Differing.{value_is}
use Rattle.bfs_nodes_walk.specs.declared.lead.NodeLead.{NodeLead}
use Rattle.bfs_nodes_walk.specs.Walks.{IsNodeWay, IsWalked}
use Rattle.bfs_nodes_walk.proofs.Leading.{in_behind, in_front}
use Rattle.bfs_attrs_walk.specs.Passes.{id_of, attribute_blocks, AreReached, IsTakenIn, IsAttributeWay, IsWayFrom, IsOwnerBy}
use Rattle.bfs_attrs_walk.proofs.Nodes.{all_from}
use Rattle.bfs_attrs_walk.proofs.Searched.{Either, from_attribute}
use Rattle.bfs_attrs_walk.proofs.Passing.{row_is_reached}
use Rattle.bfs_attrs_walk.proofs.Sharing.{root_differs, rows_differ}

-- a row that isn't passed over is one of those that aren't
in_proper : (rows : List NameRow) (row : NameRow) → In row rows → is_proper row.name ≡ true → In (row.name, row.value) (proper (as_rows rows))
in_proper [] row i p = absurd i
in_proper (r ∷ rs) row (inl same) p =
    let e : is_proper r.name ≡ true = ap (λ (x : NameRow). is_proper x.name) (sym same) ∙ p in
    subst (λ (c : Bool). In (row.name, row.value) (cond c ((r.name, r.value) ∷ proper (as_rows rs)) (proper (as_rows rs)))) (sym e) (inl (ap (λ (x : NameRow). (x.name, x.value)) same))
in_proper (r ∷ rs) row (inr i) p = by_test (is_proper r.name) (in_proper rs row i p)
  where
    by_test : (c : Bool) → In (row.name, row.value) (proper (as_rows rs)) → In (row.name, row.value) (cond c ((r.name, r.value) ∷ proper (as_rows rs)) (proper (as_rows rs)))
    by_test true j = inr j
    by_test false j = j

-- ---- ways of one node are not those of another

from_same : (n id : ℕ) (way : Way) → IsWayFrom n way → IsWayFrom id way → n ≡ id
from_same n id to_system a b = absurd a
from_same n id to_root a b = absurd a
from_same n id (to_child d name) a b = absurd a
from_same n id (to_directory k) a b = sym a ∙ b
from_same n id (to_attribute k name) a b = sym a ∙ b
from_same n id to_indices a b = absurd a
from_same n id (to_index name) a b = absurd a

abbrev is_node_role : Option Role → Bool
is_node_role None = false
is_node_role (Some role) = is_node role

node_not : (id : ℕ) (way : Way) → IsNodeWay way → IsWayFrom id way → ⊥
node_not id to_system n f = f
node_not id to_root n f = f
node_not id (to_child d name) n f = f
node_not id (to_directory k) n f = let bad : false ≡ true = ap is_node_role n.1 ∙ n.2 in cc
node_not id (to_attribute k name) n f = let bad : false ≡ true = ap is_node_role n.1 ∙ n.2 in cc
node_not id to_indices n f = f
node_not id (to_index name) n f = f

module _ (v : Volume) (block : ℕ) where
  shared_by : (A : Way → Type 0) (id first owner : ℕ) → ((way : Way) → A way → IsWayFrom id way → ⊥) → IsOwnerBy A v block first → IsOwnerBy (IsWayFrom id) v block owner → IsShared v block first owner
  shared_by A id first owner f a b = record {
    one = a.0;
    other = b.0;
    there = a.2;
    here = b.2;
    twice = inl (λ e. f b.0 (subst A e a.1) b.1, a.3, b.3);
  }

  -- the way to the attribute that has the block, which was claimed before
  pub way_of_taken : (before : List ℕ) (id owner : ℕ) → IsReached v id → IsTakenIn v before (attribute_directory v id) (Taken block owner) → IsOwnerBy (IsWayFrom id) v block owner × Has before block
  way_of_taken before id owner reached t = by_side t.0 t.1 t.2
    where
      by_row : (d : ℕ) (rows : List NameRow) → proper (as_rows rows) ≡ rows_of v (attribute_directory v id) → ((r : Row) → In r (proper (as_rows rows)) → NamesBlock v.geometry.blocks r) → (row : NameRow) → In row rows → one_node.IsTakenIn v before row (Taken block owner) → IsOwnerBy (IsWayFrom id) v block owner × Has before block
      by_row d rows same inside row i h =
          let j : In (row.name, row.value) (proper (as_rows rows)) = in_proper rows row i h.0 in
          let value : row.value ≡ pos owner = value_is v.geometry.blocks (row.name, row.value) (inside (row.name, row.value) j) ∙ ap pos (sym h.1) in
          let there : In (row.name, pos owner) (rows_of v (attribute_directory v id)) = subst (λ (z : ℤ). In (row.name, z) (rows_of v (attribute_directory v id))) value (subst (λ (l : List Row). In (row.name, row.value) l) same j) in
          ((to_attribute id row.name, refl, (reached, there), h.2), h.3)

      by_side : (d : ℕ) → attribute_directory v id ≡ Some d → IsTakenAt v before d (Taken block owner) → IsOwnerBy (IsWayFrom id) v block owner × Has before block
      by_side d is (inl own) = ((to_directory id, refl, (reached, is ∙ ap Some (sym own.0)), subst (λ (k : ℕ). Has (inode_blocks v k) block) (sym own.0) own.1), own.2)
      by_side d is (inr r) =
          let last : one_node.IsTakenBy v before r.0 (Taken block owner) = r.3 in
          by_row d r.0 (ap proper r.1.are ∙ ap (rows_of v) (sym is)) (λ x i. all_in (NamesBlock v.geometry.blocks) (proper (as_rows r.0)) x r.2 i) last.0 last.1 last.2

  -- what was claimed at first
  claimed_first : (xs : List ℕ) (id owner : ℕ) → IsOwnerBy (IsWayFrom id) v block owner → Has xs block → IsClaimedFirst IsAttributeWay v xs block owner
  claimed_first xs id owner o h = record { way = o.0; kind = from_attribute id o.0 o.1; arrives = o.2; here = o.3; claimed = h }

  -- ---- the attributes of the root

  pub root_shared : (before : List ℕ) (root first owner : ℕ) → IsReached v root → IsOwnerBy IsNodeWay v block first → IsTakenIn v before (attribute_directory v root) (Taken block owner) → IsShared v block first owner
  root_shared before root first owner reached o t = shared_by IsNodeWay root first owner (node_not root) o (way_of_taken before root owner reached t).0

  pub root_first : (xs nodes : List ℕ) (root owner : ℕ) → IsReached v root → times block nodes ≡ 0 → IsTakenIn v (xs ++ nodes) (attribute_directory v root) (Taken block owner) → IsClaimedFirst IsAttributeWay v xs block owner
  root_first xs nodes root owner reached none t =
      let w = way_of_taken (xs ++ nodes) root owner reached t in
      let there : 1 ≤ times block (xs ++ nodes) = w.1 in
      let sum : times block (xs ++ nodes) ≡ times block xs + times block nodes = times_append block xs nodes in
      claimed_first xs root owner w.0 (omega (arith, there, sum, none))

  -- ---- the attributes of what a row names

  module _ (xs : List ℕ) (c : Claimed) (leads : List NodeLead) (w : IsWalked v xs c leads) (root : ℕ) (is : root ≡ v.geometry.root) (before : List NodeLead) (l : NodeLead) (back : List NodeLead) (parts : leads ≡ before ++ (l ∷ back)) where
    l_there : In l leads
    l_there = subst (In l) (sym parts) (in_behind l before (l ∷ back) (inl refl))

    l_reached : IsReached v (id_of l)
    l_reached = row_is_reached v xs c leads w root is l l_there

    pub before_reached : AreReached v before
    before_reached = all_from (λ (k : NodeLead). IsReached v (id_of k)) before (λ k i. row_is_reached v xs c leads w root is k (subst (In k) (sym parts) (in_front k before (l ∷ back) i)))

    other_way : (way : Way) → Either root before way → IsWayFrom (id_of l) way → ⊥
    other_way way (inl node) f = node_not (id_of l) way node f
    other_way way (inr (inl r)) f = root_differs v xs c leads w root is l l_there (from_same root (id_of l) way r f)
    other_way way (inr (inr s)) f = rows_differ v xs c leads w root is before l back parts s.0 s.1 (from_same (id_of s.0) (id_of l) way s.2 f)

    pub row_shared : (claimed : List ℕ) (first owner : ℕ) → IsOwnerBy (Either root before) v block first → IsTakenIn v claimed (attribute_directory v (id_of l)) (Taken block owner) → IsShared v block first owner
    row_shared claimed first owner o t = shared_by (Either root before) (id_of l) first owner other_way o (way_of_taken claimed (id_of l) owner l_reached t).0

    pub row_first : (nodes others : List ℕ) (owner : ℕ) → times block (nodes ++ (attribute_blocks v root ++ others)) ≡ 0 → IsTakenIn v (((xs ++ nodes) ++ attribute_blocks v root) ++ others) (attribute_directory v (id_of l)) (Taken block owner)
        → IsClaimedFirst IsAttributeWay v xs block owner
    row_first nodes others owner none t =
        let r = way_of_taken (((xs ++ nodes) ++ attribute_blocks v root) ++ others) (id_of l) owner l_reached t in
        let there : 1 ≤ times block (((xs ++ nodes) ++ attribute_blocks v root) ++ others) = r.1 in
        let one = times_append block ((xs ++ nodes) ++ attribute_blocks v root) others in
        let two = times_append block (xs ++ nodes) (attribute_blocks v root) in
        let three = times_append block xs nodes in
        let four = times_append block nodes (attribute_blocks v root ++ others) in
        let five = times_append block (attribute_blocks v root) others in
        claimed_first xs (id_of l) owner r.0 (omega (arith, there, one, two, three, four, five, none))
