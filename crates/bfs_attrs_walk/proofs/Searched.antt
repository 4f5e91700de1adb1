-- Owners of a block that are found among some and then among others, and those of a whole pass.
use Rattle.std.proofs.Common.{◌≡◌, ◌+◌, ◌∙◌, ◌⊎◌, inl, inr, ℕ, List, [], ◌∷◌, ◌++◌, Option, Some, None, refl, sym, ap, subst, arith, append_assoc}
use Rattle.std.specs.List.{flat_map}
use Rattle.bfs_base.specs.Lists.{times}
use Rattle.bfs_sound.specs.Volumes.{Volume}
use Rattle.bfs_sound.specs.Attributes.{attribute_directory, HasDirectory}
use Rattle.bfs_sound.specs.Nodes.{HasNode}
use Rattle.bfs_sound.specs.Owners.{In, node_blocks}
use Rattle.bfs_finding.specs.Ways.{Way, to_system, to_root, to_child, to_directory, to_attribute, to_indices, to_index}
use Rattle.bfs_claims.specs.Claims.{Claimed}
use Rattle.bfs_claims.proofs.Claiming.{times_append}
use Rattle.bfs_tour.specs.Tours.{Visit, IsTour}
use Rattle.bfs_nodes_walk.specs.declared.lead.NodeLead.{NodeLead}
use Rattle.bfs_nodes_walk.specs.Walks.{IsNodeWay, blocks_of_visits}
use Rattle.bfs_attrs_walk.specs.Passes.{id_of, attribute_blocks, blocks_of_leads, HaveThose, HaveDirectories, IsWhole, IsAttributeWay, IsWayFrom, IsWayFromAny, IsOwnerBy, IsOwnerFound}
use Rattle.bfs_attrs_walk.proofs.Nodes.{visit_by, all_from}
use Rattle.bfs_attrs_walk.proofs.Passing.{counted}

module _ (v : Volume) (block : ℕ) where
  pub widen : (A B : Way → Type 0) → ((way : Way) → A way → B way) → (owner : ℕ) → IsOwnerBy A v block owner → IsOwnerBy B v block owner
  widen A B f owner o = (o.0, f o.0 o.1, o.2, o.3)

  -- none of the first blocks is it, and it was looked for among the others
  pub found_behind : (A B : Way → Type 0) → ((way : Way) → A way → B way) → (xs ys : List ℕ) (o : Option ℕ) → times block xs ≡ 0 → IsOwnerFound A v ys block o → IsOwnerFound B v (xs ++ ys) block o
  found_behind A B f xs ys None none n =
      let sum : times block (xs ++ ys) ≡ times block xs + times block ys = times_append block xs ys in
      let e : times block xs + times block ys ≡ 0 = omega (arith, none, n) in sum ∙ e
  found_behind A B f xs ys (Some owner) none o = widen A B f owner o

-- ways to attributes
pub from_attribute : (n : ℕ) (way : Way) → IsWayFrom n way → IsAttributeWay way
from_attribute n to_system f = absurd f
from_attribute n to_root f = absurd f
from_attribute n (to_child d name) f = absurd f
from_attribute n (to_directory id) f = tt
from_attribute n (to_attribute id name) f = tt
from_attribute n to_indices f = absurd f
from_attribute n (to_index name) f = absurd f

abbrev pub Either : ℕ → List NodeLead → Way → Type 0
Either root leads way = IsNodeWay way ⊎ IsWayFromAny root leads way

abbrev pub EitherKind : Way → Type 0
EitherKind way = IsNodeWay way ⊎ IsAttributeWay way

kind_of : (root : ℕ) (leads : List NodeLead) (way : Way) → Either root leads way → EitherKind way
kind_of root leads way (inl node) = inl node
kind_of root leads way (inr (inl r)) = inr (from_attribute root way r)
kind_of root leads way (inr (inr s)) = inr (from_attribute (id_of s.0) way s.2)

-- nodes with attributes that are right have directories that are
pub directories : (v : Volume) (leads : List NodeLead) → HaveThose v leads → HaveDirectories v leads
directories v [] h = tt
directories v (l ∷ ls) h = (h.0.directory, directories v ls h.1)

module _ (v : Volume) (first : List ℕ) (c : Claimed) (leads : List NodeLead) (w : IsWhole v first c leads) (root : ℕ) (is : root ≡ v.geometry.root) where
  has_node : (es : List Visit) → IsTour v w.top es → (e : Visit) → In e (w.top ∷ es) → HasNode v e.0 e.1
  has_node [] t e (inl same) = subst (λ (x : Visit). HasNode v x.0 x.1) (sym same) t.node
  has_node [] t e (inr i) = absurd i
  has_node (x ∷ xs) t e (inl same) = has_node xs t.1 e (inl same)
  has_node (x ∷ xs) t e (inr (inl same)) = subst (λ (y : Visit). HasNode v y.0 y.1) (sym same) t.0.node
  has_node (x ∷ xs) t e (inr (inr i)) = has_node xs t.1 e (inr i)

  has_directory : (e : Visit) → In e (w.top ∷ w.visits) → HasDirectory v e.0 (attribute_directory v e.0)
  has_directory e i = (has_node w.visits w.touring.tour e i).directory

  pub root_directory : HasDirectory v root (attribute_directory v root)
  root_directory = subst (λ (n : ℕ). HasDirectory v n (attribute_directory v n)) (w.ways.root.0 ∙ sym is) (has_directory w.top (inl refl))

  pub row_directories : HaveDirectories v leads
  row_directories =
      all_from (λ (l : NodeLead). HasDirectory v (id_of l) (attribute_directory v (id_of l))) leads
      (λ l i.
      let m = visit_by v w.top w.visits w.ways leads w.followed l i in
      subst (λ (n : ℕ). HasDirectory v n (attribute_directory v n)) (sym m.2) (has_directory m.0 (inr m.1)))

  pub whole_found : (block : ℕ) (o : Option ℕ) → IsOwnerFound (Either root leads) v (blocks_of_visits v (w.top ∷ w.visits) ++ (attribute_blocks v root ++ blocks_of_leads v leads)) block o
      → IsOwnerFound EitherKind v (flat_map (node_blocks v) (w.top ∷ w.visits)) block o
  whole_found block None none =
      counted v (times block) (times_append block) [] w.top w.visits leads root (w.ways.root.0 ∙ sym is) w.followed
      ∙ ap (times block) (append_assoc (blocks_of_visits v (w.top ∷ w.visits)) (attribute_blocks v root) (blocks_of_leads v leads))
      ∙ none
  whole_found block (Some owner) o = widen v block (Either root leads) EitherKind (kind_of root leads) owner o
