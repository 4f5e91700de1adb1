-- A block of an index that is taken: the index directory or an index before has it, or it was claimed at first.
use Rattle.std.proofs.Common.{◌≡◌, ◌+◌, ◌∙◌, inl, inr, ℕ, ℤ, pos, List, [], ◌∷◌, ◌++◌, Bool, true, false, cond, Option, Some, refl, sym, ap, subst, arith}
use Rattle.bfs_base.specs.Lists.{times, Has}
use Rattle.bfs_base.specs.declared.kind.KeyKind.TheVariants.{Text}
use Rattle.bfs_node.specs.Page.{Row}
use Rattle.bfs_pages.specs.Ways.{KeysAscend}
use Rattle.bfs_super.specs.Conditions.{natural}
use Rattle.bfs_values.specs.Rows.{rows_in}
use Rattle.bfs_sound.specs.Volumes.{Volume}
use Rattle.bfs_sound.specs.Inodes.{id_of, is_proper, inode_blocks, content, rows_of, index_directory}
use Rattle.bfs_sound.specs.Listings.{index_rows}
use Rattle.bfs_sound.specs.Owners.{In}
use Rattle.bfs_finding.proofs.Rows.{tree_ascends, ascend_kept}
use Rattle.bfs_finding.specs.Ways.{Way, to_indices, to_index, Arrives, IsShared}
use Rattle.bfs_claims.proofs.Claiming.{times_append}
use Rattle.bfs_inode_walk.specs.Visited.{IsTaken, IsTakenFirst, IsUntaken}
use Rattle.bfs_inode_walk.specs.declared.fault.VisitFault.{VisitFault}
use Rattle.bfs_inode_walk.specs.declared.fault.VisitFault.TheVariants.{Wrong, Taken, Block}
use Rattle.bfs_owner.specs.Owned.{IsPlaced, ArePlaced, IsFound, blocks_at, blocks_of_places}
use Rattle.bfs_owner.specs.declared.place.Place.{Place}
use Rattle.bfs_names_walk.specs.Rows.{as_rows}
use Rattle.bfs_names_walk.specs.declared.row.NameRow.{NameRow}
use Rattle.bfs_node_walk.specs.Listed.{proper, NamesBlock}
use Rattle.bfs_attrs_walk.specs.Attributed.{IsTakenIn, IsTakenBy}
use Rattle.bfs_attrs_walk.proofs.Leading.{of_all, in_behind, in_front}
use Rattle.bfs_attrs_walk.proofs.Sharing.{proper_parts, before_differ, value_is}
use Rattle.bfs_index_walk.specs.Indices.{IsIndexWay, AreRowsOf, places_by_rows}
use Rattle.bfs_index_walk.proofs.Placing.{at_member, all_placed}

abbrev by_row : Way → Bool
by_row (to_index name) = true
by_row _ = false

abbrev name_of : Way → List ℕ
name_of (to_index name) = name
name_of _ = []

-- a row that a list has, but `.` and `..`
in_proper : (rows : List NameRow) (row : NameRow) → In row rows → is_proper row.name ≡ true → In (row.name, row.value) (proper (as_rows rows))
in_proper [] row i p = absurd i
in_proper (x ∷ xs) row (inl e) p =
    let q : is_proper x.name ≡ true = ap (λ (y : NameRow). is_proper y.name) (sym e) ∙ p in
    subst (λ (l : List Row). In (row.name, row.value) l) (sym (proper_parts [] x xs q)) (inl (ap (λ (y : NameRow). (y.name, y.value)) e))
in_proper (x ∷ xs) row (inr i) p = past (is_proper x.name) refl (in_proper xs row i p)
  where
    past : (c : Bool) → is_proper x.name ≡ c → In (row.name, row.value) (proper (as_rows xs)) → In (row.name, row.value) (proper (as_rows (x ∷ xs)))
    past true e j = subst (λ (l : List Row). In (row.name, row.value) l) (sym (proper_parts [] x xs e)) (inr j)
    past false e j = subst (λ (c : Bool). In (row.name, row.value) (cond c ((x.name, x.value) ∷ proper (as_rows xs)) (proper (as_rows xs)))) (sym e) j

module _ (v : Volume) (d : ℕ) (rows : List NameRow) (are : AreRowsOf v d rows) where
  at_index : (r : Row) → In r (proper (as_rows rows)) → In r (index_rows v)
  at_index r i = subst (λ (o : Option ℕ). In r (rows_of v o)) (sym are.there) (subst (λ (l : List Row). In r (proper l)) are.names.are i)

  -- a way leads to the index that a row names
  arrives : (r : Row) → In r (proper (as_rows rows)) → Arrives v (to_index r.0) (id_of r)
  arrives r i = subst (λ (z : ℤ). In (r.0, z) (index_rows v)) (value_is v.geometry.blocks r (of_all (NamesBlock v.geometry.blocks) (proper (as_rows rows)) r are.inside i)) (at_index r i)

  pub row_taken : (first : List ℕ) (fault : VisitFault) → IsTakenBy v first rows fault → IsTakenFirst IsIndexWay v first fault
  row_taken first (Wrong finding) t = tt
  row_taken first (Taken block owner) t =
      let row : NameRow = t.0 in
      record {
        way = to_index row.name;
        kind = tt;
        arrives = subst (λ (k : ℕ). In (row.name, pos k) (index_rows v)) (sym t.2.1) (arrives (row.name, row.value) (in_proper rows row t.1 t.2.0));
        here = t.2.2;
        claimed = t.2.3;
      }
  row_taken first (Block fault) t = tt

pub directory_taken : (v : Volume) (first : List ℕ) (d : ℕ) → index_directory v ≡ Some d → (fault : VisitFault) → IsTaken first (inode_blocks v d) d fault → IsTakenFirst IsIndexWay v first fault
directory_taken v first d is (Wrong finding) t = tt
directory_taken v first d is (Taken block owner) t = record {
  way = to_indices;
  kind = tt;
  arrives = is ∙ ap Some (sym t.0);
  here = subst (λ (k : ℕ). Has (inode_blocks v k) block) (sym t.0) t.1;
  claimed = t.2;
}
directory_taken v first d is (Block fault) t = tt

-- rows before a row
module _ (v : Volume) (d : ℕ) (front : List NameRow) (row : NameRow) (back : List NameRow) (are : AreRowsOf v d (front ++ (row ∷ back))) where
  abbrev all : List Row
  all = proper (as_rows (front ++ (row ∷ back)))

  -- the index directory and the indices that they name have their places
  module _ (p : is_proper row.name ≡ true) where
    split : all ≡ proper (as_rows front) ++ ((row.name, row.value) ∷ proper (as_rows back))
    split = proper_parts front row back p

    front_in : (r : Row) → In r (proper (as_rows front)) → In r all
    front_in r i = subst (In r) (sym split) (in_front r (proper (as_rows front)) ((row.name, row.value) ∷ proper (as_rows back)) i)

    row_in : In (row.name, row.value) all
    row_in = subst (λ (l : List Row). In (row.name, row.value) l) (sym split) (in_behind (row.name, row.value) (proper (as_rows front)) ((row.name, row.value) ∷ proper (as_rows back)) (inl refl))

    ascend : KeysAscend Text (proper (as_rows front) ++ ((row.name, row.value) ∷ proper (as_rows back)))
    ascend = subst (KeysAscend Text) (sym (ap proper are.names.are) ∙ split) (ascend_kept Text (λ (r : Row). is_proper r.0) (rows_in Text (content v d)) (tree_ascends Text (content v d) are.names.tree))

    pub are_placed : ArePlaced v (places_by_rows d front)
    are_placed = ((to_indices, refl, are.there), all_placed id_of (IsPlaced v) (proper (as_rows front)) (λ r i. (to_index r.0, refl, arrives v d (front ++ (row ∷ back)) are r (front_in r i))))

    module _ (block owner : ℕ) (is : owner ≡ natural row.value) (has : Has (inode_blocks v owner) block) where
      here : Arrives v (to_index row.name) owner
      here = subst (λ (k : ℕ). In (row.name, pos k) (index_rows v)) (sym is) (arrives v d (front ++ (row ∷ back)) are (row.name, row.value) row_in)

      by_directory : Has (inode_blocks v d) block → IsShared v block d owner
      by_directory h = record {
        one = to_indices;
        other = to_index row.name;
        there = are.there;
        here = here;
        twice = inl (λ e. let bad : false ≡ true = ap by_row e in cc, h, has);
      }

      by_front : (r : Row) → In r (proper (as_rows front)) → Has (inode_blocks v (id_of r)) block → IsShared v block (id_of r) owner
      by_front r i h = record {
        one = to_index r.0;
        other = to_index row.name;
        there = arrives v d (front ++ (row ∷ back)) are r (front_in r i);
        here = here;
        twice = inl (λ e. before_differ (proper (as_rows front)) (row.name, row.value) (proper (as_rows back)) ascend r i (ap name_of e), h, has);
      }

      pub is_shared : (place : Place) → IsFound v (places_by_rows d front) block (Some place) → IsShared v block place.id owner
      is_shared place (inl e, h) = subst (λ (q : Place). Has (blocks_at v q) block → IsShared v block q.id owner) (sym e) by_directory h
      is_shared place (inr i, h) =
          let r = at_member id_of (proper (as_rows front)) place i in
          subst (λ (q : Place). Has (blocks_at v q) block → IsShared v block q.id owner) (sym r.2) (by_front r.0 r.1) h

-- where no block is said to be taken, what is said of one holds
pub untaken_in : (v : Volume) (before : List ℕ) (row : NameRow) (fault : VisitFault) → IsUntaken fault → IsTakenIn v before row fault
untaken_in v before row (Wrong finding) u = tt
untaken_in v before row (Taken block owner) u = absurd u
untaken_in v before row (Block fault) u = tt

-- none of some places has it
pub not_there : (v : Volume) (before : List ℕ) (places : List Place) (block : ℕ) → times block (blocks_of_places v places) ≡ 0 → Has (before ++ blocks_of_places v places) block → Has before block
not_there v before places block none has =
    let all : times block (before ++ blocks_of_places v places) ≡ times block before + times block (blocks_of_places v places) = times_append block before (blocks_of_places v places) in
    omega (arith, none, has, all)
