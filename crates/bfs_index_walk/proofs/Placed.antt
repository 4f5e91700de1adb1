-- Where the index directory is, by the superblock, and what it makes with its indices.
use Rattle.std.proofs.Common.{◌≡◌, ◌≢◌, ◌<◌, ◌+◌, ◌*◌, ◌∙◌, ◌⊎◌, ◌==◌, inl, inr, ℕ, ℤ, pos, List, [], ◌++◌, Option, Some, None, Bool, true, false, cond, refl, sym, ap, subst, arith, append-nil}
use Rattle.std.specs.List.{flat_map}
use Rattle.bfs_base.specs.declared.kind.KeyKind.TheVariants.{Text}
use Rattle.bfs_node.specs.Page.{Row}
use Rattle.bfs_super.specs.Conditions.{IsValid, IsZeroRun, IsInodeRun, natural, group_blocks, block_of_run}
use Rattle.bfs_super.specs.declared.sup.Super.{Super}
use Rattle.bfs_sound.specs.Volumes.{Volume}
use Rattle.bfs_sound.specs.Inodes.{content, inode_blocks, inodes_of, rows_of, index_directory}
use Rattle.bfs_sound.specs.Listings.{IsIndex, HasIndexDirectory, index_rows}
use Rattle.bfs_sound.specs.Owners.{index_blocks}
use Rattle.bfs_sound.specs.Whole.{volume_of}
use Rattle.bfs_claims.specs.Claims.{Claimed, AreClaimed}
use Rattle.bfs_names_walk.specs.Rows.{as_rows, AreNames}
use Rattle.bfs_names_walk.specs.declared.row.NameRow.{NameRow}
use Rattle.bfs_node_walk.specs.Listed.{proper}
use Rattle.bfs_attrs_walk.specs.Attributed.{row_blocks}
use Rattle.bfs_attrs_walk.proofs.Storing.{claimed_stored}
use Rattle.bfs_index_walk.specs.Indices.{AreFound, AreWalked}
use Rattle.bfs_index_walk.specs.declared.found.FoundIndex.{FoundIndex}
use Rattle.bfs_index_walk.proofs.Rowing.{kinds_found}

eq_yes : (a b : ℕ) → (a == b) ≡ true → a ≡ b
eq_yes a b e = grind (arith, e)

module _ (s : Super) (bs : ℕ → List ℕ) (d : ℕ) (is : d ≡ block_of_run s s.indices) where
  abbrev here : ℕ
  here = block_of_run s s.indices

  pub is_there : d ≢ 0 → index_directory (volume_of s bs) ≡ Some d
  is_there some = by_test (here == 0) refl
    where
      by_test : (c : Bool) → (here == 0) ≡ c → cond c None (Some here) ≡ Some d
      by_test true e = absurd (some (is ∙ eq_yes here 0 e))
      by_test false e = ap Some (sym is)

  pub is_none : d ≡ 0 → index_directory (volume_of s bs) ≡ None
  is_none none = ap (λ (k : ℕ). cond (k == 0) None (Some k)) (sym is ∙ none)

none_times : (n : ℕ) → 0 * n + 0 ≡ 0
none_times n = omega arith

module _ (s : Super) where
  zero_block : IsZeroRun s.indices → block_of_run s s.indices ≡ 0
  zero_block z = ap (λ (g : ℤ). natural g * group_blocks s + s.indices.start) z.0 ∙ ap (λ (n : ℕ). natural (pos 0) * group_blocks s + n) z.1 ∙ none_times (group_blocks s)

  pub is_inside : (d : ℕ) → IsValid s → d ≡ block_of_run s s.indices → d ≢ 0 → d < natural s.num_blocks
  is_inside d valid is some = by_side valid.indices
    where
      by_side : IsZeroRun s.indices ⊎ (IsInodeRun s s.indices × (block_of_run s s.indices ≡ block_of_run s s.root_dir → ⊥)) → d < natural s.num_blocks
      by_side (inl z) = absurd (some (is ∙ zero_block z))
      by_side (inr h) = subst (λ (k : ℕ). k < natural s.num_blocks) (sym is) h.0.3

pub rows_there : (v : Volume) (d : ℕ) → index_directory v ≡ Some d → (rows : List NameRow) → AreNames (content v d) rows → (all : List NameRow) → all ≡ rows → proper (as_rows all) ≡ index_rows v
rows_there v d is rows names all same = ap (λ (l : List NameRow). proper (as_rows l)) same ∙ ap proper names.are ∙ ap (rows_of v) (sym is)

module _ (v : Volume) (first : List ℕ) (c : Claimed) where
  -- where there is no index directory
  pub no_blocks : index_directory v ≡ None → index_blocks v ≡ []
  unfolding index_blocks
  no_blocks none = ap (λ (o : Option ℕ). flat_map (inode_blocks v) (inodes_of v o)) none

  pub walked_none : index_directory v ≡ None → AreClaimed c first → (found : List FoundIndex) → found ≡ [] → AreWalked v first c found
  walked_none none a found empty =
      let rows : [] ≡ index_rows v = ap (rows_of v) (sym none) in
      let all : AreFound v (index_rows v) [] = record { are = rows; indices = tt } in
      subst (AreWalked v first c) (sym empty)
      (record {
        directory = subst (HasIndexDirectory v) (sym none) tt;
        indices = all;
        kinds = kinds_found v (index_rows v) [] all;
        claimed = subst (AreClaimed c) (sym (ap (λ (l : List ℕ). first ++ l) (no_blocks none) ∙ append-nil first)) a;
      })

  module _ (d : ℕ) (is : index_directory v ≡ Some d) (rows : List NameRow) (names : AreNames (content v d) rows) where
    claimed_there : AreClaimed c ((first ++ inode_blocks v d) ++ row_blocks v rows) → AreClaimed c (first ++ index_blocks v)
    unfolding index_blocks
    claimed_there a = subst (λ (o : Option ℕ). AreClaimed c (first ++ flat_map (inode_blocks v) (inodes_of v o))) (sym is) (claimed_stored v d rows names c first a)

    pub walked_there : (all : List NameRow) (found : List FoundIndex) → all ≡ rows → IsIndex v d Text → AreFound v (proper (as_rows all)) found → AreClaimed c ((first ++ inode_blocks v d) ++ row_blocks v all) → AreWalked v first c found
    walked_there all found same index were a =
        let there : AreFound v (index_rows v) found = subst (λ (l : List Row). AreFound v l found) (rows_there v d is rows names all same) were in
        record {
          directory = subst (HasIndexDirectory v) (sym is) index;
          indices = there;
          kinds = kinds_found v (index_rows v) found there;
          claimed = claimed_there (subst (λ (l : List NameRow). AreClaimed c ((first ++ inode_blocks v d) ++ row_blocks v l)) same a);
        }
