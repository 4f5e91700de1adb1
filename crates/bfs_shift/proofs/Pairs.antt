-- An index has other pairs since, and the other indices stay.
use Rattle.std.proofs.Common.{◌≡◌, ◌≢◌, ◌≤◌, ◌+◌, ℕ, ℤ, List, [], ◌++◌, refl, sym, ap, ◌∙◌, subst, arith, Bool, true, false, cond, Option, Some, None}
use Rattle.std.specs.List.{flat_map}
use Rattle.std.specs.Str.{bytes_eq}
use Rattle.std.proofs.lemmas.Slice.Eq.{bytes_eq-Decides}
use Rattle.bfs_base.specs.Lists.{times, Agree}
use Rattle.bfs_base.specs.declared.kind.KeyKind.{KeyKind}
use Rattle.bfs_base.specs.declared.kind.KeyKind.TheVariants.{Text}
use Rattle.bfs_super.specs.Conditions.{natural}
use Rattle.bfs_node.specs.Page.{Row}
use Rattle.bfs_pages.specs.Maps.{assoc}
use Rattle.bfs_stream.specs.Places.{HasStream}
use Rattle.bfs_stream.proofs.Doubles.{times-append}
use Rattle.bfs_maps.specs.Moves.{KeepsInode}
use Rattle.bfs_tree.specs.Trees.{Tree}
use Rattle.bfs_values.specs.Rows.{rows_in}
use Rattle.bfs_values.specs.Reached.{IsWholeTree, AreWritten}
use Rattle.bfs_sound.specs.Volumes.{Volume, sizes, bitmap_blocks}
use Rattle.bfs_sound.specs.Inodes.{inode_blocks, content, proper_rows, id_of, rows_of, inodes_of, index_directory}
use Rattle.bfs_sound.specs.Listings.{HasIndexDirectory}
use Rattle.bfs_sound.specs.Owners.{index_blocks, reach}
use Rattle.bfs_sound.specs.Laws.{with_blocks}
use Rattle.bfs_sound.proofs.Counts.{In}
use Rattle.bfs_shift.specs.Lists.{Lists, with_pairs}
use Rattle.bfs_shift.specs.Stocked.{IsListing, Stocked, Shifts}
use Rattle.bfs_shift.specs.Inodes.{HasBytes}
use Rattle.bfs_shift.proofs.Moving.{all_parts}
use Rattle.bfs_shift.proofs.Widens.{in_any_order}
use Rattle.bfs_shift.proofs.Kept.{listing_stays}
use Rattle.bfs_shift.proofs.Rewritten.{keeps_place, inode_is, bit_kept}
use Rattle.bfs_shift.proofs.Indices.{indices_changed}
use Rattle.bfs_shift.proofs.OneIndex.{found_row, other_row, directory_rows_stay, all_shift, directory_stays}

module _ (v : Volume) (tree : Tree) (lists : Lists) (loose : List ℕ) (new : ℕ → List ℕ) (name : List ℕ) (value : ℤ) (pairs : List (List ℕ × ℕ)) (stocked : Stocked v tree lists loose)
    (row_is : assoc Text lists.names name ≡ Some value) (shifts : Shifts v new (inode_blocks v (natural value)) (inode_blocks (with_blocks v new) (natural value)))
    (listing : IsListing (with_blocks v new) (natural value) (lists.kinds name) pairs) where
  abbrev w : Volume
  w = with_blocks v new

  abbrev all_in : Volume → Option ℕ → List ℕ
  all_in u o = flat_map (inode_blocks u) (inodes_of u o)

  -- what is kept, by the index directory
  record Kept (o : Option ℕ) : Type 0 where
    shift : Shifts v new (all_in v o) (all_in w o)
    directory : HasIndexDirectory w o
    rows : rows_of w o ≡ rows_of v o
    others : (other : List ℕ) (number : ℤ) → other ≢ name → assoc Text lists.names other ≡ Some number → Agree v.blocks new (inode_blocks v (natural number))

  kept : (o : Option ℕ) → rows_of v o ≡ lists.names → HasIndexDirectory v o → ((k : ℕ) → times k (all_in v o) + times k (bitmap_blocks v.geometry) ≤ times k (reach v tree ++ loose)) → Kept o
  kept None are h few = absurd (let e : None ≡ Some value = subst (λ (rows : List Row). assoc Text rows name ≡ Some value) (sym are) row_is in cc)
  kept (Some d) are h few =
      let there : assoc Text (proper_rows v d) name ≡ Some value = subst (λ (rows : List Row). assoc Text rows name ≡ Some value) (sym are) row_is in
      let found : (row : Row) × In row (proper_rows v d) × (row.0 ≡ name) × (row.1 ≡ value) = found_row (proper_rows v d) name value there in
      let here : Shifts v new (inode_blocks v (id_of found.0)) (inode_blocks w (id_of found.0)) = subst (λ (z : ℤ). Shifts v new (inode_blocks v (natural z)) (inode_blocks w (natural z))) (sym found.3) shifts in
      record {
        shift = all_shift v tree lists loose new stocked found.0 here d few found.1;
        directory = directory_stays v tree lists loose new stocked found.0 here d few found.1 h;
        rows = directory_rows_stay v tree lists loose new stocked found.0 here d few found.1;
        others = λ other number apart at.
            let too : assoc Text (proper_rows v d) other ≡ Some number = subst (λ (rows : List Row). assoc Text rows other ≡ Some number) (sym are) at in
            let second : (row : Row) × In row (proper_rows v d) × (row.0 ≡ other) × (row.1 ≡ number) = found_row (proper_rows v d) other number too in
            subst (λ (z : ℤ). Agree v.blocks new (inode_blocks v (natural z))) second.3
            (other_row v tree lists loose new stocked found.0 here d few found.1 second.0 second.1 (λ e. apart (sym second.2 ∙ ap (λ (r : Row). r.0) e ∙ found.2)));
      }

  few_in : (k : ℕ) → times k (all_in v (index_directory v)) + times k (bitmap_blocks v.geometry) ≤ times k (reach v tree ++ loose)
  unfolding index_blocks
  few_in k = let p = all_parts v tree lists loose stocked k in omega (arith, p)

  all_kept : Kept (index_directory v)
  all_kept = kept (index_directory v) stocked.names stocked.directory few_in

  with_none : (k : ℕ) (l : List ℕ) → times k (l ++ []) ≡ times k l
  with_none k l = let a = times-append k l [] in omega (arith, a)

  index_shift : Shifts v new (index_blocks v ++ []) (index_blocks w ++ [])
  unfolding index_blocks
  index_shift = in_any_order v new (all_in v (index_directory v)) (all_in w (index_directory v)) (all_in v (index_directory v) ++ []) (all_in w (index_directory v) ++ [])
      (λ k. sym (with_none k (all_in v (index_directory v)))) (λ k. sym (with_none k (all_in w (index_directory v)))) all_kept.shift

  pairs_at : (other : List ℕ) (t : Bool) → bytes_eq other name ≡ t → (with_pairs lists name pairs).pairs other ≡ cond t pairs (lists.pairs other)
  pairs_at other t e = ap (λ (b : Bool). cond b pairs (lists.pairs other)) e

  listing_at : (other : List ℕ) (number : ℤ) → assoc Text lists.names other ≡ Some number → (t : Bool) → bytes_eq other name ≡ t → IsListing w (natural number) (lists.kinds other) ((with_pairs lists name pairs).pairs other)
  listing_at other number at true e =
      let same : other ≡ name = (bytes_eq-Decides other name).0 e in
      let number_is : number ≡ value = (let both : Some number ≡ Some value = sym at ∙ ap (assoc Text lists.names) same ∙ row_is in cc) in
      subst (IsListing w (natural number) (lists.kinds other)) (sym (pairs_at other true e))
      (subst (λ (x : List ℕ × ℤ). IsListing w (natural x.1) (lists.kinds x.0) pairs) (λ i. (sym same i, sym number_is i)) listing)
  listing_at other number at false e =
      subst (IsListing w (natural number) (lists.kinds other)) (sym (pairs_at other false e))
      (listing_stays v new v.geometry.used (natural number) (lists.kinds other) (lists.pairs other)
      (all_kept.others other number (λ same. let same_now : bytes_eq other name ≡ true = (bytes_eq-Decides other name).1 same in let bad : false ≡ true = sym e ∙ same_now in cc) at) (stocked.indices other number at))

  pub index_changed : Stocked (with_blocks v new) tree (with_pairs lists name pairs) loose
  index_changed = indices_changed v tree lists (with_pairs lists name pairs) [] [] loose new stocked index_shift (λ id. refl) all_kept.directory (all_kept.rows ∙ stocked.names)
      (λ other number at. listing_at other number at (bytes_eq other name) refl)

-- the index that a stream is since, whose inode was written in its stream alone
pub index_written : (v : Volume) (new : ℕ → List ℕ) (id : ℕ) (kind : KeyKind) (pairs now : List (List ℕ × ℕ)) → KeepsInode (v.blocks id) (new id) → HasBytes (v.blocks id) (new id) → HasStream (sizes v.geometry) new id
    → IsWholeTree kind (content (with_blocks v new) id) → AreWritten (content (with_blocks v new) id) (rows_in kind (content (with_blocks v new) id)) now → IsListing v id kind pairs → IsListing (with_blocks v new) id kind now
index_written v new id kind pairs now kept bytes stream whole written l = record {
  index = record {
    owner = record { inode = inode_is v new id (keeps_place (v.blocks id) (new id) kept) bytes l.index.owner.inode; stream = stream };
    mode = bit_kept v new id kept bytes 29 l.index.mode;
    kind_is = l.index.kind_is;
    tree = whole;
  };
  written = written;
}
