-- A finding of any pass excludes that an image is whole.
use Rattle.std.proofs.Common.{◌≡◌, ◌≢◌, ◌≤◌, ◌==◌, ◌⊎◌, inl, inr, ⊎_elim, ℕ, ℤ, pos, negsuc, List, [], length, Option, Some, None, cond, refl, sym, ap, ◌∙◌, subst, arith}
use Rattle.std.proofs.lemmas.Cmp.{nat_list_cmp_total}
use Rattle.bfs_base.specs.Keys.{text_cmp}
use Rattle.std.specs.FinMap.{get, empty, get-empty, same_map, nat_cmp-IsAntisymmetric, slice_cmp-IsAntisymmetric}
use Rattle.bfs_base.specs.declared.kind.KeyKind.{KeyKind}
use Rattle.bfs_base.specs.declared.kind.KeyKind.TheVariants.{Text, I32, U32, I64, U64, F32, F64}
use Rattle.bfs_node.specs.Header.{code_of}
use Rattle.bfs_super.specs.declared.sup.Super.{Super}
use Rattle.bfs_super.specs.Conditions.{natural}
use Rattle.bfs_super.proofs.Refused.{refused_not_valid}
use Rattle.bfs_log.specs.Replay.{super_of, blocks_of}
use Rattle.bfs_tree.specs.Listings.{listed, kind_of_key}
use Rattle.bfs_tree.specs.Trees.{Tree, HasBuiltIn}
use Rattle.bfs_values.specs.Reached.{IsWholeTree}
use Rattle.bfs_sound.specs.Volumes.{Volume}
use Rattle.bfs_pages.specs.Maps.{assoc}
use Rattle.bfs_sound.specs.Inodes.{content, rows_of, index_directory}
use Rattle.bfs_sound.specs.Listings.{index_rows}
use Rattle.bfs_sound.specs.Owners.{In, reach}
use Rattle.bfs_sound.specs.Whole.{IsSound, volume_of}
use Rattle.bfs_finding.proofs.OneTrees.{one_stands}
use Rattle.bfs_finding.specs.declared.finding.PagePart.{PagePart}
use Rattle.bfs_finding.specs.declared.finding.Finding.{Finding}
use Rattle.bfs_finding.specs.declared.finding.Finding.TheVariants as finds
use Rattle.bfs_finding.specs.Ways.{HasNames, IsListed}
use Rattle.bfs_finding.specs.TreeFaults.{HasTree, IsHeaderFault, no_magic, no_size, no_names, no_kind, IsTreePageFault}
use Rattle.bfs_finding.specs.Findings.{IsBroken, Standing, IsBuiltIn, IsIndexAt, pairs_at, IsUnlisted, IsMismarked, IsMiscounted, IsFindingOf, in_log, in_parts, IsRowless, in_directory, in_indices, in_bitmap, in_count, of_super, of_volume}
use Rattle.bfs_finding.specs.Laws.{FindingExcludes}
use Rattle.bfs_finding.proofs.Upright.{Upright, upright}
use Rattle.bfs_finding.proofs.Nodes.{index_at, names_good, no_inode, no_name, no_attribute, no_parent, no_shared, no_row}
use Rattle.bfs_finding.proofs.Pieces.{way_reaches}
use Rattle.bfs_finding.proofs.Streams.{no_stream}
use Rattle.bfs_finding.proofs.Trees.{no_page_fault, no_link_fault, no_order}

-- the kind of keys that a header's code says
abbrev kind_at : ℕ → KeyKind
kind_at code = cond (code == 0) Text (cond (code == 1) I32 (cond (code == 2) U32 (cond (code == 3) I64 (cond (code == 4) U64 (cond (code == 5) F32 F64)))))

kind_back : (k : KeyKind) → kind_at (code_of k) ≡ k
kind_back Text = refl
kind_back I32 = refl
kind_back U32 = refl
kind_back I64 = refl
kind_back U64 = refl
kind_back F32 = refl
kind_back F64 = refl

module _ (v : Volume) (tree : Tree) (s : Upright v tree) where
  listed_tree : (b : ℕ) → IsListed v b → (kind : KeyKind) × IsWholeTree kind (content v b)
  listed_tree b l = let x = index_at v tree s l.0 (pos b) l.1 in (x.kind, x.index.tree)

  some_tree : (b : ℕ) → HasNames v b ⊎ IsListed v b → (kind : KeyKind) × IsWholeTree kind (content v b)
  some_tree b (inl n) = (Text, names_good v tree s b n)
  some_tree b (inr l) = listed_tree b l

  the_tree : (b : ℕ) (kind : KeyKind) → HasTree v b kind → IsWholeTree kind (content v b)
  the_tree b kind (inl n) = subst (λ k. IsWholeTree k (content v b)) (sym n.1) (names_good v tree s b n.0)
  the_tree b kind (inr l) =
      let t = listed_tree b l.0 in
      subst (λ k. IsWholeTree k (content v b)) (sym (kind_back t.0) ∙ ap kind_at (sym t.1.tree.header.kind_is ∙ l.2) ∙ kind_back kind) t.1

  no_header : (b : ℕ) (part : PagePart) → IsHeaderFault v b part → ⊥
  no_header b part (no_magic there other _) = other (some_tree b there).1.tree.header.header.magic_is
  no_header b part (no_size there wrong _) =
      let w = (some_tree b there).1 in
      ⊎_elim (λ other. other w.tree.header.header.size) (λ rest. ⊎_elim (λ other. other w.tree.header.maximum) (λ other. other w.whole) rest) wrong
  no_header b part (no_names there other _) = other (names_good v tree s b there).tree.header.kind_is
  no_header b part (no_kind there other _) = other (listed_tree b there).1.tree.header.header.kind

  no_tree_page : (b page : ℕ) (part : PagePart) → IsTreePageFault v b page part → ⊥
  no_tree_page b page part (inl h) = no_header b part h.1
  no_tree_page b page part (inr p) = no_page_fault p.0 (content v b) (the_tree b p.0 p.1) page part p.2

  pub broken : (f : Finding) → IsBroken v f → ⊥
  broken (finds.Super fault) x = x
  broken (finds.Log start end) x = x
  broken (finds.Inode block part found) x = no_inode v tree s block part found x
  broken (finds.Stream owner found wanted) x = no_stream v tree s owner found wanted x
  broken (finds.Shared block first second) x = no_shared v tree s block first second x
  broken (finds.TreeOrder owner page index) x = no_order x.1.0 (content v owner) (the_tree owner x.1.0 x.1.1) page index x.1.2
  broken (finds.TreeLink owner page found wanted) x = no_link_fault x.1.0 (content v owner) (the_tree owner x.1.0 x.1.1) page found wanted x.1.2
  broken (finds.TreePage owner page part) x = no_tree_page owner page part x.1
  broken (finds.Row owner value) x = no_row v tree s owner value x
  broken (finds.Name id row item) x = no_name v tree s id row item x
  broken (finds.Parent id found wanted) x = no_parent v tree s id found wanted x
  broken (finds.Attribute id name) x = no_attribute v tree s id name x
  broken (finds.IndexMissing name) x = x
  broken (finds.RowMissing index key id) x = x
  broken (finds.RowExtra index key id) x = x
  broken (finds.BitUnset block owner) x = x
  broken (finds.BitExtra block) x = x
  broken (finds.Used found wanted) x = x

pub sound_stands : (v : Volume) (tree : Tree) → IsSound v tree → Standing v tree
sound_stands v tree w = record { nodes = w.nodes; inside = λ k has. ((w.bits k).1 has).0 }

-- the sound volume's tree is the one that stands
same_sound : (v : Volume) (tree other : Tree) → Standing v tree → IsSound v other → IsSound v tree
same_sound v tree other s w = subst (IsSound v) (one_stands v other tree w.nodes s.nodes) w

built_in_there : (v : Volume) (tree : Tree) (name : List ℕ) (kind : KeyKind) → IsSound v tree → tree.indices ≢ empty → IsBuiltIn name kind → get tree.indices name ≡ Some kind
built_in_there v tree name kind w some which =
    ⊎_elim (λ none. absurd (some none)) (λ (t : HasBuiltIn tree.indices). by_name t which) w.indices.plain
  where
    by_name : HasBuiltIn tree.indices → IsBuiltIn name kind → get tree.indices name ≡ Some kind
    by_name t (inl a) = ap (get tree.indices) a.0 ∙ t.by_name ∙ ap Some (sym a.1)
    by_name t (inr (inl a)) = ap (get tree.indices) a.0 ∙ t.by_size ∙ ap Some (sym a.1)
    by_name t (inr (inr a)) = ap (get tree.indices) a.0 ∙ t.by_time ∙ ap Some (sym a.1)

pairs_same : (v : Volume) (tree : Tree) (index : List ℕ) (kind : KeyKind) (d : ℕ) → IsSound v tree → IsIndexAt v tree index kind d → listed tree index kind ≡ pairs_at v kind d
pairs_same v tree index kind d w p = (w.indices.listed index p.value kind p.row p.there).are ∙ ap (pairs_at v kind) (sym p.number)

-- the index directory of a sound volume has rows
rowless : (v : Volume) (tree : Tree) → IsSound v tree → IsRowless v → ⊥
rowless v tree w r = some_directory (w.nodes.stands.none.1 no_index) r.1
  where
    no_rows : index_rows v ≡ []
    no_rows = ap (rows_of v) r.1 ∙ r.2

    no_row : (name : List ℕ) (o : Option KeyKind) → get tree.indices name ≡ o → o ≡ None
    no_row name None e = refl
    no_row name (Some kind) e =
        let row = w.nodes.stands.no_more name kind e in
        let bad : None ≡ Some row.0 = sym (ap (λ rows. assoc Text rows name) no_rows) ∙ row.1 in
        absurd (cc)

    no_index : tree.indices ≡ empty
    no_index = same_map nat_list_cmp_total (slice_cmp-IsAntisymmetric nat_cmp-IsAntisymmetric) tree.indices empty (λ name. no_row name (get tree.indices name) refl ∙ sym (get-empty text_cmp name))

    some_directory : v.geometry.indices ≡ 0 → index_directory v ≡ Some r.0 → ⊥
    some_directory e is = let bad : None ≡ Some r.0 = sym (ap (λ k. cond (k == 0) None (Some k)) e) ∙ is in cc

pub unlisted : (v : Volume) (tree : Tree) (f : Finding) → IsSound v tree → IsUnlisted v tree f → ⊥
unlisted v tree (finds.IndexMissing name) w u = u.3 (built_in_there v tree name u.1 w u.0 u.2)
unlisted v tree (finds.RowMissing index key id) w u = u.3 (subst (In _) (pairs_same v tree index (kind_of_key key) u.0 w u.1) u.2)
unlisted v tree (finds.RowExtra index key id) w u = u.3 (subst (In _) (sym (pairs_same v tree index (kind_of_key key) u.0 w u.1)) u.2)
unlisted v tree (finds.Super fault) w u = u
unlisted v tree (finds.Log start end) w u = u
unlisted v tree (finds.Inode block part found) w u = u
unlisted v tree (finds.Stream owner found wanted) w u = u
unlisted v tree (finds.Shared block first second) w u = u
unlisted v tree (finds.TreeOrder owner page index) w u = u
unlisted v tree (finds.TreeLink owner page found wanted) w u = u
unlisted v tree (finds.TreePage owner page part) w u = u
unlisted v tree (finds.Row owner value) w u = u
unlisted v tree (finds.Name id row item) w u = u
unlisted v tree (finds.Parent id found wanted) w u = u
unlisted v tree (finds.Attribute id name) w u = u
unlisted v tree (finds.BitUnset block owner) w u = u
unlisted v tree (finds.BitExtra block) w u = u
unlisted v tree (finds.Used found wanted) w u = u

pub mismarked : (v : Volume) (tree : Tree) (f : Finding) → IsSound v tree → IsMismarked v tree f → ⊥
mismarked v tree (finds.BitUnset block owner) w u =
    let way = u.0 in
    let own = way_reaches v tree (upright v tree (sound_stands v tree w)) block way.0 owner way.1 in
    let has = way.2 in
    u.1 ((w.bits block).1 (omega (arith, own, has)))
mismarked v tree (finds.BitExtra block) w u = u.1 ((w.bits block).0 u.0)
mismarked v tree (finds.Super fault) w u = u
mismarked v tree (finds.Log start end) w u = u
mismarked v tree (finds.Inode block part found) w u = u
mismarked v tree (finds.Stream owner found wanted) w u = u
mismarked v tree (finds.Shared block first second) w u = u
mismarked v tree (finds.TreeOrder owner page index) w u = u
mismarked v tree (finds.TreeLink owner page found wanted) w u = u
mismarked v tree (finds.TreePage owner page part) w u = u
mismarked v tree (finds.Row owner value) w u = u
mismarked v tree (finds.Name id row item) w u = u
mismarked v tree (finds.Parent id found wanted) w u = u
mismarked v tree (finds.Attribute id name) w u = u
mismarked v tree (finds.IndexMissing name) w u = u
mismarked v tree (finds.RowMissing index key id) w u = u
mismarked v tree (finds.RowExtra index key id) w u = u
mismarked v tree (finds.Used found wanted) w u = u

-- the count of used blocks, which isn't below 1
count_is : (z : ℤ) (n : ℕ) → natural z ≡ n → 1 ≤ n → z ≡ pos n
count_is (pos m) n e some = ap pos e
count_is (negsuc m) n e some = absurd (omega (arith, e, some))

miscounted : (s : Super) (v : Volume) (tree : Tree) (f : Finding) → v.geometry.used ≡ natural s.used_blocks → IsSound v tree → IsMiscounted s v tree f → ⊥
miscounted s v tree (finds.Used found wanted) used w u =
    let some : 1 ≤ length (reach v tree) = omega arith in
    u.2 (u.0 ∙ count_is s.used_blocks (length (reach v tree)) (sym used ∙ w.used) some ∙ ap pos (sym u.1))
miscounted s v tree (finds.Super fault) used w u = u
miscounted s v tree (finds.Log start end) used w u = u
miscounted s v tree (finds.Inode block part found) used w u = u
miscounted s v tree (finds.Stream owner found wanted) used w u = u
miscounted s v tree (finds.Shared block first second) used w u = u
miscounted s v tree (finds.TreeOrder owner page index) used w u = u
miscounted s v tree (finds.TreeLink owner page found wanted) used w u = u
miscounted s v tree (finds.TreePage owner page part) used w u = u
miscounted s v tree (finds.Row owner value) used w u = u
miscounted s v tree (finds.Name id row item) used w u = u
miscounted s v tree (finds.Parent id found wanted) used w u = u
miscounted s v tree (finds.Attribute id name) used w u = u
miscounted s v tree (finds.IndexMissing name) used w u = u
miscounted s v tree (finds.RowMissing index key id) used w u = u
miscounted s v tree (finds.RowExtra index key id) used w u = u
miscounted s v tree (finds.BitUnset block owner) used w u = u
miscounted s v tree (finds.BitExtra block) used w u = u

pub finding_of : (s : Super) (v : Volume) (f : Finding) (tree : Tree) → v.geometry.used ≡ natural s.used_blocks → IsFindingOf s v f → s.log_start ≡ s.log_end → IsSound v tree → ⊥
finding_of s v f tree used (in_log other _) empty_log w = other empty_log
finding_of s v f tree used (in_parts _ x) empty_log w = broken v tree (upright v tree (sound_stands v tree w)) f x
finding_of s v f tree used (in_directory _ _ none _ _ _ _) empty_log w = rowless v tree w none
finding_of s v f tree used (in_indices _ stands there x) empty_log w = unlisted v stands f (same_sound v stands tree there w) x
finding_of s v f tree used (in_bitmap _ stands there _ x) empty_log w = mismarked v stands f (same_sound v stands tree there w) x
finding_of s v f tree used (in_count _ stands there _ _ x) empty_log w = miscounted s v stands f used (same_sound v stands tree there w) x

pub excludes : FindingExcludes
excludes image f tree (of_super _ fault _ refusal) w = refused_not_valid (super_of image) fault refusal w.valid.super
excludes image f tree (of_volume _ x) w = finding_of (super_of image) (volume_of (super_of image) (blocks_of image)) f tree refl x w.whole.emptied w.whole.sound
