-- A new inode in a loose block is a node: a file, or a link with a short target.
use Rattle.std.proofs.Common.{◌≡◌, ◌≢◌, ◌≤◌, ◌<◌, ◌+◌, ◌*◌, ◌⊎◌, ℕ, pos, List, [], ◌∷◌, length, take, drop, refl, sym, ap, ◌∙◌, subst, Bool, true, false, Option, Some, None}
use Rattle.std.specs.Prelude.{IsSome}
use Rattle.std.specs.FinMap.{get, insert}
use Rattle.bfs_base.specs.Lists.{times, Has, AreSame}
use Rattle.bfs_base.specs.declared.kind.KeyKind.TheVariants.{Text}
use Rattle.bfs_super.specs.Conditions.{IsValid}
use Rattle.bfs_super.specs.Geometry.{geometry_of}
use Rattle.bfs_super.specs.declared.geometry.Geometry.{Geometry}
use Rattle.bfs_super.specs.declared.sup.Super.{Super}
use Rattle.bfs_bitmap.specs.Runs.{Room}
use Rattle.bfs_inode.specs.Inode.{stream_at}
use Rattle.bfs_inode.specs.Refusals.{Names}
use Rattle.bfs_txn.specs.Told.{with_block}
use Rattle.bfs_stream.specs.Told.{contents}
use Rattle.bfs_tree.specs.declared.call.Kind.TheVariants.{File, Dir, Link}
use Rattle.bfs_tree.specs.Names.{has_byte}
use Rattle.bfs_tree.specs.Trees.{Node, Tree, new_node}
use Rattle.bfs_values.specs.Rows.{rows_in}
use Rattle.bfs_sound.specs.Volumes.{Volume, sizes}
use Rattle.bfs_sound.specs.Inodes.{kind_bits, content}
use Rattle.bfs_sound.specs.Nodes.{HasContent, HasNode}
use Rattle.bfs_sound.specs.Owners.{node_blocks, data_blocks}
use Rattle.bfs_shift.specs.Lists.{Lists}
use Rattle.bfs_shift.specs.Shifts.{volume_in}
use Rattle.bfs_fresh.specs.Fresh.{IsFresh, no_stream}
use Rattle.bfs_fresh.specs.declared.fields.NewNode.{NewNode}
use Rattle.bfs_moves.specs.Born.{IsBornEmpty, IsBornLink}
use Rattle.bfs_txn.specs.Told.{StaysChanged}
use Rattle.bfs_shift.specs.Work.{IsAtWork, IsStepped}
use Rattle.bfs_moves.proofs.Births.{only_one, set_here, bytes_here, written_work, written_goes}
use Rattle.bfs_moves.proofs.Empty.{places_empty}
use Rattle.bfs_moves.proofs.Ends.{goes_on_twice}
use Rattle.bfs_moves.proofs.Joined.{joined_work, joined_goes}
use Rattle.bfs_moves.proofs.Newborn.{flags_are, has_node, own_alone, file_content, file_blocks, link_content, link_blocks}

module _ (s : Super) (v : Room) (m : ℕ → Option (List ℕ)) (tree : Tree) (lists : Lists) (rest : List ℕ) (id : ℕ) (bytes : List ℕ) (node : Node) (old new : ℕ → Bool)
    (valid : IsValid s) (work : IsAtWork (geometry_of s) v m tree lists (id ∷ rest)) (absent : get tree.nodes id ≡ None) (changed : (k : ℕ) → new k ≡ true → (old k ≡ true) ⊎ (k ≡ id)) (kept_changed : StaysChanged old new) (own_changed : new id ≡ true) where
  abbrev g : Geometry
  g = geometry_of s

  abbrev map : ℕ → Option (List ℕ)
  map = with_block id bytes m

  abbrev is_now : Volume
  is_now = volume_in g map

  told_own : (k : ℕ) → Has (id ∷ []) k → IsSome (map k)
  told_own k h = subst (λ (j : ℕ). IsSome (map j)) (sym (only_one k id h)) (subst (λ (o : Option (List ℕ)). IsSome o) (sym (set_here s v m tree lists rest id bytes valid work)) refl)

  entered_own : (k : ℕ) → Has (id ∷ []) k → new k ≡ true
  entered_own k h = subst (λ (j : ℕ). new j ≡ true) (sym (only_one k id h)) own_changed

  -- a node that is this block alone, and no directory
  pub alone_step : (told : Option (ℕ → Option (List ℕ))) → told ≡ Some map → HasNode is_now id node → node_blocks is_now (id, node) ≡ id ∷ [] → (node.kind ≡ Dir → ⊥) → data_blocks is_now (id, node) ≡ []
      → IsStepped g v v m tree (record tree { nodes = insert tree.nodes id node }) lists rest told old new
  alone_step told is has blocks no_dir no_data =
      let one : IsAtWork g v map tree lists (id ∷ rest) = written_work s v m tree lists rest id bytes valid work old new changed kept_changed in
      let same : AreSame (id ∷ []) (node_blocks is_now (id, node)) = λ k. ap (times k) (sym blocks) in
      let rows : node.kind ≡ Dir → rows_in Text (content is_now id) ≡ lists.rows id = λ dir. absurd (no_dir dir) in
      record {
        map = map;
        is = is;
        work = joined_work g v map tree lists (id ∷ []) rest id node one absent has same rows no_data told_own new entered_own;
        goes_on = goes_on_twice g v v v m map map tree tree (record tree { nodes = insert tree.nodes id node }) old new new
            (written_goes s v m tree lists rest id bytes valid work old new changed kept_changed) (joined_goes g v map tree lists (id ∷ []) rest id node one absent has same rows no_data told_own new entered_own);
      }

no_dir_file : File ≡ Dir → ⊥
no_dir_file e = cc

no_dir_link : Link ≡ Dir → ⊥
no_dir_link e = cc

module _ (s : Super) (v : Room) (m : ℕ → Option (List ℕ)) (tree : Tree) (lists : Lists) (rest : List ℕ) (id parent : ℕ) (born : NewNode) (name : List ℕ) (mode : ℕ) (told : Option (ℕ → Option (List ℕ))) (old new : ℕ → Bool)
    (valid : IsValid s) (work : IsAtWork (geometry_of s) v m tree lists (id ∷ rest)) (absent : get tree.nodes id ≡ None) (other : id ≢ (geometry_of s).root)
    (number : Names born.address id (geometry_of s).shift) (up : Names born.parent parent (geometry_of s).shift) (low : mode ≤ 4095) (flags : born.flags ≡ pos 1)
    (changed : (k : ℕ) → new k ≡ true → (old k ≡ true) ⊎ (k ≡ id)) (kept_changed : StaysChanged old new) (own_changed : new id ≡ true) where
  abbrev geometry : Geometry
  geometry = geometry_of s

  pub file_step : born.mode ≡ pos (4096 * kind_bits File + mode) → IsBornEmpty s.block_size id born name m told
      → IsStepped geometry v v m tree (record tree { nodes = insert tree.nodes id (new_node File name parent mode 0 [] born.stamp) }) lists rest told old new
  file_step mode_is written =
      let bytes = written.bytes in
      let map : ℕ → Option (List ℕ) = with_block id bytes m in
      let here : contents map id ≡ bytes = bytes_here s v m tree lists rest id bytes valid work in
      let fresh : IsFresh s.block_size born name (contents map id) = subst (IsFresh s.block_size born name) (sym here) written.fresh in
      let stream : stream_at (contents map id) ≡ no_stream = ap stream_at here ∙ written.stream in
      let n : Node = new_node File name parent mode 0 [] born.stamp in
      let holds : HasContent (volume_in geometry map) id n File = file_content geometry map id stream name parent mode born.stamp in
      let has : HasNode (volume_in geometry map) id n = has_node geometry map id born name fresh number parent up File mode mode_is low other 1 flags refl 0 [] holds in
      let blocks : node_blocks (volume_in geometry map) (id, n) ≡ id ∷ [] = own_alone geometry map id born name fresh number parent up File mode mode_is low other 1 flags refl 0 [] holds ∙ file_blocks geometry map id stream n refl in
      alone_step s v m tree lists rest id bytes n old new valid work absent changed kept_changed own_changed told written.is has blocks no_dir_file (places_empty (sizes geometry) (contents map) id stream)

  pub link_step : born.mode ≡ pos (4096 * kind_bits Link + mode) → (target : List ℕ) → length target < 144 → has_byte 0 target ≡ false → IsBornLink s.block_size id born name target m told
      → IsStepped geometry v v m tree (record tree { nodes = insert tree.nodes id (new_node Link name parent mode (length target) target born.stamp) }) lists rest told old new
  link_step mode_is target short no_zero written =
      let bytes = written.bytes in
      let map : ℕ → Option (List ℕ) = with_block id bytes m in
      let here : contents map id ≡ bytes = bytes_here s v m tree lists rest id bytes valid work in
      let fresh : IsFresh s.block_size born name (contents map id) = subst (IsFresh s.block_size born name) (sym here) written.fresh in
      let one = flags_are geometry map id born name fresh number parent up Link mode mode_is low other 1 flags refl in
      let read = ap (λ (b : List ℕ). take 144 (drop 72 b)) here ∙ written.target_is in
      let n : Node = new_node Link name parent mode (length target) target born.stamp in
      let holds : HasContent (volume_in geometry map) id n Link = link_content geometry map id target one short no_zero read name parent mode born.stamp in
      let has : HasNode (volume_in geometry map) id n = has_node geometry map id born name fresh number parent up Link mode mode_is low other 1 flags refl (length target) target holds in
      let blocks : node_blocks (volume_in geometry map) (id, n) ≡ id ∷ [] =
      own_alone geometry map id born name fresh number parent up Link mode mode_is low other 1 flags refl (length target) target holds ∙ link_blocks geometry map id target one short no_zero read name parent mode born.stamp in
      alone_step s v m tree lists rest id bytes n old new valid work absent changed kept_changed own_changed told written.is has blocks no_dir_link refl
