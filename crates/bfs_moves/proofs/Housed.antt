-- A new inode whose stream has its bytes is a node: a directory, or a link with a long target.
use Rattle.std.proofs.Common.{◌≡◌, ◌≢◌, ◌≤◌, ◌<◌, ◌+◌, ◌*◌, ◌/◌, ◌%◌, ℕ, pos, List, [], ◌∷◌, ◌++◌, length, refl, sym, ap, ◌∙◌, subst, Bool, true, false, cond, Option, Some, None}
use Rattle.std.specs.Prelude.{◌==◌}
use Rattle.std.specs.FinMap.{get, insert}
use Rattle.bfs_base.specs.Lists.{times, AreSame}
use Rattle.bfs_base.specs.declared.kind.KeyKind.TheVariants.{Text}
use Rattle.bfs_super.specs.Geometry.{geometry_of}
use Rattle.bfs_super.specs.declared.geometry.Geometry.{Geometry}
use Rattle.bfs_super.specs.declared.sup.Super.{Super}
use Rattle.bfs_bitmap.specs.Runs.{Room}
use Rattle.bfs_inode.specs.Refusals.{Names}
use Rattle.bfs_node.specs.Page.{Row}
use Rattle.bfs_tree.specs.declared.call.Kind.TheVariants.{Dir, Link}
use Rattle.bfs_tree.specs.Trees.{Node, Tree, IsNode, new_node}
use Rattle.bfs_values.specs.Reached.{IsWholeTree}
use Rattle.bfs_values.specs.Rows.{rows_in}
use Rattle.bfs_sound.specs.Volumes.{Volume}
use Rattle.bfs_sound.specs.Inodes.{kind_bits, is_short, inode_blocks, content}
use Rattle.bfs_sound.specs.Nodes.{HasTarget, HasContent, HasNode}
use Rattle.bfs_sound.specs.Owners.{node_blocks, own_blocks, data_blocks}
use Rattle.bfs_shift.specs.Lists.{Lists, with_rows}
use Rattle.bfs_shift.specs.Shifts.{volume_in}
use Rattle.bfs_shift.specs.TreeLaws.{first_rows}
use Rattle.bfs_shift.specs.Work.{IsAtWork, IsStepped}
use Rattle.bfs_shift.proofs.Renewed.{same_test, other_test}
use Rattle.bfs_fresh.specs.declared.fields.NewNode.{NewNode}
use Rattle.bfs_moves.specs.Grown.{IsGrown}
use Rattle.bfs_moves.proofs.Ends.{goes_on_twice}
use Rattle.bfs_moves.proofs.Joined.{joined_work, joined_goes}
use Rattle.bfs_moves.proofs.Newborn.{flags_are, has_node, own_alone}

rows_here : (lists : Lists) (id : ℕ) (rows : List Row) → (with_rows lists id rows).rows id ≡ rows
rows_here lists id rows = ap (λ (t : Bool). cond t rows (lists.rows id)) (same_test id)

-- rows may be listed of what is no node
rows_free : (g : Geometry) (v : Room) (m : ℕ → Option (List ℕ)) (tree : Tree) (lists : Lists) (loose : List ℕ) (id : ℕ) (rows : List Row) → get tree.nodes id ≡ None
    → IsAtWork g v m tree lists loose → IsAtWork g v m tree (with_rows lists id rows) loose
rows_free g v m tree lists loose id rows absent work = record {
  volume = work.volume;
  fits = work.fits;
  counted = work.counted;
  stocked = record {
    nodes = work.stocked.nodes;
    rows = λ b n is dir. work.stocked.rows b n is dir ∙ sym (elsewhere b (apart b n is));
    directory = work.stocked.directory;
    names = work.stocked.names;
    indices = work.stocked.indices;
    once = work.stocked.once;
    marks = work.stocked.marks;
  };
  told = work.told;
}
  where
    apart : (b : ℕ) (n : Node) → IsNode tree b n → b ≢ id
    apart b n is e = let bad : Some n ≡ None = sym is ∙ ap (get tree.nodes) e ∙ absent in cc

    elsewhere : (b : ℕ) → b ≢ id → (with_rows lists id rows).rows b ≡ lists.rows b
    elsewhere b other = ap (λ (t : Bool). cond t rows (lists.rows b)) (other_test b id other)

no_dir_link : Link ≡ Dir → ⊥
no_dir_link e = cc

module _ (s : Super) (v now : Room) (m : ℕ → Option (List ℕ)) (tree : Tree) (lists : Lists) (rest : List ℕ) (id parent : ℕ) (born : NewNode) (name bytes : List ℕ) (mode : ℕ) (told : Option (ℕ → Option (List ℕ))) (old new : ℕ → Bool)
    (absent : get tree.nodes id ≡ None) (other : id ≢ (geometry_of s).root) (number : Names born.address id (geometry_of s).shift) (up : Names born.parent parent (geometry_of s).shift) (low : mode ≤ 4095)
    (grown : IsGrown s id born name bytes v now m tree lists rest told old new) where
  abbrev g : Geometry
  g = geometry_of s

  abbrev map : ℕ → Option (List ℕ)
  map = grown.map

  abbrev is_now : Volume
  is_now = volume_in g map

  abbrev own : List ℕ
  own = inode_blocks is_now id

  -- all of its blocks become a node
  node_step : (n : Node) (since : Lists) → IsAtWork g now map tree since (own ++ rest) → HasNode is_now id n → node_blocks is_now (id, n) ≡ own
      → (n.kind ≡ Dir → rows_in Text (content is_now id) ≡ since.rows id) → data_blocks is_now (id, n) ≡ [] → IsStepped g v now m tree (record tree { nodes = insert tree.nodes id n }) since rest told old new
  node_step n since work has blocks rows no_data =
      let same : AreSame own (node_blocks is_now (id, n)) = λ k. ap (times k) (sym blocks) in
      record {
        map = map;
        is = grown.is;
        work = joined_work g now map tree since own rest id n work absent has same rows no_data grown.are_told new grown.are_changed;
        goes_on = goes_on_twice g v now now m map map tree tree (record tree { nodes = insert tree.nodes id n }) old new new grown.goes_on
            (joined_goes g now map tree since own rest id n work absent has same rows no_data grown.are_told new grown.are_changed);
      }

  pub directory_step : born.mode ≡ pos (4096 * kind_bits Dir + mode) → born.flags ≡ pos 1 → IsWholeTree Text bytes → rows_in Text bytes ≡ first_rows id parent
      → IsStepped g v now m tree (record tree { nodes = insert tree.nodes id (new_node Dir name parent mode 0 [] born.stamp) }) (with_rows lists id (first_rows id parent)) rest told old new
  directory_step mode_is flags whole rows =
      let n : Node = new_node Dir name parent mode 0 [] born.stamp in
      let since : Lists = with_rows lists id (first_rows id parent) in
      let holds : HasContent is_now id n Dir = (grown.stream, subst (IsWholeTree Text) (sym grown.bytes_are) whole, refl, refl) in
      let has : HasNode is_now id n = has_node g map id born name grown.fresh number parent up Dir mode mode_is low other 1 flags refl 0 [] holds in
      let blocks : node_blocks is_now (id, n) ≡ own = own_alone g map id born name grown.fresh number parent up Dir mode mode_is low other 1 flags refl 0 [] holds in
      node_step n since (rows_free g now map tree lists (own ++ rest) id (first_rows id parent) absent grown.work) has blocks
      (λ dir. ap (rows_in Text) grown.bytes_are ∙ rows ∙ sym (rows_here lists id (first_rows id parent))) refl

  -- flagged as a link whose target stands in its stream
  pub long_link_step : born.mode ≡ pos (4096 * kind_bits Link + mode) → born.flags ≡ pos 65
      → IsStepped g v now m tree (record tree { nodes = insert tree.nodes id (new_node Link name parent mode (length bytes) bytes born.stamp) }) lists rest told old new
  long_link_step mode_is flags =
      let n : Node = new_node Link name parent mode (length bytes) bytes born.stamp in
      let flagged = flags_are g map id born name grown.fresh number parent up Link mode mode_is low other 65 flags refl in
      let is_long : is_short is_now id ≡ false = ap (λ (f : ℕ). f / 64 % 2 == 0) flagged in
      let holds : HasContent is_now id n Link = (subst (HasTarget is_now id bytes) (sym is_long) (grown.stream, sym grown.bytes_are), refl) in
      let has : HasNode is_now id n = has_node g map id born name grown.fresh number parent up Link mode mode_is low other 65 flags refl (length bytes) bytes holds in
      let alone = own_alone g map id born name grown.fresh number parent up Link mode mode_is low other 65 flags refl (length bytes) bytes holds in
      let whole : own_blocks is_now (id, n) ≡ own = ap (λ (t : Bool). cond t (id ∷ []) own) is_long in
      node_step n lists grown.work has (alone ∙ whole) (λ dir. absurd (no_dir_link dir)) refl
