-- The volume with one directory whose tree has some pages is sound where these pages are a tree of the directory's rows.
use Rattle.std.proofs.Common.{◌≡◌, inl, inr, ℕ, pos, List, [], ◌∷◌, refl, arith}
use Rattle.std.specs.Prelude.{codes}
use Rattle.std.specs.Str.{is_utf8, chars}
use Rattle.std.specs.Char.{encode_utf8}
use Rattle.bfs_base.specs.Keys.{number_of}
use Rattle.bfs_base.specs.declared.kind.KeyKind.TheVariants.{Text, I64}
use Rattle.bfs_bytes.specs.Fields.{unsigned_at, signed32_at, signed64_at, run_in, unsigned_bytes, signed32_bytes, signed64_bytes, run_bytes}
use Rattle.bfs_inode.specs.Inode.{runs_in}
use Rattle.bfs_node.specs.Header.{header_bytes, code_of}
use Rattle.bfs_node.specs.Page.{Row, rows_of, head_bytes}
use Rattle.bfs_smalldata.specs.Items.{Item, items_of, bytes_of}
use Rattle.bfs_stream.specs.Places.{array_runs, level_blocks, bytes_at}
use Rattle.bfs_tree.specs.declared.call.Kind.TheVariants.{Dir}
use Rattle.bfs_tree.specs.Trees.{Node, new_node}
use Rattle.bfs_values.specs.Links.{link_in}
use Rattle.bfs_sound.specs.Volumes.{Volume}
use Rattle.bfs_sound.specs.Inodes.{content}
use Rattle.bfs_sound.specs.Listings.{IsChild, Lists, IsIndex}
use Rattle.bfs_sound.specs.Nodes.{HasNode}
use Rattle.bfs_sound.specs.Whole.{IsSound, volume_of}
use Rattle.bfs_sound_tests.specs.Bytes.{level_bytes, inode_block, header_block, leaf_block}
use Rattle.bfs_sound_tests.specs.Worked.{super_of_used, index_rows, index_kinds, root_node, tree_of}
use Rattle.bfs_sound_tests.specs.Directory.{root_rows, nodes}
use Rattle.bfs_sound_tests.specs.Inner.{blocks, name_rows, self_row, parent_row}
use Rattle.bfs_sound_tests.proofs.Finite.{most, one_named}
use Rattle.bfs_sound_tests.proofs.Plain.{IsTested, is_node}
use Rattle.bfs_sound_tests.proofs.Leaves.{two_held, plain_values}
use Rattle.bfs_sound_tests.proofs.Streams.{is_inode, names_of}
use Rattle.bfs_sound_tests.proofs.Standing.{HasTree, tree_at, lists, listing, reached, children_of, apart_by, reach_of, IsListing, IsCounted, sound}

abbrev pub child_rows : List Row
child_rows = self_row ∷ parent_row ∷ []

abbrev pub child : Node
child = new_node Dir (codes "d") 4 493 0 [] (pos 1000)

abbrev no_rows : List Row
no_rows = []

abbrev called : List ℕ → Item
called name = record { kind = 0x43535452; name = 19 ∷ []; bytes = name }

tested : IsTested 4 nodes index_kinds
unfolding is_utf8 chars encode_utf8
tested = record { sorted = tt; in_order = tt; top = root_node; there = refl; dir = refl; unnamed = refl; own = refl; parents = refl; lead = refl; named = refl; apart = refl; kinds = inr (refl, refl, refl) }

module _ (used : ℕ) (pages : List (List ℕ)) where
  abbrev pub v : Volume
  v = volume_of (super_of_used used) (blocks pages)

  pub root_tree : HasTree v 4 Text root_rows
  unfolding unsigned_at signed32_at signed64_at run_in runs_in unsigned_bytes signed32_bytes signed64_bytes run_bytes array_runs level_blocks bytes_at rows_of header_bytes head_bytes bytes_of level_bytes inode_block header_block leaf_block blocks link_in
  root_tree = tree_at v 4 Text 2048 [] root_rows (is_inode (v.blocks 4) 4 13 refl refl refl refl refl)
      (record { direct = refl; table = inl refl; in_table = refl; double = refl; arrays = refl; runs = refl; direct_range = refl; indirect_range = refl; double_range = refl; size_is = refl; enough = refl })
      (record { long = refl; pages = refl; few = most (code_of Text) 4 refl; header = refl; body = refl; links = refl; ascend = ((refl, (refl, tt)), ((refl, tt), (tt, tt))); once = two_held })
      (plain_values (content v 4) root_rows (λ at f. refl) refl refl)

  pub indices_tree : HasTree v 7 Text index_rows
  unfolding unsigned_at signed32_at signed64_at run_in runs_in unsigned_bytes signed32_bytes signed64_bytes run_bytes array_runs level_blocks bytes_at rows_of header_bytes head_bytes bytes_of level_bytes inode_block header_block leaf_block blocks link_in
  indices_tree = tree_at v 7 Text 2048 [] index_rows (is_inode (v.blocks 7) 7 13 refl refl refl refl refl)
      (record { direct = refl; table = inl refl; in_table = refl; double = refl; arrays = refl; runs = refl; direct_range = refl; indirect_range = refl; double_range = refl; size_is = refl; enough = refl })
      (record { long = refl; pages = refl; few = most (code_of Text) 4 refl; header = refl; body = refl; links = refl; ascend = ((refl, (refl, tt)), ((refl, tt), (tt, tt))); once = two_held })
      (plain_values (content v 7) index_rows (λ at f. refl) refl refl)

  pub name_tree : HasTree v 10 Text name_rows
  unfolding unsigned_at signed32_at signed64_at run_in runs_in unsigned_bytes signed32_bytes signed64_bytes run_bytes array_runs level_blocks bytes_at rows_of header_bytes head_bytes bytes_of level_bytes inode_block header_block leaf_block blocks link_in
  name_tree = tree_at v 10 Text 2048 [] name_rows (is_inode (v.blocks 10) 10 13 refl refl refl refl refl)
      (record { direct = refl; table = inl refl; in_table = refl; double = refl; arrays = refl; runs = refl; direct_range = refl; indirect_range = refl; double_range = refl; size_is = refl; enough = refl })
      (record { long = refl; pages = refl; few = most (code_of Text) 4 refl; header = refl; body = refl; links = refl; ascend = (tt, tt); once = two_held })
      (plain_values (content v 10) name_rows (λ at f. refl) refl refl)

  pub size_tree : HasTree v 13 I64 no_rows
  unfolding unsigned_at signed32_at signed64_at run_in runs_in unsigned_bytes signed32_bytes signed64_bytes run_bytes array_runs level_blocks bytes_at rows_of header_bytes head_bytes bytes_of level_bytes inode_block header_block leaf_block blocks link_in
  size_tree = tree_at v 13 I64 2048 [] no_rows (is_inode (v.blocks 13) 13 13 refl refl refl refl refl)
      (record { direct = refl; table = inl refl; in_table = refl; double = refl; arrays = refl; runs = refl; direct_range = refl; indirect_range = refl; double_range = refl; size_is = refl; enough = refl })
      (record { long = refl; pages = refl; few = most (code_of I64) 4 refl; header = refl; body = refl; links = refl; ascend = tt; once = two_held })
      (plain_values (content v 13) no_rows (λ at f. refl) refl refl)

  pub time_tree : HasTree v 16 I64 no_rows
  unfolding unsigned_at signed32_at signed64_at run_in runs_in unsigned_bytes signed32_bytes signed64_bytes run_bytes array_runs level_blocks bytes_at rows_of header_bytes head_bytes bytes_of level_bytes inode_block header_block leaf_block blocks link_in
  time_tree = tree_at v 16 I64 2048 [] no_rows (is_inode (v.blocks 16) 16 13 refl refl refl refl refl)
      (record { direct = refl; table = inl refl; in_table = refl; double = refl; arrays = refl; runs = refl; direct_range = refl; indirect_range = refl; double_range = refl; size_is = refl; enough = refl })
      (record { long = refl; pages = refl; few = most (code_of I64) 4 refl; header = refl; body = refl; links = refl; ascend = tt; once = two_held })
      (plain_values (content v 16) no_rows (λ at f. refl) refl refl)

  root : HasNode v 4 root_node
  unfolding unsigned_at signed32_at signed64_at run_in runs_in unsigned_bytes signed32_bytes signed64_bytes run_bytes array_runs level_blocks bytes_at rows_of header_bytes head_bytes bytes_of level_bytes inode_block header_block leaf_block blocks items_of
  root = record {
    inode = root_tree.owner.inode;
    kind = refl;
    mode = refl;
    uid = refl;
    gid = refl;
    created = refl;
    modified = refl;
    changed = refl;
    content_is = (root_tree.owner.stream, root_tree.tree, refl, refl);
    items = [];
    area = refl;
    distinct = λ name. omega arith;
    short = tt;
    called = record { root_name = λ _. refl; root_parent = λ _. refl; name = λ other. absurd (other refl); parent = λ other. absurd (other refl) };
    directory = tt;
    apart = λ name. omega arith;
    attributes = refl;
  }

  index_directory : IsIndex v 7 Text
  unfolding unsigned_at signed32_at signed64_at run_in runs_in unsigned_bytes signed32_bytes signed64_bytes run_bytes array_runs level_blocks bytes_at rows_of header_bytes head_bytes bytes_of level_bytes inode_block header_block leaf_block blocks
  index_directory = record { owner = indices_tree.owner; mode = refl; kind_is = tt; tree = indices_tree.tree }

  by_time : IsListing v (tree_of nodes) (codes "last_modified") 16 I64
  unfolding unsigned_at signed32_at signed64_at run_in runs_in unsigned_bytes signed32_bytes signed64_bytes run_bytes array_runs level_blocks bytes_at rows_of header_bytes head_bytes bytes_of level_bytes inode_block header_block leaf_block blocks link_in number_of
  by_time = listing v nodes (codes "last_modified") 16 I64 no_rows tested time_tree refl tt refl

  by_name : IsListing v (tree_of nodes) (codes "name") 10 Text
  unfolding unsigned_at signed32_at signed64_at run_in runs_in unsigned_bytes signed32_bytes signed64_bytes run_bytes array_runs level_blocks bytes_at rows_of header_bytes head_bytes bytes_of level_bytes inode_block header_block leaf_block blocks link_in
  by_name = listing v nodes (codes "name") 10 Text name_rows tested name_tree refl tt refl

  by_size : IsListing v (tree_of nodes) (codes "size") 13 I64
  unfolding unsigned_at signed32_at signed64_at run_in runs_in unsigned_bytes signed32_bytes signed64_bytes run_bytes array_runs level_blocks bytes_at rows_of header_bytes head_bytes bytes_of level_bytes inode_block header_block leaf_block blocks link_in number_of
  by_size = listing v nodes (codes "size") 13 I64 no_rows tested size_tree refl tt refl

  root_lists : Lists v (tree_of nodes) 4 root_node
  root_lists = lists v (tree_of nodes) 4 root_node root_rows root_tree.rows_of (inl (refl, refl), (inr (inl (refl, refl)), (inr (inr (19, refl, is_child)), tt))) refl refl
      (children_of nodes 4 root_rows tested ((λ other _. absurd (other refl)), ((λ _ _. refl), tt)))
    where
      is_child : IsChild (tree_of nodes) 4 (codes "d") 19
      is_child = record { node = child; there = is_node 4 nodes index_kinds tested 19 child refl; not_root = apart_by 19 4 refl; parent = refl; named = refl }

  module _ (child_tree : HasTree v 19 Text child_rows) where
    child_lists : Lists v (tree_of nodes) 19 child
    child_lists = lists v (tree_of nodes) 19 child child_rows child_tree.rows_of (inl (refl, refl), (inr (inl (refl, refl)), tt)) refl refl
        (children_of nodes 19 child_rows tested ((λ other _. absurd (other refl)), ((λ _ up. absurd (apart_by 4 19 refl up)), tt)))

    child_node : HasNode v 19 child
    unfolding unsigned_at signed32_at signed64_at run_in runs_in unsigned_bytes signed32_bytes signed64_bytes run_bytes array_runs level_blocks bytes_at rows_of header_bytes head_bytes bytes_of level_bytes inode_block header_block leaf_block blocks items_of
    child_node = record {
      inode = child_tree.owner.inode;
      kind = refl;
      mode = refl;
      uid = refl;
      gid = refl;
      created = refl;
      modified = refl;
      changed = refl;
      content_is = (child_tree.owner.stream, child_tree.tree, refl, refl);
      items = called (codes "d") ∷ [];
      area = refl;
      distinct = one_named (λ (item : Item). item.name) (called (codes "d") ∷ []) refl;
      short = (most 1 255 refl, tt);
      called = record { root_name = λ e. absurd (apart_by 19 4 refl e); root_parent = λ e. absurd (apart_by 19 4 refl e); name = λ _. (_, refl, refl, refl); parent = λ _. names_of _ 4 13 refl refl };
      directory = tt;
      apart = λ name. omega arith;
      attributes = refl;
    }

    pub inner_sound : (xs : List ℕ) → reach_of v nodes ≡ xs → IsCounted v xs → IsSound v (tree_of nodes)
    inner_sound xs reach_is counted = sound v nodes refl refl tested (root, (child_node, tt)) ((λ _. root_lists), ((λ _. child_lists), tt))
        index_directory indices_tree.rows_of by_time by_name by_size xs (reached v nodes xs tested reach_is) counted
