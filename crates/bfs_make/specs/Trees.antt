-- A tree without rows, as it is made.
use Rattle.std.specs.Prelude.{◌≡◌, ℕ, pos, negsuc, List, []}
use Rattle.bfs_base.specs.declared.kind.KeyKind.{KeyKind}
use Rattle.bfs_node.specs.Header.{code_of}
use Rattle.bfs_node.specs.Page.{HasLayout, rows_of, links_of, null_links}
use Rattle.bfs_node.specs.declared.header.Header.{Header}

-- the header of a tree with one leaf
abbrev pub first_header : KeyKind → Header
first_header kind = record {
  magic = 0x69f6c2e8;
  node_size = 1024;
  levels = 1;
  data_type = code_of kind;
  root_pointer = pos 1024;
  free_pointer = negsuc 0;
  maximum_size = pos 2048;
}

-- a page is a leaf without rows and without neighbours
pub record IsEmptyLeaf (page : List ℕ) : Type 0 where
  pub layout : HasLayout page
  pub rows : rows_of page ≡ []
  pub links : links_of page ≡ null_links
