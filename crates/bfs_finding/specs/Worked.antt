-- What is met in a tree, links, streams and names, worked out by hand.
use Rattle.std.specs.Prelude.{◌≡◌, ℕ, ℤ, pos, negsuc, List, [], ◌∷◌, Option, Some, None, ◌==◌, if◌then◌else◌}
use Rattle.bfs_bytes.specs.declared.Run.{Run}
use Rattle.bfs_pages.specs.Shapes.{Body, leaf_body, inner_body, a_row, a_bound}
use Rattle.bfs_sound.specs.Sizes.{Sizes}
use Rattle.bfs_sound.specs.Places.{Levels}
use Rattle.bfs_finding.specs.NodeFaults.{own_bytes, or_zero}
use Rattle.bfs_finding.specs.StreamFaults.{IsLevelFault, IsAddressFault}
use Rattle.bfs_finding.specs.TreeFaults.{last_link, first_link, wanted_link}
use Rattle.bfs_finding.specs.Walks.{inners_below, leaves_below, entries_below, free_from}

-- a tree of two levels: the page at 1024 has the key 5 between the leaf at 2048, with the rows 3 and 5, and that at 3072, with the row 9
abbrev pub says_at : ℕ → Option Body
says_at x =
    if x == 1024 then Some (inner_body ((5 ∷ [], 2048) ∷ []) 3072)
    else if x == 2048 then Some (leaf_body ((3 ∷ [], pos 30) ∷ (5 ∷ [], pos 50) ∷ []))
    else if x == 3072 then Some (leaf_body ((9 ∷ [], pos 90) ∷ []))
    else None

-- a free list of two pages, at 4096 and 5120
abbrev pub next_free : ℕ → Option ℕ
next_free x = if x == 4096 then Some 5120 else if x == 5120 then Some 0 else None

pub record WalksAreWorked : Type 0 where
  pub inners : inners_below says_at 1 1024 ≡ 1024 ∷ []
  pub leaves : leaves_below says_at 1 1024 ≡ 2048 ∷ 3072 ∷ []
  pub met : entries_below says_at 1 1024 ≡ (2048, 0, a_row (3 ∷ []) (pos 30)) ∷ (2048, 1, a_row (5 ∷ []) (pos 50)) ∷ (1024, 0, a_bound (5 ∷ [])) ∷ (3072, 0, a_row (9 ∷ []) (pos 90)) ∷ []
  pub frees : free_from next_free 6 4096 ≡ 4096 ∷ 5120 ∷ []
  pub unmarked : free_from next_free 6 2048 ≡ 2048 ∷ []
  pub ring : free_from (λ x. Some 4096) 3 4096 ≡ 4096 ∷ 4096 ∷ 4096 ∷ []
  pub first_leaf : last_link [] ≡ negsuc 0
  pub behind_two : last_link (2048 ∷ 3072 ∷ []) ≡ pos 3072
  pub last_leaf : first_link [] ≡ negsuc 0
  pub before_two : first_link (3072 ∷ 2048 ∷ []) ≡ pos 3072
  pub null_found : wanted_link (negsuc 0) ≡ pos 1024
  pub other_found : wanted_link (pos 1025) ≡ negsuc 0

-- blocks of 1,024 bytes, 64 in the volume; a run; a stream of one level with these runs, this range and this size, whose indirect run is this
abbrev pub small : Sizes
small = record { block_size = 1024; blocks = 64; group_blocks = 8192 }

abbrev pub run_of : ℤ → ℕ → ℕ → Run
run_of group start len = record { group = group; start = start; len = len }

abbrev pub flat : List Run → ℤ → ℤ → Run → Levels
flat direct range size indirect = record {
  stream = record {
    direct = direct;
    max_direct_range = range;
    indirect = indirect;
    max_indirect_range = pos 0;
    double_indirect = run_of (pos 0) 0 0;
    max_double_indirect_range = pos 0;
    size = size;
  };
  table = [];
  arrays = [];
  runs = [];
}

-- Two blocks with a range of one; a run of two at the volume's last block; a run in the group -1; a size above the two blocks, and below
-- 0; an indirect run of four blocks behind one direct run. An address of two blocks, and one of the block 64.
pub record StreamsAreWorked : Type 0 where
  pub range : IsLevelFault small (flat (run_of (pos 0) 5 2 ∷ []) (pos 1024) (pos 0) (run_of (pos 0) 0 0)) (pos 1024) (pos 2048)
  pub leaves : IsLevelFault small (flat (run_of (pos 0) 63 2 ∷ []) (pos 2048) (pos 0) (run_of (pos 0) 0 0)) (pos 65) (pos 64)
  pub outside : IsLevelFault small (flat (run_of (negsuc 0) 5 2 ∷ []) (pos 2048) (pos 0) (run_of (pos 0) 0 0)) (negsuc 0) (pos 0)
  pub long : IsLevelFault small (flat (run_of (pos 0) 5 2 ∷ []) (pos 2048) (pos 2049) (run_of (pos 0) 0 0)) (pos 2049) (pos 2048)
  pub short : IsLevelFault small (flat (run_of (pos 0) 5 2 ∷ []) (pos 2048) (negsuc 0) (run_of (pos 0) 0 0)) (negsuc 0) (pos 2048)
  pub early : IsLevelFault small (flat (run_of (pos 0) 5 2 ∷ []) (pos 2048) (pos 0) (run_of (pos 0) 9 4)) (pos 4) (pos 0)
  pub pair : IsAddressFault small (run_of (pos 0) 5 2) (pos 2) (pos 1)
  pub past : IsAddressFault small (run_of (pos 0) 64 1) (pos 64) (pos 64)

-- An item of the type CSTR with the one-byte name 0x13 has a node's own name; one of another type, or none, is a missing one. A row that is
-- missing has the value 0.
pub record NamesAreWorked : Type 0 where
  pub own : own_bytes (Some (record { kind = 0x43535452; name = 19 ∷ []; bytes = 97 ∷ [] })) ≡ Some (97 ∷ [])
  pub other : own_bytes (Some (record { kind = 0x52415754; name = 19 ∷ []; bytes = 97 ∷ [] })) ≡ None
  pub none : own_bytes None ≡ None
  pub no_row : or_zero None ≡ pos 0
  pub row : or_zero (Some (pos 7)) ≡ pos 7
