-- Tests on the order of keys.
use Rattle.std.specs.Prelude.{ℕ, List, Bool, true, false, if◌then◌else◌}
use Rattle.std.specs.Ordering.{is_lt, is_eq}
use Rattle.bfs_node.specs.BaseKeyKind.{KeyKind}
use Rattle.bfs_node.specs.Keys.{key_cmp}

-- the bytes of a key
abbrev pub Key : Type 0
Key = List ℕ

-- a is less than b
abbrev pub comes_before : KeyKind → Key → Key → Bool
comes_before kind a b = is_lt (key_cmp kind a b)

-- a is at most b
abbrev pub at_most : KeyKind → Key → Key → Bool
at_most kind a b = if comes_before kind b a then false else true

-- neither is less
abbrev pub same_keys : KeyKind → Key → Key → Bool
same_keys kind a b = is_eq (key_cmp kind a b)
