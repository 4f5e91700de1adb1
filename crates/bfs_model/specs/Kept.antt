-- What the program `Model` keeps, as a state of the plain tree.
use Rattle.std.specs.Prelude.{Bool, true, false, List}
use Rattle.bfs_model.specs.declared.model.Model.{Model}
use Rattle.bfs_known.specs.Known.{known_of}
use Rattle.bfs_tree.specs.States.{State}
use Rattle.bfs_tree.specs.Steps.{Step}
use Rattle.bfs_tree.specs.declared.call.Call.{Call}
use Rattle.bfs_tree.specs.declared.call.Call.TheVariants as calls
use Rattle.bfs_tree.specs.declared.reply.Entry.{Entry}
use Rattle.bfs_plain.specs.Plain.{nodes_of, indices_of}

abbrev pub state_of : Model → State
state_of m = record {
  tree = record { root = m.root; nodes = nodes_of m.nodes.entries; indices = indices_of m.indices.entries };
  holds = m.holds.items;
  known = known_of m.known.entries;
}

-- the call leaves the state as it is, and has one answer
abbrev pub is_read : Call → Bool
is_read (calls.Make dir name kind mode) = false
is_read (calls.Remove dir name) = false
is_read (calls.Rename dir name to_dir to_name) = false
is_read (calls.Lookup dir name) = true
is_read (calls.List dir) = true
is_read (calls.Stat id) = true
is_read (calls.SetMode id mode uid gid) = false
is_read (calls.SetSize id size) = false
is_read (calls.ReadLink id) = true
is_read (calls.AttrWrite id name kind bytes) = false
is_read (calls.AttrRead id name) = true
is_read (calls.AttrRemove id name) = false
is_read (calls.AttrList id) = true
is_read (calls.IndexMake name kind) = false
is_read (calls.IndexRemove name) = false
is_read calls.IndexList = true
is_read (calls.IndexFind name low high) = true
is_read (calls.Hold id at count writes) = false
is_read (calls.Release id bytes whole before after) = false
is_read calls.Sync = false

-- some state comes after the entry
abbrev pub IsAStep : State → Entry → Type 0
IsAStep s entry = (after : State) × Step s entry after
