-- What a look at a call finds of a volume.
use Rattle.std.specs.Prelude.{◌≡◌, ◌≤◌, ◌<◌, ◌+◌, ℕ, ℤ, List, Bool, Option, None, true, false}
use Rattle.bfs_super.specs.declared.geometry.Geometry.{Geometry}
use Rattle.bfs_super.specs.declared.sup.Super.{Super}
use Rattle.bfs_bitmap.specs.Runs.{Room}
use Rattle.bfs_tree.specs.declared.call.Call.{Call}
use Rattle.bfs_tree.specs.declared.state.Hold.{Hold}
use Rattle.bfs_tree.specs.Refusals.{own_refusal}
use Rattle.bfs_tree.specs.States.{State}
use Rattle.bfs_tree.specs.Steps.{changes_tree, is_done}
use Rattle.bfs_tree.specs.Trees.{Node, Tree, IsNode, is_file}
use Rattle.bfs_sound.specs.Need.{cost_of, logged_need, need}
use Rattle.bfs_shift.specs.Shifts.{volume_in}
use Rattle.bfs_look.specs.Ready.{HasReady}
use Rattle.bfs_query.specs.Resting.{HasFound, SaysFound}
use Rattle.bfs_calls.specs.Allowances.{allowance}
use Rattle.bfs_calls.specs.Refusals.{is_own, MayBeMade}
use Rattle.bfs_hold.specs.Sized.{MayBeSized}
use Rattle.bfs_index_make.specs.Written.{MayBear}
use Rattle.bfs_index_make.specs.Made.{MayIndex}
use Rattle.bfs_rename.specs.Refused.{IsPlace}
use Rattle.bfs_super.specs.Conditions.{natural}
use Rattle.bfs_tree.specs.declared.call.Call.TheVariants as calls
use Rattle.bfs_answers.specs.Answered.{AnswersIn}
use Rattle.bfs_answers.specs.declared.answers.Allowance.{Allowance}
use Rattle.bfs_answers.specs.declared.answers.Looked.{Looked}
use Rattle.bfs_answers.specs.declared.answers.Looked.TheVariants.{Answered, Allowed}

-- A call that changes the tree has no refusal of its own in any state that has this tree and these holds. Of the blocks that the log holds it is
-- allowed to change so many, at most Need for the log; and it may take as many, and the data blocks that a file gains, at most Need.
pub record IsAllowed (g : Geometry) (m : ℕ → Option (List ℕ)) (tree : Tree) (holds : List Hold) (call : Call) (a : Allowance) : Type 0 where
  pub changes : changes_tree call ≡ true
  pub fine : (s : State) → s.tree ≡ tree → s.holds ≡ holds → own_refusal call s ≡ None
  pub logged_is : a.logged ≡ allowance (volume_in g m) tree call
  pub taken_is : a.taken ≡ a.logged + (cost_of (volume_in g m) tree call).file
  pub logged : a.logged ≤ logged_need (volume_in g m) tree call
  pub taken : a.taken ≤ need (volume_in g m) tree call

-- The tree alone answers the call so, in every state that has it and these holds, and the tree stays; or it is allowed so many blocks.
abbrev pub IsLooked : Geometry → (ℕ → Option (List ℕ)) → Tree → List Hold → Call → Looked → Type 0
IsLooked g m tree holds call (Answered reply) = (stamp : ℤ) → AnswersIn stamp call reply tree holds tree
IsLooked g m tree holds call (Allowed a) = IsAllowed g m tree holds call a

-- a reply that a look finds is one that the tree alone gives
abbrev pub FindsOwn : Looked → Type 0
FindsOwn (Answered reply) = is_own reply ≡ true
FindsOwn (Allowed a) = Unit {0}

-- the call is to be done: it is answered so, or it is allowed so many blocks
abbrev pub is_to_do : Looked → Bool
is_to_do (Answered reply) = is_done reply
is_to_do (Allowed a) = true

-- a piece of at most 65,536 bytes lies in a file
pub record IsHeldIn (tree : Tree) (id at count : ℕ) : Type 0 where
  pub node : Node
  pub there : IsNode tree id node
  pub file : is_file node.kind ≡ true
  pub few : count ≤ 65536
  pub below : at + count ≤ node.size

-- what is found of a call that may be done holds whatever the volume
abbrev pub FindsMay : (Super → Call → Type 0) → Super → Call → Looked → Type 0
FindsMay may sup call (Answered reply) = Unit {0}
FindsMay may sup call (Allowed a) = may sup call

-- the calls that are built so far
abbrev pub is_built : Call → Bool
is_built (calls.Make dir name kind mode) = true
is_built (calls.SetMode id mode uid gid) = true
is_built (calls.SetSize id size) = true
is_built (calls.Remove dir name) = true
is_built (calls.Rename dir name to_dir to_name) = true
is_built (calls.AttrWrite id name kind bytes) = true
is_built (calls.AttrRemove id name) = true
is_built (calls.IndexMake name kind) = true
is_built (calls.IndexRemove name) = true
is_built (calls.Lookup dir name) = true
is_built (calls.List dir) = true
is_built (calls.Stat id) = true
is_built (calls.ReadLink id) = true
is_built (calls.AttrRead id name) = true
is_built (calls.AttrList id) = true
is_built calls.IndexList = true
is_built (calls.IndexFind name low high) = true
is_built _ = false

-- and with them the call that holds a piece of a file
abbrev pub is_served : Call → Bool
is_served (calls.Hold id at count writes) = true
is_served call = is_built call

-- what is found of those that change a tree: a node that may be made, its directory a block of the volume, its name and target good; a node
-- whose mode is set, a block of the volume; a file that gets a size, a block of the volume, and the size not too big; a file of which a piece is held, a block of the volume; the directory of a node
-- that is removed, a block of the volume; both directories of a node that is renamed, blocks of the volume, and its new name good; the node of an
-- attribute that is written, a block of the volume, its name good and its bytes not too many; an index that is made, its name good and its keys
-- no floats; and nothing of an attribute or an index that is removed
abbrev pub MayBeDone : Super → Call → Type 0
MayBeDone sup (calls.Make dir name kind mode) = MayBeMade (natural sup.num_blocks) dir name kind
MayBeDone sup (calls.SetMode id mode uid gid) = id < natural sup.num_blocks
MayBeDone sup (calls.SetSize id size) = MayBeSized (natural sup.num_blocks) id size
MayBeDone sup (calls.Remove dir name) = dir < natural sup.num_blocks
MayBeDone sup (calls.Rename dir name to_dir to_name) = (dir < natural sup.num_blocks) × IsPlace (natural sup.num_blocks) to_dir to_name
MayBeDone sup (calls.AttrWrite id name kind bytes) = MayBear (natural sup.num_blocks) id name bytes
MayBeDone sup (calls.AttrRemove id name) = Unit {0}
MayBeDone sup (calls.IndexMake name kind) = MayIndex name kind
MayBeDone sup (calls.IndexRemove name) = Unit {0}
MayBeDone sup (calls.Hold id at count writes) = id < natural sup.num_blocks
MayBeDone sup _ = ⊥

-- the call searches an index
abbrev pub is_search : Call → Bool
is_search (calls.IndexFind name low high) = true
is_search _ = false

-- What a look at a call has to see where a map is told: a volume that stands for a tree, with this bitmap; for a search of an index, only what the search rests on.
abbrev pub MaySee : Geometry → Room → (ℕ → Option (List ℕ)) → Call → Type 0
MaySee g v m (calls.IndexFind name low high) = HasFound g m name low high
MaySee g v m _ = HasReady g v m

-- the second map says what the first one does of all that the answer to the call rests on; this is said of a search of an index alone
abbrev pub RestsOn : Geometry → (ℕ → Option (List ℕ)) → (ℕ → Option (List ℕ)) → Tree → Call → Type 0
RestsOn g w m tree (calls.IndexFind name low high) = SaysFound g w m tree name low high
RestsOn g w m tree _ = ⊥
