-- Which entries of a history are those of a script's lines.
use Rattle.std.specs.Prelude.{◌≡◌, ◌<◌, ◌⊎◌, ℕ, List, [], ◌∷◌, ◌++◌, length, Bool, true, false, ◌==◌, IsTrue}
use Rattle.std.specs.List.{All, filter}
use Rattle.bfs_tree.specs.declared.call.Call.{Call}
use Rattle.bfs_tree.specs.declared.call.Call.TheVariants as calls
use Rattle.bfs_tree.specs.declared.call.MakeKind.TheVariants as make
use Rattle.bfs_tree.specs.declared.reply.Reply.{Reply}
use Rattle.bfs_tree.specs.declared.reply.Reply.TheVariants as replies
use Rattle.bfs_tree.specs.declared.reply.Entry.{Entry}
use Rattle.bfs_command.specs.declared.command.Command.{Command}
use Rattle.bfs_command.specs.declared.command.Command.TheVariants as commands
use Rattle.bfs_command.specs.declared.line.Line.{Line}
use Rattle.bfs_command.specs.declared.due.Due.{Due}
use Rattle.bfs_command.specs.declared.due.Due.TheVariants as dues
use Rattle.bfs_text.specs.Printed.{is_held}
use Rattle.bfs_text.specs.Paths.{folders, last_name}

-- the entries of one line, which all have the line's session and its number as tag
abbrev pub Said : Type 1
Said = List Entry → Type 0

-- no entry more
abbrev pub nothing_more : Said
nothing_more es = es ≡ []

-- One call, made again each time that it is answered Held. What comes behind it is by its last reply.
abbrev pub calls_for : Call → (Reply → Said) → Said
calls_for call more [] = ⊥
calls_for call more (e ∷ es) = (e.call ≡ call) × ((IsTrue (is_held e.reply) × calls_for call more es) ⊎ ((is_held e.reply ≡ false) × more e.reply es))

-- the last reply, whatever it is
abbrev pub ends : Reply → Said
ends reply es = es ≡ []

-- a Lookup that found its node goes on from there, and any other ends the line
abbrev pub on_found : (ℕ → Said) → Reply → Said
on_found more (replies.Found id kind) es = more id es
on_found more _ es = es ≡ []

-- the parts of a path are found one after the other, from a directory on
abbrev pub finds : ℕ → List (List ℕ) → (ℕ → Said) → Said
finds dir [] more = more dir
finds dir (name ∷ names) more = calls_for (calls.Lookup dir name) (on_found (λ id. finds id names more))

-- the one call behind which the line ends
abbrev pub says : Call → Said
says call = calls_for call ends

-- the piece of a hold that was taken is let go: whole with the bytes that were given, where it was written, or not whole
abbrev pub lets_go : ℕ → (List ℕ → Type 0) → Said
lets_go id given es =
    (e : Entry) × (bytes : List ℕ) × (whole : Bool) × (before : ℕ) × (after : ℕ) × (es ≡ e ∷ []) × (e.call ≡ calls.Release id bytes whole before after) × (whole ≡ true → given bytes)

abbrev pub on_taken : Said → Reply → Said
on_taken more replies.Done es = more es
on_taken more _ es = es ≡ []

-- a piece is held, and let go where the hold was taken
abbrev pub holds : ℕ → ℕ → ℕ → Bool → (List ℕ → Type 0) → Said
holds id at count writes given = calls_for (calls.Hold id at count writes) (on_taken (lets_go id given))

-- ---- commands

-- The parts that a command has to find first: all of a path, and those that lead to the folder of a node that is made, removed or moved.
abbrev pub first_parts : Command → List (List ℕ)
first_parts (commands.Make path) = folders path
first_parts (commands.MakeDir path) = folders path
first_parts (commands.MakeLink path target) = folders path
first_parts (commands.Remove path) = folders path
first_parts (commands.Rename path to) = folders path
first_parts (commands.List path) = path
first_parts (commands.Stat path) = path
first_parts (commands.SetMode path mode uid gid) = path
first_parts (commands.SetSize path size) = path
first_parts (commands.ReadLink path) = path
first_parts (commands.AttrWrite path name kind bytes) = path
first_parts (commands.AttrRead path name) = path
first_parts (commands.AttrRemove path name) = path
first_parts (commands.AttrList path) = path
first_parts (commands.Write path at bytes) = path
first_parts (commands.Read path at count) = path
first_parts _ = []

-- `mv` then finds the folder of the second node
abbrev pub second_parts : Command → List (List ℕ)
second_parts (commands.Rename path to) = folders to
second_parts _ = []

-- What a command does once its paths are found, at a node, or at a node's folder, and for `mv` at the second node's folder too.
abbrev pub due_at : Command → ℕ → ℕ → Due
due_at (commands.Make path) dir to_dir = dues.Call (calls.Make dir (last_name path) make.File 420)
due_at (commands.MakeDir path) dir to_dir = dues.Call (calls.Make dir (last_name path) make.Dir 493)
due_at (commands.MakeLink path target) dir to_dir = dues.Call (calls.Make dir (last_name path) (make.Link target) 511)
due_at (commands.Remove path) dir to_dir = dues.Call (calls.Remove dir (last_name path))
due_at (commands.Rename path to) dir to_dir = dues.Call (calls.Rename dir (last_name path) to_dir (last_name to))
due_at (commands.List path) id to_dir = dues.Call (calls.List id)
due_at (commands.Stat path) id to_dir = dues.Call (calls.Stat id)
due_at (commands.SetMode path mode uid gid) id to_dir = dues.Call (calls.SetMode id mode uid gid)
due_at (commands.SetSize path size) id to_dir = dues.Call (calls.SetSize id size)
due_at (commands.ReadLink path) id to_dir = dues.Call (calls.ReadLink id)
due_at (commands.AttrWrite path name kind bytes) id to_dir = dues.Call (calls.AttrWrite id name kind bytes)
due_at (commands.AttrRead path name) id to_dir = dues.Call (calls.AttrRead id name)
due_at (commands.AttrRemove path name) id to_dir = dues.Call (calls.AttrRemove id name)
due_at (commands.AttrList path) id to_dir = dues.Call (calls.AttrList id)
due_at (commands.Write path at bytes) id to_dir = dues.Write id at bytes
due_at (commands.Read path at count) id to_dir = dues.Read id at count
due_at (commands.IndexMake name kind) id to_dir = dues.Call (calls.IndexMake name kind)
due_at (commands.IndexRemove name) id to_dir = dues.Call (calls.IndexRemove name)
due_at commands.IndexList id to_dir = dues.Call calls.IndexList
due_at (commands.IndexFind name low high) id to_dir = dues.Call (calls.IndexFind name low high)
due_at commands.Sync id to_dir = dues.Sync

-- The entries of what is due last: of a call it is one, of a piece its hold and its release, where it was taken.
abbrev pub entries_of : Due → Said
entries_of (dues.Call call) = says call
entries_of (dues.Write id at bytes) = holds id at (length bytes) true (λ given. given ≡ bytes)
entries_of (dues.Read id at count) = holds id at count false (λ given. length given ≡ count)
entries_of dues.Sync = says calls.Sync
entries_of dues.Nothing = nothing_more

-- What a command's entries are: for each part that must be found a Lookup, the parts of its first path and then those of its second, and then its call.
abbrev pub spelled_by : ℕ → Command → Said
spelled_by root command = finds root (first_parts command) (λ id. finds root (second_parts command) (λ to_dir. entries_of (due_at command id to_dir)))

-- ---- lines

-- the entries of a line have its session, and its number as tag
abbrev pub AreOf : Line → List Entry → Type 0
AreOf line es = All (λ e. (e.session ≡ line.session) × (e.tag ≡ line.number)) es

-- the entries are those of these lines, one line after the other, each with the line's number as tag
abbrev pub AreOfLines : ℕ → List Line → List Entry → Type 0
AreOfLines root [] es = es ≡ []
AreOfLines root (line ∷ lines) es =
    (first : List Entry) × (rest : List Entry) × (es ≡ first ++ rest) × All (λ e. e.tag ≡ line.number) first × spelled_by root line.command first × AreOfLines root lines rest

-- Spelled: for each session from 1 on, its entries are those of its lines, in the script's order. Paths begin at the root.
abbrev pub Spelled : ℕ → List Entry → List Line → Type 0
Spelled root history script =
    (s : ℕ) → 0 < s → AreOfLines root (filter (λ line. line.session == s) script) (filter (λ e. e.session == s) history)

-- Spelled so far: for each session from 1 on, its entries are the first of those of its lines.
abbrev pub SpelledSoFar : ℕ → List Entry → List Line → Type 0
SpelledSoFar root history script =
    (s : ℕ) → 0 < s → (more : List Entry) × AreOfLines root (filter (λ line. line.session == s) script) (filter (λ e. e.session == s) history ++ more)
