-- What is left of a line, call by call.
use Rattle.std.specs.Prelude.{◌≡◌, ◌+◌, ◌⊎◌, ℕ, List, [], ◌∷◌, length, Bool, true, false, if◌then◌else◌}
use Rattle.bfs_tree.specs.declared.call.Call.{Call}
use Rattle.bfs_tree.specs.declared.call.Call.TheVariants as calls
use Rattle.bfs_tree.specs.declared.reply.Reply.{Reply}
use Rattle.bfs_tree.specs.declared.reply.Reply.TheVariants as replies
use Rattle.bfs_tree.specs.declared.reply.Entry.{Entry}
use Rattle.bfs_command.specs.declared.command.Command.{Command}
use Rattle.bfs_command.specs.declared.due.Due.{Due}
use Rattle.bfs_command.specs.declared.due.Due.TheVariants as dues
use Rattle.bfs_text.specs.Printed.{is_held, is_done}
use Rattle.bfs_command.specs.Spelled.{Said, nothing_more, finds, entries_of, due_at, first_parts, second_parts, lets_go}

-- A command of which some is left: the parts of its first path that are still to be found, from a directory on, and those of its
-- second one; behind them what it does there. Once it has ended, nothing is left.
pub record Rest : Type 0 where
  pub command : Command
  pub dir : ℕ
  pub names : List (List ℕ)
  pub to_dir : ℕ
  pub to_names : List (List ℕ)
  pub ended : Bool

-- at first all of it
abbrev pub begun : ℕ → Command → Rest
begun root command = record { command = command; dir = root; names = first_parts command; to_dir = root; to_names = second_parts command; ended = false }

abbrev pub unless : Bool → Said → Said
unless true es = nothing_more
unless false es = es

-- the entries that are still to come
abbrev pub left : Rest → Said
left r = unless r.ended (finds r.dir r.names (λ id. finds r.to_dir r.to_names (λ to_dir. entries_of (due_at r.command id to_dir))))

-- a Lookup of the first part that is to be found, or what comes behind
abbrev pub looked_up : ℕ → List (List ℕ) → Due → Due
looked_up dir [] more = more
looked_up dir (name ∷ names) more = dues.Call (calls.Lookup dir name)

-- what is due next
abbrev pub due_of : Rest → Due
due_of r = if r.ended then dues.Nothing else looked_up r.dir r.names (looked_up r.to_dir r.to_names (due_at r.command r.dir r.to_dir))

-- a part was found: the next one is looked up from there
abbrev pub found_in : ℕ → List (List ℕ) → Rest → Rest
found_in id [] r = record r { ended = true }
found_in id (name ∷ names) r = record r { to_dir = id; to_names = names }

abbrev pub found : ℕ → List (List ℕ) → Rest → Rest
found id [] r = found_in id r.to_names r
found id (name ∷ names) r = record r { dir = id; names = names }

-- What is left behind an answer: the same, where it is Held; the next part, where one was found; and else nothing.
abbrev pub after : Rest → Reply → Rest
after r (replies.Held session) = r
after r (replies.Found id kind) = found id r.names r
after r _ = record r { ended = true }

-- one entry, of this call and with this answer
abbrev pub is_one : Call → Reply → Said
is_one call reply es = (e : Entry) × (es ≡ e ∷ []) × (e.call ≡ call) × (e.reply ≡ reply)

-- A piece: the entry of a hold that wasn't taken, with this answer; or that of one that was, and its release, where the answer isn't Held.
abbrev pub is_piece : Call → Said → Reply → Said
is_piece hold released reply es =
    ((is_done reply ≡ false) × is_one hold reply es) ⊎ ((is_held reply ≡ false) × (e : Entry) × (rest : List Entry) × (es ≡ e ∷ rest) × (e.call ≡ hold) × (e.reply ≡ replies.Done) × released rest)

-- The entries that are made where what is due is called and gets this answer.
abbrev pub makes : Due → Reply → Said
makes (dues.Call call) reply = is_one call reply
makes (dues.Write id at bytes) reply = is_piece (calls.Hold id at (length bytes) true) (lets_go id (λ given. given ≡ bytes)) reply
makes (dues.Read id at count) reply = is_piece (calls.Hold id at count false) (lets_go id (λ given. length given ≡ count)) reply
makes dues.Sync reply = is_one calls.Sync reply
makes dues.Nothing reply = λ es. ⊥

-- how many answers other than Held are still to come, at most
abbrev pub most_left : Rest → ℕ
most_left r = if r.ended then 0 else length r.names + (length r.to_names + 1)
