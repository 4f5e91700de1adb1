-- The text of a history: a line for each entry that has words.
use Rattle.std.specs.Prelude.{ℕ, List, [], ◌∷◌, ◌++◌, Option, Some, None, Bool, false, not, ◌||◌, ◌==◌, if◌then◌else◌, codes, decimal}
use Rattle.bfs_tree.specs.declared.call.Call.{Call}
use Rattle.bfs_tree.specs.declared.call.Call.TheVariants as calls
use Rattle.bfs_tree.specs.declared.reply.Reply.{Reply}
use Rattle.bfs_tree.specs.declared.reply.Reply.TheVariants as replies
use Rattle.bfs_tree.specs.declared.reply.Entry.{Entry}
use Rattle.bfs_text.specs.Printed.{counted, words_of_reply, is_done, is_found, is_held}

-- the words of a piece that was let go: one that wasn't read or written whole, one that was read, and one that was written
abbrev pub words_of_piece : Bool → Bool → List ℕ → List ℕ
words_of_piece reading whole bytes = if not whole then codes "diskfault" else if reading then codes "ok " ++ counted bytes else codes "ok"

-- the words of an entry, by whether the session's piece was held for reading
abbrev pub words_of_entry : Bool → Call → Reply → List ℕ
words_of_entry reading (calls.Release id bytes whole before after) replies.Done = words_of_piece reading whole bytes
words_of_entry reading call reply = words_of_reply reply

-- An entry without a line: of session 0, one that is answered Held, a Lookup that found its node, or a Hold that was taken.
abbrev pub is_silent_call : Call → Reply → Bool
is_silent_call (calls.Lookup dir name) reply = is_found reply
is_silent_call (calls.Hold id at count writes) reply = is_done reply
is_silent_call _ _ = false

abbrev pub is_quiet : Entry → Bool
is_quiet e = (e.session == 0) || (is_held e.reply || is_silent_call e.call e.reply)

-- tag, session, words and a line feed
abbrev pub line_of : Bool → Entry → List ℕ
line_of reading e = if is_quiet e then [] else decimal e.tag ++ (32 ∷ (decimal e.session ++ (32 ∷ (words_of_entry reading e.call e.reply ++ (10 ∷ [])))))

-- the piece that a session holds last: whether it is held for reading, where the call took one
abbrev pub holding_of : Call → Reply → Option Bool
holding_of (calls.Hold id at count writes) replies.Done = Some (not writes)
holding_of _ _ = None

-- which sessions hold their last piece for reading, after an entry
abbrev pub held_by : Option Bool → ℕ → (ℕ → Bool) → ℕ → Bool
held_by None session reading s = reading s
held_by (Some reads) session reading s = if s == session then reads else reading s

abbrev pub reading_after : (ℕ → Bool) → Entry → ℕ → Bool
reading_after reading e = held_by (holding_of e.call e.reply) e.session reading

abbrev pub text_from : (ℕ → Bool) → List Entry → List ℕ
text_from reading [] = []
text_from reading (e ∷ es) = line_of (reading e.session) e ++ text_from (reading_after reading e) es

-- Text: the lines of a history, where at first nobody holds a piece
abbrev pub text_of : List Entry → List ℕ
text_of history = text_from (λ s. false) history
