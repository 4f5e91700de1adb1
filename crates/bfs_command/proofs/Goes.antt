-- The entries of a call that was answered, before those that are still to come.
use Rattle.std.proofs.Common.{◌≡◌, inr, ⊎_elim, ℕ, List, [], ◌∷◌, ◌++◌, length, Bool, true, false, refl, ap, sym, ◌∙◌, subst, append-nil}
use Rattle.bfs_tree.specs.declared.call.Kind.{Kind}
use Rattle.bfs_tree.specs.declared.call.Call.{Call}
use Rattle.bfs_tree.specs.declared.call.Call.TheVariants as calls
use Rattle.bfs_tree.specs.declared.reply.Reply.{Reply}
use Rattle.bfs_tree.specs.declared.reply.Reply.TheVariants as replies
use Rattle.bfs_tree.specs.declared.reply.Entry.{Entry}
use Rattle.bfs_command.specs.declared.command.Command.{Command}
use Rattle.bfs_command.specs.declared.due.Due.{Due}
use Rattle.bfs_command.specs.declared.due.Due.TheVariants as dues
use Rattle.bfs_text.specs.Printed.{is_held}
use Rattle.bfs_command.specs.Spelled.{Said, calls_for, ends, on_found, on_taken, finds, entries_of, due_at, lets_go}
use Rattle.bfs_command.specs.Left.{left, due_of, found, is_one, is_piece, makes}

-- one entry that isn't answered Held, and what comes behind it
pub one_more : (call : Call) (more : Reply → Said) (reply : Reply) (es rest : List Entry) → is_one call reply es → is_held reply ≡ false → more reply rest → calls_for call more (es ++ rest)
one_more call more reply es rest one held behind =
    subst (λ (l : List Entry). calls_for call more (l ++ rest)) (sym one.1) (one.2, inr (ap is_held one.3 ∙ held, subst (λ (r : Reply). more r rest) (sym one.3) behind))

-- a lookup that found its part, and what comes behind it
pub part_found : (dir : ℕ) (name : List ℕ) (more : ℕ → Said) (id : ℕ) (kind : Kind) (es rest : List Entry) → is_one (calls.Lookup dir name) (replies.Found id kind) es → more id rest → calls_for (calls.Lookup dir name) (on_found more) (es ++ rest)
part_found dir name more id kind es rest one behind = one_more (calls.Lookup dir name) (on_found more) (replies.Found id kind) es rest one refl behind

-- a piece that is answered by Found isn't held, and ends
piece_found : (hold : Call) (released : Said) (id : ℕ) (kind : Kind) (es rest : List Entry) → is_piece hold released (replies.Found id kind) es → rest ≡ [] → calls_for hold (on_taken released) (es ++ rest)
piece_found hold released id kind es rest made nil =
    subst (λ (l : List Entry). calls_for hold (on_taken released) (es ++ l)) (sym nil) (⊎_elim (λ untaken. one_more hold (on_taken released) (replies.Found id kind) es [] untaken.1 refl refl) (λ taken. taken_piece taken) made)
  where
    taken_piece : (is_held (replies.Found id kind) ≡ false) × (e : Entry) × (after : List Entry) × (es ≡ e ∷ after) × (e.call ≡ hold) × (e.reply ≡ replies.Done) × released after → calls_for hold (on_taken released) (es ++ [])
    taken_piece t =
        subst (λ (l : List Entry). calls_for hold (on_taken released) (l ++ [])) (sym t.3) (t.4, inr (ap is_held t.5, subst (λ (r : Reply). on_taken released r (t.2 ++ [])) (sym t.5) (subst released (sym (append-nil t.2)) t.6)))

-- what was due last, and nothing behind it
last_found : (d : Due) (id : ℕ) (kind : Kind) (es rest : List Entry) → makes d (replies.Found id kind) es → rest ≡ [] → entries_of d (es ++ rest)
last_found (dues.Call call) id kind es rest made nil = one_more call ends (replies.Found id kind) es rest made refl nil
last_found (dues.Write at_id at bytes) id kind es rest made nil = piece_found (calls.Hold at_id at (length bytes) true) (lets_go at_id (λ given. given ≡ bytes)) id kind es rest made nil
last_found (dues.Read at_id at count) id kind es rest made nil = piece_found (calls.Hold at_id at count false) (lets_go at_id (λ given. length given ≡ count)) id kind es rest made nil
last_found dues.Sync id kind es rest made nil = one_more calls.Sync ends (replies.Found id kind) es rest made refl nil
last_found dues.Nothing id kind es rest made nil = absurd made

-- what was due, and what is left behind it
pub goes_found : (command : Command) (dir : ℕ) (names : List (List ℕ)) (to_dir : ℕ) (to_names : List (List ℕ)) (ended : Bool) (id : ℕ) (kind : Kind) (es more : List Entry) → makes (due_of (record { command = command; dir = dir; names = names; to_dir = to_dir; to_names = to_names; ended = ended })) (replies.Found id kind) es → left (found id names (record { command = command; dir = dir; names = names; to_dir = to_dir; to_names = to_names; ended = ended })) more → left (record { command = command; dir = dir; names = names; to_dir = to_dir; to_names = to_names; ended = ended }) (es ++ more)
goes_found command dir names to_dir to_names true id kind es more made rest = absurd made
goes_found command dir [] to_dir [] false id kind es more made rest = last_found (due_at command dir to_dir) id kind es more made rest
goes_found command dir [] to_dir (name ∷ to_names) false id kind es more made rest = part_found to_dir name (λ i. finds i to_names (λ t. entries_of (due_at command dir t))) id kind es more made rest
goes_found command dir (name ∷ names) to_dir to_names false id kind es more made rest = part_found dir name (λ i. finds i names (λ d. finds to_dir to_names (λ t. entries_of (due_at command d t)))) id kind es more made rest
