-- The summary of a run.
use Rattle.std.specs.Prelude.{ℕ, List, ◌++◌, take, Bool, not, false, ◌&&◌, codes, decimal, count_by}
use Rattle.std.specs.Str.{bytes_eq}
use Rattle.bfs_tree.specs.declared.reply.Entry.{Entry}
use Rattle.bfs_script.specs.Texts.{is_quiet, words_of_entry}

-- the entry's words begin with `ok`, whether its piece was read or written
abbrev pub is_ok : Entry → Bool
is_ok e = bytes_eq (take 2 (words_of_entry false e.call e.reply)) (codes "ok")

-- the entries with a line that are done, and those that are refused
abbrev pub count_ok : List Entry → ℕ
count_ok history = count_by (λ e. not (is_quiet e) && is_ok e) history

abbrev pub count_refused : List Entry → ℕ
count_refused history = count_by (λ e. not (is_quiet e) && not (is_ok e)) history

abbrev pub summary_of : ℕ → List Entry → ℕ → List ℕ
summary_of lines history nodes =
    codes "lines " ++ (decimal lines ++ (codes " ok " ++ (decimal (count_ok history) ++ (codes " refused " ++ (decimal (count_refused history) ++ (codes " nodes " ++ (decimal nodes ++ codes "\n")))))))
