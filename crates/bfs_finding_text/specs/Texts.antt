-- The line of a finding: its words and its numbers in decimal, each behind a space. Names and keys are escaped as in the text of a
-- history.
use Rattle.std.specs.Prelude.{ℕ, List, [], ◌∷◌, ◌++◌, Option, Some, None, codes}
use Rattle.bfs_bytes.specs.declared.Run.{Run}
use Rattle.bfs_log.specs.declared.entry.EntryFault.{EntryFault}
use Rattle.bfs_log.specs.declared.entry.EntryFault.TheVariants as entries
use Rattle.bfs_tree.specs.declared.rows.Key.{Key}
use Rattle.bfs_text.specs.Printed.{word, named, key_word, and_number, and_stamp}
use Rattle.bfs_finding.specs.Which.{fault_number, inode_number, page_number}
use Rattle.bfs_finding.specs.declared.finding.Finding.{Finding}
use Rattle.bfs_finding.specs.declared.finding.Finding.TheVariants as finds

-- a space and a key; a space and a node's own name, or `-` where its item is missing
abbrev pub and_key : Key → List ℕ
and_key key = 32 ∷ key_word key

abbrev pub and_own : Option (List ℕ) → List ℕ
and_own None = codes " -"
and_own (Some name) = named name

-- an index, a key and the number of a node
abbrev pub row_words : List ℕ → Key → ℕ → List ℕ
row_words index key id = named index ++ (and_key key ++ and_number id)

abbrev pub words_of : Finding → List ℕ
words_of (finds.Super fault) = codes "super" ++ and_number (fault_number fault)
words_of (finds.Log start end) = codes "log" ++ (and_stamp start ++ and_stamp end)
words_of (finds.Inode block part found) = codes "inode" ++ (and_number block ++ (and_number (inode_number part) ++ and_stamp found))
words_of (finds.Stream owner found wanted) = codes "stream" ++ (and_number owner ++ (and_stamp found ++ and_stamp wanted))
words_of (finds.Shared block first second) = codes "shared" ++ (and_number block ++ (and_number first ++ and_number second))
words_of (finds.TreeOrder owner page index) = codes "treeorder" ++ (and_number owner ++ (and_number page ++ and_number index))
words_of (finds.TreeLink owner page found wanted) = codes "treelink" ++ (and_number owner ++ (and_number page ++ (and_stamp found ++ and_stamp wanted)))
words_of (finds.TreePage owner page part) = codes "treepage" ++ (and_number owner ++ (and_number page ++ and_number (page_number part)))
words_of (finds.Row owner value) = codes "row" ++ (and_number owner ++ and_stamp value)
words_of (finds.Name id row item) = codes "name" ++ (and_number id ++ (named row ++ and_own item))
words_of (finds.Parent id found wanted) = codes "parent" ++ (and_number id ++ (and_stamp found ++ and_number wanted))
words_of (finds.Attribute id name) = codes "attribute" ++ (and_number id ++ named name)
words_of (finds.IndexMissing name) = codes "indexrow missing" ++ (named name ++ codes " - 0")
words_of (finds.RowMissing index key id) = codes "indexrow missing" ++ row_words index key id
words_of (finds.RowExtra index key id) = codes "indexrow extra" ++ row_words index key id
words_of (finds.BitUnset block owner) = codes "bitunset" ++ (and_number block ++ and_number owner)
words_of (finds.BitExtra block) = codes "bitextra" ++ and_number block
words_of (finds.Used found wanted) = codes "used" ++ (and_stamp found ++ and_number wanted)

-- a disk that is too short, and an entry of the log that is malformed
abbrev pub short_words : ℕ → ℕ → List ℕ
short_words sectors needed = codes "short" ++ (and_number sectors ++ and_number needed)

abbrev pub entry_words : EntryFault → List ℕ
entry_words (entries.Count count max_runs) = codes "entry" ++ (and_stamp count ++ and_stamp max_runs)
entry_words (entries.RunPlace run) = codes "entryrun" ++ (and_stamp run.group ++ (and_number run.start ++ and_number run.len))
entry_words (entries.PastEnd blocks room) = codes "entryend" ++ (and_number blocks ++ and_number room)

-- the line of these words
abbrev pub line_of : List ℕ → List ℕ
line_of words = codes "finding " ++ (words ++ (10 ∷ []))
