-- What the words of the command line ask for.
use Rattle.std.specs.Prelude.{◌≡◌, ◌≤◌, ℕ, List, [], Option, None, Some, codes, slice_index_or}
use Rattle.bfs_super.specs.Geometry.{IsBlockSize}
use Rattle.bfs_super.specs.Label.{IsLabel}
use Rattle.clap.specs.Walk.{Row, Text, first_of}
use Rattle.clap.specs.Simple.{subcommand_of}
use Rattle.clap.specs.Faults.{fault_of}
use Rattle.bfs_words.specs.Line.{bfs_line}
use Rattle.bfs_words.specs.Numbers.{IsNumber}
use Rattle.bfs_words.specs.declared.command.Command.{Command}
use Rattle.bfs_words.specs.declared.command.Command.TheVariants as commands

-- the value of `--blocks`
abbrev pub IsBlocks : Option Text → ℕ → Type 0
IsBlocks None n = ⊥
IsBlocks (Some word) n = IsNumber word n × (n ≤ 4194304)

-- the value of `--block-size`, and 1,024 unless it is given
abbrev pub IsSize : Option Text → ℕ → Type 0
IsSize None n = n ≡ 1024
IsSize (Some word) n = IsNumber word n × IsBlockSize n

-- the value of `--name`, and `untitled` unless it is given
abbrev pub IsName : Option Text → Text → Type 0
IsName None name = name ≡ codes "untitled"
IsName (Some word) name = (name ≡ word) × IsLabel word

-- the NAME of `label`
abbrev pub IsNewName : Option Text → Text → Type 0
IsNewName None name = ⊥
IsNewName (Some word) name = (name ≡ word) × IsLabel word

-- the value of `-j`, and 1 unless it is given; more workers than one aren't built yet
abbrev pub IsWorkers : Option Text → Type 0
IsWorkers None = Unit {0}
IsWorkers (Some word) = IsNumber word 1

-- the SEED of `soak`
abbrev pub IsSeed : Option Text → ℕ → Type 0
IsSeed None n = ⊥
IsSeed (Some word) n = IsNumber word n × (n ≤ 18446744073709551615)

-- the COUNT of `soak`
abbrev pub IsCount : Option Text → ℕ → Type 0
IsCount None n = ⊥
IsCount (Some word) n = IsNumber word n × (n ≤ 1048572)

-- the arguments of `mk` describe this volume
pub record IsVolume (rows : List Row) (blocks size : ℕ) (label : Text) : Type 0 where
  pub blocks_are : IsBlocks (first_of (codes "blocks") rows) blocks
  pub size_is : IsSize (first_of (codes "block-size") rows) size
  pub label_is : IsName (first_of (codes "name") rows) label

-- the arguments of `soak` describe this workload, and ask for one worker
pub record IsWorkload (rows : List Row) (seed count : ℕ) : Type 0 where
  pub seed_is : IsSeed (first_of (codes "seed") rows) seed
  pub count_is : IsCount (first_of (codes "count") rows) count
  pub one_worker : IsWorkers (first_of (codes "workers") rows)

-- what was found is `label` with a good name
abbrev pub FindsLabel : Option (Text × List Row) → Text → Type 0
FindsLabel found name = (rows : List Row) × (found ≡ Some (codes "label", rows)) × IsNewName (first_of (codes "name") rows) name

-- what was found is `mk` with good numbers and a good label
abbrev pub FindsVolume : Option (Text × List Row) → ℕ → ℕ → Text → Type 0
FindsVolume found blocks size label = (rows : List Row) × (found ≡ Some (codes "mk", rows)) × IsVolume rows blocks size label

-- what was found is `check`
abbrev pub FindsCheck : Option (Text × List Row) → Type 0
FindsCheck found = (rows : List Row) × (found ≡ Some (codes "check", rows))

-- what was found is `sh` with one worker
abbrev pub FindsShell : Option (Text × List Row) → Type 0
FindsShell found = (rows : List Row) × (found ≡ Some (codes "sh", rows)) × IsWorkers (first_of (codes "workers") rows)

-- what was found is `soak` with good numbers and one worker
abbrev pub FindsSoak : Option (Text × List Row) → ℕ → ℕ → Type 0
FindsSoak found seed count = (rows : List Row) × (found ≡ Some (codes "soak", rows)) × IsWorkload rows seed count

-- `clap` refuses nothing in the words, and finds `label` with a good name in them
abbrev pub IsLabelCommand : List Text → Text → Type 0
IsLabelCommand words name = (fault_of bfs_line words ≡ []) × FindsLabel (subcommand_of bfs_line words) name

-- `clap` refuses nothing in the words, and finds `mk` with good numbers and a good label in them
abbrev pub IsMakeCommand : List Text → ℕ → ℕ → Text → Type 0
IsMakeCommand words blocks size label = (fault_of bfs_line words ≡ []) × FindsVolume (subcommand_of bfs_line words) blocks size label

-- `clap` refuses nothing in the words, and finds `check` in them
abbrev pub IsCheckCommand : List Text → Type 0
IsCheckCommand words = (fault_of bfs_line words ≡ []) × FindsCheck (subcommand_of bfs_line words)

-- `clap` refuses nothing in the words, and finds `sh` with one worker in them
abbrev pub IsShellCommand : List Text → Type 0
IsShellCommand words = (fault_of bfs_line words ≡ []) × FindsShell (subcommand_of bfs_line words)

-- `clap` refuses nothing in the words, and finds `soak` with good numbers and one worker in them
abbrev pub IsSoakCommand : List Text → ℕ → ℕ → Type 0
IsSoakCommand words seed count = (fault_of bfs_line words ≡ []) × FindsSoak (subcommand_of bfs_line words) seed count

-- a word that begins with no hyphen
abbrev pub IsPlainWord : Text → Type 0
IsPlainWord word = ¬ (slice_index_or word 0 45 ≡ 45)

-- words that are no command
pub record IsFaulty (words : List Text) : Type 0 where
  pub some : ¬ (words ≡ [])
  pub no_label : (name : Text) → IsLabelCommand words name → ⊥
  pub no_volume : (blocks size : ℕ) (label : Text) → IsMakeCommand words blocks size label → ⊥
  pub no_check : IsCheckCommand words → ⊥
  pub no_shell : IsShellCommand words → ⊥
  pub no_soak : (seed count : ℕ) → IsSoakCommand words seed count → ⊥

-- what was found asks for
abbrev pub Means : Option (Text × List Row) → Command → Type 0
Means found commands.Usage = ⊥
Means found (commands.Label name) = FindsLabel found name.now
Means found (commands.Make volume) = FindsVolume found volume.blocks volume.block_size volume.label.now
Means found commands.Check = FindsCheck found
Means found commands.Shell = FindsShell found
Means found (commands.Soak workload) = FindsSoak found workload.seed workload.count
Means found (commands.Faulty complaint) = ((name : Text) → FindsLabel found name → ⊥) × ((blocks size : ℕ) (label : Text) → FindsVolume found blocks size label → ⊥) × (FindsCheck found → ⊥) × (FindsShell found → ⊥)
    × ((seed count : ℕ) → FindsSoak found seed count → ⊥)

-- what the words ask for
abbrev pub Asks : List Text → Command → Type 0
Asks words commands.Usage = words ≡ []
Asks words (commands.Label name) = IsLabelCommand words name.now
Asks words (commands.Make volume) = IsMakeCommand words volume.blocks volume.block_size volume.label.now
Asks words commands.Check = IsCheckCommand words
Asks words commands.Shell = IsShellCommand words
Asks words (commands.Soak workload) = IsSoakCommand words workload.seed workload.count
Asks words (commands.Faulty complaint) = IsFaulty words
