-- The command line, as `clap` reads it.
use Rattle.std.specs.Prelude.{Some, true, codes}
use Rattle.clap.specs.Walk.{Rule, Text}
use Rattle.clap.specs.Simple.{App, new_rule, new_app, with_rule, with_subcommand, on_top}

-- the option `--name VALUE`
abbrev pub option : Text → Rule
option name = record (new_rule name) { long = Some name }

-- the same argument, where it has to be given
abbrev pub needed : Rule → Rule
needed rule = record rule { required = true }

-- `-j N`
abbrev pub workers : Rule
workers = record (new_rule (codes "workers")) { short = Some 106 }

-- `label NAME`
abbrev pub label_line : App
label_line = with_rule (new_app (codes "label")) (needed (new_rule (codes "name")))

-- `mk --blocks N [--block-size B] [--name NAME]`
abbrev pub mk_line : App
mk_line = with_rule (with_rule (with_rule (new_app (codes "mk")) (needed (option (codes "blocks")))) (option (codes "block-size"))) (option (codes "name"))

-- `check`
abbrev pub check_line : App
check_line = new_app (codes "check")

-- `sh [-j N]`
abbrev pub sh_line : App
sh_line = with_rule (new_app (codes "sh")) workers

-- `soak SEED COUNT [-j N]`
abbrev pub soak_line : App
soak_line = with_rule (with_rule (with_rule (new_app (codes "soak")) (needed (new_rule (codes "seed")))) (needed (new_rule (codes "count")))) workers

-- a command of which the words name a subcommand, with no program's name before them
abbrev pub empty_line : App
empty_line = on_top (λ s. record s { no_binary_name = true; subcommand_required = true }) (new_app (codes "bfs"))

-- the commands of the table, one level below `bfs`
abbrev pub bfs_line : App
bfs_line = with_subcommand (with_subcommand (with_subcommand (with_subcommand (with_subcommand empty_line label_line.top) mk_line.top) check_line.top) sh_line.top) soak_line.top
