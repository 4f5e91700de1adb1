use Rattle.std.proofs.Common.{◌≡◌, ◌≤◌, ◌==◌, take}
use Rattle.std.specs.Prelude.{count_by}
use Rattle.bfs_text.proofs.words.count_slashes.Given as goal

abbrev pub invariant-bytes : goal.invariant-bytes
invariant-bytes l = (l.slashes ≡ count_by (λ b. b == 47) (take l.at l.word)) × (l.slashes ≤ l.at)
