use Rattle.std.proofs.Common.{ℕ, ap, sym, ◌∙◌}
use Rattle.std.specs.Option.{is_some}
use Rattle.bfs_tree.specs.declared.rows.Key.TheVariants as keys
use Rattle.bfs_text.specs.Words.{unescaped, keyed}
use Rattle.bfs_text.proofs.Skipping.{map_some}
use Rattle.bfs_text.proofs.checks.is_keyed.Goals as goal

pub returns-in-1129534546 : goal.returns-in-1129534546
returns-in-1129534546 c =
    c.is_escaped.ensures ∙ sym (map_some keys.Text (unescaped c.args.text.now)) ∙ ap (λ (k : ℕ). is_some (keyed k c.args.text.now)) (sym c.in-1129534546.is)
