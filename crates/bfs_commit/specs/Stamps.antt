-- The stamps of entries that were appended while the clock stood still.
use Rattle.std.specs.Prelude.{◌≡◌, ◌++◌, ℕ, ℤ, List, [], ◌∷◌}
use Rattle.bfs_tree.specs.declared.reply.Entry.{Entry}
use Rattle.bfs_tree.specs.Histories.{drawn, last_stamp}

-- each of these entries, made while the clock stood at `now`, has the stamp that it draws behind the last one
abbrev pub AreDrawn : ℤ → ℕ → List Entry → Type 0
AreDrawn last now [] = Unit {0}
AreDrawn last now (e ∷ es) = (e.stamp ≡ drawn last now) × AreDrawn e.stamp now es

-- entries were appended whose stamps were drawn while the clock stood at `now`
pub record HasDrawn (before after : List Entry) (now : ℕ) : Type 0 where
  pub entries : List Entry
  pub appended : after ≡ before ++ entries
  pub drawn : AreDrawn (last_stamp before) now entries
