-- How the steps of a call are put together that gives a file another size, and what is known at its end.
use Rattle.std.specs.Prelude.{ℕ, ℤ, List, [], Bool, Option}
use Rattle.bfs_super.specs.declared.geometry.Geometry.{Geometry}
use Rattle.bfs_bitmap.specs.Runs.{Room, IsSettled}
use Rattle.bfs_tree.specs.Trees.{Tree}
use Rattle.bfs_tree.specs.declared.state.Hold.{Hold}
use Rattle.bfs_shift.specs.Lists.{Lists}
use Rattle.bfs_shift.specs.Work.{IsAtWork, GoesOn}
use Rattle.bfs_look.specs.Ready.{IsReady}
use Rattle.bfs_leave.specs.Leaving.{IsClear}
use Rattle.bfs_leave.specs.Laws.{IsCallLeft}
use Rattle.bfs_set_size.specs.Resizing.{Resizes}
use Rattle.bfs_set_size.specs.Sized.{IsSizedSo}

-- steps that give nothing back are such steps, whatever file is meant and whether it grows, where no reserved block was marked; and so are
-- two in a row
abbrev pub GoesOnResizes : Type 0
GoesOnResizes = (g : Geometry) (v now : Room) (m map : ℕ → Option (List ℕ)) (tree after : Tree) (id : ℕ) (grows : Bool) (old new : ℕ → Bool) → IsClear g v m
    → GoesOn g v now m map tree after old new → Resizes g v now m map tree after id grows old new

abbrev pub ResizesTwice : Type 0
ResizesTwice = (g : Geometry) (v now later : Room) (m mid map : ℕ → Option (List ℕ)) (tree between after : Tree) (id : ℕ) (grows : Bool) (old new last : ℕ → Bool)
    → Resizes g v now m mid tree between id grows old new → Resizes g now later mid map between after id grows new last → Resizes g v later m map tree after id grows old last

-- A call that has given a file another size has ended with nothing loose: it is known of it what is known of a call that may give blocks
-- back.
abbrev pub ResizingIsLeft : Type 0
ResizingIsLeft = (g : Geometry) (v now : Room) (m map : ℕ → Option (List ℕ)) (tree after : Tree) (before lists : Lists) (id : ℕ) (grows : Bool) (old new : ℕ → Bool)
    → IsSettled v → IsClear g v m → IsAtWork g v m tree before [] → IsAtWork g now map after lists [] → Resizes g v now m map tree after id grows old new
    → IsCallLeft g v now m map tree after old new

-- So it is of a whole call.
abbrev pub SizedIsLeft : Type 0
SizedIsLeft = (g : Geometry) (v now : Room) (m : ℕ → Option (List ℕ)) (tree : Tree) (lists : Lists) (holds : List Hold) (stamp : ℤ) (id size : ℕ) (told : Option (ℕ → Option (List ℕ))) (old new : ℕ → Bool)
    → IsSettled v → IsReady g v m tree lists → (sized : IsSizedSo g v now m tree holds stamp id size told old new)
    → IsCallLeft g v now m sized.step.map tree sized.after old new
