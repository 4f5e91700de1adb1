use Rattle.std.proofs.Common.{◌≡◌, ◌∙◌, ℕ, List, [], Some, refl, sym, ap, subst}
use Rattle.std.specs.FinMap.{empty}
use Rattle.std.specs.Option.{option_map}
use Rattle.bfs_super.specs.Geometry.{geometry_of}
use Rattle.bfs_txn.specs.Changed.{over}
use Rattle.bfs_tree.specs.States.{State}
use Rattle.bfs_tree.specs.Trees.{Tree}
use Rattle.bfs_look.specs.Ready.{IsReady, HasReady}
use Rattle.bfs_replies.proofs.Fits.{mapped}
use Rattle.bfs_replies.proofs.Replaced.{looked_there, undone_unanswered}
use Rattle.bfs_replies.proofs.replacing.is_there.Goals as goal

-- a state with this tree, of which nothing else is asked
abbrev bare : Tree → State
bare tree = record { tree = tree; holds = []; known = empty }

pub lookup-found-requires-clause-ready : goal.lookup-found-requires-clause-ready
lookup-found-requires-clause-ready g c = λ m e.
    let r = mapped (over c.begin-overlay.result.group.now) (g.B.Blocks.told c.begin-overlay.result.under.now) m e in
    subst (HasReady (geometry_of c.args.sup.now) c.args.bitmap.now) r.1.1
    (subst (λ (ps : List (ℕ × List ℕ)). HasReady (geometry_of c.args.sup.now) c.args.bitmap.now (over ps r.0)) (sym c.begin-overlay.ensures.open_now) (c.requires.ready r.0 (ap g.B.Blocks.told (sym c.begin-overlay.ensures.under_now) ∙ r.1.0)))

pub returns-in-Ok-clause-there : goal.returns-in-Ok-clause-there
returns-in-Ok-clause-there g c = λ m tree lists told ready d at directory.
    let under : g.B.Blocks.told c.begin-overlay.result.under.now ≡ Some m = ap g.B.Blocks.told c.begin-overlay.ensures.under_now ∙ told in
    let here = subst (λ (ps : List (ℕ × List ℕ)). IsReady (geometry_of c.args.sup.now) c.args.bitmap.now (over ps m) tree lists) (sym c.begin-overlay.ensures.open_now) ready in
    c.is_found.ensures ∙ looked_there (bare tree) tree c.args.dir c.args.name.now c.in-Ok.reply refl (c.in-Ok.ensures.reads (over c.begin-overlay.result.group.now m) tree lists (bare tree) (ap (option_map (over c.begin-overlay.result.group.now)) under) here refl) d at directory

pub returns-in-Err-clause-unanswered : goal.returns-in-Err-clause-unanswered
returns-in-Err-clause-unanswered g c = λ m tree lists told ready.
    let under : g.B.Blocks.told c.begin-overlay.result.under.now ≡ Some m = ap g.B.Blocks.told c.begin-overlay.ensures.under_now ∙ told in
    let here = subst (λ (ps : List (ℕ × List ℕ)). IsReady (geometry_of c.args.sup.now) c.args.bitmap.now (over ps m) tree lists) (sym c.begin-overlay.ensures.open_now) ready in
    undone_unanswered c.in-Err.fault (c.in-Err.ensures.reads (over c.begin-overlay.result.group.now m) tree lists (bare tree) (ap (option_map (over c.begin-overlay.result.group.now)) under) here refl)
