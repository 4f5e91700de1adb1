use Rattle.std.proofs.Common.{◌≡◌, ◌∙◌, ℕ, List, Option, Some, sym, ap, subst}
use Rattle.std.specs.Prelude.{IfOk}
use Rattle.std.specs.Option.{option_map}
use Rattle.bfs_super.specs.Geometry.{geometry_of}
use Rattle.bfs_txn.specs.Changed.{over}
use Rattle.bfs_look.specs.Ready.{IsReady}
use Rattle.bfs_answers.specs.Looks.{IsLooked, MaySee, RestsOn}
use Rattle.bfs_replies.proofs.Fits.{mapped}
use Rattle.bfs_replies.proofs.looking.look_call.Goals as goal

pub look-looked-requires-clause-ready : goal.look-looked-requires-clause-ready
look-looked-requires-clause-ready g c = λ m e.
    let r = mapped (over c.begin-overlay.result.group.now) (g.B.Blocks.told c.begin-overlay.result.under.now) m e in
    subst (λ (x : ℕ → Option (List ℕ)). MaySee (geometry_of c.args.sup.now) c.args.bitmap.now x c.args.call.now) r.1.1
    (subst (λ (ps : List (ℕ × List ℕ)). MaySee (geometry_of c.args.sup.now) c.args.bitmap.now (over ps r.0) c.args.call.now) (sym c.begin-overlay.ensures.open_now) (c.requires.ready r.0 (ap g.B.Blocks.told (sym c.begin-overlay.ensures.under_now) ∙ r.1.0)))

pub returns-clause-looked : goal.returns-clause-looked
returns-clause-looked g c = λ m tree lists told ready.
    let under : g.B.Blocks.told c.begin-overlay.result.under.now ≡ Some m = ap g.B.Blocks.told c.begin-overlay.ensures.under_now ∙ told in
    subst (λ (ps : List (ℕ × List ℕ)). IfOk c.look-looked.result (IsLooked (geometry_of c.args.sup.now) (over ps m) tree c.args.holds.now c.args.call.now)) c.begin-overlay.ensures.open_now
    (c.look-looked.ensures.looked (over c.begin-overlay.result.group.now m) tree lists (ap (option_map (over c.begin-overlay.result.group.now)) under)
    (subst (λ (ps : List (ℕ × List ℕ)). IsReady (geometry_of c.args.sup.now) c.args.bitmap.now (over ps m) tree lists) (sym c.begin-overlay.ensures.open_now) ready))

pub returns-clause-unanswered : goal.returns-clause-unanswered
returns-clause-unanswered g c = λ m tree lists told ready.
    let under : g.B.Blocks.told c.begin-overlay.result.under.now ≡ Some m = ap g.B.Blocks.told c.begin-overlay.ensures.under_now ∙ told in
    c.look-looked.ensures.unanswered (over c.begin-overlay.result.group.now m) tree lists (ap (option_map (over c.begin-overlay.result.group.now)) under)
    (subst (λ (ps : List (ℕ × List ℕ)). IsReady (geometry_of c.args.sup.now) c.args.bitmap.now (over ps m) tree lists) (sym c.begin-overlay.ensures.open_now) ready)

pub returns-clause-rests : goal.returns-clause-rests
returns-clause-rests g c = λ v m w tree lists told ready rests.
    let under : g.B.Blocks.told c.begin-overlay.result.under.now ≡ Some m = ap g.B.Blocks.told c.begin-overlay.ensures.under_now ∙ told in
    subst (λ (ps : List (ℕ × List ℕ)). IfOk c.look-looked.result (IsLooked (geometry_of c.args.sup.now) (over ps w) tree c.args.holds.now c.args.call.now)) c.begin-overlay.ensures.open_now
    (c.look-looked.ensures.rests v (over c.begin-overlay.result.group.now m) (over c.begin-overlay.result.group.now w) tree lists (ap (option_map (over c.begin-overlay.result.group.now)) under)
    (subst (λ (ps : List (ℕ × List ℕ)). IsReady (geometry_of c.args.sup.now) v (over ps w) tree lists) (sym c.begin-overlay.ensures.open_now) ready)
    (subst (λ (ps : List (ℕ × List ℕ)). RestsOn (geometry_of c.args.sup.now) (over ps w) (over ps m) tree c.args.call.now) (sym c.begin-overlay.ensures.open_now) rests))

pub returns-clause-rests_unanswered : goal.returns-clause-rests_unanswered
returns-clause-rests_unanswered g c = λ v m w tree lists told ready rests.
    let under : g.B.Blocks.told c.begin-overlay.result.under.now ≡ Some m = ap g.B.Blocks.told c.begin-overlay.ensures.under_now ∙ told in
    c.look-looked.ensures.rests_unanswered v (over c.begin-overlay.result.group.now m) (over c.begin-overlay.result.group.now w) tree lists (ap (option_map (over c.begin-overlay.result.group.now)) under)
    (subst (λ (ps : List (ℕ × List ℕ)). IsReady (geometry_of c.args.sup.now) v (over ps w) tree lists) (sym c.begin-overlay.ensures.open_now) ready)
    (subst (λ (ps : List (ℕ × List ℕ)). RestsOn (geometry_of c.args.sup.now) (over ps w) (over ps m) tree c.args.call.now) (sym c.begin-overlay.ensures.open_now) rests)
