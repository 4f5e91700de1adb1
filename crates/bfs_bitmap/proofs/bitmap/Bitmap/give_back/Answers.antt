use Rattle.std.proofs.Common.{◌≡◌, ◌-◌, ◌++◌, ◌∷◌, [], ℕ, sym, subst, refl, None, false}
use Rattle.std.proofs.lemmas.Result.{on_ok_weaker}
use Rattle.bfs_bitmap.specs.Runs.{first_of, AreUsed}
use Rattle.bfs_bitmap.proofs.Back.{gave}
use Rattle.bfs_bitmap.proofs.Counts.{gave_counted}
use Rattle.bfs_bitmap.proofs.bitmap.Bitmap.give_back.Goals as goal

pub returns-clause-marked : goal.returns-clause-marked
returns-clause-marked g c m is fits =
    on_ok_weaker c.add.result
    (λ e.
    gave c.args.self.now c.add.new.self m (g.E.Blocks.told c.fill.new.edits) c.first_block-first.result (first_of c.args.self.now c.args.run) c.args.run.len (c.args.self.now.tally.used - c.args.run.len)
    (record { first = c.first_block-first.result; len = c.args.run.len; group = None; kept = false }) e c.first_block-first.ensures.value refl refl fits (c.in-Ok-fill.ensures.marks m is fits.has))
    c.add.ensures.ok

pub returns-clause-counted : goal.returns-clause-counted
returns-clause-counted g c m is has used counted =
    let place : c.first_block-first.result ≡ first_of c.args.self.now c.args.run = c.first_block-first.ensures.value in
    on_ok_weaker c.add.result
    (λ e.
    gave_counted c.args.self.now c.add.new.self m (g.E.Blocks.told c.fill.new.edits) c.first_block-first.result c.args.run.len
    (c.args.self.now.given ++ (record { first = c.first_block-first.result; len = c.args.run.len; group = None; kept = false }) ∷ []) e c.first_block-first.ensures.inside
    (subst (λ (n : ℕ). AreUsed c.args.self.now m n c.args.run.len) (sym place) used) counted (c.in-Ok-fill.ensures.marks m is has))
    c.add.ensures.ok
