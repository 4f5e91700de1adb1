use Rattle.std.proofs.Common.{◌≡◌, ◌/◌, ◌∙◌, inr, ℕ, max, refl, sym, ap, subst, arith}
use Rattle.bfs_super.specs.declared.geometry.Geometry.{Geometry}
use Rattle.bfs_replies.specs.Replies.{HasFewRuns, array_run}
use Rattle.bfs_txn.specs.Changed.{over}
use Rattle.bfs_replies.proofs.lacking.say_no_space.Goals as goal

pub returns-then-few-clause-short : goal.returns-then-few-clause-short
returns-then-few-clause-short g c = λ m tree holds call told has change takes within.
    let blocks : c.geometry-geometry.result.blocks ≡ c.args.bitmap.now.blocks = ap (λ (x : Geometry). x.blocks) c.geometry-geometry.ensures ∙ sym c.requires.volume.blocks in
    let used = c.used.ensures.value in
    let len : c.array_length.result ≡ array_run c.args.bitmap.now = c.array_length.ensures.value ∙ ap (λ (n : ℕ). max 1 (4096 / n)) (sym c.requires.volume.block_size) in record {
      change = change;
      idle = refl;
      takes = takes;
      free_is = omega (arith, blocks, used);
      within = within;
      why = inr (subst (λ (n : ℕ). HasFewRuns c.args.bitmap.now (over c.args.group.now m) n c.args.needed) len (c.in-Ok.ensures.few m told has c.if-few.true));
    }
