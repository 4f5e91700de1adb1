use Rattle.std.proofs.Common.{◌≡◌, ◌⊎◌, inl, inr, ◌∙◌, ℕ, Bool, ◌||◌, true, sym, ap, subst}
use Rattle.bfs_stream.proofs.Equal.{same_test}
use Rattle.bfs_stream.proofs.Writes.{number_set}
use Rattle.bfs_stream.specs.Sizes.{first_block, sizes_of}
use Rattle.bfs_make.proofs.making.make_inode.Goals as goal

pub returns-in-Ok-set-clause-changed : goal.returns-in-Ok-set-clause-changed
returns-in-Ok-set-clause-changed g c k e = by_side (number_set c.run_start-id.result (g.E.Blocks.changed c.args.edits.now) k (sym (c.in-Ok-set.ensures.changed k) ∙ e))
  where
    by_side : (g.E.Blocks.changed c.args.edits.now k ≡ true) ⊎ (k ≡ c.run_start-id.result) → (g.E.Blocks.changed c.args.edits.now k ≡ true) ⊎ (k ≡ first_block (sizes_of c.args.site.sup) c.args.new.address)
    by_side (inl before) = inl before
    by_side (inr is) = inr (is ∙ c.run_start-id.ensures)

pub returns-in-Ok-set-clause-entered : goal.returns-in-Ok-set-clause-entered
returns-in-Ok-set-clause-entered g c =
    let id : ℕ = c.run_start-id.result in
    subst (λ (j : ℕ). g.E.Blocks.changed c.set.new.self j ≡ true) c.run_start-id.ensures (c.in-Ok-set.ensures.changed id ∙ ap (λ (b : Bool). b || g.E.Blocks.changed c.args.edits.now id) (same_test id))
