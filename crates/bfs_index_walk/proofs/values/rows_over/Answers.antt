use Rattle.std.proofs.Common.{List, ℕ, Option, refl, sym, ap, subst}
use Rattle.std.specs.Prelude.{IsSome}
use Rattle.std.specs.Option.{option_map}
use Rattle.bfs_stream.specs.Faults.{IsGrowCause}
use Rattle.bfs_stream_pages.specs.Held.{stream_of}
use Rattle.bfs_stream_pages.specs.Causes.{IsReadCause}
use Rattle.bfs_stream_pages.specs.Steps.{IsUndamaged}
use Rattle.bfs_tree_check.specs.Amiss.{IsAmiss}
use Rattle.bfs_node_walk.proofs.Amissed.{walk_weaker}
use Rattle.bfs_index_walk.proofs.values.rows_over.Goals as goal

pub returns-in-Ok-clause-whole : goal.returns-in-Ok-clause-whole
returns-in-Ok-clause-whole g c m told =
    let s = c.args.pages.now in
    c.in-Ok.ensures.whole (stream_of s.backing m) (ap (option_map (stream_of s.backing)) told)

pub returns-in-Err-clause-wrong : goal.returns-in-Err-clause-wrong
returns-in-Err-clause-wrong g c v m told same has stream =
    let s = c.args.pages.now in
    let q = c.walk_rows.new.pages in
    let some : IsSome (g.B.Blocks.told s.under.now) = subst (λ (o : Option (ℕ → Option (List ℕ))). IsSome o) (sym told) refl in
    c.tree_fault.ensures.wrong v c.args.kind has stream
    (subst (λ (b : List ℕ). IsAmiss c.args.kind b c.in-Err.fault) (sym same) (c.in-Err.ensures.wrong (stream_of s.backing m) (ap (option_map (stream_of s.backing)) told)))
    (walk_weaker (IsReadCause (g.B.Blocks.told s.under.now) (g.B.Blocks.counts s.under.now) (g.B.Blocks.counts q.under.now)) IsUndamaged (λ f r. r.sound some) c.in-Err.fault c.in-Err.ensures.cause)

pub returns-in-Err-clause-cause : goal.returns-in-Err-clause-cause
returns-in-Err-clause-cause g c =
    let s = c.args.pages.now in
    let q = c.walk_rows.new.pages in
    c.tree_fault.ensures.cause (g.B.Blocks.counts s.under.now) (g.B.Blocks.counts q.under.now)
    (walk_weaker (IsReadCause (g.B.Blocks.told s.under.now) (g.B.Blocks.counts s.under.now) (g.B.Blocks.counts q.under.now)) (IsGrowCause 1 (g.B.Blocks.counts s.under.now) (g.B.Blocks.counts q.under.now)) (λ f r. r.below) c.in-Err.fault c.in-Err.ensures.cause)
