use Rattle.std.proofs.Common.{◌≡◌, ◌<◌, ◌+◌, ◌-◌, ◌/◌, ◌∙◌, ℕ, ap, sym, arith, length}
use Rattle.std.specs.declared.cmp.Ordering.TheVariants.{Less, Equal, Greater}
use Rattle.bfs_base.specs.Images.{IsBytes}
use Rattle.bfs_base.specs.Keys.{key_cmp}
use Rattle.bfs_node.specs.Page.{rows_of}
use Rattle.bfs_node.specs.Search.{key_at}
use Rattle.bfs_node.proofs.Order.{same_key, less_before, greater_behind, turned}
use Rattle.bfs_node.proofs.PageLayout.{bytes_of_key}
use Rattle.bfs_node.proofs.lookup.search.Goals as goal

pub loop-low-preserved-in-Less : goal.loop-low-preserved-in-Less
loop-low-preserved-in-Less c =
    let middle : ℕ = c.loop-low.low + (c.loop-low.high - c.loop-low.low) / 2 in
    let less : key_cmp c.args.kind (key_at (rows_of c.args.page.now) (c.loop-low.low + (c.loop-low.high - c.loop-low.low) / 2)) c.args.sought.now ≡ Less =
    sym (ap (λ k. key_cmp c.args.kind k c.args.sought.now) c.row_key.ensures) ∙ sym c.in-Less.ensures in
    record {
      order = omega arith;
      within = c.loop-low.invariant.within;
      less = λ up j h.
          less_before c.args.kind (rows_of c.args.page.now) up c.args.sought.now (c.loop-low.low + (c.loop-low.high - c.loop-low.low) / 2) j (c.loop-low.low + (c.loop-low.high - c.loop-low.low) / 2 - j) (omega arith) (omega (arith, c.loop-low.invariant.within)) less;
      greater = c.loop-low.invariant.greater;
    }

pub loop-low-preserved : goal.loop-low-preserved
loop-low-preserved c =
    let greater : key_cmp c.args.kind (key_at (rows_of c.args.page.now) (c.loop-low.low + (c.loop-low.high - c.loop-low.low) / 2)) c.args.sought.now ≡ Greater =
    sym (ap (λ k. key_cmp c.args.kind k c.args.sought.now) c.row_key.ensures) ∙ sym c.in-Greater.ensures in
    record {
      order = omega arith;
      within = omega (arith, c.loop-low.invariant.within);
      less = c.loop-low.invariant.less;
      greater = λ up j h lt.
          greater_behind c.args.kind (rows_of c.args.page.now) up c.args.sought.now (c.loop-low.low + (c.loop-low.high - c.loop-low.low) / 2) j (j - (c.loop-low.low + (c.loop-low.high - c.loop-low.low) / 2)) (omega arith) lt
          (turned c.args.kind (key_at (rows_of c.args.page.now) (c.loop-low.low + (c.loop-low.high - c.loop-low.low) / 2)) c.args.sought.now greater);
    }

pub returns-in-Equal-clause-key : goal.returns-in-Equal-clause-key
returns-in-Equal-clause-key c =
    let lt : c.loop-low.low + (c.loop-low.high - c.loop-low.low) / 2 < length (rows_of c.args.page.now) = omega (arith, c.loop-low.invariant.within) in
    let equal : key_cmp c.args.kind (key_at (rows_of c.args.page.now) (c.loop-low.low + (c.loop-low.high - c.loop-low.low) / 2)) c.args.sought.now ≡ Equal =
    sym (ap (λ k. key_cmp c.args.kind k c.args.sought.now) c.row_key.ensures) ∙ sym c.in-Equal.ensures in
    let small : IsBytes c.args.page.now = λ i. omega (arith, c.type_inv.page i) in
    same_key c.args.kind (key_at (rows_of c.args.page.now) (c.loop-low.low + (c.loop-low.high - c.loop-low.low) / 2)) c.args.sought.now (c.requires.page.keys (c.loop-low.low + (c.loop-low.high - c.loop-low.low) / 2) lt) c.requires.sought
    (bytes_of_key c.args.page.now small (c.loop-low.low + (c.loop-low.high - c.loop-low.low) / 2) lt)
    (λ i. omega (arith, c.type_inv.sought i)) equal

pub returns-in-Equal-clause-place : goal.returns-in-Equal-clause-place
returns-in-Equal-clause-place c = λ up.
    let lt : c.loop-low.low + (c.loop-low.high - c.loop-low.low) / 2 < length (rows_of c.args.page.now) = omega (arith, c.loop-low.invariant.within) in
    let equal : key_cmp c.args.kind (key_at (rows_of c.args.page.now) (c.loop-low.low + (c.loop-low.high - c.loop-low.low) / 2)) c.args.sought.now ≡ Equal =
    sym (ap (λ k. key_cmp c.args.kind k c.args.sought.now) c.row_key.ensures) ∙ sym c.in-Equal.ensures in
    let small : IsBytes c.args.page.now = λ i. omega (arith, c.type_inv.page i) in (
      lt,
      same_key c.args.kind (key_at (rows_of c.args.page.now) (c.loop-low.low + (c.loop-low.high - c.loop-low.low) / 2)) c.args.sought.now
          (c.requires.page.keys (c.loop-low.low + (c.loop-low.high - c.loop-low.low) / 2) lt) c.requires.sought
          (bytes_of_key c.args.page.now small (c.loop-low.low + (c.loop-low.high - c.loop-low.low) / 2) lt)
          (λ i. omega (arith, c.type_inv.sought i)) equal,
    )
