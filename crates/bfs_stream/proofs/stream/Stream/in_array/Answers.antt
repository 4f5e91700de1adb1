use Rattle.std.proofs.Common.{◌≡◌, ◌+◌, ℕ, inl, inr, ◌++◌, ◌∙◌, List, ap, sym, subst, arith}
use Rattle.std.specs.Prelude.{All}
use Rattle.bfs_bytes.specs.declared.Run.{Run}
use Rattle.bfs_txn.specs.Told.{AreOfBlock}
use Rattle.bfs_stream.specs.Sizes.{IsInVolume, first_block}
use Rattle.bfs_stream.specs.Places.{used_runs}
use Rattle.bfs_stream.specs.Told.{contents}
use Rattle.bfs_stream.specs.Scans.{block_in}
use Rattle.bfs_stream.proofs.Arrays.{has_counted, read_is, runs_are, array_is, later_twice, walked_more, walked_found, walked_broken, walked_all}
use Rattle.bfs_stream.specs.Scans.{HasPassed, IsBehind, IsLevelDamaged}
use Rattle.bfs_stream.proofs.Damages.{same_bytes, IfDamaged-weaker, so_far_more, behind_of, passed_of, blamed_here, damaged_here}
use Rattle.bfs_stream.proofs.stream.Stream.in_array.Goals as goal

pub returns-in-Found-clause-found : goal.returns-in-Found-clause-found
returns-in-Found-clause-found g c m is told =
    let s = c.args.self.now.sizes in
    let i = c.loop-i.i in
    let first = first_block s c.args.array in
    let end = c.from-i-end.ensures in
    let place : c.first_block-first.result + i ≡ first + i = let e = c.first_block-first.ensures.value in omega arith in
    let of : AreOfBlock (g.B.Blocks.told c.loop-i.under) (first + i) c.get.new.into = subst (λ k. AreOfBlock (g.B.Blocks.told c.loop-i.under) k c.get.new.into) place c.in-Ok.ensures.bytes in
    let into = read_is m (g.B.Blocks.told c.loop-i.under) (first + i) c.get.new.into (c.loop-i.invariant.told ∙ is) (told (first + i) (has_counted first c.args.array.len (first + i) (omega arith) (omega arith))) of in
    let runs = runs_are s (contents m) c.runs_per_block-runs.result c.get.new.into (first + i) c.runs_per_block-runs.ensures.value into in
    ap (λ l. block_in s l c.args.place) (array_is s (contents m) c.args.array)
    ∙ walked_found s (contents m) first c.args.array.len c.args.place i c.loop-i.left (omega arith) c.in-Found.block (c.loop-i.invariant.walked m is told)
    (λ more. ap (λ l. block_in s (l ++ more) c.loop-i.left) (sym runs) ∙ c.in-Found.ensures.scan more)

pub returns-in-Broken-clause-none : goal.returns-in-Broken-clause-none
returns-in-Broken-clause-none g c m is told all t =
    let s = c.args.self.now.sizes in
    let i = c.loop-i.i in
    let first = first_block s c.args.array in
    let end = c.from-i-end.ensures in
    let place : c.first_block-first.result + i ≡ first + i = let e = c.first_block-first.ensures.value in omega arith in
    let of : AreOfBlock (g.B.Blocks.told c.loop-i.under) (first + i) c.get.new.into = subst (λ k. AreOfBlock (g.B.Blocks.told c.loop-i.under) k c.get.new.into) place c.in-Ok.ensures.bytes in
    let into = read_is m (g.B.Blocks.told c.loop-i.under) (first + i) c.get.new.into (c.loop-i.invariant.told ∙ is) (told (first + i) (has_counted first c.args.array.len (first + i) (omega arith) (omega arith))) of in
    let runs = runs_are s (contents m) c.runs_per_block-runs.result c.get.new.into (first + i) c.runs_per_block-runs.ensures.value into in
    ap (λ l. block_in s l c.args.place) (array_is s (contents m) c.args.array)
    ∙ walked_broken s (contents m) first c.args.array.len c.args.place i c.loop-i.left (omega arith) (c.loop-i.invariant.walked m is told)
    (λ more inside. ap (λ l. block_in s (l ++ more) c.loop-i.left) (sym runs) ∙ c.in-Broken.ensures.scan more (subst (λ l. All (IsInVolume s) (used_runs (l ++ more))) (sym runs) inside))
    (subst (λ l. All (IsInVolume s) (used_runs l)) (array_is s (contents m) c.args.array) all)

pub loop-i-preserved : goal.loop-i-preserved
loop-i-preserved g c = record {
  length = let e = c.loop-i.auto.bytes in let f = c.requires.length in omega arith;
  told = c.in-Ok.ensures.told ∙ c.loop-i.invariant.told;
  size = c.in-Ok.ensures.size ∙ c.loop-i.invariant.size;
  changed = c.in-Ok.ensures.changed ∙ c.loop-i.invariant.changed;
  pairs = c.in-Ok.ensures.pairs ∙ c.loop-i.invariant.pairs;
  frame = c.in-Ok.ensures.frame ∙ c.loop-i.invariant.frame;
  later = later_twice (g.B.Blocks.counts c.args.under.now) (g.B.Blocks.counts c.loop-i.under) (g.B.Blocks.counts c.get.new.self) c.loop-i.invariant.later c.in-Ok.ensures.cause.later;
  walked = λ m is told.
      let s = c.args.self.now.sizes in
      let i = c.loop-i.i in
      let first = first_block s c.args.array in
      let end = c.from-i-end.ensures in
      let place : c.first_block-first.result + i ≡ first + i = let e = c.first_block-first.ensures.value in omega arith in
      let of : AreOfBlock (g.B.Blocks.told c.loop-i.under) (first + i) c.get.new.into = subst (λ k. AreOfBlock (g.B.Blocks.told c.loop-i.under) k c.get.new.into) place c.in-Ok.ensures.bytes in
      let into = read_is m (g.B.Blocks.told c.loop-i.under) (first + i) c.get.new.into (c.loop-i.invariant.told ∙ is) (told (first + i) (has_counted first c.args.array.len (first + i) (omega arith) (omega arith))) of in
      let runs = runs_are s (contents m) c.runs_per_block-runs.result c.get.new.into (first + i) c.runs_per_block-runs.ensures.value into in
      walked_more s (contents m) first c.args.array.len c.args.place i c.loop-i.left (omega arith) c.in-Past.further (c.loop-i.invariant.walked m is told)
      (subst (λ l. (more : List Run) → (used_runs (l ++ more) ≡ l ++ used_runs more) × (block_in s (l ++ more) c.loop-i.left ≡ block_in s more c.in-Past.further)) runs c.in-Past.ensures.scan);
  so_far =
      let s = c.args.self.now.sizes in
      let i = c.loop-i.i in
      let first = first_block s c.args.array in
      let end = c.from-i-end.ensures in
      let place : c.first_block-first.result + i ≡ first + i = let e = c.first_block-first.ensures.value in omega arith in
      let of : AreOfBlock (g.B.Blocks.told c.loop-i.under) (first + i) c.get.new.into = subst (λ k. AreOfBlock (g.B.Blocks.told c.loop-i.under) k c.get.new.into) place c.in-Ok.ensures.bytes in
      so_far_more s c.args.array (g.B.Blocks.told c.args.under.now) c.args.place i c.loop-i.left c.loop-i.invariant.so_far c.runs_per_block-runs.result c.in-Past.further c.get.new.into (omega arith) c.runs_per_block-runs.ensures.value c.in-Past.ensures.stopped
      (λ m is told. read_is m (g.B.Blocks.told c.loop-i.under) (first + i) c.get.new.into (c.loop-i.invariant.told ∙ is) (told (first + i) (has_counted first c.args.array.len (first + i) (omega arith) (omega arith))) of);
}

pub returns-clause-none : goal.returns-clause-none
returns-clause-none g c m is told all t =
    let s = c.args.self.now.sizes in
    let end = c.from-i-end.ensures in
    ap (λ l. block_in s l c.args.place) (array_is s (contents m) c.args.array)
    ∙ walked_all s (contents m) (first_block s c.args.array) c.args.array.len c.args.place c.loop-i.i c.loop-i.left (omega arith) (c.loop-i.invariant.walked m is told)

pub returns-in-Broken-clause-damaged : goal.returns-in-Broken-clause-damaged
returns-in-Broken-clause-damaged g c m is =
    let s = c.args.self.now.sizes in
    let end = c.from-i-end.ensures in
    let block : ℕ = c.first_block-first.result + c.loop-i.i in
    inr (damaged_here s c.args.array (g.B.Blocks.told c.args.under.now) c.args.place c.loop-i.i c.loop-i.left c.loop-i.invariant.so_far block c.runs_per_block-runs.result c.get.new.into (omega arith) (let e = c.first_block-first.ensures.value in omega arith) c.runs_per_block-runs.ensures.value c.in-Broken.ensures.stopped m is
    (λ bytes here. same_bytes m (g.B.Blocks.told c.loop-i.under) block c.get.new.into bytes (c.loop-i.invariant.told ∙ is) c.in-Ok.ensures.bytes here))

pub returns-in-Broken-clause-blamed : goal.returns-in-Broken-clause-blamed
returns-in-Broken-clause-blamed g c =
    let s = c.args.self.now.sizes in
    let end = c.from-i-end.ensures in
    let block : ℕ = c.first_block-first.result + c.loop-i.i in
    (c.get.new.into, c.in-Ok.ensures.last, inr (blamed_here s c.args.array (g.B.Blocks.told c.args.under.now) c.args.place c.loop-i.i c.loop-i.left c.loop-i.invariant.so_far block c.runs_per_block-runs.result c.get.new.into (omega arith) (let e = c.first_block-first.ensures.value in omega arith) c.runs_per_block-runs.ensures.value c.in-Broken.ensures.stopped))

pub returns-clause-damaged : goal.returns-clause-damaged
returns-clause-damaged g c m is =
    let s = c.args.self.now.sizes in
    let end = c.from-i-end.ensures in
    let all : c.loop-i.i ≡ c.args.array.len = omega arith in
    let passed = subst (λ (n : ℕ). HasPassed s m c.args.array c.args.place n) all (passed_of s c.args.array (g.B.Blocks.told c.args.under.now) c.args.place c.loop-i.i c.loop-i.left c.loop-i.invariant.so_far m is) in
    IfDamaged-weaker _ (IsLevelDamaged s m c.args.self.now.id c.args.array c.args.place) (λ block is_inode. inl (is_inode.0, passed)) c.too_short.result c.too_short.ensures.blamed

pub returns-clause-blamed : goal.returns-clause-blamed
returns-clause-blamed g c =
    let s = c.args.self.now.sizes in
    let end = c.from-i-end.ensures in
    let all : c.loop-i.i ≡ c.args.array.len = omega arith in
    let behind = subst (λ (n : ℕ). IsBehind s c.args.place n) all (behind_of s c.args.array (g.B.Blocks.told c.args.under.now) c.args.place c.loop-i.i c.loop-i.left c.loop-i.invariant.so_far) in
    IfDamaged-weaker _ _ (λ block is_inode. (is_inode.1, is_inode.2, inl (is_inode.0, behind))) c.too_short.result c.too_short.ensures.blamed
