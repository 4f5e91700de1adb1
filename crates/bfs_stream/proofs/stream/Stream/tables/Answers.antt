use Rattle.std.proofs.Common.{◌≡◌, ◌<◌, ◌∙◌, ◌≤◌, ◌^◌, false, true, ℕ, List, ap, sym, subst, arith}
use Rattle.std.specs.Prelude.{length}
use Rattle.bfs_bytes.specs.declared.Run.{Run}
use Rattle.bfs_inode.specs.Inode.{stream_at}
use Rattle.bfs_txn.specs.Told.{AreOfBlock}
use Rattle.bfs_stream.specs.Sizes.{Origin, IsWhole, array_length}
use Rattle.bfs_stream.specs.Places.{fields, places_at, used_runs, array_runs, run_blocks}
use Rattle.bfs_stream.specs.Told.{contents, AreTold}
use Rattle.bfs_stream.specs.Grown.{table_runs}
use Rattle.bfs_stream.specs.Scans.{ends_of, last_end}
use Rattle.bfs_stream.proofs.Arrays.{read_is}
use Rattle.bfs_stream.proofs.Placed.{told_inode}
use Rattle.bfs_stream.proofs.Listed.{told_double, some_array, runs_used, blocks_all}
use Rattle.bfs_stream.proofs.Few.{few_places, whole_array}
use Rattle.bfs_stream.proofs.Belows.{all_places}
use Rattle.bfs_stream.proofs.Doubles.{length-used}
use Rattle.bfs_stream.proofs.stream.Stream.tables.Goals as goal

pub returns-clause-are : goal.returns-clause-are
returns-clause-are g c m is stands some =
    let o = c.args.self.now in
    let id : c.self.inside.inode ≡ o.id = ap (λ (x : Origin). x.id) c.self.view_is in
    let of : AreOfBlock (g.B.Blocks.told c.args.under.now) o.id c.get.new.into = subst (λ (k : ℕ). AreOfBlock (g.B.Blocks.told c.args.under.now) k c.get.new.into) id c.in-Ok.ensures.bytes in
    let read = read_is m (g.B.Blocks.told c.args.under.now) o.id c.get.new.into is (told_inode m o stands) of in
    let array_is : c.double_indirect-array.result ≡ (fields o.sizes (contents m) o.id).double_indirect = c.double_indirect-array.ensures ∙ ap (λ (l : List ℕ). (stream_at l).double_indirect) (c.over.ensures ∙ read) in
    let here : c.ends-ends.result ≡ ends_of o.sizes (fields o.sizes (contents m) o.id) = c.ends-ends.ensures ∙ ap (λ (l : List ℕ). ends_of o.sizes (stream_at l)) read in
    let long : 0 < array_length o.sizes = let a = c.array_length.ensures.value in let b = c.array_length.ensures.some in omega (arith, a, b) in
    let told : AreTold m (run_blocks o.sizes c.double_indirect-array.result) = subst (λ (r : Run). AreTold m (run_blocks o.sizes r)) (sym array_is) (told_double o m stands) in (
      array_is,
      c.in-Ok-used_in.ensures.used m (c.in-Ok.ensures.told ∙ is) told ∙ ap (λ (r : Run). length (used_runs (array_runs o.sizes (contents m) r))) array_is,
      c.runs_between-used.ensures.value ∙ runs_used o m stands c.sizes.ensures.sizes long c.ends-ends.result here ∙ ap (λ (r : Run). length (used_runs (table_runs o.sizes (contents m) r))) (sym array_is),
      c.last-blocks.ensures ∙ blocks_all o m stands c.sizes.ensures.sizes long c.ends-ends.result here,
    )

pub returns-then-blocks-gt-MOST_BLOCKS-clause-sound : goal.returns-then-blocks-gt-MOST_BLOCKS-clause-sound
returns-then-blocks-gt-MOST_BLOCKS-clause-sound g c m is stands some t =
    let o = c.args.self.now in
    let id : c.self.inside.inode ≡ o.id = ap (λ (x : Origin). x.id) c.self.view_is in
    let of : AreOfBlock (g.B.Blocks.told c.args.under.now) o.id c.get.new.into = subst (λ (k : ℕ). AreOfBlock (g.B.Blocks.told c.args.under.now) k c.get.new.into) id c.in-Ok.ensures.bytes in
    let read = read_is m (g.B.Blocks.told c.args.under.now) o.id c.get.new.into is (told_inode m o stands) of in
    let here : c.ends-ends.result ≡ ends_of o.sizes (fields o.sizes (contents m) o.id) = c.ends-ends.ensures ∙ ap (λ (l : List ℕ). ends_of o.sizes (stream_at l)) read in
    let long = some_array o.sizes in
    let few = few_places o.sizes (contents m) o.id c.sizes.ensures.sizes stands.sound in
    let all = blocks_all o m stands c.sizes.ensures.sizes long c.ends-ends.result here in
    let last = c.last-blocks.ensures in
    let high = c.if-blocks-gt-MOST_BLOCKS.true in
    let bad : length (places_at o.sizes (contents m) o.id) ≤ 2 ^ 44 → last_end c.ends-ends.result ≡ length (places_at o.sizes (contents m) o.id) → c.last-blocks.result ≡ last_end c.ends-ends.result → ⊥ = λ a b d. omega (arith, a, b, d, high) in
    bad few all last

pub returns-then-not-is_whole-clause-sound : goal.returns-then-not-is_whole-clause-sound
returns-then-not-is_whole-clause-sound g c m is stands some t =
    let o = c.args.self.now in
    let id : c.self.inside.inode ≡ o.id = ap (λ (x : Origin). x.id) c.self.view_is in
    let of : AreOfBlock (g.B.Blocks.told c.args.under.now) o.id c.get.new.into = subst (λ (k : ℕ). AreOfBlock (g.B.Blocks.told c.args.under.now) k c.get.new.into) id c.in-Ok.ensures.bytes in
    let read = read_is m (g.B.Blocks.told c.args.under.now) o.id c.get.new.into is (told_inode m o stands) of in
    let array_is : c.double_indirect-array.result ≡ (fields o.sizes (contents m) o.id).double_indirect = c.double_indirect-array.ensures ∙ ap (λ (l : List ℕ). (stream_at l).double_indirect) (c.over.ensures ∙ read) in
    let bad : false ≡ true = c.if-not-is_whole.ensures.1 (subst (IsWhole o.sizes) (sym array_is) (whole_array o m stands some)) in cc

pub returns-then-used-listed-clause-sound : goal.returns-then-used-listed-clause-sound
returns-then-used-listed-clause-sound g c m is stands some t =
    let o = c.args.self.now in
    let id : c.self.inside.inode ≡ o.id = ap (λ (x : Origin). x.id) c.self.view_is in
    let of : AreOfBlock (g.B.Blocks.told c.args.under.now) o.id c.get.new.into = subst (λ (k : ℕ). AreOfBlock (g.B.Blocks.told c.args.under.now) k c.get.new.into) id c.in-Ok.ensures.bytes in
    let read = read_is m (g.B.Blocks.told c.args.under.now) o.id c.get.new.into is (told_inode m o stands) of in
    let array_is : c.double_indirect-array.result ≡ (fields o.sizes (contents m) o.id).double_indirect = c.double_indirect-array.ensures ∙ ap (λ (l : List ℕ). (stream_at l).double_indirect) (c.over.ensures ∙ read) in
    let here : c.ends-ends.result ≡ ends_of o.sizes (fields o.sizes (contents m) o.id) = c.ends-ends.ensures ∙ ap (λ (l : List ℕ). ends_of o.sizes (stream_at l)) read in
    let long : 0 < array_length o.sizes = let a = c.array_length.ensures.value in let b = c.array_length.ensures.some in omega (arith, a, b) in
    let told : AreTold m (run_blocks o.sizes c.double_indirect-array.result) = subst (λ (r : Run). AreTold m (run_blocks o.sizes r)) (sym array_is) (told_double o m stands) in
    let array = (fields o.sizes (contents m) o.id).double_indirect in
    let listed : c.in-Ok-used_in.listed ≡ length (used_runs (array_runs o.sizes (contents m) array)) = c.in-Ok-used_in.ensures.used m (c.in-Ok.ensures.told ∙ is) told ∙ ap (λ (r : Run). length (used_runs (array_runs o.sizes (contents m) r))) array_is in
    let size = all_places o.sizes array m c.in-Ok-used_in.listed c.array_length.result c.runs_per_block.result stands.sound.arrays c.array_length.ensures.value c.runs_per_block.ensures.value listed in
    let le = length-used (table_runs o.sizes (contents m) array) in
    let used : c.runs_between-used.result ≡ length (used_runs (table_runs o.sizes (contents m) array)) = c.runs_between-used.ensures.value ∙ runs_used o m stands c.sizes.ensures.sizes long c.ends-ends.result here in
    let high = c.if-used-listed.true in
    omega (arith, size, le, used, high)
