use Rattle.std.proofs.Common.{◌≡◌, ◌∙◌, ◌≤◌, ◌^◌, false, true, ℕ, List, ap, sym, subst, arith}
use Rattle.std.specs.Prelude.{length}
use Rattle.bfs_bytes.specs.declared.Run.{Run}
use Rattle.bfs_inode.specs.Inode.{stream_at}
use Rattle.bfs_txn.specs.Told.{AreOfBlock}
use Rattle.bfs_stream.specs.Sizes.{Origin, IsInVolume}
use Rattle.bfs_stream.specs.Places.{fields, places_at, run_blocks}
use Rattle.bfs_stream.specs.Told.{contents, AreTold}
use Rattle.bfs_stream.specs.Scans.{ends_of, last_end}
use Rattle.bfs_stream.proofs.Arrays.{read_is}
use Rattle.bfs_stream.proofs.Placed.{told_inode}
use Rattle.bfs_stream.proofs.Listed.{told_table, some_array, blocks_all}
use Rattle.bfs_stream.proofs.Few.{few_places, held_array}
use Rattle.bfs_stream.proofs.stream.Stream.table.Goals as goal

pub returns-in-Ok-used_in-clause-is : goal.returns-in-Ok-used_in-clause-is
returns-in-Ok-used_in-clause-is g c m is stands =
    let o = c.args.self.now in
    let id : c.self.inside.inode ≡ o.id = ap (λ (x : Origin). x.id) c.self.view_is in
    let of : AreOfBlock (g.B.Blocks.told c.args.under.now) o.id c.get.new.into = subst (λ (k : ℕ). AreOfBlock (g.B.Blocks.told c.args.under.now) k c.get.new.into) id c.in-Ok.ensures.bytes in
    let read = read_is m (g.B.Blocks.told c.args.under.now) o.id c.get.new.into is (told_inode m o stands) of in
    let array_is : c.indirect-array.result ≡ (fields o.sizes (contents m) o.id).indirect = c.indirect-array.ensures ∙ ap (λ (l : List ℕ). (stream_at l).indirect) (c.over.ensures ∙ read) in
    let here : c.ends.result ≡ ends_of o.sizes (fields o.sizes (contents m) o.id) = c.ends.ensures ∙ ap (λ (l : List ℕ). ends_of o.sizes (stream_at l)) read in
    let told : AreTold m (run_blocks o.sizes c.indirect-array.result) = subst (λ (r : Run). AreTold m (run_blocks o.sizes r)) (sym array_is) (told_table o m stands) in
    (array_is, c.in-Ok-used_in.ensures.used m (c.in-Ok.ensures.told ∙ is) told, c.last-blocks.ensures ∙ blocks_all o m stands c.sizes.ensures.sizes (some_array o.sizes) c.ends.result here)

pub returns-then-blocks-gt-MOST_BLOCKS-clause-sound : goal.returns-then-blocks-gt-MOST_BLOCKS-clause-sound
returns-then-blocks-gt-MOST_BLOCKS-clause-sound g c m is stands some t =
    let o = c.args.self.now in
    let id : c.self.inside.inode ≡ o.id = ap (λ (x : Origin). x.id) c.self.view_is in
    let of : AreOfBlock (g.B.Blocks.told c.args.under.now) o.id c.get.new.into = subst (λ (k : ℕ). AreOfBlock (g.B.Blocks.told c.args.under.now) k c.get.new.into) id c.in-Ok.ensures.bytes in
    let read = read_is m (g.B.Blocks.told c.args.under.now) o.id c.get.new.into is (told_inode m o stands) of in
    let here : c.ends.result ≡ ends_of o.sizes (fields o.sizes (contents m) o.id) = c.ends.ensures ∙ ap (λ (l : List ℕ). ends_of o.sizes (stream_at l)) read in
    let few = few_places o.sizes (contents m) o.id c.sizes.ensures.sizes stands.sound in
    let all = blocks_all o m stands c.sizes.ensures.sizes (some_array o.sizes) c.ends.result here in
    let last = c.last-blocks.ensures in
    let high = c.if-blocks-gt-MOST_BLOCKS.true in
    let bad : length (places_at o.sizes (contents m) o.id) ≤ 2 ^ 44 → last_end c.ends.result ≡ length (places_at o.sizes (contents m) o.id) → c.last-blocks.result ≡ last_end c.ends.result → ⊥ = λ a b d. omega (arith, a, b, d, high) in
    bad few all last

pub returns-then-not-holds-clause-sound : goal.returns-then-not-holds-clause-sound
returns-then-not-holds-clause-sound g c m is stands some t =
    let o = c.args.self.now in
    let id : c.self.inside.inode ≡ o.id = ap (λ (x : Origin). x.id) c.self.view_is in
    let of : AreOfBlock (g.B.Blocks.told c.args.under.now) o.id c.get.new.into = subst (λ (k : ℕ). AreOfBlock (g.B.Blocks.told c.args.under.now) k c.get.new.into) id c.in-Ok.ensures.bytes in
    let read = read_is m (g.B.Blocks.told c.args.under.now) o.id c.get.new.into is (told_inode m o stands) of in
    let array_is : c.indirect-array.result ≡ (fields o.sizes (contents m) o.id).indirect = c.indirect-array.ensures ∙ ap (λ (l : List ℕ). (stream_at l).indirect) (c.over.ensures ∙ read) in
    let bad : false ≡ true = c.if-not-holds.ensures.1 (subst (IsInVolume o.sizes) (sym array_is) (held_array o m stands some)) in cc
