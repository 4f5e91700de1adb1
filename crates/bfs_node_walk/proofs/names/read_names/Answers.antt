use Rattle.std.proofs.Common.{◌≡◌, ◌∙◌, ◌%◌, inl, List, ℕ, length, pos, refl, sym, ap}
use Rattle.bfs_inode.specs.Inode.{stream_at}
use Rattle.bfs_super.specs.Conditions.{natural}
use Rattle.bfs_stream.specs.Sizes.{Sizes, sizes_of}
use Rattle.bfs_stream.specs.Told.{contents}
use Rattle.bfs_stream_pages.specs.GoesLaws.{sized_of}
use Rattle.bfs_stream_pages.proofs.Keeping.{of_content}
use Rattle.bfs_sound.specs.Volumes.{Volume}
use Rattle.bfs_sound.specs.Inodes.{content}
use Rattle.bfs_sound.specs.Whole.{volume_of}
use Rattle.bfs_node_walk.proofs.Amissed.{size_broken}
use Rattle.bfs_node_walk.proofs.Readable.{readable, size_natural, length_is}
use Rattle.bfs_node_walk.proofs.names.read_names.Goals as goal

pub returns-in_default-clause-wrong : goal.returns-in_default-clause-wrong
returns-in_default-clause-wrong g c m told names =
    let s : Sizes = sizes_of c.args.sup.now in
    let v : Volume = volume_of c.args.sup.now (contents m) in
    let all = c.requires.all m told in
    let has = c.requires.stream m told in
    let n : ℕ = natural (stream_at (contents m c.args.id)).size in
    let size : (stream_at (contents m c.args.id)).size ≡ pos n = size_natural s c.args.id m all c.requires.inside has in
    let sized = sized_of s.block_size (g.B.Blocks.size c.args.under.now) (g.B.Blocks.told c.args.under.now) m c.requires.size told (g.met.B.Blocks.sized c.args.under.now) in
    let long : length (content v c.args.id) ≡ n = length_is s c.args.id m all c.requires.inside has n size sized in
    size_broken v c.args.id (inl names) has (λ h. c.in_default.ensures.none refl n (ap (λ (b : List ℕ). (stream_at b).size) (c.requires.bytes m told) ∙ size) (ap (λ (k : ℕ). k % 1024) (sym long) ∙ h))

pub names_with-requires-clause-bytes : goal.names_with-requires-clause-bytes
names_with-requires-clause-bytes g c = (c.requires.long, of_content (g.B.Blocks.told c.args.under.now) c.args.id c.args.bytes.now c.requires.bytes)

pub names_with-requires-clause-held : goal.names_with-requires-clause-held
names_with-requires-clause-held g c m told =
    let s : Sizes = sizes_of c.args.sup.now in
    let size = ap (λ (b : List ℕ). (stream_at b).size) (sym (c.requires.bytes m told)) ∙ c.in-Some.ensures.is.0 in
    ∣ readable s c.args.id m (c.requires.all m told) c.requires.inside (c.requires.stream m told) c.in-Some.length size ∣₁

pub returns-clause-wrong : goal.returns-clause-wrong
returns-clause-wrong g c m told names = c.names_with.ensures.wrong m told names (c.requires.stream m told)
