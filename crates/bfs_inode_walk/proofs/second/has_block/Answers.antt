use Rattle.std.proofs.Common.{◌≡◌, ◌++◌, ◌∷◌, ◌∙◌, ℕ, List, true, false, nat_lt, ◌+◌, ap, sym, subst}
use Rattle.bfs_stream.specs.Sizes.{Sizes, sizes_of}
use Rattle.bfs_stream.specs.Places.{blocks_of, arrays_at, places_at}
use Rattle.bfs_stream.specs.Told.{contents}
use Rattle.bfs_sound.specs.Volumes.{Volume}
use Rattle.bfs_sound.specs.Whole.{volume_of}
use Rattle.bfs_inode_walk.specs.Visited.{is_alone, role_blocks, IsHad}
use Rattle.bfs_inode_walk.proofs.Counting.{counted_had}
use Rattle.bfs_inode_walk.proofs.Visits.{had_own, had_alone, had_whole}
use Rattle.bfs_inode_walk.proofs.Ways.{streamed}
use Rattle.bfs_inode_walk.proofs.second.has_block.Goals as goal

pub returns-then-block-id-clause-had : goal.returns-then-block-id-clause-had
returns-then-block-id-clause-had g c m told =
    let v : Volume = volume_of c.args.sup.now (contents m) in
    subst (λ (k : ℕ). IsHad (role_blocks v c.args.role c.args.id) k true) (sym c.if-block-id.true) (had_own v c.args.role c.args.id)

pub returns-then-alone-clause-had : goal.returns-then-alone-clause-had
returns-then-alone-clause-had g c m told =
    let v : Volume = volume_of c.args.sup.now (contents m) in
    let bytes : contents m c.args.id ≡ c.deref.result.now = sym (c.deref.ensures.value ∙ c.in-Ok.ensures.read m told) in
    let alone : is_alone v c.args.role c.args.id ≡ true = sym (c.has_no_stream-alone.ensures v c.args.id bytes) ∙ c.if-alone.true in
    had_alone v c.args.role c.args.id c.args.block c.if-block-id.false alone

pub returns-in-Err-look_at_stream-clause-wrong : goal.returns-in-Err-look_at_stream-clause-wrong
returns-in-Err-look_at_stream-clause-wrong g c m way told is arrives =
    let v : Volume = volume_of c.args.sup.now (contents m) in
    let bytes : contents m c.args.id ≡ c.deref.result.now = sym (c.deref.ensures.value ∙ c.in-Ok.ensures.read m told) in
    let other : is_alone v c.args.role c.args.id ≡ false = sym (c.has_no_stream-alone.ensures v c.args.id bytes) ∙ c.if-alone.false in
    c.in-Err-look_at_stream.ensures.wrong m (c.in-Ok.ensures.told ∙ told) (streamed v way c.args.role c.args.id is arrives other)

pub returns-clause-had : goal.returns-clause-had
returns-clause-had g c m told =
    let v : Volume = volume_of c.args.sup.now (contents m) in
    let s : Sizes = sizes_of c.args.sup.now in
    let bytes : contents m c.args.id ≡ c.deref.result.now = sym (c.deref.ensures.value ∙ c.in-Ok.ensures.read m told) in
    let other : is_alone v c.args.role c.args.id ≡ false = sym (c.has_no_stream-alone.ensures v c.args.id bytes) ∙ c.if-alone.false in
    let one : blocks_of s c.deref-2.result.now ≡ arrays_at s (contents m) c.args.id = ap (blocks_of s) c.deref-2.ensures.value ∙ c.in-Ok-look_at_stream.ensures.arrays m (c.in-Ok.ensures.told ∙ told) in
    let two : blocks_of s c.deref-3.result.now ≡ places_at s (contents m) c.args.id = ap (blocks_of s) c.deref-3.ensures.value ∙ c.in-Ok-look_at_stream.ensures.places m (c.in-Ok.ensures.told ∙ told) in
    had_whole v c.args.role c.args.id c.args.block _ other
    (subst (λ (l : List ℕ). IsHad (c.args.id ∷ l) c.args.block (nat_lt 0 (c.min.result + c.min-2.result))) (λ i. one i ++ two i)
    (counted_had c.args.id c.args.block (blocks_of s c.deref-2.result.now) (blocks_of s c.deref-3.result.now) c.count_in-in_arrays.result c.count_in-in_runs.result c.min.result c.min-2.result c.if-block-id.false
    c.count_in-in_arrays.ensures c.count_in-in_runs.ensures c.min.ensures c.min-2.ensures))
