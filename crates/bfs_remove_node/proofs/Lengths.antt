-- How many blocks the streams of a node have.
use Rattle.std.proofs.Common.{◌≡◌, ◌<◌, ◌+◌, ℕ, List, [], ◌∷◌, ◌++◌, length, sym, ap, ◌∙◌, arith, inl, inr, Bool, true, false, cond, Option}
use Rattle.std.specs.Prelude.{IsSome}
use Rattle.std.specs.List.{flat_map}
use Rattle.std.proofs.lemmas.List.Sums.{sum_by-cons}
use Rattle.bfs_base.specs.Lists.{times, Has}
use Rattle.bfs_super.specs.declared.geometry.Geometry.{Geometry}
use Rattle.bfs_stream.specs.Places.{HasStream, arrays_at}
use Rattle.bfs_stream.proofs.Doubles.{times-append}
use Rattle.bfs_stream.specs.Told.{contents}
use Rattle.bfs_tree.specs.Trees.{Node}
use Rattle.bfs_sound.specs.Attributes.{attribute_directory, attribute_inodes}
use Rattle.bfs_sound.specs.Inodes.{stream_blocks, frame_blocks}
use Rattle.bfs_sound.specs.Owners.{Owner, In, has_no_stream, node_owners, with_streams}
use Rattle.bfs_sound.specs.Volumes.{Volume, sizes}
use Rattle.bfs_shift.specs.Shifts.{volume_in}
use Rattle.bfs_leave.specs.Given.{AreLoose}
use Rattle.bfs_unmake.specs.Whole.{stream_inodes}
use Rattle.bfs_calls.specs.Allowances.{left_alone}
use Rattle.bfs_unmake.specs.Counted.{HaveStreams, streams_among}
use Rattle.bfs_unmake.proofs.Streams.{all_from, with_all}

one_first : (k : ℕ) (l : List ℕ) → times k (k ∷ l) ≡ 1 + times k l
one_first k l = grind arith

-- an inode is one of its blocks
own_first : (v : Volume) (id : ℕ) (ids : List ℕ) → In id ids → Has (flat_map (frame_blocks v) ids) id
own_first v id [] bad = absurd bad
own_first v id (x ∷ ids) (inl here) =
    let parts : times id (frame_blocks v x ++ flat_map (frame_blocks v) ids) ≡ times id (frame_blocks v x) + times id (flat_map (frame_blocks v) ids) = times-append id (frame_blocks v x) (flat_map (frame_blocks v) ids) in
    let first : times id (frame_blocks v id) ≡ 1 + times id (arrays_at (sizes v.geometry) v.blocks id) = one_first id (arrays_at (sizes v.geometry) v.blocks id) in
    let same : times id (frame_blocks v x) ≡ times id (frame_blocks v id) = ap (λ (k : ℕ). times id (frame_blocks v k)) (sym here) in
    let some : 0 < times id (frame_blocks v x ++ flat_map (frame_blocks v) ids) = omega (arith, parts, first, same) in
    some
own_first v id (x ∷ ids) (inr later) =
    let parts : times id (frame_blocks v x ++ flat_map (frame_blocks v) ids) ≡ times id (frame_blocks v x) + times id (flat_map (frame_blocks v) ids) = times-append id (frame_blocks v x) (flat_map (frame_blocks v) ids) in
    let rest : 0 < times id (flat_map (frame_blocks v) ids) = own_first v id ids later in
    let some : 0 < times id (frame_blocks v x ++ flat_map (frame_blocks v) ids) = omega (arith, parts, rest) in
    some

-- inodes that would be loose once their node has left have streams, and are told
pub have_streams : (g : Geometry) (m : ℕ → Option (List ℕ)) (ids : List ℕ) → AreLoose g m ids → HaveStreams g m ids
have_streams g m ids loose = all_from {P = λ id. IsSome (m id) × HasStream (sizes g) (contents m) id} ids (λ id i. (loose.told id (own_first (volume_in g m) id ids i), loose.streams id i))

none_more : (n : ℕ) → 0 + n ≡ n
none_more n = omega arith

pub owners_among : (v : Volume) (id : ℕ) (n : Node) (t : Bool) → has_no_stream v (id, n) ≡ t → left_alone v (node_owners v (id, n)) ≡ streams_among v (stream_inodes v id t)
unfolding node_owners
owners_among v id n true alone =
    ap (λ (b : Bool). left_alone v ((id, b) ∷ with_streams (attribute_inodes v (attribute_directory v id)))) alone
    ∙ sum_by-cons (λ (o : Owner). cond o.1 0 (length (stream_blocks v o.0))) (id, true) (with_streams (attribute_inodes v (attribute_directory v id)))
    ∙ none_more (left_alone v (with_streams (attribute_inodes v (attribute_directory v id))))
    ∙ with_all v (attribute_inodes v (attribute_directory v id))
owners_among v id n false alone =
    ap (λ (b : Bool). left_alone v ((id, b) ∷ with_streams (attribute_inodes v (attribute_directory v id)))) alone ∙ with_all v (id ∷ attribute_inodes v (attribute_directory v id))
