-- An image that is whole with a tree is a volume between two calls that stands for it.
use Rattle.std.proofs.Common.{◌≡◌, ◌<◌, ◌+◌, ◌-◌, ◌*◌, ◌^◌, ℕ, zero, suc, List, [], length, Bool, true, false, cond, ◌==◌, Option, Some, None, unwrap_or, refl, sym, ap, subst, arith}
use Rattle.std.specs.Prelude.{IsSome}
use Rattle.std.proofs.lemmas.Bool.{lt-ltb}
use Rattle.std.proofs.lemmas.Nat.{le-div}
use Rattle.bfs_base.specs.Lists.{times, Has}
use Rattle.bfs_super.specs.Conditions.{natural}
use Rattle.bfs_super.specs.Geometry.{bitmap_length, geometry_of}
use Rattle.bfs_super.specs.declared.geometry.Geometry.{Geometry}
use Rattle.bfs_super.specs.declared.sup.Super.{Super}
use Rattle.bfs_bitmap.specs.Runs.{Room, Fits, marked, marked_count}
use Rattle.bfs_bitmap.specs.Tallies.{first_tally}
use Rattle.bfs_stream.specs.Told.{contents}
use Rattle.bfs_stream.proofs.Frames.{has_left, has_right}
use Rattle.bfs_tree.specs.Trees.{Tree}
use Rattle.bfs_sound.specs.Volumes.{Volume, bitmap_blocks}
use Rattle.bfs_sound.specs.Owners.{IsMetadata, fixed_blocks, index_blocks, node_blocks}
use Rattle.bfs_sound.specs.Whole.{IsSound, Whole, volume_of}
use Rattle.bfs_sound.proofs.Carried.{has_counted, sound_stays}
use Rattle.bfs_shift.specs.Laws.{lists_of}
use Rattle.bfs_shift.specs.Shifts.{volume_in}
use Rattle.bfs_shift.proofs.Basics.{some_bytes}
use Rattle.bfs_shift.proofs.Closed.{sound_agrees, sound_stocked}
use Rattle.bfs_shift.proofs.Frees.{other_count}
use Rattle.bfs_look.specs.Ready.{IsReady}
use Rattle.bfs_query.specs.Resting.{IsOfOne, told_of}

-- ---- the bitmap of a volume, with a count that is that of its bits

abbrev bare_room : Geometry → ℕ → Room
bare_room g used = record {
  block_size = g.block_size;
  blocks = g.blocks;
  group_blocks = 2 ^ g.shift;
  given = [];
  last = 0;
  tally = first_tally used;
  tally_kept = first_tally used;
}

same_marks : (g : Geometry) (m : ℕ → Option (List ℕ)) (a b k : ℕ) → marked_count (bare_room g a) m k ≡ marked_count (bare_room g b) m k
same_marks g m a b zero = refl
same_marks g m a b (suc k) = ap (λ (n : ℕ). cond (marked (8 * g.block_size) m k == 0) 0 1 + n) (same_marks g m a b k)

times_next : (k b : ℕ) → (k + 1) * b ≡ k * b + b
times_next k b = grind arith

other_way : (b j : ℕ) → 8 * b * j ≡ j * (b * 8)
other_way b j = grind arith

bitmap_below : (n b j : ℕ) → 0 < b → 8 * b * j < n → j < bitmap_length n b
bitmap_below n b j some lt =
    let next = times_next j (b * 8) in
    let way = other_way b j in
    let le = le-div (j + 1) (n + (b * 8 - 1)) (b * 8) (omega (arith, some)) (omega (arith, next, way, lt, some)) in
    omega (arith, le)

module _ (t : Super) (blocks : ℕ → List ℕ) (tree : Tree) (whole : Whole t blocks tree) where
  abbrev m : ℕ → Option (List ℕ)
  m = told_of t blocks

  abbrev g : Geometry
  g = geometry_of t

  abbrev v : Volume
  v = volume_of t blocks

  some : 0 < g.block_size
  some = some_bytes t whole.valid.super

  told_at : (k : ℕ) → k < natural t.num_blocks → m k ≡ Some (blocks k)
  told_at k lt = ap (λ (b : Bool). cond b (Some (blocks k)) None) (lt-ltb k (natural t.num_blocks) lt)

  same : (k : ℕ) → IsMetadata v tree k → times k (fixed_blocks v) ≡ 0 → contents m k ≡ blocks k
  same k meta apart = ap (λ (o : Option (List ℕ)). unwrap_or o []) (told_at k ((whole.sound.bits k).1 meta.0).0)

  sound : IsSound (volume_in g m) tree
  sound = sound_stays v (contents m) tree whole.sound some same

  told_meta : (k : ℕ) → IsMetadata (volume_in g m) tree k → times k (fixed_blocks (volume_in g m)) ≡ 0 → IsSome (m k)
  told_meta k meta apart = subst (λ (o : Option (List ℕ)). IsSome o) (sym (told_at k ((sound.bits k).1 meta.0).0)) refl

  pub sized : (k : ℕ) → k < natural t.num_blocks → length (blocks k) ≡ t.block_size
  sized = whole.valid.long

  abbrev used : ℕ
  used = marked_count (bare_room g 0) m g.blocks

  abbrev pub room : Room
  room = bare_room g used

  bitmap_inside : (j : ℕ) → 8 * g.block_size * j < g.blocks → 1 + j < g.blocks
  bitmap_inside j lt =
      let has : Has (bitmap_blocks g) (1 + j) = has_counted (1 + j) 1 (bitmap_length g.blocks g.block_size) (omega arith) (let b = bitmap_below g.blocks g.block_size j some lt in omega (arith, b)) in
      ((whole.sound.bits (1 + j)).1 (has_right (fixed_blocks v) _ (1 + j) (has_left (bitmap_blocks g) _ (1 + j) has))).0

  fits : Fits room m
  fits = record {
    has = record { told = λ j lt. (blocks (1 + j), told_at (1 + j) (bitmap_inside j lt), whole.valid.long (1 + j) (bitmap_inside j lt)) };
    nothing_below = λ k lt. absurd (omega (arith, lt));
    no_wide = λ at lt. absurd (omega (arith, lt));
  }

  -- whatever count of used blocks a superblock has
  told_used : (n k : ℕ) → IsMetadata (volume_in (record g { used = n }) m) tree k → times k (fixed_blocks (volume_in (record g { used = n }) m)) ≡ 0 → IsSome (m k)
  unfolding node_blocks index_blocks
  told_used n k meta apart = told_meta k meta apart

  pub image_is_ready : (n : ℕ) → IsReady (record g { used = n }) room m tree (lists_of (volume_in g m) tree)
  image_is_ready n = record {
    work = record {
      volume = record { block_size = refl; blocks = refl; group_blocks = refl };
      fits = fits;
      counted = same_marks g m 0 used g.blocks;
      stocked = other_count (volume_in g m) tree (lists_of (volume_in g m) tree) [] n (sound_stocked (volume_in g m) tree sound);
      told = told_used n;
    };
    agrees = sound_agrees (volume_in g m) tree sound;
    plain = record { nodes = sound.nodes.plain; indices = sound.indices.plain };
    root = sound.nodes.stands.root;
    reserved = λ k bad. absurd (let no' : false ≡ true = bad in cc);
  }

  -- so the volume of another superblock that differs in that count alone is ready too
  pub one_is_ready : (s : Super) → IsOfOne s t → IsReady (geometry_of s) room m tree (lists_of (volume_in g m) tree)
  one_is_ready s one =
      let same_geometry : (let a : Geometry = record g { used = (geometry_of s).used } in a) ≡ geometry_of s = ap (λ (x : Geometry). record x { used = (geometry_of s).used }) one in
      subst (λ (x : Geometry). IsReady x room m tree (lists_of (volume_in g m) tree)) same_geometry (image_is_ready (geometry_of s).used)
