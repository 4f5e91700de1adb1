-- An inode of a new volume: its stream has the blocks of its tree's two pages and no others.
use Rattle.std.proofs.Common.{◌≡◌, ◌≤◌, ◌+◌, ◌*◌, ◌^◌, ℕ, pos, List, [], ◌∷◌, ◌++◌, length, false, cond, refl, sym, ap, ap₂, ◌∙◌, subst, arith, inl, take, replicate, append-nil}
use Rattle.std.specs.Prelude.{◌==◌, All}
use Rattle.std.specs.List.{flat_map}
use Rattle.std.proofs.lemmas.List.Elements.{All-cons, All-nil}
use Rattle.bfs_base.specs.Lists.{counted_from}
use Rattle.bfs_bytes.specs.declared.Run.{Run}
use Rattle.bfs_super.specs.Conditions.{natural}
use Rattle.bfs_super.specs.Geometry.{IsBlockSize}
use Rattle.bfs_super.specs.declared.geometry.Geometry.{Geometry}
use Rattle.bfs_inode.specs.Inode.{Stream, stream_at}
use Rattle.bfs_log.proofs.Listed.{length-counted}
use Rattle.bfs_stream.specs.Sizes.{Sizes, IsInVolume, first_block}
use Rattle.bfs_stream.specs.Places.{run_blocks, used_runs, array_runs, Levels, level_blocks, places_of, arrays_of, HasLevels, HasStream, levels_at, level_end, bytes_at}
use Rattle.bfs_stream.proofs.Arrays.{array_is}
use Rattle.bfs_sound.specs.Volumes.{sizes}
use Rattle.bfs_sound.specs.Inodes.{stream_blocks, inode_blocks, content}
use Rattle.bfs_mkfs.specs.Laid.{zero_run, pages_length}
use Rattle.bfs_mkfs.proofs.Planned.{few_pages}
use Rattle.bfs_mkfs.proofs.Trees.{pages_of}

-- the run of a tree's pages, and the runs in the inode
abbrev pages_run : ℕ → ℕ → Run
pages_run id p = record { group = pos 0; start = id + 1; len = p }

abbrev direct_runs : ℕ → ℕ → List Run
direct_runs id p = pages_run id p ∷ replicate 11 zero_run

-- the fields of its stream
abbrev stream_is : ℕ → ℕ → ℕ → Stream
stream_is size id p = record {
  direct = direct_runs id p;
  max_direct_range = pos (p * size);
  indirect = zero_run;
  max_indirect_range = pos 0;
  double_indirect = zero_run;
  max_double_indirect_range = pos 0;
  size = pos 2048;
}

used_direct : (id p : ℕ) → 1 ≤ p → used_runs (direct_runs id p) ≡ pages_run id p ∷ []
used_direct id p some = let e : (p == 0) ≡ false = grind (arith, some) in ap (λ b. cond b [] (pages_run id p ∷ [])) e

module _ (g : Geometry) (blocks : ℕ → List ℕ) (id : ℕ) where
  abbrev s : Sizes
  s = sizes g

  abbrev p : ℕ
  p = pages_length g.block_size

  abbrev levels_are : Levels
  levels_are = record { stream = stream_is g.block_size id p; table = []; arrays = []; runs = [] }

  module _ (size : IsBlockSize g.block_size) (stream : stream_at (blocks id) ≡ stream_is g.block_size id p) where
    some : 1 ≤ p
    some = (few_pages g.block_size size).0

    no_array : array_runs s blocks zero_run ≡ []
    no_array = array_is s blocks zero_run

    table_none : array_runs s blocks (stream_at (blocks id)).indirect ≡ []
    table_none = ap (λ (t : Stream). array_runs s blocks t.indirect) stream ∙ no_array

    arrays_none : array_runs s blocks (stream_at (blocks id)).double_indirect ≡ []
    arrays_none = ap (λ (t : Stream). array_runs s blocks t.double_indirect) stream ∙ no_array

    runs_none : flat_map (array_runs s blocks) (used_runs (array_runs s blocks (stream_at (blocks id)).double_indirect)) ≡ []
    runs_none = ap (λ rs. flat_map (array_runs s blocks) (used_runs rs)) arrays_none

    pub levels : levels_at s blocks id ≡ levels_are
    levels = let a = stream in let b = table_none in let c = arrays_none in let d = runs_none in λ i. record { stream = a i; table = b i; arrays = c i; runs = d i }

    first_is : first_block s (pages_run id p) ≡ id + 1
    first_is = let e : 0 * 2 ^ g.shift ≡ 0 = grind arith in omega (arith, e)

    direct_is : level_blocks s (direct_runs id p) ≡ counted_from (id + 1) p
    unfolding level_blocks
    direct_is = ap (flat_map (run_blocks s)) (used_direct id p some) ∙ append-nil (run_blocks s (pages_run id p)) ∙ ap (λ n. counted_from n p) first_is

    none_is : level_blocks s [] ≡ []
    unfolding level_blocks
    none_is = refl

    places_are : places_of s levels_are ≡ counted_from (id + 1) p
    places_are = ap₂ (λ a b. a ++ (b ++ b)) direct_is none_is ∙ append-nil (counted_from (id + 1) p)

    arrays_are : arrays_of s levels_are ≡ []
    unfolding arrays_of
    arrays_are = refl

    pub stream_blocks_are : stream_blocks (record { geometry = g; blocks = blocks }) id ≡ counted_from (id + 1) p
    stream_blocks_are = ap (places_of s) levels ∙ places_are

    pub inode_blocks_are : inode_blocks (record { geometry = g; blocks = blocks }) id ≡ id ∷ counted_from (id + 1) p
    inode_blocks_are = ap (λ l. (id ∷ arrays_of s l) ++ places_of s l) levels ∙ ap₂ (λ a b. (id ∷ a) ++ b) arrays_are places_are

    length-places : length (counted_from (id + 1) p) ≡ p
    length-places = length-counted (id + 1) p

    no_bytes : g.block_size * 0 ≡ 0
    no_bytes = grind arith

    pub has_stream : id + 1 + p ≤ 2 ^ g.shift → id + 1 + p ≤ g.blocks → HasStream s blocks id
    has_stream one_group inside = subst (HasLevels s) (sym levels) (record {
      direct = subst (All (IsInVolume s)) (sym (used_direct id p some)) (All-cons (IsInVolume s) (pages_run id p) [] (record { group = omega arith; one_group = one_group; inside = subst (λ n. n + p ≤ g.blocks) (sym first_is) inside }) (All-nil (IsInVolume s)));
      indirect = inl refl;
      in_indirect = All-nil (IsInVolume s);
      double = inl refl;
      arrays = All-nil _;
      in_double = All-nil _;
      direct_range = ap pos (let e : length (level_blocks s (direct_runs id p)) ≡ p = ap length direct_is ∙ length-places in ap (λ n. n * g.block_size) (sym e) ∙ grind arith);
      indirect_range = ap pos (let e : length (level_blocks s []) ≡ 0 = ap length none_is in sym (ap (λ n. g.block_size * level_end (length (level_blocks s (direct_runs id p))) n) e ∙ no_bytes));
      double_range = ap pos (let e : length (level_blocks s []) ≡ 0 = ap length none_is in sym (ap (λ n. g.block_size * level_end (length (level_blocks s (direct_runs id p)) + length (level_blocks s [])) n) e ∙ no_bytes));
      size_low = omega arith;
      size_high = let e : length (places_of s levels_are) ≡ p = ap length places_are ∙ length-places in subst (λ n. 2048 ≤ g.block_size * n) (sym e) (let h = pages_of g.block_size size in omega (arith, h));
    })

    pub content_is : content (record { geometry = g; blocks = blocks }) id ≡ take 2048 (flat_map blocks (counted_from (id + 1) p))
    unfolding bytes_at
    content_is = ap (λ (l : Levels). take (natural l.stream.size) (flat_map blocks (places_of s l))) levels ∙ ap (λ l. take 2048 (flat_map blocks l)) places_are
