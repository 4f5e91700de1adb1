-- What a call that gives a file a size is allowed, and that it is at most Need.
use Rattle.std.proofs.Common.{◌≡◌, ◌≤◌, ◌<◌, inl, inr, ◌+◌, ◌-◌, ◌*◌, ◌/◌, ◌∙◌, ℕ, List, [], ◌∷◌, ◌++◌, length, codes, min, max, cond, Bool, true, false, Option, Some, None, refl, sym, ap, subst, arith}
use Rattle.std.specs.Prelude.{◌==◌, nat_lt, is_some}
use Rattle.std.proofs.lemmas.List.{length-append}
use Rattle.bfs_super.specs.Conditions.{IsValid, ceil, natural}
use Rattle.bfs_super.specs.Geometry.{IsBlockSize, geometry_of, bitmap_length}
use Rattle.bfs_super.specs.declared.sup.Super.{Super}
use Rattle.bfs_bitmap.specs.Runs.{Room}
use Rattle.bfs_stream.specs.Places.{fields}
use Rattle.bfs_stream.proofs.Sized.{valid_sizes}
use Rattle.bfs_tree.specs.declared.call.Call.TheVariants.{SetSize}
use Rattle.bfs_tree.specs.Trees.{Node, Tree, IsNode, is_file}
use Rattle.bfs_sound.specs.Inodes.{stream_blocks}
use Rattle.bfs_sound.specs.Need.{index_row, growth, arrays_for, stream_length, logged_need}
use Rattle.bfs_sound.specs.Owners.{with_streams}
use Rattle.bfs_sound.specs.Volumes.{Volume, sizes}
use Rattle.bfs_shift.specs.Lists.{Lists}
use Rattle.bfs_shift.specs.Shifts.{volume_in}
use Rattle.bfs_look.specs.Ready.{IsReady}
use Rattle.bfs_calls.proofs.Allowed.{AllLeast, count_at, least_index, least_joined, min_less, one_stream, ones, rows_least}
use Rattle.bfs_calls.specs.Allowances.{left_alone, allowance}
use Rattle.bfs_calls.specs.Made.{AreBuiltIn}
use Rattle.bfs_calls.specs.declared.indices.BuiltIn.{BuiltIn}
use Rattle.bfs_set_size.proofs.Owned.{file_size}
use Rattle.bfs_set_size.proofs.Resized.{largest_fills}
use Rattle.bfs_set_size.specs.Allowed.{IsSizeAllowance, IsWithinNeed}
use Rattle.bfs_set_size.specs.declared.allowance.SizeAllowance.{SizeAllowance}

few_by : (bytes blocks : ℕ) → IsBlockSize bytes → bytes * blocks < 1073741824 + bytes → blocks ≤ 1048576
few_by bytes blocks (inl e) less = let l : 1024 * blocks < 1073741824 + 1024 = subst (λ (k : ℕ). k * blocks < 1073741824 + k) e less in omega (arith, l)
few_by bytes blocks (inr (inl e)) less = let l : 2048 * blocks < 1073741824 + 2048 = subst (λ (k : ℕ). k * blocks < 1073741824 + k) e less in omega (arith, l)
few_by bytes blocks (inr (inr (inl e))) less = let l : 4096 * blocks < 1073741824 + 4096 = subst (λ (k : ℕ). k * blocks < 1073741824 + k) e less in omega (arith, l)
few_by bytes blocks (inr (inr (inr e))) less = let l : 8192 * blocks < 1073741824 + 8192 = subst (λ (k : ℕ). k * blocks < 1073741824 + k) e less in omega (arith, l)

-- the blocks of a file of the largest size
pub few_blocks : (s : Super) (size blocks : ℕ) → IsValid s → size ≤ 1073741824 → blocks ≡ ceil size s.block_size → blocks ≤ 1048576
few_blocks s size blocks valid few is = few_by s.block_size blocks (valid_sizes s valid).block_size (largest_fills s size blocks valid few is)

-- two where there is one
two_ones : (o : Option ℕ) → cond (is_some o) 2 0 ≡ ones o + ones o
two_ones None = refl
two_ones (Some n) = refl

module _ (v : Volume) (id : ℕ) where
  -- the blocks of a stream that is cut
  stream_left : (b : Bool) → left_alone v (with_streams (cond b (id ∷ []) [])) ≡ cond b (length (stream_blocks v id)) 0
  stream_left true = one_stream v id
  stream_left false = omega arith

  stream_less : (b : Bool) → left_alone v (with_streams (cond b (id ∷ []) [])) ≤ cond b (stream_length v id) 0
  stream_less true = let e = one_stream v id in omega (arith, e)
  stream_less false = omega arith

module _ (s : Super) (r : Room) (m : ℕ → Option (List ℕ)) (tree : Tree) (lists : Lists) (ready : IsReady (geometry_of s) r m tree lists) (id size : ℕ) where
  abbrev was : Volume
  was = volume_in (geometry_of s) m

  abbrev most : ℕ
  most = bitmap_length was.geometry.blocks was.geometry.block_size

  abbrev smaller : Bool
  smaller = nat_lt size (natural (fields (sizes was.geometry) was.blocks id).size)

  abbrev left : ℕ
  left = left_alone was (with_streams (cond smaller (id ∷ []) []))

  abbrev twice : List ℕ → List ℕ
  twice name = index_row was name ++ index_row was name

  least_twice : (name : List ℕ) → AllLeast (twice name)
  least_twice name = let one = least_index (geometry_of s) r m tree lists ready name in least_joined (index_row was name) (index_row was name) one one

  -- what is allowed is at most Need
  pub within : allowance was tree (SetSize id size) ≤ logged_need was tree (SetSize id size)
  within =
      let rows = rows_least (twice (codes "size") ++ twice (codes "last_modified")) (least_joined (twice (codes "size")) (twice (codes "last_modified")) (least_twice (codes "size")) (least_twice (codes "last_modified"))) in
      let few = stream_less was id smaller in
      let less = min_less (0 + growth was id size + left) (0 + growth was id size + cond smaller (stream_length was id) 0) most (omega (arith, few)) in
      omega (arith, rows, less)

  -- and so is what it answers
  pub within_need : (a : SizeAllowance) → IsSizeAllowance was tree id size a → IsWithinNeed was tree id size a
  within_need a so =
      let few = within in
      let same : a.logged ≡ allowance was tree (SetSize id size) = so.logged in
      let all : a.taken ≡ a.logged + growth was id size = so.taken in
      record {
        logged = subst (λ (k : ℕ). k ≤ logged_need was tree (SetSize id size)) (sym same) few;
        taken = subst (λ (k : ℕ). k ≤ logged_need was tree (SetSize id size) + growth was id size) (sym (all ∙ ap (λ (k : ℕ). k + growth was id size) same)) (omega (arith, few));
      }

  module _ (b : BuiltIn) (built : AreBuiltIn lists b) where
    rows_counted : (rows : ℕ) → rows ≡ cond (is_some b.size) 2 0 + cond (is_some b.last_modified) 2 0 → length (twice (codes "size") ++ twice (codes "last_modified")) ≡ rows
    rows_counted rows is =
        let all = length-append (twice (codes "size")) (twice (codes "last_modified")) in
        let two = length-append (index_row was (codes "size")) (index_row was (codes "size")) in
        let other = length-append (index_row was (codes "last_modified")) (index_row was (codes "last_modified")) in
        let z = count_at (geometry_of s) r m tree lists ready b built (codes "size") b.size built.size in
        let l = count_at (geometry_of s) r m tree lists ready b built (codes "last_modified") b.last_modified built.last_modified in
        let y = two_ones b.size in
        let k = two_ones b.last_modified in
        omega (arith, all, two, other, z, l, y, k, is)

    -- how many blocks it gains
    pub gains : (there array needed file : ℕ) → there ≡ length (stream_blocks was id) → array ≡ max 1 (4096 / s.block_size) → needed ≡ ceil size s.block_size → file ≡ array * ceil (needed - there) array → file ≡ growth was id size
    gains there array needed file had long need is =
        is ∙ ap (λ (k : ℕ). array * ceil (k - there) array) need ∙ ap (λ (k : ℕ). array * ceil (ceil size s.block_size - k) array) had
        ∙ ap (λ (k : ℕ). k * ceil (ceil size s.block_size - length (stream_blocks was id)) k) long

    module _ (n : Node) (valid : IsValid s) (there_is : IsNode tree id n) (is_of : is_file n.kind ≡ true) where
      lefts : (before there cut : ℕ) → n.size ≡ before → there ≡ length (stream_blocks was id) → cut ≡ cond (nat_lt size before) there 0 → cut ≡ left
      lefts before there cut same had is =
          is ∙ ap (λ (k : ℕ). cond (nat_lt size before) k 0) had ∙ sym (stream_left was id (nat_lt size before))
          ∙ ap (λ (k : ℕ). left_alone was (with_streams (cond (nat_lt size k) (id ∷ []) []))) (sym same ∙ file_size s r m tree lists [] id n valid ready.work there_is is_of)

      -- how many blocks may be changed
      pub allowed : (before there array needed file arrays cut all low rows : ℕ) → n.size ≡ before → there ≡ length (stream_blocks was id) → array ≡ max 1 (4096 / s.block_size) → needed ≡ ceil size s.block_size → file ≡ array * ceil (needed - there) array
          → arrays ≡ cond (file == 0) 0 (ceil file 128 + 3 * array) → cut ≡ cond (nat_lt size before) there 0 → all ≡ most → low ≡ min (file + cut) all → rows ≡ cond (is_some b.size) 2 0 + cond (is_some b.last_modified) 2 0
          → 28 * rows + arrays + low + 8 ≡ allowance was tree (SetSize id size)
      allowed before there array needed file arrays cut all low rows same had long need is of cut_is full least count =
          let gain : file ≡ growth was id size = gains there array needed file had long need is in
          let lost : cut ≡ left = lefts before there cut same had cut_is in
          let both : file + cut ≡ 0 + growth was id size + left = omega (arith, gain, lost) in
          let few : low ≡ min (0 + growth was id size + left) most = least ∙ ap (λ (k : ℕ). min k all) both ∙ ap (min (0 + growth was id size + left)) full in
          let tables : arrays ≡ arrays_for was (growth was id size) = of ∙ ap (λ (k : ℕ). cond (k == 0) 0 (ceil k 128 + 3 * array)) gain ∙ ap (λ (k : ℕ). cond (growth was id size == 0) 0 (ceil (growth was id size) 128 + 3 * k)) long in
          let listed = rows_counted rows count in
          omega (arith, few, tables, listed)

      -- both answers
      pub sized_so : (before there array needed file arrays cut all low rows : ℕ) → n.size ≡ before → there ≡ length (stream_blocks was id) → array ≡ max 1 (4096 / s.block_size) → needed ≡ ceil size s.block_size → file ≡ array * ceil (needed - there) array
          → arrays ≡ cond (file == 0) 0 (ceil file 128 + 3 * array) → cut ≡ cond (nat_lt size before) there 0 → all ≡ most → low ≡ min (file + cut) all → rows ≡ cond (is_some b.size) 2 0 + cond (is_some b.last_modified) 2 0
          → IsSizeAllowance was tree id size (record { logged = 28 * rows + arrays + low + 8; taken = 28 * rows + arrays + low + 8 + file })
      sized_so before there array needed file arrays cut all low rows same had long need is of cut_is full least count = record {
        logged = allowed before there array needed file arrays cut all low rows same had long need is of cut_is full least count;
        taken = ap (λ (k : ℕ). 28 * rows + arrays + low + 8 + k) (gains there array needed file had long need is);
      }
