-- What a call that holds a piece of a file is allowed, and that it is at most Need.
use Rattle.std.proofs.Common.{◌≡◌, ◌≤◌, ◌+◌, ◌*◌, ℕ, List, ◌++◌, codes, cond, true, Option, Some, None, refl, sym, subst, arith}
use Rattle.std.specs.Prelude.{is_some}
use Rattle.std.proofs.lemmas.List.{length-append}
use Rattle.bfs_super.specs.Geometry.{geometry_of}
use Rattle.bfs_super.specs.declared.sup.Super.{Super}
use Rattle.bfs_bitmap.specs.Runs.{Room}
use Rattle.bfs_tree.specs.declared.call.Call.TheVariants.{Hold}
use Rattle.bfs_tree.specs.Trees.{Tree}
use Rattle.bfs_sound.specs.Need.{index_row, logged_need, need}
use Rattle.bfs_sound.specs.Volumes.{Volume}
use Rattle.bfs_shift.specs.Lists.{Lists}
use Rattle.bfs_shift.specs.Shifts.{volume_in}
use Rattle.bfs_look.specs.Ready.{IsReady}
use Rattle.bfs_calls.proofs.Allowed.{count_at, least_index, least_joined, ones, rows_least}
use Rattle.bfs_calls.specs.Allowances.{allowance}
use Rattle.bfs_calls.specs.Made.{AreBuiltIn}
use Rattle.bfs_calls.specs.declared.indices.BuiltIn.{BuiltIn}

-- two where there is one
two_ones : (o : Option ℕ) → cond (is_some o) 2 0 ≡ ones o + ones o
two_ones None = refl
two_ones (Some n) = refl

module _ (s : Super) (r : Room) (m : ℕ → Option (List ℕ)) (tree : Tree) (lists : Lists) (ready : IsReady (geometry_of s) r m tree lists) (id at count : ℕ) where
  abbrev was : Volume
  was = volume_in (geometry_of s) m

  abbrev times : List ℕ
  times = index_row was (codes "last_modified")

  -- how many blocks may be changed
  pub allowed : (b : BuiltIn) → AreBuiltIn lists b → (all : ℕ) → all ≡ 28 * cond (is_some b.last_modified) 2 0 + 8 → all ≡ allowance was tree (Hold id at count true)
  allowed b built all is =
      let two = length-append times times in
      let one = count_at (geometry_of s) r m tree lists ready b built (codes "last_modified") b.last_modified built.last_modified in
      let k = two_ones b.last_modified in
      omega (arith, two, one, k, is)

  -- what is allowed is at most Need
  least : allowance was tree (Hold id at count true) ≤ logged_need was tree (Hold id at count true)
  least =
      let one = least_index (geometry_of s) r m tree lists ready (codes "last_modified") in
      let rows = rows_least (times ++ times) (least_joined times times one one) in
      omega (arith, rows)

  pub within : (all : ℕ) → all ≡ allowance was tree (Hold id at count true) → (all ≤ logged_need was tree (Hold id at count true)) × (all ≤ need was tree (Hold id at count true))
  within all is =
      let few : all ≤ logged_need was tree (Hold id at count true) = subst (λ (n : ℕ). n ≤ logged_need was tree (Hold id at count true)) (sym is) least in
      (few, (let more : all ≤ logged_need was tree (Hold id at count true) + 0 = omega (arith, few) in more))
