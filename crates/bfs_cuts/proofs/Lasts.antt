-- The last tables of the double indirect level went: how many blocks they had, and what the level has still.
use Rattle.std.proofs.Common.{◌≡◌, ◌≤◌, ◌<◌, ◌+◌, ◌-◌, ◌*◌, ◌∙◌, inr, ℕ, zero, suc, Bool, false, cond, List, [], ◌∷◌, Option, length, take, drop, get_or, refl, sym, ap, subst, arith, length-append}
use Rattle.std.specs.Prelude.{◌==◌, All}
use Rattle.bfs_bytes.specs.declared.Run.{Run}
use Rattle.bfs_super.specs.Conditions.{natural}
use Rattle.bfs_bitmap.specs.Runs.{Room}
use Rattle.bfs_stream.specs.Sizes.{Sizes, Origin, IsWhole, array_length, table_length, first_block}
use Rattle.bfs_stream.specs.Places.{Levels, fields, run_blocks, blocks_of, used_runs, level_blocks, level_end, second_arrays, levels_at, places_at}
use Rattle.bfs_stream.specs.Told.{contents, Stands}
use Rattle.bfs_stream.specs.Grown.{Owns}
use Rattle.bfs_stream.specs.Trimmed.{Trimmed, HasSpare, MayLose, before_last_table}
use Rattle.bfs_stream.proofs.Arrays.{length-flat}
use Rattle.bfs_stream.proofs.Levels.{length-counted}
use Rattle.bfs_stream.proofs.Placed.{length-places}
use Rattle.bfs_stream.proofs.Listed.{double_long}
use Rattle.bfs_stream.proofs.Seconds.{no_second}
use Rattle.bfs_cuts.proofs.CutTwice.{may_fewer}
use Rattle.bfs_cuts.proofs.Handed.{length-drop}
use Rattle.bfs_cuts.proofs.Drops.{blocks_split, length-take, ended, fewer_tables}

all_drop : (P : Run → Type 0) (n : ℕ) (xs : List Run) → All P xs → All P (drop n xs)
all_drop P zero xs all = all
all_drop P (suc n) [] all = all
all_drop P (suc n) (x ∷ xs) all = all_drop P n xs (λ i d h. all (suc i) d (omega (arith, h)))

whole_long : (s : Sizes) (rs : List Run) → All (IsWhole s) rs → length (blocks_of s rs) ≡ array_length s * length rs
whole_long s rs all = length-flat (run_blocks s) (array_length s) rs (λ i d h. length-counted (first_block s (get_or rs i d)) (get_or rs i d).len ∙ (all i d h).long)

-- some of the level's blocks stay
kept_some : (a used n kept gone most : ℕ) → kept + gone ≡ a * used → gone ≡ a * (used - n) → a * (used - n) ≤ most → most < a * used → 0 < kept
kept_some a used n kept gone most sum e few less = omega (arith, sum, e, few, less)

reach_of : (reach before own : ℕ) → 0 < own → reach ≡ before + own → reach ≡ level_end before own
reach_of reach before own some e = let t : (own == 0) ≡ false = grind (arith, some) in e ∙ sym (ap (λ (b : Bool). cond b 0 (before + own)) t)

at_most : (a b : ℕ) → a < b → a ≤ b
at_most a b less = omega (arith, less)

at_least : (a b : ℕ) → a < b → 0 < b
at_least a b less = omega (arith, less)

last_inside : (before d i kept total left gone x all p f q most : ℕ) → before ≡ d + i + kept → total ≡ left + gone → total ≡ d + i + x → x ≡ all → gone ≡ q → f ≡ q → p ≡ q → kept + most < all → p ≤ most → before + (most - f) < left
last_inside before d i kept total left gone x all p f q most e1 e2 e3 e4 e5 e6 e7 less few = omega (arith, e1, e2, e3, e4, e5, e6, e7, less, few)

-- an array that lists tables has blocks
double_some : (o : Origin) (m : ℕ → Option (List ℕ)) → Stands o m → 0 < length (second_arrays o.sizes (contents m) o.id) → 0 < (fields o.sizes (contents m) o.id).double_indirect.len
double_some o m stands some = by_len (fields o.sizes (contents m) o.id).double_indirect.len refl
  where
    by_len : (k : ℕ) → (fields o.sizes (contents m) o.id).double_indirect.len ≡ k → 0 < (fields o.sizes (contents m) o.id).double_indirect.len
    by_len zero e = let none : length (second_arrays o.sizes (contents m) o.id) ≡ 0 = ap length (no_second o m e) in absurd (omega (arith, some, none))
    by_len (suc k) e = omega (arith, e)

module _ (o : Origin) (v : Room) (m : ℕ → Option (List ℕ)) (owns : Owns o v [] m) (used n keep most : ℕ) (used_is : used ≡ length (used_runs (levels_at o.sizes (contents m) o.id).runs)) (fewer : keep < length (second_arrays o.sizes (contents m) o.id))
    (n_is : n ≡ table_length o.sizes * keep) (few : array_length o.sizes * (used - table_length o.sizes * keep) ≤ most) (spare : array_length o.sizes * (table_length o.sizes * (keep - 1)) + most < array_length o.sizes * used) where
  abbrev l : Levels
  l = levels_at o.sizes (contents m) o.id

  abbrev runs_gone : List ℕ
  runs_gone = blocks_of o.sizes (drop n (used_runs (levels_at o.sizes (contents m) o.id).runs))

  abbrev runs_kept : List ℕ
  runs_kept = blocks_of o.sizes (take n (used_runs (levels_at o.sizes (contents m) o.id).runs))

  pub gone_long : length (blocks_of o.sizes (drop n (used_runs (levels_at o.sizes (contents m) o.id).runs))) ≡ array_length o.sizes * (used - n)
  gone_long =
      whole_long o.sizes (drop n (used_runs l.runs)) (all_drop (IsWhole o.sizes) n (used_runs l.runs) owns.stands.sound.in_double)
      ∙ ap (λ (x : ℕ). array_length o.sizes * x) (length-drop (used_runs l.runs) n ∙ ap (λ (x : ℕ). x - n) (sym used_is))

  own : length (level_blocks o.sizes (levels_at o.sizes (contents m) o.id).runs) ≡ array_length o.sizes * used
  own = double_long o m owns.stands ∙ ap (λ (x : ℕ). array_length o.sizes * x) (sym used_is)

  kept_long : length runs_kept + length runs_gone ≡ array_length o.sizes * used
  unfolding level_blocks
  kept_long = sym (length-append runs_kept runs_gone) ∙ sym (ap length (blocks_split o.sizes n (used_runs l.runs))) ∙ own

  gone_n : array_length o.sizes * (used - table_length o.sizes * keep) ≡ array_length o.sizes * (used - n)
  gone_n = ap (λ (x : ℕ). array_length o.sizes * (used - x)) (sym n_is)

  less_all : most < array_length o.sizes * used
  less_all = omega (arith, spare)

  some_left : 0 < length runs_kept
  some_left = kept_some (array_length o.sizes) used n (length runs_kept) (length runs_gone) most kept_long gone_long (let a = gone_n in omega (arith, few, a)) less_all

  reach_sum : (d i kept gone all total places reach taken : ℕ) → places ≡ d + i + all → kept + gone ≡ all → total ≡ places → taken ≡ gone → reach ≡ total - taken → reach ≡ d + i + kept
  reach_sum d i kept gone all total places reach taken e f g h r = omega (arith, e, f, g, h, r)

  pub reach_is : (reach total taken : ℕ) → total ≡ length (places_at o.sizes (contents m) o.id) → taken ≡ array_length o.sizes * (used - n) → reach ≡ total - taken
      → reach ≡ level_end (length (level_blocks o.sizes (levels_at o.sizes (contents m) o.id).stream.direct) + length (level_blocks o.sizes (levels_at o.sizes (contents m) o.id).table)) (length (blocks_of o.sizes (take n (used_runs (levels_at o.sizes (contents m) o.id).runs))))
  reach_is reach total taken total_is taken_is reach_so =
      reach_of reach (length (level_blocks o.sizes l.stream.direct) + length (level_blocks o.sizes l.table)) (length runs_kept) some_left
      (reach_sum (length (level_blocks o.sizes l.stream.direct)) (length (level_blocks o.sizes l.table)) (length runs_kept) (length runs_gone) (length (level_blocks o.sizes l.runs)) total (length (places_at o.sizes (contents m) o.id)) reach taken
      (length-places o.sizes (contents m) o.id) (kept_long ∙ sym own) total_is (taken_is ∙ sym gone_long) reach_so)

  pub size_is : MayLose o m most → natural (fields o.sizes (contents m) o.id).size ≤ o.sizes.block_size * (length (places_at o.sizes (contents m) o.id) - length (blocks_of o.sizes (drop n (used_runs (levels_at o.sizes (contents m) o.id).runs))))
  size_is may =
      subst (λ (x : ℕ). natural (fields o.sizes (contents m) o.id).size ≤ o.sizes.block_size * (length (places_at o.sizes (contents m) o.id) - x)) (gone_n ∙ sym gone_long)
      (may_fewer o m most (array_length o.sizes * (used - table_length o.sizes * keep)) few may)

  pub spare_is : (now : Room) (told : Option (ℕ → Option (List ℕ))) (old new : ℕ → Bool) (t : Trimmed o v now m (blocks_of o.sizes (drop n (used_runs (levels_at o.sizes (contents m) o.id).runs))) told old new) (none : Run) (left : List Run) (reach taken : ℕ) → none.len ≡ 0
      → levels_at o.sizes (contents t.map) o.id ≡ fewer_tables o.sizes (levels_at o.sizes (contents m) o.id) keep none left reach → taken ≡ array_length o.sizes * (used - n) → HasSpare o t.map (most - taken)
  spare_is now told old new t none left reach taken zero_len lv taken_is =
      let long : length (places_at o.sizes (contents m) o.id) ≡ length (places_at o.sizes (contents t.map) o.id) + length runs_gone = ap length t.places ∙ length-append (places_at o.sizes (contents t.map) o.id) runs_gone in
      let some : 0 < (fields o.sizes (contents t.map) o.id).double_indirect.len = subst (λ (x : ℕ). 0 < x) (sym (ap (λ (x : Levels). x.stream.double_indirect.len) lv)) (double_some o m owns.stands (at_least keep (length (second_arrays o.sizes (contents m) o.id)) fewer)) in
      let d : ℕ = length (level_blocks o.sizes l.stream.direct) in
      let i : ℕ = length (level_blocks o.sizes l.table) in
      let before_is : before_last_table o t.map ≡ length (level_blocks o.sizes l.stream.direct) + length (level_blocks o.sizes l.table) + array_length o.sizes * (table_length o.sizes * (keep - 1)) =
      ap (λ (x : Levels). length (level_blocks o.sizes x.stream.direct) + length (level_blocks o.sizes x.table) + array_length o.sizes * (table_length o.sizes * (length (used_runs x.arrays) - 1))) lv
      ∙ ap (λ (x : List Run). d + i + array_length o.sizes * (table_length o.sizes * (length x - 1))) (ended l.arrays keep none zero_len fewer)
      ∙ ap (λ (x : ℕ). d + i + array_length o.sizes * (table_length o.sizes * (x - 1))) (length-take keep (second_arrays o.sizes (contents m) o.id) (at_most keep (length (second_arrays o.sizes (contents m) o.id)) fewer)) in
      inr (inr (
        some,
        last_inside (before_last_table o t.map) d i (array_length o.sizes * (table_length o.sizes * (keep - 1))) (length (places_at o.sizes (contents m) o.id)) (length (places_at o.sizes (contents t.map) o.id)) (length runs_gone) (length (level_blocks o.sizes l.runs)) (array_length o.sizes * used)
            (array_length o.sizes * (used - table_length o.sizes * keep)) taken (array_length o.sizes * (used - n)) most before_is long (length-places o.sizes (contents m) o.id) own gone_long taken_is gone_n spare few,
      ))
