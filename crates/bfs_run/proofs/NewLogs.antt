-- What a modest call has need of, and that a new volume's log has room for it.
use Rattle.std.proofs.Common.{◌≡◌, ◌≤◌, ◌<◌, ◌+◌, ◌-◌, ◌*◌, ◌/◌, ◌⊎◌, ⊎_elim, inl, inr, min, max, ◌≤ℤ◌, pos, negsuc, ℕ, ℤ, zero, suc, List, [], ◌∷◌, ◌++◌, length, length-append, drop, take, replicate, Bool, true, false, cond, not, nat_lt, nat_le, ◌==◌, Option, Some, None, is_some, refl, ap, ◌∙◌, subst, arith}
use Rattle.std.specs.Prelude.{codes, sum_by}
use Rattle.std.specs.List.{AllByRecursion, filter, flat_map}
use Rattle.std.specs.Option.{option_map_or}
use Rattle.std.specs.FinMap.{entries}
use Rattle.std.specs.Str.{bytes_eq}
use Rattle.std.proofs.lemmas.List.Sums.{sum_by-cons}
use Rattle.std.proofs.lemmas.List.{length-drop, length-replicate}
use Rattle.std.proofs.Math.Nat.{mul-le-mul_right, mul_comm}
use Rattle.std.proofs.lemmas.Nat.{div_below}
use Rattle.std.proofs.lemmas.Int.{ints}
use Rattle.bfs_base.specs.declared.kind.KeyKind.{KeyKind}
use Rattle.bfs_base.specs.declared.kind.KeyKind.TheVariants.{Text}
use Rattle.bfs_values.specs.Maps.{assoc}
use Rattle.bfs_sound.specs.Attributes.{is_name_item}
use Rattle.bfs_sound.specs.Listings.{index_rows}
use Rattle.bfs_super.specs.Conditions.{ceil, natural, IsValid}
use Rattle.bfs_super.specs.Geometry.{bitmap_length}
use Rattle.bfs_super.specs.declared.sup.Super.{Super}
use Rattle.bfs_smalldata.specs.Items.{Item, items_of, size_of, sizes_of}
use Rattle.bfs_smalldata.specs.Edits.{without}
use Rattle.bfs_smalldata.proofs.Listing.{area_from}
use Rattle.bfs_smalldata.proofs.Standing.{stand_size}
use Rattle.bfs_tree.specs.declared.call.Call.{Call}
use Rattle.bfs_tree.specs.declared.call.Call.TheVariants as calls
use Rattle.bfs_tree.specs.Histories.{after}
use Rattle.bfs_tree.specs.Listings.{key_at, listed}
use Rattle.bfs_tree.specs.Names.{target_of}
use Rattle.bfs_tree.specs.Refusals.{is_built_in, replaced}
use Rattle.bfs_tree.specs.Steps.{changes_tree}
use Rattle.bfs_tree.specs.Trees.{Node, Tree, child, is_dir}
use Rattle.bfs_sound.specs.Need.{Cost, attribute_index_row, attribute_row, attribute_removing, attribute_writing, both, built_in_rows, cost_of, dots_row, filled, growth, index_row, levels_of, logged_cost, logged_need, longer, longest, making, moves, moving, moving_cost, moving_from, no_cost, removing, renaming, replacing, resizing, row_at, row_need, rows_of_node}
use Rattle.bfs_sound.specs.Volumes.{Volume}
use Rattle.bfs_sound.specs.Whole.{Whole}
use Rattle.bfs_device.specs.Layouts.{is_data, layout_of}
use Rattle.bfs_core.proofs.Masks.{data_of}
use Rattle.std.proofs.lemmas.Option.{slice_get_within}
use Rattle.bfs_core.specs.Chains.{Image, bare}
use Rattle.bfs_run.specs.Rooms.{HasLogRoomFor}
use Rattle.bfs_run.specs.NewLogs.{HasNewLog, IsModestCall, NewLogIsLong, Replaces}
use Rattle.bfs_run.proofs.Rooms.{large_block, log_room_at}

-- ---- numbers

times_next : (k b : ℕ) → (k + 1) * b ≡ k * b + b
times_next k b = grind arith

ceil_few : (n b k : ℕ) → 0 < b → n ≤ k * b → ceil n b ≤ k
ceil_few n b k some le =
    let next = times_next k b in
    let lt = div_below (n + (b - 1)) b (k + 1) some (omega (arith, some, le, next)) in
    omega (arith, lt)

wider : (k b n : ℕ) → 1024 ≤ b → n ≤ k * 8192 → n ≤ k * (b * 8)
wider k b n low le =
    let more : 8192 * k ≤ (b * 8) * k = mul-le-mul_right k (let l : 8192 ≤ b * 8 = omega (arith, low) in l) in
    let one = mul_comm 8192 k in
    let two = mul_comm (b * 8) k in
    omega (arith, le, more, one, two)

bitmap_few : (n b k : ℕ) → 1024 ≤ b → n ≤ k * 8192 → bitmap_length n b ≤ k
bitmap_few n b k low le = ceil_few n (b * 8) k (omega (arith, low)) (wider k b n low le)

taller : (k b n : ℕ) → 1024 ≤ b → n ≤ k * 1024 → n ≤ k * b
taller k b n low le =
    let more : 1024 * k ≤ b * k = mul-le-mul_right k low in
    let one = mul_comm 1024 k in
    let two = mul_comm b k in
    omega (arith, le, more, one, two)

short_array : (n : ℕ) → 1024 ≤ n → max 1 (4096 / n) ≤ 4
short_array n low = grind (arith, low)

short_log : (n room : ℕ) → room ≡ 512 → n ≤ 506 → n + ceil n 126 ≤ room - 1
short_log n room is low = omega (arith, is, low)

long_log : (n room : ℕ) → room ≡ 2048 → n ≤ 2030 → n + ceil n 126 ≤ room - 1
long_log n room is low = omega (arith, is, low)

-- ---- rows

rows_most : (rows : List ℕ) → AllByRecursion (λ levels. levels ≤ 4) rows → sum_by row_need rows ≤ 40 * length rows
rows_most [] low = omega arith
rows_most (levels ∷ rows) low =
    let rest : sum_by row_need rows ≤ 40 * length rows = rows_most rows low.1 in
    let one = low.0 in
    let next : sum_by row_need (levels ∷ rows) ≡ row_need levels + sum_by row_need rows = sum_by-cons row_need levels rows in
    omega (arith, rest, one, next)

-- all that a cost has but for bitmap blocks and the eight, where trees have at most 4 levels
abbrev amount : Cost → ℕ
amount c = 40 * length c.rows + c.filling + c.bytes + c.arrays

amount_both : (a b : Cost) → amount (both a b) ≡ amount a + amount b
amount_both a b = let rows = length-append a.rows b.rows in omega (arith, rows)

logged_most : (v : Volume) (c : Cost) (most blocks : ℕ) → AllByRecursion (λ levels. levels ≤ 4) c.rows → amount c ≤ most → bitmap_length v.geometry.blocks v.geometry.block_size ≤ blocks → logged_cost v c ≤ most + blocks + 8
logged_most v c most blocks low le few =
    let rows = rows_most c.rows low in
    let bits = less (c.bytes + c.file + c.left) (bitmap_length v.geometry.blocks v.geometry.block_size) in
    omega (arith, rows, le, few, bits)
  where
    less : (a b : ℕ) → min a b ≤ b
    less a b = omega arith

need_most : (v : Volume) (tree : Tree) (call : Call) (most : ℕ) → logged_cost v (cost_of v tree call) ≤ most → logged_need v tree call ≤ most
need_most v tree call most le = by_test (changes_tree call)
  where
    by_test : (t : Bool) → cond t (logged_cost v (cost_of v tree call)) 0 ≤ most
    by_test true = le
    by_test false = omega arith

-- ---- attributes that move

abbrev AreWithin : ℕ → List Item → Type 0
AreWithin most items = AllByRecursion (λ (item : Item). length item.bytes ≤ most) items

within_size : (items : List Item) (most : ℕ) → sizes_of items ≤ most → AreWithin most items
within_size [] most le = tt
within_size (item ∷ items) most le = (omega (arith, le), within_size items most (omega (arith, le)))

filter_within : (p : Item → Bool) (items : List Item) (most : ℕ) → AreWithin most items → AreWithin most (filter p items)
filter_within p [] most all = tt
filter_within p (item ∷ items) most all = by_test (p item) (filter_within p items most all.1)
  where
    by_test : (t : Bool) → AreWithin most (filter p items) → AreWithin most (cond t (item ∷ filter p items) (filter p items))
    by_test true rest = (all.0, rest)
    by_test false rest = rest

without_within : (name : List ℕ) (items : List Item) (most : ℕ) → AreWithin most items → AreWithin most (without name items)
without_within name [] most all = tt
without_within name (item ∷ items) most all = by_test (bytes_eq item.name name) (without_within name items most all.1)
  where
    by_test : (t : Bool) → AreWithin most (without name items) → AreWithin most (cond t items (item ∷ without name items))
    by_test true rest = all.1
    by_test false rest = (all.0, rest)

longer_within : (item : Item) (o : Option Item) (most : ℕ) → length item.bytes ≤ most → ((other : Item) → o ≡ Some other → length other.bytes ≤ most) → length (longer item o).bytes ≤ most
longer_within item None most one others = one
longer_within item (Some other) most one others = by_test (nat_le (size_of item) (size_of other))
  where
    by_test : (t : Bool) → length (let x : Item = cond t other item in x).bytes ≤ most
    by_test true = others other refl
    by_test false = one

longest_within : (items : List Item) (most : ℕ) → AreWithin most items → (item : Item) → longest items ≡ Some item → length item.bytes ≤ most
longest_within [] most all item is = absurd (none_some is)
  where
    none_some : None ≡ Some item → ⊥
    none_some bad = cc
longest_within (first ∷ items) most all item is =
    let same : longer first (longest items) ≡ item = some_same (longer first (longest items)) item is in
    subst (λ (x : Item). length x.bytes ≤ most) same (longer_within first (longest items) most all.0 (longest_within items most all.1))
  where
    some_same : (a b : Item) → Some a ≡ Some b → a ≡ b
    some_same a b e = cc

moving_within : (n room : ℕ) (items : List Item) (most : ℕ) → AreWithin most items → AreWithin most (moving n room items)
moving_within zero room items most all = tt
moving_within (suc n) room items most all = by_test (λ name. moving_within n room (without name items) most (without_within name items most all)) (nat_le (sizes_of items) room)
  where
    by_item : ((name : List ℕ) → AreWithin most (moving n room (without name items))) → (o : Option Item) → longest items ≡ o → AreWithin most (option_map_or (λ (item : Item). item ∷ moving n room (without item.name items)) o [])
    by_item rest None e = tt
    by_item rest (Some item) e = (longest_within items most all item e, rest item.name)

    by_test : ((name : List ℕ) → AreWithin most (moving n room (without name items))) → (t : Bool) → AreWithin most (cond t [] (option_map_or (λ (item : Item). item ∷ moving n room (without item.name items)) (longest items) []))
    by_test rest true = tt
    by_test rest false = by_item rest (longest items) refl

moving_from_within : (size name_length : ℕ) (o : Option (List Item)) (most : ℕ) → ((items : List Item) → o ≡ Some items → sizes_of items ≤ most) → AreWithin most (moving_from size name_length o)
moving_from_within size name_length None most low = tt
moving_from_within size name_length (Some items) most low =
    moving_within _ _ (filter (λ (item : Item). not (is_name_item item)) items) most (filter_within (λ (item : Item). not (is_name_item item)) items most (within_size items most (low items refl)))

-- ---- what each call costs

module _ (v : Volume) (low : 1024 ≤ v.geometry.block_size) (long : (k : ℕ) → length (v.blocks k) ≤ v.geometry.block_size) where
  moves_within : (id : ℕ) (name : List ℕ) → AreWithin v.geometry.block_size (moves v id name)
  moves_within id name = moving_from_within (length (drop 232 (v.blocks id))) (length name) (items_of (drop 232 (v.blocks id))) v.geometry.block_size
      (λ items is. (
      let area = drop 232 (v.blocks id) in
      let inside : sizes_of items ≤ length area = stand_size items area (area_from area items is).0 in
      let cut : length area ≡ length (v.blocks id) - 232 = length-drop 232 (v.blocks id) in
      let all = long id in
      omega (arith, inside, cut, all)))

  filled_one : (n : ℕ) → n ≤ v.geometry.block_size → filled v n ≤ 1
  filled_one n le = ceil_few n v.geometry.block_size 1 (omega (arith, low)) (omega (arith, le))

  filled_items : (items : List Item) → AreWithin v.geometry.block_size items → sum_by (λ (item : Item). filled v (length item.bytes)) items ≤ length items
  filled_items [] all = omega arith
  filled_items (item ∷ items) all =
      let rest = filled_items items all.1 in
      let one = filled_one (length item.bytes) all.0 in
      let next = sum_by-cons (λ (x : Item). filled v (length x.bytes)) item items in
      omega (arith, rest, one, next)

  one_row : (o : Option ℤ) → length (row_at v o) ≤ 1
  one_row None = omega arith
  one_row (Some value) = omega arith

  one_index : (name : List ℕ) → length (index_row v name) ≤ 1
  one_index name = one_row (assoc Text (index_rows v) name)

  one_attribute : (name : List ℕ) → length (attribute_index_row v name) ≤ 1
  one_attribute name = by_test (is_built_in name)
    where
      by_test : (t : Bool) → length (let l : List ℕ = cond t [] (index_row v name) in l) ≤ 1
      by_test true = omega arith
      by_test false = one_index name

  three_rows : length (built_in_rows v) ≤ 3
  three_rows =
      let all = length-append (index_row v (codes "name") ++ index_row v (codes "size")) (index_row v (codes "last_modified")) in
      let two = length-append (index_row v (codes "name")) (index_row v (codes "size")) in
      let a = one_index (codes "name") in
      let b = one_index (codes "size") in
      let d = one_index (codes "last_modified") in
      omega (arith, all, two, a, b, d)

  two_rows : (name : List ℕ) → length (index_row v name ++ index_row v name) ≤ 2
  two_rows name = let all = length-append (index_row v name) (index_row v name) in let one = one_index name in omega (arith, all, one)

  listed_rows : (tree : Tree) (id : ℕ) (es : List (List ℕ × KeyKind)) → length (flat_map (λ (e : List ℕ × KeyKind). cond (is_some (key_at tree e.0 e.1 id)) (attribute_index_row v e.0) []) es) ≤ length es
  listed_rows tree id [] = omega arith
  listed_rows tree id (e ∷ es) =
      let rest = listed_rows tree id es in
      let all = length-append (cond (is_some (key_at tree e.0 e.1 id)) (attribute_index_row v e.0) []) (flat_map (λ (x : List ℕ × KeyKind). cond (is_some (key_at tree x.0 x.1 id)) (attribute_index_row v x.0) []) es) in
      let one = by_test (is_some (key_at tree e.0 e.1 id)) in
      omega (arith, rest, all, one)
    where
      by_test : (t : Bool) → length (let l : List ℕ = cond t (attribute_index_row v e.0) [] in l) ≤ 1
      by_test true = one_attribute e.0
      by_test false = omega arith

  module _ (tree : Tree) (indices : length (entries tree.indices) ≤ 8) where
    node_rows : (id : ℕ) → length (rows_of_node v tree id) ≤ 11
    node_rows id =
        let all = length-append (built_in_rows v) (flat_map (λ (e : List ℕ × KeyKind). cond (is_some (key_at tree e.0 e.1 id)) (attribute_index_row v e.0) []) (entries tree.indices)) in
        let three = three_rows in
        let rest = listed_rows tree id (entries tree.indices) in
        omega (arith, all, three, rest, indices)

    removing_most : (dir : ℕ) (o : Option (ℕ × Node)) → amount (removing v tree dir o) ≤ 480
    removing_most dir None = omega arith
    removing_most dir (Some e) = let rows = node_rows e.0 in omega (arith, rows)

    making_most : (dir : ℕ) (target : List ℕ) → length target ≤ 1024 → amount (making v dir target) ≤ 161
    making_most dir target short =
        let rows = three_rows in
        let one = by_test (nat_lt (length target) 144) in
        omega (arith, rows, one)
      where
        by_test : (t : Bool) → cond t 0 (filled v (length target)) ≤ 1
        by_test true = omega arith
        by_test false = filled_one (length target) (omega (arith, short, low))

    dots_most : (e : ℕ × Node) → length (dots_row v e) ≤ 1
    dots_most e = by_test (is_dir e.1.kind)
      where
        by_test : (t : Bool) → length (let l : List ℕ = cond t (levels_of v e.0 ∷ []) [] in l) ≤ 1
        by_test true = omega arith
        by_test false = omega arith

    moving_most : (dir to_dir : ℕ) (e : ℕ × Node) (to_name : List ℕ) → length (moves v e.0 to_name) ≤ 4 → amount (moving_cost v dir to_dir e (moves v e.0 to_name)) ≤ 364
    moving_most dir to_dir e to_name few =
        let items = moves v e.0 to_name in
        let all = length-append (levels_of v dir ∷ levels_of v to_dir ∷ index_row v (codes "name") ++ index_row v (codes "name")) (dots_row v e ++ replicate (length items) (attribute_row v e.0)) in
        let names = two_rows (codes "name") in
        let own = length-append (dots_row v e) (replicate (length items) (attribute_row v e.0)) in
        let copies : length (replicate (length items) (attribute_row v e.0)) ≡ length items = length-replicate (length items) (attribute_row v e.0) in
        let dots = dots_most e in
        let bytes = filled_items items (moves_within e.0 to_name) in
        omega (arith, all, names, own, copies, dots, bytes, few)

    replacing_most : (to_dir id : ℕ) (o : Option (ℕ × Node)) → ((replaced id o ≡ None) × (amount (replacing v tree to_dir id o) ≡ 0)) ⊎ ((other : ℕ × Node) × (replaced id o ≡ Some other) × (amount (replacing v tree to_dir id o) ≤ 480))
    replacing_most to_dir id None = inl (refl, refl)
    replacing_most to_dir id (Some there) = by_test (there.0 == id)
      where
        by_test : (t : Bool) → ((cond t None (Some there) ≡ None) × (amount (let c : Cost = cond t no_cost (removing v tree to_dir (Some there)) in c) ≡ 0))
            ⊎ ((other : ℕ × Node) × (cond t None (Some there) ≡ Some other) × (amount (let c : Cost = cond t no_cost (removing v tree to_dir (Some there)) in c) ≤ 480))
        by_test true = inl (refl, refl)
        by_test false = inr (there, refl, removing_most to_dir (Some there))

    resizing_most : (id size : ℕ) → growth v id size ≤ 40960 → amount (resizing v id size) ≤ 495
    resizing_most id size few =
        let all = length-append (index_row v (codes "size") ++ index_row v (codes "size")) (index_row v (codes "last_modified") ++ index_row v (codes "last_modified")) in
        let a = two_rows (codes "size") in
        let b = two_rows (codes "last_modified") in
        let arrays = by_test (growth v id size == 0) in
        omega (arith, all, a, b, arrays)
      where
        by_test : (t : Bool) → cond t 0 (ceil (growth v id size) 128 + 3 * max 1 (4096 / v.geometry.block_size)) ≤ 332
        by_test true = omega arith
        by_test false =
            let tables = ceil_few (growth v id size) 128 320 (omega arith) (omega (arith, few)) in
            let array = short_array v.geometry.block_size low in
            omega (arith, tables, array)

    writing_most : (id : ℕ) (name : List ℕ) (n : ℕ) → n ≤ 65536 → amount (attribute_writing v id name n) ≤ 224
    writing_most id name n short =
        let all = length-append (attribute_row v id ∷ attribute_row v id ∷ attribute_index_row v name) (attribute_index_row v name) in
        let one = one_attribute name in
        let bytes = ceil_few n v.geometry.block_size 64 (omega (arith, low)) (taller 64 v.geometry.block_size n low (omega (arith, short))) in
        omega (arith, all, one, bytes)

    taking_most : (id : ℕ) (name : List ℕ) → amount (attribute_removing v id name) ≤ 80
    taking_most id name = let one = one_attribute name in omega (arith, one)

    holding_most : amount (record no_cost { rows = index_row v (codes "last_modified") ++ index_row v (codes "last_modified") }) ≤ 80
    holding_most = let two = two_rows (codes "last_modified") in omega (arith, two)

    -- a Rename that replaces no node costs little, and one that replaces a node more
    renaming_most : (dir : ℕ) (name : List ℕ) (to_dir : ℕ) (to_name : List ℕ) → IsModestCall v tree (calls.Rename dir name to_dir to_name)
        → (amount (cost_of v tree (calls.Rename dir name to_dir to_name)) ≤ 495) ⊎ (Replaces tree (calls.Rename dir name to_dir to_name) × (amount (cost_of v tree (calls.Rename dir name to_dir to_name)) ≤ 1510))
    renaming_most dir name to_dir to_name modest = by_child (child tree dir name) refl
      where
        by_child : (o : Option (ℕ × Node)) → child tree dir name ≡ o
            → (amount (renaming v tree dir to_dir to_name o) ≤ 495)
            ⊎ (((e : ℕ × Node) × (other : ℕ × Node) × (o ≡ Some e) × (replaced e.0 (child tree to_dir to_name) ≡ Some other)) × (amount (renaming v tree dir to_dir to_name o) ≤ 1510))
        by_child None is = inl (omega arith)
        by_child (Some e) is =
            let moved = moving_most dir to_dir e to_name (modest e is) in
            let both_are = amount_both (moving_cost v dir to_dir e (moves v e.0 to_name)) (replacing v tree to_dir e.0 (child tree to_dir to_name)) in
            ⊎_elim
            (λ none. inl (let zero' = none.1 in omega (arith, moved, both_are, zero')))
            (λ some. inr ((e, some.0, refl, some.1), (let more = some.2 in omega (arith, moved, both_are, more))))
            (replacing_most to_dir e.0 (child tree to_dir to_name))

    amount_few : (call : Call) → IsModestCall v tree call → (amount (cost_of v tree call) ≤ 495) ⊎ (Replaces tree call × (amount (cost_of v tree call) ≤ 1510))
    amount_few (calls.Make dir name kind mode) modest = inl (let most = making_most dir (target_of kind) modest in omega (arith, most))
    amount_few (calls.Remove dir name) modest = inl (let most = removing_most dir (child tree dir name) in omega (arith, most))
    amount_few (calls.Rename dir name to_dir to_name) modest = renaming_most dir name to_dir to_name modest
    amount_few (calls.SetSize id size) modest = inl (resizing_most id size modest)
    amount_few (calls.AttrWrite id name kind bytes) modest = inl (let most = writing_most id name (length bytes) modest in omega (arith, most))
    amount_few (calls.AttrRemove id name) modest = inl (let most = taking_most id name in omega (arith, most))
    amount_few (calls.IndexMake name kind) modest = inl (let pairs : length (listed tree name kind) ≤ 64 = modest in omega (arith, pairs))
    amount_few (calls.IndexRemove name) modest = inl (omega arith)
    amount_few (calls.Hold id at count writes) modest = inl (let most = holding_most in omega (arith, most))
    amount_few _ modest = inl (omega arith)

    module _ (call : Call) (levels : AllByRecursion (λ levels. levels ≤ 4) (cost_of v tree call).rows) (few : v.geometry.blocks ≤ 4194304) (modest : IsModestCall v tree call)
        (log : HasNewLog v) (larger : Replaces tree call → 20480 < v.geometry.blocks) where
      need_few : (most blocks : ℕ) → amount (cost_of v tree call) ≤ most → v.geometry.blocks ≤ blocks * 8192 → logged_need v tree call ≤ most + blocks + 8
      need_few most blocks le within =
          need_most v tree call (most + blocks + 8)
          (logged_most v (cost_of v tree call) most blocks levels le (bitmap_few v.geometry.blocks v.geometry.block_size blocks low within))

      pub new_log_room : HasLogRoomFor v (logged_need v tree call)
      new_log_room = by_size (nat_le v.geometry.blocks 20480) refl
        where
          at_most : (n : ℕ) → nat_le n 20480 ≡ true → n ≤ 20480
          at_most n e = grind (arith, e)

          by_amount : v.geometry.blocks ≤ 20480 → (amount (cost_of v tree call) ≤ 495) ⊎ (Replaces tree call × (amount (cost_of v tree call) ≤ 1510)) → amount (cost_of v tree call) ≤ 495
          by_amount small (inl le) = le
          by_amount small (inr more) = absurd (let lt = larger more.0 in omega (arith, small, lt))

          any_amount : (amount (cost_of v tree call) ≤ 495) ⊎ (Replaces tree call × (amount (cost_of v tree call) ≤ 1510)) → amount (cost_of v tree call) ≤ 1510
          any_amount (inl le) = omega (arith, le)
          any_amount (inr more) = more.1

          by_size : (t : Bool) → nat_le v.geometry.blocks 20480 ≡ t → HasLogRoomFor v (logged_need v tree call)
          by_size true e =
              let small = at_most v.geometry.blocks e in
              let need = need_few 495 3 (by_amount small (amount_few call modest)) (omega (arith, small)) in
              short_log (logged_need v tree call) v.geometry.log.len (log ∙ ap (λ (t : Bool). cond t 512 2048) e) (omega (arith, need))
          by_size false e =
              let need = need_few 1510 512 (any_amount (amount_few call modest)) (omega (arith, few)) in
              long_log (logged_need v tree call) v.geometry.log.len (log ∙ ap (λ (t : Bool). cond t 512 2048) e) (omega (arith, need))

-- ---- the images of a chain

few_blocks : (s : Super) → IsValid s → natural s.num_blocks ≤ 4194304
few_blocks s valid = by_sign s.num_blocks valid.length.1
  where
    by_sign : (z : ℤ) → z ≤ℤ pos 4194304 → natural z ≤ 4194304
    by_sign (pos n) le = omega (arith, ints, le)
    by_sign (negsuc n) le = omega arith

bare_long : (i : Image) (tree : Tree) → Whole i.sup i.blocks tree → (k : ℕ) → length ((bare i).blocks k) ≤ i.sup.block_size
bare_long i tree whole k = by_test (is_data (layout_of i.sup) k) refl
  where
    by_test : (t : Bool) → is_data (layout_of i.sup) k ≡ t → length (let l : List ℕ = cond t (i.blocks k) [] in l) ≤ i.sup.block_size
    by_test true e = let same = whole.valid.long k (data_of (layout_of i.sup) k e).1 in omega (arith, same)
    by_test false e = omega arith

pub new_log_is_long : NewLogIsLong
new_log_is_long t0 first history images chain n e at log modest larger =
    let i = images n in
    let tree = after t0 (take n history) in
    let lt = slice_get_within history n e at in
    let whole = chain.whole n (omega (arith, lt)) in
    log_room_at t0 first history images chain n e at
    (new_log_room (bare i) (large_block i.sup whole.valid.super) (bare_long i tree whole) tree modest.indices e.call modest.levels (few_blocks i.sup whole.valid.super) modest.asks log larger)
