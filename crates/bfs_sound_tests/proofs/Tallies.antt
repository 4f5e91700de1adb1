-- What a whole volume counts and lists: as many blocks are used as are marked, and an index without rows lists no node.
use Rattle.std.proofs.Common.{◌≡◌, ◌≢◌, ◌≤◌, ◌<◌, ◌+◌, inl, inr, ℕ, zero, suc, List, [], ◌∷◌, length, Option, Some, None, Bool, true, false, cond, refl, sym, ap, ◌∙◌, arith, ⊎_elim}
use Rattle.std.proofs.lemmas.Bool.{cases_Bool}
use Rattle.std.specs.Prelude.{◌==◌, codes}
use Rattle.std.specs.List.{fold, filter_map, cons_option}
use Rattle.std.specs.Option.{option_map}
use Rattle.std.specs.Ordering.{is_lt}
use Rattle.std.specs.FinMap.{entries}
use Rattle.std.specs.declared.cmp.Ordering.{Ordering}
use Rattle.bfs_base.specs.Lists.{times, Has}
use Rattle.bfs_base.specs.declared.kind.KeyKind.TheVariants.{Text}
use Rattle.bfs_super.specs.declared.sup.Super.{Super}
use Rattle.bfs_tree.specs.Listings.{listed, key_in, pair_cmp}
use Rattle.bfs_tree.specs.Orders.{placed, in_order}
use Rattle.bfs_tree.specs.Trees.{Node, Tree, IsNode}
use Rattle.bfs_sound.specs.Owners.{reach}
use Rattle.bfs_sound.specs.Volumes.{Volume}
use Rattle.bfs_sound.specs.Whole.{volume_of, Whole}
use Rattle.bfs_sound.proofs.Counts.{In}
use Rattle.bfs_sound.proofs.Parts.{in_entries}
use Rattle.bfs_sound_tests.proofs.Finite.{same}
use Rattle.bfs_sound_tests.proofs.Standing.{bit}

-- how many elements of a list are below a number
total : ℕ → List ℕ → ℕ
total zero xs = 0
total (suc n) xs = times n xs + total n xs

total_past : (n x : ℕ) (xs : List ℕ) → n ≤ x → total n (x ∷ xs) ≡ total n xs
unfolding total
total_past zero x xs h = refl
total_past (suc n) x xs h =
    let ih : total n (x ∷ xs) ≡ total n xs = total_past n x xs (omega (arith, h)) in
    let other : ◌≡◌ {A = ℕ} (cond (x == n) 1 0) 0 = grind (arith, h) in
    omega (arith, ih, other)

total_more : (n x : ℕ) (xs : List ℕ) → x < n → total n (x ∷ xs) ≡ 1 + total n xs
unfolding total
total_more zero x xs h = absurd (omega (arith, h))
total_more (suc n) x xs h = ⊎_elim here (λ e. below e (total_more n x xs (less e))) (cases_Bool (x == n))
  where
    less : (x == n) ≡ false → x < n
    less e = grind (arith, e, h)

    here : (x == n) ≡ true → total (suc n) (x ∷ xs) ≡ 1 + total (suc n) xs
    here e =
        let past = total_past n x xs (let s = same x n e in omega (arith, s)) in
        let one : ◌≡◌ {A = ℕ} (cond (x == n) 1 0) 1 = ap (λ b. cond b 1 0) e in
        omega (arith, past, one)

    below : (x == n) ≡ false → total n (x ∷ xs) ≡ 1 + total n xs → total (suc n) (x ∷ xs) ≡ 1 + total (suc n) xs
    below e ih =
        let none : ◌≡◌ {A = ℕ} (cond (x == n) 1 0) 0 = ap (λ b. cond b 1 0) e in
        omega (arith, ih, none)

total_none : (n : ℕ) → total n [] ≡ 0
unfolding total
total_none zero = refl
total_none (suc n) = let ih = total_none n in omega (arith, ih)

total_length : (n : ℕ) (xs : List ℕ) → ((k : ℕ) → Has xs k → k < n) → total n xs ≡ length xs
total_length n [] h = total_none n
total_length n (x ∷ xs) h =
    let first : ◌≡◌ {A = ℕ} (cond (x == x) 1 0) 1 = grind arith in
    let more = total_more n x xs (h x (omega (arith, first))) in
    let ih = total_length n xs (λ k has. h k (let some : 0 < times k xs = has in omega (arith, some))) in
    omega (arith, more, ih)

-- how many bits below a number are set
unfoldable pub ones : Volume → ℕ → ℕ
ones v zero = 0
ones v (suc n) = cond (bit v n == 1) 1 0 + ones v n

module _ (s : Super) (blocks : ℕ → List ℕ) (tree : Tree) (w : Whole s blocks tree) where
  abbrev v : Volume
  v = volume_of s blocks

  abbrev xs : List ℕ
  xs = reach v tree

  one_bit : (k : ℕ) → k < v.geometry.blocks → times k xs ≡ cond (bit v k == 1) 1 0
  one_bit k inside = ⊎_elim set clear (cases_Bool (bit v k == 1))
    where
      set : (bit v k == 1) ≡ true → times k xs ≡ cond (bit v k == 1) 1 0
      set e =
          let has : 0 < times k xs = (w.sound.bits k).0 (inside, same (bit v k) 1 e) in
          let most : times k xs ≤ 1 = w.sound.nodes.once k in
          let one : ◌≡◌ {A = ℕ} (cond (bit v k == 1) 1 0) 1 = ap (λ b. cond b 1 0) e in
          omega (arith, has, most, one)

      not_set : (m n : ℕ) → (m == 1) ≡ false → (0 < n → m ≡ 1) → n ≡ 0
      not_set m zero e h = refl
      not_set m (suc n) e h = absurd (let one : m ≡ 1 = h (omega arith) in let other : (m ≡ 1) → ⊥ = (λ i. grind (arith, e, i)) in other one)

      clear : (bit v k == 1) ≡ false → times k xs ≡ cond (bit v k == 1) 1 0
      clear e =
          let none : times k xs ≡ 0 = not_set (bit v k) (times k xs) e (λ some. ((w.sound.bits k).1 some).1) in
          let zero_here : ◌≡◌ {A = ℕ} (cond (bit v k == 1) 1 0) 0 = ap (λ b. cond b 1 0) e in
          omega (arith, none, zero_here)

  all_bits : (n : ℕ) → n ≤ v.geometry.blocks → total n xs ≡ ones v n
  unfolding total ones
  all_bits zero h = refl
  all_bits (suc n) h = let ih = all_bits n (omega (arith, h)) in let here = one_bit n (omega (arith, h)) in omega (arith, ih, here)

  pub used_is : v.geometry.used ≡ ones v v.geometry.blocks
  used_is = w.sound.used ∙ sym (total_length v.geometry.blocks xs (λ k has. ((w.sound.bits k).1 has).0)) ∙ all_bits v.geometry.blocks (omega arith)

-- a list that is put in order isn't empty where it wasn't
placed_some : {A : Type 0} (cmp : A → A → Ordering) (xs : List A) (x : A) → 1 ≤ length (placed cmp xs x)
placed_some cmp [] x = omega arith
placed_some cmp (y ∷ ys) x = by (is_lt (cmp x y))
  where
    by : (b : Bool) → 1 ≤ length (cond b (x ∷ y ∷ ys) (y ∷ placed cmp ys x))
    by true = omega arith
    by false = omega arith

fold_some : {A : Type 0} (cmp : A → A → Ordering) (acc xs : List A) → 1 ≤ length acc → 1 ≤ length (fold (placed cmp) acc xs)
fold_some cmp acc [] h = h
fold_some cmp acc (x ∷ xs) h = fold_some cmp (placed cmp acc x) xs (placed_some cmp acc x)

order_some : {A : Type 0} (cmp : A → A → Ordering) (xs : List A) → 1 ≤ length xs → 1 ≤ length (in_order cmp xs)
order_some cmp [] h = h
order_some cmp (x ∷ xs) h = fold_some cmp (placed cmp [] x) xs (placed_some cmp [] x)

cons_some : {Y : Type 0} (o : Option Y) (y : Y) (ys : List Y) → o ≡ Some y → 1 ≤ length (cons_option o ys)
cons_some None y ys e = absurd (let bad : None ≡ Some y = e in cc)
cons_some (Some z) y ys e = omega arith

cons_more : {Y : Type 0} (o : Option Y) (ys : List Y) → 1 ≤ length ys → 1 ≤ length (cons_option o ys)
cons_more None ys h = h
cons_more (Some z) ys h = omega arith

map_some : {X Y : Type 0} (f : X → Option Y) (xs : List X) (x : X) (y : Y) → In x xs → f x ≡ Some y → 1 ≤ length (filter_map f xs)
map_some f [] x y i e = absurd i
map_some f (z ∷ zs) x y (inl one) e = cons_some (f z) y (filter_map f zs) (ap f (sym one) ∙ e)
map_some f (z ∷ zs) x y (inr i) e = cons_more (f z) (filter_map f zs) (map_some f zs x y i e)

-- the index `name` lists each node but the root
abbrev name_pair : Tree → ℕ × Node → Option (List ℕ × ℕ)
name_pair tree e = option_map (λ key. (key, e.0)) (key_in tree.root (codes "name") Text e.0 e.1)

pub named_listed : (tree : Tree) (id : ℕ) (n : Node) → IsNode tree id n → id ≢ tree.root → 1 ≤ length (listed tree (codes "name") Text)
named_listed tree id n is other =
    order_some (pair_cmp Text) (filter_map (name_pair tree) (entries tree.nodes)) (map_some (name_pair tree) (entries tree.nodes) (id, n) (n.name, id) (in_entries tree.nodes id n is) key)
  where
    apart : (id == tree.root) ≡ false
    apart = grind (arith, other)

    pair : List ℕ → List ℕ × ℕ
    pair name = (name, id)

    key : name_pair tree (id, n) ≡ Some (pair n.name)
    key = ap (λ b. option_map pair (cond b None (Some n.name))) apart
