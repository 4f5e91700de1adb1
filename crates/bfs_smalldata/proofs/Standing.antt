-- Items that stand one after the other.
use Rattle.std.proofs.Common.{◌≡◌, ℕ, ◌+◌, ◌-◌, ◌≤◌, List, [], ◌∷◌, ◌++◌, length, take, drop, sym, ◌∙◌, ap, subst, arith, length-drop}
use Rattle.std.proofs.lemmas.List.{drop-drop, drop-take, drop-append-le, nil_from_length}
use Rattle.bfs_smalldata.specs.Items.{Item, Begins, Stand, size_of, sizes_of}
use Rattle.bfs_smalldata.proofs.Reading.{is_more, begins_taken, begins_joined}

pub sizes_joined : (xs ys : List Item) → sizes_of (xs ++ ys) ≡ sizes_of xs + sizes_of ys
sizes_joined [] ys = omega arith
sizes_joined (x ∷ xs) ys = omega (arith, sizes_joined xs ys)

pub stand_size : (items : List Item) (b : List ℕ) → Stand b items → sizes_of items ≤ length b
stand_size [] b stand = omega arith
stand_size (item ∷ items) b stand =
    omega (arith, is_more b item stand.0, stand.0.inside, stand_size items (drop (size_of item) b) stand.1, length-drop (size_of item) b)

pub stand_taken : (items : List Item) (m : ℕ) (b : List ℕ) → Stand b items → sizes_of items ≤ m → Stand (take m b) items
stand_taken [] m b stand h = tt
stand_taken (item ∷ items) m b stand h =
    let rest : m ≡ size_of item + (m - size_of item) = omega arith in
    let behind : drop (size_of item) (take m b) ≡ take (m - size_of item) (drop (size_of item) b) =
    ap (λ (k : ℕ). drop (size_of item) (take k b)) rest ∙ drop-take (size_of item) (m - size_of item) b in (
      begins_taken m b item stand.0 (omega arith),
      subst (λ (c : List ℕ). Stand c items) (sym behind) (stand_taken items (m - size_of item) (drop (size_of item) b) stand.1 (omega arith)),
    )

item_inside : (b : List ℕ) (item : Item) → Begins b item → size_of item ≤ length b
item_inside b item begins = omega (arith, is_more b item begins, begins.inside)

pub stand_before : (items : List Item) (p q : List ℕ) → Stand p items → Stand (p ++ q) items
stand_before [] p q stand = tt
stand_before (item ∷ items) p q stand = (
  begins_joined p q item stand.0,
  subst (λ (c : List ℕ). Stand c items) (sym (drop-append-le (size_of item) p q (item_inside p item stand.0))) (stand_before items (drop (size_of item) p) q stand.1),
)

pub stand_joined : (xs ys : List Item) (p q : List ℕ) → Stand p xs → length p ≡ sizes_of xs → Stand q ys → Stand (p ++ q) (xs ++ ys)
stand_joined [] ys p q first long second = subst (λ (c : List ℕ). Stand (c ++ q) ys) (sym (nil_from_length p long)) second
stand_joined (item ∷ items) ys p q first long second = (
  begins_joined p q item first.0,
  subst (λ (c : List ℕ). Stand c (items ++ ys)) (sym (drop-append-le (size_of item) p q (item_inside p item first.0)))
      (stand_joined items ys (drop (size_of item) p) q first.1 (omega (arith, long, length-drop (size_of item) p)) second),
)

pub stand_left : (xs ys : List Item) (b : List ℕ) → Stand b (xs ++ ys) → Stand b xs
stand_left [] ys b stand = tt
stand_left (item ∷ items) ys b stand = (stand.0, stand_left items ys (drop (size_of item) b) stand.1)

pub stand_right : (xs ys : List Item) (b : List ℕ) → Stand b (xs ++ ys) → Stand (drop (sizes_of xs) b) ys
stand_right [] ys b stand = stand
stand_right (item ∷ items) ys b stand =
    subst (λ (c : List ℕ). Stand c ys) (drop-drop (sizes_of items) (size_of item) b) (stand_right items ys (drop (size_of item) b) stand.1)

-- one more item behind those that stand
pub stand_more : (items : List Item) (b : List ℕ) (item : Item) → Stand b items → Begins (drop (sizes_of items) b) item → Stand b (items ++ item ∷ [])
stand_more [] b item stand begins = (begins, tt)
stand_more (x ∷ items) b item stand begins =
    (stand.0, stand_more items (drop (size_of x) b) item stand.1 (subst (λ (c : List ℕ). Begins c item) (sym (drop-drop (sizes_of items) (size_of x) b)) begins))
