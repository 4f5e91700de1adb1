-- No key is below the least one of its kind, so that a range without a lower end is one from there.
use Rattle.std.proofs.Common.{◌≡◌, ℕ, pos, negsuc, zero, suc, List, [], ◌∷◌, ◌++◌, Option, Some, None, true, false, cond, ◌&&◌, refl, ap, sym, ◌∙◌, arith}
use Rattle.std.specs.Int.{w32, w64, cast_signed}
use Rattle.std.specs.Ordering.{is_lt, int_cmp}
use Rattle.byteorder.specs.Endian.{little_number}
use Rattle.bfs_base.specs.Keys.{number_of, IsTreeKind}
use Rattle.bfs_base.specs.declared.kind.KeyKind.{KeyKind}
use Rattle.bfs_base.specs.declared.kind.KeyKind.TheVariants.{Text, I32, U32, I64, U64, F32, F64}
use Rattle.bfs_node.specs.Page.{Row}
use Rattle.bfs_pages.specs.Order.{Key, at_most, comes_before}
use Rattle.bfs_pages.specs.Shapes.{Shape, Shapes, leaf_shape, node_shape, last_shape, more_shapes, place, leaves_of}
use Rattle.bfs_pages.specs.Trees.{State, Holds, head_or}
use Rattle.bfs_pages.specs.Ways.{under, child_for, leaves_before, leaves_before_way, leaves_behind_way}
use Rattle.bfs_pages.proofs.OfKind.{leaf-at}
use Rattle.bfs_pages.proofs.Way.{leaves-under}
use Rattle.bfs_range.specs.Ends.{least_of, low_end}
use Rattle.bfs_range.specs.Leaves.{first_leaf}
use Rattle.bfs_range.specs.Ranges.{is_upto, rows_between}

-- a signed number isn't below the least one
not-less-32 : (n : ℕ) → is_lt (int_cmp (cast_signed w32 n) (negsuc 2147483647)) ≡ false
not-less-32 n = grind arith

not-less-64 : (n : ℕ) → is_lt (int_cmp (cast_signed w64 n) (negsuc 9223372036854775807)) ≡ false
not-less-64 n = grind arith

not-less-0 : (n : ℕ) → is_lt (int_cmp (pos n) (pos 0)) ≡ false
not-less-0 n = grind arith

not-before : (kind : KeyKind) → IsTreeKind kind → (k : Key) → comes_before kind k (least_of kind) ≡ false
unfolding number_of
not-before Text tk [] = refl
not-before Text tk (x ∷ xs) = refl
not-before I32 tk k = not-less-32 (little_number 4 k)
not-before U32 tk k = not-less-0 (little_number 4 k)
not-before I64 tk k = not-less-64 (little_number 8 k)
not-before U64 tk k = not-less-0 (little_number 8 k)
not-before F32 tk k = absurd tk
not-before F64 tk k = absurd tk

pub least-most : (kind : KeyKind) → IsTreeKind kind → (k : Key) → at_most kind (least_of kind) k ≡ true
least-most kind tk k = ap (λ c. cond c false true) (not-before kind tk k)

pub between-least : (kind : KeyKind) → IsTreeKind kind → (low high : Option Key) (rows : List Row) → rows_between kind (Some (low_end kind low)) high rows ≡ rows_between kind low high rows
between-least kind tk (Some low) high rows = refl
between-least kind tk None high [] = refl
between-least kind tk None high (r ∷ rs) =
    ap (λ c. cond (c && is_upto kind high r.0) (r ∷ rows_between kind (Some (least_of kind)) high rs) (rows_between kind (Some (least_of kind)) high rs)) (least-most kind tk r.0)
    ∙ ap (λ z. cond (is_upto kind high r.0) (r ∷ z) z) (between-least kind tk None high rs)

-- the way of the least key is that of the first children
none-before : (kind : KeyKind) → IsTreeKind kind → (ts : Shapes) → leaves_before kind ts (least_of kind) ≡ []
none-before kind tk (last_shape t) = refl
none-before kind tk (more_shapes t key ts) = ap (λ c. cond c [] (leaves_of t ++ leaves_before kind ts (least_of kind))) (least-most kind tk key)

none-before-way : (kind : KeyKind) → IsTreeKind kind → (d : ℕ) (t : Shape) → leaves_before_way kind d t (least_of kind) ≡ []
none-before-way kind tk zero t = refl
none-before-way kind tk (suc d) (leaf_shape at rows) = refl
none-before-way kind tk (suc d) (node_shape at below) =
    ap (λ z. z ++ leaves_before_way kind d (child_for kind below (least_of kind)) (least_of kind)) (none-before kind tk below) ∙ none-before-way kind tk d (child_for kind below (least_of kind))

pub first-least : (kind : KeyKind) → IsTreeKind kind → (st : State) (reached : List ℕ) (t : Shape) (fs : List ℕ) → Holds kind st reached t fs → (low : Option Key) → first_leaf kind st.levels t (Some (low_end kind low)) ≡ first_leaf kind st.levels t low
first-least kind tk st reached t fs h (Some low) = refl
first-least kind tk st reached t fs h None =
    let k : Key = least_of kind in
    let n = leaf-at kind st reached t fs st.levels k (place (under kind st.levels t k)) h refl refl in
    let e : leaves_of t ≡ place (under kind st.levels t k) ∷ leaves_behind_way kind st.levels t k =
    leaves-under kind st.levels t k ∙ ap (λ z. z ++ (leaves_of (under kind st.levels t k) ++ leaves_behind_way kind st.levels t k)) (none-before-way kind tk st.levels t)
    ∙ ap (λ u. leaves_of u ++ leaves_behind_way kind st.levels t k) n.1 in
    sym (ap (λ z. head_or 0 z) e)
