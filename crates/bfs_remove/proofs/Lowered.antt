-- A root without keys goes, in the bytes of a stream.
use Rattle.std.proofs.Common.{◌≡◌, ◌≢◌, ◌≤◌, ◌<◌, ◌-◌, ℕ, ℤ, suc, List, [], ◌∷◌, length, Some, ap, sym, ◌∙◌, subst, arith}
use Rattle.bfs_base.specs.Lists.{times}
use Rattle.bfs_base.specs.declared.kind.KeyKind.{KeyKind}
use Rattle.bfs_node.specs.Page.{rows_of, links_of}
use Rattle.bfs_node.specs.declared.header.Header.{Header}
use Rattle.bfs_pages.specs.Answers.{IsChild, IsHeaderFor}
use Rattle.bfs_pages.specs.Shapes.{inner_body, Shape, Shapes, node_shape, last_shape, more_shapes, place, met_by, tree_rows, children_of, last_child, Stands}
use Rattle.bfs_pages.specs.Ways.{under, child_for}
use Rattle.bfs_pages.specs.Trees.{state_of, header_in, page_in, place_of, body_in, free_in, neighbours_in, IsTree, IsTreeHeader, Holds}
use Rattle.bfs_pages.proofs.Way.{place-met}
use Rattle.bfs_pages.proofs.Exchange.{met-once}
use Rattle.bfs_pages.proofs.Descent.{node-at}
use Rattle.bfs_pages.proofs.OfKind.{inner-fields, inner-page, met-child}
use Rattle.bfs_pages.specs.Answers.{IsInteriorPage}
use Rattle.bfs_pages.specs.Writes.{SamePages}
use Rattle.bfs_remove.specs.Cuts.{IsFilled}
use Rattle.bfs_remove.specs.Removed.{IsGiven}
use Rattle.bfs_remove.proofs.Giving.{shrink-root, given-root, given-levels, given-free}
use Rattle.bfs_remove.proofs.Marking.{keys-there}

pub lower-header : (h lower : Header) (root : ℤ) (n : ℕ) → lower.magic ≡ h.magic → lower.node_size ≡ h.node_size → lower.levels ≡ n → lower.data_type ≡ h.data_type → lower.root_pointer ≡ root → lower.free_pointer ≡ h.free_pointer → lower.maximum_size ≡ h.maximum_size
    → lower ≡ record h { root_pointer = root; levels = n }
lower-header h lower root n a b c d e f g = λ i. record { magic = a i; node_size = b i; levels = c i; data_type = d i; root_pointer = e i; free_pointer = f i; maximum_size = g i }

pub header-lowered : (kind : KeyKind) (size : ℕ) (h lower : Header) (root : ℤ) → IsHeaderFor kind size h → 1 < h.levels → IsChild size (place_of root) → lower ≡ record h { root_pointer = root; levels = h.levels - 1 } → IsHeaderFor kind size lower
header-lowered kind size h lower root good more child e = subst (λ (z : Header). IsHeaderFor kind size z) (sym e) (record {
  tree = record {
    header = record { magic_is = good.tree.header.magic_is; size = good.tree.header.size; kind = good.tree.header.kind };
    kind_is = good.tree.kind_is;
    levels = omega (arith, more);
    maximum = good.tree.maximum;
  };
  root = child;
  free = good.free;
})

root-way : (kind : KeyKind) (b reached : List ℕ) (t : Shape) (fs : List ℕ) (root : ℕ) (h : Header) → IsTree kind b reached t fs → h ≡ header_in b → root ≡ place_of h.root_pointer → place t ≡ root
root-way kind b reached t fs root h tree e is = tree.holds.built.root ∙ sym (is ∙ ap (λ (z : Header). place_of z.root_pointer) e)

more-levels : (kind : KeyKind) (b : List ℕ) (h : Header) → h ≡ header_in b → 1 < h.levels → suc 0 ≤ (state_of kind b).levels
more-levels kind b h e more = let m : h.levels ≡ (header_in b).levels = ap (λ (z : Header). z.levels) e in omega (arith, more, m)

pub root-interior : (kind : KeyKind) (b reached : List ℕ) (t : Shape) (fs : List ℕ) (root : ℕ) (h : Header) → IsTree kind b reached t fs → h ≡ header_in b → root ≡ place_of h.root_pointer → 1 < h.levels → IsInteriorPage kind (length b) (page_in b root)
root-interior kind b reached t fs root h tree e is more = (inner-page kind b reached t fs 0 [] root tree.holds (more-levels kind b h e more) (root-way kind b reached t fs root h tree e is)).0

pub root-lowered : (kind : KeyKind) (b c reached : List ℕ) (t : Shape) (fs : List ℕ) (root : ℕ) (h lower since : Header) → IsTree kind b reached t fs → h ≡ header_in b → root ≡ place_of h.root_pointer → 1 < h.levels
    → length (rows_of (page_in b root)) ≡ 0 → lower ≡ record h { root_pointer = (links_of (page_in b root)).overflow; levels = h.levels - 1 } → IsGiven b c root lower → since ≡ header_in c → IsTreeHeader kind (length c) since
    → (t2 : Shape) × (fs2 : List ℕ) × IsTree kind c reached t2 fs2 × (tree_rows t2 ≡ tree_rows t) × SamePages reached b c × (IsFilled t → IsFilled t2)
root-lowered kind b c reached t fs root h lower since tree e is more none le g se good =
    go n.0 n.1 (omega (arith, none, keys-there kind b root n.0 n.2.0)) n.2.0
  where
    level : suc 0 ≤ (state_of kind b).levels
    level = more-levels kind b h e more

    top : place t ≡ root
    top = root-way kind b reached t fs root h tree e is

    n : (below : Shapes) × (t ≡ node_shape root below) × Stands (state_of kind b).bodies (node_shape root below) × (under kind 1 t [] ≡ child_for kind below [])
    n = node-at kind (state_of kind b) reached t fs 0 [] root tree.holds level top

    off : (x : ℕ) → 1 ≤ times x reached → x ≢ root
    off x i = λ q.
        let m : 1 ≤ times root reached = subst (λ w. 1 ≤ times w reached) q i in
        let p : 1 ≤ times root (met_by t) = subst (λ w. 1 ≤ times w (met_by t)) top (place-met t) in
        omega (arith, m, p, met-once (state_of kind b) reached t fs tree.holds.built root)

    child : IsChild (length b) root
    child = subst (λ x. IsChild (length b) x) top (met-child (state_of kind b) reached t fs (place t) tree.holds.built (place-met t))

    levels_are : suc ((header_in c).levels - 1) ≡ (header_in b).levels - 1
    levels_are =
        let a : (header_in c).levels - 1 ≡ lower.levels - 1 = given-levels b c root lower g in
        let l : lower.levels ≡ h.levels - 1 = ap (λ (z : Header). z.levels) le in
        let m : h.levels ≡ (header_in b).levels = ap (λ (z : Header). z.levels) e in
        omega (arith, a, l, m, more)

    go : (below : Shapes) → t ≡ node_shape root below → length (children_of below) ≡ 0 → body_in kind (page_in b root) ≡ Some (inner_body (children_of below) (last_child below))
        → (t2 : Shape) × (fs2 : List ℕ) × IsTree kind c reached t2 fs2 × (tree_rows t2 ≡ tree_rows t) × SamePages reached b c × (IsFilled t → IsFilled t2)
    go (more_shapes u key us) shape zero s = absurd (omega (arith, zero))
    go (last_shape u) shape zero s =
        let f = inner-fields kind (page_in b root) [] (place u) s in (
          u,
          root ∷ fs,
          record {
            header = subst (λ (z : Header). IsTreeHeader kind (length c) z) se good;
            holds = shrink-root kind (state_of kind b) (state_of kind c) root u reached fs (subst (λ z. Holds kind (state_of kind b) reached z fs) shape tree.holds)
                (λ x m. ap (body_in kind) (g.pages x m)) (λ x m. ap free_in (g.pages x m)) (λ x m. ap neighbours_in (g.pages x m))
                (given-root b c root lower g ∙ ap (λ (z : Header). place_of z.root_pointer) le ∙ f.2) levels_are g.size (given-free b c root lower g child.0)
                (g.free ∙ ap (λ (z : Header). Some (place_of z.free_pointer)) le ∙ ap (λ (z : Header). Some (place_of z.free_pointer)) e);
          },
          ap tree_rows (sym shape),
          λ x i. g.pages x (off x i),
          λ f. subst (λ z. IsFilled z) shape f,
        )
