-- A page is put above the root.
use Rattle.std.proofs.Common.{◌≡◌, ◌≢◌, ◌≤◌, ◌<◌, ◌+◌, ◌-◌, ◌^◌, ℕ, ℤ, pos, suc, SFits, w64, List, [], length, Some, true, false, cond, ◌==◌, ap, ap₂, sym, ◌∙◌, subst, arith}
use Rattle.bfs_base.specs.declared.kind.KeyKind.{KeyKind}
use Rattle.bfs_node.specs.Page.{Row, IsPage, HasLayout, HasKeys, rows_of, links_of, keys_of, taken_by}
use Rattle.bfs_node.specs.declared.header.Header.{Header}
use Rattle.bfs_pages.specs.Answers.{IsChild, IsHeaderFor}
use Rattle.bfs_insert.specs.Growth.{Rooted}
use Rattle.bfs_insert.specs.Divided.{IsRoomy}
use Rattle.bfs_pages.specs.Shapes.{inner_body}
use Rattle.bfs_pages.specs.Trees.{IsTreeHeader, page_in, header_in, place_of, body_in, neighbours_in, free_in, state_of, children_in}
use Rattle.bfs_pages.specs.Writes.{PageSet, HeaderSet, IsTaken}
use Rattle.bfs_insert.specs.Puts.{IsTop}
use Rattle.bfs_insert.proofs.Calls.{heightens}
use Rattle.bfs_pages.proofs.Says.{says-inner, place-pos}

eq_no : (a b : ℕ) → a ≢ b → (a == b) ≡ false
eq_no a b e = grind (arith, e)

eq_self : (a : ℕ) → (a == a) ≡ true
eq_self a = grind arith

two_or_more : (n x : ℕ) → IsChild n x → 2 ≤ x
two_or_more n x h = grind (arith, h.0, h.1)

no-keys : (kind : KeyKind) → HasKeys kind []
no-keys kind j h = absurd (omega (arith, h))

blank_room : taken_by (length {A = Row} []) (length (keys_of [])) + 272 ≤ 1024
blank_room = omega arith

pub raised : (kind : KeyKind) (b b0 b1 c : List ℕ) (q : ℕ) (h h2 : Header) (page : List ℕ) → IsTaken kind b b0 q h → PageSet b0 b1 q page → HeaderSet b1 c h2
    → IsHeaderFor kind (length b0) h → IsChild (length b0) q → HasLayout page → rows_of page ≡ [] → (links_of page).overflow ≡ h.root_pointer
    → h2.magic ≡ h.magic → h2.node_size ≡ h.node_size → h2.data_type ≡ h.data_type → h2.levels ≡ h.levels + 1 → h2.root_pointer ≡ pos q → h2.free_pointer ≡ h.free_pointer → h2.maximum_size ≡ h.maximum_size
    → IsTop kind b c q (h.levels + 1) × (h.levels + 1 ≡ (header_in b).levels + 1)
raised kind b b0 b1 c q h h2 page tk set hs good child layout rows last magic node type levels root free most = (
  record {
    heightens = heightens kind (state_of kind b) (state_of kind b0) (state_of kind c) q tk.taken rooted;
    root_is = root_q;
    levels_are = ap (λ (z : Header). z.levels) hs.header ∙ levels;
    room = subst (λ (p : List ℕ). IsRoomy p) (sym here) (subst (λ (l : List Row). taken_by (length l) (length (keys_of l)) + 272 ≤ 1024) (sym rows) blank_room);
    header = λ i. subst (λ (z : Header). IsTreeHeader kind (length c) z) (sym hs.header) (record {
      header = record {
        magic_is = magic ∙ good.tree.header.magic_is;
        size = node ∙ good.tree.header.size;
        kind = subst (λ (n : ℕ). n ≤ 4) (sym type) good.tree.header.kind;
      };
      kind_is = type ∙ good.tree.kind_is;
      levels = subst (λ (n : ℕ). 1 ≤ n) (sym levels) (omega arith);
      maximum = most ∙ good.tree.maximum ∙ ap pos (sym (hs.size ∙ set.size));
    });
  },
  ap (λ (n : ℕ). n + 1) (sym (ap (λ (z : Header). z.levels) tk.header) ∙ tk.same_levels),
)
  where
    root_q : place_of (header_in c).root_pointer ≡ q
    root_q = ap (λ (z : Header). place_of z.root_pointer) hs.header ∙ ap place_of root ∙ place-pos q child.0

    off : (x : ℕ) → x ≢ q → page_in c x ≡ page_in b0 x
    off x n = hs.pages x ∙ set.pages x ∙ ap (λ t. cond t page (page_in b0 x)) (eq_no x q n)

    here : page_in c q ≡ page
    here = hs.pages q ∙ set.pages q ∙ ap (λ t. cond t page (page_in b0 q)) (eq_self q)

    is : IsPage kind page
    is = record { layout = layout; keys = subst (λ (z : List Row). HasKeys kind z) (sym rows) (no-keys kind) }

    two : 2 ≤ place_of (links_of page).overflow
    two = subst (λ (z : ℤ). 2 ≤ place_of z) (sym last) (two_or_more (length b0) (place_of h.root_pointer) good.root)

    more : (header_in c).levels - 1 ≡ suc ((header_in b0).levels - 1)
    more =
        let e : (header_in c).levels ≡ h.levels + 1 = ap (λ (z : Header). z.levels) hs.header ∙ levels in
        let f : (header_in b0).levels ≡ h.levels = ap (λ (z : Header). z.levels) tk.header in
        omega (arith, e, f, good.tree.levels)

    rooted : Rooted (state_of kind b0) (state_of kind c) q
    rooted = record {
      same = record {
        bodies = λ x n. ap (body_in kind) (off x n);
        frees = λ x n. ap free_in (off x n);
        links = λ x n. ap neighbours_in (off x n);
        pages = off;
      };
      root = root_q;
      levels = more;
      free = ap (λ (z : Header). place_of z.free_pointer) hs.header ∙ ap place_of free ∙ sym (ap (λ (z : Header). place_of z.free_pointer) tk.header);
      size = hs.size ∙ set.size;
      body = ap (body_in kind) here ∙ says-inner kind page is two
          ∙ ap₂ (λ x y. Some (inner_body x y)) (ap children_in rows) (ap place_of last ∙ sym (ap (λ (z : Header). place_of z.root_pointer) tk.header));
    }

-- a page's place is a small number, where the header tells the stream's size
pub small-child : (size q : ℕ) (z : ℤ) → SFits w64 z → z ≡ pos size → IsChild size q → q < 2 ^ 63
small-child size q z f e h =
    let s : SFits w64 (pos size) = subst (λ (y : ℤ). SFits w64 y) e f in
    let within : q < size = grind (arith, h.1) in
    omega (arith, s.sfits, within)
