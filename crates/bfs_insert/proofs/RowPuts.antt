-- A row is put into a leaf.
use Rattle.std.proofs.Common.{◌≡◌, ◌≢◌, ◌≤◌, ◌-◌, ℕ, ℤ, List, length, insert, Some, Bool, true, false, cond, ◌==◌, refl, ap, sym, ◌∙◌, subst, arith}
use Rattle.bfs_base.specs.declared.kind.KeyKind.{KeyKind}
use Rattle.bfs_base.specs.declared.kind.KeyKind.TheVariants.{Text, I32, U32, I64, U64, F32, F64}
use Rattle.bfs_base.specs.Keys.{IsKey}
use Rattle.bfs_node.specs.declared.header.Header.{Header}
use Rattle.bfs_node.specs.declared.links.Links.{Links}
use Rattle.bfs_node.specs.Page.{Row, IsPage, HasLayout, HasKeys, IsKeyLength, key_of, rows_of, links_of}
use Rattle.bfs_node.specs.Search.{IsSought}
use Rattle.bfs_node.proofs.AllRows.{all-insert, key-length}
use Rattle.bfs_pages.specs.Order.{Key}
use Rattle.bfs_pages.specs.Shapes.{leaf_body}
use Rattle.bfs_pages.specs.Trees.{page_in, place_of, body_in, neighbours_in, free_in}
use Rattle.bfs_pages.specs.Ways.{KeysRise, FirstAt}
use Rattle.bfs_pages.specs.Writes.{PageSet}
use Rattle.bfs_insert.specs.Puts.{IsPut}
use Rattle.bfs_pages.proofs.Says.{says-leaf}
use Rattle.bfs_pages.proofs.OfKind.{leaf-fields}
use Rattle.bfs_pages.proofs.Sorted.{ascend-rise, put-first}

eq_yes : (a b : ℕ) → (a == b) ≡ true → a ≡ b
eq_yes a b e = grind (arith, e)

eq_no : (a b : ℕ) → a ≢ b → (a == b) ≡ false
eq_no a b e = grind (arith, e)

eq_self : (a : ℕ) → (a == a) ≡ true
eq_self a = grind arith

pub key-sought : (kind : KeyKind) (key : List ℕ) → IsKey kind key → IsSought kind key
key-sought Text key h = tt
key-sought I32 key h = h
key-sought U32 key h = h
key-sought I64 key h = h
key-sought U64 key h = h
key-sought F32 key h = absurd h
key-sought F64 key h = absurd h

-- a key has at most 255 bytes
pub key-short : (kind : KeyKind) (key : List ℕ) → IsKey kind key → length key ≤ 255
key-short Text key h = h.1
key-short I32 key h = omega (arith, h)
key-short U32 key h = omega (arith, h)
key-short I64 key h = omega (arith, h)
key-short U64 key h = omega (arith, h)
key-short F32 key h = absurd h
key-short F64 key h = absurd h

-- a page with a row more
pub more-page : (kind : KeyKind) (page new : List ℕ) (i : ℕ) (k : Key) (v : ℤ) → IsPage kind page → IsKey kind k → HasLayout new → rows_of new ≡ insert (rows_of page) i (k, v) → IsPage kind new
more-page kind page new i k v p key l rows = record {
  layout = l;
  keys = subst (λ (z : List Row). HasKeys kind z) (sym rows) (all-insert (λ (r : Row). IsKeyLength kind (length (key_of r))) (rows_of page) i (k, v) p.keys (key-length kind k key));
}

pub row-put : (kind : KeyKind) (b c page new : List ℕ) (at i : ℕ) (k : Key) (v : ℤ) → PageSet b c at new → page ≡ page_in b at → IsPage kind new → rows_of new ≡ insert (rows_of page) i (k, v) → links_of new ≡ links_of page
    → (KeysRise kind (rows_of page) → FirstAt kind (rows_of page) k i) → IsPut kind b c at k v
row-put kind b c page new at i k v set r p rows links first = record {
  row = record {
    bodies = λ x n. ap (body_in kind) (off x n);
    frees = λ x n. ap free_in (off x n);
    pages = off;
    links = λ x. by_test x (x == at) refl;
    root = ap (λ (h : Header). place_of h.root_pointer) set.header;
    levels = ap (λ (h : Header). h.levels - 1) set.header;
    free = ap (λ (h : Header). place_of h.free_pointer) set.header;
    size = set.size;
    leaf = λ own says up.
        let f = leaf-fields kind page own (ap (body_in kind) r ∙ says) in
        ap (body_in kind) here
        ∙ says-leaf kind new p (ap (λ (z : Links). z.overflow) links ∙ f.2)
        ∙ ap (λ (z : List Row). Some (leaf_body z)) (rows ∙ ap (λ (z : List Row). insert z i (k, v)) f.1
        ∙ sym (put-first kind own k v i (subst (λ (z : List Row). FirstAt kind z k i) f.1 (first (subst (λ (z : List Row). KeysRise kind z) (sym f.1) (ascend-rise kind own up))))));
  };
  header = set.header;
  size = set.size;
}
  where
    off : (x : ℕ) → x ≢ at → page_in c x ≡ page_in b x
    off x n = set.pages x ∙ ap (λ t. cond t new (page_in b x)) (eq_no x at n)

    here : page_in c at ≡ new
    here = set.pages at ∙ ap (λ t. cond t new (page_in b at)) (eq_self at)

    by_test : (x : ℕ) (t : Bool) → (x == at) ≡ t → neighbours_in (page_in c x) ≡ neighbours_in (page_in b x)
    by_test x true e =
        ap (λ z. neighbours_in (page_in c z)) (eq_yes x at e) ∙ ap neighbours_in here
        ∙ ap (λ (z : Links). (place_of z.left, place_of z.right)) links ∙ ap neighbours_in r ∙ ap (λ z. neighbours_in (page_in b z)) (sym (eq_yes x at e))
    by_test x false e = ap neighbours_in (set.pages x ∙ ap (λ t. cond t new (page_in b x)) e)
