-- The bytes of a new directory's tree: a header, and a leaf with its rows.
use Rattle.std.proofs.Common.{◌≡◌, ◌≤◌, ◌<◌, ◌+◌, ◌-◌, ◌%◌, ◌^◌, ℕ, zero, suc, pos, List, [], ◌∷◌, ◌++◌, length, true, false, cond, Some, None, refl, sym, ap, ◌∙◌, subst, arith}
use Rattle.std.specs.Prelude.{◌==◌, ◌&&◌, nat_le, codes}
use Rattle.std.specs.List.{flat_map, AllByRecursion}
use Rattle.std.proofs.Math.Nat.{div-eq_of_lt}
use Rattle.bfs_base.specs.Lists.{times}
use Rattle.bfs_base.specs.declared.kind.KeyKind.TheVariants.{Text}
use Rattle.bfs_node.specs.Header.{header_at, IsHeader}
use Rattle.bfs_node.specs.declared.header.Header.{Header}
use Rattle.bfs_node.specs.declared.links.Links.{Links}
use Rattle.bfs_node.specs.Page.{Row, HasKeys, IsKeyLength, rows_of, links_of}
use Rattle.bfs_txn.specs.Pages.{page_at}
use Rattle.bfs_pages.specs.Shapes.{leaf_body, leaf_shape, entries_in, AscendAll}
use Rattle.bfs_pages.specs.Trees.{is_place, page_in, place_of, is_page, body_of, body_in, neighbours_in, held, IsTree}
use Rattle.bfs_pages.proofs.Good.{true-page}
use Rattle.bfs_pages.proofs.Placed.{held_more}
use Rattle.bfs_values.specs.Links.{link_by, link_in}
use Rattle.bfs_values.specs.Rows.{rows_in}
use Rattle.bfs_values.specs.Reached.{times_named, chain_in, chains_in, is_fragment, Ends, AreReached, IsWholeTree, AllMean}
use Rattle.bfs_values.specs.Values.{HasNumbers, chain_of}
use Rattle.bfs_values.specs.declared.link.Link.TheVariants.{Number}
use Rattle.bfs_values.proofs.Rows.{rows_those}
use Rattle.bfs_make.specs.Trees.{first_header}
use Rattle.bfs_shift.specs.TreeLaws.{first_rows}
use Rattle.bfs_moves.specs.Grown.{IsLeaf}

held_none : (x : ℕ) → held 0 x ≡ 0
unfolding held
held_none x = let e : nat_le (x + 1) 0 ≡ false = grind arith in ap (λ b. cond (b && (x % 1024 == 0)) 1 0) e

-- a small number is no link
plain_link : (n : ℕ) → n < 2 ^ 62 → link_in (pos n) ≡ Number n
unfolding link_in
plain_link n small = ap (λ kind. link_by kind n) (div-eq_of_lt small)

abbrev IsSmall : Row → Type 0
IsSmall r = (n : ℕ) × (r.1 ≡ pos n) × (n < 2 ^ 62)

row_link : (r : Row) → (small : IsSmall r) → link_in r.1 ≡ Number small.0
row_link r small = ap link_in small.1 ∙ plain_link small.0 small.2

no_fragments : (rows : List Row) → AllByRecursion IsSmall rows → (at f : ℕ) → times_named at f rows ≡ 0
no_fragments [] all at f = refl
no_fragments (r ∷ rs) all at f =
    ap (λ l. cond (is_fragment at f l) 1 0 + times_named at f rs) (row_link r all.0) ∙ (let ih : times_named at f rs ≡ 0 = no_fragments rs all.1 at f in omega (arith, ih))

no_chains : (rows : List Row) → AllByRecursion IsSmall rows → chains_in rows ≡ []
no_chains [] all = refl
no_chains (r ∷ rs) all = ap (λ l. chain_in l ++ chains_in rs) (row_link r all.0) ∙ no_chains rs all.1

all_mean : (rows : List Row) → AllByRecursion IsSmall rows → (bytes : List ℕ) → AllMean bytes rows
all_mean [] all bytes = tt
all_mean (r ∷ rs) all bytes = (subst (HasNumbers bytes) (sym (row_link r all.0)) tt, all_mean rs all.1 bytes)

no_keys : HasKeys Text []
no_keys j h = absurd (omega (arith, h))

more_keys : (r : Row) (rs : List Row) → IsKeyLength Text (length r.0) → HasKeys Text rs → HasKeys Text (r ∷ rs)
more_keys r rs first rest zero h = first
more_keys r rs first rest (suc j) h = rest j (omega (arith, h))

-- a tree of one leaf, each of whose values is a small number
module _ (bytes : List ℕ) (rows : List Row) (long : length bytes ≡ 2048) (header : header_at (page_at bytes 0) ≡ first_header Text) (leaf : IsLeaf rows (page_at bytes 1024))
    (keys : HasKeys Text rows) (ascend : AscendAll Text (entries_in rows)) (small : AllByRecursion IsSmall rows) where
  page_is : page_in bytes 1024 ≡ page_at bytes 1024
  page_is = ap (λ n. cond (nat_le 1 1024 && is_place n 1024) (page_at bytes 1024) []) long

  good : is_page Text (page_at bytes 1024) ≡ true
  good = true-page Text (page_at bytes 1024) (record { layout = leaf.layout; keys = subst (HasKeys Text) (sym leaf.rows_are) keys })

  body_is : body_in Text (page_in bytes 1024) ≡ Some (leaf_body rows)
  body_is =
      ap (body_in Text) page_is
      ∙ ap (λ b. cond b (Some (body_of (links_of (page_at bytes 1024)).overflow (rows_of (page_at bytes 1024)))) None) good
      ∙ ap (λ (l : Links). Some (body_of l.overflow (rows_of (page_at bytes 1024)))) leaf.links
      ∙ ap (λ rs. Some (leaf_body rs)) leaf.rows_are

  links_are : neighbours_in (page_in bytes 1024) ≡ (0, 0)
  links_are = ap neighbours_in page_is ∙ ap (λ (l : Links). (place_of l.left, place_of l.right)) leaf.links

  once : (x : ℕ) → times x (0 ∷ []) + times x [] + times x (1024 ∷ []) + times x [] ≡ held (length bytes) x
  once x =
      let none : held 0 x ≡ 0 = held_none x in
      let first : held 1024 x ≡ held 0 x + times x (0 ∷ []) = held_more 0 x refl in
      let second : held 2048 x ≡ held 1024 x + times x (1024 ∷ []) = held_more 1024 x refl in
      subst (λ n. times x (0 ∷ []) + times x [] + times x (1024 ∷ []) + times x [] ≡ held n x) (sym long) (omega (arith, none, first, second))

  is_tree : IsTree Text bytes [] (leaf_shape 1024 rows) []
  is_tree = record {
    header = record {
      header = subst IsHeader (sym header) (record { magic_is = refl; size = refl; kind = omega arith });
      kind_is = ap (λ (h : Header). h.data_type) header;
      levels = subst (λ (h : Header). 1 ≤ h.levels) (sym header) (omega arith);
      maximum = ap (λ (h : Header). h.maximum_size) header ∙ ap pos (sym long);
    };
    holds = record {
      built = record {
        root = sym (ap (λ (h : Header). place_of h.root_pointer) header);
        stands = body_is;
        deep = ap (λ (h : Header). h.levels - 1) header;
        chain = ap (λ (h : Header). place_of h.free_pointer) header;
        once = once;
      };
      ascends = ascend;
      linked = (links_are, tt);
    };
  }

  rows_are : rows_in Text bytes ≡ rows
  rows_are = sym (rows_those Text bytes [] (leaf_shape 1024 rows) [] is_tree)

  whole_tree : IsWholeTree Text bytes
  whole_tree = record {
    whole = ap (λ n. n % 1024) long;
    reached = [];
    shape = leaf_shape 1024 rows;
    free = [];
    tree = is_tree;
    values = subst (λ rs. AreReached bytes rs []) (sym rows_are) (record {
      fragments = [];
      parts = ap (flat_map (chain_of bytes)) (sym (no_chains rows small));
      ends = subst (λ firsts. AllByRecursion (Ends bytes) firsts) (sym (no_chains rows small)) tt;
      named = λ at. ((λ h. absurd (omega (arith, h))), (λ f. let z : times_named at f.0 rows ≡ 0 = no_fragments rows small at f.0 in let h : 0 < times_named at f.0 rows = f.1 in absurd (omega (arith, z, h))));
      each = λ at f h. absurd (let z : 0 < times at [] = h in omega (arith, z));
    });
    mean = subst (AllMean bytes) (sym rows_are) (all_mean rows small bytes);
  }

-- the rows `.` and `..`
module _ (id parent : ℕ) (few : id < 2 ^ 62) (low : parent < 2 ^ 62) (bytes : List ℕ) (long : length bytes ≡ 2048) (header : header_at (page_at bytes 0) ≡ first_header Text) (leaf : IsLeaf (first_rows id parent) (page_at bytes 1024)) where
  keys_are : HasKeys Text (first_rows id parent)
  keys_are = more_keys (codes ".", pos id) ((codes "..", pos parent) ∷ []) (omega arith, omega arith) (more_keys (codes "..", pos parent) [] (omega arith, omega arith) no_keys)

  are_small : AllByRecursion IsSmall (first_rows id parent)
  are_small = ((id, refl, few), ((parent, refl, low), tt))

  pub first_rows_are : rows_in Text bytes ≡ first_rows id parent
  first_rows_are = rows_are bytes (first_rows id parent) long header leaf keys_are ((refl, tt), (tt, tt)) are_small

  pub first_whole_tree : IsWholeTree Text bytes
  first_whole_tree = whole_tree bytes (first_rows id parent) long header leaf keys_are ((refl, tt), (tt, tt)) are_small
