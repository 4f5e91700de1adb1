-- The stream of a new tree: a header, and a leaf with the tree's rows.
use Rattle.std.proofs.Common.{◌≡◌, ◌≤◌, ◌<◌, ◌+◌, ◌-◌, ◌%◌, ℕ, pos, List, [], ◌∷◌, length, true, false, cond, Some, None, refl, sym, ap, ◌∙◌, subst, arith}
use Rattle.std.specs.Prelude.{◌==◌, ◌&&◌, nat_le}
use Rattle.std.specs.List.{flat_map, AllByRecursion}
use Rattle.bfs_base.specs.Lists.{times}
use Rattle.bfs_base.specs.declared.kind.KeyKind.{KeyKind}
use Rattle.bfs_node.specs.Header.{header_at, code_of, IsHeader}
use Rattle.bfs_node.specs.declared.header.Header.{Header}
use Rattle.bfs_node.specs.declared.links.Links.{Links}
use Rattle.bfs_node.specs.Page.{Row, HasKeys, rows_of, links_of}
use Rattle.bfs_txn.specs.Pages.{page_at}
use Rattle.bfs_pages.specs.Shapes.{leaf_body, leaf_shape, entries_in, AscendAll}
use Rattle.bfs_pages.specs.Trees.{is_place, page_in, place_of, is_page, body_of, body_in, neighbours_in, held, IsTree}
use Rattle.bfs_pages.proofs.Good.{true-page}
use Rattle.bfs_pages.proofs.Placed.{held_more}
use Rattle.bfs_values.specs.Rows.{rows_in}
use Rattle.bfs_values.specs.Reached.{times_named, chains_in, Ends, AreReached, IsWholeTree, AllMean}
use Rattle.bfs_values.specs.Values.{chain_of}
use Rattle.bfs_values.proofs.Rows.{rows_those}
use Rattle.bfs_mkfs.specs.Laid.{IsLeaf, new_header}

held_none : (x : ℕ) → held 0 x ≡ 0
unfolding held
held_none x = let e : nat_le (x + 1) 0 ≡ false = grind arith in ap (λ b. cond (b && (x % 1024 == 0)) 1 0) e

module _ (kind : KeyKind) (bytes : List ℕ) (rows : List Row) (long : length bytes ≡ 2048) (header : header_at (page_at bytes 0) ≡ new_header kind)
    (leaf : IsLeaf rows (page_at bytes 1024)) (keys : HasKeys kind rows) (ascend : AscendAll kind (entries_in rows)) (few : code_of kind ≤ 4) where
  page_is : page_in bytes 1024 ≡ page_at bytes 1024
  page_is = ap (λ n. cond (nat_le 1 1024 && is_place n 1024) (page_at bytes 1024) []) long

  good : is_page kind (page_at bytes 1024) ≡ true
  good = true-page kind (page_at bytes 1024) (record { layout = leaf.layout; keys = subst (HasKeys kind) (sym leaf.rows) keys })

  body_is : body_in kind (page_in bytes 1024) ≡ Some (leaf_body rows)
  body_is =
      ap (body_in kind) page_is
      ∙ ap (λ b. cond b (Some (body_of (links_of (page_at bytes 1024)).overflow (rows_of (page_at bytes 1024)))) None) good
      ∙ ap (λ (l : Links). Some (body_of l.overflow (rows_of (page_at bytes 1024)))) leaf.links
      ∙ ap (λ rs. Some (leaf_body rs)) leaf.rows

  links_are : neighbours_in (page_in bytes 1024) ≡ (0, 0)
  links_are = ap neighbours_in page_is ∙ ap (λ (l : Links). (place_of l.left, place_of l.right)) leaf.links

  once : (x : ℕ) → times x (0 ∷ []) + times x [] + times x (1024 ∷ []) + times x [] ≡ held (length bytes) x
  once x =
      let none : held 0 x ≡ 0 = held_none x in
      let first : held 1024 x ≡ held 0 x + times x (0 ∷ []) = held_more 0 x refl in
      let second : held 2048 x ≡ held 1024 x + times x (1024 ∷ []) = held_more 1024 x refl in
      subst (λ n. times x (0 ∷ []) + times x [] + times x (1024 ∷ []) + times x [] ≡ held n x) (sym long) (omega (arith, none, first, second))

  pub is_tree : IsTree kind bytes [] (leaf_shape 1024 rows) []
  is_tree = record {
    header = record {
      header = subst IsHeader (sym header) (record { magic_is = refl; size = refl; kind = few });
      kind_is = ap (λ (h : Header). h.data_type) header;
      levels = subst (λ (h : Header). 1 ≤ h.levels) (sym header) (omega arith);
      maximum = ap (λ (h : Header). h.maximum_size) header ∙ ap pos (sym long);
    };
    holds = record {
      built = record {
        root = sym (ap (λ (h : Header). place_of h.root_pointer) header);
        stands = body_is;
        deep = ap (λ (h : Header). h.levels - 1) header;
        chain = ap (λ (h : Header). place_of h.free_pointer) header;
        once = once;
      };
      ascends = ascend;
      linked = (links_are, tt);
    };
  }

  pub rows_are : rows_in kind bytes ≡ rows
  rows_are = sym (rows_those kind bytes [] (leaf_shape 1024 rows) [] is_tree)

  pub whole_tree : ((r : ℕ) (f : ℕ) → times_named r f rows ≡ 0) → chains_in rows ≡ [] → AllMean bytes rows → IsWholeTree kind bytes
  whole_tree none no_chain all = record {
    whole = ap (λ n. n % 1024) long;
    reached = [];
    shape = leaf_shape 1024 rows;
    free = [];
    tree = is_tree;
    values = subst (λ rs. AreReached bytes rs []) (sym rows_are) (record {
      fragments = [];
      parts = ap (flat_map (chain_of bytes)) (sym no_chain);
      ends = subst (λ firsts. AllByRecursion (Ends bytes) firsts) (sym no_chain) tt;
      named = λ at. ((λ h. absurd (omega (arith, h))), (λ f. let z : times_named at f.0 rows ≡ 0 = none at f.0 in let h : 0 < times_named at f.0 rows = f.1 in absurd (omega (arith, z, h))));
      each = λ at f h. absurd (let z : 0 < times at [] = h in omega (arith, z));
    });
    mean = subst (AllMean bytes) (sym rows_are) all;
  }
