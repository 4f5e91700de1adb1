-- The bytes of a new tree without rows: a header, and a leaf without rows.
use Rattle.std.proofs.Common.{◌≡◌, ◌≤◌, ◌<◌, ◌+◌, ◌-◌, ◌%◌, ℕ, pos, List, [], ◌∷◌, ◌++◌, length, true, false, cond, Some, None, refl, sym, ap, ◌∙◌, subst, arith, take, drop, length-append}
use Rattle.std.specs.Prelude.{◌==◌, ◌&&◌, nat_le}
use Rattle.std.specs.List.{AllByRecursion}
use Rattle.std.proofs.Math.Seq.{take-length, take-append_seam, drop-append_seam}
use Rattle.bfs_base.specs.Keys.{IsTreeKind}
use Rattle.bfs_base.specs.Lists.{times}
use Rattle.bfs_base.specs.declared.kind.KeyKind.{KeyKind}
use Rattle.bfs_base.specs.declared.kind.KeyKind.TheVariants.{Text, I32, U32, I64, U64, F32, F64}
use Rattle.bfs_node.specs.Header.{header_at, code_of, IsHeader}
use Rattle.bfs_node.specs.declared.header.Header.{Header}
use Rattle.bfs_node.specs.declared.links.Links.{Links}
use Rattle.bfs_node.specs.Page.{Row, HasKeys, rows_of, links_of}
use Rattle.bfs_txn.specs.Pages.{page_at}
use Rattle.bfs_maps.specs.Shapes.{leaf_body, leaf_shape}
use Rattle.bfs_maps.specs.Trees.{is_place, page_in, place_of, is_page, body_of, body_in, neighbours_in, held, IsTree}
use Rattle.bfs_maps.proofs.Good.{true-page}
use Rattle.bfs_maps.proofs.Placed.{held_more}
use Rattle.bfs_maps.specs.Rows.{rows_in}
use Rattle.bfs_maps.specs.Reached.{AreReached, IsWholeTree, AllMean}
use Rattle.bfs_maps.proofs.Rows.{rows_those}
use Rattle.bfs_make.specs.Trees.{IsEmptyLeaf, first_header}

few_codes : (kind : KeyKind) → IsTreeKind kind → code_of kind ≤ 4
few_codes Text is = omega arith
few_codes I32 is = omega arith
few_codes U32 is = omega arith
few_codes I64 is = omega arith
few_codes U64 is = omega arith
few_codes F32 is = absurd is
few_codes F64 is = absurd is

held_none : (x : ℕ) → held 0 x ≡ 0
unfolding held
held_none x = let e : nat_le (x + 1) 0 ≡ false = grind arith in ap (λ b. cond (b && (x % 1024 == 0)) 1 0) e

no_keys : (kind : KeyKind) → HasKeys kind []
no_keys kind j h = absurd (omega (arith, h))

module _ (kind : KeyKind) (is : IsTreeKind kind) (bytes : List ℕ) (long : length bytes ≡ 2048) (header : header_at (page_at bytes 0) ≡ first_header kind) (leaf : IsEmptyLeaf (page_at bytes 1024)) where
  few : code_of kind ≤ 4
  few = few_codes kind is

  page_is : page_in bytes 1024 ≡ page_at bytes 1024
  page_is = ap (λ n. cond (nat_le 1 1024 && is_place n 1024) (page_at bytes 1024) []) long

  good : is_page kind (page_at bytes 1024) ≡ true
  good = true-page kind (page_at bytes 1024) (record { layout = leaf.layout; keys = subst (HasKeys kind) (sym leaf.rows) (no_keys kind) })

  body_is : body_in kind (page_in bytes 1024) ≡ Some (leaf_body [])
  body_is =
      ap (body_in kind) page_is
      ∙ ap (λ b. cond b (Some (body_of (links_of (page_at bytes 1024)).overflow (rows_of (page_at bytes 1024)))) None) good
      ∙ ap (λ (l : Links). Some (body_of l.overflow (rows_of (page_at bytes 1024)))) leaf.links
      ∙ ap (λ rs. Some (leaf_body rs)) leaf.rows

  links_are : neighbours_in (page_in bytes 1024) ≡ (0, 0)
  links_are = ap neighbours_in page_is ∙ ap (λ (l : Links). (place_of l.left, place_of l.right)) leaf.links

  once : (x : ℕ) → times x (0 ∷ []) + times x [] + times x (1024 ∷ []) + times x [] ≡ held (length bytes) x
  once x =
      let none : held 0 x ≡ 0 = held_none x in
      let first : held 1024 x ≡ held 0 x + times x (0 ∷ []) = held_more 0 x refl in
      let second : held 2048 x ≡ held 1024 x + times x (1024 ∷ []) = held_more 1024 x refl in
      subst (λ n. times x (0 ∷ []) + times x [] + times x (1024 ∷ []) + times x [] ≡ held n x) (sym long) (omega (arith, none, first, second))

  is_tree : IsTree kind bytes [] (leaf_shape 1024 []) []
  is_tree = record {
    header = record {
      header = subst IsHeader (sym header) (record { magic_is = refl; size = refl; kind = few });
      kind_is = ap (λ (h : Header). h.data_type) header;
      levels = subst (λ (h : Header). 1 ≤ h.levels) (sym header) (omega arith);
      maximum = ap (λ (h : Header). h.maximum_size) header ∙ ap pos (sym long);
    };
    holds = record {
      built = record {
        root = sym (ap (λ (h : Header). place_of h.root_pointer) header);
        stands = body_is;
        deep = ap (λ (h : Header). h.levels - 1) header;
        chain = ap (λ (h : Header). place_of h.free_pointer) header;
        once = once;
      };
      ascends = tt;
      linked = (links_are, tt);
    };
  }

  pub no_rows : rows_in kind bytes ≡ []
  no_rows = sym (rows_those kind bytes [] (leaf_shape 1024 []) [] is_tree)

  pub whole_tree : IsWholeTree kind bytes
  whole_tree = record {
    whole = ap (λ n. n % 1024) long;
    reached = [];
    shape = leaf_shape 1024 [];
    free = [];
    tree = is_tree;
    values = subst (λ rs. AreReached bytes rs []) (sym no_rows) (record {
      fragments = [];
      parts = refl;
      ends = tt;
      named = λ at. ((λ h. absurd (omega (arith, h))), (λ f. let h : 0 < 0 = f.1 in absurd (omega (arith, h))));
      each = λ at f h. absurd (let z : 0 < times at [] = h in omega (arith, z));
    });
    mean = subst (AllMean bytes) (sym no_rows) tt;
  }

-- the two pages one after the other
pub first_page : (a b : List ℕ) → length a ≡ 1024 → page_at (a ++ b) 0 ≡ a
first_page a b long = ap (λ n. take n (a ++ b)) (sym long) ∙ take-append_seam a b

pub second_page : (a b : List ℕ) → length a ≡ 1024 → length b ≡ 1024 → page_at (a ++ b) 1024 ≡ b
second_page a b long short =
    ap (λ n. take 1024 (drop n (a ++ b))) (sym long) ∙ ap (take 1024) (drop-append_seam a b)
    ∙ ap (λ n. take n b) (sym short) ∙ take-length b

pub both_pages : (a b : List ℕ) → length a ≡ 1024 → length b ≡ 1024 → length (a ++ b) ≡ 2048
both_pages a b long short = let l = length-append a b in omega (arith, l, long, short)
