-- A stream's bytes are a tree of one leaf, by what its pages say.
use Rattle.std.proofs.Common.{◌≡◌, ◌≤◌, ◌<◌, ◌+◌, ◌-◌, ◌%◌, ℕ, zero, suc, pos, negsuc, List, [], ◌∷◌, length, Bool, true, false, cond, Some, refl, sym, ap, ◌∙◌, subst, arith}
use Rattle.std.proofs.lemmas.Bool.{true≢false}
use Rattle.std.specs.Prelude.{◌==◌, ◌&&◌, nat_le}
use Rattle.std.specs.List.{flat_map, list_all, AllByRecursion}
use Rattle.bfs_base.specs.Lists.{times, Has, counted_from}
use Rattle.bfs_base.specs.declared.kind.KeyKind.{KeyKind}
use Rattle.bfs_node.specs.Header.{code_of, IsHeader}
use Rattle.bfs_node.specs.declared.header.Header.{Header}
use Rattle.bfs_node.specs.Page.{Row}
use Rattle.bfs_pages.specs.Shapes.{leaf_body, leaf_shape, entries_in, AscendAll}
use Rattle.bfs_pages.specs.Trees.{page_in, header_in, place_of, body_in, neighbours_in, held, IsTree}
use Rattle.bfs_pages.proofs.Placed.{held_more}
use Rattle.bfs_values.specs.Rows.{rows_in}
use Rattle.bfs_values.specs.Reached.{times_named, chains_in, Ends, AreReached, AllMean, IsWholeTree}
use Rattle.bfs_values.specs.Values.{chain_of, fragment_count, HasNumbers}
use Rattle.bfs_values.specs.Links.{link_in}
use Rattle.bfs_values.specs.declared.link.Link.{Link}
use Rattle.bfs_values.specs.declared.link.Link.TheVariants.{Number, Fragment, Chain, Nothing}
use Rattle.bfs_values.proofs.Rows.{rows_those}
use Rattle.bfs_sound_tests.proofs.Finite.{both, same, counted_all}

held_none : (x : ℕ) → held 0 x ≡ 0
unfolding held
held_none x = let e : nat_le (x + 1) 0 ≡ false = grind arith in ap (λ b. cond (b && (x % 1024 == 0)) 1 0) e

-- the pages of a stream of two pages, and of three
pub two_held : (x : ℕ) → times x (0 ∷ []) + times x [] + times x (1024 ∷ []) + times x [] ≡ held 2048 x
two_held x =
    let none : held 0 x ≡ 0 = held_none x in
    let first : held 1024 x ≡ held 0 x + times x (0 ∷ []) = held_more 0 x refl in
    let second : held 2048 x ≡ held 1024 x + times x (1024 ∷ []) = held_more 1024 x refl in
    omega (arith, none, first, second)

pub three_held : (x : ℕ) → times x (0 ∷ []) + times x (2048 ∷ []) + times x (1024 ∷ []) + times x [] ≡ held 3072 x
three_held x =
    let two = two_held x in
    let third : held 3072 x ≡ held 2048 x + times x (2048 ∷ []) = held_more 2048 x refl in
    omega (arith, two, third)

-- of six pages, where an interior page and two leaves are in the tree, one page is reached by a value, and one is free
pub six_held : (x : ℕ) → times x (0 ∷ []) + times x (4096 ∷ []) + times x (1024 ∷ 2048 ∷ 3072 ∷ []) + times x (5120 ∷ []) ≡ held 6144 x
six_held x =
    let three = three_held x in
    let fourth : held 4096 x ≡ held 3072 x + times x (3072 ∷ []) = held_more 3072 x refl in
    let fifth : held 5120 x ≡ held 4096 x + times x (4096 ∷ []) = held_more 4096 x refl in
    let sixth : held 6144 x ≡ held 5120 x + times x (5120 ∷ []) = held_more 5120 x refl in
    omega (arith, three, fourth, fifth, sixth)

-- the header of such a tree
abbrev pub header_of : KeyKind → ℕ → Header
header_of kind size = record {
  magic = 0x69f6c2e8;
  node_size = 1024;
  levels = 1;
  data_type = code_of kind;
  root_pointer = pos 1024;
  free_pointer = negsuc 0;
  maximum_size = pos size;
}

-- what the header and the leaf behind it say, and which pages the leaf's values reach
pub record IsOneLeaf (kind : KeyKind) (bytes : List ℕ) (size : ℕ) (reached : List ℕ) (rows : List Row) : Type 0 where
  pub long : length bytes ≡ size
  pub pages : size % 1024 ≡ 0
  pub few : code_of kind ≤ 4
  pub header : header_in bytes ≡ header_of kind size
  pub body : body_in kind (page_in bytes 1024) ≡ Some (leaf_body rows)
  pub links : neighbours_in (page_in bytes 1024) ≡ (0, 0)
  pub ascend : AscendAll kind (entries_in rows)
  pub once : (x : ℕ) → times x (0 ∷ []) + times x reached + times x (1024 ∷ []) + times x [] ≡ held size x

-- the pages that the values of rows reach, and that each value means numbers
pub record IsValued (bytes : List ℕ) (rows : List Row) (reached : List ℕ) : Type 0 where
  pub values : AreReached bytes rows reached
  pub mean : AllMean bytes rows

module _ (kind : KeyKind) (bytes : List ℕ) (size : ℕ) (reached : List ℕ) (rows : List Row) (leaf : IsOneLeaf kind bytes size reached rows) where
  pub one_tree : IsTree kind bytes reached (leaf_shape 1024 rows) []
  one_tree = record {
    header = record {
      header = subst IsHeader (sym leaf.header) (record { magic_is = refl; size = refl; kind = leaf.few });
      kind_is = ap (λ (h : Header). h.data_type) leaf.header;
      levels = subst (λ (h : Header). 1 ≤ h.levels) (sym leaf.header) (omega arith);
      maximum = ap (λ (h : Header). h.maximum_size) leaf.header ∙ ap pos (sym leaf.long);
    };
    holds = record {
      built = record {
        root = sym (ap (λ (h : Header). place_of h.root_pointer) leaf.header);
        stands = leaf.body;
        deep = ap (λ (h : Header). h.levels - 1) leaf.header;
        chain = ap (λ (h : Header). place_of h.free_pointer) leaf.header;
        once = λ x. subst (λ n. times x (0 ∷ []) + times x reached + times x (1024 ∷ []) + times x [] ≡ held n x) (sym leaf.long) (leaf.once x);
      };
      ascends = leaf.ascend;
      linked = (leaf.links, tt);
    };
  }

  pub rows_are : rows_in kind bytes ≡ rows
  rows_are = sym (rows_those kind bytes reached (leaf_shape 1024 rows) [] one_tree)

  pub whole_tree : IsValued bytes rows reached → IsWholeTree kind bytes
  whole_tree valued = record {
    whole = ap (λ n. n % 1024) leaf.long ∙ leaf.pages;
    reached = reached;
    shape = leaf_shape 1024 rows;
    free = [];
    tree = one_tree;
    values = subst (λ rs. AreReached bytes rs reached) (sym rows_are) valued.values;
    mean = subst (AllMean bytes) (sym rows_are) valued.mean;
  }

-- a link is a number
abbrev pub is_number : Link → Bool
is_number (Number n) = true
is_number (Fragment page i) = false
is_number (Chain page) = false
is_number Nothing = false

number_means : (bytes : List ℕ) (link : Link) → is_number link ≡ true → HasNumbers bytes link
number_means bytes (Number n) e = tt
number_means bytes (Fragment page i) e = absurd (true≢false (sym e))
number_means bytes (Chain page) e = absurd (true≢false (sym e))
number_means bytes Nothing e = absurd (true≢false (sym e))

numbers_mean : (bytes : List ℕ) (rows : List Row) → list_all (λ r. is_number (link_in r.1)) rows ≡ true → AllMean bytes rows
numbers_mean bytes [] e = tt
numbers_mean bytes (r ∷ rs) e =
    let p = both (is_number (link_in r.1)) (list_all (λ r. is_number (link_in r.1)) rs) e in
    (number_means bytes (link_in r.1) p.0, numbers_mean bytes rs p.1)

plain_reach : (bytes : List ℕ) (rows : List Row) → ((at f : ℕ) → times_named at f rows ≡ 0) → chains_in rows ≡ [] → AreReached bytes rows []
plain_reach bytes rows none no_chain = record {
  fragments = [];
  parts = ap (flat_map (chain_of bytes)) (sym no_chain);
  ends = subst (λ firsts. AllByRecursion (Ends bytes) firsts) (sym no_chain) tt;
  named = λ at. ((λ h. absurd (omega (arith, h))), (λ f. let z : times_named at f.0 rows ≡ 0 = none at f.0 in let h : 0 < times_named at f.0 rows = f.1 in absurd (omega (arith, z, h))));
  each = λ at f h. absurd (let z : 0 < times at [] = h in omega (arith, z));
}

-- plain numbers reach no page
pub plain_values : (bytes : List ℕ) (rows : List Row) → ((at f : ℕ) → times_named at f rows ≡ 0) → chains_in rows ≡ [] → list_all (λ r. is_number (link_in r.1)) rows ≡ true → IsValued bytes rows []
plain_values bytes rows none no_chain numbers = record { values = plain_reach bytes rows none no_chain; mean = numbers_mean bytes rows numbers }

-- the values reach one page of fragments, of which only the first is in use, and one row names it
module _ (bytes : List ℕ) (rows : List Row) (page : ℕ) (named : (at f : ℕ) → times_named at f rows ≡ cond ((page == at) && (0 == f)) 1 0) (no_chain : chains_in rows ≡ [])
    (others : list_all (λ f. fragment_count (page_in bytes page) f == 0) (counted_from 1 15) ≡ true) (mean : AllMean bytes rows) where
  found : (at : ℕ) → Has (page ∷ []) at → (page == at) ≡ true
  found at h = let some : 0 < cond (page == at) 1 0 + 0 = h in grind (arith, some)

  first_named : (at : ℕ) → (page == at) ≡ true → 0 < times_named at 0 rows
  first_named at e = let n = named at 0 in let c : ◌≡◌ {A = ℕ} (cond ((page == at) && (0 == 0)) 1 0) 1 = ap (λ b. cond (b && (0 == 0)) 1 0) e in omega (arith, n, c)

  back : (at f : ℕ) → 0 < times_named at f rows → Has (page ∷ []) at
  back at f h = let n = named at f in let some : 0 < cond ((page == at) && (0 == f)) 1 0 = subst (λ k. 0 < k) n h in let r : 0 < cond (page == at) 1 0 + 0 = grind (arith, some) in r

  each_one : (at f : ℕ) → Has (page ∷ []) at → f < 16 → 0 < fragment_count (page_in bytes at) f → times_named at f rows ≡ 1
  each_one at zero h low some = let n = named at 0 in let c : ◌≡◌ {A = ℕ} (cond ((page == at) && (0 == 0)) 1 0) 1 = ap (λ b. cond (b && (0 == 0)) 1 0) (found at h) in omega (arith, n, c)
  each_one at (suc f) h low some =
      let here : page ≡ at = same page at (found at h) in
      let free : fragment_count (page_in bytes page) (suc f) ≡ 0 = same (fragment_count (page_in bytes page) (suc f)) 0 (counted_all (λ f. fragment_count (page_in bytes page) f == 0) 1 15 others (suc f) (omega arith) (omega (arith, low))) in
      let used : 0 < fragment_count (page_in bytes page) (suc f) = subst (λ p. 0 < fragment_count (page_in bytes p) (suc f)) (sym here) some in
      absurd (omega (arith, free, used))

  one_reach : AreReached bytes rows (page ∷ [])
  one_reach = record {
    fragments = page ∷ [];
    parts = ap (λ firsts. page ∷ flat_map (chain_of bytes) firsts) (sym no_chain);
    ends = subst (λ firsts. AllByRecursion (Ends bytes) firsts) (sym no_chain) tt;
    named = λ at. ((λ h. (0, first_named at (found at h))), (λ f. back at f.0 f.1));
    each = each_one;
  }

  pub one_fragment : IsValued bytes rows (page ∷ [])
  one_fragment = record { values = one_reach; mean = mean }
