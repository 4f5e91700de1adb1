-- The pairs of an index once a node has come, and pairs of a name that no index has.
use Rattle.std.proofs.Common.{◌≡◌, ◌≢◌, ◌⊎◌, ◌↔◌, inl, inr, ℕ, ℤ, List, sym, ap, ◌∙◌, subst, Option, Some, None}
use Rattle.std.specs.List.{Contains}
use Rattle.std.specs.Option.{option_and_then}
use Rattle.std.specs.FinMap.{get, insert}
use Rattle.bfs_base.specs.declared.kind.KeyKind.{KeyKind}
use Rattle.bfs_base.specs.declared.kind.KeyKind.TheVariants.{Text}
use Rattle.bfs_super.specs.Conditions.{natural}
use Rattle.bfs_super.specs.declared.geometry.Geometry.{Geometry}
use Rattle.bfs_bitmap.specs.Runs.{Room}
use Rattle.bfs_pages.specs.Maps.{assoc}
use Rattle.bfs_tree.specs.Listings.{key_in, key_at, listed, with_key}
use Rattle.bfs_tree.specs.Trees.{Node, Tree}
use Rattle.bfs_tree.proofs.ListMoves.{listed-ascends, listed-has, listed-put}
use Rattle.bfs_sound.specs.Volumes.{Volume}
use Rattle.bfs_shift.specs.Lists.{Lists, Agrees, with_pairs}
use Rattle.bfs_shift.specs.Stocked.{IsListing, Stocked}
use Rattle.bfs_shift.specs.Shifts.{volume_in}
use Rattle.bfs_shift.proofs.Following.{same_or_not}
use Rattle.bfs_shift.proofs.Made.{put_here, put_other, none_listed}
use Rattle.bfs_shift.proofs.Parts.{lists_at}
use Rattle.bfs_moves.specs.Laws.{IsListedMore}
use Rattle.bfs_shift.specs.Work.{IsAtWork}

module _ (tree : Tree) (id : ℕ) (node : Node) (index : List ℕ) (kind : KeyKind) (pairs : List (List ℕ × ℕ)) (absent : get tree.nodes id ≡ None) (are : pairs ≡ listed tree index kind) where
  abbrev after : Tree
  after = record tree { nodes = insert tree.nodes id node }

  pub listed_now : listed after index kind ≡ with_key kind id (key_in tree.root index kind id node) pairs
  listed_now =
      listed-put tree index kind id node
      ∙ ap (with_key kind id (key_in tree.root index kind id node)) (none_listed tree index kind id absent ∙ sym are)

  key_here : key_at after index kind id ≡ key_in tree.root index kind id node
  key_here = ap (option_and_then (key_in tree.root index kind id)) (put_here tree.nodes id node)

  key_there : (n : ℕ) → n ≢ id → key_at after index kind n ≡ key_at tree index kind n
  key_there n apart = ap (option_and_then (key_in tree.root index kind n)) (put_other tree.nodes id node n apart)

  none_before : (k : List ℕ) → Contains pairs (k, id) → ⊥
  none_before k there =
      let old : key_at tree index kind id ≡ Some k = (listed-has tree index kind k id).0 (subst (λ (l : List (List ℕ × ℕ)). Contains l (k, id)) are there) in
      let none : key_at tree index kind id ≡ None = ap (option_and_then (key_in tree.root index kind id)) absent in
      let bad : Some k ≡ None = sym old ∙ none in
      cc

  module _ (key : List ℕ) (has : key_in tree.root index kind id node ≡ Some key) where
    came : (k : List ℕ) (n : ℕ) → Contains (listed after index kind) (k, n) → Contains pairs (k, n) ⊎ ((k ≡ key) × (n ≡ id))
    came k n there = by_id (same_or_not n id)
      where
        now : key_at after index kind n ≡ Some k
        now = (listed-has after index kind k n).0 there

        by_id : (n ≡ id) ⊎ (n ≢ id) → Contains pairs (k, n) ⊎ ((k ≡ key) × (n ≡ id))
        by_id (inl e) = inr (let both : Some k ≡ Some key = sym now ∙ ap (key_at after index kind) e ∙ key_here ∙ has in (let same : k ≡ key = cc in same), e)
        by_id (inr apart) = inl (subst (λ (l : List (List ℕ × ℕ)). Contains l (k, n)) (sym are) ((listed-has tree index kind k n).1 (sym (key_there n apart) ∙ now)))

    back : (k : List ℕ) (n : ℕ) → Contains pairs (k, n) ⊎ ((k ≡ key) × (n ≡ id)) → Contains (listed after index kind) (k, n)
    back k n (inr e) = (listed-has after index kind k n).1 (ap (key_at after index kind) e.1 ∙ key_here ∙ has ∙ ap Some (sym e.0))
    back k n (inl there) = by_id (same_or_not n id)
      where
        by_id : (n ≡ id) ⊎ (n ≢ id) → Contains (listed after index kind) (k, n)
        by_id (inl e) = absurd (none_before k (subst (λ (j : ℕ). Contains pairs (k, j)) e there))
        by_id (inr apart) = (listed-has after index kind k n).1 (key_there n apart ∙ (listed-has tree index kind k n).0 (subst (λ (l : List (List ℕ × ℕ)). Contains l (k, n)) are there))

    pub listed_more : (k : List ℕ) (n : ℕ) → Contains (listed after index kind) (k, n) ↔ (Contains pairs (k, n) ⊎ ((k ≡ key) × (n ≡ id)))
    listed_more k n = (came k n, back k n)

pub node_is_listed : (tree : Tree) (lists : Lists) (id : ℕ) (node : Node) (index : List ℕ) (value : ℤ) (key : List ℕ) → get tree.nodes id ≡ None → Agrees tree lists
    → assoc Text lists.names index ≡ Some value → key_in tree.root index (lists.kinds index) id node ≡ Some key
    → IsListedMore (lists.pairs index) (listed (record tree { nodes = insert tree.nodes id node }) index (lists.kinds index)) (lists.kinds index) key id
node_is_listed tree lists id node index value key absent agrees row has =
    let i = agrees.indices index value row in
    record {
      sorted = listed-ascends (record tree { nodes = insert tree.nodes id node }) index (lists.kinds index);
      has = listed_more tree id node index (lists.kinds index) (lists.pairs index) absent i.pairs key has;
      is = listed_now tree id node index (lists.kinds index) (lists.pairs index) absent i.pairs ∙ ap (λ (o : Option (List ℕ)). with_key (lists.kinds index) id o (lists.pairs index)) has;
    }

-- the pairs of a name that no index has are not read
module _ (v : Volume) (tree : Tree) (lists : Lists) (loose : List ℕ) (name : List ℕ) (pairs : List (List ℕ × ℕ)) (none : assoc Text lists.names name ≡ None) (stocked : Stocked v tree lists loose) where
  apart_from : (index : List ℕ) (value : ℤ) → assoc Text lists.names index ≡ Some value → index ≢ name
  apart_from index value there e = let bad : Some value ≡ None = sym there ∙ ap (assoc Text lists.names) e ∙ none in cc

  pub pairs_free : Stocked v tree (with_pairs lists name pairs) loose
  pairs_free = record {
    nodes = stocked.nodes;
    rows = stocked.rows;
    directory = stocked.directory;
    names = stocked.names;
    indices = λ index value there.
        subst (λ (l : List (List ℕ × ℕ)). IsListing v (natural value) (lists.kinds index) l) (sym ((lists_at lists).pairs_elsewhere name index pairs (apart_from index value there))) (stocked.indices index value there);
    once = stocked.once;
    marks = stocked.marks;
  }

pub work_free : (g : Geometry) (v : Room) (m : ℕ → Option (List ℕ)) (tree : Tree) (lists : Lists) (loose : List ℕ) (name : List ℕ) (pairs : List (List ℕ × ℕ)) → assoc Text lists.names name ≡ None
    → IsAtWork g v m tree lists loose → IsAtWork g v m tree (with_pairs lists name pairs) loose
work_free g v m tree lists loose name pairs none work = record {
  volume = work.volume;
  fits = work.fits;
  counted = work.counted;
  stocked = pairs_free (volume_in g m) tree lists loose name pairs none work.stocked;
  told = work.told;
}
