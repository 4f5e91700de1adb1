-- The law of owners.
use Rattle.std.proofs.Common.{◌≡◌, ◌≢◌, ◌≤◌, ◌<◌, ◌+◌, inl, inr, ℕ, zero, suc, List, [], ◌∷◌, ◌++◌, Bool, true, false, refl, sym, ap, ap₂, ◌∙◌, subst, arith, map}
use Rattle.std.specs.List.{flat_map}
use Rattle.std.specs.FinMap.{entries}
use Rattle.std.proofs.lemmas.Grind.{flat_map-append}
use Rattle.std.proofs.lemmas.List.Folds.{flat_map-map}
use Rattle.bfs_base.specs.Lists.{times, Has, IsOnce, Agree}
use Rattle.bfs_base.specs.declared.kind.KeyKind.{KeyKind}
use Rattle.bfs_stream.proofs.Doubles.{times-append}
use Rattle.bfs_stream.proofs.Frames.{agree_first}
use Rattle.bfs_tree.specs.Trees.{Node, Tree, IsNode}
use Rattle.bfs_values.specs.Reached.{IsWholeTree}
use Rattle.bfs_sound.specs.Volumes.{Volume, bitmap_blocks}
use Rattle.bfs_sound.specs.Inodes.{inode_blocks, inodes_of, index_directory}
use Rattle.bfs_sound.specs.Attributes.{attribute_directory, attribute_inodes}
use Rattle.bfs_sound.specs.Owners.{own_blocks, node_blocks, index_blocks, fixed_blocks, reach, Owner, owner_blocks, with_streams, node_owners, owners, owned, In}
use Rattle.bfs_sound.specs.Laws.{changed}
use Rattle.bfs_sound.specs.OwnerLaws.{AreApart, StaysStream, StaysOwner, StaysWhole, KeepsOthers}
use Rattle.bfs_sound.proofs.Counts.{in_left, in_flat, has_member, times_member, times_two}
use Rattle.bfs_sound.proofs.Streams.{frame_of_whole, block_stays, blocks_stay, owner_stays, content_stays, rows_stay}
use Rattle.bfs_sound.proofs.Rows.{mode_stays}
use Rattle.bfs_sound.proofs.Nodes.{node_metadata, node_split, node_stays, node_blocks_stay, node_owners_stay}
use Rattle.bfs_sound.proofs.Parts.{in_entries}

module _ (v : Volume) where
  streams_blocks : (ids : List ℕ) → flat_map (inode_blocks v) ids ≡ flat_map (owner_blocks v) (with_streams ids)
  streams_blocks ids = sym (flat_map-map (owner_blocks v) (λ id. (id, false)) ids)

  pub node_by_owners : (e : ℕ × Node) → node_blocks v e ≡ flat_map (owner_blocks v) (node_owners v e)
  unfolding node_blocks node_owners
  node_by_owners e = ap (λ l. own_blocks v e ++ l) (streams_blocks (attribute_inodes v (attribute_directory v e.0)))

  all_by_owners : (es : List (ℕ × Node)) → flat_map (node_blocks v) es ≡ flat_map (owner_blocks v) (flat_map (node_owners v) es)
  all_by_owners [] = refl
  all_by_owners (e ∷ es) = ap₂ (λ a b. a ++ b) (node_by_owners e) (all_by_owners es) ∙ sym (flat_map-append (owner_blocks v) (node_owners v e) (flat_map (node_owners v) es))

  index_by_owners : index_blocks v ≡ flat_map (owner_blocks v) (with_streams (inodes_of v (index_directory v)))
  unfolding index_blocks
  index_by_owners = streams_blocks (inodes_of v (index_directory v))

  pub reach_by_owners : (tree : Tree) → reach v tree ≡ fixed_blocks v ++ (bitmap_blocks v.geometry ++ owned v tree)
  unfolding owners owned
  reach_by_owners tree =
      ap (λ l. fixed_blocks v ++ (bitmap_blocks v.geometry ++ l))
      (ap₂ (λ a b. a ++ b) (all_by_owners (entries tree.nodes)) index_by_owners
      ∙ sym (flat_map-append (owner_blocks v) (flat_map (node_owners v) (entries tree.nodes)) (with_streams (inodes_of v (index_directory v)))))

  -- an owner has its own number among its blocks
  number_low : (k id : ℕ) (alone : Bool) → times k (id ∷ []) ≤ times k (owner_blocks v (id, alone))
  number_low k id true = omega arith
  number_low k id false = omega arith

  numbers_low : (k : ℕ) (os : List Owner) → times k (map (λ (o : Owner). o.0) os) ≤ times k (flat_map (owner_blocks v) os)
  numbers_low k [] = omega arith
  numbers_low k (o ∷ os) =
      let first : times k (o.0 ∷ []) ≤ times k (owner_blocks v o) = number_low k o.0 o.1 in
      let rest : times k (map (λ (o : Owner). o.0) os) ≤ times k (flat_map (owner_blocks v) os) = numbers_low k os in
      let both : times k (owner_blocks v o ++ flat_map (owner_blocks v) os) ≡ times k (owner_blocks v o) + times k (flat_map (owner_blocks v) os) = times-append k (owner_blocks v o) (flat_map (owner_blocks v) os) in
      omega (arith, first, rest, both)

  module _ (tree : Tree) (once : IsOnce (reach v tree)) where
    parts : (k : ℕ) → times k (fixed_blocks v) + (times k (bitmap_blocks v.geometry) + times k (owned v tree)) ≤ 1
    parts k =
        let most : times k (reach v tree) ≤ 1 = once k in
        let same : times k (reach v tree) ≡ times k (fixed_blocks v ++ (bitmap_blocks v.geometry ++ owned v tree)) = ap (times k) (reach_by_owners tree) in
        let a = times-append k (fixed_blocks v) (bitmap_blocks v.geometry ++ owned v tree) in
        let b = times-append k (bitmap_blocks v.geometry) (owned v tree) in
        omega (arith, most, same, a, b)

    two_apart : (a b : Owner) → In a (owners v tree) → In b (owners v tree) → a.0 ≢ b.0 → (k : ℕ) → times k (owner_blocks v a) + times k (owner_blocks v b) ≤ 1
    unfolding owned
    two_apart a b is too other k =
        let most = parts k in
        let two : times k (owner_blocks v a) + times k (owner_blocks v b) ≤ times k (flat_map (owner_blocks v) (owners v tree)) =
        times_two k (owner_blocks v) (owners v tree) a b is too (λ e. other (ap (λ (o : Owner). o.0) e)) in
        omega (arith, most, two)

    numbers_once : IsOnce (map (λ (o : Owner). o.0) (owners v tree))
    unfolding owned
    numbers_once k =
        let most = parts k in
        let low : times k (map (λ (o : Owner). o.0) (owners v tree)) ≤ times k (flat_map (owner_blocks v) (owners v tree)) = numbers_low k (owners v tree) in
        omega (arith, most, low)

    fixed_apart : (a : Owner) → In a (owners v tree) → (k : ℕ) → times k (owner_blocks v a) + times k (fixed_blocks v ++ bitmap_blocks v.geometry) ≤ 1
    unfolding owned
    fixed_apart a is k =
        let most = parts k in
        let one : times k (owner_blocks v a) ≤ times k (flat_map (owner_blocks v) (owners v tree)) = times_member k (owner_blocks v) (owners v tree) a is in
        let both = times-append k (fixed_blocks v) (bitmap_blocks v.geometry) in
        omega (arith, most, one, both)

    pub owners_apart : AreApart v tree
    owners_apart = record { numbers = numbers_once; blocks = two_apart; fixed = fixed_apart }

  module _ (new : ℕ → List ℕ) (used : ℕ) where
    abbrev w : Volume
    w = changed v new used

    stream_stays : (id : ℕ) → Agree v.blocks new (inode_blocks v id) → StaysStream v w id
    stream_stays id agree =
        let frame = frame_of_whole v new used id agree in
        record {
          owner = owner_stays v new used id frame;
          bytes = content_stays v new used id agree;
          rows = rows_stay v new used id agree;
          index = λ (kind : KeyKind) i. record {
            owner = owner_stays v new used id frame i.owner;
            mode = mode_stays v new used id 29 (block_stays v new used id frame) i.mode;
            kind_is = i.kind_is;
            tree = subst (IsWholeTree kind) (sym (content_stays v new used id agree)) i.tree;
          };
        }

    at_owner : (id : ℕ) (alone : Bool) → Agree v.blocks new (owner_blocks v (id, alone)) → StaysOwner v w (id, alone)
    at_owner id true agree = record { blocks = refl; inode = agree_first v.blocks new id [] agree; stream = λ bad. absurd (let e : true ≡ false = bad in cc) }
    at_owner id false agree =
        let frame = frame_of_whole v new used id agree in
        record { blocks = blocks_stay v new used id frame; inode = block_stays v new used id frame; stream = λ e. stream_stays id agree }

    pub owner_as_it_is : (o : Owner) → Agree v.blocks new (owner_blocks v o) → StaysOwner v w o
    owner_as_it_is o agree = at_owner o.0 o.1 agree

    whole_node : (id : ℕ) (n : Node) → Agree v.blocks new (node_blocks v (id, n)) → StaysWhole v w id n
    whole_node id n agree =
        let metadata : Agree v.blocks new (node_metadata v (id, n)) = λ k h. agree k (let some : 0 < times k (node_metadata v (id, n)) = h in let split = node_split v k (id, n) in omega (arith, some, split)) in
        record { node = node_stays v new used id n metadata; owners = node_owners_stay v new used id n metadata; blocks = node_blocks_stay v new used id n metadata }

    module _ (tree : Tree) (a : Owner) (once : IsOnce (reach v tree)) (is : In a (owners v tree))
        (stays : (k : ℕ) → Has (owned v tree) k → times k (owner_blocks v a) ≡ 0 → new k ≡ v.blocks k) where
      agrees : (b : Owner) → In b (owners v tree) → b.0 ≢ a.0 → Agree v.blocks new (owner_blocks v b)
      unfolding owned
      agrees b too other k h =
          let some : 0 < times k (owner_blocks v b) = h in
          let apart : times k (owner_blocks v b) + times k (owner_blocks v a) ≤ 1 = two_apart tree once b a too is other k in
          stays k (has_member (owner_blocks v) (owners v tree) b k too h) (omega (arith, some, apart))

      all_agree : (os : List Owner) → ((o : Owner) → In o os → Agree v.blocks new (owner_blocks v o)) → Agree v.blocks new (flat_map (owner_blocks v) os)
      all_agree [] each k h = absurd (let none : 0 < 0 = h in omega (arith, none))
      all_agree (o ∷ os) each k h = by (times k (owner_blocks v o)) refl (λ some. all_agree os (λ p i. each p (inr i)) k some)
        where
          by : (c : ℕ) → times k (owner_blocks v o) ≡ c → (Has (flat_map (owner_blocks v) os) k → new k ≡ v.blocks k) → new k ≡ v.blocks k
          by zero e rest =
              let some : 0 < times k (owner_blocks v o ++ flat_map (owner_blocks v) os) = h in
              let both = times-append k (owner_blocks v o) (flat_map (owner_blocks v) os) in
              rest (omega (arith, some, both, e))
          by (suc c) e rest = each o (inl refl) k (omega (arith, e))

      in_owners : (id : ℕ) (n : Node) → IsNode tree id n → (o : Owner) → In o (node_owners v (id, n)) → In o (owners v tree)
      unfolding owners
      in_owners id n there o i = in_left (flat_map (node_owners v) (entries tree.nodes)) (with_streams (inodes_of v (index_directory v))) o
          (in_flat (node_owners v) (entries tree.nodes) (id, n) (in_entries tree.nodes id n there) o i)

      pub others_as_they_are : KeepsOthers v w tree a
      others_as_they_are = record {
        owner = λ b too other. owner_as_it_is b (agrees b too other);
        node = λ id n there apart.
            whole_node id n (subst (Agree v.blocks new) (sym (node_by_owners (id, n)))
            (all_agree (node_owners v (id, n)) (λ o i. agrees o (in_owners id n there o i) (apart o i))));
      }
