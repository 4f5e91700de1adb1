-- The parts of what is reached: which blocks are metadata, and that no two nodes share one.
use Rattle.std.proofs.Common.{◌≡◌, ◌≢◌, ◌<◌, ◌≤◌, ◌+◌, ⊎_elim, inl, inr, ℕ, ℤ, List, [], ◌∷◌, ◌++◌, Some, None, true, false, cond, refl, sym, ap, ◌∙◌, arith}
use Rattle.std.specs.List.{flat_map}
use Rattle.std.specs.Ordering.{nat_cmp, eq_by_cmp}
use Rattle.std.specs.FinMap.{FinMap, find, get, entries, get-entries}
use Rattle.std.proofs.lemmas.Grind.{common_steps}
use Rattle.bfs_base.specs.Lists.{times, Agree, IsOnce, ChangesAt}
use Rattle.bfs_base.specs.declared.kind.KeyKind.{KeyKind}
use Rattle.bfs_node.specs.Page.{Row}
use Rattle.bfs_values.specs.Maps.{assoc}
use Rattle.bfs_values.specs.Order.{same_keys}
use Rattle.bfs_stream.proofs.Doubles.{times-append}
use Rattle.bfs_tree.specs.Trees.{Node, Tree, IsNode, HasBuiltIn, IsPlain}
use Rattle.bfs_sound.specs.Volumes.{Volume, bitmap_blocks}
use Rattle.bfs_sound.specs.Listings.{Stands}
use Rattle.bfs_sound.specs.Owners.{node_blocks, index_blocks, fixed_blocks, reach, data_blocks, file_data, IsMetadata, Accounts, In}
use Rattle.bfs_sound.specs.Whole.{HasIndices, IsSound}
use Rattle.bfs_sound.proofs.Counts.{times_two, times_split, agree_member}
use Rattle.bfs_sound.proofs.Nodes.{node_metadata, node_split}

-- a node of a tree stands among its entries
same_number : (a b : ℕ) → eq_by_cmp nat_cmp a b ≡ true → a ≡ b
same_number a b h = grind (arith, common_steps, h)

in_found : {X : Type 0} (q : ℕ) (x : X) (es : List (ℕ × X)) → find nat_cmp q es ≡ Some x → In (q, x) es
in_found q x [] e = absurd (let bad : None ≡ Some x = e in cc)
in_found q x (r ∷ es) e =
    elim (eq_by_cmp nat_cmp q r.0) as (λ b. eq_by_cmp nat_cmp q r.0 ≡ b → cond b (Some r.1) (find nat_cmp q es) ≡ Some x → In (q, x) (r ∷ es)) [
      | true ↦ λ t is. let p : q ≡ r.0 = same_number q r.0 t in let s : r.1 ≡ x = cc in inl (λ i. (p i, sym s i))
      | false ↦ λ t is. inr (in_found q x es is)
    ] refl e

pub in_entries : {X : Type 0} (m : FinMap nat_cmp X) (q : ℕ) (x : X) → get m q ≡ Some x → In (q, x) (entries m)
in_entries m q x is = in_found q x (entries m) (sym (get-entries m q) ∙ is)

-- a row that a key finds
pub in_rows : (kind : KeyKind) (rows : List Row) (name : List ℕ) (value : ℤ) → assoc kind rows name ≡ Some value → (row : Row) × In row rows × (row.1 ≡ value)
in_rows kind [] name value e = absurd (let bad : None ≡ Some value = e in cc)
in_rows kind (r ∷ rs) name value e =
    elim (same_keys kind name r.0) as (λ b. cond b (Some r.1) (assoc kind rs name) ≡ Some value → (row : Row) × In row (r ∷ rs) × (row.1 ≡ value)) [
      | true ↦ λ is. (r, inl refl, (let s : r.1 ≡ value = cc in s))
      | false ↦ λ is. let more : (row : Row) × In row rs × (row.1 ≡ value) = in_rows kind rs name value is in (more.0, inr more.1, more.2)
    ] e

module _ (v : Volume) (tree : Tree) where
  abbrev nodes : List ℕ
  nodes = flat_map (node_blocks v) (entries tree.nodes)

  abbrev metadata : List ℕ
  metadata = flat_map (node_metadata v) (entries tree.nodes)

  pub reach_parts : (k : ℕ) → times k (reach v tree) ≡ times k (fixed_blocks v) + (times k (bitmap_blocks v.geometry) + (times k nodes + times k (index_blocks v)))
  reach_parts k =
      let a = times-append k (fixed_blocks v) (bitmap_blocks v.geometry ++ (nodes ++ index_blocks v)) in
      let b = times-append k (bitmap_blocks v.geometry) (nodes ++ index_blocks v) in
      let c = times-append k nodes (index_blocks v) in
      omega (arith, a, b, c)

  nodes_split : (k : ℕ) → times k nodes ≡ times k metadata + times k (file_data v tree)
  nodes_split k = times_split k (node_blocks v) (node_metadata v) (data_blocks v) (entries tree.nodes) (node_split v k)

  module _ (once : IsOnce (reach v tree)) (new : ℕ → List ℕ)
      (same : (k : ℕ) → IsMetadata v tree k → times k (fixed_blocks v) ≡ 0 → new k ≡ v.blocks k) where
    -- a block that is reached once, and there neither as block 0 or the log's nor as file data
    one_part : (k : ℕ) → 1 ≤ times k (bitmap_blocks v.geometry) + (times k metadata + times k (index_blocks v)) → new k ≡ v.blocks k
    one_part k some =
        let parts = reach_parts k in
        let split = nodes_split k in
        let most : times k (reach v tree) ≤ 1 = once k in
        same k (omega (arith, parts, split, some), omega (arith, parts, split, most, some)) (omega (arith, parts, split, most, some))

    pub bitmap_agrees : Agree v.blocks new (bitmap_blocks v.geometry)
    bitmap_agrees k h = let some : 0 < times k (bitmap_blocks v.geometry) = h in one_part k (omega (arith, some))

    pub index_agrees : Agree v.blocks new (index_blocks v)
    index_agrees k h = let some : 0 < times k (index_blocks v) = h in one_part k (omega (arith, some))

    pub metadata_agrees : Agree v.blocks new metadata
    metadata_agrees k h = let some : 0 < times k metadata = h in one_part k (omega (arith, some))

    pub node_agrees : (id : ℕ) (n : Node) → IsNode tree id n → Agree v.blocks new (node_metadata v (id, n))
    node_agrees id n is = agree_member v.blocks new (node_metadata v) (entries tree.nodes) (id, n) (in_entries tree.nodes id n is) metadata_agrees

  -- two nodes share no block
  pub nodes_apart : IsOnce (reach v tree) → (a b : ℕ) (m n : Node) → IsNode tree a m → IsNode tree b n → a ≢ b → (k : ℕ) → times k (node_blocks v (a, m)) + times k (node_blocks v (b, n)) ≤ 1
  nodes_apart once a b m n is too other k =
      let parts = reach_parts k in
      let most : times k (reach v tree) ≤ 1 = once k in
      let two : times k (node_blocks v (a, m)) + times k (node_blocks v (b, n)) ≤ times k nodes =
      times_two k (node_blocks v) (entries tree.nodes) (a, m) (b, n) (in_entries tree.nodes a m is) (in_entries tree.nodes b n too) (λ e. other (ap (λ (p : ℕ × Node). p.0) e)) in
      omega (arith, parts, most, two)

  pub other_agrees : IsOnce (reach v tree) → (new : ℕ → List ℕ) (a b : ℕ) (m n : Node) → IsNode tree a m → IsNode tree b n → a ≢ b → ChangesAt v.blocks new (node_blocks v (a, m))
      → Agree v.blocks new (node_metadata v (b, n))
  other_agrees once new a b m n is too other changes k h =
      let some : 0 < times k (node_metadata v (b, n)) = h in
      let split = node_split v k (b, n) in
      let apart = nodes_apart once a b m n is too other k in
      changes k (omega (arith, some, split, apart))

-- a sound volume with an index directory has the built-in indices
pub built_in_there : (v : Volume) (tree : Tree) → IsSound v tree → v.geometry.indices ≢ 0 → HasBuiltIn tree.indices
built_in_there v tree sound some = ⊎_elim (λ none. absurd (some (sound.nodes.stands.none.1 none))) (λ there. there) sound.indices.plain

-- what is sound by a plain tree, what stands, what is listed and accounts, and back
pub sound_from : (v : Volume) (tree : Tree) → IsPlain tree → Stands v tree → HasIndices v tree → Accounts v (reach v tree) → IsSound v tree
sound_from v tree plain stands listed accounts = record {
  nodes = record { plain = plain.nodes; stands = stands; once = accounts.once };
  indices = record { plain = plain.indices; listed = listed };
  bits = accounts.marks;
  used = accounts.used;
}

pub plain_in : (v : Volume) (tree : Tree) → IsSound v tree → IsPlain tree
plain_in v tree sound = record { nodes = sound.nodes.plain; indices = sound.indices.plain }

pub accounts_in : (v : Volume) (tree : Tree) → IsSound v tree → Accounts v (reach v tree)
accounts_in v tree sound = record { once = sound.nodes.once; marks = sound.bits; used = sound.used }
