-- What is said of an index is true of the volume.
use Rattle.std.proofs.Common.{◌≡◌, ℕ, List, sym, subst, subst₂}
use Rattle.bfs_base.specs.declared.kind.KeyKind.{KeyKind}
use Rattle.bfs_node.specs.Search.{IsSought}
use Rattle.bfs_tree.specs.Listings.{listed, kind_of_key, bytes_of_key}
use Rattle.bfs_tree.specs.Trees.{Tree}
use Rattle.bfs_tree.specs.declared.rows.Key.{Key}
use Rattle.bfs_sound.specs.Volumes.{Volume}
use Rattle.bfs_sound.specs.Owners.{In}
use Rattle.bfs_finding.specs.declared.finding.Finding.{Finding}
use Rattle.bfs_finding.specs.declared.finding.Finding.TheVariants.{RowMissing, RowExtra}
use Rattle.bfs_finding.specs.Findings.{IsIndexAt, pairs_at, IsUnlisted}
use Rattle.bfs_index_check.specs.Compared.{Pair, IsDifference}
use Rattle.bfs_index_check.specs.Laws.{AreSought}
use Rattle.bfs_index_check.proofs.KeysBack.{kind_back, bytes_back}

module _ (v : Volume) (tree : Tree) (index : List ℕ) (kind : KeyKind) (id : ℕ) (at : IsIndexAt v tree index kind id) (wanted_keys : AreSought kind (listed tree index kind)) (found_keys : AreSought kind (pairs_at v kind id)) where
  -- by the key's kind and bytes
  by_kind : (key : Key) (number : ℕ) (In₁ In₂ : KeyKind → List ℕ → Type 0) (k : KeyKind) (b : List ℕ) → kind_of_key key ≡ k → bytes_of_key key ≡ b → IsIndexAt v tree index k id → In₁ k b → (In₂ k b → ⊥)
      → IsIndexAt v tree index (kind_of_key key) id × In₁ (kind_of_key key) (bytes_of_key key) × (In₂ (kind_of_key key) (bytes_of_key key) → ⊥)
  by_kind key number In₁ In₂ k b same_kind same_bytes there one two =
      subst₂ (λ (x : KeyKind) (y : List ℕ). IsIndexAt v tree index x id × In₁ x y × (In₂ x y → ⊥)) (sym same_kind) (sym same_bytes) (there, one, two)

  pub said : (finding : Finding) → IsDifference index kind (listed tree index kind) (pairs_at v kind id) finding → IsUnlisted v tree finding
  said (RowMissing name key number) (named, (bytes, fits, is, wanted, lacks)) =
      let sought : IsSought kind bytes = wanted_keys (bytes, number) wanted in
      let same_kind : kind_of_key key ≡ kind = subst (λ k. kind_of_key k ≡ kind) (sym is) (kind_back kind bytes sought) in
      let same_bytes : bytes_of_key key ≡ bytes = subst (λ k. bytes_of_key k ≡ bytes) (sym is) (bytes_back kind bytes sought fits) in
      let r = by_kind key number (λ k b. In {X = Pair} (b, number) (listed tree index k)) (λ k b. In {X = Pair} (b, number) (pairs_at v k id)) kind bytes same_kind same_bytes at wanted lacks in
      subst (λ (n : List ℕ). IsUnlisted v tree (RowMissing n key number)) (sym named) (id, r.0, r.1, r.2)
  said (RowExtra name key number) (named, (bytes, fits, is, found, lacks)) =
      let sought : IsSought kind bytes = found_keys (bytes, number) found in
      let same_kind : kind_of_key key ≡ kind = subst (λ k. kind_of_key k ≡ kind) (sym is) (kind_back kind bytes sought) in
      let same_bytes : bytes_of_key key ≡ bytes = subst (λ k. bytes_of_key k ≡ bytes) (sym is) (bytes_back kind bytes sought fits) in
      let r = by_kind key number (λ k b. In {X = Pair} (b, number) (pairs_at v k id)) (λ k b. In {X = Pair} (b, number) (listed tree index k)) kind bytes same_kind same_bytes at found lacks in
      subst (λ (n : List ℕ). IsUnlisted v tree (RowExtra n key number)) (sym named) (id, r.0, r.1, r.2)
  said _ h = absurd h
