-- What is known of an inode once it was gone over.
use Rattle.std.proofs.Common.{◌≡◌, ℕ, List, [], ◌∷◌, ◌++◌, Bool, true, false, cond, refl, sym, ap, ◌∙◌, subst, arith}
use Rattle.bfs_inode.specs.Refusals.{IsInode}
use Rattle.bfs_stream.specs.Places.{HasStream, arrays_at, places_at}
use Rattle.bfs_sound.specs.Volumes.{Volume, sizes}
use Rattle.bfs_sound.specs.Inodes.{mode_bits, inode_blocks}
use Rattle.bfs_base.specs.Lists.{times, Has}
use Rattle.bfs_claims.specs.Claims.{Claimed, AreClaimed}
use Rattle.bfs_node_check.specs.declared.role.Role.{Role}
use Rattle.bfs_node_check.specs.Roles.{IsGoodMode, is_node}
use Rattle.bfs_node_check.specs.Inodes.{IsGoodNode}
use Rattle.bfs_inode_walk.specs.Visited.{is_alone, role_blocks, IsSoundIn, IsTaken, IsHad}
use Rattle.bfs_inode_walk.specs.declared.fault.VisitFault.{VisitFault}
use Rattle.bfs_inode_walk.proofs.Claiming.{claimed_both}

module _ (v : Volume) (role : Role) (b : ℕ) where
  alone_blocks : is_alone v role b ≡ true → role_blocks v role b ≡ b ∷ []
  alone_blocks e = ap (λ (t : Bool). cond t (b ∷ []) (inode_blocks v b)) e

  whole_blocks : is_alone v role b ≡ false → role_blocks v role b ≡ inode_blocks v b
  whole_blocks e = ap (λ (t : Bool). cond t (b ∷ []) (inode_blocks v b)) e

  -- the first of its blocks is its own
  first_blocks : (t : Bool) → (rest : List ℕ) × (cond t (b ∷ []) (inode_blocks v b) ≡ b ∷ rest)
  first_blocks true = ([], refl)
  first_blocks false = (arrays_at (sizes v.geometry) v.blocks b ++ places_at (sizes v.geometry) v.blocks b, refl)

  pub taken_first : (xs : List ℕ) (fault : VisitFault) → ((rest : List ℕ) → IsTaken xs (b ∷ rest) b fault) → IsTaken xs (role_blocks v role b) b fault
  taken_first xs fault t = let f = first_blocks (is_alone v role b) in subst (λ (l : List ℕ). IsTaken xs l b fault) (sym f.1) (t f.0)

  pub taken_whole : (xs : List ℕ) (fault : VisitFault) → is_alone v role b ≡ false → IsTaken xs (inode_blocks v b) b fault → IsTaken xs (role_blocks v role b) b fault
  taken_whole xs fault e t = subst (λ (l : List ℕ). IsTaken xs l b fault) (sym (whole_blocks e)) t

  pub had_own : IsHad (role_blocks v role b) b true
  had_own = let f = first_blocks (is_alone v role b) in subst (λ (l : List ℕ). Has l b) (sym f.1) (own f.0)
    where
      own : (rest : List ℕ) → Has (b ∷ rest) b
      own rest = grind arith

  pub had_alone : (block : ℕ) → (block ≡ b → ⊥) → is_alone v role b ≡ true → IsHad (role_blocks v role b) block false
  had_alone block other e = subst (λ (l : List ℕ). times block l ≡ 0) (sym (alone_blocks e)) (grind (arith, other))

  pub had_whole : (block : ℕ) (h : Bool) → is_alone v role b ≡ false → IsHad (inode_blocks v b) block h → IsHad (role_blocks v role b) block h
  had_whole block h e t = subst (λ (l : List ℕ). IsHad l block h) (sym (whole_blocks e)) t

  pub claimed_alone : (c : Claimed) (xs : List ℕ) → is_alone v role b ≡ true → AreClaimed c (xs ++ b ∷ []) → AreClaimed c (xs ++ role_blocks v role b)
  claimed_alone c xs e a = subst (λ (l : List ℕ). AreClaimed c (xs ++ l)) (sym (alone_blocks e)) a

  pub claimed_whole : (c : Claimed) (xs : List ℕ) → is_alone v role b ≡ false → AreClaimed c ((xs ++ b ∷ []) ++ (arrays_at (sizes v.geometry) v.blocks b ++ places_at (sizes v.geometry) v.blocks b)) → AreClaimed c (xs ++ role_blocks v role b)
  claimed_whole c xs e a =
      subst (λ (l : List ℕ). AreClaimed c (xs ++ l)) (sym (whole_blocks e)) (claimed_both c xs (b ∷ []) (arrays_at (sizes v.geometry) v.blocks b ++ places_at (sizes v.geometry) v.blocks b) a)

  module _ (inode : IsInode (v.blocks b) b v.geometry.shift) (mode : IsGoodMode role (mode_bits v b)) (node : is_node role ≡ true → IsGoodNode v b) where
    pub sound_alone : is_alone v role b ≡ true → IsSoundIn v role b
    sound_alone e = record { inode = inode; mode = mode; node = node; stream = λ h. absurd (differ (sym e ∙ h)) }
      where
        differ : true ≡ false → ⊥
        differ h = cc

    pub sound_whole : HasStream (sizes v.geometry) v.blocks b → IsSoundIn v role b
    sound_whole stream = record { inode = inode; mode = mode; node = node; stream = λ h. stream }
