-- What is wrong with a tree is a finding on its inode.
use Rattle.std.proofs.Common.{◌≡◌, ◌≢◌, ◌⊎◌, ◌%◌, ◌∙◌, inl, inr, ℕ, ℤ, length, refl, ap, subst, sym}
use Rattle.bfs_base.specs.declared.kind.KeyKind.{KeyKind}
use Rattle.bfs_node.specs.Header.{code_of}
use Rattle.bfs_pages.specs.Trees.{header_in}
use Rattle.bfs_sound.specs.Volumes.{Volume}
use Rattle.bfs_sound.specs.Inodes.{content}
use Rattle.bfs_finding.specs.declared.finding.PagePart.{PagePart}
use Rattle.bfs_finding.specs.declared.finding.PagePart.TheVariants as parts
use Rattle.bfs_finding.specs.declared.finding.Finding.TheVariants as finds
use Rattle.bfs_finding.specs.Ways.{HasNames, IsListed}
use Rattle.bfs_finding.specs.TreeFaults.{IsPageFault, IsLinkFault, IsOrderFault, HasTree, IsHeaderFault, IsTreePageFault, no_magic, no_size, no_names}
use Rattle.bfs_finding.specs.Findings.{IsBroken, IsStreamOf}
use Rattle.bfs_walk.specs.declared.fault.WalkFault.{WalkFault}
use Rattle.bfs_walk.specs.declared.fault.WalkFault.TheVariants as walk
use Rattle.bfs_walk.specs.Wrong.{IsWalkCause}
use Rattle.bfs_tree_check.specs.Amiss.{IsTopFault, no_magic as top_magic, no_size as top_size, other_size, other_kind}

-- a stream that isn't of whole pages has no tree
pub size_broken : (v : Volume) (b : ℕ) → HasNames v b ⊎ IsListed v b → IsStreamOf v b → length (content v b) % 1024 ≢ 0 → IsBroken v (finds.TreePage b 0 parts.Size)
size_broken v b either stream h = (stream, inl (refl, no_size either (inr (inr h)) refl))

module _ (v : Volume) (b : ℕ) (kind : KeyKind) (has : HasTree v b kind) where
  either_of : HasTree v b kind → HasNames v b ⊎ IsListed v b
  either_of (inl h) = inl h.0
  either_of (inr h) = inr h.0

  -- another kind than that of the tree
  kind_fault : (part : PagePart) → HasTree v b kind → (header_in (content v b)).data_type ≢ code_of kind → part ≡ parts.Kind → IsHeaderFault v b part
  kind_fault part (inl h) other e = no_names h.0 (λ same. other (same ∙ ap code_of (sym h.1))) e
  kind_fault part (inr h) other e = absurd (other h.2)

  top : (part : PagePart) → IsTopFault kind (content v b) part → IsHeaderFault v b part
  top part (top_magic h e) = no_magic (either_of has) h e
  top part (top_size h e) = no_size (either_of has) (inl h) e
  top part (other_size h e) = no_size (either_of has) (inr (inl h)) e
  top part (other_kind h e) = kind_fault part has h e

  page_amiss : (page : ℕ) (part : PagePart) → IsPageFault kind (content v b) page part ⊎ ((page ≡ 0) × IsTopFault kind (content v b) part) → IsTreePageFault v b page part
  page_amiss page part (inl h) = inr (kind, has, h)
  page_amiss page part (inr h) = inl (h.0, top part h.1)

  module _ (stream : IsStreamOf v b) where
    pub page_broken : (page : ℕ) (part : PagePart) → IsPageFault kind (content v b) page part ⊎ ((page ≡ 0) × IsTopFault kind (content v b) part) → IsBroken v (finds.TreePage b page part)
    page_broken page part h = (stream, page_amiss page part h)

    pub link_broken : (page : ℕ) (found wanted seen asked : ℤ) → seen ≡ found → asked ≡ wanted → IsLinkFault kind (content v b) page found wanted → IsBroken v (finds.TreeLink b page seen asked)
    link_broken page found wanted seen asked same as_wanted h =
        subst (λ (z : ℤ). IsBroken v (finds.TreeLink b page z asked)) (sym same) (subst (λ (z : ℤ). IsBroken v (finds.TreeLink b page found z)) (sym as_wanted) (stream, (kind, has, h)))

    pub order_broken : (page index : ℕ) → IsOrderFault kind (content v b) page index → IsBroken v (finds.TreeOrder b page index)
    order_broken page index h = (stream, (kind, has, h))

-- a cause follows from another
pub walk_weaker : {F : Type 0} (A B : F → Type 0) → ((f : F) → A f → B f) → (fault : WalkFault F) → IsWalkCause A fault → IsWalkCause B fault
walk_weaker A B w (walk.Wrong wrong) c = tt
walk_weaker A B w (walk.Pages fault) c = w fault c
walk_weaker A B w walk.NoMemory c = tt
