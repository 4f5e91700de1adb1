-- Which block a look-up through the levels blames, from what each level says.
use Rattle.std.proofs.Common.{◌≡◌, ◌≤◌, ◌<◌, ◌-◌, ℕ, List, Option, Some, inl, inr, sym, ap, ◌∙◌, subst, arith, max, ◌⊎◌}
use Rattle.std.specs.Prelude.{IfErr, OnErr}
use Rattle.std.specs.declared.result.Result.{Result}
use Rattle.std.specs.declared.result.Result.TheVariants.{Ok, Err}
use Rattle.std.proofs.lemmas.Result.{IfErr-weaker}
use Rattle.bfs_bytes.specs.declared.Run.{Run}
use Rattle.bfs_inode.specs.Inode.{stream_at}
use Rattle.bfs_txn.specs.declared.fault.BlockFault.{BlockFault}
use Rattle.bfs_txn.specs.declared.fault.BlockFault.TheVariants.{Damaged}
use Rattle.bfs_stream.specs.Sizes.{Sizes, IsInVolume, IsWhole}
use Rattle.bfs_stream.specs.Scans.{IfDamaged, IsDamagedBy, IsBlamed, IsBlamedIn, IsAstray, IsInIndirect, IsInDouble, IsUnreached, HasEnded, IsLevelDamaged, IsLevelBlamed, IsDoubleDamaged, IsDoubleBlamed, ends_of, last_end}
use Rattle.bfs_stream.specs.declared.lookup.Ends.{Ends}
use Rattle.bfs_stream.proofs.Damages.{IfDamaged-weaker}

-- of a fault that is known to blame one block
pub one_blamed : (r : Result ℕ BlockFault) (id : ℕ) (X : Type 0) (P : ℕ → Type 0) → (X → P id) → IfErr r (λ fault. fault ≡ Damaged id) → OnErr r X → IfErr r (IfDamaged P)
one_blamed (Ok x) id X P f is on = tt
one_blamed (Err fault) id X P f is on = subst (IfDamaged P) (sym is) (f on)

pub faults_weaker : (r : Result ℕ BlockFault) (P Q : ℕ → Type 0) → ((block : ℕ) → P block → Q block) → IfErr r (IfDamaged P) → IfErr r (IfDamaged Q)
faults_weaker r P Q f h = IfErr-weaker r (IfDamaged P) (IfDamaged Q) (IfDamaged-weaker P Q f) h

past_two : (d i x p : ℕ) → d ≤ p → i ≤ p → p < max (max d i) x → p < x
past_two d i x p low mid high = grind (arith, low, mid, high)

pair_of : ℕ → List ℕ → Option (ℕ × List ℕ)
pair_of k l = Some (k, l)

module _ (s : Sizes) (id : ℕ) (bytes : List ℕ) (place : ℕ) (ends : Ends) (are : ends ≡ ends_of s (stream_at bytes)) where
  in_indirect : ends.direct ≤ place → place < ends.indirect → IsInIndirect s (stream_at bytes) place
  in_indirect low high = record { low = subst (λ (x : Ends). x.direct ≤ place) are low; high = subst (λ (x : Ends). place < x.indirect) are high }

  in_double : ends.direct ≤ place → ends.indirect ≤ place → place < last_end (ends_of s (stream_at bytes)) → IsInDouble s (stream_at bytes) place
  in_double low mid high =
      let e : ends_of s (stream_at bytes) ≡ ends = sym are in
      let last : place < last_end ends = subst (λ (x : Ends). place < last_end x) e high in
      let behind : place < ends.double = past_two ends.direct ends.indirect ends.double place low mid last in record {
        low = subst (λ (x : Ends). x.direct ≤ place) are low;
        middle = subst (λ (x : Ends). x.indirect ≤ place) are mid;
        high = subst (λ (x : Ends). place < x.double) are behind;
      }

  pub astray_direct : place < ends.direct → HasEnded s (stream_at bytes).direct place → IsAstray s (stream_at bytes) place
  astray_direct low ended = inl (subst (λ (x : Ends). place < x.direct) are low, ended)

  pub astray_indirect : (array : Run) → array ≡ (stream_at bytes).indirect → ends.direct ≤ place → place < ends.indirect → ¬ IsInVolume s array → IsAstray s (stream_at bytes) place
  astray_indirect array is low high none = inr (inl (in_indirect low high, λ inside. none (subst (IsInVolume s) (sym is) inside)))

  pub astray_double : (array : Run) → array ≡ (stream_at bytes).double_indirect → ends.direct ≤ place → ends.indirect ≤ place → place < last_end (ends_of s (stream_at bytes)) → ¬ IsWhole s array → IsAstray s (stream_at bytes) place
  astray_double array is low mid high none = inr (inr (in_double low mid high, inl (λ whole. none (subst (IsWhole s) (sym is) whole))))

  astray_far : ends.direct ≤ place → ends.indirect ≤ place → place < last_end (ends_of s (stream_at bytes)) → IsUnreached s (place - ends.indirect) → IsAstray s (stream_at bytes) place
  astray_far low mid high far = inr (inr (in_double low mid high, inr (subst (λ (x : Ends). IsUnreached s (place - x.indirect)) are far)))

  -- the inode is blamed, whose bytes were read last
  pub inode_blamed : (last : Option (ℕ × List ℕ)) (block : ℕ) → block ≡ id → last ≡ Some (id, bytes) → IsAstray s (stream_at bytes) place
      → (l : List ℕ) × (last ≡ Some (block, l)) × (((block ≡ id) × IsAstray s (stream_at l) place) ⊎ IsBlamedIn s id (stream_at bytes) place block l)
  unfolding pair_of
  inode_blamed last block is read astray = (bytes, read ∙ ap (λ (k : ℕ). pair_of k bytes) (sym is), inl (is, astray))

  -- the indirect level has the place
  module _ (array : Run) (is : array ≡ (stream_at bytes).indirect) (low : ends.direct ≤ place) (high : place < ends.indirect) (held : IsInVolume s array) where
    pub level_damaged : (m : ℕ → Option (List ℕ)) (r : Result ℕ BlockFault) → IfErr r (IfDamaged (IsLevelDamaged s m id array (place - ends.direct))) → IfErr r (IsDamagedBy s m id (stream_at bytes) place)
    level_damaged m r h =
        faults_weaker r (IsLevelDamaged s m id array (place - ends.direct)) _
        (λ block d. inr (inl (in_indirect low high, subst (IsInVolume s) is held, subst (λ (x : Run × Ends). IsLevelDamaged s m id x.0 (place - x.1.direct) block) (λ i. (is i, are i)) d))) h

    pub level_blamed : (last : Option (ℕ × List ℕ)) (r : Result ℕ BlockFault) → IfErr r (IfDamaged (λ block. (l : List ℕ) × (last ≡ Some (block, l)) × IsLevelBlamed s id array (place - ends.direct) block l)) → IfErr r (IsBlamed s last id (stream_at bytes) place)
    level_blamed last r h =
        faults_weaker r (λ block. (l : List ℕ) × (last ≡ Some (block, l)) × IsLevelBlamed s id array (place - ends.direct) block l) _
        (λ block d. (d.0, d.1, inr (inl (in_indirect low high, subst (IsInVolume s) is held, subst (λ (x : Run × Ends). IsLevelBlamed s id x.0 (place - x.1.direct) block d.0) (λ i. (is i, are i)) d.2)))) h

  -- the double indirect level has the place
  module _ (array : Run) (is : array ≡ (stream_at bytes).double_indirect) (low : ends.direct ≤ place) (mid : ends.indirect ≤ place) (high : place < last_end (ends_of s (stream_at bytes))) (whole : IsWhole s array) where
    near : ¬ IsUnreached s (place - ends.indirect) → ¬ IsUnreached s (place - (ends_of s (stream_at bytes)).indirect)
    near no_far far = no_far (subst (λ (x : Ends). IsUnreached s (place - x.indirect)) (sym are) far)

    pub double_damaged : (m : ℕ → Option (List ℕ)) (r : Result ℕ BlockFault)
        → IfErr r (IfDamaged (λ block. ((block ≡ id) × IsUnreached s (place - ends.indirect)) ⊎ ((¬ IsUnreached s (place - ends.indirect)) × IsDoubleDamaged s m array (place - ends.indirect) block)))
        → IfErr r (IsDamagedBy s m id (stream_at bytes) place)
    double_damaged m r h =
        faults_weaker r (λ block. ((block ≡ id) × IsUnreached s (place - ends.indirect)) ⊎ ((¬ IsUnreached s (place - ends.indirect)) × IsDoubleDamaged s m array (place - ends.indirect) block)) _ by_side h
      where
        by_side : (block : ℕ) → ((block ≡ id) × IsUnreached s (place - ends.indirect)) ⊎ ((¬ IsUnreached s (place - ends.indirect)) × IsDoubleDamaged s m array (place - ends.indirect) block)
            → ((block ≡ id) × IsAstray s (stream_at bytes) place)
            ⊎ ((IsInIndirect s (stream_at bytes) place × IsInVolume s (stream_at bytes).indirect × IsLevelDamaged s m id (stream_at bytes).indirect (place - (ends_of s (stream_at bytes)).direct) block)
            ⊎ (IsInDouble s (stream_at bytes) place × IsWhole s (stream_at bytes).double_indirect × (¬ IsUnreached s (place - (ends_of s (stream_at bytes)).indirect)) × IsDoubleDamaged s m (stream_at bytes).double_indirect (place - (ends_of s (stream_at bytes)).indirect) block))
        by_side block (inl d) = inl (d.0, astray_far low mid high d.1)
        by_side block (inr d) = inr (inr (in_double low mid high, subst (IsWhole s) is whole, near d.0, subst (λ (x : Run × Ends). IsDoubleDamaged s m x.0 (place - x.1.indirect) block) (λ i. (is i, are i)) d.1))

    pub double_blamed : (old last : Option (ℕ × List ℕ)) (r : Result ℕ BlockFault) → old ≡ Some (id, bytes)
        → IfErr r (IfDamaged (λ block. ((block ≡ id) × (last ≡ old) × IsUnreached s (place - ends.indirect)) ⊎ ((l : List ℕ) × (last ≡ Some (block, l)) × (¬ IsUnreached s (place - ends.indirect)) × IsDoubleBlamed s array (place - ends.indirect) block l)))
        → IfErr r (IsBlamed s last id (stream_at bytes) place)
    double_blamed old last r read h =
        faults_weaker r (λ block. ((block ≡ id) × (last ≡ old) × IsUnreached s (place - ends.indirect)) ⊎ ((l : List ℕ) × (last ≡ Some (block, l)) × (¬ IsUnreached s (place - ends.indirect)) × IsDoubleBlamed s array (place - ends.indirect) block l)) _ by_side h
      where
        by_side : (block : ℕ) → ((block ≡ id) × (last ≡ old) × IsUnreached s (place - ends.indirect)) ⊎ ((l : List ℕ) × (last ≡ Some (block, l)) × (¬ IsUnreached s (place - ends.indirect)) × IsDoubleBlamed s array (place - ends.indirect) block l)
            → (l : List ℕ) × (last ≡ Some (block, l)) × (((block ≡ id) × IsAstray s (stream_at l) place) ⊎ IsBlamedIn s id (stream_at bytes) place block l)
        by_side block (inl d) = inode_blamed last block d.0 (d.1 ∙ read) (astray_far low mid high d.2)
        by_side block (inr d) = (d.0, d.1, inr (inr (in_double low mid high, subst (IsWhole s) is whole, near d.2, subst (λ (x : Run × Ends). IsDoubleBlamed s x.0 (place - x.1.indirect) block d.0) (λ i. (is i, are i)) d.3)))
