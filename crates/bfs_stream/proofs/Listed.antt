-- What the ranges say of the double indirect level.
use Rattle.std.proofs.Common.{◌≡◌, ◌<◌, ◌+◌, ◌-◌, ◌*◌, ◌/◌, ◌∙◌, ◌⊎◌, inl, inr, ℕ, List, length, get_or, Option, sym, ap, subst, arith}
use Rattle.std.proofs.Math.Nat.{mul-div_cancel_left}
use Rattle.bfs_base.specs.Lists.{times}
use Rattle.bfs_stream.specs.Sizes.{Sizes, HasSizes, Origin, first_block, array_length, table_length}
use Rattle.bfs_stream.specs.Places.{run_blocks, level_blocks, fields, places_at, frame_at}
use Rattle.bfs_stream.specs.Scans.{ends_of, last_end}
use Rattle.bfs_stream.specs.Grown.{room_at}
use Rattle.bfs_stream.specs.Told.{contents, AreTold, Stands}
use Rattle.bfs_stream.specs.declared.lookup.Ends.{Ends}
use Rattle.bfs_stream.proofs.Named.{direct_blocks, indirect_blocks, double_blocks, double_runs}
use Rattle.bfs_stream.proofs.Levels.{length-counted}
use Rattle.bfs_stream.proofs.Arrays.{length-flat}
use Rattle.bfs_stream.proofs.Placed.{AreEnds, ends_are, length-places, last_is}
use Rattle.bfs_stream.proofs.Parts.{frame_parts}

-- the level's own blocks are those between the two ranges
own_is : (d i x D I X : ℕ) → d ≡ D → ((I ≡ 0) × (i ≡ 0)) ⊎ ((0 < I) × (i ≡ D + I)) → ((X ≡ 0) × (x ≡ 0)) ⊎ ((0 < X) × (x ≡ D + I + X)) → (0 < X → 0 < I) → x - i ≡ X
own_is d i x D I X e f (inl g) order = omega (arith, g.0, g.1)
own_is d i x D I X e (inl f) (inr g) order = let some : 0 < I = order g.0 in absurd (omega (arith, some, f.0))
own_is d i x D I X e (inr f) (inr g) order = omega (arith, f.1, g.1)

whole_runs : (a x X U : ℕ) → 0 < a → x ≡ X → X ≡ a * U → x / a ≡ U
whole_runs a x X U some e f = ap (λ (n : ℕ). n / a) (e ∙ f) ∙ mul-div_cancel_left U some

module _ (o : Origin) (m : ℕ → Option (List ℕ)) (stands : Stands o m) where
  pub told_double : AreTold m (run_blocks o.sizes (fields o.sizes (contents m) o.id).double_indirect)
  told_double k has =
      let some : 0 < times k (run_blocks o.sizes (fields o.sizes (contents m) o.id).double_indirect) = has in
      let parts = frame_parts o m k in
      stands.told k (let h : 0 < times k (frame_at o.sizes (contents m) o.id) = omega (arith, some, parts) in h)

  pub told_table : AreTold m (run_blocks o.sizes (fields o.sizes (contents m) o.id).indirect)
  told_table k has =
      let some : 0 < times k (run_blocks o.sizes (fields o.sizes (contents m) o.id).indirect) = has in
      let parts = frame_parts o m k in
      stands.told k (let h : 0 < times k (frame_at o.sizes (contents m) o.id) = omega (arith, some, parts) in h)

  pub double_long : length (double_blocks o.sizes (contents m) o.id) ≡ array_length o.sizes * length (double_runs o.sizes (contents m) o.id)
  unfolding level_blocks
  double_long = length-flat (run_blocks o.sizes) (array_length o.sizes) (double_runs o.sizes (contents m) o.id) (λ i d h. length-counted (first_block o.sizes (get_or (double_runs o.sizes (contents m) o.id) i d)) (get_or (double_runs o.sizes (contents m) o.id) i d).len ∙ (stands.sound.in_double i d h).long)

  module _ (sizes : HasSizes o.sizes) (some : 0 < array_length o.sizes) (ends : Ends) (is : ends ≡ ends_of o.sizes (fields o.sizes (contents m) o.id)) where
    are : AreEnds o.sizes (contents m) o.id ends.direct ends.indirect ends.double
    are = subst (λ (x : Ends). AreEnds o.sizes (contents m) o.id x.direct x.indirect x.double) (sym is) (ends_are o.sizes (contents m) o.id sizes stands.sound)

    pub runs_used : (ends.double - ends.indirect) / array_length o.sizes ≡ length (double_runs o.sizes (contents m) o.id)
    runs_used =
        whole_runs (array_length o.sizes) (ends.double - ends.indirect) (length (double_blocks o.sizes (contents m) o.id)) (length (double_runs o.sizes (contents m) o.id)) some
        (own_is ends.direct ends.indirect ends.double (length (direct_blocks o.sizes (contents m) o.id)) (length (indirect_blocks o.sizes (contents m) o.id)) (length (double_blocks o.sizes (contents m) o.id)) are.direct are.indirect are.double are.order)
        double_long

    -- what the level can still take, by the two ranges
    pub room_is : array_length o.sizes * (table_length o.sizes * table_length o.sizes) - (ends.double - ends.indirect) ≡ room_at o.sizes (contents m) o.id
    room_is =
        ap (λ (n : ℕ). array_length o.sizes * (table_length o.sizes * table_length o.sizes) - n)
        (own_is ends.direct ends.indirect ends.double (length (direct_blocks o.sizes (contents m) o.id)) (length (indirect_blocks o.sizes (contents m) o.id)) (length (double_blocks o.sizes (contents m) o.id)) are.direct are.indirect are.double are.order)

    pub blocks_all : last_end ends ≡ length (places_at o.sizes (contents m) o.id)
    blocks_all =
        last_is ends.direct ends.indirect ends.double (length (direct_blocks o.sizes (contents m) o.id)) (length (indirect_blocks o.sizes (contents m) o.id)) (length (double_blocks o.sizes (contents m) o.id)) are.direct are.indirect are.double are.order
        ∙ sym (length-places o.sizes (contents m) o.id)

pub some_array : (s : Sizes) → 0 < array_length s
some_array s = grind arith
