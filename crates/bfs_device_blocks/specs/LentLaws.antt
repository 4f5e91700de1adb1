-- What the law of blocks comes to for a lent device.
use Rattle.std.proofs.Common.{◌≡◌, ℕ, List, length, Option, Some, None, IfSome, refl, subst}
use Rattle.std.proofs.Props.{props}
use Rattle.std.proofs.Math.Logic.{∥∥₁_elim}
use Rattle.bfs_txn.specs.Told.{AreSized}

pub sized_of : (size : ℕ) (told : Option (ℕ → Option (List ℕ))) → ∥ AreSized size told ∥₁ → AreSized size told
sized_of size None sized = tt
sized_of size (Some m) sized = λ k. by_block k (m k) refl
  where
    by_block : (k : ℕ) (o : Option (List ℕ)) → m k ≡ o → IfSome o (λ bytes. length bytes ≡ size)
    by_block k None is = tt
    by_block k (Some x) is = ∥∥₁_elim sized (Prim.hlevel props) (λ s. subst (λ (o : Option (List ℕ)). IfSome o (λ bytes. length bytes ≡ size)) is (s k))
