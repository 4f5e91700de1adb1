-- The bytes of an inode's block that a caller has.
use Rattle.std.proofs.Common.{◌≡◌, ◌∙◌, ℕ, List, [], true, false, Option, Some, None, unwrap_or, refl, sym, ap, subst}
use Rattle.std.specs.Prelude.{IsSome, IfSome}
use Rattle.std.specs.Borrow.{Bor}
use Rattle.bfs_txn.specs.Told.{AreOfBlock}
use Rattle.bfs_stream.specs.Sizes.{Origin}
use Rattle.bfs_stream.specs.Told.{contents}
use Rattle.bfs_stream_pages.specs.Held.{AreBytesOf, IsInodeOf}

-- what was read of a block
pub of_read : (told : Option (ℕ → Option (List ℕ))) (k : ℕ) (bytes : List ℕ) → AreOfBlock told k bytes → AreBytesOf told k bytes
of_read told k bytes of m is b there = there_is (m k) there (told_is told is of)
  where
    told_is : (t : Option (ℕ → Option (List ℕ))) → t ≡ Some m → AreOfBlock t k bytes → IfSome (m k) (λ b. bytes ≡ b)
    told_is None e h = let bad : None ≡ Some m = e in cc
    told_is (Some n) e h = let same : n ≡ m = cc in subst (λ (f : ℕ → Option (List ℕ)). IfSome (f k) (λ b. bytes ≡ b)) same h

    there_is : (o : Option (List ℕ)) → o ≡ Some b → IfSome o (λ b. bytes ≡ b) → bytes ≡ b
    there_is None e h = let bad : None ≡ Some b = e in cc
    there_is (Some a) e h = let same : a ≡ b = cc in h ∙ same

-- where they are the block's content
pub of_content : (told : Option (ℕ → Option (List ℕ))) (k : ℕ) (bytes : List ℕ) → ((m : ℕ → Option (List ℕ)) → told ≡ Some m → bytes ≡ contents m k) → AreBytesOf told k bytes
of_content told k bytes of m is b there = of m is ∙ ap (λ (x : Option (List ℕ)). unwrap_or x []) there

-- where the block is told, they are what is told of it
pub is_told : (told : Option (ℕ → Option (List ℕ))) (m : ℕ → Option (List ℕ)) (k : ℕ) (bytes : List ℕ) → told ≡ Some m → IsSome (m k) → AreBytesOf told k bytes → bytes ≡ contents m k
is_told told m k bytes is some of = here (m k) refl some
  where
    here : (o : Option (List ℕ)) → m k ≡ o → IsSome o → bytes ≡ contents m k
    here None e s = let bad : false ≡ true = s in cc
    here (Some b) e s = of m is b e ∙ sym (ap (λ (x : Option (List ℕ)). unwrap_or x []) e)

-- the bytes that are given on
pub lent : (o : Origin) (told : Option (ℕ → Option (List ℕ))) (a b : List ℕ) → b ≡ a → IsInodeOf o told a → IsInodeOf o told b
lent o told a b same is = subst (λ (x : List ℕ). IsInodeOf o told x) (sym same) is

-- the same, behind a reference
pub given : (o : Origin) (told : Option (ℕ → Option (List ℕ))) (r b : Bor (List ℕ)) → IsInodeOf o told r.now → Some r ≡ Some b → IsInodeOf o told b.now
given o told r b is e = let same : r ≡ b = cc in subst (λ (x : Bor (List ℕ)). IsInodeOf o told x.now) same is
