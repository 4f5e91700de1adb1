-- What is told since a call was told before it, and is one map.
use Rattle.std.proofs.Common.{◌≡◌, ℕ, List, Option, Some, None, Bool, true, false, refl, sym, ap, ◌∙◌}
use Rattle.std.specs.Prelude.{is_some}
use Rattle.bfs_txn.specs.Told.{TellsOver}

-- where something is told since, something was told before
pub told_back : (t0 t1 b0 b1 : Option (ℕ → Option (List ℕ))) → TellsOver t0 b0 → TellsOver t1 b1 → b1 ≡ b0 → (m : ℕ → Option (List ℕ)) → t1 ≡ Some m → (m0 : ℕ → Option (List ℕ)) × (t0 ≡ Some m0)
told_back (Some m0) t1 b0 b1 one two same m is = (m0, refl)
told_back None t1 b0 b1 one two same m is =
    let bad : false ≡ true = one ∙ sym (ap is_some same) ∙ sym two ∙ ap is_some is in absurd cc

-- one map is told
pub one_map : (t : Option (ℕ → Option (List ℕ))) (a b : ℕ → Option (List ℕ)) → t ≡ Some a → t ≡ Some b → a ≡ b
one_map t a b one two = let both : Some a ≡ Some b = sym one ∙ two in cc
