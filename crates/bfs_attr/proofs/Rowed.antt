-- Whether rows of a name were read, as whether the attribute directory has an attribute of the name.
use Rattle.std.proofs.Common.{◌≡◌, ◌<◌, ℕ, suc, List, [], ◌∷◌, length, true, false, Option, refl, sym, subst, arith}
use Rattle.std.specs.Prelude.{◌↔◌, IsSome, nat_lt}
use Rattle.std.specs.Option.{option_map}
use Rattle.std.proofs.lemmas.Bool.{lt-ltb, ltb-true}
use Rattle.bfs_tree.specs.Trees.{Attribute}
use Rattle.bfs_attr.specs.declared.directory.InodeRow.{InodeRow}
use Rattle.bfs_attr.proofs.Finds.{first_of}

pub some_first : (f : InodeRow → Attribute) (items : List InodeRow) (n : ℕ) (o : Option Attribute) → n ≡ length items → option_map f (first_of items) ≡ o → (nat_lt 0 n ≡ true) ↔ IsSome o
some_first f [] n o len e = (
  λ t. let low : 0 < n = ltb-true 0 n t in absurd (omega (arith, low, len)),
  λ s. let no : false ≡ true = subst (λ (x : Option Attribute). IsSome x) (sym e) s in cc,
)
some_first f (x ∷ xs) n o len e = (
  λ t. subst (λ (x : Option Attribute). IsSome x) e refl,
  λ s. let more : length (x ∷ xs) ≡ suc (length xs) = refl in lt-ltb 0 n (omega (arith, len, more)),
)
