-- Places in a stream that has a page more.
use Rattle.std.proofs.Common.{◌≡◌, ◌+◌, ℕ, true, sym, subst, arith, inl, inr}
use Rattle.bfs_pages.specs.Answers.{IsChild, IsLink}
use Rattle.bfs_pages.specs.Trees.{is_place}
use Rattle.bfs_pages.specs.Writes.{IsGrown}

place-more : (n x : ℕ) → is_place n x ≡ true → is_place (n + 1024) x ≡ true
place-more n x h = grind (arith, h)

pub grown-child : (n m x : ℕ) → IsGrown n m → IsChild n x → IsChild m x
grown-child n m x (inl e) h = subst (λ z. IsChild z x) (sym e) h
grown-child n m x (inr e) h = (h.0, subst (λ z. is_place z x ≡ true) (sym e) (place-more n x h.1))

pub grown-link : (n m x : ℕ) → IsGrown n m → IsLink n x → IsLink m x
grown-link n m x g (inl e) = inl e
grown-link n m x g (inr h) = inr (grown-child n m x g h)
