-- What a walk over the pages of a tree has still to do, and that it goes over pages of the tree alone.
use Rattle.std.specs.Prelude.{◌≡◌, ◌⊎◌, ◌+◌, ℕ, ℤ, zero, suc, List, [], ◌∷◌, ◌++◌, length, take, drop, Option, Some, None}
use Rattle.std.specs.List.{AllByRecursion}
use Rattle.bfs_base.specs.Lists.{Has}
use Rattle.bfs_base.specs.declared.kind.KeyKind.{KeyKind}
use Rattle.bfs_node.specs.Page.{Row}
use Rattle.bfs_pages.specs.Answers.{IsChild}
use Rattle.bfs_pages.specs.Shapes.{Body}
use Rattle.bfs_pages.specs.Trees.{place_of, state_of}
use Rattle.bfs_values.specs.Rows.{children_at}
use Rattle.bfs_finding.specs.Walks.{inners_below, leaves_below, inners_in, leaves_in}
use Rattle.bfs_walk.specs.Walked.{IsGoodBelow}
use Rattle.bfs_walk.specs.declared.way.Frame.{Frame}

-- a page's children from a number on are good
abbrev pub IsDue : (ℕ → Option Body) → Frame → Type 0
IsDue bodies f = AllByRecursion (IsGoodBelow bodies f.deep) (drop f.next (children_at (bodies f.at)))

abbrev pub AreDue : (ℕ → Option Body) → List Frame → Type 0
AreDue bodies frames = AllByRecursion (IsDue bodies) frames

-- the child with this number of an interior page
abbrev pub child_in : List Row → ℤ → ℕ → Option ℕ
child_in [] last zero = Some (place_of last)
child_in [] last (suc i) = None
child_in (r ∷ rs) last zero = Some (place_of r.1)
child_in (r ∷ rs) last (suc i) = child_in rs last i

-- what is met at most so many pages below a page is met in the tree
pub record IsPart (kind : KeyKind) (bytes : List ℕ) (deep at : ℕ) : Type 0 where
  pub inners : (x : ℕ) → Has (inners_below (state_of kind bytes).bodies deep at) x → Has (inners_in kind bytes) x
  pub leaves : (x : ℕ) → Has (leaves_below (state_of kind bytes).bodies deep at) x → Has (leaves_in kind bytes) x

-- the pages on the way are of the tree
abbrev pub ArePart : KeyKind → List ℕ → List Frame → Type 0
ArePart kind bytes frames = AllByRecursion (λ f. IsPart kind bytes (suc f.deep) f.at) frames

-- they lie in the stream
abbrev pub AreChildren : ℕ → List Frame → Type 0
AreChildren size frames = AllByRecursion (λ f. IsChild size f.at) frames

-- A step gets on: the last page on the way goes to its next child, perhaps with that child behind it on the way, or is on the way
-- no more; the pages before it stay.
pub record HasGoneOn (old new : List Frame) : Type 0 where
  pub rest : List Frame
  pub last : Frame
  pub was : old ≡ rest ++ last ∷ []
  pub now : (new ≡ rest) ⊎ (take (length rest + 1) new ≡ rest ++ (record last { next = last.next + 1 }) ∷ [])
