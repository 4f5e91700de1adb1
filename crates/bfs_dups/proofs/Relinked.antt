-- Pages of chains that have changed, and the row's link with them.
use Rattle.std.proofs.Common.{◌≡◌, ◌≤◌, ◌<◌, ◌%◌, ℕ, List, ◌++◌, length, ap, sym, subst, arith}
use Rattle.bfs_base.specs.Lists.{times, Has}
use Rattle.bfs_base.specs.declared.kind.KeyKind.{KeyKind}
use Rattle.bfs_node.specs.Page.{Row}
use Rattle.bfs_pages.specs.Shapes.{Shape}
use Rattle.bfs_pages.specs.Trees.{page_in, IsTree}
use Rattle.bfs_pages.proofs.Splice.{times-append}
use Rattle.bfs_values.specs.declared.link.Link.{Link}
use Rattle.bfs_values.specs.declared.link.Link.TheVariants.{Fragment}
use Rattle.bfs_values.specs.Values.{IsFragment, fragment_count, fragment_numbers, HasNumbers}
use Rattle.bfs_values.specs.Reached.{times_named}
use Rattle.bfs_values.specs.Stored.{SameNumbers}
use Rattle.bfs_values.proofs.Opened.{own, own_pages, pages_of, Open, Keeps, keep-all, rows-kept}

-- the link names no fragment
abbrev pub IsBare : Link → Type 0
IsBare l = (at f : ℕ) → own at f l ≡ 0

-- pages of chains have changed, and the row's link with them
pub relinked : (kind : KeyKind) (b c : List ℕ) (t : Shape) (rest : List Row) (l m : Link) (o : Open kind b t rest l) (gs : List ℕ) → length b % 1024 ≡ 0 → length c % 1024 ≡ 0 → length b ≤ length c
    → ((x : ℕ) → 1 ≤ times x (o.fragments ++ pages_of b rest) → page_in c x ≡ page_in b x) → IsTree kind c (own_pages c m ++ (o.fragments ++ pages_of b rest)) t gs → HasNumbers c m → IsBare l → IsBare m
    → Open kind c t rest m × SameNumbers b c rest
relinked kind b c t rest l m o gs wb wc le same now mine bare bare_new =
    let kept = rows-kept b c rest wb wc le (keep-all b c rest (λ x h. same x (omega (arith, h, times-append x o.fragments (pages_of b rest)))) keeps) o.mean in (
      record {
        fragments = o.fragments;
        free = gs;
        tree = subst (λ z. IsTree kind c (own_pages c m ++ (o.fragments ++ z)) t gs) (sym kept.2) now;
        mean = kept.0;
        mine = mine;
        named = λ at h. let w = o.named at h in (w.0, omega (arith, w.1, bare at w.0));
        there = λ at f h. o.there at f (omega (arith, h, bare_new at f));
        each = λ at f h s k. let w = o.each at f h s (subst (λ z. 0 < fragment_count z f) (same at (omega (arith, h, times-append at o.fragments (pages_of b rest)))) k) in omega (arith, w, bare at f, bare_new at f);
      },
      kept.1,
    )
  where
    keeps : (q j : ℕ) → 0 < times_named q j rest → Keeps b c (Fragment q j)
    keeps q j h =
        let has : Has o.fragments q = o.there q j (omega (arith, h)) in
        let n : page_in c q ≡ page_in b q = same q (omega (arith, has, times-append q o.fragments (pages_of b rest))) in
        (λ g. subst (λ z. IsFragment z j) (sym n) g, λ g. ap (λ z. fragment_numbers z j) n)
