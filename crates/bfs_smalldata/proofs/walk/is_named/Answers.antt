use Rattle.std.proofs.Common.{◌≡◌, ◌∙◌, ◌+◌, ◌-◌, ℕ, List, take, drop, sym, ap, arith}
use Rattle.std.specs.Str.{bytes_eq}
use Rattle.bfs_smalldata.specs.Items.{name_size}
use Rattle.bfs_smalldata.proofs.Reading.{part_dropped}
use Rattle.bfs_smalldata.proofs.walk.is_named.Goals as goal

pub returns : goal.returns
returns c =
    let area = c.args.area.now in
    let at = c.args.at in
    let part : take (name_size (drop at area)) (drop 8 (drop at area)) ≡ take c.name_size_at-size.result (drop (at + 8) area) =
    ap (λ (n : ℕ). take n (drop 8 (drop at area))) (sym c.name_size_at-size.ensures.value) ∙ part_dropped c.name_size_at-size.result 8 at area in
    let size : c.args.at + 8 + c.name_size_at-size.result - (c.args.at + 8) ≡ c.name_size_at-size.result = omega arith in
    c.eq.ensures ∙ ap (λ (n : ℕ). bytes_eq (take n (drop (at + 8) area)) c.args.name.now) size ∙ ap (λ (l : List ℕ). bytes_eq l c.args.name.now) (sym part)
