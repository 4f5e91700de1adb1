use Rattle.std.proofs.Common.{◌≡◌, ◌∙◌, ◌+◌, ◌-◌, ◌*◌, ◌<◌, ℕ, List, map, take, drop, get_or, sym, ap, subst, arith, length-drop, length, min}
use Rattle.bfs_super.specs.declared.geometry.Geometry.{Geometry}
use Rattle.bfs_super.specs.Geometry.{geometry_of}
use Rattle.bfs_log.specs.Entry.{entry_bytes}
use Rattle.bfs_device.specs.Layouts.{named_in}
use Rattle.bfs_device.proofs.Entries.{number_in, cut_min}
use Rattle.bfs_device.proofs.Sizes.{sizes}
use Rattle.bfs_device.proofs.calls.make_array.Goals as goal

pub log_print-requires-clause-block : goal.log_print-requires-clause-block
log_print-requires-clause-block c = let s = sizes c.args.sup.now c.requires.valid in omega (arith, s.0, s.1, c.requires.buffer)

pub log_print-requires-clause-volume : goal.log_print-requires-clause-volume
log_print-requires-clause-volume c =
    let m = 126 * c.args.entry in
    let n = c.named_count-count.result in
    let ps = c.args.blocks.now in
    subst (λ (xs : List ℕ). (k : ℕ) → (d : ℕ) → k < length xs → get_or xs k d < c.geometry-geometry.result.blocks) (sym c.numbers-named.ensures)
    (λ k d lt. let is = number_in m n k ps d lt in
    let low = c.requires.volume (m + k) is.1 in
    let blocks = ap (λ (g : Geometry). g.blocks) c.geometry-geometry.ensures in
    omega (arith, is.0, low, blocks))

pub returns : goal.returns
returns c =
    let m = 126 * c.args.entry in
    let n = c.named_count-count.result in
    let ps = c.args.blocks.now in
    let count : n ≡ min 126 (length (drop m ps)) = c.named_count-count.ensures ∙ ap (min 126) (ap (λ (k : ℕ). k - m) c.len.ensures ∙ sym (length-drop m ps)) in
    let named : take n c.numbers-named.result ≡ named_in ps c.args.entry = c.numbers-named.ensures ∙ ap (λ (xs : List (ℕ × List ℕ)). map (λ p. p.0) xs) (ap (λ (k : ℕ). take k (drop m ps)) count ∙ cut_min 126 (drop m ps)) in
    c.log_print.ensures.bytes
    ∙ ap (λ (xs : List ℕ). entry_bytes c.geometry-geometry.result xs (length c.args.buffer.now)) named
    ∙ ap (λ (g : Geometry). entry_bytes g (named_in ps c.args.entry) (length c.args.buffer.now)) c.geometry-geometry.ensures
    ∙ ap (λ (k : ℕ). entry_bytes (geometry_of c.args.sup.now) (named_in ps c.args.entry) k) c.requires.buffer
