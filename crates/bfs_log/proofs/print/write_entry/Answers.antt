use Rattle.std.proofs.Common.{◌≡◌, ◌∙◌, ◌+◌, ◌-◌, ◌*◌, ◌++◌, ℕ, ℤ, pos, List, length, take, get_or, map, replicate, sym, ap, subst, arith}
use Rattle.std.specs.List.{flat_map}
use Rattle.std.proofs.lemmas.List.{take_all}
use Rattle.bfs_bytes.specs.declared.Run.{Run}
use Rattle.bfs_bytes.specs.Fields.{Puts, signed32_bytes, run_bytes}
use Rattle.bfs_bytes.proofs.Lengths.{length-run_bytes}
use Rattle.bfs_log.specs.Entry.{run_at_block}
use Rattle.bfs_log.proofs.Bounds.{pos_read}
use Rattle.bfs_log.proofs.Printed.{head_put, more_put, runs_grow}
use Rattle.bfs_log.proofs.print.write_entry.Goals as goal

pub loop-i-init : goal.loop-i-init
loop-i-init c =
    let n = length c.args.blocks.now in
    let first : Puts 0 (signed32_bytes (pos n)) c.args.block.now c.put_i32.new.bytes =
    subst (λ (z : ℤ). Puts 0 (signed32_bytes z) c.args.block.now c.put_i32.new.bytes) (pos_read n (omega arith)) c.put_i32.ensures in
    head_put n c.args.block.now c.put_i32.new.bytes c.put_i32-2.new.bytes (omega arith) first c.put_i32-2.ensures

pub run_of-requires-clause-block : goal.run_of-requires-clause-block
run_of-requires-clause-block c = c.requires.volume c.loop-i.i 0 c.loop-i-test.true

pub loop-i-preserved : goal.loop-i-preserved
loop-i-preserved c =
    let i = c.loop-i.i in
    let g = c.args.geometry in
    let blocks = c.args.blocks.now in
    let head = signed32_bytes (pos (length blocks)) ++ signed32_bytes (pos 127) in
    let puts : Puts (8 + 8 * i) (run_bytes (run_at_block g (get_or blocks i 0))) c.loop-i.block c.put_run.new.bytes =
    subst (λ (r : Run). Puts (8 + 8 * i) (run_bytes r) c.loop-i.block c.put_run.new.bytes) c.run_of.ensures c.put_run.ensures in
    more_put (8 + 8 * i) (8 + 8 * (i + 1)) (run_bytes (run_at_block g (get_or blocks i 0))) c.loop-i.block c.put_run.new.bytes puts
    (omega (arith, length-run_bytes (run_at_block g (get_or blocks i 0)))) (omega (arith, c.loop-i.auto.block))
    ∙ ap (λ (l : List ℕ). l ++ run_bytes (run_at_block g (get_or blocks i 0))) c.loop-i.invariant
    ∙ runs_grow g blocks i head c.loop-i-test.true

pub returns : goal.returns
returns c =
    let n = length c.args.blocks.now in
    let g = c.args.geometry in
    let blocks = c.args.blocks.now in
    let head = signed32_bytes (pos n) ++ signed32_bytes (pos 127) in
    let over : c.loop-i.i ≡ n = omega arith in
    let size : length c.loop-i.block - (8 + 8 * n) ≡ length c.args.block.now - (8 + 8 * n) = ap (λ (k : ℕ). k - (8 + 8 * n)) (c.loop-i.auto.block ∙ c.put_i32-2.auto.bytes ∙ c.put_i32.auto.bytes) in
    let kept : take (8 + 8 * n) c.loop-i.block ≡ head ++ flat_map run_bytes (map (run_at_block g) blocks) =
    ap (λ (k : ℕ). take (8 + 8 * k) c.loop-i.block) (sym over) ∙ c.loop-i.invariant
    ∙ ap (λ (l : List ℕ). head ++ flat_map run_bytes (map (run_at_block g) l)) (ap (λ (k : ℕ). take k blocks) over ∙ take_all n blocks (omega arith)) in
    c.clear.ensures
    ∙ ap (λ (l : List ℕ). l ++ replicate (length c.loop-i.block - (8 + 8 * n)) 0) kept
    ∙ ap (λ (k : ℕ). head ++ flat_map run_bytes (map (run_at_block g) blocks) ++ replicate k 0) size
