use Rattle.std.proofs.Common.{◌≡◌, ◌++◌, ◌∙◌, ℤ, length, subst, rules, arith, length-append, to_z, of_z, length-append}
use Rattle.std.specs.Int.{w32, w64}
use Rattle.bfs_bytes.specs.Fields.{Puts, signed32_bytes, signed64_bytes, run_bytes}
use Rattle.bfs_bytes.proofs.Lengths.{length-signed32_bytes, length-signed64_bytes, length-run_bytes}
use Rattle.bfs_bytes.proofs.Puts.{puts_then}
use Rattle.bfs_super.specs.Layout.{places_of}
use Rattle.bfs_super.proofs.print.put_places.Goals as goal

pub returns : goal.returns
unfolding places_of
returns c =
    let s = c.args.sup.now in
    let old = c.args.sector.now in
    let p_log_blocks : Puts 88 (run_bytes s.log_blocks) old c.put_run.new.bytes = c.put_run.ensures in
    let l_log_blocks : length (run_bytes s.log_blocks) ≡ 8 = length-run_bytes s.log_blocks in
    let a_log_blocks = run_bytes s.log_blocks in
    let q_log_blocks : Puts 88 a_log_blocks old c.put_run.new.bytes = p_log_blocks in
    let n_log_blocks : length a_log_blocks ≡ 8 = l_log_blocks in
    let z_log_start : to_z w64 (of_z w64 s.log_start) ≡ s.log_start = search rules in
    let p_log_start : Puts 96 (signed64_bytes s.log_start) c.put_run.new.bytes c.put_i64.new.bytes = subst (λ (z : ℤ). Puts 96 (signed64_bytes z) c.put_run.new.bytes c.put_i64.new.bytes) z_log_start c.put_i64.ensures in
    let l_log_start : length (signed64_bytes s.log_start) ≡ 8 = length-signed64_bytes s.log_start in
    let a_log_start = a_log_blocks ++ signed64_bytes s.log_start in
    let n_log_start : length a_log_start ≡ 16 = length-append a_log_blocks (signed64_bytes s.log_start) ∙ omega (arith, n_log_blocks, l_log_start) in
    let q_log_start : Puts 88 a_log_start old c.put_i64.new.bytes = puts_then 88 96 a_log_blocks (signed64_bytes s.log_start) old c.put_run.new.bytes c.put_i64.new.bytes (omega (arith, n_log_blocks)) (omega (arith, l_log_start, c.requires)) q_log_blocks p_log_start in
    let z_log_end : to_z w64 (of_z w64 s.log_end) ≡ s.log_end = search rules in
    let p_log_end : Puts 104 (signed64_bytes s.log_end) c.put_i64.new.bytes c.put_i64-2.new.bytes = subst (λ (z : ℤ). Puts 104 (signed64_bytes z) c.put_i64.new.bytes c.put_i64-2.new.bytes) z_log_end c.put_i64-2.ensures in
    let l_log_end : length (signed64_bytes s.log_end) ≡ 8 = length-signed64_bytes s.log_end in
    let a_log_end = a_log_start ++ signed64_bytes s.log_end in
    let n_log_end : length a_log_end ≡ 24 = length-append a_log_start (signed64_bytes s.log_end) ∙ omega (arith, n_log_start, l_log_end) in
    let q_log_end : Puts 88 a_log_end old c.put_i64-2.new.bytes = puts_then 88 104 a_log_start (signed64_bytes s.log_end) old c.put_i64.new.bytes c.put_i64-2.new.bytes (omega (arith, n_log_start)) (omega (arith, l_log_end, c.requires)) q_log_start p_log_end in
    let z_magic3 : to_z w32 (of_z w32 s.magic3) ≡ s.magic3 = search rules in
    let p_magic3 : Puts 112 (signed32_bytes s.magic3) c.put_i64-2.new.bytes c.put_i32.new.bytes = subst (λ (z : ℤ). Puts 112 (signed32_bytes z) c.put_i64-2.new.bytes c.put_i32.new.bytes) z_magic3 c.put_i32.ensures in
    let l_magic3 : length (signed32_bytes s.magic3) ≡ 4 = length-signed32_bytes s.magic3 in
    let a_magic3 = a_log_end ++ signed32_bytes s.magic3 in
    let n_magic3 : length a_magic3 ≡ 28 = length-append a_log_end (signed32_bytes s.magic3) ∙ omega (arith, n_log_end, l_magic3) in
    let q_magic3 : Puts 88 a_magic3 old c.put_i32.new.bytes = puts_then 88 112 a_log_end (signed32_bytes s.magic3) old c.put_i64-2.new.bytes c.put_i32.new.bytes (omega (arith, n_log_end)) (omega (arith, l_magic3, c.requires)) q_log_end p_magic3 in
    let p_root_dir : Puts 116 (run_bytes s.root_dir) c.put_i32.new.bytes c.put_run-2.new.bytes = c.put_run-2.ensures in
    let l_root_dir : length (run_bytes s.root_dir) ≡ 8 = length-run_bytes s.root_dir in
    let a_root_dir = a_magic3 ++ run_bytes s.root_dir in
    let n_root_dir : length a_root_dir ≡ 36 = length-append a_magic3 (run_bytes s.root_dir) ∙ omega (arith, n_magic3, l_root_dir) in
    let q_root_dir : Puts 88 a_root_dir old c.put_run-2.new.bytes = puts_then 88 116 a_magic3 (run_bytes s.root_dir) old c.put_i32.new.bytes c.put_run-2.new.bytes (omega (arith, n_magic3)) (omega (arith, l_root_dir, c.requires)) q_magic3 p_root_dir in
    let p_indices : Puts 124 (run_bytes s.indices) c.put_run-2.new.bytes c.put_run-3.new.bytes = c.put_run-3.ensures in
    let l_indices : length (run_bytes s.indices) ≡ 8 = length-run_bytes s.indices in
    let a_indices = a_root_dir ++ run_bytes s.indices in
    let n_indices : length a_indices ≡ 44 = length-append a_root_dir (run_bytes s.indices) ∙ omega (arith, n_root_dir, l_indices) in
    let q_indices : Puts 88 a_indices old c.put_run-3.new.bytes = puts_then 88 124 a_root_dir (run_bytes s.indices) old c.put_run-2.new.bytes c.put_run-3.new.bytes (omega (arith, n_root_dir)) (omega (arith, l_indices, c.requires)) q_root_dir p_indices in
    q_indices
