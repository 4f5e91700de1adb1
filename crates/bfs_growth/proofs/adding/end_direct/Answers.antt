use Rattle.std.proofs.Common.{refl, sym, arith}
use Rattle.std.proofs.lemmas.List.{set_past}
use Rattle.bfs_bytes.specs.Fields.{signed64_at, run_in}
use Rattle.bfs_inode.specs.Inode.{runs_in}
use Rattle.bfs_inode.proofs.Runs.{length-runs_in}
use Rattle.bfs_stream.specs.declared.table.TheConstants.{NO_RUN}
use Rattle.bfs_growth.proofs.adding.end_direct.Goals as goal

pub returns-else-place-lt12 : goal.returns-else-place-lt12
returns-else-place-lt12 c =
    let bytes = c.args.bytes.now in
    let size = length-runs_in 12 bytes 72 in
    let past = sym (set_past (runs_in 12 bytes 72) c.args.place NO_RUN (omega (arith, size))) in record {
      stream = λ i. record {
        direct = past i;
        max_direct_range = signed64_at bytes 168;
        indirect = run_in bytes 176;
        max_indirect_range = signed64_at bytes 184;
        double_indirect = run_in bytes 192;
        max_double_indirect_range = signed64_at bytes 200;
        size = signed64_at bytes 208;
      };
      rest = (refl, refl, (refl, refl, refl));
    }
