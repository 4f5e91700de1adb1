use Rattle.std.proofs.Common.{◌≡◌, rules, to_z, of_z, take, drop}
use Rattle.std.specs.Int.{w32, w64}
use Rattle.bfs_bytes.specs.Fields.{signed32_at, signed64_at, unsigned_at, run_in}
use Rattle.bfs_super.proofs.parse.fields.Goals as goal

pub returns : goal.returns
returns c =
    let e32 : to_z w32 (of_z w32 c.i32_at.result) ≡ signed32_at c.args.sector.now 32 = search rules in
    let e36 : to_z w32 (of_z w32 c.i32_at-2.result) ≡ signed32_at c.args.sector.now 36 = search rules in
    let e64 : to_z w32 (of_z w32 c.i32_at-3.result) ≡ signed32_at c.args.sector.now 64 = search rules in
    let e68 : to_z w32 (of_z w32 c.i32_at-4.result) ≡ signed32_at c.args.sector.now 68 = search rules in
    let e72 : to_z w32 (of_z w32 c.i32_at-5.result) ≡ signed32_at c.args.sector.now 72 = search rules in
    let e76 : to_z w32 (of_z w32 c.i32_at-6.result) ≡ signed32_at c.args.sector.now 76 = search rules in
    let e80 : to_z w32 (of_z w32 c.i32_at-7.result) ≡ signed32_at c.args.sector.now 80 = search rules in
    let e84 : to_z w32 (of_z w32 c.i32_at-8.result) ≡ signed32_at c.args.sector.now 84 = search rules in
    let e112 : to_z w32 (of_z w32 c.i32_at-9.result) ≡ signed32_at c.args.sector.now 112 = search rules in
    let e48 : to_z w64 (of_z w64 c.i64_at.result) ≡ signed64_at c.args.sector.now 48 = search rules in
    let e56 : to_z w64 (of_z w64 c.i64_at-2.result) ≡ signed64_at c.args.sector.now 56 = search rules in
    let e96 : to_z w64 (of_z w64 c.i64_at-3.result) ≡ signed64_at c.args.sector.now 96 = search rules in
    let e104 : to_z w64 (of_z w64 c.i64_at-4.result) ≡ signed64_at c.args.sector.now 104 = search rules in
    let e40 : c.u32_at.result ≡ unsigned_at 4 c.args.sector.now 40 = c.u32_at.ensures in
    let e44 : c.u32_at-2.result ≡ unsigned_at 4 c.args.sector.now 44 = c.u32_at-2.ensures in
    let e88 : c.run_at.result ≡ run_in c.args.sector.now 88 = c.run_at.ensures in
    let e116 : c.run_at-2.result ≡ run_in c.args.sector.now 116 = c.run_at-2.ensures in
    let e124 : c.run_at-3.result ≡ run_in c.args.sector.now 124 = c.run_at-3.ensures in
    let e0 : c.copy_from_slice.new.self ≡ take 32 c.args.sector.now = search rules in
    let e132 : c.copy_from_slice-2.new.self ≡ take 380 (drop 132 c.args.sector.now) = c.copy_from_slice-2.ensures.after in
    cc
