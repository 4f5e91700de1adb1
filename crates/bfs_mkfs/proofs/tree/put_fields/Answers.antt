use Rattle.std.proofs.Common.{◌≡◌, ℕ, pos, ◌+◌, ◌*◌, ◌-◌, ◌∷◌, take, drop, ◌∙◌, ap, arith, rules, to_z, of_z}
use Rattle.std.specs.Prelude.{replicate, slice_set}
use Rattle.std.specs.Int.{w32, w64}
use Rattle.bfs_inode.specs.Inode.{Inode, Stream, inode_at, stream_at}
use Rattle.bfs_mkfs.specs.Laid.{zero_run}
use Rattle.bfs_mkfs.proofs.Trees.{zero_inode, zero_stream, block_bounds}
use Rattle.std.proofs.lemmas.Int.{to_z-of_z}
use Rattle.bfs_mkfs.proofs.tree.put_fields.Goals as goal

pub returns-clause-fields : goal.returns-clause-fields
returns-clause-fields c =
    let size = c.args.size in
    let bounds = block_bounds size c.requires.size in
    let mode : to_z w32 (of_z w32 c.args.tree.mode) ≡ c.args.tree.mode = search rules in
    let stamp : to_z w64 (of_z w64 c.args.tree.stamp) ≡ c.args.tree.stamp = search rules in
    let long : to_z w32 (of_z w32 c.signed.result) ≡ pos c.args.size = to_z-of_z w32 c.signed.result (search rules) ∙ c.signed.ensures in
    let range : to_z w64 (of_z w64 c.bytes_of.result) ≡ pos (c.pages-len.result * c.args.size) = to_z-of_z w64 c.bytes_of.result (search rules) ∙ c.bytes_of.ensures in
    let last = c.set_size.new.self.block.now in
    let i0 = ap inode_at c.requires.zeros ∙ zero_inode size (omega (arith, bounds)) in
    let s0 = ap stream_at c.requires.zeros ∙ zero_stream size in
    let i1 = c.set_magic1.ensures.inode ∙ ap (λ (x : Inode). let r : Inode = record x { magic1 = pos 0x3bbe0ad9 } in r) i0 in
    let s1 = c.set_magic1.ensures.stream ∙ s0 in
    let i2 = c.set_inode_num.ensures.inode ∙ ap (λ (x : Inode). let r : Inode = record x { inode_num = c.address.result } in r) i1 in
    let s2 = c.set_inode_num.ensures.stream ∙ s1 in
    let i3 = c.set_mode.ensures.inode ∙ ap (λ (x : Inode). let r : Inode = record x { mode = to_z w32 (of_z w32 c.args.tree.mode) } in r) i2 in
    let s3 = c.set_mode.ensures.stream ∙ s2 in
    let i4 = c.set_flags.ensures.inode ∙ ap (λ (x : Inode). let r : Inode = record x { flags = pos 1 } in r) i3 in
    let s4 = c.set_flags.ensures.stream ∙ s3 in
    let i5 = c.set_create_time.ensures.inode ∙ ap (λ (x : Inode). let r : Inode = record x { create_time = to_z w64 (of_z w64 c.args.tree.stamp) } in r) i4 in
    let s5 = c.set_create_time.ensures.stream ∙ s4 in
    let i6 = c.set_last_modified_time.ensures.inode ∙ ap (λ (x : Inode). let r : Inode = record x { last_modified_time = to_z w64 (of_z w64 c.args.tree.stamp) } in r) i5 in
    let s6 = c.set_last_modified_time.ensures.stream ∙ s5 in
    let i7 = c.set_parent.ensures.inode ∙ ap (λ (x : Inode). let r : Inode = record x { parent = c.address-2.result } in r) i6 in
    let s7 = c.set_parent.ensures.stream ∙ s6 in
    let i8 = c.set_inode_size.ensures.inode ∙ ap (λ (x : Inode). let r : Inode = record x { inode_size = to_z w32 (of_z w32 c.signed.result) } in r) i7 in
    let s8 = c.set_inode_size.ensures.stream ∙ s7 in
    let i9 = c.set_status_change_time.ensures.inode ∙ ap (λ (x : Inode). let r : Inode = record x { status_change_time = to_z w64 (of_z w64 c.args.tree.stamp) } in r) i8 in
    let s9 = c.set_status_change_time.ensures.stream ∙ s8 in
    let i10 = c.set_direct.ensures.inode ∙ ap (λ (x : Inode). let r : Inode = record x { stream_bytes = take 144 (drop 72 c.set_direct.new.self.block.now) } in r) i9 in
    let s10 = c.set_direct.ensures.stream ∙ ap (λ (x : Stream). let r : Stream = record x { direct = slice_set x.direct 0 (record { group = pos 0; start = c.args.tree.id + 1; len = c.pages-len.result }) } in r) s9 in
    let i11 = c.set_max_direct_range.ensures.inode ∙ ap (λ (x : Inode). let r : Inode = record x { stream_bytes = take 144 (drop 72 c.set_max_direct_range.new.self.block.now) } in r) i10 in
    let s11 = c.set_max_direct_range.ensures.stream ∙ ap (λ (x : Stream). let r : Stream = record x { max_direct_range = to_z w64 (of_z w64 c.bytes_of.result) } in r) s10 in
    let i12 = c.set_size.ensures.inode ∙ ap (λ (x : Inode). let r : Inode = record x { stream_bytes = take 144 (drop 72 c.set_size.new.self.block.now) } in r) i11 in
    let s12 = c.set_size.ensures.stream ∙ ap (λ (x : Stream). let r : Stream = record x { size = pos 2048 } in r) s11 in
    record {
      fields = i12 ∙ (λ i. record {
        magic1 = pos 0x3bbe0ad9;
        inode_num = c.address.ensures i;
        uid = pos 0;
        gid = pos 0;
        mode = mode i;
        flags = pos 1;
        create_time = stamp i;
        last_modified_time = stamp i;
        parent = c.address-2.ensures i;
        attributes = zero_run;
        type_code = 0;
        inode_size = long i;
        etc = 0;
        stream_bytes = take 144 (drop 72 last);
        status_change_time = stamp i;
        pad = replicate 8 0;
        small_data = replicate (size - 232) 0;
      });
      stream = s12 ∙ (λ i. record {
        direct = record { group = pos 0; start = c.args.tree.id + 1; len = c.pages-len.ensures.value i } ∷ replicate 11 zero_run;
        max_direct_range = (range ∙ ap (λ (n : ℕ). pos (n * size)) c.pages-len.ensures.value) i;
        indirect = zero_run;
        max_indirect_range = pos 0;
        double_indirect = zero_run;
        max_double_indirect_range = pos 0;
        size = pos 2048;
      });
    }
