use Rattle.std.proofs.Common.{◌≡◌, pos, ◌-◌, ◌∙◌, ap, sym, arith, rules, to_z, of_z}
use Rattle.std.specs.Prelude.{replicate}
use Rattle.std.specs.Int.{w32, w64}
use Rattle.std.proofs.lemmas.Int.{to_z-of_z}
use Rattle.bfs_inode.specs.Inode.{Inode, inode_at, stream_at}
use Rattle.bfs_make.specs.Made.{zero_run}
use Rattle.bfs_make.proofs.Zeros.{zero_inode, zero_stream}
use Rattle.bfs_make.proofs.making.put_fields.Goals as goal

pub returns-clause-fields : goal.returns-clause-fields
returns-clause-fields c =
    let size = c.args.size in
    let n = c.args.new in
    let mode : to_z w32 (of_z w32 n.mode) ≡ n.mode = search rules in
    let flags : to_z w32 (of_z w32 n.flags) ≡ n.flags = search rules in
    let stamp : to_z w64 (of_z w64 n.stamp) ≡ n.stamp = search rules in
    let long : to_z w32 (of_z w32 c.signed.result) ≡ pos c.args.size = to_z-of_z w32 c.signed.result (search rules) ∙ c.signed.ensures in
    let i0 = ap inode_at c.requires.zeros ∙ zero_inode size (let h = c.requires.long in omega (arith, h)) in
    let s0 = ap stream_at c.requires.zeros ∙ zero_stream size in
    let i1 = c.set_magic1.ensures.inode ∙ ap (λ (x : Inode). let r : Inode = record x { magic1 = pos 0x3bbe0ad9 } in r) i0 in
    let i2 = c.set_inode_num.ensures.inode ∙ ap (λ (x : Inode). let r : Inode = record x { inode_num = n.address } in r) i1 in
    let i3 = c.set_mode.ensures.inode ∙ ap (λ (x : Inode). let r : Inode = record x { mode = to_z w32 (of_z w32 n.mode) } in r) i2 in
    let i4 = c.set_flags.ensures.inode ∙ ap (λ (x : Inode). let r : Inode = record x { flags = to_z w32 (of_z w32 n.flags) } in r) i3 in
    let i5 = c.set_create_time.ensures.inode ∙ ap (λ (x : Inode). let r : Inode = record x { create_time = to_z w64 (of_z w64 n.stamp) } in r) i4 in
    let i6 = c.set_last_modified_time.ensures.inode ∙ ap (λ (x : Inode). let r : Inode = record x { last_modified_time = to_z w64 (of_z w64 n.stamp) } in r) i5 in
    let i7 = c.set_parent.ensures.inode ∙ ap (λ (x : Inode). let r : Inode = record x { parent = n.parent } in r) i6 in
    let i8 = c.set_type_code.ensures.inode ∙ ap (λ (x : Inode). let r : Inode = record x { type_code = n.kind } in r) i7 in
    let i9 = c.set_inode_size.ensures.inode ∙ ap (λ (x : Inode). let r : Inode = record x { inode_size = to_z w32 (of_z w32 c.signed.result) } in r) i8 in
    let i10 = c.set_status_change_time.ensures.inode ∙ ap (λ (x : Inode). let r : Inode = record x { status_change_time = to_z w64 (of_z w64 n.stamp) } in r) i9 in
    let s10 =
    c.set_status_change_time.ensures.stream ∙ c.set_inode_size.ensures.stream ∙ c.set_type_code.ensures.stream ∙ c.set_parent.ensures.stream ∙ c.set_last_modified_time.ensures.stream
    ∙ c.set_create_time.ensures.stream ∙ c.set_flags.ensures.stream ∙ c.set_mode.ensures.stream ∙ c.set_inode_num.ensures.stream ∙ c.set_magic1.ensures.stream ∙ s0 in
    let bytes = ap (λ (x : Inode). x.stream_bytes) i10 in
    record {
      fields = i10 ∙ (λ i. record {
        magic1 = pos 0x3bbe0ad9;
        inode_num = n.address;
        uid = pos 0;
        gid = pos 0;
        mode = mode i;
        flags = flags i;
        create_time = stamp i;
        last_modified_time = stamp i;
        parent = n.parent;
        attributes = zero_run;
        type_code = n.kind;
        inode_size = long i;
        etc = 0;
        stream_bytes = sym bytes i;
        status_change_time = stamp i;
        pad = replicate 8 0;
        small_data = replicate (size - 232) 0;
      });
      stream = s10;
    }
